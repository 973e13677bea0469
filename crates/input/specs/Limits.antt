-- The length of a block.
use Rattle.std.specs.Prelude.{ℕ, ◌*◌}
use Rattle.words.specs.Bytes.{word_bytes}

-- how many bytes a full block has
abbrev pub block_bytes : ℕ
block_bytes = 16384 * word_bytes
