-- A file as it is read block by block. Where the bytes of an input are known, the blocks are these bytes.
use Rattle.std.specs.Prelude.{◌≡◌, ◌≢◌, ℕ, ◌/◌, Bool, true, false, List, [], length, Ok, Err, vec_items, Option, Result, ◌==◌, cond}
use Rattle.std.specs.Option.{ForSome}
use Rattle.std.specs.Io.KnownBytes.{Consumes}
use Rattle.std.specs.declared.io.Read.{Ghosts as Input}
use Rattle.words.specs.Bytes.{word_bytes, number_at}
use Rattle.input.specs.Limits.{block_bytes}
use Rattle.input.specs.declared.blocks.Blocks.{Blocks}
use Rattle.input.specs.declared.blocks.Progress.TheVariants.{Reading, AtEnd, Failed}

module _ {R : Type 0} {input : Input R} where
  -- the bytes of the block that was read last
  abbrev pub block_of : Blocks R input → List ℕ
  block_of blocks = vec_items blocks.bytes

  -- how many whole words have been read
  abbrev pub words_read : Blocks R input → ℕ
  words_read blocks = number_at blocks.first (length (block_of blocks) / word_bytes)

  -- the bytes that are still to be read, where they are known
  abbrev pub unread : Blocks R input → Option (List ℕ)
  unread blocks = input.remaining blocks.input

  -- no block was read yet, and there is one to read
  abbrev pub Begun : Blocks R input → Type 0
  Begun blocks = (blocks.first ≡ 0) × (block_of blocks ≡ []) × (blocks.progress ≡ Reading)

  -- The next block is the next bytes of the input, and begins with the word after those that were read. One that is not full
  -- is the last: the input is at its end.
  pub record BlockRead (before after : Blocks R input) : Type 0 where
    pub reads : before.progress ≡ Reading
    pub first : after.first ≡ words_read before
    pub bytes : Consumes (unread before) (unread after) (block_of after)
    pub then : after.progress ≡ cond (length (block_of after) == block_bytes) Reading AtEnd
    pub last : after.progress ≡ AtEnd → ForSome (unread after) (λ rest. rest ≡ [])

  -- the input is at its end, and was so before
  pub record NoneLeft (before after : Blocks R input) : Type 0 where
    pub done : before.progress ≡ AtEnd
    pub end : ForSome (unread before) (λ rest. rest ≡ [])
    pub stays : after ≡ before

  -- the input fails, or has failed before; from then on no block is read
  pub record Broken (before after : Blocks R input) : Type 0 where
    pub unended : before.progress ≢ AtEnd
    pub counts : words_read after ≡ words_read before
    pub empty : block_of after ≡ []
    pub then : after.progress ≡ Failed

  abbrev pub Advanced : {E : Type 0} → Blocks R input → Result Bool E → Blocks R input → Type 0
  Advanced before (Ok true) after = BlockRead before after
  Advanced before (Ok false) after = NoneLeft before after
  Advanced before (Err e) after = Broken before after
