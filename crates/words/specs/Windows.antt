-- What a window over a block shows. Assumes nothing.
use Rattle.std.specs.Prelude.{◌≡◌, ℕ, ◌+◌, ◌/◌, ◌%◌, List, [], ◌∷◌, ◌++◌, length, Some, None, Option}
use Rattle.words.specs.declared.window.Window.{Window}
use Rattle.words.specs.Bytes.{word_bytes, words_of, left_over, numbered, number_at}

-- the words that a window has yet to show, with their numbers
abbrev pub entries : Window → List (ℕ × ℕ)
entries window = numbered window.number (words_of window.rest.now)

-- A window that showed a word: the others are left, the next has the next number, and the bytes of the word are gone.
pub record Advanced (before : Window) (entry : ℕ × ℕ) (after : Window) : Type 0 where
  pub shows : entries before ≡ entry ∷ entries after
  pub counts : after.number ≡ number_at before.number 1
  pub keeps : left_over after.rest.now ≡ left_over before.rest.now
  pub shortens : length after.rest.now + word_bytes ≡ length before.rest.now

-- One step of a window: it shows its first word, or at the end nothing, and then stays as it is.
abbrev pub Shown : Window → Option (ℕ × ℕ) → Window → Type 0
Shown before None after = (entries before ≡ []) × (after ≡ before)
Shown before (Some entry) after = Advanced before entry after

-- A window over a block shows what the whole file has there: whatever whole words stand before the block, where the window's
-- first number is their count, the file's words are those and then the window's, and it leaves over the same bytes.
abbrev pub InFile : List ℕ → ℕ → Window → Type 0
InFile bytes first window =
    (before : List ℕ) → length before % word_bytes ≡ 0 → length before / word_bytes ≡ first
    → (numbered 0 (words_of (before ++ bytes)) ≡ numbered 0 (words_of before) ++ entries window)
    × (left_over (before ++ bytes) ≡ left_over window.rest.now)
