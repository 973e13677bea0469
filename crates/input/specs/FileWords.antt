-- The words of a file as they are read, one by one. Where the bytes of an input are known, the words spell these bytes.
use Rattle.std.specs.Prelude.{◌≡◌, ◌≢◌, ℕ, ◌+◌, ◌%◌, ◌^◌, ◌<◌, ◌⊎◌, List, [], ◌∷◌, ◌++◌, length, drop, Some, None, Ok, Err, Option, Result}
use Rattle.std.specs.Option.{ForSome}
use Rattle.std.specs.Io.KnownBytes.{Consumes, prepend_known}
use Rattle.std.specs.declared.io.Read.{Ghosts as Input}
use Rattle.words.specs.Bytes.{last_number, spelled, word_bytes, words_of}
use Rattle.input.specs.Blocks.{Begun, block_of, unread}
use Rattle.input.specs.declared.blocks.Progress.TheVariants.{Reading, AtEnd, Failed}
use Rattle.input.specs.declared.file_words.FileWords.{FileWords}

-- The first word of these bytes with its number, which its first bytes spell; or they have none. The promise of a step of the
-- code's own.
abbrev pub FirstWord : List ℕ → ℕ → Option (ℕ × ℕ) → Type 0
FirstWord bytes number (Some entry) =
    (entry.0 ≡ number) × (bytes ≡ spelled entry.1 ++ drop word_bytes bytes) × (words_of bytes ≡ entry.1 ∷ words_of (drop word_bytes bytes))
    × (entry.1 < 2 ^ 32)
FirstWord bytes number None = words_of bytes ≡ []

module _ {R : Type 0} {input : Input R} where
  -- the words of the block that have yet to be given
  abbrev pub to_give : FileWords R input → List ℕ
  to_give file = words_of (drop file.given (block_of file.blocks))

  -- the bytes that have yet to be given, where they are known: the rest of the block, and then what is still to be read
  abbrev pub to_come : FileWords R input → Option (List ℕ)
  to_come file = prepend_known (drop file.given (block_of file.blocks)) (unread file.blocks)

  -- how many bytes at the end of the block make no whole word
  abbrev pub left_over : FileWords R input → ℕ
  left_over file = length (block_of file.blocks) % word_bytes

  -- nothing was read yet, and no word was given
  abbrev pub Unread : FileWords R input → Type 0
  Unread file = Begun file.blocks × (file.number ≡ 0) × (to_give file ≡ [])

  -- the first of these words is given with its number, and the others are left
  pub record Gives (words : List ℕ) (before : FileWords R input) (entry : ℕ × ℕ) (after : FileWords R input) : Type 0 where
    pub number : entry.0 ≡ before.number
    pub counts : after.number ≡ before.number + 1
    pub word : words ≡ entry.1 ∷ to_give after

  -- the first word of the block is given, or there is none and all stays
  abbrev pub FirstGiven : FileWords R input → Option (ℕ × ℕ) → FileWords R input → Type 0
  FirstGiven before (Some entry) after =
      Gives (to_give before) before entry after × Consumes (to_come before) (to_come after) (spelled entry.1) × (entry.1 < 2 ^ 32)
  FirstGiven before None after = (to_give before ≡ []) × (after ≡ before)

  -- The word after the last one is given: the block's next, or, where the block is done, the first of the block after it. Its
  -- bytes are the next of the input.
  pub record WordGiven (before : FileWords R input) (entry : ℕ × ℕ) (after : FileWords R input) : Type 0 where
    pub next :
        Gives (to_give before) before entry after
        ⊎ ((to_give before ≡ []) × (before.blocks.progress ≡ Reading) × Gives (words_of (block_of after.blocks)) before entry after)
    pub bytes : Consumes (to_come before) (to_come after) (spelled entry.1)
    pub fits : entry.1 < 2 ^ 32

  -- the end: nothing is left to give, no block is left to read, and the bytes still to come are those left over
  pub record Ended (before after : FileWords R input) : Type 0 where
    pub done : to_give before ≡ []
    pub empty : to_give after ≡ []
    pub unfailed : before.blocks.progress ≢ Failed
    pub last : after.blocks.progress ≡ AtEnd
    pub stays : after.number ≡ before.number
    pub rest : ForSome (to_come before) (λ bytes. length bytes ≡ left_over after)

  -- The next word cannot be numbered, and all stays; or the block is done, and the input fails or has failed before: from then
  -- on no word is given.
  abbrev pub NoneGiven : (before after : FileWords R input) → Type 0
  NoneGiven before after =
      ((before.number ≡ last_number) × (after ≡ before))
      ⊎ ((to_give before ≡ []) × (before.blocks.progress ≢ AtEnd) × (to_give after ≡ []) × (after.blocks.progress ≡ Failed)
      × (after.number ≡ before.number))

  -- the next word, or the end; an input that fails gives none
  abbrev pub NextGiven : {E : Type 0} → FileWords R input → Result (Option (ℕ × ℕ)) E → FileWords R input → Type 0
  NextGiven before (Ok (Some entry)) after = WordGiven before entry after
  NextGiven before (Ok None) after = Ended before after
  NextGiven before (Err e) after = NoneGiven before after

  -- words that are given one after the other
  abbrev pub Gave : FileWords R input → List ℕ → FileWords R input → Type 0
  Gave before [] after = before ≡ after
  Gave before (word ∷ words) after =
      (middle : FileWords R input) × WordGiven before (before.number, word) middle × Gave middle words after
