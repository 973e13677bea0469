-- What the reading of a whole file tells of its faults. Assumes nothing.
use Rattle.std.specs.Prelude.{◌≡◌, ℕ, true, List, length, is_some, Some, None, Option, Result, MatchResult}
use Rattle.words.specs.Bytes.{words_of, left_over}
use Rattle.words.specs.declared.word.Word.{Word}
use Rattle.monthfile.specs.declared.fault.ReadFault.{ReadFault}
use Rattle.monthfile.specs.declared.telling.Told.{Told}
use Rattle.monthfile.specs.Faults.{told}
use Rattle.monthfile.specs.Judging.{beginning}
use Rattle.monthfile.specs.Reading.{AllDecoded, end_fault, reading}

-- one fault, or else the other
abbrev pub or_else : Option Told → Option Told → Option Told
or_else None second = second
or_else (Some first) second = Some first

-- The first fault of a file, if it has one: that of its words in their order, else that of its end.
abbrev pub file_fault : List (Option Word) → ℕ → Option Told
file_fault words over =
    or_else (reading beginning 0 words).fault (end_fault (reading beginning 0 words).standing (length words) over)

-- What an answer to the reading of a file tells of the words that its bytes make: where the file is taken it has no fault, and a
-- fault that is told is its first. Want of memory tells none.
pub record TellsFirst {X : Type 0} (bytes : List ℕ) (r : Result X ReadFault) : Type 0 where
  pub words : List (Option Word)
  pub decoded : AllDecoded (words_of bytes) words
  pub tells :
      MatchResult r (λ _. file_fault words (length (left_over bytes)) ≡ None)
      (λ fault. is_some (told fault) ≡ true → told fault ≡ file_fault words (length (left_over bytes)))
