-- The words of a block that are left once some are given, and the bytes that they spell. Assumes nothing.
use Rattle.std.proofs.Common.{◌≡◌, ℕ, ◌+◌, ◌-◌, ◌*◌, ◌^◌, ◌<◌, List, [], ◌∷◌, ◌++◌, get_or, take, drop, Some, None, Option, sym, ap, subst, ◌∙◌, append_assoc, length, arith}
use Rattle.std.specs.Io.KnownBytes.{Consumes, prepend_known}
use Rattle.std.specs.List.{AllByRecursion}
use Rattle.std.specs.declared.io.Read.{Ghosts as Input}
use Rattle.std.proofs.lemmas.List.{drop-drop, take_rest}
use Rattle.words.specs.Bytes.{left_over, spelled, word_bytes, words_of}
use Rattle.words.specs.Windows.{Shown}
use Rattle.words.specs.declared.window.Window.{Window}
use Rattle.words.proofs.Numbering.{none_left, shown}
use Rattle.words.proofs.Spelling.{spelled_words}
use Rattle.input.specs.Blocks.{block_of, unread}
use Rattle.input.specs.FileWords.{FirstGiven, FirstWord, to_come}
use Rattle.input.specs.declared.file_words.FileWords.{FileWords}

words_left : (bytes : List ℕ) (word : ℕ) (words : List ℕ) → words_of bytes ≡ word ∷ words → words_of (drop word_bytes bytes) ≡ words
words_left [] word words e = cc
words_left (a ∷ []) word words e = cc
words_left (a ∷ b ∷ []) word words e = cc
words_left (a ∷ b ∷ c ∷ []) word words e = cc
words_left (a ∷ b ∷ c ∷ d ∷ bytes) word words e = cc

-- the first word spells the first bytes
front_spelled : (bytes : List ℕ) (word : ℕ) (words : List ℕ) →
    AllByRecursion (λ b. b < 2 ^ 8) bytes →
    words_of bytes ≡ word ∷ words →
    bytes ≡ spelled word ++ drop word_bytes bytes
front_spelled [] word words fit e = cc
front_spelled (a ∷ []) word words fit e = cc
front_spelled (a ∷ b ∷ []) word words fit e = cc
front_spelled (a ∷ b ∷ c ∷ []) word words fit e = cc
front_spelled (a ∷ b ∷ c ∷ d ∷ bytes) word words fit e =
    let n : ℕ = a * 2 ^ 24 + b * 2 ^ 16 + c * 2 ^ 8 + d in
    let first : spelled n ≡ a ∷ b ∷ c ∷ d ∷ [] =
    spelled_words (a ∷ b ∷ c ∷ d ∷ []) (fit.0, (fit.1.0, (fit.1.1.0, (fit.1.1.1.0, tt)))) in
    ap (λ bs. bs ++ bytes) (sym first) ∙ ap (λ ws. spelled (get_or ws 0 word) ++ bytes) e

-- bytes at the front are the next
pub front_next : (known : Option (List ℕ)) (front rest : List ℕ) → Consumes (prepend_known (front ++ rest) known) (prepend_known rest known) front
front_next None front rest = tt
front_next (Some bytes) front rest = append_assoc front rest bytes

-- a word of bytes has 32 bits
front_fits : (bytes : List ℕ) (word : ℕ) (words : List ℕ) →
    AllByRecursion (λ b. b < 2 ^ 8) bytes →
    words_of bytes ≡ word ∷ words →
    word < 2 ^ 32
front_fits [] word words fit e = cc
front_fits (a ∷ []) word words fit e = cc
front_fits (a ∷ b ∷ []) word words fit e = cc
front_fits (a ∷ b ∷ c ∷ []) word words fit e = cc
front_fits (a ∷ b ∷ c ∷ d ∷ bytes) word words fit e =
    omega (arith, ap (λ ws. get_or ws 0 word) e, fit.0, fit.1.0, fit.1.1.0, fit.1.1.1.0)

-- what a window over bytes shows is their first word
pub shows_first : (bytes : List ℕ) (number : ℕ) (window after : Window) (result : Option (ℕ × ℕ)) →
    window.rest.now ≡ bytes →
    window.number ≡ number →
    AllByRecursion (λ b. b < 2 ^ 8) bytes →
    Shown window result after →
    FirstWord bytes number result
shows_first bytes number window after None same first fit (none, stays) =
    ap words_of (sym same) ∙ none_left window.number (words_of window.rest.now) none
shows_first bytes number window after (Some entry) same first fit advanced =
    let s = shown window.number after.number (words_of window.rest.now) (words_of after.rest.now) entry.0 entry.1 advanced.shows in
    let front : words_of bytes ≡ entry.1 ∷ words_of after.rest.now = ap words_of (sym same) ∙ s.0 in (
      s.1 ∙ first,
      front_spelled bytes entry.1 (words_of after.rest.now) fit front,
      front ∙ ap (λ words. entry.1 ∷ words) (sym (words_left bytes entry.1 (words_of after.rest.now) front)),
      front_fits bytes entry.1 (words_of after.rest.now) fit front,
    )

module _ {R : Type 0} {input : Input R} (file : FileWords R input) (entry : ℕ × ℕ) (block bytes : List ℕ)
    (whole : block ≡ block_of file.blocks) (rest : bytes ≡ take (length block - file.given) (drop file.given block))
    (next : FirstWord bytes file.number (Some entry)) where
  abbrev left : List ℕ
  left = drop file.given (block_of file.blocks)

  first : FirstWord left file.number (Some entry)
  first =
      subst (λ bs. FirstWord bs file.number (Some entry)) (rest ∙ take_rest block file.given ∙ ap (drop file.given) whole) next

  -- what is left is whole words and the same bytes left over
  pub still_whole : left_over (drop (file.given + word_bytes) (block_of file.blocks)) ≡ left_over (block_of file.blocks)
  still_whole =
      ap left_over (sym (drop-drop word_bytes file.given (block_of file.blocks))) ∙ sym (ap left_over first.1) ∙ file.whole

  -- one word more is given
  pub gives : (then : FileWords R input) →
      then.blocks ≡ file.blocks →
      then.given ≡ file.given + word_bytes →
      then.number ≡ file.number + 1 →
      FirstGiven file (Some entry) then
  gives then same given counts =
      let on : drop then.given (block_of then.blocks) ≡ drop word_bytes left =
      ap (λ k. drop k (block_of then.blocks)) given ∙ ap (λ b. drop (file.given + word_bytes) (block_of b)) same
      ∙ sym (drop-drop word_bytes file.given (block_of file.blocks)) in
      let known : Option (List ℕ) = unread file.blocks in (
        record { number = first.0; counts = counts; word = first.2 ∙ ap (λ bs. entry.1 ∷ words_of bs) (sym on) },
        subst (λ bs. Consumes (prepend_known bs known) (to_come then) (spelled entry.1)) (sym first.1)
            (subst (λ o. Consumes (prepend_known (spelled entry.1 ++ drop word_bytes left) known) o (spelled entry.1))
            (ap (λ bs. prepend_known bs known) (sym on) ∙ ap (λ b. prepend_known (drop then.given (block_of then.blocks)) (unread b)) (sym same))
            (front_next known (spelled entry.1) (drop word_bytes left))),
        first.3,
      )
