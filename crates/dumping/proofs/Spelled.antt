-- The bytes of a file by the words that were given of it. Assumes nothing.
use Rattle.std.proofs.Common.{◌≡◌, ℕ, ◌%◌, ◌^◌, ◌<◌, List, [], ◌∷◌, ◌++◌, length, Some, None, Option, sym, refl, ap, ◌∙◌, arith}
use Rattle.std.specs.Io.KnownBytes.{Consumes}
use Rattle.std.specs.List.{flat_map, AllByRecursion}
use Rattle.std.specs.Option.{ForSome}
use Rattle.std.proofs.lemmas.Option.{none-some, same_Some}
use Rattle.input.proofs.Runs.{consumed}
use Rattle.words.specs.Bytes.{left_over, spelled, words_of}
use Rattle.words.proofs.Spelling.{left_over-append, words_append, words_spelled}

-- bytes that were consumed, and the others of all; none where they are not known
pub others_known : (known left : Option (List ℕ)) (bytes : List ℕ) →
    Consumes known left bytes →
    (rest : List ℕ) × ForSome known (λ all. all ≡ bytes ++ rest)
others_known None left bytes read = ([], λ all is. absurd (none-some all is))
others_known (Some xs) left bytes read =
    let c = consumed (Some xs) left bytes xs read refl in
    (c.0, λ all is. sym (same_Some xs all is) ∙ c.2)

-- the same of others whose count is known
pub last_known : (known left : Option (List ℕ)) (bytes some : List ℕ) →
    Consumes known left bytes →
    ForSome left (λ rest. length rest ≡ length some) →
    (rest : List ℕ) × (length rest ≡ length some) × ForSome known (λ all. all ≡ bytes ++ rest)
last_known None left bytes some read counted = (some, refl, λ all is. absurd (none-some all is))
last_known (Some xs) left bytes some read counted =
    let c = consumed (Some xs) left bytes xs read refl in
    (c.0, counted c.0 c.1, λ all is. sym (same_Some xs all is) ∙ c.2)

whole_words : (words : List ℕ) → length (flat_map spelled words) % 4 ≡ 0
whole_words [] = refl
whole_words (word ∷ words) = omega (arith, whole_words words)

-- words that are spelled first are the first
pub words_first : (words rest : List ℕ) → AllByRecursion (λ w. w < 2 ^ 32) words → words_of (flat_map spelled words ++ rest) ≡ words ++ words_of rest
words_first words rest fit =
    words_append (flat_map spelled words) rest (whole_words words) ∙ ap (λ ws. ws ++ words_of rest) (words_spelled words fit)

pub over_last : (words rest : List ℕ) → left_over (flat_map spelled words ++ rest) ≡ left_over rest
over_last words rest = left_over-append (flat_map spelled words) rest (whole_words words)
