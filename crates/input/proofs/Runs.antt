-- Words that a file gives one after the other. Assumes nothing.
use Rattle.std.proofs.Common.{◌≡◌, ℕ, ◌+◌, ◌^◌, ◌<◌, List, [], ◌∷◌, ◌++◌, length, Some, None, Option, sym, refl, ap, ◌∙◌, subst, append-nil, ⊎_elim, arith}
use Rattle.std.specs.Io.KnownBytes.{Consumes}
use Rattle.std.specs.List.{flat_map, AllByRecursion}
use Rattle.std.specs.Option.{ForSome}
use Rattle.std.specs.declared.io.Read.{Ghosts as Input}
use Rattle.std.proofs.KnownBytes.{Consumes-nil, Consumes-trans}
use Rattle.std.proofs.lemmas.List.{nil_from_length}
use Rattle.std.proofs.lemmas.Option.{none-some, same_Some}
use Rattle.words.specs.Bytes.{spelled}
use Rattle.input.specs.FileWords.{Ended, Gave, NoneGiven, WordGiven, left_over, to_come}
use Rattle.input.specs.declared.file_words.FileWords.{FileWords}

counts : {R : Type 0} {input : Input R} (before after : FileWords R input) (entry : ℕ × ℕ) → WordGiven before entry after → after.number ≡ before.number + 1
counts before after entry given = ⊎_elim (λ g. g.counts) (λ g. g.2.counts) given.next

-- the number of the word is the count of those before it
pub numbered : {R : Type 0} {input : Input R} (before after : FileWords R input) (entry : ℕ × ℕ) → WordGiven before entry after → entry.0 ≡ before.number
numbered before after entry given = ⊎_elim (λ g. g.number) (λ g. g.2.number) given.next

pub gave_count : {R : Type 0} {input : Input R} (words : List ℕ) (before after : FileWords R input) →
    Gave before words after →
    after.number ≡ before.number + length words
gave_count [] before after same = omega (arith, ap (λ (f : FileWords _ _). f.number) same)
gave_count (word ∷ words) before after (middle, given, rest) =
    omega (arith, counts before middle (before.number, word) given, gave_count words middle after rest)

pub gave-append : {R : Type 0} {input : Input R} (words more : List ℕ) (before middle after : FileWords R input) →
    Gave before words middle →
    Gave middle more after →
    Gave before (words ++ more) after
gave-append [] more before middle after same later = subst (λ f. Gave f more after) (sym same) later
gave-append (word ∷ words) more before middle after (next, given, rest) later =
    (next, given, gave-append words more next middle after rest later)

-- one word more
pub gave-push : {R : Type 0} {input : Input R} (words : List ℕ) (before middle after : FileWords R input) (entry : ℕ × ℕ) →
    Gave before words middle →
    WordGiven middle entry after →
    Gave before (words ++ entry.1 ∷ []) after
gave-push words before middle after entry gave given =
    gave-append words (entry.1 ∷ []) before middle after gave
    (after, subst (λ n. WordGiven middle (n, entry.1) after) (numbered middle after entry given) given, refl)

-- the bytes of words that were given are the next of the input
pub gave_bytes : {R : Type 0} {input : Input R} (words : List ℕ) (before after : FileWords R input) →
    Gave before words after →
    Consumes (to_come before) (to_come after) (flat_map spelled words)
gave_bytes [] before after same = subst (λ f. Consumes (to_come before) (to_come f) []) same (Consumes-nil (to_come before))
gave_bytes (word ∷ words) before after (middle, given, rest) =
    Consumes-trans (to_come before) (to_come middle) (to_come after) (spelled word) (flat_map spelled words)
    given.bytes (gave_bytes words middle after rest)

pub gave_fits : {R : Type 0} {input : Input R} (words : List ℕ) (before after : FileWords R input) →
    Gave before words after →
    AllByRecursion (λ w. w < 2 ^ 32) words
gave_fits [] before after same = tt
gave_fits (word ∷ words) before after (middle, given, rest) = (given.fits, gave_fits words middle after rest)

-- bytes that are consumed: what is left of known ones
pub consumed : (before after : Option (List ℕ)) (bytes all : List ℕ) →
    Consumes before after bytes →
    before ≡ Some all →
    (rest : List ℕ) × (after ≡ Some rest) × (all ≡ bytes ++ rest)
consumed None after bytes all c e = absurd (none-some all e)
consumed (Some xs) None bytes all c e = absurd c
consumed (Some xs) (Some ys) bytes all c e = (ys, refl, sym (same_Some xs all e) ∙ c)

-- words that were given to the end, with no byte left over, spell all bytes of the input
pub all_given : {R : Type 0} {input : Input R} (words : List ℕ) (before reached after : FileWords R input) →
    Gave before words reached →
    Ended reached after →
    left_over after ≡ 0 →
    ForSome (to_come before) (λ bytes. bytes ≡ flat_map spelled words)
all_given words before reached after gave ended none bytes is =
    let c = consumed (to_come before) (to_come reached) (flat_map spelled words) bytes (gave_bytes words before reached gave) is in
    c.2 ∙ ap (λ rest. flat_map spelled words ++ rest) (nil_from_length c.0 (ended.rest c.0 c.1 ∙ none))
    ∙ append-nil (flat_map spelled words)

-- where no word is given, none is counted
pub none_given-counts : {R : Type 0} {input : Input R} (before after : FileWords R input) → NoneGiven before after → after.number ≡ before.number
none_given-counts before after none = ⊎_elim (λ n. ap (λ (f : FileWords _ _). f.number) n.1) (λ n. n.4) none
