-- What marking an hour does to the words of a row.
use Rattle.std.proofs.Common.{◌≡◌, ℕ, ◌+◌, ◌/◌, ◌%◌, ◌^◌, ◌<◌, ◌≤◌, false, ◌||◌, eqb, List, length, get_or, set, replicate, sym, ap, ◌∙◌, ⊎_elim, arith}
use mathlib.Core.Bool.{or-false}
use native.Mathlib.Nat.{zero-div}
use lib.Bits.{bit_or}
use lib.Count.{ones}
use Rattle.std.proofs.lemmas.List.{get_or_past, get_or-replicate, get_or-set_same, get_or-set_other, length-replicate}
use Rattle.std.proofs.lemmas.List.Sums.{sum_by-set}
use Rattle.std.proofs.lemmas.Nat.{mod_below}
use Rattle.std.proofs.lemmas.Bool.{cases_eq, cases_lt, eqb-false, ne_eqb}
use Rattle.std.proofs.lemmas.Bool.Decides.{nat_tests}
use Rattle.book.specs.Limits.{word_hours}
use Rattle.book.specs.Marks.{is_marked, ones_of}
use Rattle.book.proofs.Bits.{bit_after, ones_after}

module _ (words : List ℕ) (hour : ℕ) (inside : hour / word_hours < length words) where
  -- the words with the hour's bit set
  abbrev pub marked_words : List ℕ
  marked_words = set words (hour / word_hours) (bit_or (get_or words (hour / word_hours) 0) (2 ^ (hour % word_hours)))

  pub marked_after : (h : ℕ) → is_marked marked_words h ≡ (is_marked words h || eqb h hour)
  marked_after h = ⊎_elim same other (cases_eq (h / word_hours) (hour / word_hours))
    where
      word : ℕ
      word = get_or words (hour / word_hours) 0

      same : h / word_hours ≡ hour / word_hours → is_marked marked_words h ≡ (is_marked words h || eqb h hour)
      same e =
          let bits : eqb (h % word_hours) (hour % word_hours) ≡ eqb h hour = grind (arith, nat_tests) in
          rw (e, get_or-set_same words (hour / word_hours) (bit_or word (2 ^ (hour % word_hours))) 0 inside)
          (bit_after word (hour % word_hours) (h % word_hours) ∙ rw bits)

      other : (h / word_hours ≡ hour / word_hours → ⊥) → is_marked marked_words h ≡ (is_marked words h || eqb h hour)
      other ne =
          let apart : eqb h hour ≡ false = ne_eqb h hour (λ e. ne (ap (λ (n : ℕ). n / word_hours) e)) in
          rw (get_or-set_other words (hour / word_hours) (h / word_hours) (bit_or word (2 ^ (hour % word_hours))) 0 ne, apart)
          (sym (or-false (is_marked words h)))

  pub ones_marked : is_marked words hour ≡ false → ones_of marked_words ≡ ones_of words + 1
  ones_marked free =
      let word = get_or words (hour / word_hours) 0 in
      let zero : word / 2 ^ (hour % word_hours) % 2 ≡ 0 =
      let low = mod_below (word / 2 ^ (hour % word_hours)) 2 (omega arith) in omega (arith, eqb-false _ _ free)
      in
      omega (arith, sum_by-set ones words (hour / word_hours) (bit_or word (2 ^ (hour % word_hours))) 0 inside, ones_after word (hour % word_hours) zero)

-- an hour whose word is zero is not marked
unmarked_word : (words : List ℕ) (hour : ℕ) → get_or words (hour / word_hours) 0 ≡ 0 → is_marked words hour ≡ false
unmarked_word words hour none = rw (none, zero-div (2 ^ (hour % word_hours)))

-- past the last word no hour is marked
pub unmarked_past : (words : List ℕ) (hour : ℕ) → length words ≤ hour / word_hours → is_marked words hour ≡ false
unmarked_past words hour past = unmarked_word words hour (get_or_past words (hour / word_hours) 0 past)

-- a list of zeros has zero at every place and past its end
pub get_or-zeros : (n i : ℕ) → ◌≡◌ {A = ℕ} (get_or (replicate n 0) i 0) 0
get_or-zeros n i = ⊎_elim
    (λ h. get_or-replicate n i 0 0 h)
    (λ h. get_or_past (replicate n 0) i 0 (rw length-replicate h))
    (cases_lt i n)

-- words of zeros mark no hour
pub unmarked_zeros : (n hour : ℕ) → is_marked (replicate n 0) hour ≡ false
unmarked_zeros n hour = unmarked_word (replicate n 0) hour (get_or-zeros n (hour / word_hours))
