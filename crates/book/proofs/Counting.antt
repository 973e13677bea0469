-- The ones of the mark words are as many as the marked hours.
use Rattle.std.proofs.Common.{◌≡◌, ℕ, zero, suc, ◌+◌, ◌-◌, ◌*◌, ◌/◌, ◌%◌, ◌^◌, ◌<◌, ◌≤◌, Bool, true, false, cond, not, eqb, List, length, get_or, count_by, sym, refl, ap, ◌∙◌, subst, ⊎_elim, add-zero, mod-eq_of_lt, add-one, arith}
use native.Mathlib.Nat.{mod-one}
use lib.Count.{ones, ones_cat}
use lib.Pow.{mod-pow-add}
use Rattle.std.specs.List.{range_with_len}
use Rattle.std.proofs.lemmas.Nat.{div-mul-add, mod_below, mod-mul-add, pow_pos}
use Rattle.std.proofs.lemmas.List.FromFn.{sum_by-map-range_with_len_more}
use Rattle.std.proofs.lemmas.List.{map-id}
use Rattle.std.proofs.lemmas.Bool.{cases_lt}
use Rattle.book.specs.Limits.{word_hours}
use Rattle.book.specs.Marks.{is_marked, marked_below}
use Rattle.book.proofs.Marking.{unmarked_past}

module _ (p : ℕ → Bool) where
  -- one number more
  below_more : (n : ℕ) → count_by p (range_with_len 0 (n + 1)) ≡ count_by p (range_with_len 0 n) + cond (p n) 1 0
  below_more n = simp map-id at (sum_by-map-range_with_len_more (λ h. cond (p h) 1 0) (λ (x : ℕ). x) 0 n n (omega arith))

  -- numbers of which none passes add nothing
  below_same : (a n : ℕ) → ((h : ℕ) → a ≤ h → p h ≡ false) → count_by p (range_with_len 0 (a + n)) ≡ count_by p (range_with_len 0 a)
  below_same a zero none = rw add-zero
  below_same a (suc n) none =
      let next : a + suc n ≡ a + n + 1 = omega arith in
      rw (next, below_more (a + n), none (a + n) (omega arith), below_same a n none) (add-zero _)

  -- two bounds past which none passes
  below_both : (a b : ℕ) →
      ((h : ℕ) → a ≤ h → p h ≡ false) →
      ((h : ℕ) → b ≤ h → p h ≡ false) →
      count_by p (range_with_len 0 a) ≡ count_by p (range_with_len 0 b)
  below_both a b past-a past-b = ⊎_elim
      (λ h. let e : a + (b - a) ≡ b = omega arith in sym (rw e at (below_same a (b - a) past-a)))
      (λ h. let e : b + (a - b) ≡ a = omega arith in rw e at (below_same b (a - b) past-b))
      (cases_lt a b)

one_way : (t : Bool) → cond t 1 0 + cond (not t) 1 0 ≡ 1
one_way true = refl
one_way false = refl

-- those that pass and those that do not
pub below_not : (p : ℕ → Bool) (n : ℕ) → count_by p (range_with_len 0 n) + count_by (λ h. not (p h)) (range_with_len 0 n) ≡ n
below_not p zero = refl
below_not p (suc n) =
    subst (λ (k : ℕ). count_by p (range_with_len 0 k) + count_by (λ h. not (p h)) (range_with_len 0 k) ≡ k) (add-one n)
    (omega (arith, below_more p n, below_more (λ h. not (p h)) n, one_way (p n), below_not p n))

ones_zero : ones 0 ≡ 0
unfolding ones
ones_zero = refl

ones_bit : (b : ℕ) → b < 2 → ones b ≡ cond (eqb b 1) 1 0
unfolding ones
ones_bit zero h = refl
ones_bit (suc zero) h = refl
ones_bit (suc (suc b)) h = absurd (omega arith)

-- one bit more
ones_mod : (word n : ℕ) → ones (word % 2 ^ (1 + n)) ≡ cond (eqb (word / 2 ^ n % 2) 1) 1 0 + ones (word % 2 ^ n)
ones_mod word n =
    ap ones (mod-pow-add word 1 n) ∙ ones_cat n (word / 2 ^ n % 2) (word % 2 ^ n) (mod_below word (2 ^ n) (pow_pos n))
    ∙ rw (ones_bit (word / 2 ^ n % 2) (mod_below (word / 2 ^ n) 2 (omega arith)))

module _ (words : List ℕ) (i : ℕ) where
  -- the hours of the lowest bits of a word
  ones_low : (n : ℕ) →
      n ≤ word_hours →
      marked_below words (i * word_hours + n) ≡ marked_below words (i * word_hours) + ones (get_or words i 0 % 2 ^ n)
  ones_low zero h = rw (add-zero (i * word_hours), mod-one (get_or words i 0), ones_zero) (sym (add-zero _))
  ones_low (suc n) h =
      let word = get_or words i 0 in
      let next : i * word_hours + suc n ≡ i * word_hours + n + 1 = omega arith in
      let more : suc n ≡ 1 + n = omega arith in
      let bit : is_marked words (i * word_hours + n) ≡ eqb (word / 2 ^ n % 2) 1 = rw (div-mul-add i word_hours n h, mod-mul-add i word_hours n h) in
      rw (next, below_more (is_marked words) (i * word_hours + n), bit, more, ones_mod word n, ones_low n (omega arith)) (omega arith)

  -- the hours of a word
  pub ones_word : get_or words i 0 < 2 ^ word_hours →
      marked_below words ((i + 1) * word_hours) ≡ marked_below words (i * word_hours) + ones (get_or words i 0)
  ones_word fits =
      let next : (i + 1) * word_hours ≡ i * word_hours + word_hours = omega arith in
      let whole = mod-eq_of_lt fits in
      rw next (ones_low word_hours (omega arith) ∙ ap (λ (n : ℕ). marked_below words (i * word_hours) + ones n) whole)

-- the marked hours of all words are those below any bound past which none is marked
pub marked_below-is : (words : List ℕ) (i hours : ℕ) →
    length words ≤ i →
    ((h : ℕ) → hours ≤ h → is_marked words h ≡ false) →
    marked_below words (i * word_hours) ≡ marked_below words hours
marked_below-is words i hours past none =
    below_both (is_marked words) (i * word_hours) hours (λ h le. unmarked_past words h (omega arith)) none
