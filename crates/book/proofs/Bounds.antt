-- The bound on the sum of an hour.
use Rattle.std.proofs.Common.{◌≡◌, ℕ, ◌+◌, ◌*◌, ◌<◌, ◌≤◌, true, false, cond, ◌||◌, eqb, List, [], length, get_or, set, count_by, sym, refl, ◌∙◌, subst, ⊎_elim, arith}
use mathlib.Core.Bool.{or-false}
use Rattle.std.proofs.lemmas.List.{get_or-set_other, get_or-set_same}
use Rattle.std.proofs.lemmas.List.Sums.{count_by-le-length, sum_by-set}
use Rattle.std.proofs.lemmas.Bool.{cases_eq, eq-eqb, ne_eqb}
use Rattle.weights.specs.Limits.{greatest_amount, meter_count}
use Rattle.book.specs.Limits.{greatest_sum}
use Rattle.book.specs.Marks.{Bounded, is_marked}

module _ (marks : List (List ℕ)) (sums : List ℕ) (bounded : Bounded marks sums) where
  -- no sum passes the greatest amount of every meter
  pub sum_bound : length marks ≡ meter_count → (hour : ℕ) → get_or sums hour 0 ≤ greatest_sum
  sum_bound sized hour = omega (arith, bounded hour, count_by-le-length (λ words. is_marked words hour) marks)

  module _ (meter hour amount : ℕ) (words : List ℕ) (inside : meter < length marks) (small : amount ≤ greatest_amount)
      (free : is_marked (get_or marks meter []) hour ≡ false)
      (after : (h : ℕ) → is_marked words h ≡ (is_marked (get_or marks meter []) h || eqb h hour)) where
    -- the bound on an hour's sum once the amount is entered
    abbrev Holds : ℕ → Type 0
    Holds h =
        get_or (set sums hour (get_or sums hour 0 + amount)) h 0 ≤ greatest_amount * count_by (λ w. is_marked w h) (set marks meter words)

    -- how many meters have an hour then
    counted : (h : ℕ) →
        count_by (λ w. is_marked w h) (set marks meter words) + cond (is_marked (get_or marks meter []) h) 1 0
        ≡ count_by (λ w. is_marked w h) marks + cond (is_marked words h) 1 0
    counted h = sum_by-set (λ w. cond (is_marked w h) 1 0) marks meter words [] inside

    here : hour < length sums → Holds hour
    here within =
        let new : is_marked words hour ≡ true = after hour ∙ rw (free, eq-eqb hour hour refl) in
        let counts = rw (free, new) at (counted hour) in
        rw (get_or-set_same sums hour (get_or sums hour 0 + amount) 0 within) (omega (arith, bounded hour, counts))

    elsewhere : (h : ℕ) → (h ≡ hour → ⊥) → Holds h
    elsewhere h ne =
        let old : is_marked words h ≡ is_marked (get_or marks meter []) h = after h ∙ rw (ne_eqb h hour ne) (or-false _) in
        let counts = rw old at (counted h) in
        rw (get_or-set_other sums hour h (get_or sums hour 0 + amount) 0 ne) (omega (arith, bounded h, counts))

    -- an amount that a meter enters for one more hour keeps the bound
    pub bounded_after : hour < length sums → Bounded (set marks meter words) (set sums hour (get_or sums hour 0 + amount))
    bounded_after within h = ⊎_elim (λ e. subst Holds (sym e) (here within)) (elsewhere h) (cases_eq h hour)
