-- Largest remainder is fair: its shares add up to the total, and each is less than a unit off. Assumes nothing.
use Rattle.std.specs.Prelude.{◌≡◌, ℕ, suc, ◌+◌, ◌*◌, ◌<◌, ◌≤◌, Bool, true, false, ◌&&◌, ◌||◌, List, length, sum, ◌==◌, ◌≢◌, nat_lt, slice_index}
use Rattle.std.proofs.Common.{sym, ap, ◌∙◌, ⊎_elim, mul_comm, mul-add, mul-one, mod-lt, zero-mul, zero-add, mul-zero, arith}
use Rattle.std.proofs.Math.Nat.{mul-sub, mul-div-le, mod_def, zero-div, div-zero, le_of_mul-le-mul_left}
use Rattle.std.specs.List.{range_with_len}
use Rattle.std.proofs.lemmas.List.FromFn.{length-map-range_with_len, get_or-map-range_with_len}
use Rattle.std.proofs.lemmas.List.Sums.{sum-map}
use Rattle.std.proofs.lemmas.Bool.{cases_lt, lt-ltb, le-ltb}
use Rattle.std.proofs.lemmas.Bool.Decides.{nat_tests}
use Rattle.apportion.specs.Cutting.{Shared}
use Rattle.apportion.specs.LargestRemainder.{whole_part, remainder, left_over, precedes, ahead, share_by_remainder, largest_remainder}
use Rattle.apportion.specs.Positions.{over, over-le, over-upto, over-same, over-suc, over_add, over-mul, over-const, sum_over, map-zero}
use Rattle.apportion.specs.Ranks.{one_if, one_if_le, Strict, choice}

-- A larger size comes first, and of equal sizes the lower position: a strict order.
abbrev first : ℕ → ℕ → ℕ → ℕ → Bool
first a b j k = nat_lt b a || (a == b && nat_lt j k)

irreflexive : (a k : ℕ) → first a a k k ≡ false
irreflexive a k = grind (arith, nat_tests)

transitive : (a b c i j k : ℕ) → first a b i j ≡ true → first b c j k ≡ true → first a c i k ≡ true
transitive a b c i j k p q = grind (arith, nat_tests)

connected : (a b j k : ℕ) → first a b j k ≡ false → (j ≢ k) → first b a k j ≡ true
connected a b j k p ne = grind (arith, nat_tests)

module _ (total : ℕ) (weights : List ℕ) where
  strict : Strict (precedes total weights)
  strict = record {
    irreflexive = λ k. irreflexive (remainder total weights k) k;
    transitive = λ i j k. transitive (remainder total weights i) (remainder total weights j) (remainder total weights k) i j k;
    connected = λ j k. connected (remainder total weights j) (remainder total weights k) j k;
  }

  -- a product is its whole part and its remainder
  parted : (k : ℕ) → total * slice_index weights k ≡ sum weights * whole_part total weights k + remainder total weights k
  parted k = omega (arith, mul-div-le (total * slice_index weights k) (sum weights))

  below : 0 < sum weights → (k : ℕ) → remainder total weights k < sum weights
  below positive k = omega (arith, mod_def (total * slice_index weights k) (sum weights), mod-lt (total * slice_index weights k) positive)

  abbrev count : ℕ
  count = length weights

  -- the total times the weights, added up
  products : total * sum weights ≡ sum weights * over (whole_part total weights) count + over (remainder total weights) count
  products =
      ap (λ s. total * s) (sum_over weights) ∙ sym (over-mul total (λ k. slice_index weights k) count)
      ∙ over-same _ _ count (λ k _. parted k)
      ∙ over_add (λ k. sum weights * whole_part total weights k) (remainder total weights) count
      ∙ ap (λ s. s + over (remainder total weights) count) (over-mul (sum weights) (whole_part total weights) count)

  whole_le : 0 < sum weights → over (whole_part total weights) count ≤ total
  whole_le positive =
      le_of_mul-le-mul_left {k = sum weights} (omega (arith, products, mul_comm total (sum weights))) positive

  -- the whole parts do not pass the total
  pub wholes_le : over (whole_part total weights) count ≤ total
  wholes_le =
      ⊎_elim
      whole_le
      (λ (none : sum weights ≤ 0). omega (
        arith,
        over-const 0 count,
        over-same (whole_part total weights) (λ _. 0) count (λ k _. no_part k (omega arith)),
      ))
      (cases_lt 0 (sum weights))
    where
      no_part : (k : ℕ) → sum weights ≡ 0 → whole_part total weights k ≡ 0
      no_part k none = rw none (div-zero (total * slice_index weights k))

  -- nor do those so far with the next one
  pub next_whole_le : (i : ℕ) → i < count → over (whole_part total weights) i + whole_part total weights i ≤ total
  next_whole_le i h =
      omega (arith, wholes_le, over-suc (whole_part total weights) i, over-upto (whole_part total weights) (suc i) count h)

  -- the units left over are what the remainders come to
  left_is : 0 < sum weights → sum weights * left_over total weights ≡ over (remainder total weights) count
  left_is positive =
      omega (arith, mul-sub (sum weights) total (over (whole_part total weights) count), products, mul_comm total (sum weights))

  left_le : 0 < sum weights → left_over total weights ≤ count
  left_le positive =
      le_of_mul-le-mul_left {k = sum weights}
      (omega (
        arith,
        left_is positive,
        over-const (sum weights) count,
        mul_comm count (sum weights),
        over-le (remainder total weights) (λ _. sum weights) count (λ k _. omega (arith, below positive k)),
      ))
      positive

  -- at most as many units are left over as positions have a remainder
  few : 0 < sum weights → left_over total weights ≤ over (λ j. one_if (nat_lt 0 (remainder total weights j))) count
  few positive =
      le_of_mul-le-mul_left {k = sum weights}
      (omega (
        arith,
        left_is positive,
        over-mul (sum weights) (λ j. one_if (nat_lt 0 (remainder total weights j))) count,
        over-le (remainder total weights) (λ j. sum weights * one_if (nat_lt 0 (remainder total weights j))) count
            (λ j _. capped (remainder total weights j) (below positive j)),
      ))
      positive
    where
      capped : (r : ℕ) → r < sum weights → r ≤ sum weights * one_if (nat_lt 0 r)
      capped r h =
          ⊎_elim
          (λ p. rw (lt-ltb 0 r p) (omega (arith, mul-one (sum weights))))
          (λ n. omega arith)
          (cases_lt 0 r)

  -- where a position gets a unit more, something was cut off there
  earned : 0 < sum weights → (k : ℕ) → ahead total weights k < left_over total weights → 0 < remainder total weights k
  earned positive k h =
      ⊎_elim (λ p. p)
      (λ none. absurd (omega (
        arith,
        few positive,
        over-le (λ j. one_if (nat_lt 0 (remainder total weights j))) (λ j. one_if (precedes total weights j k)) count
            (λ j _. one_if_le _ _ (precede (remainder total weights j) (remainder total weights k) j none)),
      )))
      (cases_lt 0 (remainder total weights k))
    where
      precede : (a b j : ℕ) → b ≤ 0 → nat_lt 0 a ≡ true → first a b j k ≡ true
      precede a b j none some = grind (arith, nat_tests)

  sum_is : 0 < sum weights → sum (largest_remainder total weights) ≡ total
  sum_is positive =
      sum-map (share_by_remainder total weights) (range_with_len 0 count)
      ∙ over_add (whole_part total weights) (λ k. one_if (nat_lt (ahead total weights k) (left_over total weights))) count
      ∙ omega (arith, whole_le positive, choice (precedes total weights) strict count (left_over total weights) (left_le positive))

  abbrev extra : ℕ → ℕ
  extra k = one_if (nat_lt (ahead total weights k) (left_over total weights))

  over_by : 0 < sum weights → (k : ℕ) → sum weights * share_by_remainder total weights k < total * slice_index weights k + sum weights
  over_by positive k =
      let spread = mul-add (sum weights) (whole_part total weights k) (extra k) in
      ⊎_elim
      (λ h. omega (arith, spread, parted k, earned positive k h, mul-one (sum weights), ap (λ b. sum weights * one_if b) (lt-ltb (ahead total weights k) (left_over total weights) h)))
      (λ h. omega (arith, spread, parted k, mul-zero (sum weights), ap (λ b. sum weights * one_if b) (le-ltb (ahead total weights k) (left_over total weights) h)))
      (cases_lt (ahead total weights k) (left_over total weights))

  under_by : 0 < sum weights → (k : ℕ) → total * slice_index weights k < sum weights * share_by_remainder total weights k + sum weights
  under_by positive k =
      omega (
        arith,
        parted k,
        below positive k,
        mul-add (sum weights) (whole_part total weights k) (extra k),
      )

  nothing : total ≡ 0 → (k : ℕ) → share_by_remainder total weights k ≡ 0
  nothing none k =
      let part : whole_part total weights k ≡ 0 = rw (none, zero-mul (slice_index weights k)) (zero-div (sum weights)) in
      omega (arith, ap one_if (le-ltb (ahead total weights k) (left_over total weights) (omega arith)))

  placed : (k : ℕ) → k < count → slice_index (largest_remainder total weights) k ≡ share_by_remainder total weights k
  placed k h = get_or-map-range_with_len (share_by_remainder total weights) 0 count k k 0 h (zero-add k)

  pub by_remainder : Shared total weights (largest_remainder total weights)
  by_remainder = record {
    sized = length-map-range_with_len (share_by_remainder total weights) 0 count;
    adds = sum_is;
    over = λ positive k h. rw (placed k h) (over_by positive k);
    under = λ positive k h. rw (placed k h) (under_by positive k);
    nothing = λ _ none. map-zero (share_by_remainder total weights) count (λ k _. nothing none k);
  }
