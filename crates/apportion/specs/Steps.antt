-- The running cut is fair: its steps add up to the total, and each is less than a unit off. Assumes nothing.
use Rattle.std.specs.Prelude.{◌≡◌, ℕ, zero, suc, ◌+◌, ◌-◌, ◌*◌, ◌/◌, ◌<◌, ◌≤◌, List, length, take, sum, slice_index}
use Rattle.std.proofs.Common.{sym, ap, ◌∙◌, ⊎_elim, mul-add, mul-zero, zero-mul, zero-add, mod-lt, mul-div_cancel, mul-le-mul_left, div-mul-le_self, add-one, arith}
use Rattle.std.proofs.Math.Nat.{mul-sub, zero-div, div-add-mod, div-zero}
use Rattle.std.specs.List.{range_with_len}
use Rattle.std.proofs.lemmas.List.FromFn.{length-map-range_with_len, get_or-map-range_with_len}
use Rattle.std.proofs.lemmas.Nat.{le-div}
use Rattle.std.proofs.lemmas.List.{take_all, take-take}
use Rattle.std.proofs.lemmas.List.Sums.{sum-map, sum_by_more, sum_by-take-le}
use Rattle.std.proofs.lemmas.Bool.{cases_lt}
use Rattle.apportion.specs.Cutting.{Shared}
use Rattle.apportion.specs.RunningCut.{up_to, share_by_running, running_cut}
use Rattle.apportion.specs.Positions.{over, over-suc, map-zero}

-- the steps of a function that never falls add up to its rise
telescoped : (f : ℕ → ℕ) → ((k : ℕ) → f k ≤ f (k + 1)) → (n : ℕ) → over (λ k. f (k + 1) - f k) n + f 0 ≡ f n
telescoped f rises zero = omega arith
telescoped f rises (suc n) =
    omega (arith, over-suc (λ k. f (k + 1) - f k) n, telescoped f rises n, rises n, ap f (add-one n))

pub quotient_le : (a b w : ℕ) → a ≤ b → a / w ≤ b / w
quotient_le a b w h =
    ⊎_elim
    (λ positive. le-div (a / w) b w positive (omega (arith, div-mul-le_self a w)))
    (λ (none : w ≤ 0). let z : w ≡ 0 = omega arith in rw z (omega (arith, div-zero a)))
    (cases_lt 0 w)

-- two quotients differ by less than a unit from the quotient of the difference
module _ (w a b x : ℕ) (positive : 0 < w) (more : a ≡ b + x) where
  step_over : w * (a / w - b / w) < x + w
  step_over = omega (arith, mul-sub w (a / w) (b / w), div-add-mod a w, div-add-mod b w, mod-lt a positive, mod-lt b positive)

  step_under : x < w * (a / w - b / w) + w
  step_under = omega (arith, mul-sub w (a / w) (b / w), div-add-mod a w, div-add-mod b w, mod-lt a positive, mod-lt b positive)

module _ (total : ℕ) (weights : List ℕ) where
  sum-le : (k : ℕ) → sum (take k weights) ≤ sum (take (k + 1) weights)
  sum-le k =
      omega (arith, sum_by-take-le (λ x. x) (take (k + 1) weights) k, ap sum (take-take k (k + 1) weights (omega arith)))

  up_to_rises : (k : ℕ) → up_to total weights k ≤ up_to total weights (k + 1)
  up_to_rises k = quotient_le _ _ (sum weights) (mul-le-mul_left total (sum-le k))

  products : (k : ℕ) → k < length weights → total * sum (take (k + 1) weights) ≡ total * sum (take k weights) + total * slice_index weights k
  products k h = ap (λ s. total * s) (sum_by_more (λ x. x) weights k 0 h) ∙ mul-add total (sum (take k weights)) (slice_index weights k)

  sum_is : 0 < sum weights → sum (running_cut total weights) ≡ total
  sum_is positive =
      let all : up_to total weights (length weights) ≡ total = rw (take_all (length weights) weights (omega arith)) (mul-div_cancel total positive) in
      let none : up_to total weights 0 ≡ 0 = ap (λ p. p / sum weights) (mul-zero total) ∙ zero-div (sum weights) in
      sum-map (share_by_running total weights) (range_with_len 0 (length weights)) ∙ omega (arith, telescoped (up_to total weights) up_to_rises (length weights))

  placed : (k : ℕ) → k < length weights → slice_index (running_cut total weights) k ≡ share_by_running total weights k
  placed k h = get_or-map-range_with_len (share_by_running total weights) 0 (length weights) k k 0 h (zero-add k)

  nothing : total ≡ 0 → (k : ℕ) → share_by_running total weights k ≡ 0
  nothing none k =
      let no : up_to total weights (k + 1) ≡ 0 = rw (none, zero-mul (sum (take (k + 1) weights))) (zero-div (sum weights)) in
      omega arith

  pub by_steps : Shared total weights (running_cut total weights)
  by_steps = record {
    sized = length-map-range_with_len (share_by_running total weights) 0 (length weights);
    adds = sum_is;
    over = λ positive k h. rw (placed k h) (step_over (sum weights) _ _ _ positive (products k h));
    under = λ positive k h. rw (placed k h) (step_under (sum weights) _ _ _ positive (products k h));
    nothing = λ _ none. map-zero (share_by_running total weights) (length weights) (λ k _. nothing none k);
  }

  -- the rise at a position, as the code has it: by the weights before it and the whole
  pub rise_is : (i before whole rise : ℕ) → i < length weights → before ≡ sum (take i weights) → whole ≡ sum weights
      → rise ≡ total * (before + slice_index weights i) / whole - total * before / whole → rise ≡ share_by_running total weights i
  rise_is i before whole rise h so_far all is =
      is ∙ ap (λ b. total * (b + slice_index weights i) / whole - total * b / whole) so_far
      ∙ ap (λ w. total * (sum (take i weights) + slice_index weights i) / w - total * sum (take i weights) / w) all
      ∙ ap (λ s. total * s / sum weights - up_to total weights i) (sym (sum_by_more (λ x. x) weights i 0 h))
