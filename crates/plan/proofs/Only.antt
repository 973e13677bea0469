-- In a list that ascends, the first that passes a test is the only one, where the test tells neighbours apart. Assumes nothing.
use Rattle.std.proofs.Common.{◌≡◌, ℕ, zero, suc, Bool, true, false, eqb, List, [], ◌∷◌, Some, ap, ◌∙◌, ⊎_elim, arith}
use Rattle.std.proofs.lemmas.Bool.{and_from, and_parts, both_ways, cases_Bool, cond-false, cond-true, eq-eqb}
use Rattle.std.proofs.lemmas.Bool.Decides.{nat_tests}
use Rattle.std.specs.Option.{option_map}
use Rattle.std.specs.List.{list_all, ContainsAt as Has}
use Rattle.plan.specs.declared.carried.CarriedPeak.{CarriedPeak}
use Rattle.plan.specs.declared.meter.Meter.{Meter}
use Rattle.plan.specs.Calls.{peak_precedes, precedes}
use Rattle.plan.specs.Contents.{Contents}
use Rattle.plan.specs.Limits.{amr}
use Rattle.plan.specs.Places.{is_place, place_precedes}
use Rattle.plan.specs.Questions.{first_of, holder_of, holding, is_meter, peak_of}
use Rattle.plan.specs.WellMade.{ascending, is_well_made}
use Rattle.plan.proofs.Passing.{all_pass-has}
use Rattle.plan.proofs.Standing.{standing}

module _ {X : Type 0} (before : X → X → Bool) (p : X → Bool) (apart : (x y : X) → p x ≡ true → p y ≡ true → before x y ≡ false) where
  pub first_only : (xs : List X) (x : X) → ascending before xs ≡ true → Has xs x → p x ≡ true → first_of p xs ≡ Some x
  first_only [] x h (i, l, at) e = absurd (omega arith)
  first_only (y ∷ ys) x h (zero, l, at) e =
      cond-true (p y) (Some y) (first_of p ys) (ap p (at x) ∙ e) ∙ ap Some (at x)
  first_only (y ∷ ys) x h (suc i, l, at) e =
      let both = and_parts (list_all (before y) ys) (ascending before ys) h in
      let has : Has ys x = (i, omega arith, at) in
      let other : p y ≡ false = ⊎_elim (λ t. absurd (both_ways (before y x) (apart y x t e) (all_pass-has (before y) ys x both.0 has))) (λ f. f) (cases_Bool (p y)) in
      cond-false (p y) (Some y) (first_of p ys) other ∙ first_only ys x both.1 has e

pub places_apart : (k a b : ℕ × ℕ) → is_place a k ≡ true → is_place b k ≡ true → place_precedes a b ≡ false
places_apart k a b p q = grind (arith, nat_tests)

pub holder_only : (plan : Contents) → is_well_made plan ≡ true → (segment number : ℕ) (m : Meter) → Has plan.meters m → m.segment ≡ segment → m.number ≡ number → holder_of plan segment number ≡ Some (holding m)
holder_only plan w segment number m has s n =
    let same : is_meter segment number m ≡ true = and_from (eqb m.segment segment) (eqb m.number number) (eq-eqb m.segment segment s) (eq-eqb m.number number n) in
    ap (option_map holding) (first_only precedes (is_meter segment number) (λ a b. places_apart (segment, number) (a.segment, a.number) (b.segment, b.number)) plan.meters m (standing plan w).meters_ascend has same)

pub peak_only : (plan : Contents) → is_well_made plan ≡ true → (meter : ℕ) (p : CarriedPeak) → Has plan.carried p → p.meter ≡ meter → peak_of plan meter ≡ Some p.amount
peak_only plan w meter p has m =
    ap (option_map (λ k. k.amount)) (first_only peak_precedes (λ k. eqb k.meter meter) (λ a b. places_apart (amr, meter) (amr, a.meter) (amr, b.meter)) plan.carried p (standing plan w).carried_ascend has (eq-eqb p.meter meter m))
