-- Carried peaks noted one after another in a newly opened book.
use Rattle.std.proofs.Common.{◌≡◌, ℕ, ◌+◌, ◌<◌, ◌≤◌, Bool, true, false, cond, eqb, leb, List, [], ◌∷◌, ◌++◌, length, get_or, take, drop, set, Some, None, Option, sym, refl, ap, ◌∙◌, subst, ⊎_elim, arith}
use Rattle.std.specs.Option.{option_map, option_to_list}
use Rattle.std.specs.List.{list_all}
use Rattle.std.proofs.lemmas.List.{drop_more, get_or-replicate, get_or-set_other, get_or-set_same, take-append-drop, take_more}
use Rattle.std.proofs.lemmas.Bool.{and_parts, both_ways, cases_Bool, cases_eq, cond-false, cond-true, eq-eqb, ne_eqb}
use Rattle.std.proofs.lemmas.Bool.Decides.{nat_tests}
use Rattle.book.specs.Answers.{Opened, joined_with, weights_with}
use Rattle.book.specs.Contents.{Contents as BookContents}
use Rattle.plan.specs.Calls.{peak_fits, peak_precedes}
use Rattle.plan.specs.Limits.{most_meters}
use Rattle.plan.specs.Questions.{first_of}
use Rattle.plan.specs.WellMade.{ascending}
use Rattle.plan.specs.declared.carried.CarriedPeak.{CarriedPeak}
use Rattle.plan.proofs.Passing.{all_pass-at, all_pass-push, ascending_at}
use Rattle.plan.proofs.Within.{PeakWithin, peak_within}
use Rattle.weights.specs.Accepted.{joined_all}
use Rattle.weights.specs.Answers.{note_refusal}
use Rattle.weights.specs.Limits.{greatest_amount, greatest_weight, meter_count}
use Rattle.month.specs.Opening.{PeaksNoted, peaks_light}

-- what a book holds once one peak more is joined to its meter's weight
abbrev pub with_peak : (join : ℕ → ℕ → ℕ) → BookContents → CarriedPeak → BookContents
with_peak join book peak =
    record { marks = book.marks; sums = book.sums; weights = weights_with join book peak.meter peak.amount }

-- one more at the end of a list that is searched
module _ {X : Type 0} (test : X → Bool) (x : X) where
  first_same : (xs : List X) → test x ≡ false → first_of test (xs ++ x ∷ []) ≡ first_of test xs
  first_same [] e = cond-false (test x) (Some x) None e
  first_same (y ∷ ys) e = ap (cond (test y) (Some y)) (first_same ys e)

  first_here : (xs : List X) → first_of test xs ≡ None → test x ≡ true → first_of test (xs ++ x ∷ []) ≡ Some x
  first_here [] none e = cond-true (test x) (Some x) None e
  first_here (y ∷ ys) none e = next (test y) none (λ still. first_here ys still e)
    where
      next : (t : Bool) →
          cond t (Some y) (first_of test ys) ≡ None →
          (first_of test ys ≡ None → first_of test (ys ++ x ∷ []) ≡ Some x) →
          cond t (Some y) (first_of test (ys ++ x ∷ [])) ≡ Some x
      next true never later = grind arith
      next false still later = later still

-- a peak above all others is of another meter
none_same : (p : CarriedPeak) (xs : List CarriedPeak) →
    list_all (λ q. peak_precedes q p) xs ≡ true →
    first_of (λ q. eqb q.meter p.meter) xs ≡ None
none_same p [] h = refl
none_same p (x ∷ xs) h =
    let both = and_parts (peak_precedes x p) (list_all (λ q. peak_precedes q p) xs) h in
    cond-false (eqb x.meter p.meter) (Some x) (first_of (λ q. eqb q.meter p.meter) xs) (apart x both.0)
    ∙ none_same p xs both.1
  where
    apart : (q : CarriedPeak) → peak_precedes q p ≡ true → eqb q.meter p.meter ≡ false
    apart q e = grind (arith, nat_tests)

-- what the source's answer tells of a peak within its limits
taken_light : (meter amount joined : ℕ) → note_refusal meter amount joined ≡ None → leb joined greatest_weight ≡ true
taken_light meter amount joined e = grind (arith, nat_tests)

refused_heavy : (meter amount joined number : ℕ) →
    meter < most_meters →
    amount ≤ greatest_amount →
    note_refusal meter amount joined ≡ Some number →
    (number ≡ 6) × (leb joined greatest_weight ≡ false)
refused_heavy meter amount joined number m a e = (grind (arith, nat_tests), grind (arith, nat_tests))

pub noted_none : (join : ℕ → ℕ → ℕ) (before : BookContents) → Opened before → PeaksNoted join [] before before
noted_none join before opened = record {
  marks = refl;
  sums = refl;
  weights = λ meter m. ap (λ (ws : List ℕ). get_or ws meter 0) opened.weights ∙ get_or-replicate meter_count meter 0 0 m;
}

-- the peak at place i, after those in front of it
module _ (join : ℕ → ℕ → ℕ) (peaks : List CarriedPeak) (i : ℕ) (d : CarriedPeak) (inside : i < length peaks)
    (fit : list_all peak_fits peaks ≡ true) (ascend : ascending peak_precedes peaks ≡ true) (before held : BookContents)
    (noted : PeaksNoted join (take i peaks) before held) where
  abbrev p : CarriedPeak
  p = get_or peaks i d

  more : take (i + 1) peaks ≡ take i peaks ++ p ∷ []
  more = take_more peaks i d inside

  split : peaks ≡ take i peaks ++ p ∷ drop (i + 1) peaks
  split =
      sym (take-append-drop i peaks) ∙ ap (λ (qs : List CarriedPeak). take i peaks ++ qs) (drop_more peaks i d inside)

  limits : PeakWithin p
  limits =
      let passes = subst (λ (qs : List CarriedPeak). list_all peak_fits qs ≡ true) split fit in
      peak_within p (all_pass-at peak_fits (take i peaks) p (drop (i + 1) peaks) passes)

  first : first_of (λ q. eqb q.meter p.meter) (take i peaks) ≡ None
  first =
      let ascends = subst (λ (qs : List CarriedPeak). ascending peak_precedes qs ≡ true) split ascend in
      none_same p (take i peaks) (ascending_at peak_precedes (take i peaks) p (drop (i + 1) peaks) ascends)

  abbrev joined : ℕ
  joined = joined_with join held p.meter p.amount

  -- the meter's weight is still zero
  joined_is : joined ≡ join 0 p.amount
  joined_is =
      ap (λ (w : ℕ). join w p.amount)
      (noted.weights p.meter limits.meter_below ∙ ap (λ (o : Option CarriedPeak). joined_all join 0 (option_to_list (option_map (λ (q : CarriedPeak). q.amount) o))) first)

  -- the source refuses
  pub too_heavy : (number : ℕ) →
      note_refusal p.meter p.amount joined ≡ Some number →
      (number ≡ 6) × (peaks_light join peaks ≡ false)
  too_heavy number e =
      let heavy = refused_heavy p.meter p.amount joined number limits.meter_below limits.amount_most e in
      let here : leb (join 0 p.amount) greatest_weight ≡ false = ap (λ (n : ℕ). leb n greatest_weight) (sym joined_is) ∙ heavy.1 in
      (heavy.0, ⊎_elim (λ all. absurd (both_ways _ here (passes all))) (λ e. e) (cases_Bool (peaks_light join peaks)))
    where
      passes : peaks_light join peaks ≡ true → leb (join 0 p.amount) greatest_weight ≡ true
      passes all =
          all_pass-at (λ (q : CarriedPeak). leb (join 0 q.amount) greatest_weight) (take i peaks) p (drop (i + 1) peaks)
          (subst (λ (qs : List CarriedPeak). peaks_light join qs ≡ true) split all)

  -- the source takes it
  module _ (sized : length held.weights ≡ meter_count) (taken : note_refusal p.meter p.amount joined ≡ None) where
    pub light_more : peaks_light join (take i peaks) ≡ true → peaks_light join (take (i + 1) peaks) ≡ true
    light_more light =
        let here : leb (join 0 p.amount) greatest_weight ≡ true =
        ap (λ (n : ℕ). leb n greatest_weight) (sym joined_is) ∙ taken_light p.meter p.amount joined taken
        in
        ap (peaks_light join) more
        ∙ all_pass-push (λ (q : CarriedPeak). leb (join 0 q.amount) greatest_weight) (take i peaks) p light here

    abbrev weight_by : List CarriedPeak → ℕ → ℕ
    weight_by qs meter = joined_all join 0 (option_to_list (option_map (λ (q : CarriedPeak). q.amount) (first_of (λ (q : CarriedPeak). eqb q.meter meter) qs)))

    weight-here : get_or (set held.weights p.meter joined) p.meter 0 ≡ weight_by (take i peaks ++ p ∷ []) p.meter
    weight-here =
        let within : p.meter < length held.weights = omega (arith, limits.meter_below, sized) in
        get_or-set_same held.weights p.meter joined 0 within
        ∙ joined_is
        ∙ ap (λ (o : Option CarriedPeak). joined_all join 0 (option_to_list (option_map (λ (q : CarriedPeak). q.amount) o)))
        (sym (first_here (λ (q : CarriedPeak). eqb q.meter p.meter) p (take i peaks) first (eq-eqb p.meter p.meter refl)))

    weight-there : (meter : ℕ) →
        meter < most_meters →
        (meter ≡ p.meter → ⊥) →
        get_or (set held.weights p.meter joined) meter 0 ≡ weight_by (take i peaks ++ p ∷ []) meter
    weight-there meter m e =
        get_or-set_other held.weights p.meter meter joined 0 e
        ∙ noted.weights meter m
        ∙ ap (λ (o : Option CarriedPeak). joined_all join 0 (option_to_list (option_map (λ (q : CarriedPeak). q.amount) o)))
        (sym (first_same (λ (q : CarriedPeak). eqb q.meter meter) p (take i peaks) (ne_eqb p.meter meter (λ f. e (sym f)))))

    pub noted_more : (after : BookContents) →
        after ≡ with_peak join held p →
        PeaksNoted join (take (i + 1) peaks) before after
    noted_more after is = record {
      marks = ap (λ (c : BookContents). c.marks) is ∙ noted.marks;
      sums = ap (λ (c : BookContents). c.sums) is ∙ noted.sums;
      weights = λ meter m.
          ap (λ (c : BookContents). get_or c.weights meter 0) is
          ∙ ⊎_elim
          (λ e. subst (λ (k : ℕ). get_or (set held.weights p.meter joined) k 0 ≡ weight_by (take i peaks ++ p ∷ []) k) (sym e) weight-here)
          (weight-there meter m)
          (cases_eq meter p.meter)
          ∙ ap (λ (qs : List CarriedPeak). weight_by qs meter) (sym more);
    }
