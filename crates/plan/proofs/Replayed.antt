-- Well-made contents are those that calls make. Assumes nothing.
use Rattle.std.proofs.Common.{◌≡◌, ℕ, suc, ◌+◌, Bool, true, ◌&&◌, ◌||◌, eqb, ltb, List, [], ◌∷◌, ◌++◌, map, length, is_some, Some, None, Option, sym, refl, ap, ◌∙◌, subst, arith}
use Rattle.std.proofs.lemmas.List.{append_assoc, append-nil, length-append, length_push}
use Rattle.std.proofs.lemmas.Bool.{and_from, and_parts, eq-eqb, lt-ltb}
use Rattle.std.proofs.lemmas.Bool.Decides.{nat_tests}
use Rattle.std.specs.List.{list_all}
use Rattle.plan.specs.declared.carried.CarriedPeak.{CarriedPeak}
use Rattle.plan.specs.declared.meter.Meter.{Meter}
use Rattle.plan.specs.Calls.{PlanCall, SetPeriod, AddSegment, AddMeter, AddCarried, after_call, values_fit, comes_in_order, is_empty, meter_fits, peak_fits, peak_precedes, precedes, refusal_of, terms_fit}
use Rattle.plan.specs.Contents.{Contents, PeriodNumbers, SegmentNumbers, nothing}
use Rattle.plan.specs.Limits.{most_segments}
use Rattle.plan.specs.Questions.{is_assigned, is_full}
use Rattle.plan.specs.WellMade.{Makes, MadeByCalls, calls_of, period_call, segment_calls, is_well_made}
use Rattle.plan.proofs.Complete.{some_from_fit}
use Rattle.plan.proofs.Judged.{not_refused}
use Rattle.plan.proofs.Kept.{kept}
use Rattle.plan.proofs.Passing.{all_pass-at, ascending_at}
use Rattle.plan.proofs.Standing.{Standing, standing}

-- a plan in the course of its calls
abbrev stage : Option PeriodNumbers → List SegmentNumbers → List Meter → List CarriedPeak → Contents
stage period segments meters carried = record { period = period; segments = segments; meters = meters; carried = carried }

-- where something has begun, the last segment stands
full_from_begun : {X : Type 0} (full : Bool) (xs done : List X) (x : X) (rest : List X) → (full || is_empty xs) ≡ true → xs ≡ done ++ x ∷ rest → full ≡ true
full_from_begun full xs done x rest h l =
    let long : length xs ≡ length done + suc (length rest) = ap length l ∙ length-append done (x ∷ rest) in
    grind (arith, nat_tests)

-- the calls of two runs, one after the other
makes_then : (a b c : Contents) (xs ys : List PlanCall) → Makes a xs b → Makes b ys c → Makes a (xs ++ ys) c
makes_then a b c [] ys e m = subst (λ (p : Contents). Makes p ys c) (sym e) m
makes_then a b c (x ∷ xs) ys m n = (m.0, makes_then (after_call a x) b c xs ys m.1 n)

-- Well-made contents are taken entry by entry: a call of theirs is not refused once those before it were taken.
module _ (plan : Contents) (w : is_well_made plan ≡ true) where
  st : Standing plan
  st = standing plan w

  pub period_taken : (p : PeriodNumbers) → plan.period ≡ Some p → refusal_of nothing (SetPeriod p) ≡ None
  period_taken p e = not_refused true (values_fit nothing (SetPeriod p)) true refl (rw e at st.settled) refl

  pub segment_taken : (done : List SegmentNumbers) (s : SegmentNumbers) (rest : List SegmentNumbers) → plan.segments ≡ done ++ s ∷ rest → refusal_of (stage plan.period done [] []) (AddSegment (length done) s) ≡ None
  segment_taken done s rest l =
      let fit : terms_fit plan.period s ≡ true = all_pass-at (terms_fit plan.period) done s rest (rw l at st.allowed) in
      let long : length plan.segments ≡ length done + suc (length rest) = ap length l ∙ length-append done (s ∷ rest) in
      not_refused (comes_in_order (stage plan.period done [] []) (AddSegment (length done) s)) (terms_fit plan.period s) true
      (and_from (is_some plan.period) (eqb (length done) (length done) && ltb (length done) most_segments)
      (some_from_fit plan.period s fit)
      (and_from (eqb (length done) (length done)) (ltb (length done) most_segments)
      (eq-eqb (length done) (length done) refl)
      (lt-ltb (length done) most_segments (omega (arith, st.few)))))
      fit refl

  pub meter_taken : (done : List Meter) (m : Meter) (rest : List Meter) → plan.meters ≡ done ++ m ∷ rest → refusal_of (stage plan.period plan.segments done []) (AddMeter m) ≡ None
  meter_taken done m rest l =
      not_refused (comes_in_order (stage plan.period plan.segments done []) (AddMeter m)) (meter_fits m) true
      (and_from (is_full plan) (true && list_all (λ other. precedes other m) done)
      (full_from_begun (is_full plan) plan.meters done m rest st.meters_begun l)
      (ascending_at precedes done m rest (rw l at st.meters_ascend)))
      (all_pass-at meter_fits done m rest (rw l at st.meters_fit))
      refl

  pub peak_taken : (done : List CarriedPeak) (k : CarriedPeak) (rest : List CarriedPeak) → plan.carried ≡ done ++ k ∷ rest → refusal_of (stage plan.period plan.segments plan.meters done) (AddCarried k) ≡ None
  peak_taken done k rest l =
      let fit = and_parts (peak_fits k) (is_assigned plan.meters k.meter)
      (all_pass-at (λ p. peak_fits p && is_assigned plan.meters p.meter) done k rest (rw l at st.carried_fit)) in
      not_refused (comes_in_order (stage plan.period plan.segments plan.meters done) (AddCarried k)) (peak_fits k) (is_assigned plan.meters k.meter)
      (and_from (is_full plan) (list_all (λ other. peak_precedes other k) done)
      (full_from_begun (is_full plan) plan.carried done k rest st.carried_begun l)
      (ascending_at peak_precedes done k rest (rw l at st.carried_ascend)))
      fit.0 fit.1

  period_made : (o : Option PeriodNumbers) → plan.period ≡ o → Makes nothing (period_call o) (stage o [] [] [])
  period_made None e = refl
  period_made (Some p) e = (period_taken p e, refl)

  segments_made : (rest done : List SegmentNumbers) (k : ℕ) → k ≡ length done → plan.segments ≡ done ++ rest → Makes (stage plan.period done [] []) (segment_calls k rest) (stage plan.period plan.segments [] [])
  segments_made [] done k e l = ap (λ ss. stage plan.period ss [] []) (sym (l ∙ append-nil done))
  segments_made (s ∷ rest) done k e l =
      (rw e (segment_taken done s rest l), segments_made rest (done ++ s ∷ []) (k + 1) (omega (arith, length_push done s)) (l ∙ sym (append_assoc done (s ∷ []) rest)))

  meters_made : (rest done : List Meter) → plan.meters ≡ done ++ rest → Makes (stage plan.period plan.segments done []) (map AddMeter rest) (stage plan.period plan.segments plan.meters [])
  meters_made [] done l = ap (λ ms. stage plan.period plan.segments ms []) (sym (l ∙ append-nil done))
  meters_made (m ∷ rest) done l = (meter_taken done m rest l, meters_made rest (done ++ m ∷ []) (l ∙ sym (append_assoc done (m ∷ []) rest)))

  carried_made : (rest done : List CarriedPeak) → plan.carried ≡ done ++ rest → Makes (stage plan.period plan.segments plan.meters done) (map AddCarried rest) plan
  carried_made [] done l = ap (λ ks. stage plan.period plan.segments plan.meters ks) (sym (l ∙ append-nil done))
  carried_made (k ∷ rest) done l = (peak_taken done k rest l, carried_made rest (done ++ k ∷ []) (l ∙ sym (append_assoc done (k ∷ []) rest)))

  pub makes_itself : Makes nothing (calls_of plan) plan
  makes_itself =
      let with-period = stage plan.period [] [] [] in
      let with-segments = stage plan.period plan.segments [] [] in
      let with-meters = stage plan.period plan.segments plan.meters [] in
      let last-calls = map AddMeter plan.meters ++ map AddCarried plan.carried in
      makes_then nothing with-period plan (period_call plan.period) (segment_calls 0 plan.segments ++ last-calls)
      (period_made plan.period refl)
      (makes_then with-period with-segments plan (segment_calls 0 plan.segments) last-calls
      (segments_made plan.segments [] 0 refl refl)
      (makes_then with-segments with-meters plan (map AddMeter plan.meters) (map AddCarried plan.carried)
      (meters_made plan.meters [] refl)
      (carried_made plan.carried [] refl)))

pub nothing_well_made : is_well_made nothing ≡ true
unfolding is_well_made
nothing_well_made = refl

makes_well : (start : Contents) (calls : List PlanCall) (plan : Contents) → is_well_made start ≡ true → Makes start calls plan → is_well_made plan ≡ true
makes_well start [] plan w m = subst (λ (p : Contents). is_well_made p ≡ true) m w
makes_well start (call ∷ calls) plan w m = makes_well (after_call start call) calls plan (kept start call w m.0) m.1

pub made_by_calls : MadeByCalls
made_by_calls = record {
  sound = λ calls plan m. makes_well nothing calls plan nothing_well_made m;
  complete = makes_itself;
}
