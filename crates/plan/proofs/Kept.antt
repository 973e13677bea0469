-- A call that is taken keeps a plan's contents well made. Assumes nothing.
use Rattle.std.proofs.Common.{◌≡◌, ℕ, ◌<◌, Bool, true, false, cond, not, ◌&&◌, ◌||◌, eqb, ltb, List, [], ◌∷◌, ◌++◌, length, is_some, Some, None, Option, sym, refl, subst, arith}
use Rattle.std.proofs.lemmas.List.{length_push, nil_from_length}
use Rattle.std.proofs.lemmas.Bool.{and_from, and_parts, eqb-true, false≢true, ltb-true, or_left, or_right}
use Rattle.std.proofs.lemmas.Bool.Decides.{nat_tests}
use Rattle.std.specs.List.{list_all}
use Rattle.plan.specs.declared.carried.CarriedPeak.{CarriedPeak}
use Rattle.plan.specs.declared.meter.Meter.{Meter}
use Rattle.plan.specs.Calls.{PlanCall, SetPeriod, AddSegment, AddMeter, AddCarried, after_call, has_meter, values_fit, comes_in_order, is_empty, meter_fits, peak_fits, peak_precedes, precedes, refusal_of, terms_fit}
use Rattle.plan.specs.Contents.{Contents, PeriodNumbers, SegmentNumbers}
use Rattle.plan.specs.Limits.{most_segments}
use Rattle.plan.specs.Questions.{is_assigned, is_full}
use Rattle.plan.specs.WellMade.{is_well_made}
use Rattle.plan.proofs.Judged.{Passed, passed}
use Rattle.plan.proofs.Passing.{all_pass-push, ascending_push}
use Rattle.plan.proofs.Standing.{Standing, standing, standing_is_well_made}

-- without a period there is no segment whose terms any period could refuse
allowed_none : (o : Option PeriodNumbers) (segments : List SegmentNumbers) → list_all (terms_fit None) segments ≡ true → list_all (terms_fit o) segments ≡ true
allowed_none o [] h = refl
allowed_none o (s ∷ ss) h = absurd (false≢true h)

period_kept : (plan : Contents) (p : PeriodNumbers) → Standing plan → refusal_of plan (SetPeriod p) ≡ None → Standing (after_call plan (SetPeriod p))
period_kept plan p s h =
    let checks = passed (comes_in_order plan (SetPeriod p)) (values_fit plan (SetPeriod p)) true h in
    let unset : plan.period ≡ None = none_from plan.period checks.ordered_is in
    record {
      settled = checks.within_is;
      few = s.few;
      allowed = allowed_none (Some p) plan.segments (rw unset at s.allowed);
      meters_begun = s.meters_begun;
      meters_fit = s.meters_fit;
      meters_ascend = s.meters_ascend;
      carried_begun = s.carried_begun;
      carried_fit = s.carried_fit;
      carried_ascend = s.carried_ascend;
    }
  where
    none_from : (o : Option PeriodNumbers) → not (is_some o) ≡ true → o ≡ None
    none_from None e = refl
    none_from (Some q) e = absurd (false≢true e)

-- an empty list is the empty list
nil_from_empty : {X : Type 0} (xs : List X) → is_empty xs ≡ true → xs ≡ []
nil_from_empty xs h = nil_from_length xs (eqb-true (length xs) 0 h)

-- before the last segment nothing has begun
empty_before_full : {X : Type 0} (n : ℕ) (xs : List X) → n < most_segments → (eqb n most_segments || is_empty xs) ≡ true → is_empty xs ≡ true
empty_before_full n xs l h = grind (arith, nat_tests)

module _ (plan : Contents) (segment : ℕ) (s : SegmentNumbers) (st : Standing plan) (h : refusal_of plan (AddSegment segment s) ≡ None) where
  checks : Passed (comes_in_order plan (AddSegment segment s)) (values_fit plan (AddSegment segment s)) true
  checks = passed (comes_in_order plan (AddSegment segment s)) (values_fit plan (AddSegment segment s)) true h

  room : length plan.segments < most_segments
  room =
      let o = and_parts (is_some plan.period) (eqb segment (length plan.segments) && ltb segment most_segments) checks.ordered_is in
      let p = and_parts (eqb segment (length plan.segments)) (ltb segment most_segments) o.1 in
      omega (arith, eqb-true segment (length plan.segments) p.0, ltb-true segment most_segments p.1)

  segment_kept : Standing (after_call plan (AddSegment segment s))
  segment_kept =
      let meters = empty_before_full (length plan.segments) plan.meters room st.meters_begun in
      let carried = empty_before_full (length plan.segments) plan.carried room st.carried_begun in
      record {
        settled = st.settled;
        few = omega (arith, length_push plan.segments s, room);
        allowed = all_pass-push (terms_fit plan.period) plan.segments s st.allowed checks.within_is;
        meters_begun = or_right (is_full (after_call plan (AddSegment segment s))) (is_empty plan.meters) meters;
        meters_fit = st.meters_fit;
        meters_ascend = st.meters_ascend;
        carried_begun = or_right (is_full (after_call plan (AddSegment segment s))) (is_empty plan.carried) carried;
        carried_fit = st.carried_fit;
        carried_ascend = st.carried_ascend;
      }

meter_kept : (plan : Contents) (m : Meter) → Standing plan → refusal_of plan (AddMeter m) ≡ None → Standing (after_call plan (AddMeter m))
meter_kept plan m s h =
    let checks = passed (comes_in_order plan (AddMeter m)) (values_fit plan (AddMeter m)) true h in
    let o = and_parts (is_full plan) (is_empty plan.carried && list_all (λ other. precedes other m) plan.meters) checks.ordered_is in
    let p = and_parts (is_empty plan.carried) (list_all (λ other. precedes other m) plan.meters) o.1 in
    let none : plan.carried ≡ [] = nil_from_empty plan.carried p.0 in
    record {
      settled = s.settled;
      few = s.few;
      allowed = s.allowed;
      meters_begun = or_left (is_full plan) (is_empty (plan.meters ++ m ∷ [])) o.0;
      meters_fit = all_pass-push meter_fits plan.meters m s.meters_fit checks.within_is;
      meters_ascend = ascending_push precedes plan.meters m s.meters_ascend p.1;
      carried_begun = s.carried_begun;
      carried_fit = rw none refl;
      carried_ascend = s.carried_ascend;
    }

peak_kept : (plan : Contents) (k : CarriedPeak) → Standing plan → refusal_of plan (AddCarried k) ≡ None → Standing (after_call plan (AddCarried k))
peak_kept plan k s h =
    let checks = passed (comes_in_order plan (AddCarried k)) (values_fit plan (AddCarried k)) (has_meter plan (AddCarried k)) h in
    let o = and_parts (is_full plan) (list_all (λ other. peak_precedes other k) plan.carried) checks.ordered_is in
    record {
      settled = s.settled;
      few = s.few;
      allowed = s.allowed;
      meters_begun = s.meters_begun;
      meters_fit = s.meters_fit;
      meters_ascend = s.meters_ascend;
      carried_begun = or_left (is_full plan) (is_empty (plan.carried ++ k ∷ [])) o.0;
      carried_fit =
          all_pass-push (λ p. peak_fits p && is_assigned plan.meters p.meter) plan.carried k s.carried_fit
          (and_from (peak_fits k) (is_assigned plan.meters k.meter) checks.within_is checks.assigned_is);
      carried_ascend = ascending_push peak_precedes plan.carried k s.carried_ascend o.1;
    }

standing_kept : (plan : Contents) (call : PlanCall) → Standing plan → refusal_of plan call ≡ None → Standing (after_call plan call)
standing_kept plan (SetPeriod p) s h = period_kept plan p s h
standing_kept plan (AddSegment segment t) s h = segment_kept plan segment t s h
standing_kept plan (AddMeter m) s h = meter_kept plan m s h
standing_kept plan (AddCarried k) s h = peak_kept plan k s h

pub kept : (plan : Contents) (call : PlanCall) → is_well_made plan ≡ true → refusal_of plan call ≡ None → is_well_made (after_call plan call) ≡ true
kept plan call w h = standing_is_well_made (after_call plan call) (standing_kept plan call (standing plan w) h)

-- a list after a push that did or did not find memory
pub after_push : {X : Type 0} (P : List X → Type 0) (ok : Bool) (xs ys : List X) (x : X) → ys ≡ cond ok (xs ++ x ∷ []) xs → P (xs ++ x ∷ []) → P xs → P ys
after_push P true xs ys x e more same = subst P (sym e) more
after_push P false xs ys x e more same = subst P (sym e) same
