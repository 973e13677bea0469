-- The contents that calls can make.
use Rattle.std.specs.Prelude.{◌≡◌, ℕ, ◌+◌, Bool, true, ◌&&◌, ◌||◌, List, [], ◌∷◌, ◌++◌, map, length, Some, None, Option, nat_le}
use Rattle.std.specs.List.{list_all}
use Rattle.plan.specs.Calls.{PlanCall, SetPeriod, AddSegment, AddMeter, AddCarried, after_call, is_empty, meter_fits, peak_fits, peak_precedes, period_fits, precedes, refusal_of, terms_fit}
use Rattle.plan.specs.Contents.{Contents, PeriodNumbers, SegmentNumbers, nothing}
use Rattle.plan.specs.Limits.{most_segments}
use Rattle.plan.specs.Questions.{is_assigned, is_full}

-- does each element of a list precede all that come after it
abbrev pub ascending : {X : Type 0} → (X → X → Bool) → List X → Bool
ascending before [] = true
ascending before (x ∷ xs) = list_all (before x) xs && ascending before xs

-- the period, if there is one, can be settled
abbrev pub period_stands : Option PeriodNumbers → Bool
period_stands None = true
period_stands (Some p) = period_fits p

-- there are at most so many segments, and the period allows the terms of each; without a period there is none
abbrev pub segments_stand : Contents → Bool
segments_stand plan =
    nat_le (length plan.segments) most_segments && list_all (terms_fit plan.period) plan.segments

-- meters stand only after the last segment; they are within their limits and ascend
abbrev pub meters_stand : Contents → Bool
meters_stand plan =
    (is_full plan || is_empty plan.meters)
    && (list_all meter_fits plan.meters && ascending precedes plan.meters)

-- carried peaks stand only after the last segment; they are within their limits, of assigned meters, and ascend
abbrev pub carried_stand : Contents → Bool
carried_stand plan =
    (is_full plan || is_empty plan.carried)
    && (list_all (λ p. peak_fits p && is_assigned plan.meters p.meter) plan.carried
    && ascending peak_precedes plan.carried)

unfoldable pub is_well_made : Contents → Bool
is_well_made plan = period_stands plan.period && (segments_stand plan && (meters_stand plan && carried_stand plan))

-- each of the calls is taken, and after the last the plan holds these contents
abbrev pub Makes : Contents → List PlanCall → Contents → Type 0
Makes plan [] end = plan ≡ end
Makes plan (call ∷ calls) end = (refusal_of plan call ≡ None) × Makes (after_call plan call) calls end

-- the call that gives the period, if there is one
abbrev pub period_call : Option PeriodNumbers → List PlanCall
period_call None = []
period_call (Some p) = SetPeriod p ∷ []

-- the calls that give segments their terms, from this number on
abbrev pub segment_calls : ℕ → List SegmentNumbers → List PlanCall
segment_calls segment [] = []
segment_calls segment (s ∷ ss) = AddSegment segment s ∷ segment_calls (segment + 1) ss

-- the calls for a plan's contents: its period, its segments, its meters, its carried peaks
abbrev pub calls_of : Contents → List PlanCall
calls_of plan =
    period_call plan.period
    ++ (segment_calls 0 plan.segments ++ (map AddMeter plan.meters ++ map AddCarried plan.carried))

-- Well-made contents are those that calls make of an empty plan, and there they are made by their own calls.
pub record MadeByCalls : Type 0 where
  pub sound : (calls : List PlanCall) (plan : Contents) → Makes nothing calls plan → is_well_made plan ≡ true
  pub complete : (plan : Contents) → is_well_made plan ≡ true → Makes nothing (calls_of plan) plan
