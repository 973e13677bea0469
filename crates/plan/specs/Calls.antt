-- The calls that fill a plan: when each is refused, and what the plan holds after it.
use Rattle.std.specs.Prelude.{◌≡◌, ℕ, Bool, true, false, not, ◌&&◌, ◌||◌, List, [], ◌∷◌, ◌++◌, length, is_some, Some, None, Ok, Err, Option, Result, ◌==◌, nat_lt}
use Rattle.std.specs.List.{list_all}
use Rattle.calendar.specs.Calendar.{between, takes_period, whole_month}
use Rattle.tariff.specs.Services.{terms_refusal}
use Rattle.plan.specs.declared.carried.CarriedPeak.{CarriedPeak}
use Rattle.plan.specs.declared.fault.PlanFault.{PlanFault}
use Rattle.plan.specs.declared.meter.Meter.{Meter}
use Rattle.plan.specs.Contents.{Contents, PeriodNumbers, SegmentNumbers}
use Rattle.plan.specs.Faults.{number_of, first_fault}
use Rattle.plan.specs.Limits.{most_segments, most_meters, most_users, most_stations, greatest_amount}
use Rattle.plan.specs.Questions.{is_assigned, is_full}

-- one call: the period, the terms of the segment of that number, a meter, or a carried peak
pub data PlanCall : Type 0 where
  SetPeriod : PeriodNumbers → PlanCall
  AddSegment : ℕ → SegmentNumbers → PlanCall
  AddMeter : Meter → PlanCall
  AddCarried : CarriedPeak → PlanCall

-- has a list no element
abbrev pub is_empty : {X : Type 0} → List X → Bool
is_empty xs = length xs == 0

-- meters ascend by segment, then by number
abbrev pub precedes : Meter → Meter → Bool
precedes a b = nat_lt a.segment b.segment || (a.segment == b.segment && nat_lt a.number b.number)

-- carried peaks ascend by meter
abbrev pub peak_precedes : CarriedPeak → CarriedPeak → Bool
peak_precedes a b = nat_lt a.meter b.meter

-- does the call come in its turn: one period; then the segments 0 to 3; then meters, each above all that the plan has;
-- then carried peaks, each above all that the plan has
abbrev pub comes_in_order : Contents → PlanCall → Bool
comes_in_order plan (SetPeriod p) = not (is_some plan.period)
comes_in_order plan (AddSegment segment s) =
    is_some plan.period && (segment == length plan.segments && nat_lt segment most_segments)
comes_in_order plan (AddMeter m) = is_full plan && (is_empty plan.carried && list_all (λ other. precedes other m) plan.meters)
comes_in_order plan (AddCarried p) = is_full plan && list_all (λ other. peak_precedes other p) plan.carried

-- can the period be settled
abbrev pub period_fits : PeriodNumbers → Bool
period_fits p = takes_period p.year p.month p.hours

-- does the period allow the segment's terms; no terms stand without a period
abbrev pub terms_fit : Option PeriodNumbers → SegmentNumbers → Bool
terms_fit None s = false
terms_fit (Some p) s =
    not (is_some (terms_refusal (whole_month p.year p.month p.hours) s.service s.tariff s.factor))

-- are the meter's segment, number, user and station within their limits
abbrev pub meter_fits : Meter → Bool
meter_fits m =
    nat_lt m.segment most_segments
    && (nat_lt m.number most_meters && (nat_lt m.user most_users && nat_lt m.station most_stations))

-- are the carried peak's meter and amount within their limits
abbrev pub peak_fits : CarriedPeak → Bool
peak_fits p = nat_lt p.meter most_meters && between 1 greatest_amount p.amount

-- are the call's values within their limits
abbrev pub values_fit : Contents → PlanCall → Bool
values_fit plan (SetPeriod p) = period_fits p
values_fit plan (AddSegment segment s) = terms_fit plan.period s
values_fit plan (AddMeter m) = meter_fits m
values_fit plan (AddCarried p) = peak_fits p

-- has the plan the meter that a call presupposes: a carried peak is one of an assigned meter
abbrev pub has_meter : Contents → PlanCall → Bool
has_meter plan (SetPeriod p) = true
has_meter plan (AddSegment segment s) = true
has_meter plan (AddMeter m) = true
has_meter plan (AddCarried p) = is_assigned plan.meters p.meter

-- the number with which a call is refused, if it is
abbrev pub refusal_of : Contents → PlanCall → Option ℕ
refusal_of plan call = first_fault (comes_in_order plan call) (values_fit plan call) (has_meter plan call)

-- what the plan holds after a call that is not refused
abbrev pub after_call : Contents → PlanCall → Contents
after_call plan (SetPeriod p) =
    record { period = Some p; segments = plan.segments; meters = plan.meters; carried = plan.carried }
after_call plan (AddSegment segment s) =
    record { period = plan.period; segments = plan.segments ++ s ∷ []; meters = plan.meters; carried = plan.carried }
after_call plan (AddMeter m) =
    record { period = plan.period; segments = plan.segments; meters = plan.meters ++ m ∷ []; carried = plan.carried }
after_call plan (AddCarried p) =
    record { period = plan.period; segments = plan.segments; meters = plan.meters; carried = plan.carried ++ p ∷ [] }

-- What a call answers, and what the plan holds then. A call that is not refused is taken, or finds no memory, which has no number;
-- a call that is not taken leaves the plan as it was.
abbrev pub Answered : {X : Type 0} → Contents → PlanCall → Result X PlanFault → Contents → Type 0
Answered before call (Ok _) after = (refusal_of before call ≡ None) × (after ≡ after_call before call)
Answered before call (Err fault) after = (refusal_of before call ≡ number_of fault) × (after ≡ before)
