-- What a question about a meter's missing hours answers, and that none about an assigned meter is refused.
use Rattle.std.proofs.Common.{◌≡◌, ℕ, ◌-◌, ◌<◌, true, cond, ltb, List, is_some, is_ok, Some, None, Ok, Err, Option, Result, refl, ap, ◌∙◌, subst, arith, MatchResult}
use Rattle.std.specs.List.{ContainsAt as Has}
use Rattle.std.proofs.lemmas.Bool.{and_from, cond-true, lt-ltb}
use Rattle.std.proofs.lemmas.Bool.Decides.{nat_tests}
use Rattle.book.specs.Contents.{count_at}
use Rattle.plan.specs.Calls.{meter_fits}
use Rattle.plan.specs.Contents.{Contents as PlanContents}
use Rattle.plan.specs.Limits.{most_meters, most_segments}
use Rattle.plan.specs.Questions.{holder_of}
use Rattle.plan.specs.WellMade.{is_well_made}
use Rattle.plan.specs.declared.booking.Booking.{Booking}
use Rattle.plan.specs.declared.meter.Meter.{Meter}
use Rattle.plan.proofs.Only.{holder_only}
use Rattle.plan.proofs.Passing.{all_pass-has}
use Rattle.plan.proofs.Standing.{standing}
use Rattle.plan.proofs.Within.{meter_is_within}
use Rattle.month.specs.Bookings.{ask_refusal, meter_within, refused_or}
use Rattle.month.specs.Calls.{AnswersQuestion}
use Rattle.month.specs.Faults.{number_of}
use Rattle.month.specs.Stands.{Stands, State}
use Rattle.month.specs.Terms.{Terms, hours_of}
use Rattle.month.specs.declared.fault.BookingFault.{BookingFault}
use Rattle.month.proofs.Within.{booked_within, missing_lacked}

meter_below : (segment meter : ℕ) (o : Option ℕ) →
    cond (meter_within segment meter) o (Some 3) ≡ None →
    (segment < most_segments) × (meter < most_meters)
meter_below segment meter o e = (grind (arith, nat_tests), grind (arith, nat_tests))

pub answered : (terms : Terms) (bookings : List Booking) (segment meter : ℕ) (state : State) →
    Stands terms bookings state →
    ((next : Option ℕ) → refused_or state.contents (meter_within segment meter) segment meter next ≡ next) →
    (hours missing : ℕ) →
    hours ≡ hours_of state.contents →
    missing ≡ hours - count_at (state.books segment) meter →
    AnswersQuestion terms bookings segment meter (Ok missing)
answered terms bookings segment meter state s admitted hours missing h e =
    let below = meter_below segment meter _ (admitted None) in
    let all = ap hours_of s.contents in
    let count = (s.books segment below.0).counts meter below.1 in
    let within = booked_within terms bookings s.taken segment meter in (
      subst (λ (plan : PlanContents). refused_or plan (meter_within segment meter) segment meter None ≡ None) s.contents (admitted None),
      omega (arith, h, e, all, count),
      omega (arith, h, e, all, count, within),
      omega (arith, h, e, all, count) ∙ missing_lacked terms bookings s.taken segment meter,
    )

-- the plan assigns each of its meters, and they lie within their limits
pub not_refused : (plan : PlanContents) (m : Meter) → is_well_made plan ≡ true → Has plan.meters m → ask_refusal plan m.segment m.number ≡ None
not_refused plan m made has =
    let within = meter_is_within m (all_pass-has meter_fits plan.meters m (standing plan made).meters_fit has) in
    let inside : meter_within m.segment m.number ≡ true =
    and_from (ltb m.segment most_segments) (ltb m.number most_meters)
    (lt-ltb m.segment most_segments within.segment_below) (lt-ltb m.number most_meters within.number_below) in
    let assigned = ap is_some (holder_only plan made m.segment m.number m has refl refl) in
    cond-true (meter_within m.segment m.number) _ _ inside
    ∙ cond-true (is_some (holder_of plan m.segment m.number)) None (Some 4) assigned

pub ok_from_none : {X : Type 0} (r : Result X BookingFault) (refusal : Option ℕ) →
    MatchResult r (λ _. refusal ≡ None) (λ fault. refusal ≡ Some (number_of fault)) →
    refusal ≡ None →
    is_ok r ≡ true
ok_from_none (Ok x) refusal told none = refl
ok_from_none (Err fault) refusal told none = let z : ◌≡◌ {A = ℕ} 0 1 = cc in absurd (omega arith)
