-- Every word of a file fits its bits. Assumes nothing.
use Rattle.std.proofs.Common.{◌≡◌, ℕ, ◌^◌, ◌<◌, ◌≤◌, Bool, true, false, List, [], ◌∷◌, Some, None, Option, arith}
use Rattle.std.specs.List.{flat_map, AllByRecursion}
use Rattle.std.proofs.ByRecursion.{All-append}
use Rattle.std.proofs.lemmas.Bool.{false≢true}
use Rattle.std.proofs.lemmas.Bool.Decides.{nat_tests}
use Rattle.calendar.specs.Calendar.{days_of_month, longest_month, most_hours, takes_period}
use Rattle.plan.specs.Calls.{PlanCall, SetPeriod, AddSegment, AddMeter, AddCarried, after_call, has_meter, comes_in_order, refusal_of, terms_fit, values_fit}
use Rattle.plan.specs.Contents.{Contents, PeriodNumbers, SegmentNumbers, nothing}
use Rattle.plan.specs.WellMade.{Makes, calls_of}
use Rattle.plan.specs.declared.booking.Booking.{Booking}
use Rattle.plan.proofs.Judged.{passed}
use Rattle.plan.proofs.Within.{meter_is_within, peak_within}
use Rattle.words.specs.Layout.{encoded, FieldsFit}
use Rattle.words.specs.declared.spot.Spot.{Spot}
use Rattle.words.specs.declared.word.Word.{Word}
use Rattle.words.specs.declared.word.Word.TheVariants.{Period, Segment, Factor, Meter, Select, Amount, Carried}
use Rattle.monthfile.specs.File.{spot_of, one_on, comes_next, call_words, plan_words, select_words, booking_words, file_words}
use Rattle.monthfile.specs.Inverse.{Holdable}

-- a word that fits its bits is a number of 32 bits
pub encoded-below : (word : Word) → FieldsFit word → encoded word < 2 ^ 32
encoded-below (Period year month hours) fit = omega arith
encoded-below (Segment given) fit = omega arith
encoded-below (Factor segment factor) fit = omega arith
encoded-below (Meter segment user station meter) fit = omega arith
encoded-below (Select spot) fit = omega arith
encoded-below (Amount amount) fit = omega arith
encoded-below (Carried meter amount) fit = omega arith

days_few : (year month : ℕ) → days_of_month year month ≤ longest_month
days_few year month = grind (arith, nat_tests)

hours_few : (year month : ℕ) → most_hours year month ≤ 745
hours_few year month = grind (arith, nat_tests, days_few year month)

period_is_fitting : (y m h : ℕ) → takes_period y m h ≡ true → FieldsFit (Period y m h)
period_is_fitting y m h e = (grind (arith, nat_tests), grind (arith, nat_tests), grind (arith, nat_tests, hours_few y m))

abbrev TermsBelow : SegmentNumbers → Type 0
TermsBelow s = (s.service < 2 ^ 2) × (s.tariff < 2 ^ 14) × (s.factor < 2 ^ 11)

terms_are_fitting : (o : Option PeriodNumbers) (s : SegmentNumbers) → terms_fit o s ≡ true → TermsBelow s
terms_are_fitting None s h = absurd (false≢true h)
terms_are_fitting (Some p) s h = (grind (arith, nat_tests), grind (arith, nat_tests), grind (arith, nat_tests))

call_fits : (plan : Contents) (call : PlanCall) → refusal_of plan call ≡ None → AllByRecursion FieldsFit (call_words call)
call_fits plan (SetPeriod p) none =
    let taken = passed (comes_in_order plan (SetPeriod p)) (values_fit plan (SetPeriod p)) true none in
    (period_is_fitting p.year p.month p.hours taken.within_is, tt)
call_fits plan (AddSegment segment s) none =
    let taken = passed (comes_in_order plan (AddSegment segment s)) (values_fit plan (AddSegment segment s)) true none in
    let ordered = taken.ordered_is in
    let below : segment < 2 ^ 2 = grind (arith, nat_tests) in
    let terms = terms_are_fitting plan.period s taken.within_is in
    ((below, terms.0, terms.1), ((below, terms.2), tt))
call_fits plan (AddMeter m) none =
    let w = meter_is_within m (passed (comes_in_order plan (AddMeter m)) (values_fit plan (AddMeter m)) true none).within_is in
    ((w.segment_below, w.user_below, w.station_below, w.number_below), tt)
call_fits plan (AddCarried p) none =
    let w = peak_within p (passed (comes_in_order plan (AddCarried p)) (values_fit plan (AddCarried p)) (has_meter plan (AddCarried p)) none).within_is in
    ((w.meter_below, omega (arith, w.amount_most)), tt)

calls_fit : (calls : List PlanCall) (plan end : Contents) → Makes plan calls end → AllByRecursion FieldsFit (flat_map call_words calls)
calls_fit [] plan end makes = tt
calls_fit (call ∷ calls) plan end makes =
    All-append FieldsFit (call_words call) (flat_map call_words calls) (call_fits plan call makes.0) (calls_fit calls (after_call plan call) end makes.1)

select_fits : (next : Bool) (b : Booking) → Holdable b → AllByRecursion FieldsFit (select_words next (spot_of b))
select_fits true b held = tt
select_fits false b held = ((held.segment, held.meter, omega (arith, held.hour)), tt)

bookings_fit : (next : Option Spot) (bs : List Booking) → AllByRecursion Holdable bs → AllByRecursion FieldsFit (booking_words next bs)
bookings_fit next [] all = tt
bookings_fit next (b ∷ bs) all =
    All-append FieldsFit (select_words (comes_next next (spot_of b)) (spot_of b)) (Amount b.amount ∷ booking_words (Some (one_on (spot_of b))) bs)
    (select_fits (comes_next next (spot_of b)) b all.0) (all.0.amount, bookings_fit (Some (one_on (spot_of b))) bs all.1)

pub file_words_fit : (plan : Contents) (bookings : List Booking) → Makes nothing (calls_of plan) plan → AllByRecursion Holdable bookings
    → AllByRecursion FieldsFit (file_words plan bookings)
file_words_fit plan bookings makes all =
    All-append FieldsFit (plan_words plan) (booking_words None bookings) (calls_fit (calls_of plan) nothing plan makes) (bookings_fit None bookings all)
