-- What a list of accepted bookings makes of a month: each meter's hours and weight, each hour's sum, and which booking
-- or question is refused next.
use Rattle.std.specs.Prelude.{◌≡◌, ℕ, ◌-◌, Bool, cond, not, ◌&&◌, List, ◌++◌, map, is_some, Some, None, Ok, Err, sum_by, count_by, filter, Option, Result, ◌==◌, nat_le, nat_lt}
use Rattle.std.specs.List.{range_with_len}
use Rattle.book.specs.declared.fault.BookFault.TheVariants.{AlreadyBooked, Source}
use Rattle.plan.specs.Contents.{Contents}
use Rattle.plan.specs.Limits.{greatest_amount, most_meters, most_segments}
use Rattle.plan.specs.Questions.{holder_of}
use Rattle.plan.specs.declared.booking.Booking.{Booking}
use Rattle.weights.specs.Accepted.{joined_all}
use Rattle.weights.specs.Limits.{greatest_weight}
use Rattle.weights.specs.declared.fault.WeightFault.TheVariants.{TooHeavy}
use Rattle.month.specs.Faults.{number_of}
use Rattle.month.specs.Terms.{Terms, hours_of, peaks_of}
use Rattle.month.specs.declared.fault.BookingFault.{BookingFault}
use Rattle.month.specs.declared.fault.BookingFault.TheVariants.{OutOfRange, Unassigned, Refused}

-- is it a booking of this meter
abbrev pub is_of : (segment meter : ℕ) → Booking → Bool
is_of segment meter b = b.segment == segment && b.meter == meter

-- is it a booking of this meter in this hour
abbrev pub is_of_hour : (segment meter hour : ℕ) → Booking → Bool
is_of_hour segment meter hour b = is_of segment meter b && b.hour == hour

-- is it a booking of any meter of the segment in this hour
abbrev pub is_at : (segment hour : ℕ) → Booking → Bool
is_at segment hour b = b.segment == segment && b.hour == hour

module _ (bookings : List Booking) where
  -- the amounts of a meter, one by one
  abbrev pub amounts_of : (segment meter : ℕ) → List ℕ
  amounts_of segment meter = map (λ b. b.amount) (filter (is_of segment meter) bookings)

  -- how many bookings a meter has
  abbrev pub booked_of : (segment meter : ℕ) → ℕ
  booked_of segment meter = count_by (is_of segment meter) bookings

  -- has the meter a booking of the hour
  abbrev pub has_hour : (segment meter hour : ℕ) → Bool
  has_hour segment meter hour = nat_lt 0 (count_by (is_of_hour segment meter hour) bookings)

  -- the sum of an hour: the amounts of the segment in it
  abbrev pub sum_of : (segment hour : ℕ) → ℕ
  sum_of segment hour = sum_by (λ b. b.amount) (filter (is_at segment hour) bookings)

-- does the plan assign the meter
abbrev pub is_assigned : Contents → (segment meter : ℕ) → Bool
is_assigned plan segment meter = is_some (holder_of plan segment meter)

-- What the plan has a call on a meter refused with: 3 where a value of the call lies outside its limits, then 4 where the
-- meter is not assigned; else what is next.
abbrev pub refused_or : Contents → (within : Bool) (segment meter : ℕ) (next : Option ℕ) → Option ℕ
refused_or plan within segment meter next =
    cond within (cond (is_assigned plan segment meter) next (Some (number_of Unassigned))) (Some (number_of OutOfRange))

-- What such a check answers: where it passes, what is next stands; else its fault stands, whatever is next.
abbrev pub Checked : {X : Type 0} → Contents → (within : Bool) (segment meter : ℕ) → Result X BookingFault → Type 0
Checked plan within segment meter (Ok _) = (next : Option ℕ) → refused_or plan within segment meter next ≡ next
Checked plan within segment meter (Err fault) =
    (next : Option ℕ) → refused_or plan within segment meter next ≡ Some (number_of fault)

-- is there such a segment and such a meter
abbrev pub meter_within : (segment meter : ℕ) → Bool
meter_within segment meter = nat_lt segment most_segments && nat_lt meter most_meters

-- the same of a booking, with the hours of the month and the greatest amount
abbrev pub booking_within : (hours : ℕ) → Booking → Bool
booking_within hours b =
    meter_within b.segment b.meter && (nat_lt b.hour hours && nat_le b.amount greatest_amount)

-- the number that a question about a meter is refused with, if any
abbrev pub ask_refusal : Contents → (segment meter : ℕ) → Option ℕ
ask_refusal plan segment meter = refused_or plan (meter_within segment meter) segment meter None

module _ (terms : Terms) (bookings : List Booking) where
  -- a meter's weight: zero joined with its carried peak, if any, then with its amounts one by one
  abbrev pub weight_of : (segment meter : ℕ) → ℕ
  weight_of segment meter =
      joined_all (terms.joins segment) 0 (peaks_of terms segment meter ++ amounts_of bookings segment meter)

  -- how many hours of the month a meter still misses
  abbrev pub missing_of : (segment meter : ℕ) → ℕ
  missing_of segment meter = hours_of terms.contents - booked_of bookings segment meter

  -- how many of the month's hours no booking of the meter is for
  abbrev pub lacked_of : (segment meter : ℕ) → ℕ
  lacked_of segment meter =
      count_by (λ hour. not (has_hour bookings segment meter hour)) (range_with_len 0 (hours_of terms.contents))

  -- what a booking is refused with by the meter's own bookings: 5 where it has the hour, then 6 where its weight joined
  -- with the amount would pass 15,000,000
  abbrev pub own_refusal : Booking → Option ℕ
  own_refusal b =
      cond (has_hour bookings b.segment b.meter b.hour) (Some (number_of (Refused AlreadyBooked)))
      (
      cond (nat_le (terms.joins b.segment (weight_of b.segment b.meter) b.amount) greatest_weight) None
      (Some (number_of (Refused (Source TooHeavy))))
      )

  -- the number that a booking is refused with, if any: 3, then 4, then 5, then 6
  abbrev pub booking_refusal : Booking → Option ℕ
  booking_refusal b =
      refused_or terms.contents (booking_within (hours_of terms.contents) b) b.segment b.meter (own_refusal b)
