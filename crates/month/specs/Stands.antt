-- What it means that a month's books stand as its terms and a list of accepted bookings say.
use Rattle.std.specs.Prelude.{◌≡◌, ℕ, ◌-◌, ◌<◌, List, map, None, ◌≢◌, slice_index}
use Rattle.book.specs.Answers.{Entered}
use Rattle.book.specs.Contents.{Contents as BookContents, count_at, marked_at, sum_at}
use Rattle.book.specs.Limits.{hour_count}
use Rattle.plan.specs.Contents.{Contents as PlanContents}
use Rattle.plan.specs.Limits.{most_meters, most_segments}
use Rattle.plan.specs.declared.booking.Booking.{Booking}
use Rattle.month.specs.Bookings.{booked_of, has_hour, sum_of, weight_of}
use Rattle.month.specs.Calls.{accepted}
use Rattle.month.specs.Opening.{opening_refusal}
use Rattle.month.specs.Terms.{Terms, hours_of}
use Rattle.month.specs.declared.call.Call.TheVariants.{Book}

-- what a month holds: its plan, and by segment the joining of the source and what the book holds
pub record State : Type 0 where
  pub contents : PlanContents
  pub joins : ℕ → ℕ → ℕ → ℕ
  pub books : ℕ → BookContents

-- a segment's book has for each meter the hours and the weight, and for each hour the sum, that terms and bookings say
pub record BookStands (terms : Terms) (bookings : List Booking) (segment : ℕ) (book : BookContents) : Type 0 where
  pub marks : (meter hour : ℕ) →
      meter < most_meters →
      hour < hour_count →
      marked_at book meter hour ≡ has_hour bookings segment meter hour
  pub counts : (meter : ℕ) → meter < most_meters → count_at book meter ≡ booked_of bookings segment meter
  pub sums : (hour : ℕ) → hour < hour_count → sum_at book hour ≡ sum_of bookings segment hour
  pub weights : (meter : ℕ) → meter < most_meters → slice_index book.weights meter ≡ weight_of terms bookings segment meter

pub record Stands (terms : Terms) (bookings : List Booking) (state : State) : Type 0 where
  -- the month is the one that these terms open
  pub contents : state.contents ≡ terms.contents
  pub joins : (segment : ℕ) → segment < most_segments → state.joins segment ≡ terms.joins segment
  pub opened : opening_refusal terms ≡ None
  -- the bookings, made one by one in a new month, are all accepted
  pub taken : accepted terms (map Book bookings) ≡ bookings
  pub books : (segment : ℕ) → segment < most_segments → BookStands terms bookings segment (state.books segment)

-- what holds of all terms and bookings that the state stands as
abbrev pub AsStands : State → (Terms → List Booking → Type 0) → Type 0
AsStands state Holds = (terms : Terms) (bookings : List Booking) → Stands terms bookings state → Holds terms bookings

-- nothing that a month holds has changed
pub record Unchanged (before after : State) : Type 0 where
  pub contents : after.contents ≡ before.contents
  pub joins : after.joins ≡ before.joins
  pub books : (segment : ℕ) → segment < most_segments → after.books segment ≡ before.books segment

-- what an accepted booking changes: in its segment's book one hour of its meter, that hour's sum and the meter's weight;
-- the rest of the month is as it was
pub record BookingEntered (before : State) (b : Booking) (after : State) : Type 0 where
  pub contents : after.contents ≡ before.contents
  pub joins : after.joins ≡ before.joins
  pub entered :
      Entered (before.joins b.segment) (before.books b.segment) b.meter b.hour b.amount (after.books b.segment)
  pub others : (segment : ℕ) → segment < most_segments → (segment ≢ b.segment) → after.books segment ≡ before.books segment

-- the hours of the month less the ones in the mark words of the meter
abbrev pub unmarked_at : State → (segment meter : ℕ) → ℕ
unmarked_at state segment meter = hours_of state.contents - count_at (state.books segment) meter
