-- The order in which bookings were accepted makes no difference to what they make of a month.
use Rattle.std.specs.Prelude.{◌≡◌, ℕ, ◌<◌, List}
use mathlib.Core.List.{Perm}
use Rattle.plan.specs.Limits.{most_segments}
use Rattle.plan.specs.declared.booking.Booking.{Booking}
use Rattle.month.specs.Bookings.{booked_of, has_hour, sum_of, weight_of}
use Rattle.month.specs.Terms.{Terms}

-- each meter's weight and hours, how many they are, and each hour's sum are the same for two lists of bookings
pub record Alike (terms : Terms) (bookings others : List Booking) : Type 0 where
  pub weights : (segment meter : ℕ) →
      segment < most_segments →
      weight_of terms others segment meter ≡ weight_of terms bookings segment meter
  pub hours : (segment meter hour : ℕ) → has_hour others segment meter hour ≡ has_hour bookings segment meter hour
  pub counts : (segment meter : ℕ) → booked_of others segment meter ≡ booked_of bookings segment meter
  pub sums : (segment hour : ℕ) → sum_of others segment hour ≡ sum_of bookings segment hour

-- whatever the bookings, in another order they come to the same
abbrev pub Rearranges : Terms → Type 0
Rearranges terms = (bookings others : List Booking) → Perm bookings others → Alike terms bookings others
