-- A gap for each meter gone through.
use Rattle.std.proofs.Common.{◌≡◌, List, map, take, vec_items}
use Rattle.plan.specs.declared.booking.Booking.{Booking}
use Rattle.month.specs.Gaps.{AnswersGaps, gap_of}
use Rattle.month.specs.OfMonth.{state_of}
use Rattle.month.specs.Stands.{Stands}
use Rattle.month.specs.Terms.{Terms}
use Rattle.month.proofs.gaps.Open+Month+A+B+C+D.gaps.Given as goal

abbrev pub invariant-loop-meter : goal.invariant-loop-meter
invariant-loop-meter g l =
    (terms : Terms) (bookings : List Booking) →
    Stands terms bookings (state_of l.self.0) →
    (vec_items l.gaps ≡ map (gap_of terms bookings) (take l.meter-index l.meters))
    × AnswersGaps terms bookings (vec_items l.gaps)
