-- The calls gone through are answered one by one, and the month stands as they leave it.
use Rattle.std.proofs.Common.{◌≡◌, ◌≤◌, true, List, length, take, vec_items, vec_len, vec_capacity}
use Rattle.plan.specs.declared.booking.Booking.{Booking}
use Rattle.month.specs.Calls.{AnswersEach, accepted_from, none_booked}
use Rattle.month.specs.OfMonth.{state_of}
use Rattle.month.specs.Stands.{Stands, Unchanged}
use Rattle.month.specs.Terms.{Terms}
use Rattle.month.proofs.run.Open+Month+A+B+C+D.run.Given as goal

abbrev pub invariant-loop-call : goal.invariant-loop-call
invariant-loop-call g l =
    ((terms : Terms) (bookings : List Booking) →
    Stands terms bookings (state_of l.initial.self.0) →
    Stands terms (accepted_from terms bookings (take l.call-index l.calls)) (state_of l.self.0)
    × AnswersEach terms bookings (take l.call-index l.calls) (vec_items l.answers))
    × (vec_len l.answers ≡ l.call-index)
    × (length l.calls ≤ vec_capacity l.answers)
    × (none_booked (vec_items l.answers) ≡ true → Unchanged (state_of l.initial.self.0) (state_of l.self.0))
