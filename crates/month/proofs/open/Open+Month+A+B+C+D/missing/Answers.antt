-- The hours less the count of the marks are the hours that the meter's bookings leave.
use Rattle.month.specs.OfMonth.{state_of}
use Rattle.month.proofs.Asking.{answered}
use Rattle.month.proofs.open.Open+Month+A+B+C+D.missing.Goals as goal

pub returns-clause-answered : goal.returns-clause-answered
returns-clause-answered g c = λ terms bookings s.
    answered terms bookings c.args.segment c.args.meter (state_of c.args.self.now.0) s c.in_ok-segment.ensures.answer
    c.hours.result _ c.hours.ensures.value (rw c.in_ok-segment.ensures.numbered at c.in_ok-missing_in.ensures.1)
