-- The answer to a call is the answer to the question that it is.
use Rattle.month.proofs.run.Open+Month+A+B+C+D.answer.Goals as goal

pub returns-in_ok-missing-in-Ask-clause-answered : goal.returns-in_ok-missing-in-Ask-clause-answered
returns-in_ok-missing-in-Ask-clause-answered g c = λ terms bookings s.
    rw c.in-Ask.is (c.in_ok-missing-in-Ask.ensures.answered terms bookings s, s)
