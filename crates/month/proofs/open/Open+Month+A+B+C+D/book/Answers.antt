-- The book's answer is the one that the rules define, and what it leaves stands as they say.
use Rattle.std.proofs.Common.{◌≡◌, length, refl}
use Rattle.std.proofs.lemmas.Result.{err_from_is_err_and}
use Rattle.weights.specs.Limits.{meter_count}
use Rattle.book.specs.OfBook.{book_contents}
use Rattle.month.specs.OfMonth.{state_of}
use Rattle.month.proofs.Taking.{by_segment-each, refused, taken}
use Rattle.month.proofs.open.Open+Month+A+B+C+D.book.Goals as goal

pub returns-in_err-book_in-clause-answered : goal.returns-in_err-book_in-clause-answered
returns-in_err-book_in-clause-answered g c =
    let p = err_from_is_err_and c.from_residual-in_err-book_in.result c.from_residual-in_err-book_in.ensures.1 in
    let e = c.in_err-book_in.ensures in
    let a = c.in_ok-segment.ensures in
    let others = rw a.numbered at e.others in
    let booked = rw a.numbered at e.booked in
    let after = state_of (record { plan = c.args.self.now.0.plan; books = c.book_in.new.self }) in
    rw (p.1, p.2) (λ terms bookings s.
    refused terms bookings c.args.booking (state_of c.args.self.now.0) s a.answer a.inside after refl e.joins others _ booked.0 booked.1)

pub returns-clause-answered : goal.returns-clause-answered
returns-clause-answered g c =
    let e = c.in_ok-book_in.ensures in
    let a = c.in_ok-segment.ensures in
    let others = rw a.numbered at e.others in
    let booked = rw a.numbered at e.booked in
    let four = c.args.self.now.0.books in
    let after = state_of (record { plan = c.args.self.now.0.plan; books = c.book_in.new.self }) in
    let sized = by_segment-each (λ book. length book.weights ≡ meter_count) (book_contents four.amr) (book_contents four.s30) (book_contents four.mrc) (book_contents four.eav)
    (g.met.A.WeightSource.sized four.amr.source) (g.met.B.WeightSource.sized four.s30.source)
    (g.met.C.WeightSource.sized four.mrc.source) (g.met.D.WeightSource.sized four.eav.source)
    in
    λ terms bookings s.
    taken terms bookings c.args.booking (state_of c.args.self.now.0) s a.answer a.inside after refl e.joins others
    (sized c.args.booking.segment) booked.0 booked.1
