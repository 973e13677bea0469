use Rattle.monthfile.specs.View.{standing_of}
use Rattle.monthfile.proofs.Failing.{err_is}
use Rattle.plan.specs.OfPlan.{contents}
use Rattle.loading.specs.declared.fault.LoadFault.TheVariants.{Booking, Reading}
use Rattle.loading.proofs.Booking.{booked_word, quiet_word, refused_word, unbooked_word}
use Rattle.loading.proofs.bookings.Bookings.book_word.Goals as goal

pub returns-in_err-booking : goal.returns-in_err-booking
returns-in_err-booking g c = λ joins words b.
    let reader = c.args.self.now.reader in
    rw (err_is c.from_residual.result (Reading c.in_err-booking.field-0.0) c.from_residual.ensures.1) (
    refused_word joins words reader.phase _ b (contents reader.plan) c.args.place c.args.bits c.in_err-booking.field-0.0
    (standing_of c.step.new.self) c.step.new.self.phase c.in_err-booking.ensures
    )

pub returns-in_default : goal.returns-in_default
returns-in_default g c = λ joins words b.
    let reader = c.args.self.now.reader in
    quiet_word joins words reader.phase _ b (contents reader.plan) c.args.place c.args.bits c.in_ok-booking.field-0
    (standing_of c.step.new.self) c.in_ok-booking.ensures c.in_default.not-Offtake

pub returns-in_ok-at_place : goal.returns-in_ok-at_place
returns-in_ok-at_place g c = λ joins words b.
    let reader = c.args.self.now.reader in
    booked_word joins words reader.phase _ b (contents reader.plan) c.args.place c.args.bits c.in-Offtake.booking (standing_of c.step.new.self)
    (rw c.in-Offtake.is at c.in_ok-booking.ensures) _ c.book.result (c.book.ensures.answered _ _ b.books.stands) c.in_ok-at_place.ensures

pub returns-in_err-at_place : goal.returns-in_err-at_place
returns-in_err-at_place g c = λ joins words b.
    let reader = c.args.self.now.reader in
    rw (err_is c.from_residual-in_err-at_place.result (Booking c.in_err-at_place.field-0.0) c.from_residual-in_err-at_place.ensures.1) (
    unbooked_word joins words reader.phase _ b (contents reader.plan) c.args.place c.args.bits c.in-Offtake.booking (standing_of c.step.new.self)
    (rw c.in-Offtake.is at c.in_ok-booking.ensures) _ c.book.result (c.book.ensures.answered _ _ b.books.stands)
    c.in_err-at_place.field-0.0 c.step.new.self.phase c.in_err-at_place.ensures
    )
