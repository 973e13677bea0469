use Rattle.std.proofs.Common.{◌+◌, drop, Some, None, sym, subst}
use Rattle.std.proofs.lemmas.List.{at_drop_all}
use Rattle.words.specs.declared.spot.Spot.{Spot}
use Rattle.monthfile.specs.File.{booking_words}
use Rattle.monthwriter.proofs.Booked.{blank, booking_parts}
use Rattle.monthwriter.proofs.Putting.{OnTheWay, one_step, at_end}
use Rattle.monthwriter.proofs.month_file.MonthFile.put_bookings.Goals as goal

pub loop-booking-preserved : goal.loop-booking-preserved
loop-booking-preserved c =
    let bs = c.args.self.now.bookings.now in
    let i = c.loop-booking.booking-index in
    let left = λ (spot : Spot). OnTheWay c.args.out.now (booking_words None bs) (booking_words (Some spot) (drop (i + 1) bs)) c.put_booking.new.out in
    subst left (sym c.hour_after.ensures)
    (one_step c.loop-booking.invariant (booking_parts c.loop-booking.next bs i blank c.loop-booking-test.true) c.put_booking.ensures)

pub returns : goal.returns
returns c =
    at_end c.loop-booking.invariant
    (at_drop_all (booking_words c.loop-booking.next) c.args.self.now.bookings.now c.loop-booking.booking-index c.loop-booking-test.false)
