use Rattle.std.proofs.Common.{drop, None}
use Rattle.monthfile.specs.File.{booking_words}
use Rattle.monthwriter.proofs.Putting.{OnTheWay}
use Rattle.monthwriter.proofs.month_file.MonthFile.put_bookings.Given as goal

abbrev pub invariant-loop-booking : goal.invariant-loop-booking
invariant-loop-booking l =
    OnTheWay l.initial.out (booking_words None l.self.bookings.now) (booking_words l.next (drop l.booking-index l.self.bookings.now)) l.out
