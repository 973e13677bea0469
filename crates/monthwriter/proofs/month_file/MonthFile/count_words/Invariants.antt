use Rattle.std.proofs.Common.{◌≡◌, ◌+◌, ◌*◌, ◌≤◌, length, drop, None}
use Rattle.monthfile.specs.File.{booking_words}
use Rattle.monthwriter.proofs.month_file.MonthFile.count_words.Given as goal

abbrev pub invariant-loop-booking : goal.invariant-loop-booking
invariant-loop-booking l =
    (l.words + length (booking_words l.next (drop l.booking-index l.self.bookings.now)) ≡ length (booking_words None l.self.bookings.now))
    × (l.words ≤ 2 * l.booking-index)
