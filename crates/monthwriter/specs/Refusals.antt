-- When writing a month file is refused, and with which number.
use Rattle.std.specs.Prelude.{ℕ, Bool, cond, ◌&&◌, List, length, Some, None, Option, nat_le, nat_lt}
use Rattle.std.specs.List.{list_all}
use Rattle.plan.specs.Contents.{Contents}
use Rattle.plan.specs.Limits.{most_segments, most_meters}
use Rattle.plan.specs.Questions.{is_full}
use Rattle.plan.specs.declared.booking.Booking.{Booking}
use Rattle.monthfile.specs.File.{file_of}
use Rattle.monthfile.specs.Judging.{last_hour}
use Rattle.monthwriter.specs.declared.fault.WriteFault.{WriteFault}
use Rattle.monthwriter.specs.declared.fault.WriteFault.TheVariants.{NotFull, OutsideLimits, ShortMemory}

-- each fault's number
abbrev pub number_of : WriteFault → ℕ
number_of NotFull = 2
number_of OutsideLimits = 3
number_of ShortMemory = 10

-- the greatest amount that the 15 bits of its field hold
abbrev pub greatest_held : ℕ
greatest_held = 32767

-- can a file hold the booking: its hour is not past the last, and its other fields fit their bits
abbrev pub is_held : Booking → Bool
is_held b =
    nat_lt b.segment most_segments
    && (nat_lt b.meter most_meters && (nat_le b.hour last_hour && nat_le b.amount greatest_held))

-- the number with which writing into so many bytes is refused, if it is: the plan is not full, or a booking does not fit,
-- or the file has more bytes
abbrev pub write_refusal : Contents → List Booking → ℕ → Option ℕ
write_refusal plan bookings room =
    cond (is_full plan)
    (cond (list_all is_held bookings)
    (cond (nat_le (length (file_of plan bookings)) room) None (Some (number_of ShortMemory)))
    (Some (number_of OutsideLimits)))
    (Some (number_of NotFull))
