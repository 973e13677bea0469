-- The number of each refusal of a month.
use Rattle.std.specs.Prelude.{ℕ, Some, None, Option}
use Rattle.book.specs.Faults.{number_of as number_of_book}
use Rattle.month.specs.declared.fault.BookingFault.{BookingFault}
use Rattle.month.specs.declared.fault.BookingFault.TheVariants.{OutOfRange, Unassigned, Refused}
use Rattle.month.specs.declared.fault.OpeningFault.{OpeningFault}
use Rattle.month.specs.declared.fault.OpeningFault.TheVariants.{NotFull, Peak, Memory}

-- the number that a caller is handed where a booking or a question is refused: the book's own where the book refused
abbrev pub number_of : BookingFault → ℕ
number_of OutOfRange = 3
number_of Unassigned = 4
number_of (Refused fault) = number_of_book fault

-- the number that a caller is handed where an opening is refused; want of memory has none
abbrev pub opening_number_of : OpeningFault → Option ℕ
opening_number_of NotFull = Some 2
opening_number_of (Peak fault) = Some (number_of_book fault)
opening_number_of Memory = None
