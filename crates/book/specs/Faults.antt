-- The number of each refusal of a book.
use Rattle.std.specs.Prelude.{ℕ, ⊤}
use Rattle.weights.specs.Answers.{number_of as number_of_source}
use Rattle.book.specs.declared.fault.BookFault.{BookFault}
use Rattle.book.specs.declared.fault.BookFault.TheVariants.{OutOfRange, AlreadyBooked, Source}

-- the number that a caller is handed for each fault: the source's own where the source refused
abbrev pub number_of : BookFault → ℕ
number_of OutOfRange = 3
number_of AlreadyBooked = 5
number_of (Source fault) = number_of_source fault

-- a refusal that the source gave, carried whole
abbrev pub IsOfSource : BookFault → Type 0
IsOfSource OutOfRange = ⊥
IsOfSource AlreadyBooked = ⊥
IsOfSource (Source fault) = ⊤
