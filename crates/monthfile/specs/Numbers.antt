-- The numbers of the faults of the layer FILE. Assumes nothing.
use Rattle.std.specs.Prelude.{ℕ}
use Rattle.monthfile.specs.declared.fault.FileFault.{FileFault}
use Rattle.monthfile.specs.declared.fault.FileFault.TheVariants.{Malformed, OutOfOrder, OutsideLimits, CutShort}

abbrev pub number_of : FileFault → ℕ
number_of Malformed = 1
number_of OutOfOrder = 2
number_of OutsideLimits = 3
number_of CutShort = 11
