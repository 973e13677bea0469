-- The faults of showing a month file: layer, number and place of each.
use Rattle.std.specs.Prelude.{None, Option}
use Rattle.monthfile.specs.Faults.{told as told_by_reading}
use Rattle.monthfile.specs.declared.telling.Told.{Told}
use Rattle.dumping.specs.declared.fault.DumpFault.{DumpFault}
use Rattle.dumping.specs.declared.fault.DumpFault.TheVariants.{Reading, Transfer}

-- Layer, number and place of each fault; want of memory and an input or an output that fails tell none.
abbrev pub told : DumpFault → Option Told
told (Reading fault) = told_by_reading fault
told (Transfer error) = None
