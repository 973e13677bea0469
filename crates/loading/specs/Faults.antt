-- The faults of loading a month file: layer, number and place of each.
use Rattle.std.specs.Option.{option_map}
use Rattle.std.specs.Prelude.{Bool, true, false, Some, None, Option}
use Rattle.month.specs.Faults.{number_of, opening_number_of}
use Rattle.monthfile.specs.Faults.{told as told_by_reading}
use Rattle.monthfile.specs.declared.telling.Layer.TheVariants.{Plan as PLAN, Book as BOOK}
use Rattle.monthfile.specs.declared.telling.Told.{Told}
use Rattle.loading.specs.declared.fault.LoadFault.{LoadFault}
use Rattle.loading.specs.declared.fault.LoadFault.TheVariants.{Reading, Opening, Booking, Transfer}

-- Layer, number and place of each fault; want of memory and an input that fails tell none.
abbrev pub told : LoadFault → Option Told
told (Reading fault) = told_by_reading fault
told (Opening placed) =
    option_map (λ number. record { layer = PLAN; number = number; place = placed.place }) (opening_number_of placed.fault)
told (Booking placed) = Some (record { layer = BOOK; number = number_of placed.fault; place = placed.place })
told (Transfer error) = None

-- is it the input that failed
abbrev pub is_transfer : LoadFault → Bool
is_transfer (Reading fault) = false
is_transfer (Opening placed) = false
is_transfer (Booking placed) = false
is_transfer (Transfer error) = true
