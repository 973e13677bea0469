-- The number with which a call of the tariff is refused.
use Rattle.std.specs.Prelude.{ℕ, Bool, cond, Some, None, Ok, Err, Option, Result}
use Rattle.tariff.specs.declared.fault.TariffFault.{TariffFault}
use Rattle.tariff.specs.declared.fault.TariffFault.TheVariants.{OutsideLimits}

-- each fault's number
abbrev pub number_of : TariffFault → ℕ
number_of OutsideLimits = 3

-- the number of the refusal, if any, of a call whose values are or are not all within their limits
abbrev pub refused_unless : Bool → Option ℕ
refused_unless within = cond within None (Some (number_of OutsideLimits))

-- the number that an answer hands to the caller, if it is a refusal
abbrev pub told : {X : Type 0} → Result X TariffFault → Option ℕ
told (Ok x) = None
told (Err fault) = Some (number_of fault)
