-- The number and the line of each fault of a request. Assumes nothing.
use Rattle.std.specs.Prelude.{◌≡◌, ℕ, List, [], IsSome, Some, None, Ok, Err, Option, Result}
use Rattle.apportion.specs.Cutting.{number_of as number_of_cut}
use Rattle.plan.specs.Faults.{number_of as number_of_plan}
use Rattle.plan.specs.declared.fault.PlanFault.{PlanFault}
use Rattle.plan.specs.declared.fault.PlanFault.TheVariants.{Memory as NoRoom}
use Rattle.tariff.specs.Faults.{number_of as number_of_tariff}
use Rattle.calculator.specs.Replies.{reply_line}
use Rattle.calculator.specs.declared.fault.RequestFault.{RequestFault}
use Rattle.calculator.specs.declared.fault.RequestFault.TheVariants.{BadUsage, Cut, Plan, Tariff, Memory}

-- each refusal's number; bad usage and want of memory have none
abbrev pub number_of : RequestFault → Option ℕ
number_of BadUsage = None
number_of (Cut fault) = Some (number_of_cut fault)
number_of (Plan fault) = number_of_plan fault
number_of (Tariff fault) = Some (number_of_tariff fault)
number_of Memory = None

-- a plan's fault; its want of memory is the request's
abbrev pub of_plan : PlanFault → RequestFault
of_plan NoRoom = Memory
of_plan fault = Plan fault

abbrev line_of_number : Option ℕ → Option (List ℕ)
line_of_number None = None
line_of_number (Some number) = Some (reply_line (Some number) [])

-- a refusal's line; bad usage and want of memory have none
abbrev pub refusal_line : RequestFault → Option (List ℕ)
refusal_line fault = line_of_number (number_of fault)

-- what a fault tells of figures that were asked for: it has the number of their refusal, or memory is wanting
abbrev pub Tells : RequestFault → Option ℕ → Type 0
Tells BadUsage refusal = ⊥
Tells Memory refusal = Unit {0}
Tells fault refusal = (refusal ≡ number_of fault) × IsSome refusal

-- a figure that was asked for, or why there is none
abbrev pub Figures : Option ℕ → ℕ → Result ℕ RequestFault → Type 0
Figures refusal figure (Ok n) = (refusal ≡ None) × (n ≡ figure)
Figures refusal figure (Err fault) = Tells fault refusal
