-- The number with which a call on a plan is refused.
use Rattle.std.specs.Prelude.{◌≡◌, ℕ, Bool, cond, Some, None, Ok, Err, Option, Result, ◌≢◌}
use Rattle.plan.specs.declared.fault.PlanFault.{PlanFault}
use Rattle.plan.specs.declared.fault.PlanFault.TheVariants.{OutOfOrder, OutsideLimits, Unassigned, Memory}

-- each fault's number; want of memory has none
abbrev pub number_of : PlanFault → Option ℕ
number_of OutOfOrder = Some 2
number_of OutsideLimits = Some 3
number_of Unassigned = Some 4
number_of Memory = None

-- the number of the first check that fails, if one does: order, then values, then the assignment of the meter
abbrev pub first_fault : Bool → Bool → Bool → Option ℕ
first_fault ordered within assigned =
    cond ordered (cond within (cond assigned None (number_of Unassigned)) (number_of OutsideLimits)) (number_of OutOfOrder)

-- what the checks of a call answer, which take no memory: the refusal, where there is one
abbrev pub Checked : {X : Type 0} → Option ℕ → Result X PlanFault → Type 0
Checked refusal (Ok _) = refusal ≡ None
Checked refusal (Err fault) = (refusal ≡ number_of fault) × (fault ≢ Memory)
