use Rattle.std.proofs.Common.{◌≡◌, None, rules}
use Rattle.plan.specs.Calls.{refusal_of, SetPeriod}
use Rattle.plan.specs.OfPlan.{contents}
use Rattle.plan.specs.View.{period_numbers}
use Rattle.plan.proofs.Kept.{kept}
use Rattle.plan.proofs.plan.Plan.set_period.Goals as goal

pub invariant_of-self : goal.invariant_of-self
invariant_of-self c =
    let plan = contents c.args.self.now in
    let call = SetPeriod (period_numbers c.in_ok-period.period) in
    let taken : refusal_of plan call ≡ None = search rules in
    record { well_made = kept plan call c.args.self.now.well_made taken }
