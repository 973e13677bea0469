use Rattle.plan.specs.OfPlan.{contents}
use Rattle.plan.proofs.Standing.{standing}
use Rattle.plan.proofs.plan.Plan.check_meter.Goals as goal

pub is_above-ordered-requires : goal.is_above-ordered-requires
is_above-ordered-requires c = rw c.deref.ensures.value (standing (contents c.args.self.now) c.args.self.now.well_made).meters_ascend
