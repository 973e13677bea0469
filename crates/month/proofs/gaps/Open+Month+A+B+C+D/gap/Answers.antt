use Rattle.plan.specs.OfPlan.{contents}
use Rattle.month.proofs.Asking.{not_refused, ok_from_none}
use Rattle.month.proofs.gaps.Open+Month+A+B+C+D.gap.Goals as goal

pub unwrap-hours-requires : goal.unwrap-hours-requires
unwrap-hours-requires g c =
    ok_from_none c.missing.result _ c.missing.ensures.refusal
    (not_refused (contents c.args.self.now.0.plan) c.args.meter.now c.args.self.now.0.plan.well_made c.requires)
