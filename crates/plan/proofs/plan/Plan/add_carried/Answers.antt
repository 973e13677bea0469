use Rattle.std.proofs.Common.{◌≡◌, true, List, is_ok, vec_items}
use Rattle.plan.specs.declared.carried.CarriedPeak.{CarriedPeak}
use Rattle.plan.specs.Calls.{AddCarried}
use Rattle.plan.specs.OfPlan.{contents}
use Rattle.plan.specs.View.{view_of}
use Rattle.plan.specs.WellMade.{is_well_made}
use Rattle.plan.proofs.Kept.{after_push, kept}
use Rattle.plan.proofs.plan.Plan.add_carried.Goals as goal

pub invariant_of-self : goal.invariant_of-self
invariant_of-self c =
    let before = c.args.self.now in
    let P : List CarriedPeak → Type 0 = λ ps. is_well_made (view_of before.period (vec_items before.segments) (vec_items before.meters) ps) ≡ true in
    let taken = kept (contents before) (AddCarried c.args.peak) before.well_made c.in_ok-check_peak.ensures in
    record { well_made = after_push P (is_ok c.push.result) (vec_items before.carried) (vec_items c.push.new.self) c.args.peak c.push.ensures.items taken before.well_made }
