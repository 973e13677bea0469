use Rattle.std.proofs.Common.{◌≡◌, true, cond, List, [], ◌∷◌, ◌++◌, is_ok, vec_items, rules}
use Rattle.plan.specs.declared.meter.Meter.{Meter}
use Rattle.plan.specs.Calls.{AddMeter}
use Rattle.plan.specs.OfPlan.{contents}
use Rattle.plan.specs.View.{view_of}
use Rattle.plan.specs.WellMade.{is_well_made}
use Rattle.plan.proofs.Kept.{after_push, kept}
use Rattle.plan.proofs.plan.Plan.add_meter.Goals as goal

pub invariant_of-self : goal.invariant_of-self
invariant_of-self c =
    let before = c.args.self.now in
    let P : List Meter → Type 0 = λ ms. is_well_made (view_of before.period (vec_items before.segments) ms (vec_items before.carried)) ≡ true in
    let taken = kept (contents before) (AddMeter c.args.meter) before.well_made c.in_ok-check_meter.ensures in
    let pushed : vec_items c.push.new.self ≡ cond (is_ok c.push.result) (vec_items before.meters ++ c.args.meter ∷ []) (vec_items before.meters) = search rules in
    record { well_made = after_push P (is_ok c.push.result) (vec_items before.meters) (vec_items c.push.new.self) c.args.meter pushed taken before.well_made }
