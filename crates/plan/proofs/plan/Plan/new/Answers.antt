use Rattle.std.proofs.Common.{◌≡◌, None, vec_items}
use Rattle.plan.specs.Contents.{nothing}
use Rattle.plan.specs.View.{view_of}
use Rattle.plan.proofs.Replayed.{made_by_calls, nothing_well_made}
use Rattle.plan.proofs.plan.Plan.new.Goals as goal

pub invariant_of-result : goal.invariant_of-result
invariant_of-result c =
    let empty : view_of None (vec_items c.new.result) (vec_items c.new-2.result) (vec_items c.new-3.result) ≡ nothing = simp (c.new.ensures.items, c.new-2.ensures.items, c.new-3.ensures.items) in
    record { well_made = rw empty nothing_well_made }

pub returns-clause-made : goal.returns-clause-made
returns-clause-made c = made_by_calls
