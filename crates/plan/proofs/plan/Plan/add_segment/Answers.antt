use Rattle.std.proofs.Common.{◌≡◌, true, List, [], ◌∷◌, ◌++◌, is_ok, None, vec_items}
use Rattle.std.proofs.lemmas.List.{map_push}
use Rattle.tariff.specs.declared.terms.Terms.{Terms}
use Rattle.plan.specs.Calls.{AddSegment, refusal_of}
use Rattle.plan.specs.OfPlan.{contents}
use Rattle.plan.specs.View.{segment_numbers, view_of}
use Rattle.plan.specs.WellMade.{is_well_made}
use Rattle.plan.proofs.Kept.{after_push, kept}
use Rattle.plan.proofs.plan.Plan.add_segment.Goals as goal

pub invariant_of-self : goal.invariant_of-self
invariant_of-self c =
    let before = c.args.self.now in
    let terms = c.in_ok-terms.terms in
    let call = AddSegment c.args.segment (segment_numbers terms) in
    let lawful : refusal_of (contents before) call ≡ None = rw c.in_ok-terms.ensures.terms c.in_ok-terms.ensures.answer in
    let P : List Terms → Type 0 = λ ts. is_well_made (view_of before.period ts (vec_items before.meters) (vec_items before.carried)) ≡ true in
    let taken : P (vec_items before.segments ++ terms ∷ []) = rw map_push (kept (contents before) call before.well_made lawful) in
    record { well_made = after_push P (is_ok c.push.result) (vec_items before.segments) (vec_items c.push.new.self) terms c.push.ensures.items taken before.well_made }
