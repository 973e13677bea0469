use Rattle.std.proofs.Common.{◌≡◌, true, sym, ap, ◌∙◌, rules}
use Rattle.std.specs.List.{list_all}
use Rattle.plan.specs.Calls.{AddCarried, comes_in_order, peak_precedes}
use Rattle.plan.specs.OfPlan.{contents}
use Rattle.plan.specs.Questions.{is_assigned, is_full}
use Rattle.plan.proofs.Standing.{standing}
use Rattle.plan.proofs.plan.Plan.check_peak.Goals as goal
use Rattle.plan.proofs.plan.Plan.check_peak.Goals.{then-is_full, else-is_full}

pub is_above-ordered-requires : goal.is_above-ordered-requires
is_above-ordered-requires c = rw c.deref.ensures.value (standing (contents c.args.self.now) c.args.self.now.well_made).carried_ascend

pub returns : goal.returns
returns c =
    let plan = contents c.args.self.now in
    let peak = c.args.peak.now in
    let ordered : c.if-is_full.ordered ≡ comes_in_order plan (AddCarried peak) =
    elim c.if-is_full.branch [
      | then-is_full w ↦
          let full : is_full plan ≡ true = sym c.is_full.ensures.answer ∙ w.if-is_full.true in
          rw full (w.ordered-is ∙ w.is_above-ordered.ensures ∙ ap (list_all (λ other. peak_precedes other peak)) w.deref.ensures.value)
      | else-is_full w ↦ search rules
    ] in
    let assigned : c.is_some-assigned.result ≡ is_assigned plan.meters peak.meter = search rules in
    search rules
