use Rattle.std.proofs.Common.{◌≡◌, ◌∙◌, rules}
use Rattle.plan.specs.OfPlan.{contents}
use Rattle.plan.specs.Questions.{peak_of}
use Rattle.plan.proofs.Only.{peak_only}
use Rattle.plan.proofs.Standing.{standing}
use Rattle.plan.proofs.Within.{peak_of_within}
use Rattle.plan.proofs.plan.Plan.carried_peak.Goals as goal

pub entry_at-requires : goal.entry_at-requires
entry_at-requires c = rw c.deref.ensures.value (standing (contents c.args.self.now) c.args.self.now.well_made).carried_ascend

pub returns : goal.returns
returns c =
    let plan = contents c.args.self.now in
    let answer : c.map.result ≡ peak_of plan c.args.meter = search rules in
    record {
      answer = answer;
      only = λ p has m. answer ∙ peak_only plan c.args.self.now.well_made c.args.meter p has m;
      bound = rw answer (peak_of_within plan c.args.meter (standing plan c.args.self.now.well_made).carried_fit);
    }
