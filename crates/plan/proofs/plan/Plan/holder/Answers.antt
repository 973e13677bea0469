use Rattle.std.proofs.Common.{◌≡◌, ◌∙◌, rules}
use Rattle.plan.specs.OfPlan.{contents}
use Rattle.plan.specs.Questions.{holder_of}
use Rattle.plan.proofs.Only.{holder_only}
use Rattle.plan.proofs.Standing.{standing}
use Rattle.plan.proofs.Within.{holder_within}
use Rattle.plan.proofs.plan.Plan.holder.Goals as goal

pub entry_at-requires : goal.entry_at-requires
entry_at-requires c = rw c.deref.ensures.value (standing (contents c.args.self.now) c.args.self.now.well_made).meters_ascend

pub returns : goal.returns
returns c =
    let plan = contents c.args.self.now in
    let answer : c.map.result ≡ holder_of plan c.args.segment c.args.meter = search rules in
    record {
      answer = answer;
      only = λ m has s n. answer ∙ holder_only plan c.args.self.now.well_made c.args.segment c.args.meter m has s n;
      bound = rw answer (holder_within plan c.args.segment c.args.meter (standing plan c.args.self.now.well_made).meters_fit);
    }
