use Rattle.std.proofs.Common.{◌≡◌, true, rules}
use Rattle.plan.specs.OfPlan.{contents}
use Rattle.plan.specs.Questions.{is_full}
use Rattle.plan.proofs.Complete.{complete}
use Rattle.plan.proofs.plan.Plan.is_full.Goals as goal

pub returns-clause-complete : goal.returns-clause-complete
returns-clause-complete c full =
    let plan = contents c.args.self.now in
    let filled : is_full plan ≡ true = search rules in
    complete plan c.args.self.now.well_made filled
