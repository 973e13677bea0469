use Rattle.plan.specs.OfPlan.{contents}
use Rattle.plan.specs.View.{period_numbers}
use Rattle.plan.proofs.Complete.{complete}
use Rattle.monthwriter.proofs.Present.{some_behind}
use Rattle.monthwriter.proofs.month_file.MonthFile.put_period.Goals as goal

pub unwrap-period-requires : goal.unwrap-period-requires
unwrap-period-requires c =
    let plan = contents c.args.self.now.plan.now in
    some_behind period_numbers c.period.result plan.period c.period.ensures (complete plan c.args.self.now.plan.now.well_made c.args.self.now.full).0
