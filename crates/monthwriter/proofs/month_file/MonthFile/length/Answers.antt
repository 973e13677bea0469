use Rattle.std.proofs.Common.{length, ap, arith}
use Rattle.plan.specs.OfPlan.{contents}
use Rattle.monthwriter.proofs.Counting.{length-file}
use Rattle.monthwriter.proofs.month_file.MonthFile.length.Goals as goal

pub returns : goal.returns
returns c =
    let file = length-file (contents c.args.self.now.plan.now) c.args.self.now.bookings.now c.meters.ensures.well_made c.args.self.now.full in
    let meters = ap length c.meters.ensures.answer in
    let peaks = ap length c.carried.ensures.answer in
    omega (arith, file, meters, peaks, c.count_words.ensures.count)
