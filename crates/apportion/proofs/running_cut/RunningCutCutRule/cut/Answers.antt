use Rattle.std.proofs.Common.{arith}
use Rattle.std.proofs.lemmas.List.Sums.{sum_by_more}
use Rattle.apportion.specs.Positions.{sum-next_le}
use Rattle.apportion.specs.Steps.{rise_is}
use Rattle.apportion.proofs.Placing.{filled_more}
use Rattle.apportion.proofs.running_cut.RunningCutCutRule.cut.Goals as goal

pub rise-requires : goal.rise-requires
rise-requires c = grind (arith, sum-next_le)

pub loop-i-preserved : goal.loop-i-preserved
loop-i-preserved c =
    record {
      so_far = omega (arith, sum_by_more (λ x. x) c.in_ok-cut.cut.weights.now c.loop-i.i 0 c.loop-i-test.true);
      placed = grind (arith, filled_more, rise_is);
    }
