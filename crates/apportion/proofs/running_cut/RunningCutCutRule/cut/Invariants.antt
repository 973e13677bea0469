use Rattle.std.proofs.Common.{◌≡◌, take, sum}
use Rattle.apportion.specs.RunningCut.{share_by_running}
use Rattle.apportion.proofs.Placing.{filled}
use Rattle.apportion.proofs.running_cut.RunningCutCutRule.cut.Given as goal

abbrev pub invariant-loop-i : goal.invariant-loop-i
invariant-loop-i l = record {
  so_far : l.before ≡ sum (take l.i l.cut.weights.now);
  placed : l.places ≡ filled (share_by_running l.cut.total l.cut.weights.now) l.i l.initial.places;
}
