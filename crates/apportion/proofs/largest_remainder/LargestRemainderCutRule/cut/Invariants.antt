use Rattle.std.proofs.Common.{◌≡◌}
use Rattle.apportion.specs.LargestRemainder.{share_by_remainder}
use Rattle.apportion.proofs.Placing.{filled}
use Rattle.apportion.proofs.largest_remainder.LargestRemainderCutRule.cut.Given as goal

abbrev pub invariant-loop-position : goal.invariant-loop-position
invariant-loop-position l =
    l.place-items ≡ filled (share_by_remainder l.cut.total l.cut.weights.now) l.position l.initial.place-items
