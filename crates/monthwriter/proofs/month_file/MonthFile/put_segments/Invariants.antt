use Rattle.std.proofs.Common.{drop}
use Rattle.std.specs.List.{flat_map}
use Rattle.plan.specs.OfPlan.{contents}
use Rattle.plan.specs.WellMade.{segment_calls}
use Rattle.monthfile.specs.File.{call_words}
use Rattle.monthwriter.proofs.Putting.{OnTheWay}
use Rattle.monthwriter.proofs.month_file.MonthFile.put_segments.Given as goal

abbrev pub invariant-loop-segment : goal.invariant-loop-segment
invariant-loop-segment l =
    OnTheWay l.initial.out (flat_map call_words (segment_calls 0 (contents l.self.plan.now).segments))
    (flat_map call_words (segment_calls l.segment-index (drop l.segment-index (contents l.self.plan.now).segments))) l.out
