-- The words so far are taken and shown; each turn has one more.
use Rattle.std.proofs.Common.{◌-◌, ◌^◌}
use Rattle.monthfile.specs.View.{standing_of}
use Rattle.dumping.proofs.Showing.{SoFar}
use Rattle.dumping.proofs.dumps.dump_records.Given as goal

abbrev pub invariant-loop-reader : goal.invariant-loop-reader
invariant-loop-reader g l = SoFar l.initial.file (g.W.Write.contents l.initial.out) l.file (standing_of l.reader) (g.W.Write.contents l.out)

abbrev pub decreases-loop-reader : goal.decreases-loop-reader
decreases-loop-reader g l = 2 ^ 64 - l.file.number
