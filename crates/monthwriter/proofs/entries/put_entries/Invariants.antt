use Rattle.std.proofs.Common.{map, drop}
use Rattle.monthwriter.proofs.Putting.{OnTheWay}
use Rattle.monthwriter.proofs.entries.put_entries.Given as goal

abbrev pub invariant-loop-entry : goal.invariant-loop-entry
invariant-loop-entry g l =
    let word = g.E.PlanEntry.in_file in
    OnTheWay l.initial.out (map word l.entries) (map word (drop l.entry-index l.entries)) l.out
