use Rattle.std.proofs.Common.{arith}
use Rattle.std.proofs.Output.{has_written_of_eq}
use Rattle.lines.proofs.Months.{period_text}
use Rattle.lines.proofs.record_line.RecordDisplay.fmt.Goals as goal

pub returns-in-Period-clause-writes : goal.returns-in-Period-clause-writes
returns-in-Period-clause-writes g c = λ plain ok.
    let p = c.in-Period in
    has_written_of_eq _ _ _ _ _
    (period_text p.year p.month p.hours _ c.args.self.now (cc) (omega arith) p.is)
    (c.write.ensures.writes plain ok)
