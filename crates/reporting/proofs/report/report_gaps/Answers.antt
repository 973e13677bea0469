use Rattle.reporting.proofs.Written.{fault_reported, gaps_reported}
use Rattle.reporting.proofs.report.report_gaps.Goals as goal

-- src/report.rt:19:1
pub returns-in-Ok : goal.returns-in-Ok
returns-in-Ok g c =
    gaps_reported g.R.Read g.A.WeightSource g.B.WeightSource g.C.WeightSource g.D.WeightSource _ _ _ c.in_ok-file.file c.load.new.file
    (record { unread = c.in_ok-file.ensures.unread; bytes = c.in_ok-file.ensures.bytes })
    c.load.result c.in-Ok.month c.write_gaps-written.result _ c.in-Ok.is c.load.ensures.loads c.write_gaps-written.ensures

-- src/report.rt:19:1
pub returns : goal.returns
returns g c =
    fault_reported g.R.Read g.A.WeightSource g.B.WeightSource g.C.WeightSource g.D.WeightSource _ _ _ c.in_ok-file.file c.load.new.file
    (record { unread = c.in_ok-file.ensures.unread; bytes = c.in_ok-file.ensures.bytes })
    c.load.result c.in-Err.field-0 c.into.result _ c.in-Err.is c.load.ensures.loads c.into.ensures c.in_ok-write_fault-in-Err.ensures
