use Rattle.std.proofs.Common.{Ok, Err, sym, ◌∙◌}
use Rattle.dumping.proofs.InOrder.{records_of_file}
use Rattle.dumping.proofs.Showing.{fault_shown, file_shown}
use Rattle.dumping.proofs.dumps.dump.Goals as goal

pub returns-in_default-clause-file : goal.returns-in_default-clause-file
returns-in_default-clause-file g c = file_shown _ _ (Ok tt) _ c.in_default.ensures

pub returns-in_default-clause-order : goal.returns-in_default-clause-order
returns-in_default-clause-order g c = records_of_file

pub returns-in_err-writeln-clause-order : goal.returns-in_err-writeln-clause-order
returns-in_err-writeln-clause-order g c = records_of_file

pub returns-in_ok-writeln-clause-shown : goal.returns-in_ok-writeln-clause-shown
returns-in_ok-writeln-clause-shown g c =
    fault_shown _ _ _ _ c.in-Err.fault c.in-Some.told (sym c.told.ensures ∙ c.in-Some.is) c.in-Err.ensures c.in_ok-writeln.ensures.bytes

pub returns-in_ok-writeln-clause-file : goal.returns-in_ok-writeln-clause-file
returns-in_ok-writeln-clause-file g c =
    file_shown _ _ (Err c.in-Err.fault) _
    (fault_shown _ _ _ _ c.in-Err.fault c.in-Some.told (sym c.told.ensures ∙ c.in-Some.is) c.in-Err.ensures c.in_ok-writeln.ensures.bytes)

pub returns-in_ok-writeln-clause-order : goal.returns-in_ok-writeln-clause-order
returns-in_ok-writeln-clause-order g c = records_of_file

pub returns-in_default-told-clause-order : goal.returns-in_default-told-clause-order
returns-in_default-told-clause-order g c = records_of_file
