use Rattle.std.proofs.Common.{arith}
use Rattle.std.proofs.lemmas.Option.{none-some}
use Rattle.monthfile.specs.View.{standing_of}
use Rattle.monthfile.proofs.Failing.{err_is}
use Rattle.dumping.specs.declared.fault.DumpFault.TheVariants.{Reading, Transfer}
use Rattle.dumping.proofs.Showing.{line_shown, none_completed_shown, refused_shown}
use Rattle.dumping.proofs.dumps.dump_word.Goals as goal

pub returns-in_err-record : goal.returns-in_err-record
returns-in_err-record g c =
    rw (err_is c.from_residual.result (Reading c.in_err-record.field-0.0) c.from_residual.ensures.1) (
    refused_shown (standing_of c.args.reader.now) c.args.place c.args.bits (standing_of c.take_word.new.reader) c.in_err-record.field-0.0 _
    (omega arith) c.in_err-record.ensures
    )

pub returns-in_ok-writeln : goal.returns-in_ok-writeln
returns-in_ok-writeln g c =
    line_shown (standing_of c.args.reader.now) c.args.place c.args.bits (standing_of c.take_word.new.reader) c.in_ok-record.field-0 c.in-Some.record _ _
    c.in_ok-record.ensures c.in-Some.is c.in_ok-writeln.ensures.bytes

pub returns-in_err-writeln : goal.returns-in_err-writeln
returns-in_err-writeln g c =
    rw (err_is c.from_residual-in_err-writeln.result (Transfer c.in_err-writeln.field-0.0) c.from_residual-in_err-writeln.ensures.1)
    (λ t is. absurd (none-some t is))

pub returns-in_default : goal.returns-in_default
returns-in_default g c =
    none_completed_shown (standing_of c.args.reader.now) c.args.place c.args.bits (standing_of c.take_word.new.reader) c.in_ok-record.field-0 _
    c.in_ok-record.ensures c.in_default.is
