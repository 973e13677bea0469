use Rattle.std.proofs.Common.{rules, Ok, sym, subst}
use Rattle.monthfile.proofs.Failing.{err_is}
use Rattle.std.proofs.lemmas.Option.{MatchOption-at_some}
use Rattle.monthfile.specs.Faults.{Stepped}
use Rattle.monthfile.specs.View.{standing_of}
use Rattle.dumping.specs.Records.{WordTaken}
use Rattle.dumping.proofs.Judged.{booking_taken, call_taken}
use Rattle.dumping.proofs.taking.take_word.Goals as goal

pub returns-in_err-booking : goal.returns-in_err-booking
returns-in_err-booking c =
    let before = standing_of c.args.reader.now in
    let after = standing_of c.step.new.self in
    subst (λ r. WordTaken before c.args.place c.args.bits r after) (sym (err_is c.from_residual.result c.in_err-booking.field-0.0 c.from_residual.ensures.1)) c.in_err-booking.ensures

pub returns-in-Offtake : goal.returns-in-Offtake
returns-in-Offtake c =
    let before = standing_of c.args.reader.now in
    let after = standing_of c.step.new.self in
    booking_taken before c.args.place c.args.bits c.in-Offtake.booking after
    (subst (λ b. Stepped before c.args.place c.args.bits (Ok b) after) c.in-Offtake.is c.in_ok-booking.ensures)

pub returns-in_default : goal.returns-in_default
returns-in_default c =
    call_taken (standing_of c.args.reader.now) c.args.place c.args.bits c.in_ok-booking.field-0 (standing_of c.step.new.self) c.in_ok-booking.ensures
    c.in_default.not-Offtake c.decode.result c.decode.ensures.back c.and_then.result
    (λ word is. let post = MatchOption-at_some _ _ word is c.and_then.ensures in let phase = c.phase-phase.ensures in search rules)
