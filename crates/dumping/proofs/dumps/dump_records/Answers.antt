use Rattle.std.proofs.Common.{[], Ok, Err, sym, refl, subst}
use Rattle.monthfile.specs.View.{standing_of}
use Rattle.monthfile.specs.declared.fault.ReadFault.TheVariants.{Memory}
use Rattle.monthfile.proofs.Failing.{err_is}
use Rattle.dumping.specs.Dumping.{Shown}
use Rattle.dumping.specs.declared.fault.DumpFault.TheVariants.{Reading, Transfer}
use Rattle.dumping.proofs.Showing.{end_reached, one_more, untold, word_refused}
use Rattle.dumping.proofs.dumps.dump_records.Goals as goal

pub returns-in_err-file : goal.returns-in_err-file
returns-in_err-file g c =
    rw (err_is c.from_residual.result (Reading Memory) c.from_residual.ensures.1) (
    untold (g.R.Read.remaining c.args.input) (g.W.Write.contents c.args.out.now) (g.W.Write.contents c.args.out.now) (Reading Memory) [] refl
    )

pub returns-in_err-place : goal.returns-in_err-place
returns-in_err-place g c =
    let failed = Transfer c.in_err-place.field-0.0 in
    rw (err_is c.from_residual-in_err-place.result failed c.from_residual-in_err-place.ensures.1) (
    untold (g.R.Read.remaining c.args.input) (g.W.Write.contents c.args.out.now) (g.W.Write.contents c.loop-reader.out) failed [] refl
    )

pub returns-in_err-dump_word : goal.returns-in_err-dump_word
returns-in_err-dump_word g c =
    let next = rw c.in-Some.is at c.in_ok-place.ensures in
    let fault = c.in_err-dump_word.field-0.0 in
    rw (err_is c.from_residual-in_err-dump_word.result fault c.from_residual-in_err-dump_word.ensures.1) (
    subst (λ known. Shown known (g.W.Write.contents c.args.out.now) (Err fault) [] (g.W.Write.contents c.dump_word.new.out)) c.in_ok-file.ensures.bytes
    (word_refused c.in_ok-file.file _ c.loop-reader.file c.next.new.self (standing_of c.loop-reader.reader) (standing_of c.dump_word.new.reader)
    _ c.loop-reader.invariant (c.in-Some.place, c.in-Some.bits) next fault _ c.in_ok-file.ensures.unread.1 c.in_err-dump_word.ensures)
    )

pub loop-reader-preserved : goal.loop-reader-preserved
loop-reader-preserved g c =
    let next = rw c.in-Some.is at c.in_ok-place.ensures in
    one_more c.in_ok-file.file _ c.loop-reader.file c.next.new.self (standing_of c.loop-reader.reader) (standing_of c.dump_word.new.reader)
    _ c.loop-reader.invariant (c.in-Some.place, c.in-Some.bits) next _ c.in_ok-dump_word.ensures

pub returns-in_err-check_end : goal.returns-in_err-check_end
returns-in_err-check_end g c =
    let ended = rw c.in_default.is at c.in_ok-place.ensures in
    let fault = c.in_err-check_end.field-0.0 in
    rw (err_is c.from_residual-in_err-check_end.result (Reading fault) c.from_residual-in_err-check_end.ensures.1) (
    subst (λ known. Shown known (g.W.Write.contents c.args.out.now) (Err (Reading fault)) [] (g.W.Write.contents c.loop-reader.out)) c.in_ok-file.ensures.bytes
    (end_reached c.in_ok-file.file _ c.loop-reader.file c.next.new.self (standing_of c.loop-reader.reader) (standing_of c.loop-reader.reader)
    _ c.loop-reader.invariant (Err (Reading fault)) c.number.result c.left_over.result
    c.in_ok-file.ensures.unread.1 ended c.number.ensures c.left_over.ensures c.in_err-check_end.ensures.answer)
    )

pub returns : goal.returns
returns g c =
    let ended = rw c.in_default.is at c.in_ok-place.ensures in
    subst (λ known. Shown known (g.W.Write.contents c.args.out.now) (Ok tt) [] (g.W.Write.contents c.loop-reader.out)) c.in_ok-file.ensures.bytes
    (end_reached c.in_ok-file.file _ c.loop-reader.file c.next.new.self (standing_of c.loop-reader.reader) (standing_of c.loop-reader.reader)
    _ c.loop-reader.invariant (Ok tt) c.number.result c.left_over.result
    c.in_ok-file.ensures.unread.1 ended c.number.ensures c.left_over.ensures (sym c.in_ok-check_end.ensures.answer))
