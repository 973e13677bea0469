use Rattle.std.proofs.Common.{vec_items, sym, subst, arith}
use Rattle.monthfile.proofs.Failing.{err_is}
use Rattle.words.specs.Bytes.{words_of}
use Rattle.monthfile.specs.Reading.{BlockRead}
use Rattle.monthfile.specs.View.{standing_of}
use Rattle.monthfile.proofs.OneByOne.{block_by_block, shown_more, shown_stopped}
use Rattle.monthfile.proofs.reader.Reader.read_block.Goals as goal

pub loop-place-preserved : goal.loop-place-preserved
loop-place-preserved c =
    shown_more (standing_of c.args.self.now) c.args.first (words_of c.args.block.now) (vec_items c.args.bookings.now) (omega arith)
    c.loop-place.place-iterator c.next.new.self c.in-Some.place c.in-Some.bits (vec_items c.loop-place.bookings) (vec_items c.read_word.new.bookings)
    (standing_of c.loop-place.self) (standing_of c.read_word.new.self) c.in-Some.ensures.steps c.loop-place.invariant c.in_ok-read_word.ensures

pub returns-in_err-read_word-clause-read : goal.returns-in_err-read_word-clause-read
returns-in_err-read_word-clause-read c =
    let before = standing_of c.args.self.now in
    let all = words_of c.args.block.now in
    let earlier = vec_items c.args.bookings.now in
    let later = vec_items c.read_word.new.bookings in
    let end = standing_of c.read_word.new.self in
    let fault = c.in_err-read_word.field-0.0 in
    subst (λ r. BlockRead before c.args.first all earlier r later end) (sym (err_is c.from_residual.result fault c.from_residual.ensures.1))
    (shown_stopped before c.args.first all earlier (omega arith) c.loop-place.place-iterator c.next.new.self c.in-Some.place c.in-Some.bits
    (vec_items c.loop-place.bookings) later (standing_of c.loop-place.self) end fault c.in-Some.ensures.steps c.loop-place.invariant c.in_err-read_word.ensures)

pub returns-in_err-read_word-clause-blocks : goal.returns-in_err-read_word-clause-blocks
returns-in_err-read_word-clause-blocks c = block_by_block

pub returns-clause-blocks : goal.returns-clause-blocks
returns-clause-blocks c = block_by_block
