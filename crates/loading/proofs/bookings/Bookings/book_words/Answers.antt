use Rattle.std.proofs.Common.{◌++◌, sym, ◌∙◌, refl}
use Rattle.monthfile.specs.View.{standing_of}
use Rattle.plan.specs.OfPlan.{contents}
use Rattle.monthfile.proofs.Failing.{err_is}
use Rattle.loading.specs.declared.fault.LoadFault.TheVariants.{Reading, Transfer}
use Rattle.loading.proofs.Planning.{end_asked}
use Rattle.loading.proofs.Rest.{books_cut_short, books_ended, books_failed, books_more, books_refused}
use Rattle.loading.proofs.bookings.Bookings.book_words.Goals as goal

pub returns-in_err-place : goal.returns-in_err-place
returns-in_err-place g c = λ joins words b.
    let failed = Transfer c.in_err-place.field-0.0 in
    rw (err_is c.from_residual.result failed c.from_residual.ensures.1) (
    books_failed joins words c.args.file.now c.loop-place.file c.next.new.self c.loop-place.self.reader.phase _
    (c.loop-place.invariant joins words b) failed c.in_err-place.ensures refl refl
    )

pub loop-place-preserved : goal.loop-place-preserved
loop-place-preserved g c = λ joins words b.
    let next = rw c.in-Some.is at c.in_ok-place.ensures in
    let so_far = c.loop-place.invariant joins words b in
    books_more joins words c.args.file.now c.loop-place.file c.next.new.self c.loop-place.self.reader.phase _ so_far
    (c.in-Some.place, c.in-Some.bits) next c.book_word.new.self.reader.phase _ (c.in_ok-book_word.ensures joins (words ++ so_far.0) so_far.2)

pub returns-in_err-book_word : goal.returns-in_err-book_word
returns-in_err-book_word g c = λ joins words b.
    let next = rw c.in-Some.is at c.in_ok-place.ensures in
    let so_far = c.loop-place.invariant joins words b in
    rw (err_is c.from_residual-in_err-book_word.result c.in_err-book_word.field-0.0 c.from_residual-in_err-book_word.ensures.1) (
    books_refused joins words c.args.file.now c.loop-place.file c.next.new.self c.loop-place.self.reader.phase _ so_far
    (c.in-Some.place, c.in-Some.bits) next c.book_word.new.self.reader.phase _ c.in_err-book_word.field-0.0 (c.in_err-book_word.ensures joins (words ++ so_far.0) so_far.2)
    )

pub returns-in_err-check_end : goal.returns-in_err-check_end
returns-in_err-check_end g c = λ joins words b.
    let ended = rw c.in_default.is at c.in_ok-place.ensures in
    let asked = end_asked (standing_of c.loop-place.self.reader) _ _ _ _ c.number.ensures c.left_over.ensures in
    rw (err_is c.from_residual-in_err-check_end.result (Reading c.in_err-check_end.field-0.0) c.from_residual-in_err-check_end.ensures.1) (
    books_cut_short joins words c.args.file.now c.loop-place.file c.next.new.self c.loop-place.self.reader.phase _
    (c.loop-place.invariant joins words b) ended (contents c.loop-place.self.reader.plan) c.in_err-check_end.field-0.0 (c.in_err-check_end.ensures.answer ∙ asked)
    )

pub returns : goal.returns
returns g c = λ joins words b.
    let ended = rw c.in_default.is at c.in_ok-place.ensures in
    let asked = end_asked (standing_of c.loop-place.self.reader) _ _ _ _ c.number.ensures c.left_over.ensures in
    books_ended joins words c.args.file.now c.loop-place.file c.next.new.self c.loop-place.self.reader.phase _
    (c.loop-place.invariant joins words b) ended (contents c.loop-place.self.reader.plan) (sym asked ∙ c.in_ok-check_end.ensures.answer)
