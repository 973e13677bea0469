use Rattle.std.proofs.Common.{Ok, sym, refl, ◌∙◌, subst}
use Rattle.monthfile.specs.Faults.{Stepped}
use Rattle.monthfile.specs.View.{standing_of}
use Rattle.monthfile.proofs.Failing.{err_is}
use Rattle.loading.specs.declared.fault.LoadFault.TheVariants.{Reading, Transfer}
use Rattle.loading.proofs.Planning.{end_asked, plan_begun, plan_cut_short, plan_ended, plan_failed, plan_more, plan_refused, select_read}
use Rattle.loading.proofs.plan_words.read_plan.Goals as goal

pub loop-place-init : goal.loop-place-init
loop-place-init g c = plan_begun c.args.file.now (standing_of c.args.reader.now) c.requires

pub returns-in_err-place : goal.returns-in_err-place
returns-in_err-place g c =
    let failed = Transfer c.in_err-place.field-0.0 in
    rw (err_is c.from_residual.result failed c.from_residual.ensures.1) (
    plan_failed c.args.file.now c.loop-place.file c.next.new.self (standing_of c.loop-place.reader) failed
    c.loop-place.invariant c.in_err-place.ensures refl refl
    )

pub returns-in_err-step : goal.returns-in_err-step
returns-in_err-step g c =
    let next = rw c.in-Some.is at c.in_ok-place.ensures in
    rw (err_is c.from_residual-in_err-step.result (Reading c.in_err-step.field-0.0) c.from_residual-in_err-step.ensures.1) (
    plan_refused c.args.file.now c.loop-place.file c.next.new.self (standing_of c.loop-place.reader) (standing_of c.step.new.self)
    c.loop-place.invariant (c.in-Some.place, c.in-Some.bits) next c.in_err-step.field-0.0 c.in_err-step.ensures
    )

pub returns-in-Opening : goal.returns-in-Opening
returns-in-Opening g c =
    let next = rw c.in-Some.is at c.in_ok-place.ensures in
    let stepped = c.in_ok-step.ensures in
    select_read c.args.file.now c.loop-place.file c.next.new.self (standing_of c.loop-place.reader) (standing_of c.step.new.self)
    c.loop-place.invariant (c.in-Some.place, c.in-Some.bits) next
    (subst (λ b. Stepped (standing_of c.loop-place.reader) c.in-Some.place c.in-Some.bits (Ok b) (standing_of c.step.new.self)) c.in-Opening.is stepped)

pub loop-place-preserved : goal.loop-place-preserved
loop-place-preserved g c =
    let next = rw c.in-Some.is at c.in_ok-place.ensures in
    plan_more c.args.file.now c.loop-place.file c.next.new.self (standing_of c.loop-place.reader) (standing_of c.step.new.self)
    c.loop-place.invariant (c.in-Some.place, c.in-Some.bits) next c.in_ok-step.field-0 c.in_ok-step.ensures c.in_default-2.not-Opening

pub returns-in_err-check_end : goal.returns-in_err-check_end
returns-in_err-check_end g c =
    let ended = rw c.in_default.is at c.in_ok-place.ensures in
    rw (err_is c.from_residual-in_err-check_end.result (Reading c.in_err-check_end.field-0.0) c.from_residual-in_err-check_end.ensures.1) (
    plan_cut_short c.args.file.now c.loop-place.file c.next.new.self (standing_of c.loop-place.reader) (standing_of c.loop-place.reader)
    c.loop-place.invariant ended c.in_err-check_end.field-0.0
    (c.in_err-check_end.ensures.answer ∙ end_asked (standing_of c.loop-place.reader) _ _ _ _ c.number.ensures c.left_over.ensures)
    )

pub returns : goal.returns
returns g c =
    let ended = rw c.in_default.is at c.in_ok-place.ensures in
    plan_ended c.args.file.now c.loop-place.file c.next.new.self (standing_of c.loop-place.reader) (standing_of c.loop-place.reader)
    c.loop-place.invariant ended (sym (end_asked (standing_of c.loop-place.reader) _ _ _ _ c.number.ensures c.left_over.ensures) ∙ c.in_ok-check_end.ensures.answer)
