use Rattle.std.proofs.Common.{◌≡◌, [], ◌∷◌, ◌++◌, Some, None, Ok, Err, sym, ap, ◌∙◌, subst}
use Rattle.monthfile.proofs.Failing.{err_is}
use Rattle.loading.specs.Left.{stopped_by}
use Rattle.month.specs.OfMonth.{source_joins, state_of, terms_of}
use Rattle.month.specs.Stands.{Stands}
use Rattle.monthfile.specs.Judging.{Standing}
use Rattle.monthfile.specs.View.{standing_of}
use Rattle.loading.specs.Stages.{BooksAt, PlanRead, RestBooked, SelectRead}
use Rattle.loading.specs.declared.left.Left.TheVariants.{Planned}
use Rattle.loading.proofs.Back.{loads_back}
use Rattle.loading.proofs.Handing.{handed_rest, handed_unopened}
use Rattle.loading.proofs.Entire.{books_first, end_loaded, end_stopped, opened, plan_stopped, rest_loads, select_stopped, unopened}
use Rattle.loading.proofs.loads.load.Given.{Over}
use Rattle.loading.proofs.loads.load.Goals as goal

pub returns-in_err-month-in-Ok-Some-clause-loads : goal.returns-in_err-month-in-Ok-Some-clause-loads
returns-in_err-month-in-Ok-Some-clause-loads g c =
    let e : c.in-Ok-Some.field-0 ≡ Some c.in-Ok-Some.select = rw c.in-Ok-Some.is at c.in-Ok-Some.field-0-is in
    let at : Standing = standing_of c.read_plan-read.new.reader in
    let s = subst (PlanRead c.args.file.now c.read_plan-read.new.file at) (c.in-Ok-Some.is ∙ ap Ok e) c.read_plan-read.ensures in
    rw (err_is c.from_residual.result (stopped_by c.in_err-month-in-Ok-Some.field-0.0) c.from_residual.ensures.1) (
    select_stopped _ _ _ _ c.args.sources c.args.file.now c.read_plan-read.new.file
    at c.take_plan-plan.result c.take_plan-plan.ensures.plan c.in-Ok-Some.select _
    (unopened c.take_plan-plan.result c.args.sources c.open.result c.open.ensures
    c.in-Ok-Some.select c.in_err-month-in-Ok-Some.field-0.0 c.in_err-month-in-Ok-Some.ensures)
    s
    )

-- the month that the select opened
stands : (g : Over) (c : goal.After-book_rest g) →
    Stands (terms_of g.A.WeightSource g.B.WeightSource g.C.WeightSource g.D.WeightSource c.take_plan-plan.result c.args.sources) []
    (state_of c.in_ok-month-in-Ok-Some.month.0)
stands g c =
    opened c.take_plan-plan.result c.args.sources c.open.result c.open.ensures c.in_ok-month-in-Ok-Some.month c.in_ok-month-in-Ok-Some.ensures

-- the plan's words up to the select, and the rest of the file that was booked
rest : (g : Over) (c : goal.After-book_rest g) →
    (s : SelectRead c.args.file.now c.read_plan-read.new.file (standing_of c.read_plan-read.new.reader) c.in-Ok-Some.select)
    × RestBooked g.A.WeightSource g.B.WeightSource g.C.WeightSource g.D.WeightSource
    (source_joins g.A.WeightSource g.B.WeightSource g.C.WeightSource g.D.WeightSource c.args.sources) (s.words ++ Some s.word ∷ [])
    c.read_plan-read.new.file c.book_rest.new.file c.book_rest.result
rest g c =
    let before = c.args.file.now in
    let file = c.read_plan-read.new.file in
    let at : Standing = standing_of c.read_plan-read.new.reader in
    let sources = c.args.sources in
    let month = c.in_ok-month-in-Ok-Some.month in
    let e : c.in-Ok-Some.field-0 ≡ Some c.in-Ok-Some.select = rw c.in-Ok-Some.is at c.in-Ok-Some.field-0-is in
    let s = subst (PlanRead before file at) (c.in-Ok-Some.is ∙ ap Ok e) c.read_plan-read.ensures in
    let first =
    books_first _ _ _ _ sources before c.book_rest.new.file at c.take_plan-plan.result c.take_plan-plan.ensures.plan file
    c.in-Ok-Some.select s month.0 (stands g c) in
    let joins = source_joins g.A.WeightSource g.B.WeightSource g.C.WeightSource g.D.WeightSource sources in
    let words = s.words ++ Some s.word ∷ [] in (
      s,
      c.book_rest.ensures joins words
          (subst (λ ph. BooksAt joins words ph (state_of month.0))
          (sym (ap (λ (st : Standing). st.phase) c.take_plan-plan.ensures.left)) first),
    )

pub returns-in_ok-month-in-Ok-Some-clause-loads : goal.returns-in_ok-month-in-Ok-Some-clause-loads
returns-in_ok-month-in-Ok-Some-clause-loads g c =
    let read = rest g c in
    rest_loads _ _ _ _ c.args.sources c.args.file.now c.book_rest.new.file (standing_of c.read_plan-read.new.reader)
    c.take_plan-plan.result c.take_plan-plan.ensures.plan c.read_plan-read.new.file c.in-Ok-Some.select read.0
    c.in_ok-month-in-Ok-Some.month.0 (stands g c) c.book_rest.result read.1

pub returns-in_err-at_place-in-Ok-None-clause-loads : goal.returns-in_err-at_place-in-Ok-None-clause-loads
returns-in_err-at_place-in-Ok-None-clause-loads g c =
    let e : c.in-Ok-None.field-0 ≡ None = rw c.in-Ok-None.is at c.in-Ok-None.field-0-is in
    let at : Standing = standing_of c.read_plan-read.new.reader in
    let s = subst (PlanRead c.args.file.now c.read_plan-read.new.file at) (c.in-Ok-None.is ∙ ap Ok e) c.read_plan-read.ensures in
    rw (err_is c.from_residual-in_err-at_place-in-Ok-None.result (stopped_by c.in_err-at_place-in-Ok-None.field-0.0) c.from_residual-in_err-at_place-in-Ok-None.ensures.1) (
    end_stopped _ _ _ _ c.args.sources c.args.file.now c.read_plan-read.new.file
    at c.take_plan-plan.result c.take_plan-plan.ensures.plan c.number.result _
    (unopened c.take_plan-plan.result c.args.sources c.open-in-Ok-None.result c.open-in-Ok-None.ensures
    c.number.result c.in_err-at_place-in-Ok-None.field-0.0 c.in_err-at_place-in-Ok-None.ensures)
    s c.number.ensures
    )

pub returns-in_ok-at_place-in-Ok-None-clause-loads : goal.returns-in_ok-at_place-in-Ok-None-clause-loads
returns-in_ok-at_place-in-Ok-None-clause-loads g c =
    let e : c.in-Ok-None.field-0 ≡ None = rw c.in-Ok-None.is at c.in-Ok-None.field-0-is in
    let at : Standing = standing_of c.read_plan-read.new.reader in
    let s = subst (PlanRead c.args.file.now c.read_plan-read.new.file at) (c.in-Ok-None.is ∙ ap Ok e) c.read_plan-read.ensures in
    let month = c.in_ok-at_place-in-Ok-None.field-0 in
    end_loaded _ _ _ _ c.args.sources c.args.file.now c.read_plan-read.new.file
    at c.take_plan-plan.result c.take_plan-plan.ensures.plan month.0 s
    (opened c.take_plan-plan.result c.args.sources c.open-in-Ok-None.result c.open-in-Ok-None.ensures
    month c.in_ok-at_place-in-Ok-None.ensures)

pub returns-in-Err-clause-loads : goal.returns-in-Err-clause-loads
returns-in-Err-clause-loads g c =
    plan_stopped _ _ _ _ c.args.sources c.args.file.now c.read_plan-read.new.file
    (standing_of c.read_plan-read.new.reader) c.take_plan-plan.result c.take_plan-plan.ensures.plan c.in-Err.fault c.in-Err.ensures

pub returns-in_err-month-in-Ok-Some-clause-back : goal.returns-in_err-month-in-Ok-Some-clause-back
returns-in_err-month-in-Ok-Some-clause-back g c = loads_back _ _ _ _ _ c.args.file.now _ _ (returns-in_err-month-in-Ok-Some-clause-loads g c)

pub returns-in_ok-month-in-Ok-Some-clause-back : goal.returns-in_ok-month-in-Ok-Some-clause-back
returns-in_ok-month-in-Ok-Some-clause-back g c = loads_back _ _ _ _ _ c.args.file.now _ _ (returns-in_ok-month-in-Ok-Some-clause-loads g c)

pub returns-in_err-at_place-in-Ok-None-clause-back : goal.returns-in_err-at_place-in-Ok-None-clause-back
returns-in_err-at_place-in-Ok-None-clause-back g c = loads_back _ _ _ _ _ c.args.file.now _ _ (returns-in_err-at_place-in-Ok-None-clause-loads g c)

pub returns-in_ok-at_place-in-Ok-None-clause-back : goal.returns-in_ok-at_place-in-Ok-None-clause-back
returns-in_ok-at_place-in-Ok-None-clause-back g c =
    loads_back g.A.WeightSource g.B.WeightSource g.C.WeightSource g.D.WeightSource
    (source_joins g.A.WeightSource g.B.WeightSource g.C.WeightSource g.D.WeightSource c.args.sources)
    c.args.file.now c.read_plan-read.new.file (Ok c.in_ok-at_place-in-Ok-None.field-0)
    (returns-in_ok-at_place-in-Ok-None-clause-loads g c)

pub returns-in-Err-clause-back : goal.returns-in-Err-clause-back
returns-in-Err-clause-back g c =
    loads_back g.A.WeightSource g.B.WeightSource g.C.WeightSource g.D.WeightSource
    (source_joins g.A.WeightSource g.B.WeightSource g.C.WeightSource g.D.WeightSource c.args.sources)
    c.args.file.now c.read_plan-read.new.file
    (Err (record { fault = c.in-Err.fault; left = Planned c.take_plan-plan.result c.args.sources })) (returns-in-Err-clause-loads g c)

pub returns-in_err-month-in-Ok-Some-clause-handed : goal.returns-in_err-month-in-Ok-Some-clause-handed
returns-in_err-month-in-Ok-Some-clause-handed g c =
    rw (err_is c.from_residual.result (stopped_by c.in_err-month-in-Ok-Some.field-0.0) c.from_residual.ensures.1) (
    handed_unopened _ _ _ _ c.args.sources c.take_plan-plan.result c.open.result c.in_err-month-in-Ok-Some.field-0.0
    c.open.ensures c.in_err-month-in-Ok-Some.ensures.0
    )

pub returns-in_ok-month-in-Ok-Some-clause-handed : goal.returns-in_ok-month-in-Ok-Some-clause-handed
returns-in_ok-month-in-Ok-Some-clause-handed g c =
    handed_rest _ _ _ _ c.args.sources _ _ c.read_plan-read.new.file c.book_rest.new.file c.book_rest.result (rest g c).1

pub returns-in_err-at_place-in-Ok-None-clause-handed : goal.returns-in_err-at_place-in-Ok-None-clause-handed
returns-in_err-at_place-in-Ok-None-clause-handed g c =
    rw (err_is c.from_residual-in_err-at_place-in-Ok-None.result (stopped_by c.in_err-at_place-in-Ok-None.field-0.0) c.from_residual-in_err-at_place-in-Ok-None.ensures.1) (
    handed_unopened _ _ _ _ c.args.sources c.take_plan-plan.result c.open-in-Ok-None.result c.in_err-at_place-in-Ok-None.field-0.0
    c.open-in-Ok-None.ensures c.in_err-at_place-in-Ok-None.ensures.0
    )
