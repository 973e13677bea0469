use Rattle.std.proofs.Common.{◌≡◌, cond, sym, ap, subst, arith}
use Rattle.plan.specs.OfPlan.{contents}
use Rattle.words.specs.declared.word.Word.TheVariants.{Factor}
use Rattle.plan.specs.Questions.{is_full}
use Rattle.monthfile.specs.declared.phase.Phase.TheVariants.{Segments, Meters}
use Rattle.monthfile.specs.Faults.{Judged, JudgedByPlan}
use Rattle.monthfile.specs.Judging.{terms_call}
use Rattle.monthfile.specs.View.{standing_of}
use Rattle.monthfile.proofs.Factor.{factor_judged}
use Rattle.monthfile.proofs.reader.Reader.judged.Goals as goal

pub returns-in-Factor-Terms : goal.returns-in-Factor-Terms
returns-in-Factor-Terms c =
    let arm = c.in-Factor-Terms in
    let plan = contents c.args.self.now.plan in
    let after = standing_of c.take_segment.new.self in
    let same : arm.given.segment ≡ arm.segment = omega arith in
    let stood = ap (λ phase. record { phase = phase; plan = plan }) arm.is-1 in
    let answer = subst (λ st. JudgedByPlan st c.args.place (terms_call arm.given arm.factor) (λ p. cond (is_full p) Meters Segments) c.take_segment.result after) stood c.take_segment.ensures in
    subst (λ word. Judged (standing_of c.args.self.now) c.args.place word c.take_segment.result after) (sym arm.is-0)
    (subst (λ st. Judged st c.args.place (Factor arm.segment arm.factor) c.take_segment.result after) (sym stood)
    (factor_judged plan c.args.place arm.given arm.segment arm.factor same c.take_segment.result after answer))
