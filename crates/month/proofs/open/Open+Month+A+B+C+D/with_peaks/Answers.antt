-- The plan's peaks lie within their limits and ascend; once they are noted the month stands.
use Rattle.std.proofs.Common.{◌≡◌, true, List, refl, subst}
use Rattle.plan.specs.Limits.{amr}
use Rattle.plan.specs.OfPlan.{contents}
use Rattle.plan.specs.declared.carried.CarriedPeak.{CarriedPeak}
use Rattle.month.specs.OfMonth.{books_of, held_sources, state_of, terms_of}
use Rattle.month.specs.Opening.{PeaksNoted, peaks_light}
use Rattle.month.proofs.Begun.{begun, peaks_ascend, peaks_fit}
use Rattle.month.proofs.open.Open+Month+A+B+C+D.with_peaks.Goals as goal

pub carry-requires-clause-fit : goal.carry-requires-clause-fit
carry-requires-clause-fit g c = cc (peaks_fit (contents c.args.plan) c.carried.ensures.well_made)

pub carry-requires-clause-ascend : goal.carry-requires-clause-ascend
carry-requires-clause-ascend g c = cc (peaks_ascend (contents c.args.plan) c.carried.ensures.well_made)

pub returns-in-Ok : goal.returns-in-Ok
returns-in-Ok g c =
    let is = c.carried.ensures.answer in
    let e = c.in-Ok.ensures in
    let terms = terms_of g.A.WeightSource g.B.WeightSource g.C.WeightSource g.D.WeightSource c.args.plan (held_sources c.args.books) in
    let before = books_of c.args.books in
    let after = state_of (record { plan = c.args.plan; books = c.carry.new.self }) in
    begun terms before after c.requires.opened c.requires.full
    (subst (λ (ps : List CarriedPeak). peaks_light (terms.joins amr) ps ≡ true) is e.light)
    (subst (λ (ps : List CarriedPeak). PeaksNoted (terms.joins amr) ps (before amr) (after.books amr)) is e.noted)
    e.others refl e.joins
