-- Each turn notes one peak, of a meter whose weight is still zero.
use Rattle.std.proofs.Common.{◌≡◌, ℕ, get_or, Some, None, Option, refl, ◌∙◌, subst}
use Rattle.std.proofs.lemmas.Result.{err_from_is_err_and}
use Rattle.book.specs.Answers.{joined_with}
use Rattle.book.specs.Contents.{Contents as BookContents}
use Rattle.book.specs.Faults.{number_of}
use Rattle.plan.specs.declared.carried.CarriedPeak.{CarriedPeak}
use Rattle.weights.specs.Answers.{note_refusal}
use Rattle.book.specs.OfBook.{book_contents}
use Rattle.month.proofs.Carrying.{light_more, noted_more, noted_none, too_heavy, with_peak}
use Rattle.month.proofs.peaks.carry_peaks.Goals as goal

-- what the source refuses a peak with, by the joining that the book began with
abbrev Refusal : (join : ℕ → ℕ → ℕ) → BookContents → CarriedPeak → Option ℕ
Refusal join held p = note_refusal p.meter p.amount (joined_with join held p.meter p.amount)

pub loop-peak-init : goal.loop-peak-init
loop-peak-init g c = (noted_none _ _ c.requires.opened, refl, refl)

pub returns-in_err-carry-clause-light : goal.returns-in_err-carry-clause-light
returns-in_err-carry-clause-light g c =
    let r = err_from_is_err_and c.from_residual.result c.from_residual.ensures.1 in
    let inv = c.loop-peak.invariant in
    let held = book_contents c.loop-peak.book in
    let peaks = c.args.peaks.now in
    let i = c.loop-peak.peak-index in
    let join = g.S.WeightSource.joining c.args.book.now.source in
    let d : CarriedPeak = record { meter = 0; amount = 0 } in
    let number = number_of c.in_err-carry.field-0.0 in
    let carried = rw (c.from.ensures, c.from-in-loop-peak.ensures) at c.in_err-carry.ensures.carried in
    let refusal : Refusal join held (get_or peaks i d) ≡ Some number =
    subst (λ (j : ℕ → ℕ → ℕ). Refusal j held (get_or peaks i d) ≡ Some number) inv.2 carried.0
    in
    let before = book_contents c.args.book.now in
    let heavy = too_heavy join peaks i d c.loop-peak-test.true c.requires.fit c.requires.ascend before held inv.0 number refusal in
    rw r.1 heavy.1

pub loop-peak-preserved : goal.loop-peak-preserved
loop-peak-preserved g c =
    let e = c.in_ok-carry.ensures in
    let carried = rw (c.from.ensures, c.from-in-loop-peak.ensures) at e.carried in
    let inv = c.loop-peak.invariant in
    let held = book_contents c.loop-peak.book in
    let peaks = c.args.peaks.now in
    let i = c.loop-peak.peak-index in
    let join = g.S.WeightSource.joining c.args.book.now.source in
    let d : CarriedPeak = record { meter = 0; amount = 0 } in
    let taken : Refusal join held (get_or peaks i d) ≡ None = subst (λ (j : ℕ → ℕ → ℕ). Refusal j held (get_or peaks i d) ≡ None) inv.2 carried.0 in
    let after : book_contents c.carry.new.self ≡ with_peak join held (get_or peaks i d) =
    subst (λ (j : ℕ → ℕ → ℕ). book_contents c.carry.new.self ≡ with_peak j held (get_or peaks i d)) inv.2 carried.1
    in
    let sized = g.met.S.WeightSource.sized c.loop-peak.book.source in
    let before = book_contents c.args.book.now in (
      noted_more join peaks i d c.loop-peak-test.true c.requires.fit c.requires.ascend before held inv.0 sized taken _ after,
      light_more join peaks i d c.loop-peak-test.true c.requires.fit c.requires.ascend before held inv.0 sized taken inv.1,
      e.joining ∙ inv.2,
    )
