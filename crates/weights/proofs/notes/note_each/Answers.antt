use Rattle.std.proofs.Common.{◌≡◌, ◌+◌, cond, length, get_or, drop, is_ok, sym, ◌∙◌, arith}
use Rattle.std.proofs.lemmas.List.{at_drop_all, at_drop_more, set-get_or}
use Rattle.weights.specs.Accepted.{accepted_at, weights_after}
use Rattle.weights.proofs.Joined.{noted_next, noted_each}
use Rattle.weights.proofs.notes.note_each.Goals as goal
use Rattle.weights.proofs.notes.note_each.Goals.{then-is_ok, else-is_ok}

pub loop-amount-preserved : goal.loop-amount-preserved
loop-amount-preserved g c =
    let join = g.S.WeightSource.joining c.args.source.now in
    let weights = g.S.WeightSource.weights c.loop-amount.source in
    let meter = c.args.meter in
    let amounts = c.args.amounts.now in
    let i = c.loop-amount.amount-index in
    let inside = c.loop-amount-test.true in
    let inv = c.loop-amount.invariant in
    let next = noted_next join weights meter (g.met.S.WeightSource.sized c.loop-amount.source) (get_or amounts i 0)
    (drop (i + 1) amounts) _ c.note.result (rw inv.0 at c.note.ensures.noted)
    in
    let count : c.if-is_ok.count ≡ c.loop-amount.count + cond (is_ok c.note.result) 1 0 =
    elim c.if-is_ok.branch [
      | then-is_ok w ↦ rw (← w.if-is_ok.ensures.value) w.count-is
      | else-is_ok w ↦ rw (← w.if-is_ok.ensures.value) (omega (arith, w.count-is))
    ]
    in (
      c.note.ensures.joining ∙ inv.0,
      elim c.if-is_ok.branch [ then-is_ok w ↦ omega (arith, w.count-is) | else-is_ok w ↦ omega (arith, w.count-is) ],
      omega (arith, count, next.0, inv.2, at_drop_more (λ l. length (accepted_at join weights meter l)) amounts i 0 inside),
      next.1 ∙ sym (at_drop_more (weights_after join weights meter) amounts i 0 inside) ∙ inv.3,
    )

pub returns-clause-noted : goal.returns-clause-noted
returns-clause-noted g c =
    let source = c.args.source.now in
    let join = g.S.WeightSource.joining source in
    let weights = g.S.WeightSource.weights c.loop-amount.source in
    let meter = c.args.meter in
    let amounts = c.args.amounts.now in
    let i = c.loop-amount.amount-index in
    let laws = g.met.S.WeightSource in
    let inv = c.loop-amount.invariant in
    let past = c.loop-amount-test.false in
    noted_each join (g.S.WeightSource.weights source) meter (laws.swaps source) (laws.keeps source)
    (laws.covers source) amounts c.loop-amount.count weights
    (omega (arith, inv.2, at_drop_all (λ l. length (accepted_at join weights meter l)) amounts i past))
    (cc (set-get_or weights meter 0, at_drop_all (weights_after join weights meter) amounts i past))
