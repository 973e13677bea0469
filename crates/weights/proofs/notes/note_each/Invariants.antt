use Rattle.std.proofs.Common.{◌≡◌, ◌+◌, ◌≤◌, length, drop}
use Rattle.weights.specs.Accepted.{accepted_at, weights_after}
use Rattle.weights.proofs.notes.note_each.Given as goal

-- The amounts that are left bring the count and the weights to what all of them do from the start.
abbrev pub invariant-loop-amount : goal.invariant-loop-amount
invariant-loop-amount g l =
    let source = g.S.WeightSource in
    let join = source.joining l.initial.source in
    let before = source.weights l.initial.source in
    let weights = source.weights l.source in
    let rest = drop l.amount-index l.amounts in
    (source.joining l.source ≡ join)
    × (l.count ≤ l.amount-index)
    × (l.count + length (accepted_at join weights l.meter rest)
    ≡ length (accepted_at join before l.meter l.amounts))
    × (weights_after join weights l.meter rest ≡ weights_after join before l.meter l.amounts)
