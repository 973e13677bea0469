-- The block begins with the bytes that were read so far.
use Rattle.std.proofs.Common.{◌≡◌, ◌-◌, ◌≤◌, length, take}
use Rattle.std.specs.Io.KnownBytes.{Consumes}
use Rattle.input.proofs.filling.fill.Given as goal

abbrev pub invariant-loop-held : goal.invariant-loop-held
invariant-loop-held g l =
    (length l.block ≡ length l.initial.block)
    × (l.held ≤ length l.block)
    × Consumes (g.R.Read.remaining l.initial.input) (g.R.Read.remaining l.input) (take l.held l.block)

abbrev pub decreases-loop-held : goal.decreases-loop-held
decreases-loop-held g l = length l.block - l.held
