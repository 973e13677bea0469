-- The lines of the gaps gone through.
use Rattle.std.proofs.Common.{◌≡◌, take, string_bytes}
use Rattle.lines.specs.Lines.{gap_text}
use Rattle.lines.proofs.texts.gap_text.Given as goal

abbrev pub invariant-loop-gap : goal.invariant-loop-gap
invariant-loop-gap l = string_bytes l.text ≡ gap_text (take l.gap-index l.gaps)
