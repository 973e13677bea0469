use Rattle.std.proofs.Common.{◌≡◌, take, string_bytes}
use Rattle.calculator.specs.Replies.{spaced}
use Rattle.calculator.proofs.numbers.spaced_line.Given as goal

abbrev pub invariant-loop-i : goal.invariant-loop-i
invariant-loop-i l = string_bytes l.line ≡ spaced (take l.i l.numbers)
