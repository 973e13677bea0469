use Rattle.std.proofs.Common.{take, vec_items}
use Rattle.calculator.specs.Replies.{WriteAll}
use Rattle.calculator.proofs.numbers.read_numbers.Given as goal

abbrev pub invariant-loop-word : goal.invariant-loop-word
invariant-loop-word l = WriteAll (take l.word-index l.words) (vec_items l.numbers)
