use Rattle.std.proofs.Common.{◌^◌, ◌<◌, ◌≤◌, length, get_or, ◌∙◌, arith, rules}
use lib.Count.{ones}
use Rattle.std.proofs.lemmas.Nat.{ones-le}
use Rattle.std.proofs.lemmas.List.Sums.{sum_by_more}
use Rattle.book.specs.Limits.{word_hours}
use Rattle.book.proofs.Counting.{marked_below-is, ones_word}
use Rattle.book.proofs.row.Row.count.Goals as goal

word_fits : (c : goal.After-from-count) → get_or c.args.self.now.marks c.loop-word.word-index 0 < 2 ^ word_hours
word_fits c = search rules

-- a word has at most 64 ones
few : (c : goal.After-from-count) → c.from-count.result ≤ word_hours
few c = omega (arith, ones-le word_hours (get_or c.args.self.now.marks c.loop-word.word-index 0) (word_fits c))

pub loop-word-preserved : goal.loop-word-preserved
loop-word-preserved c =
    let words = c.args.self.now.marks in
    let i = c.loop-word.word-index in
    let inside : i < length words = omega (arith, c.args.self.now.sized) in (
      omega (arith, sum_by_more ones words i 0 inside),
      omega (arith, few c),
      omega (arith, ones_word words i (word_fits c)),
    )

pub returns-clause-hours : goal.returns-clause-hours
returns-clause-hours c =
    let words = c.args.self.now.marks in
    let i = c.loop-word.word-index in
    let past : length words ≤ i = omega (arith, c.args.self.now.sized) in
    λ hours none. c.loop-word.invariant.2 ∙ marked_below-is words i hours past none
