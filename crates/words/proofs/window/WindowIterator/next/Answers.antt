use Rattle.std.proofs.Common.{◌≡◌, ◌≤◌, ◌∷◌, length, ap, arith}
use Rattle.words.specs.Bytes.{word_bytes, numbered}
use Rattle.words.specs.Windows.{entries}
use Rattle.words.proofs.Spelling.{words_front}
use Rattle.words.proofs.window.WindowIterator.next.Goals as goal

pub returns-clause-goes : goal.returns-clause-goes
returns-clause-goes c =
    let split = c.in_ok-bytes.ensures.cases in
    let long : word_bytes ≤ length c.args.self.now.rest.now = omega arith in
    let front = ap (numbered c.args.self.now.number) (words_front c.args.self.now.rest.now long) in
    let shows : entries c.args.self.now ≡ (c.args.self.now.number, c.from_be_bytes.result) ∷ entries c.new.result = cc in
    record { on = λ _. (tt, tt, omega (arith, ap length shows)); keeps = tt; rests = λ _. tt }
