use Rattle.std.proofs.Common.{◌≡◌, length, ap, arith}
use Rattle.words.specs.Bytes.{words_of, numbered, number_at}
use Rattle.words.proofs.Spelling.{words_append, left_over-append, length-words}
use Rattle.words.proofs.Numbering.{numbered-append}
use Rattle.words.proofs.window.Window.new.Goals as goal

pub returns-clause-in_file : goal.returns-clause-in_file
returns-clause-in_file c before whole count =
    let number : number_at 0 (length (words_of before)) ≡ c.args.first = omega (arith, length-words before) in
    let words = ap (numbered 0) (words_append before c.args.block.now whole) in
    let follow = numbered-append 0 (words_of before) (words_of c.args.block.now) (omega arith) in
    (cc, left_over-append before c.args.block.now whole)
