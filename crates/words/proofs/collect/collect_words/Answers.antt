use Rattle.std.proofs.Common.{vec_items, arith}
use Rattle.std.proofs.ByRecursion.{All-from_get_or}
use Rattle.std.proofs.lemmas.Result.{IfOk-weaker}
use Rattle.words.proofs.Collecting.{collected, drained}
use Rattle.words.proofs.collect.collect_words.Goals as goal

pub returns : goal.returns
returns c =
    let bytes = c.new.ensures.bytes in
    let number = c.new.ensures.number in
    IfOk-weaker c.collect.result _ _
    (λ words ran.
    let none = ran.1.2 tt in
    let items = ran.2.0 in
    let shown = drained c.new.result ran.0 (none.0, (ran.1.0, ran.1.1, none.1)) in
    collected c.args.block.now c.args.first (vec_items words)
    (All-from_get_or _ c.args.block.now 0 (λ k _. (c.type_inv.block k).fits)) (omega arith) cc)
    c.collect.ensures.ran
