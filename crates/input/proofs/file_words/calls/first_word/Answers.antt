use Rattle.std.proofs.ByRecursion.{All-from_get_or}
use Rattle.input.proofs.Giving.{shows_first}
use Rattle.input.proofs.file_words.calls.first_word.Goals as goal

pub returns : goal.returns
returns c =
    shows_first c.args.bytes.now c.args.number c.new.result c.next.new.self c.next.result c.new.ensures.bytes c.new.ensures.number
    (All-from_get_or _ c.args.bytes.now 0 (λ k _. (c.type_inv.bytes k).fits)) c.next.ensures.steps
