use Rattle.std.proofs.Common.{◌+◌, [], ◌∷◌, ◌++◌, take, vec_items, string_bytes, sym, ap, ◌∙◌, subst, arith}
use Rattle.std.proofs.lemmas.List.{take_more}
use Rattle.std.proofs.lemmas.Result.{err_from_is_err_and}
use Rattle.calculator.specs.Replies.{Writes, WriteAll}
use Rattle.calculator.proofs.Words.{write_all_push, write_all_at}
use Rattle.calculator.proofs.numbers.read_numbers.Goals as goal

pub returns-in_err-parse : goal.returns-in_err-parse
returns-in_err-parse c =
    let p = err_from_is_err_and c.from_residual.result c.from_residual.ensures.1 in
    rw (p.1, p.2) (λ ns all.
    let words = c.args.words.now in
    let word = c.word-item.result in
    let one = write_all_at words ns c.loop-word.word-index word all c.loop-word-test.true in
    let read = ap string_bytes (sym c.word-item.is) ∙ sym c.as_str.ensures.value in
    let writes = subst (λ bs. Writes bs one.0) read one.1 in
    c.in_err-parse.ensures.value.0 (writes.digits, omega (arith, writes.number, writes.fits)))

pub loop-word-preserved : goal.loop-word-preserved
loop-word-preserved c =
    let words = c.args.words.now in
    let word = c.word-item.result in
    let read = c.in_ok-parse.ensures.value.0 in
    let number = c.in_ok-parse.field-0 in
    let writes : Writes c.as_str.result.now number = record { digits = read.0.0; number = read.1; fits = omega (arith, read.0.1, read.1) } in
    let here = take_more words c.loop-word.word-index word c.loop-word-test.true ∙ ap (λ w. take c.loop-word.word-index words ++ w ∷ []) (sym c.word-item.is) in
    subst (λ ns. WriteAll (take (c.loop-word.word-index + 1) words) ns) (sym c.in_ok-push.ensures.items)
    (subst (λ ws. WriteAll ws (vec_items c.loop-word.numbers ++ number ∷ [])) (sym here)
    (write_all_push (take c.loop-word.word-index words) (vec_items c.loop-word.numbers) word number c.loop-word.invariant
    (subst (λ bs. Writes bs number) c.as_str.ensures.value writes)))
