use Rattle.std.proofs.Common.{◌-◌, ◌<◌, length, take, drop, vec_items, subst, arith}
use Rattle.std.proofs.lemmas.Bool.{ltb-false}
use Rattle.calculator.specs.Requests.{AnsweredBy, Asks, Named}
use Rattle.calculator.proofs.Answering.{asked, opened}
use Rattle.calculator.proofs.request.reply_to.Goals as goal

pub returns : goal.returns
returns c =
    let words = c.args.words.now in
    let answer = c.reply_by_name.result in
    let some : 0 < length words = omega (arith, ltb-false) in
    let numbers = vec_items c.in_ok-numbers.numbers in
    subst (λ ws. AnsweredBy (Asks ws) answer) (opened words c.name-item.result some c.name-item.is)
    (asked c.name-item.result (take (length words - 1) (drop 1 words)) numbers c.in_ok-numbers.ensures answer
    (subst (λ name. AnsweredBy (Named name numbers) answer) c.as_str.ensures.value
    (subst (λ ns. AnsweredBy (Named c.as_str.result.now ns) answer) c.deref.ensures.value c.reply_by_name.ensures)))
