use Rattle.std.proofs.Common.{◌≡◌, [], ◌++◌, get_or, take, string_bytes, codes, decimal, sym, ap, ◌∙◌, append_assoc, arith}
use Rattle.calculator.specs.Replies.{spaced}
use Rattle.calculator.proofs.Words.{spaced_more, spaced_one}
use Rattle.calculator.proofs.numbers.spaced_line.Goals as goal
use Rattle.calculator.proofs.numbers.spaced_line.Goals.{then-i-gt0+in_ok-push_str, else-i-gt0}

pub loop-i-preserved : goal.loop-i-preserved
loop-i-preserved c =
    let numbers = c.args.numbers.now in
    let written : string_bytes c.write.new.self ≡ string_bytes c.if-i-gt0.line ++ decimal (get_or numbers c.loop-i.i 0) = c.in_ok-write.ensures.bytes in
    elim c.if-i-gt0.branch [
      | then-i-gt0+in_ok-push_str w ↦
          let blank : string_bytes c.if-i-gt0.line ≡ spaced (take c.loop-i.i numbers) ++ codes " " =
          ap string_bytes w.line-is ∙ w.in_ok-push_str.ensures.bytes ∙ ap (λ bs. bs ++ codes " ") c.loop-i.invariant in
          written ∙ ap (λ bs. bs ++ decimal (get_or numbers c.loop-i.i 0)) blank
          ∙ append_assoc (spaced (take c.loop-i.i numbers)) (codes " ") (decimal (get_or numbers c.loop-i.i 0))
          ∙ sym (spaced_more numbers c.loop-i.i c.loop-i-test.true w.if-i-gt0.true)
      | else-i-gt0 w ↦
          let first : c.loop-i.i ≡ 0 = omega arith in
          let same : string_bytes c.if-i-gt0.line ≡ [] = ap string_bytes w.line-is ∙ c.loop-i.invariant ∙ ap (λ i. spaced (take i numbers)) first in
          written ∙ ap (λ bs. bs ++ decimal (get_or numbers c.loop-i.i 0)) same
          ∙ sym (spaced_one numbers c.loop-i.i c.loop-i-test.true first)
    ]
