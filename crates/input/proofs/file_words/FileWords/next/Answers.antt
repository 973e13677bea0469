use Rattle.std.proofs.Common.{refl, ap, subst}
use Rattle.input.specs.Blocks.{BlockRead, NoneLeft}
use Rattle.input.specs.declared.file_words.FileWords.{FileWords}
use Rattle.input.proofs.Ending.{ended, next_word}
use Rattle.input.proofs.file_words.FileWords.next.Goals as goal

pub returns-then-not-branch : goal.returns-then-not-branch
returns-then-not-branch g c =
    let none = c.in_default.ensures.given in
    let advanced = rw c.if-not-branch.true at c.in_ok-advance.ensures in
    ended c.args.self.now none.0 _
    (subst (λ b. NoneLeft b c.advance.new.self) (ap (λ (f : FileWords _ _). f.blocks) none.1) advanced)
    (ap (λ (f : FileWords _ _). f.given) none.1) (ap (λ (f : FileWords _ _). f.number) none.1)

pub returns : goal.returns
returns g c =
    let none = c.in_default.ensures.given in
    let advanced = rw c.if-not-branch.false at c.in_ok-advance.ensures in
    next_word c.args.self.now none.0 _
    (subst (λ b. BlockRead b c.advance.new.self) (ap (λ (f : FileWords _ _). f.blocks) none.1) advanced)
    refl (ap (λ (f : FileWords _ _). f.number) none.1)
    c.next_in_block-2.result c.next_in_block-2.new.self c.next_in_block-2.ensures.given c.next_in_block-2.ensures.blocks
