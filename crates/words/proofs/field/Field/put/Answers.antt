use Rattle.words.proofs.Placing.{below_from_shr, or_placed}
use Rattle.words.proofs.field.Field.put.Goals as goal

pub returns : goal.returns
returns c =
    let small = below_from_shr c.args.value c.args.self.width c.if-value-self-ne0.false in
    (small, or_placed c.args.bits c.args.value c.args.self.low c.args.self.width c.requires small c.args.self.ends)
