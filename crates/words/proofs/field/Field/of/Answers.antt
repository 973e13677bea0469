use Rattle.std.proofs.Common.{◌-◌, ◌/◌, ◌^◌, ap, ◌∙◌}
use lib.Bits.{bit_and}
use Rattle.std.proofs.lemmas.Nat.{one_shl, and_mask}
use Rattle.words.proofs.field.Field.of.Goals as goal

pub returns : goal.returns
returns c =
    ap (λ m. bit_and (c.args.bits / 2 ^ c.args.self.low) (m - 1)) (one_shl c.args.self.width 32 c.args.self.narrow)
    ∙ and_mask (c.args.bits / 2 ^ c.args.self.low) c.args.self.width
