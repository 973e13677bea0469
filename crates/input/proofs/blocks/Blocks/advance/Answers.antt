use Rattle.std.proofs.Common.{refl, rules}
use Rattle.input.specs.Blocks.{Broken}
use Rattle.input.proofs.blocks.Blocks.advance.Goals as goal

pub returns-in-Failed : goal.returns-in-Failed
returns-in-Failed g c =
    let still : Broken c.args.self.now c.args.self.now =
    record { unended = search rules; counts = refl; empty = c.args.self.now.broken c.in-Failed.is; then = c.in-Failed.is } in
    still
