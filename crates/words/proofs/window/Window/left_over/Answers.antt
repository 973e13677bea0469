use Rattle.std.proofs.Common.{arith}
use Rattle.words.proofs.Spelling.{length-left_over}
use Rattle.words.proofs.window.Window.left_over.Goals as goal

pub returns : goal.returns
returns c = omega (arith, length-left_over c.args.self.now.rest.now)
