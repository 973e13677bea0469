use Rattle.std.proofs.Common.{◌-◌, length, rules, sym, subst}
use Rattle.std.proofs.KnownBytes.{Consumes-trans}
use Rattle.std.specs.Io.KnownBytes.{Consumes}
use Rattle.input.proofs.Placing.{filled}
use Rattle.input.proofs.filling.fill.Goals as goal

pub loop-held-preserved : goal.loop-held-preserved
loop-held-preserved g c =
    let held = c.loop-held.held in
    let block = c.loop-held.block in
    let so_far = c.loop-held.invariant in
    let read = c.in_ok-count.ensures in (
      search rules,
      search rules,
      subst (Consumes _ _) (sym (filled held (length block - held) c.in_ok-count.count block c.read.new.buf so_far.1 read.bound.0))
          (Consumes-trans _ _ _ _ _ so_far.2 read.bytes.0),
    )
