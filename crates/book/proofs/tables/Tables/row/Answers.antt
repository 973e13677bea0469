use Rattle.std.proofs.Common.{refl, sym, ap, slice_set}
use Rattle.std.proofs.lemmas.Option.{slice_get_read}
use Rattle.std.specs.Box.{with_value}
use Rattle.weights.specs.Limits.{meter_count}
use Rattle.book.proofs.Alike.{tables_alike}
use Rattle.book.proofs.tables.Tables.row.Goals as goal

pub returns : goal.returns
returns c =
    let tables = c.args.self.now in
    let meter = c.args.meter in
    let row = c.element.result.now in
    let read = c.deref_mut.ensures.value in (
      (refl, λ w. tables_alike refl (ap (λ rows. with_value tables.rows (slice_set rows meter w)) read)),
      record { writes_back = tt; value = slice_get_read tables.rows.value meter_count meter row (sym tables.meters) c.requires (rw read at c.element.ensures.value) },
    )
