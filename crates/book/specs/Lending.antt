-- What a book's tables are once a row that was lent comes back. Promises of the code's own parts cite it, no public promise does.
use Rattle.std.specs.Prelude.{ℕ, slice_set}
use Rattle.std.specs.Borrow.{Fml, Lends, MutBor}
use Rattle.std.specs.Box.{with_value}
use lib.ListN.{length-set}
use mathlib.Core.Path.{◌∙◌}
use Rattle.book.specs.contracts.row.Row as one_meter
use Rattle.book.specs.contracts.tables.Tables as all_meters
use Rattle.book.specs.declared.row.Row.{Row}
use Rattle.book.specs.declared.tables.Tables.{Tables}

-- the tables with another row for the meter: sums and other meters' rows are as they were
abbrev pub with_row : Tables → (meter : ℕ) → Row → Tables
with_row tables meter row =
    record {
      sums = tables.sums;
      rows = with_value tables.rows (slice_set tables.rows.value meter row);
      hours = tables.hours;
      meters = length-set tables.rows.value meter row ∙ tables.meters;
    }

-- the meter's row is lent: the tables end with what it was last changed to
abbrev pub LendsRow : MutBor Tables → (meter : ℕ) → (lent : MutBor Row) → Fml
LendsRow tables meter lent = Lends all_meters.the_row one_meter.the_row tables lent (with_row tables.now meter)
