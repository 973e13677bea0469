-- Tables with the same sums and rows are the same.
use Rattle.std.proofs.Common.{◌≡◌, refl}
use Rattle.book.specs.contracts.tables.Tables.{the_row}
use Rattle.book.specs.declared.tables.Tables.{Tables}

pub tables_alike : {a b : Tables} → a.sums ≡ b.sums → a.rows ≡ b.rows → a ≡ b
tables_alike {a} {b} sums rows = the_row.coded.inj a b (rw (sums, rows) refl)
