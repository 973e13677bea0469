use Rattle.std.proofs.Common.{◌≡◌, false, [], refl, zero-le}
use Rattle.weights.specs.Limits.{meter_count}
use Rattle.book.specs.Limits.{hour_count}
use Rattle.book.specs.Marks.{is_marked, ones_of}
use Rattle.book.proofs.Lookup.{words_alike}
use Rattle.book.proofs.Marking.{get_or-zeros, unmarked_past}
use Rattle.book.proofs.tables.Tables.empty.Goals as goal

pub returns : goal.returns
returns c =
    let row = c.empty.result in
    let rows = c.in_ok-rows.ensures.ok in
    let sums = c.in_ok-sums.ensures.ok in
    record {
      marks = λ meter hour. rw rows (words_alike (λ words. is_marked words hour ≡ false) meter_count row (c.empty.ensures.hours hour) (unmarked_past [] hour zero-le) meter);
      counts = λ meter. rw rows (words_alike (λ words. ones_of words ≡ 0) meter_count row c.empty.ensures.ones refl meter);
      sums = λ hour. rw sums (get_or-zeros hour_count hour);
      weights = refl;
    }
