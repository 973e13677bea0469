use Rattle.std.proofs.Common.{◌<◌, [], length, get_or, arith}
use Rattle.std.proofs.lemmas.List.{length-map}
use Rattle.book.specs.Contents.{marks_of}
use Rattle.book.proofs.Bounds.{bounded_after}
use Rattle.book.proofs.book.Book.book.Goals as goal

pub invariant_of-self-2 : goal.invariant_of-self-2
invariant_of-self-2 g c =
    let book = c.args.self.now in
    let marks = marks_of book.tables in
    let sums = book.tables.sums.value in
    let entered = c.enter.ensures in
    let inside : c.args.meter < length marks = simp length-map (omega (arith, book.tables.meters)) in
    let within : c.args.hour < length sums = omega (arith, book.tables.hours) in
    let words = get_or (marks_of c.enter.new.self) c.args.meter [] in
    let bounded = bounded_after marks sums book.bounded c.args.meter c.args.hour c.args.amount words inside
    (omega arith) (cc) entered.hours within
    in record { bounded = rw (entered.row, entered.sums) bounded }
