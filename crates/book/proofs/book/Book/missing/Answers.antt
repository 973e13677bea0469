use Rattle.std.proofs.Common.{◌≡◌, [], Some, get_or, arith}
use Rattle.book.specs.Contents.{marks_of}
use Rattle.book.specs.Marks.{is_marked}
use Rattle.book.proofs.Counting.{below_not}
use Rattle.book.proofs.book.Book.missing.Goals as goal

pub returns-clause-lacked : goal.returns-clause-lacked
returns-clause-lacked g c =
    let words = get_or (marks_of c.args.self.now.tables) c.args.meter [] in
    let some : c.count.result ≡ Some c.in_ok-count.count = c.in_ok-count.ensures.ok_part in
    let found = rw some at c.count.ensures in
    λ none. omega (arith, found.2 c.args.hours none, below_not (is_marked words) c.args.hours)
