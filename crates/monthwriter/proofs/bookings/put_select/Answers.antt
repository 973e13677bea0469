use Rattle.std.proofs.Common.{◌≡◌, true, ap, rules}
use Rattle.monthfile.specs.File.{comes_next, select_words}
use Rattle.monthwriter.proofs.Putting.{at_start, at_end}
use Rattle.monthwriter.proofs.bookings.put_select.Goals as goal

pub returns-else-ne : goal.returns-else-ne
returns-else-ne c =
    let due : comes_next c.args.next c.args.spot ≡ true = search rules in
    at_end (at_start c.requires) (ap (λ told. select_words told c.args.spot) due)
