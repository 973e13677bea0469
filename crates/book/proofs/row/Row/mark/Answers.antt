use Rattle.std.proofs.Common.{ℕ, ◌/◌, ◌%◌, ◌<◌, List, length, get_or, set, ap, ◌∙◌, arith}
use lib.Bits.{bit_or}
use Rattle.std.proofs.lemmas.Nat.{one_shl}
use Rattle.book.specs.Limits.{word_hours}
use Rattle.book.specs.Marks.{is_marked, ones_of}
use Rattle.book.proofs.Marking.{marked_after, ones_marked}
use Rattle.book.proofs.row.Row.mark.Goals as goal

pub returns : goal.returns
returns c =
    let words = c.args.self.now.marks in
    let hour = c.args.hour in
    let place = hour / word_hours in
    let inside : place < length words = omega (arith, c.args.self.now.sized) in
    let shifted = ap (λ (bit : ℕ). set words place (bit_or (get_or words place 0) bit)) (one_shl (hour % word_hours) word_hours (omega arith)) in
    record {
      hours = λ h. ap (λ (l : List ℕ). is_marked l h) shifted ∙ marked_after words hour inside h;
      ones = ap ones_of shifted ∙ ones_marked words hour inside c.requires.free;
    }
