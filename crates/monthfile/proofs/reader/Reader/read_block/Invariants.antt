use Rattle.std.proofs.Common.{vec_items}
use Rattle.words.specs.Bytes.{words_of}
use Rattle.monthfile.specs.View.{standing_of}
use Rattle.monthfile.proofs.OneByOne.{SoFar}
use Rattle.monthfile.proofs.reader.Reader.read_block.Given as goal

abbrev pub invariant-loop-place : goal.invariant-loop-place
invariant-loop-place l =
    SoFar (standing_of l.initial.self) l.first (words_of l.block) (vec_items l.initial.bookings) (words_of l.place-iterator.rest.now)
    l.place-iterator.number (vec_items l.bookings) (standing_of l.self)
