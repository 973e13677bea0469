-- The month stands as the words so far say; each turn has one more.
use Rattle.std.proofs.Common.{◌-◌, ◌^◌}
use Rattle.loading.specs.Stages.{AfterWords, held}
use Rattle.loading.proofs.Rest.{BooksSoFar}
use Rattle.loading.proofs.bookings.Bookings.book_words.Given as goal

abbrev pub invariant-loop-place : goal.invariant-loop-place
invariant-loop-place g l =
    AfterWords l.initial.self (λ joins words. BooksSoFar joins words l.initial.file l.file l.self.reader.phase (held l.self))

abbrev pub decreases-loop-place : goal.decreases-loop-place
decreases-loop-place g l = 2 ^ 64 - l.file.number
