-- The peaks that have been gone through are noted, and none of them passed the greatest weight.
use Rattle.std.proofs.Common.{◌≡◌, true, take}
use Rattle.book.specs.OfBook.{book_contents}
use Rattle.month.specs.Opening.{PeaksNoted, peaks_light}
use Rattle.month.proofs.peaks.carry_peaks.Given as goal

abbrev pub invariant-loop-peak : goal.invariant-loop-peak
invariant-loop-peak g l =
    PeaksNoted (g.S.WeightSource.joining l.initial.book.source) (take l.peak-index l.peaks)
    (book_contents l.initial.book) (book_contents l.book)
    × (peaks_light (g.S.WeightSource.joining l.initial.book.source) (take l.peak-index l.peaks) ≡ true)
    × (g.S.WeightSource.joining l.book.source ≡ g.S.WeightSource.joining l.initial.book.source)
