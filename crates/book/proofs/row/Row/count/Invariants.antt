use Rattle.std.proofs.Common.{◌≡◌, ◌*◌, ◌≤◌, take}
use Rattle.book.specs.Limits.{word_hours}
use Rattle.book.specs.Marks.{marked_below, ones_of}
use Rattle.book.proofs.row.Row.count.Given as goal

-- the ones of the words so far, of which each has at most 64, are the marked hours so far
abbrev pub invariant-loop-word : goal.invariant-loop-word
invariant-loop-word l =
    (l.count ≡ ones_of (take l.word-index l.self.marks))
    × (l.count ≤ word_hours * l.word-index)
    × (l.count ≡ marked_below l.self.marks (l.word-index * word_hours))
