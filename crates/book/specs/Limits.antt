-- The limits of a segment's book.
use Rattle.std.specs.Prelude.{ℕ, ◌*◌}
use Rattle.weights.specs.Limits.{greatest_amount, meter_count}

-- how many hours a month has at most, numbered from 0
abbrev pub hour_count : ℕ
hour_count = 745

-- how many hours one word marks
abbrev pub word_hours : ℕ
word_hours = 64

-- how many words mark the hours of a month
abbrev pub word_count : ℕ
word_count = 12

-- the greatest sum of an hour: the greatest amount of every meter
abbrev pub greatest_sum : ℕ
greatest_sum = greatest_amount * meter_count
