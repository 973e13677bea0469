-- The marks of one meter's booked hours: one bit an hour, in words of 64.
use Rattle.std.specs.Prelude.{◌≡◌, ℕ, ◌*◌, ◌/◌, ◌%◌, ◌^◌, ◌≤◌, Bool, false, List, sum_by, count_by, ◌==◌, count_ones, slice_index}
use Rattle.std.specs.List.{range_with_len}
use Rattle.weights.specs.Limits.{greatest_amount}
use Rattle.book.specs.Limits.{word_hours}

-- the bit of an hour: hour h is bit h % 64 of word h / 64
abbrev pub bit_at : (words : List ℕ) (hour : ℕ) → ℕ
bit_at words hour = slice_index words (hour / word_hours) / 2 ^ (hour % word_hours) % 2

-- whether an hour is marked
abbrev pub is_marked : (words : List ℕ) (hour : ℕ) → Bool
is_marked words hour = bit_at words hour == 1

-- how many hours are marked: the ones of all the words
abbrev pub ones_of : (words : List ℕ) → ℕ
ones_of words = sum_by count_ones words

-- each sum is at most the greatest amount for every meter that has the hour
abbrev pub Bounded : (marks : List (List ℕ)) (sums : List ℕ) → Type 0
Bounded marks sums = (hour : ℕ) → slice_index sums hour ≤ greatest_amount * count_by (λ words. is_marked words hour) marks

-- no hour from a bound on is marked
abbrev pub EndsBy : (words : List ℕ) (hours : ℕ) → Type 0
EndsBy words hours = (hour : ℕ) → hours ≤ hour → is_marked words hour ≡ false

-- how many of the hours below a bound are marked
abbrev pub marked_below : (words : List ℕ) (hours : ℕ) → ℕ
marked_below words hours = count_by (is_marked words) (range_with_len 0 hours)
