-- Largest remainder: whole parts first, then the units left over by the size of what was cut off. Assumes nothing.
use Rattle.std.specs.Prelude.{ℕ, ◌+◌, ◌-◌, ◌*◌, ◌/◌, Bool, cond, ◌&&◌, ◌||◌, List, map, length, sum_by, sum, count_by, ◌==◌, nat_lt, slice_index}
use Rattle.std.specs.List.{range_with_len}

module _ (total : ℕ) (weights : List ℕ) where
  -- total × weight ÷ sum of the weights, rounded down
  abbrev pub whole_part : ℕ → ℕ
  whole_part k = total * slice_index weights k / sum weights

  -- what rounding down cut off, times the sum of the weights
  abbrev pub remainder : ℕ → ℕ
  remainder k = total * slice_index weights k - sum weights * whole_part k

  -- the units that the whole parts leave over
  abbrev pub left_over : ℕ
  left_over = total - sum_by whole_part (range_with_len 0 (length weights))

  -- a larger remainder precedes; with equal remainders the lower position does
  abbrev pub precedes : ℕ → ℕ → Bool
  precedes j k = nat_lt (remainder k) (remainder j) || (remainder j == remainder k && nat_lt j k)

  -- how many positions precede this one
  abbrev pub ahead : ℕ → ℕ
  ahead k = count_by (λ j. precedes j k) (range_with_len 0 (length weights))

  -- one more than the whole part exactly when fewer positions precede than units are left over
  abbrev pub share_by_remainder : ℕ → ℕ
  share_by_remainder k = whole_part k + cond (nat_lt (ahead k) left_over) 1 0

abbrev pub largest_remainder : ℕ → List ℕ → List ℕ
largest_remainder total weights = map (share_by_remainder total weights) (range_with_len 0 (length weights))
