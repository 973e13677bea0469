-- Running cut: a share is the step of the rounded running total. Assumes nothing.
use Rattle.std.specs.Prelude.{ℕ, ◌+◌, ◌-◌, ◌*◌, ◌/◌, List, map, length, take, sum}
use Rattle.std.specs.List.{range_with_len}

-- total × (the first k weights) ÷ sum of the weights, rounded down
abbrev pub up_to : ℕ → List ℕ → ℕ → ℕ
up_to total weights k = total * sum (take k weights) / sum weights

-- what the weight at position k adds to that
abbrev pub share_by_running : ℕ → List ℕ → ℕ → ℕ
share_by_running total weights k = up_to total weights (k + 1) - up_to total weights k

abbrev pub running_cut : ℕ → List ℕ → List ℕ
running_cut total weights = map (share_by_running total weights) (range_with_len 0 (length weights))
