-- A quotient of whole numbers, rounded up.
use Rattle.std.specs.Prelude.{ℕ, ◌+◌, ◌-◌, ◌/◌}

-- number ÷ by, rounded up to a whole number, for by above 0
abbrev pub rounded_up : ℕ → ℕ → ℕ
rounded_up number by = (number + (by - 1)) / by
