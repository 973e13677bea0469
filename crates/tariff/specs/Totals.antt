-- The total of a segment: the capacity that is cut over its users.
use Rattle.std.specs.Prelude.{ℕ, ◌*◌, ◌≤◌, ◌&&◌, Option, nat_le}
use Rattle.calendar.specs.Rounding.{rounded_up}
use Rattle.tariff.specs.Limits.{greatest_peak, greatest_factor}
use Rattle.tariff.specs.Faults.{refused_unless}

-- a factor is a number of thousandths
abbrev pub thousandths : ℕ
thousandths = 1000

-- the total in kWh/h: peak × factor ÷ 1,000, rounded up
abbrev pub segment_total : ℕ → ℕ → ℕ
segment_total peak factor = rounded_up (peak * factor) thousandths

-- the least whole number that is not below number ÷ by
pub record LeastNotBelow (number by least : ℕ) : Type 0 where
  pub covers : number ≤ least * by
  pub lowest : (other : ℕ) → number ≤ other * by → least ≤ other

-- the number with which a total is refused, if any
abbrev pub total_refusal : ℕ → ℕ → Option ℕ
total_refusal peak factor = refused_unless (nat_le peak greatest_peak && nat_le factor greatest_factor)
