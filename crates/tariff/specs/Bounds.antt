-- What keeps the computation of a fee within its types. Promises of the code's own parts cite it, no public promise does.
use Rattle.std.specs.Prelude.{ℕ, ◌+◌, ◌*◌, ◌^◌, ◌<◌}
use Rattle.calendar.specs.Calendar.{longest_month}
use Rattle.tariff.specs.declared.quotient.Quotient.{Quotient}
use Rattle.tariff.specs.Limits.{greatest_capacity, greatest_fee, greatest_tariff}

-- the greatest season of a month, in hundredths
abbrev pub greatest_season : ℕ
greatest_season = 175

-- the most that capacity × tariff × days comes to
abbrev pub greatest_charge : ℕ
greatest_charge = greatest_capacity * greatest_tariff * longest_month

-- a quotient with a divisor above 0 and small parts, less than half a cent above the greatest fee
pub record Payable (q : Quotient) : Type 0 where
  pub positive : 0 < q.divisor
  pub room : 2 * q.dividend + 2 * q.divisor < 2 ^ 64
  pub highest : 2 * q.dividend < (2 * greatest_fee + 1) * q.divisor
