-- The fee of a capacity in cents: the exact quotient, and the whole number nearest to it.
use Rattle.std.specs.Prelude.{◌≡◌, ℕ, ◌+◌, ◌-◌, ◌*◌, ◌/◌, ◌≤◌, min, max, List, [], ◌∷◌, Option, nat_le, slice_index}
use Rattle.calendar.specs.Calendar.{days_of_year}
use Rattle.calendar.specs.OfPeriod.{days_billed}
use Rattle.calendar.specs.declared.period.Period.{Period}
use Rattle.tariff.specs.declared.quotient.Quotient.{Quotient}
use Rattle.tariff.specs.declared.service.Service.{Service}
use Rattle.tariff.specs.declared.service.Service.TheVariants.{FullYear, PartYear, PartMonth}
use Rattle.tariff.specs.declared.terms.Terms.{Terms}
use Rattle.tariff.specs.Limits.{greatest_capacity}
use Rattle.tariff.specs.Faults.{refused_unless}

-- the season of each month from January, in hundredths
abbrev pub seasons : List ℕ
seasons = 175 ∷ 155 ∷ 130 ∷ 95 ∷ 65 ∷ 50 ∷ 50 ∷ 50 ∷ 65 ∷ 105 ∷ 140 ∷ 160 ∷ []

-- the season of a month, 1 to 12
abbrev pub season_of : ℕ → ℕ
season_of month = slice_index seasons (month - 1)

-- the multiplier of a service under a year, in hundredths
abbrev pub part_year_multiplier : ℕ
part_year_multiplier = 145

-- how many times dearer a service under a month is
abbrev pub short_term_coefficient : ℕ
short_term_coefficient = 5

-- a tariff is a number of thousandths of €, that is of tenths of a cent
abbrev pub tenths_of_cent : ℕ
tenths_of_cent = 10

-- the same with a multiplier and a season, each in hundredths
abbrev pub seasonal_parts : ℕ
seasonal_parts = 100000

-- a quotient taken so many times
abbrev pub times : ℕ → Quotient → Quotient
times count q = record { dividend = count * q.dividend; divisor = q.divisor }

-- the charge that every fee starts from: capacity × tariff × days billed
abbrev pub charge_for : Period → Terms → ℕ → ℕ
charge_for p t capacity = capacity * t.tariff * days_billed p

-- the exact fee in cents of a service under a year, from the charge, the month's season and the days of the year
abbrev pub seasonal_fee : ℕ → ℕ → ℕ → Quotient
seasonal_fee charge season year_days =
    record { dividend = charge * part_year_multiplier * season; divisor = year_days * seasonal_parts }

-- the exact fee in cents of each service, from the same
abbrev pub exact_fee : Service → ℕ → ℕ → ℕ → Quotient
exact_fee FullYear charge season year_days = record { dividend = charge; divisor = year_days * tenths_of_cent }
exact_fee PartYear charge season year_days = seasonal_fee charge season year_days
exact_fee PartMonth charge season year_days = times short_term_coefficient (seasonal_fee charge season year_days)

-- the exact fee in cents of a capacity under a segment's terms, for a period
abbrev pub fee_for : Period → Terms → ℕ → Quotient
fee_for p t capacity = exact_fee t.service (charge_for p t capacity) (season_of p.month) (days_of_year p.year)

-- the whole number nearest to a quotient, halves up
abbrev pub nearest : Quotient → ℕ
nearest q = (2 * q.dividend + q.divisor) / (2 * q.divisor)

-- how far two numbers are apart
abbrev pub apart : ℕ → ℕ → ℕ
apart a b = max a b - min a b

-- no other whole number is nearer to the quotient, and none that is as near is greater.
-- Distances are counted in parts of which the divisor makes one
pub record NearestHalvesUp (q : Quotient) (whole : ℕ) : Type 0 where
  pub nearer : (other : ℕ) → apart q.dividend (whole * q.divisor) ≤ apart q.dividend (other * q.divisor)
  pub greater : (other : ℕ) → apart q.dividend (whole * q.divisor) ≡ apart q.dividend (other * q.divisor) → other ≤ whole

-- the number with which a fee is refused, if any
abbrev pub fee_refusal : ℕ → Option ℕ
fee_refusal capacity = refused_unless (nat_le capacity greatest_capacity)
