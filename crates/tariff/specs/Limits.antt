-- The limits of a segment's terms, of its peak and total, and of a fee.
use Rattle.std.specs.Prelude.{ℕ}

-- the greatest tariff, in thousandths of € per kWh/h per year
abbrev pub greatest_tariff : ℕ
greatest_tariff = 9999

-- the greatest factor, in thousandths
abbrev pub greatest_factor : ℕ
greatest_factor = 2000

-- the greatest peak of a segment in kWh/h: 64 meters with 20,000 kWh each in one hour
abbrev pub greatest_peak : ℕ
greatest_peak = 1280000

-- the greatest total of a segment, and so the greatest capacity that is priced, in kWh/h
abbrev pub greatest_capacity : ℕ
greatest_capacity = 2560000

-- no fee is above this number of cents, which the greatest capacity and tariff give under the dearest service,
-- for 31 days of January in a year of 365
abbrev pub greatest_fee : ℕ
greatest_fee = 2758299485
