-- The limits of a weight source.
use Rattle.std.specs.Prelude.{ℕ}

-- how many meters a segment has, numbered from 0
abbrev pub meter_count : ℕ
meter_count = 64

-- the greatest amount that may be noted: the kWh of one meter in one hour
abbrev pub greatest_amount : ℕ
greatest_amount = 20000

-- the greatest weight that a meter may come to
abbrev pub greatest_weight : ℕ
greatest_weight = 15000000
