-- The days for which a period is billed.
use Rattle.std.specs.Prelude.{ℕ, Bool}
use Rattle.calendar.specs.Calendar.{billed_days, whole_month}
use Rattle.calendar.specs.declared.period.Period.{Period}

-- how many they are
abbrev pub days_billed : Period → ℕ
days_billed p = billed_days p.year p.month p.hours

-- are they the whole month
abbrev pub is_whole : Period → Bool
is_whole p = whole_month p.year p.month p.hours
