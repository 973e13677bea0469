-- The Gregorian calendar, the periods that can be settled, and the days for which one is billed.
use Rattle.std.specs.Prelude.{ℕ, ◌+◌, ◌-◌, ◌*◌, ◌%◌, min, Bool, cond, not, ◌&&◌, ◌||◌, ◌==◌, nat_le}
use Rattle.calendar.specs.Rounding.{rounded_up}

-- the first year of the periods that can be settled
abbrev pub first_year : ℕ
first_year = 2000

-- the last one
abbrev pub last_year : ℕ
last_year = 2999

-- months are numbered 1 to 12, from January
abbrev pub last_month : ℕ
last_month = 12

-- the month in which the clock loses an hour
abbrev pub march : ℕ
march = 3

-- the month in which it gains one
abbrev pub october : ℕ
october = 10

-- the hours of a day
abbrev pub hours_of_day : ℕ
hours_of_day = 24

-- every fourth year is a leap year, and of the hundreds only every fourth
abbrev pub leap : ℕ → Bool
leap year = year % 4 == 0 && (not (year % 100 == 0) || year % 400 == 0)

-- the days of the longest months
abbrev pub longest_month : ℕ
longest_month = 31

-- April, June, September and November have 30 days, February 28 or 29, the others 31
abbrev pub days_of_month : ℕ → ℕ → ℕ
days_of_month year month =
    cond (month == 2) (cond (leap year) 29 28)
    (cond (month == 4 || (month == 6 || (month == 9 || month == 11))) 30 longest_month)

-- the days of a year that is no leap year
abbrev pub common_year : ℕ
common_year = 365

-- the days of a leap year
abbrev pub leap_year : ℕ
leap_year = 366

-- the days of a year
abbrev pub days_of_year : ℕ → ℕ
days_of_year year = cond (leap year) leap_year common_year

-- the hours of a whole month: 24 for each day, one less in March and one more in October
abbrev pub most_hours : ℕ → ℕ → ℕ
most_hours year month =
    let whole : ℕ = hours_of_day * days_of_month year month in
    cond (month == march) (whole - 1) (cond (month == october) (whole + 1) whole)

-- the days billed for so many hours: hours ÷ 24 rounded up, and never more than the month has
abbrev pub billed_days : ℕ → ℕ → ℕ → ℕ
billed_days year month hours = min (rounded_up hours hours_of_day) (days_of_month year month)

-- is every day of the month billed
abbrev pub whole_month : ℕ → ℕ → ℕ → Bool
whole_month year month hours = billed_days year month hours == days_of_month year month

-- does number lie between two limits, both included
abbrev pub between : ℕ → ℕ → ℕ → Bool
between least most number = nat_le least number && nat_le number most

-- can a period be settled: a month of the years above, and from one hour to all the hours that it has
abbrev pub takes_period : ℕ → ℕ → ℕ → Bool
takes_period year month hours =
    between first_year last_year year && (between 1 last_month month && between 1 (most_hours year month) hours)
