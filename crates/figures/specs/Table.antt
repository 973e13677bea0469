-- Worked figures, over the definitions that the contracts cite. Assumes nothing.
use Rattle.std.specs.Prelude.{◌≡◌, ℕ, ◌*◌, true, List, [], ◌∷◌, length, Some, None, Option}
use Rattle.apportion.specs.Cutting.{greatest_total, refusal}
use Rattle.apportion.specs.LargestRemainder.{largest_remainder}
use Rattle.apportion.specs.RunningCut.{running_cut}
use Rattle.calendar.specs.Calendar.{billed_days, days_of_year, takes_period}
use Rattle.tariff.specs.Fees.{exact_fee, nearest, season_of}
use Rattle.tariff.specs.Totals.{segment_total}
use Rattle.tariff.specs.declared.service.Service.{Service}
use Rattle.tariff.specs.declared.service.Service.TheVariants.{FullYear, PartYear, PartMonth}

-- A figure: what was worked out by hand, and what of.
pub data Figure : Type 0 where
  -- total, weights and shares under largest remainder
  Largest : ℕ → List ℕ → List ℕ → Figure
  -- total, weights and shares under the running cut
  Running : ℕ → List ℕ → List ℕ → Figure
  -- total, weights and the number that the cut is refused with, if it is
  Answer : ℕ → List ℕ → Option ℕ → Figure
  -- peak, factor and total of a segment
  Total : ℕ → ℕ → ℕ → Figure
  -- service, capacity, tariff, days billed, month, days of the year and cents
  Fee : Service → ℕ → ℕ → ℕ → ℕ → ℕ → ℕ → Figure
  -- year, month, hours, days billed and days of the year
  Days : ℕ → ℕ → ℕ → ℕ → ℕ → Figure

abbrev pub Holds : Figure → Type 0
Holds (Largest total weights shares) = largest_remainder total weights ≡ shares
Holds (Running total weights shares) = running_cut total weights ≡ shares
Holds (Answer total weights number) = refusal greatest_total total weights (length weights) ≡ number
Holds (Total peak factor total) = segment_total peak factor ≡ total
Holds (Fee service capacity tariff days month year_days cents) =
    nearest (exact_fee service (capacity * tariff * days) (season_of month) year_days) ≡ cents
Holds (Days year month hours days year_days) =
    (takes_period year month hours ≡ true) × (billed_days year month hours ≡ days) × (days_of_year year ≡ year_days)

abbrev pub table : List Figure
table =
    Largest 10 (6 ∷ 6 ∷ 2 ∷ []) (4 ∷ 4 ∷ 2 ∷ [])
    ∷ Largest 11 (6 ∷ 6 ∷ 2 ∷ []) (5 ∷ 5 ∷ 1 ∷ [])
    ∷ Largest 2 (1 ∷ 1 ∷ 1 ∷ []) (1 ∷ 1 ∷ 0 ∷ [])
    ∷ Running 2 (1 ∷ 1 ∷ 1 ∷ []) (0 ∷ 1 ∷ 1 ∷ [])
    ∷ Largest 0 (0 ∷ 0 ∷ []) (0 ∷ 0 ∷ [])
    ∷ Running 0 (0 ∷ 0 ∷ []) (0 ∷ 0 ∷ [])
    ∷ Answer 0 (0 ∷ 0 ∷ []) None
    ∷ Answer 1 (0 ∷ 0 ∷ []) (Some 9)
    ∷ Total 1 1 1
    ∷ Total 1 0 0
    ∷ Total 1280000 2000 2560000
    ∷ Days 2022 1 744 31 365
    ∷ Fee FullYear 1000 1067 31 1 365 9062
    ∷ Fee PartYear 1000 1067 31 1 365 22995
    ∷ Days 2022 7 24 1 365
    ∷ Fee PartMonth 100 1067 1 7 365 106
    ∷ Fee FullYear 365 5 1 7 365 1
    ∷ Fee FullYear 365 4 1 7 365 0
    ∷ []
