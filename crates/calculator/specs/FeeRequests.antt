-- The fee that a request asks for, through the calls of a plan. Assumes nothing.
use Rattle.std.specs.Prelude.{ℕ, ◌*◌, cond, Some, None, Option, ◌==◌}
use Rattle.calendar.specs.Calendar.{billed_days, days_of_year}
use Rattle.plan.specs.Calls.{PlanCall, SetPeriod, AddSegment, refusal_of, after_call}
use Rattle.plan.specs.Contents.{PeriodNumbers, nothing}
use Rattle.calculator.specs.declared.fees.FeeRequest.{FeeRequest}
use Rattle.tariff.specs.Fees.{exact_fee, fee_refusal, nearest, season_of}
use Rattle.tariff.specs.declared.service.Service.{Service}
use Rattle.tariff.specs.declared.service.Service.TheVariants.{FullYear, PartYear, PartMonth}

-- the first number, if there is one, else the second
abbrev pub or_else : Option ℕ → Option ℕ → Option ℕ
or_else None second = second
or_else (Some number) second = Some number

abbrev pub asked_period : FeeRequest → PeriodNumbers
asked_period r = record { year = r.year; month = r.month; hours = r.hours }

-- the plan call for segment 0 under these terms; a fee does not depend on the factor
abbrev pub terms_call : ℕ → ℕ → PlanCall
terms_call service tariff = AddSegment 0 (record { service = service; tariff = tariff; factor = 0 })

-- The number that a fee is refused with, if it is: that of the period, then of the terms, then of the capacity.
abbrev pub fee_number : PeriodNumbers → ℕ → ℕ → ℕ → Option ℕ
fee_number p service tariff capacity =
    or_else (refusal_of nothing (SetPeriod p))
    (or_else (refusal_of (after_call nothing (SetPeriod p)) (terms_call service tariff)) (fee_refusal capacity))

-- the service of a number that the plan takes
abbrev pub service_of : ℕ → Service
service_of number = cond (number == 0) FullYear (cond (number == 1) PartYear PartMonth)

-- the fee in cents: the whole number nearest to the exact quotient, halves up
abbrev pub fee_in_cents : PeriodNumbers → ℕ → ℕ → ℕ → ℕ
fee_in_cents p service tariff capacity =
    nearest
    (exact_fee (service_of service) (capacity * tariff * billed_days p.year p.month p.hours) (season_of p.month)
    (days_of_year p.year))
