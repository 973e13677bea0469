-- The three services, and the terms that a period allows.
use Rattle.std.specs.Prelude.{◌≡◌, ◌≢◌, ℕ, Bool, not, ◌&&◌, ◌||◌, MatchResult, Option, Result, ◌==◌, nat_le}
use Rattle.tariff.specs.declared.service.Service.{Service}
use Rattle.tariff.specs.declared.service.Service.TheVariants.{FullYear, PartYear, PartMonth}
use Rattle.tariff.specs.declared.service.UnknownService.{UnknownService}
use Rattle.tariff.specs.Limits.{greatest_tariff, greatest_factor}
use Rattle.tariff.specs.Faults.{refused_unless}

-- each service's number
abbrev pub service_number : Service → ℕ
service_number FullYear = 0
service_number PartYear = 1
service_number PartMonth = 2

-- what the service of a number is: the one whose number it is, or none where no service has it
abbrev pub NumbersService : ℕ → Result Service UnknownService → Type 0
NumbersService number r = MatchResult r
    (λ service. service_number service ≡ number)
    (λ unknown. (unknown.0 ≡ number) × ((service : Service) → service_number service ≢ number))

-- is this the number of a service that may be taken: the full-year service always,
-- the one under a year where the whole month is billed, the one under a month where less is
abbrev pub allows_service : Bool → ℕ → Bool
allows_service whole number =
    (number == service_number FullYear)
    || ((number == service_number PartYear && whole) || (number == service_number PartMonth && not whole))

-- the number with which a segment's terms are refused, if any; whole tells whether the whole month is billed
abbrev pub terms_refusal : Bool → ℕ → ℕ → ℕ → Option ℕ
terms_refusal whole number tariff factor =
    refused_unless (allows_service whole number && (nat_le tariff greatest_tariff && nat_le factor greatest_factor))
