use Rattle.std.proofs.Common.{◌≡◌, ℕ, ◌<◌, get_or, Some, arith}
use Rattle.std.proofs.lemmas.Bool.Decides.{nat_tests}
use Rattle.std.proofs.lemmas.Grind.{common_steps}
use Rattle.plan.specs.Contents.{PeriodNumbers}
use Rattle.tariff.specs.Limits.{greatest_tariff}
use Rattle.calculator.specs.FeeRequests.{fee_number}
use Rattle.calculator.proofs.prices.fee_by.Goals as goal

-- a tariff above its limit is refused, whatever the period
large_tariff : (p : PeriodNumbers) (service tariff capacity : ℕ) → greatest_tariff < tariff → fee_number p service tariff capacity ≡ Some 3
large_tariff p service tariff capacity large = grind (arith, nat_tests)

pub returns-in_err-try_from-5 : goal.returns-in_err-try_from-5
returns-in_err-try_from-5 c =
    let numbers = c.args.numbers.now in
    let period : PeriodNumbers = record { year = get_or numbers 0 0; month = get_or numbers 1 0; hours = get_or numbers 2 0 } in
    let refused = large_tariff period (get_or numbers 3 0) (get_or numbers 4 0) (get_or numbers 5 0) in
    grind (arith, common_steps, refused)
