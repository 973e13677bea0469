-- A number that no service has is none of the three.
use Rattle.std.proofs.Common.{◌≡◌, false, Some, sym, rules, arith}
use Rattle.std.proofs.lemmas.Bool.Decides.{nat_tests}
use Rattle.calendar.specs.OfPeriod.{is_whole}
use Rattle.tariff.specs.declared.service.Service.TheVariants.{FullYear, PartYear, PartMonth}
use Rattle.tariff.specs.Faults.{told}
use Rattle.tariff.specs.Services.{allows_service}
use Rattle.tariff.proofs.terms.Terms.new.Goals as goal

pub returns-in_err-service-clause-answer : goal.returns-in_err-service-clause-answer
returns-in_err-service-clause-answer c =
    let n = c.args.service in
    let a : n ≡ 0 → ⊥ = λ e. c.in_err-service.ensures.1 FullYear (sym e) in
    let b : n ≡ 1 → ⊥ = λ e. c.in_err-service.ensures.1 PartYear (sym e) in
    let d : n ≡ 2 → ⊥ = λ e. c.in_err-service.ensures.1 PartMonth (sym e) in
    let none : allows_service (is_whole c.args.period.now) n ≡ false = grind (arith, nat_tests) in
    let answer : told c.from_residual.result ≡ Some 3 = search rules in
    rw none answer
