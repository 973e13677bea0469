-- The three ranges are the definition's, and the period that is made is the only one with its numbers.
use Rattle.std.proofs.Common.{◌≡◌, ℕ, Bool, true, false, ◌&&◌, None, Some, sym, refl, ap, ◌∙◌, arith}
use Rattle.std.proofs.lemmas.Bool.{and_from, false≢true}
use Rattle.std.proofs.lemmas.Bool.Decides.{nat_tests}
use Rattle.calendar.specs.Calendar.{between, first_year, last_month, last_year, most_hours, takes_period}
use Rattle.calendar.specs.declared.period.Period.{Period}
use Rattle.calendar.proofs.Alike.{alike}
use Rattle.calendar.proofs.period.Period.new.Goals as goal

module _ (year month hours : ℕ) where
  month_fails : between 1 last_month month ≡ false → takes_period year month hours ≡ false
  month_fails h = second_fails (between first_year last_year year) (between 1 last_month month) (between 1 (most_hours year month) hours) h
    where
      second_fails : (a b c : Bool) → b ≡ false → (a && (b && c)) ≡ false
      second_fails true b c h = rw h refl
      second_fails false b c h = refl

  hours_fail : between 1 (most_hours year month) hours ≡ false → takes_period year month hours ≡ false
  hours_fail h = third_fails (between first_year last_year year) (between 1 last_month month) (between 1 (most_hours year month) hours) h
    where
      third_fails : (a b c : Bool) → c ≡ false → (a && (b && c)) ≡ false
      third_fails true true c h = h
      third_fails true false c h = refl
      third_fails false b c h = refl

  no_period : takes_period year month hours ≡ false → (p : Period) → p.year ≡ year → p.month ≡ month → p.hours ≡ hours → None ≡ Some p
  no_period refused p y m h =
      let taken : takes_period year month hours ≡ true = rw (y, m, h) at p.taken in
      absurd (false≢true (sym refused ∙ taken))

pub returns-then-not-contains-2 : goal.returns-then-not-contains-2
returns-then-not-contains-2 c =
    let month : between 1 last_month c.args.month ≡ false = grind (arith, nat_tests) in
    let refused = month_fails c.args.year c.args.month c.args.hours month in
    record { cases = refused; only = no_period c.args.year c.args.month c.args.hours refused }

pub returns-then-not-contains-3 : goal.returns-then-not-contains-3
returns-then-not-contains-3 c =
    let hours : between 1 c.most_hours.result c.args.hours ≡ false = grind (arith, nat_tests) in
    let refused = hours_fail c.args.year c.args.month c.args.hours (rw c.most_hours.ensures at hours) in
    record { cases = refused; only = no_period c.args.year c.args.month c.args.hours refused }

pub invariant_of-result : goal.invariant_of-result
invariant_of-result c =
    let year : between first_year last_year c.args.year ≡ true = grind (arith, nat_tests) in
    let month : between 1 last_month c.args.month ≡ true = grind (arith, nat_tests) in
    let hours : between 1 c.most_hours.result c.args.hours ≡ true = grind (arith, nat_tests) in
    let within : between 1 (most_hours c.args.year c.args.month) c.args.hours ≡ true = rw c.most_hours.ensures at hours in
    record { taken = and_from _ _ year (and_from _ _ month within) }

pub returns-clause-only : goal.returns-clause-only
returns-clause-only c p y m h = ap Some (sym (alike p _ y m h))
