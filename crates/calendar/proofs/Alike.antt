-- Periods with the same year, month and hours are the same.
use Rattle.std.proofs.Common.{◌≡◌, ℕ, true, ap, subst}
use mathlib.Core.Bool.{Bool-set}
use Rattle.calendar.specs.Calendar.{takes_period}
use Rattle.calendar.specs.declared.period.Period.{Period}

abbrev period : (y m h : ℕ) → takes_period y m h ≡ true → Period
period y m h t = record { year = y; month = m; hours = h; taken = t }

module _ (y m h : ℕ) (t : takes_period y m h ≡ true) where
  same_hours : (h' : ℕ) → h ≡ h' → (t' : takes_period y m h' ≡ true) → period y m h t ≡ period y m h' t'
  same_hours h' e =
      subst (λ (k : ℕ). (t' : takes_period y m k ≡ true) → period y m h t ≡ period y m k t') e
      (λ t'. ap (period y m h) (Bool-set (takes_period y m h) true t t'))

  same_month :
      (m' h' : ℕ) → m ≡ m' → h ≡ h' → (t' : takes_period y m' h' ≡ true) → period y m h t ≡ period y m' h' t'
  same_month m' h' e =
      subst (λ (k : ℕ). h ≡ h' → (t' : takes_period y k h' ≡ true) → period y m h t ≡ period y k h' t') e (same_hours h')

  same_year :
      (y' m' h' : ℕ) → y ≡ y' → m ≡ m' → h ≡ h' → (t' : takes_period y' m' h' ≡ true)
      → period y m h t ≡ period y' m' h' t'
  same_year y' m' h' e =
      subst
      (λ (k : ℕ). m ≡ m' → h ≡ h' → (t' : takes_period k m' h' ≡ true) → period y m h t ≡ period k m' h' t')
      e
      (same_month m' h')

pub alike : (p q : Period) → p.year ≡ q.year → p.month ≡ q.month → p.hours ≡ q.hours → p ≡ q
alike p q y m h = same_year p.year p.month p.hours p.taken q.year q.month q.hours y m h q.taken
