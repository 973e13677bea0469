-- Terms with the same service, tariff and factor are the same, and a service is known by its number.
use Rattle.std.proofs.Common.{◌≡◌, ℕ, ◌≤◌, cond, eqb, sym, refl, ap, ◌∙◌, subst}
use native.Mathlib.Bridge.{le_prop}
use Rattle.tariff.specs.Limits.{greatest_factor, greatest_tariff}
use Rattle.tariff.specs.Services.{service_number}
use Rattle.tariff.specs.declared.service.Service.{Service}
use Rattle.tariff.specs.declared.service.Service.TheVariants.{FullYear, PartYear, PartMonth}
use Rattle.tariff.specs.declared.terms.Terms.{Terms}

abbrev numbered : ℕ → Service
numbered n = cond (eqb n 0) FullYear (cond (eqb n 1) PartYear PartMonth)

back : (s : Service) → numbered (service_number s) ≡ s
back FullYear = refl
back PartYear = refl
back PartMonth = refl

same_service : (s s' : Service) → service_number s ≡ service_number s' → s ≡ s'
same_service s s' e = sym (back s) ∙ ap numbered e ∙ back s'

abbrev terms : Service → (n k : ℕ) → n ≤ greatest_tariff → k ≤ greatest_factor → Terms
terms s n k p q = record { service = s; tariff = n; factor = k; priced = p; scaled = q }

module _ (s : Service) (n k : ℕ) (p : n ≤ greatest_tariff) (q : k ≤ greatest_factor) where
  same_factor : (k' : ℕ) → k ≡ k' → (q' : k' ≤ greatest_factor) → terms s n k p q ≡ terms s n k' p q'
  same_factor k' e =
      subst (λ (j : ℕ). (q' : j ≤ greatest_factor) → terms s n k p q ≡ terms s n j p q') e
      (λ q'. ap (terms s n k p) (le_prop q q'))

  same_tariff :
      (n' k' : ℕ) → n ≡ n' → k ≡ k' → (p' : n' ≤ greatest_tariff) (q' : k' ≤ greatest_factor)
      → terms s n k p q ≡ terms s n' k' p' q'
  same_tariff n' k' e f =
      subst (λ (j : ℕ). (p' : j ≤ greatest_tariff) (q' : k' ≤ greatest_factor) → terms s n k p q ≡ terms s j k' p' q') e
      (λ p' q'. same_factor k' f q' ∙ ap (λ (r : n ≤ greatest_tariff). terms s n k' r q') (le_prop p p'))

pub alike :
    (t u : Terms) → service_number t.service ≡ service_number u.service → t.tariff ≡ u.tariff
    → t.factor ≡ u.factor → t ≡ u
alike t u e f g =
    same_tariff t.service t.tariff t.factor t.priced t.scaled u.tariff u.factor f g u.priced
    u.scaled
    ∙ ap (λ (s : Service). terms s u.tariff u.factor u.priced u.scaled)
    (same_service t.service u.service e)
