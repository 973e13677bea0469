-- What the number of a refusal says of the three checks of a call. Assumes nothing.
use Rattle.std.proofs.Common.{◌≡◌, Bool, true, false, None, refl, arith}
use Rattle.plan.specs.Faults.{first_fault}

pub not_refused : (ordered within assigned : Bool) → ordered ≡ true → within ≡ true → assigned ≡ true → first_fault ordered within assigned ≡ None
not_refused ordered within assigned o w a = rw (o, w, a) refl

pub record Passed (ordered within assigned : Bool) : Type 0 where
  pub ordered_is : ordered ≡ true
  pub within_is : within ≡ true
  pub assigned_is : assigned ≡ true

pub passed : (ordered within assigned : Bool) → first_fault ordered within assigned ≡ None → Passed ordered within assigned
passed true true true h = record { ordered_is = refl; within_is = refl; assigned_is = refl }
passed true true false h = absurd (grind arith)
passed true false assigned h = absurd (grind arith)
passed false within assigned h = absurd (grind arith)
