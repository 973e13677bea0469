-- What a cut that is not refused may rest on. Assumes nothing.
use Rattle.std.proofs.Common.{◌≡◌, ℕ, ◌≤◌, List, length, None, Ok, sum, Option, Result, sym, ap, ◌∙◌, arith}
use Rattle.std.proofs.lemmas.Bool.Decides.{nat_tests as tells}
use Rattle.apportion.specs.Cutting.{most_weights, heaviest, refusal, told}
use Rattle.apportion.specs.declared.fault.CutFault.{CutFault}

pub record Admitted (greatest total : ℕ) (weights : List ℕ) (places : ℕ) : Type 0 where
  pub few : length weights ≤ most_weights
  pub room : length weights ≤ places
  pub light : sum weights ≤ heaviest
  pub small : total ≤ greatest
  pub based : sum weights ≡ 0 → total ≡ 0

pub admitted : (greatest total : ℕ) (weights : List ℕ) (places : ℕ) → refusal greatest total weights places ≡ None
    → Admitted greatest total weights places
admitted greatest total weights places h = record {
  few = grind (arith, tells);
  room = grind (arith, tells);
  light = grind (arith, tells);
  small = grind (arith, tells);
  based = λ none. grind (arith, tells);
}

-- an answer that is no refusal
pub not_refused : {X : Type 0} (r : Result X CutFault) (x : X) (o : Option ℕ) → told r ≡ o → r ≡ Ok x → o ≡ None
not_refused r x o tells is = sym tells ∙ ap told is
