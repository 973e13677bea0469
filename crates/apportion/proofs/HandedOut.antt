-- What is handed out in all is the total, and zeros beyond the shares change nothing. Assumes nothing.
use Rattle.std.proofs.Common.{◌≡◌, ℕ, ◌≤◌, List, ◌++◌, length, replicate, sum, sym, ap, ◌∙◌, ⊎_elim, mul-zero, arith}
use Rattle.std.proofs.lemmas.List.Folds.{sum_by-replicate}
use Rattle.std.proofs.lemmas.List.Sums.{sum_by-append}
use Rattle.std.proofs.lemmas.Bool.{cases_lt}
use Rattle.apportion.specs.Cutting.{Shared}

sum-parts : (whole : ℕ) (weights parts : List ℕ) → Shared whole weights parts → (sum weights ≡ 0 → whole ≡ 0) → sum parts ≡ whole
sum-parts whole weights parts shared based =
    ⊎_elim
    shared.adds
    (λ (none : sum weights ≤ 0). let z : sum weights ≡ 0 = omega arith in
    ap sum (shared.nothing z (based z)) ∙ sum_by-replicate (λ x. x) (length weights) 0 ∙ mul-zero (length weights) ∙ sym (based z))
    (cases_lt 0 (sum weights))

pub sum-handed_out : (whole : ℕ) (weights parts : List ℕ) (n : ℕ) → Shared whole weights parts → (sum weights ≡ 0 → whole ≡ 0)
    → sum (parts ++ replicate n 0) ≡ whole
sum-handed_out whole weights parts n shared based =
    sum_by-append (λ x. x) parts (replicate n 0)
    ∙ omega (arith, sum_by-replicate (λ (x : ℕ). x) n 0, mul-zero n, sum-parts whole weights parts shared based)
