use Rattle.std.proofs.Common.{◌≡◌, ℕ, ◌+◌, ◌-◌, ◌^◌, List, min, sum, ◌∙◌, rules, arith}
use Rattle.std.specs.List.{fold}
use Rattle.std.proofs.iter.runs.Made.{chains}
use Rattle.std.proofs.lemmas.List.Folds.{fold_along}
use Rattle.apportion.proofs.admission.weigh.Goals as goal

abbrev most : ℕ
most = 2 ^ 64 - 1

-- a sum that stops at a number is the sum, or that number where the sum passes it
fold_min : (weights : List ℕ) → fold (λ whole weight. min (whole + weight) most) 0 weights ≡ min (sum weights) most
fold_min weights =
    fold_along (λ whole weight. min (whole + weight) most) (λ whole weight. whole + weight) (λ stopped whole. stopped ≡ min whole most)
    (λ stopped whole weight same. omega arith) 0 0 weights (omega arith)

pub returns : goal.returns
returns c =
    let folded : c.fold.result ≡ fold (λ whole weight. min (whole + weight) most) 0 c.args.weights.now = search (rules, chains) in
    folded ∙ fold_min c.args.weights.now
