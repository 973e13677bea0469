use Rattle.std.proofs.Common.{◌≡◌, ℕ, ◌-◌, ◌++◌, length, replicate, None, sum, arith, sym, ap, ◌∙◌}
use Rattle.std.proofs.lemmas.List.{drop-replicate}
use Rattle.apportion.specs.Cutting.{Shared, most_weights, refusal}
use Rattle.apportion.proofs.Admitted.{Admitted, admitted, not_refused}
use Rattle.apportion.proofs.HandedOut.{sum-handed_out}
use Rattle.apportion.proofs.sharing.share_out.Goals as goal

pub returns : goal.returns
returns g c =
    let total = c.args.total in
    let weights = c.args.weights.now in
    let parts = g.R.CutRule.shares c.args.rule.now total weights in
    let none : refusal g.R.CutRule.GREATEST total weights most_weights ≡ None =
    not_refused c.cut.result _ (refusal g.R.CutRule.GREATEST total weights most_weights) c.cut.ensures.answer c.in_ok-cut.was in
    let ok : Admitted g.R.CutRule.GREATEST total weights most_weights = admitted g.R.CutRule.GREATEST total weights most_weights none in
    let shared : Shared total weights parts = g.met.R.CutRule.fair c.args.rule.now total weights ok.small ok.few ok.light in
    let stands : c.cut.new.places ≡ parts ++ replicate (most_weights - length weights) 0 =
    grind (arith, c.cut.ensures.places, none, shared.sized, drop-replicate {X = ℕ} (length weights) most_weights 0) in
    record {
      answer = sym none;
      shares = stands;
      handed_out = ap sum stands ∙ sum-handed_out total weights parts (most_weights - length weights) shared ok.based;
    }
