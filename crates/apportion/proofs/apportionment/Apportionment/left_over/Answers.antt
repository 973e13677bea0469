use Rattle.std.proofs.Common.{◌≡◌, ℕ, ◌-◌, ◌*◌, ◌/◌, ◌≤◌, length, sum, sum_by, ap, ◌∙◌, rules, tests, arith}
use Rattle.std.proofs.iter.runs.Made.{chains}
use Rattle.std.proofs.lemmas.Grind.{get_or_default_zero}
use Rattle.std.proofs.lemmas.Iterator.{YieldsList-from_slice, YieldsList-from_map}
use Rattle.std.proofs.lemmas.Iterator.Adapters.{serves_from_places}
use Rattle.std.proofs.lemmas.Iterator.Consumers.{fits_by_from_yields_list}
use Rattle.apportion.specs.Cutting.{heaviest}
use Rattle.apportion.specs.LargestRemainder.{whole_part}
use Rattle.apportion.specs.Positions.{over, sum_by_over, sum-next_le}
use Rattle.apportion.specs.Rounding.{wholes_le}
use Rattle.apportion.specs.declared.apportionment.Apportionment.{Apportionment}
use Rattle.apportion.proofs.apportionment.Apportionment.left_over.Goals as goal

abbrev portion_of : Apportionment → ℕ → ℕ
portion_of cut weight = cut.total * weight / cut.whole

-- the portions add up to the whole parts
portions : (cut : Apportionment) → sum_by (portion_of cut) cut.weights.now ≡ over (whole_part cut.total cut.weights.now) (length cut.weights.now)
portions cut =
    ap (λ whole. sum_by (λ weight. cut.total * weight / whole) cut.weights.now) cut.weighed
    ∙ sum_by_over (λ weight. cut.total * weight / sum cut.weights.now) cut.weights.now

pub sum-parts-requires-clause-can : goal.sum-parts-requires-clause-can
sum-parts-requires-clause-can c =
    let cut = c.args.self.now in (
      tt,
      serves_from_places (YieldsList-from_slice cut.weights.now cc) (λ x q r. search (rules, tests))
          (λ x k h e.
          let small : x.now ≤ heaviest = omega (arith, e, get_or_default_zero cut.weights.now k x.now h, sum-next_le cut.weights.now k h, cut.weighed, cut.light) in
          search rules),
    )

pub sum-parts-requires-clause-fits : goal.sum-parts-requires-clause-fits
sum-parts-requires-clause-fits c =
    let cut = c.args.self.now in
    fits_by_from_yields_list (portion_of cut) cut.weights.now c.map.result _
    (YieldsList-from_map _ (portion_of cut) (YieldsList-from_slice cut.weights.now cc) c.map.ensures.closure (λ x r q k. search (rules, tests)))
    (omega (arith, portions cut, wholes_le cut.total cut.weights.now, cut.small))

pub overflow_sub-result : goal.overflow_sub-result
overflow_sub-result c =
    let cut = c.args.self.now in
    let added : c.sum-parts.result ≡ sum_by (portion_of cut) cut.weights.now = search (rules, chains) in
    omega (arith, added, portions cut, wholes_le cut.total cut.weights.now)

pub returns : goal.returns
returns c =
    let cut = c.args.self.now in
    let added : c.sum-parts.result ≡ sum_by (portion_of cut) cut.weights.now = search (rules, chains) in
    ap (λ parts. cut.total - parts) (added ∙ portions cut)
