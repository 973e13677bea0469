use Rattle.std.proofs.Common.{ℕ, cond, length, rules, tests, arith}
use Rattle.std.proofs.lemmas.Iterator.{YieldsList-from_range, YieldsList-from_map}
use Rattle.std.proofs.lemmas.Iterator.Consumers.{fits_by_from_yields_list, sum_by_from_yields_List}
use Rattle.std.proofs.lemmas.List.FromFn.{length-range_with_len}
use Rattle.std.proofs.lemmas.List.Sums.{count_by-le-length}
use Rattle.std.specs.List.{range_with_len}
use Rattle.apportion.specs.LargestRemainder.{precedes}
use Rattle.apportion.specs.declared.apportionment.Apportionment.{Apportionment}
use Rattle.apportion.proofs.apportionment.Apportionment.count_ahead.Goals as goal

-- one for a position that precedes
abbrev one_for : Apportionment → ℕ → ℕ → ℕ
one_for cut position other = cond (precedes cut.total cut.weights.now other position) 1 0

pub sum-requires-clause-fits : goal.sum-requires-clause-fits
sum-requires-clause-fits c =
    let cut = c.args.self.now in
    let all = range_with_len 0 (length cut.weights.now) in
    fits_by_from_yields_list (one_for cut c.args.position) all c.map.result _
    (YieldsList-from_map _ (one_for cut c.args.position) (YieldsList-from_range {s = c.map.result.iter} 0 (length cut.weights.now) (length cut.weights.now) (search rules) (omega arith)) c.map.ensures.closure (λ x r q k. search (rules, tests)))
    (omega (arith, count_by-le-length (λ j. precedes cut.total cut.weights.now j c.args.position) all, length-range_with_len 0 (length cut.weights.now), c.well_formed))

pub returns : goal.returns
returns c =
    let cut = c.args.self.now in
    let all = range_with_len 0 (length cut.weights.now) in
    sum_by_from_yields_List (one_for cut c.args.position) all c.map.result c.sum.result c.sum.ensures.ran
    (YieldsList-from_map _ (one_for cut c.args.position) (YieldsList-from_range {s = c.map.result.iter} 0 (length cut.weights.now) (length cut.weights.now) (search rules) (omega arith)) c.map.ensures.closure (λ x r q k. search (rules, tests)))
