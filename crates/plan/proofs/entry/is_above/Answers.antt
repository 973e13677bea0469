use Rattle.std.proofs.Common.{◌≡◌, ℕ, IsTrue, Bool, Some, None, Option, ◌∙◌, rules, arith}
use Rattle.std.proofs.lemmas.Bool.Decides.{nat_tests}
use Rattle.std.specs.Option.{MatchOption}
use Rattle.std.specs.Ordering.{nat_cmp, partial_lt, partial_ordering_then}
use Rattle.plan.specs.Places.{place_precedes}
use Rattle.plan.proofs.Places.{above_from_last}
use Rattle.plan.proofs.entry.is_above.Goals as goal

-- what `<` answers at two pairs
abbrev pair_lt : ℕ × ℕ → ℕ × ℕ → Bool
pair_lt = partial_lt (λ (x y : ℕ × ℕ). partial_ordering_then (Some (nat_cmp x.0 y.0)) (Some (nat_cmp x.1 y.1)))

pair_lt_is : (a b : ℕ × ℕ) → pair_lt a b ≡ place_precedes a b
pair_lt_is a b = grind (arith, nat_tests)

some_weaker : {X : Type 0} (o : Option X) (P : Type 0) (Q R : X → Type 0) → ((x : X) → Q x → R x) → MatchOption o P Q → MatchOption o P R
some_weaker None P Q R f h = h
some_weaker (Some x) P Q R f h = f x h

pub returns : goal.returns
returns g c =
    let place_of = g.E.Entry.place_of in
    let above = c.is_none_or.result in
    let entry = c.args.entry.now in
    let told = some_weaker c.last.result (IsTrue above) _ (λ last. above ≡ place_precedes (place_of last.now) (place_of entry))
    (λ last called.
    let less : above ≡ pair_lt (place_of last.now) (place_of entry) = search rules in
    less ∙ pair_lt_is (place_of last.now) (place_of entry))
    c.is_none_or.ensures in
    above_from_last place_of c.args.entries.now c.requires entry c.last.result above c.last.ensures.item told
