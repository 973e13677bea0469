use Rattle.std.proofs.Common.{refl, rules, length, sym, ap, ◌∙◌}
use Rattle.std.proofs.lemmas.Bool.{ltb-true}
use Rattle.std.proofs.lemmas.List.Sorted.{answers_always}
use Rattle.plan.specs.Places.{is_place}
use Rattle.plan.proofs.Places.{first_found, first_missed, stands_at}
use Rattle.plan.proofs.entry.entry_at.Goals as goal

pub returns-in_err-at : goal.returns-in_err-at
returns-in_err-at g c =
    let facts = c.binary_search_by_key.ensures in
    let by_place = facts.position g.E.Entry.place_of (answers_always _ _ _ (λ f a r h called. search rules)) in
    let missed = first_missed g.E.Entry.place_of c.args.entries.now c.requires c.args.place c.binary_search_by_key.result by_place c.in_err-at.ensures.value in
    rw (missed, c.from_residual.ensures) refl

pub returns : goal.returns
returns g c =
    let facts = c.binary_search_by_key.ensures in
    let by_place = facts.position g.E.Entry.place_of (answers_always _ _ _ (λ f a r h called. search rules)) in
    first_found g.E.Entry.place_of c.args.entries.now c.requires c.args.place c.binary_search_by_key.result c.in_ok-at.at c.index-entries-at.result facts.bound by_place c.in_ok-at.ensures.value c.index-entries-at.is

pub returns-then-eq : goal.returns-then-eq
returns-then-eq g c =
    let item = c.in-Some.ensures.lookup in
    stands_at g.E.Entry.place_of c.args.entries.now c.requires c.args.place c.meters_between.result c.in-Some.entry.now
    (ltb-true c.meters_between.result (length c.args.entries.now) (sym item.0)) item.1
    (ap (λ p. is_place p c.args.place) (sym c.place.ensures) ∙ sym c.eq.ensures ∙ c.if-eq.true)
