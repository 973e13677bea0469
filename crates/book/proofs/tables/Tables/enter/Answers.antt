use Rattle.std.proofs.Common.{◌≡◌, ◌<◌, [], get_or, map, length, set, sym, ap, ◌∙◌, arith}
use Rattle.std.proofs.lemmas.List.{map-set}
use Rattle.std.proofs.lemmas.Option.{get_or_from_slice_get}
use Rattle.book.proofs.Lookup.{words_are_read, words_set}
use Rattle.book.proofs.tables.Tables.enter.Goals as goal
use Rattle.book.proofs.tables.Tables.enter.Goals.{After-mark}

inside : (c : After-mark) → c.args.meter < length c.args.self.now.rows.value
inside c = omega (arith, c.args.self.now.meters)

-- the words of the meter's row before and after
before : (c : After-mark) → get_or (map (λ r. r.marks) c.args.self.now.rows.value) c.args.meter [] ≡ c.row.result.now.marks
before c =
    let rows = c.args.self.now.rows.value in
    let row = c.row.result.now in
    words_are_read rows c.args.meter row (inside c) (sym (get_or_from_slice_get rows c.args.meter row row c.row.ensures.value))

after : (c : After-mark) → get_or (map (λ r. r.marks) (set c.args.self.now.rows.value c.args.meter c.mark.new.self)) c.args.meter [] ≡ c.mark.new.self.marks
after c = words_set c.args.self.now.rows.value c.args.meter c.mark.new.self (inside c)

pub returns-clause-row : goal.returns-clause-row
returns-clause-row c =
    let w = (goal.at.returns-clause-row c).After-mark in
    map-set (λ r. r.marks) c.args.self.now.rows.value c.args.meter c.mark.new.self ∙ ap (set (map (λ r. r.marks) c.args.self.now.rows.value) c.args.meter) (sym (after w))

pub returns-clause-hours : goal.returns-clause-hours
returns-clause-hours c =
    let w = (goal.at.returns-clause-hours c).After-mark in
    λ h. rw (after w, before w) (c.mark.ensures.hours h)

pub returns-clause-ones : goal.returns-clause-ones
returns-clause-ones c =
    let w = (goal.at.returns-clause-ones c).After-mark in
    rw (after w, before w) c.mark.ensures.ones
