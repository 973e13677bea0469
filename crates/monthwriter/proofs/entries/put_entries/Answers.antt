use Rattle.std.proofs.Common.{◌≡◌, ℕ, ◌+◌, ◌<◌, List, ◌∷◌, map, length, get_or, drop, sym, ap, ◌∙◌}
use Rattle.std.proofs.lemmas.List.{at_drop_more, at_drop_all}
use Rattle.words.specs.declared.word.Word.{Word}
use Rattle.monthwriter.proofs.Putting.{one_step, at_end}
use Rattle.monthwriter.proofs.entries.put_entries.Goals as goal

-- the word of one entry, and those of the entries after it
entry_parts : {X : Type 0} (in_file : X → Word) (xs : List X) (i : ℕ) (x : X) (w : Word) → i < length xs → x ≡ get_or xs i x → w ≡ in_file x
    → map in_file (drop i xs) ≡ w ∷ map in_file (drop (i + 1) xs)
entry_parts in_file xs i x w within is word =
    at_drop_more (map in_file) xs i x within ∙ ap (λ v. v ∷ map in_file (drop (i + 1) xs)) (ap in_file (sym is) ∙ sym word)

pub loop-entry-preserved : goal.loop-entry-preserved
loop-entry-preserved g c =
    one_step c.loop-entry.invariant
    (entry_parts g.E.PlanEntry.in_file c.args.entries.now c.loop-entry.entry-index c.entry-item.result c.word.result c.loop-entry-test.true c.entry-item.is c.word.ensures)
    c.put.ensures

pub returns : goal.returns
returns g c =
    at_end c.loop-entry.invariant (at_drop_all (map g.E.PlanEntry.in_file) c.args.entries.now c.loop-entry.entry-index c.loop-entry-test.false)
