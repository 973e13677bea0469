-- What sources, books and a month hold, as plain values. The members of each source's trait say what it means.
use Rattle.std.specs.Prelude.{◌≡◌, ℕ, List}
use Rattle.book.specs.Contents.{Contents as BookContents}
use Rattle.book.specs.OfBook.{book_contents}
use Rattle.plan.specs.OfPlan.{contents as plan_contents}
use Rattle.plan.specs.declared.plan.Plan.{Plan}
use Rattle.weights.specs.Answers.{zero_weights}
use Rattle.weights.specs.declared.source.WeightSource.{Ghosts as Source}
use Rattle.month.specs.Opening.{RefusesOpening}
use Rattle.month.specs.Stands.{State}
use Rattle.month.specs.Terms.{Terms, by_segment}
use Rattle.month.specs.declared.fault.OpeningFault.{OpeningFault}
use Rattle.month.specs.declared.fault.OpeningFault.TheVariants.{Memory, NotFull, Peak}
use Rattle.month.specs.declared.four.Four.{Four}
use Rattle.month.specs.declared.month.Month.{Month}
use Rattle.month.specs.declared.opening.Unopened.{Unopened}
use Rattle.month.specs.declared.sources.Sources.{Sources}

-- the sources that books hold
abbrev pub held_sources : {A B C D : Type 0} {a : Source A} {b : Source B} {c : Source C} {d : Source D} →
    Four A B C D a b c d →
    Sources A B C D
held_sources four = record {
  amr = four.amr.source;
  s30 = four.s30.source;
  mrc = four.mrc.source;
  eav = four.eav.source;
}

module _ {A B C D : Type 0} (a : Source A) (b : Source B) (c : Source C) (d : Source D) where
  -- the joining of each segment's source
  abbrev pub source_joins : Sources A B C D → ℕ → ℕ → ℕ → ℕ
  source_joins s = by_segment (a.joining s.amr) (b.joining s.s30) (c.joining s.mrc) (d.joining s.eav)

  -- the weights of each segment's source
  abbrev pub source_weights : Sources A B C D → ℕ → List ℕ
  source_weights s = by_segment (a.weights s.amr) (b.weights s.s30) (c.weights s.mrc) (d.weights s.eav)

  -- the sources with every weight zero
  abbrev pub IsReset : (before after : Sources A B C D) → Type 0
  IsReset before after =
      (source_joins after ≡ source_joins before) × ((segment : ℕ) → source_weights after segment ≡ zero_weights)

  -- the terms that a month is opened with
  abbrev pub terms_of : Plan → Sources A B C D → Terms
  terms_of plan sources = record { contents = plan_contents plan; joins = source_joins sources }

  -- the sources that a refused opening hands back: as they were where the plan is not full, else reset
  abbrev pub SourcesLeft : OpeningFault → (before after : Sources A B C D) → Type 0
  SourcesLeft NotFull before after = after ≡ before
  SourcesLeft (Peak fault) before after = IsReset before after
  SourcesLeft Memory before after = IsReset before after

  -- what a refused opening answers and hands back
  pub record NotOpened (plan : Plan) (sources : Sources A B C D) (unopened : Unopened A B C D) : Type 0 where
    pub refusal : RefusesOpening (terms_of plan sources) unopened.fault
    pub plan_left : unopened.plan ≡ plan
    pub sources_left : SourcesLeft unopened.fault sources unopened.sources

module _ {A B C D : Type 0} {a : Source A} {b : Source B} {c : Source C} {d : Source D} where
  -- the joining of each source that books hold
  abbrev pub book_joins : Four A B C D a b c d → ℕ → ℕ → ℕ → ℕ
  book_joins four = source_joins a b c d (held_sources four)

  -- what each segment's book holds
  abbrev pub books_of : Four A B C D a b c d → ℕ → BookContents
  books_of four =
      by_segment (book_contents four.amr) (book_contents four.s30) (book_contents four.mrc) (book_contents four.eav)

  -- what a month holds
  abbrev pub state_of : Month A B C D a b c d → State
  state_of month = record {
    contents = plan_contents month.plan;
    joins = book_joins month.books;
    books = books_of month.books;
  }
