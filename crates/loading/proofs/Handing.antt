-- The sources that a stopped loading hands back. Assumes nothing.
use Rattle.std.proofs.Common.{◌≡◌, ℕ, Ok, Err, Result, inr, List, [], Option, refl, subst, sym}
use Rattle.std.specs.Prelude.{MatchResult}
use Rattle.std.specs.declared.io.Read.{Ghosts as Input}
use Rattle.std.proofs.lemmas.Result.{MatchResult-at_err}
use Rattle.input.specs.declared.file_words.FileWords.{FileWords}
use Rattle.month.specs.OfMonth.{NotOpened, state_of, terms_of}
use Rattle.month.specs.Stands.{Stands}
use Rattle.month.specs.declared.month.Month.{Month}
use Rattle.month.specs.declared.open.Open.{Open}
use Rattle.month.specs.declared.opening.Unopened.{Unopened}
use Rattle.month.specs.declared.sources.Sources.{Sources}
use Rattle.monthfile.specs.declared.fault.Placed.{Placed}
use Rattle.plan.specs.declared.plan.Plan.{Plan}
use Rattle.weights.specs.declared.source.WeightSource.{Ghosts as Source}
use Rattle.words.specs.declared.word.Word.{Word}
use Rattle.loading.specs.Left.{stopped_by}
use Rattle.loading.specs.Loading.{HandsBack, SourcesHanded}
use Rattle.loading.specs.Stages.{RestBooked}
use Rattle.loading.specs.declared.left.Stopped.{Stopped}

module _ {A B C D : Type 0} (a : Source A) (b : Source B) (c : Source C) (d : Source D) (given : Sources A B C D) where
  -- a refused opening hands them back as it left them
  pub handed_unopened : (plan : Plan) (answer : Result (Open (Month A B C D a b c d)) (Unopened A B C D)) (refused : Placed (Unopened A B C D)) →
      MatchResult answer (λ month. Stands (terms_of a b c d plan given) [] (state_of month.0)) (NotOpened a b c d plan given) →
      answer ≡ Err refused.fault →
      HandsBack a b c d given (Err (stopped_by refused))
  handed_unopened plan answer refused opens e =
      inr (record { fault = refused.fault.fault; place = refused.place }, refl, (MatchResult-at_err _ _ refused.fault e opens).sources_left)

  -- the rest of the file leaves an open month
  pub handed_rest : {R : Type 0} {input : Input R} (joins : ℕ → ℕ → ℕ → ℕ) (words : List (Option Word)) (before after : FileWords R input)
      (r : Result (Open (Month A B C D a b c d)) (Stopped A B C D a b c d)) →
      RestBooked a b c d joins words before after r →
      HandsBack a b c d given r
  handed_rest joins words before after (Ok month) booked = tt
  handed_rest joins words before after (Err stopped) booked =
      subst (SourcesHanded a b c d given stopped.fault) (sym booked.1) tt
