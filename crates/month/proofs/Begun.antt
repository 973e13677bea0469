-- A newly opened month stands as its terms and no bookings say.
use Rattle.std.proofs.Common.{◌≡◌, ℕ, Bool, true, cond, ◌&&◌, List, [], ◌∷◌, ◌++◌, get_or, Some, None, Option, sym, refl, ap, ◌∙◌, subst, ⊎_elim, arith}
use Rattle.std.specs.Option.{option_to_list}
use Rattle.std.specs.List.{list_all}
use Rattle.std.proofs.lemmas.List.{append-nil, get_or-replicate}
use Rattle.std.proofs.lemmas.Bool.{and_from, and_parts, cases_eq, ne_eqb}
use Rattle.book.specs.Answers.{Opened}
use Rattle.book.specs.Contents.{Contents as BookContents}
use Rattle.book.specs.Marks.{is_marked, ones_of}
use Rattle.plan.specs.Calls.{peak_fits, peak_precedes}
use Rattle.plan.specs.Contents.{Contents as PlanContents}
use Rattle.plan.specs.Limits.{amr}
use Rattle.plan.specs.Questions.{is_assigned, is_full, peak_of}
use Rattle.plan.specs.WellMade.{ascending, is_well_made}
use Rattle.plan.specs.declared.carried.CarriedPeak.{CarriedPeak}
use Rattle.plan.proofs.Standing.{standing}
use Rattle.weights.specs.Accepted.{joined_all}
use Rattle.weights.specs.Limits.{meter_count}
use Rattle.month.specs.Opening.{PeaksNoted, peaks_light}
use Rattle.month.specs.Stands.{BookStands, Stands, State}
use Rattle.month.specs.Terms.{Terms, peaks_of}

all_pass-first : (f g : CarriedPeak → Bool) (xs : List CarriedPeak) → list_all (λ x. f x && g x) xs ≡ true → list_all f xs ≡ true
all_pass-first f g [] e = refl
all_pass-first f g (x ∷ xs) e =
    let both = and_parts (f x && g x) (list_all (λ y. f y && g y) xs) e in
    and_from (f x) (list_all f xs) (and_parts (f x) (g x) both.0).0 (all_pass-first f g xs both.1)

-- the carried peaks of a plan, which is well made
pub peaks_fit : (plan : PlanContents) → is_well_made plan ≡ true → list_all peak_fits plan.carried ≡ true
peaks_fit plan w = all_pass-first peak_fits (λ p. is_assigned plan.meters p.meter) plan.carried (standing plan w).carried_fit

pub peaks_ascend : (plan : PlanContents) → is_well_made plan ≡ true → ascending peak_precedes plan.carried ≡ true
peaks_ascend plan w = (standing plan w).carried_ascend

light_opens : (full light : Bool) → full ≡ true → light ≡ true → ◌≡◌ {A = Option ℕ} (cond full (cond light None (Some 6)) (Some 2)) None
light_opens full light f l = grind arith

module _ (terms : Terms) where
  stands_empty : (segment : ℕ) (book : BookContents) → (segment ≡ amr → ⊥) → Opened book → BookStands terms [] segment book
  stands_empty segment book other opened = record {
    marks = λ meter hour m h. opened.marks meter hour;
    counts = λ meter m. opened.counts meter;
    sums = λ hour h. opened.sums hour;
    weights = λ meter m.
        ap (λ (ws : List ℕ). get_or ws meter 0) opened.weights
        ∙ get_or-replicate meter_count meter 0 0 m
        ∙ ap (λ (t : Bool). joined_all (terms.joins segment) 0 (cond t (option_to_list (peak_of terms.contents meter)) [] ++ [])) (sym (ne_eqb segment amr other));
  }

  stands_first : (before after : BookContents) →
      Opened before →
      PeaksNoted (terms.joins amr) terms.contents.carried before after →
      BookStands terms [] amr after
  stands_first before after opened noted = record {
    marks = λ meter hour m h.
        ap (λ (ms : List (List ℕ)). is_marked (get_or ms meter []) hour) noted.marks ∙ opened.marks meter hour;
    counts = λ meter m. ap (λ (ms : List (List ℕ)). ones_of (get_or ms meter [])) noted.marks ∙ opened.counts meter;
    sums = λ hour h. ap (λ (ns : List ℕ). get_or ns hour 0) noted.sums ∙ opened.sums hour;
    weights = λ meter m.
        noted.weights meter m
        ∙ ap (joined_all (terms.joins amr) 0) (sym (append-nil (peaks_of terms amr meter)));
  }

  pub begun : (before : ℕ → BookContents) (after : State) →
      ((segment : ℕ) → Opened (before segment)) →
      is_full terms.contents ≡ true →
      peaks_light (terms.joins amr) terms.contents.carried ≡ true →
      PeaksNoted (terms.joins amr) terms.contents.carried (before amr) (after.books amr) →
      ((segment : ℕ) → (segment ≡ amr → ⊥) → after.books segment ≡ before segment) →
      after.contents ≡ terms.contents →
      after.joins ≡ terms.joins →
      Stands terms [] after
  begun before after opened full light noted others plan joins = record {
    contents = plan;
    joins = λ segment l. ap (λ f. f segment) joins;
    opened = light_opens (is_full terms.contents) (peaks_light (terms.joins amr) terms.contents.carried) full light;
    taken = refl;
    books = λ segment l. ⊎_elim
        (λ e. subst (λ (k : ℕ). BookStands terms [] k (after.books k)) (sym e) (stands_first (before amr) (after.books amr) (opened amr) noted))
        (λ e. subst (BookStands terms [] segment) (sym (others segment e)) (stands_empty segment (before segment) e (opened segment)))
        (cases_eq segment amr);
  }
