-- What a word brings before the first select, and that after it no word is for the plan. Assumes nothing.
use Rattle.std.proofs.Common.{◌≡◌, ℕ, Bool, true, false, cond, sym, refl, ap, ◌∙◌, subst}
use Rattle.std.proofs.lemmas.Bool.{false≢true}
use Rattle.plan.specs.Contents.{Contents}
use Rattle.plan.specs.Questions.{is_full}
use Rattle.words.specs.declared.word.Word.{Word}
use Rattle.words.specs.declared.word.Word.TheVariants.{Period, Segment, Factor, Meter, Select, Amount, Carried}
use Rattle.monthfile.specs.Judging.{Standing, Verdict, Faulty, Taken, brought_by, call_of, judge, may_stand, phase_after, plan_after, within_limits}
use Rattle.monthfile.specs.declared.brought.Brought.{Brought}
use Rattle.monthfile.specs.declared.brought.Brought.TheVariants.{Nothing, Opening, Offtake}
use Rattle.monthfile.specs.declared.phase.Phase.{Phase}
use Rattle.monthfile.specs.declared.phase.Phase.TheVariants.{Start, Segments, Terms, Meters, Peaks, Selected, Booked}
use Rattle.monthfile.specs.declared.telling.Layer.{Layer}
use Rattle.monthfile.proofs.Allowed.{Allowed, allowed, period, segment, factor, meter, first_peak, next_peak, select_after_meters, select_after_peaks, select_anew, selected_amount, next_amount}
use Rattle.monthfile.proofs.Backward.{passed}
use Rattle.loading.specs.Layers.{has_opened}

-- before the first select a word brings nothing, or it is that select
abbrev pub PlanStep : Contents → Standing → Brought → Type 0
PlanStep plan after Nothing = has_opened after.phase ≡ false
PlanStep plan after Opening = (has_opened after.phase ≡ true) × (after.plan ≡ plan)
PlanStep plan after (Offtake b) = ⊥

after_factor : (full : Bool) → has_opened (cond full Meters Segments) ≡ false
after_factor true = refl
after_factor false = refl

step : {phase : Phase} {word : Word} → Allowed phase word → has_opened phase ≡ false → (plan : Contents) →
    let then : Contents = plan_after plan (call_of phase word) in
    PlanStep plan (record { phase = phase_after then phase word; plan = then }) (brought_by phase word)
step period early plan = refl
step segment early plan = refl
step (factor {given} {u} {f} e) early plan = after_factor (is_full (plan_after plan (call_of (Terms given) (Factor u f))))
step meter early plan = refl
step first_peak early plan = refl
step next_peak early plan = refl
step select_after_meters early plan = (refl, refl)
step select_after_peaks early plan = (refl, refl)
step (select_anew other) early plan = absurd (false≢true (sym early))
step selected_amount early plan = absurd (false≢true (sym early))
step next_amount early plan = absurd (false≢true (sym early))

pub plan_step : (at : Standing) (word : Word) (after : Standing) (brought : Brought) →
    has_opened at.phase ≡ false →
    judge at word ≡ Taken after brought →
    PlanStep at.plan after brought
plan_step at word after brought early e =
    let p = passed at word after brought e in
    subst (λ st. PlanStep at.plan st brought) (sym p.after_is)
    (subst (PlanStep at.plan _) (sym p.brought_is) (step (allowed at.phase word p.stands) early at.plan))

-- the same verdict with another plan
abbrev replan : Contents → Verdict → Verdict
replan plan (Faulty layer number) = Faulty layer number
replan plan (Taken after brought) = Taken (record { phase = after.phase; plan = plan }) brought

module _ (p q : Contents) where
  either : (a : Bool) (f : Verdict) (phase : Phase) (brought : Brought) →
      replan q f ≡ f →
      cond a (Taken (record { phase = phase; plan = q }) brought) f ≡ replan q (cond a (Taken (record { phase = phase; plan = p }) brought) f)
  either true f phase brought same = refl
  either false f phase brought same = sym same

  both : (a b : Bool) (f g : Verdict) (phase : Phase) (brought : Brought) →
      replan q f ≡ f →
      replan q g ≡ g →
      cond a (cond b (Taken (record { phase = phase; plan = q }) brought) f) g
      ≡ replan q (cond a (cond b (Taken (record { phase = phase; plan = p }) brought) f) g)
  both true b f g phase brought same also = either b f phase brought same
  both false b f g phase brought same also = sym also

  replanned : (phase : Phase) (word : Word) →
      has_opened phase ≡ true →
      judge (record { phase = phase; plan = q }) word ≡ replan q (judge (record { phase = phase; plan = p }) word)
  replanned Start word since = absurd (false≢true since)
  replanned Segments word since = absurd (false≢true since)
  replanned (Terms given) word since = absurd (false≢true since)
  replanned Meters word since = absurd (false≢true since)
  replanned Peaks word since = absurd (false≢true since)
  replanned (Selected spot) (Period y n k) since = refl
  replanned (Selected spot) (Segment given) since = refl
  replanned (Selected spot) (Factor u f) since = refl
  replanned (Selected spot) (Meter u w g n) since = refl
  replanned (Selected spot) (Select named) since = refl
  replanned (Selected spot) (Amount a) since = either (within_limits (Selected spot) (Amount a)) (Faulty _ 3) _ _ refl
  replanned (Selected spot) (Carried n a) since = refl
  replanned (Booked spot) (Period y n k) since = refl
  replanned (Booked spot) (Segment given) since = refl
  replanned (Booked spot) (Factor u f) since = refl
  replanned (Booked spot) (Meter u w g n) since = refl
  replanned (Booked spot) (Select named) since =
      both (may_stand (Booked spot) (Select named)) (within_limits (Booked spot) (Select named)) (Faulty _ 3) (Faulty _ 2) _ _ refl refl
  replanned (Booked spot) (Amount a) since = either (within_limits (Booked spot) (Amount a)) (Faulty _ 3) _ _ refl
  replanned (Booked spot) (Carried n a) since = refl

  -- after the first select the plan makes no difference to a verdict
  pub faulty_with : (phase : Phase) (word : Word) (layer : Layer) (number : ℕ) →
      has_opened phase ≡ true →
      judge (record { phase = phase; plan = p }) word ≡ Faulty layer number →
      judge (record { phase = phase; plan = q }) word ≡ Faulty layer number
  faulty_with phase word layer number since e = replanned phase word since ∙ ap (replan q) e

  pub taken_with : (phase : Phase) (word : Word) (after : Standing) (brought : Brought) →
      has_opened phase ≡ true →
      judge (record { phase = phase; plan = p }) word ≡ Taken after brought →
      judge (record { phase = phase; plan = q }) word ≡ Taken (record { phase = after.phase; plan = q }) brought
  taken_with phase word after brought since e = replanned phase word since ∙ ap (replan q) e

-- after the first select a word brings nothing or a booking
abbrev pub BookStep : Standing → Brought → Type 0
BookStep after Nothing = has_opened after.phase ≡ true
BookStep after Opening = ⊥
BookStep after (Offtake b) = has_opened after.phase ≡ true

later : {phase : Phase} {word : Word} → Allowed phase word → has_opened phase ≡ true → (plan then : Contents) →
    BookStep (record { phase = phase_after plan phase word; plan = then }) (brought_by phase word)
later period since plan then = absurd (false≢true since)
later segment since plan then = absurd (false≢true since)
later (factor e) since plan then = absurd (false≢true since)
later meter since plan then = absurd (false≢true since)
later first_peak since plan then = absurd (false≢true since)
later next_peak since plan then = absurd (false≢true since)
later select_after_meters since plan then = absurd (false≢true since)
later select_after_peaks since plan then = absurd (false≢true since)
later (select_anew other) since plan then = refl
later selected_amount since plan then = refl
later next_amount since plan then = refl

pub book_step : (at : Standing) (word : Word) (after : Standing) (brought : Brought) →
    has_opened at.phase ≡ true →
    judge at word ≡ Taken after brought →
    BookStep after brought
book_step at word after brought since e =
    let p = passed at word after brought e in
    let then : Contents = plan_after at.plan (call_of at.phase word) in
    subst (λ st. BookStep st brought) (sym p.after_is)
    (subst (BookStep (record { phase = phase_after then at.phase word; plan = then })) (sym p.brought_is)
    (later (allowed at.phase word p.stands) since then then))
