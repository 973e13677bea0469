-- The judging of a factor, from the plan's answer to its segment. Assumes nothing.
use Rattle.std.proofs.Common.{◌≡◌, ℕ, true, cond, not, eqb, Some, None, Ok, Err, Option, Result, sym, refl, ap, ◌∙◌, arith}
use Rattle.std.specs.Option.{option_map}
use Rattle.std.proofs.lemmas.Bool.Decides.{nat_tests}
use Rattle.plan.specs.Calls.{PlanCall, refusal_of, after_call}
use Rattle.plan.specs.Contents.{Contents}
use Rattle.plan.specs.Questions.{is_full}
use Rattle.words.specs.declared.segment_word.SegmentWord.{SegmentWord}
use Rattle.words.specs.declared.word.Word.TheVariants.{Factor}
use Rattle.monthfile.specs.declared.brought.Brought.{Brought}
use Rattle.monthfile.specs.declared.brought.Brought.TheVariants.{Nothing}
use Rattle.monthfile.specs.declared.fault.ReadFault.{ReadFault}
use Rattle.monthfile.specs.declared.phase.Phase.TheVariants.{Segments, Terms, Meters}
use Rattle.monthfile.specs.Faults.{blamed, Judged, JudgedByPlan}
use Rattle.monthfile.specs.declared.telling.Layer.TheVariants.{File as FILE, Plan as PLAN}
use Rattle.monthfile.specs.Judging.{Standing, Faulty, Taken, by_plan, terms_call, judge}

blamed_by_plan : (o : Option ℕ) (place : ℕ) (after : Standing)
    → option_map (λ number. record { layer = PLAN; number = number; place = place }) o ≡ blamed place (by_plan o after Nothing)
blamed_by_plan None place after = refl
blamed_by_plan (Some n) place after = refl

module _ (plan : Contents) (place : ℕ) (given : SegmentWord) (u f : ℕ) (same : given.segment ≡ u) where
  abbrev call : PlanCall
  call = terms_call given f

  abbrev next : Standing
  next = record { phase = cond (is_full (after_call plan call)) Meters Segments; plan = after_call plan call }

  verdict : judge (record { phase = Terms given; plan = plan }) (Factor u f) ≡ by_plan (refusal_of plan call) next Nothing
  verdict =
      let own : not (not (eqb given.segment u)) ≡ true = grind (arith, nat_tests) in
      ap (λ b. cond b (by_plan (refusal_of plan call) next Nothing) (Faulty FILE 2)) own

  pub factor_judged : (r : Result Brought ReadFault) (after : Standing)
      → JudgedByPlan (record { phase = Terms given; plan = plan }) place call (λ p. cond (is_full p) Meters Segments) r after
      → Judged (record { phase = Terms given; plan = plan }) place (Factor u f) r after
  factor_judged (Ok brought) after h =
      verdict ∙ ap (λ o. by_plan o next Nothing) h.0 ∙ ap (λ st. Taken st Nothing) (sym h.2) ∙ ap (Taken after) (sym h.1)
  factor_judged (Err fault) after h =
      (h.0 ∙ blamed_by_plan (refusal_of plan call) place next ∙ ap (blamed place) (sym verdict), h.1)
