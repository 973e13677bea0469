-- The phase that a plan's contents bring the reader to, and the calls behind contents, call by call. Assumes nothing.
use Rattle.std.proofs.Common.{◌≡◌, ℕ, ◌+◌, ◌<◌, Bool, true, false, cond, List, [], ◌∷◌, ◌++◌, map, length, is_some, Some, None, Option, sym, refl, ap, ◌∙◌, subst, ⊎_elim, append_assoc, add-zero, arith}
use Rattle.std.proofs.lemmas.List.{append-nil, length_push, map_push}
use Rattle.std.proofs.lemmas.Bool.{false≢true, and_parts, eqb-true, ltb-true, not-true, cases_Bool, cond-true, cond-false, ne_eqb}
use Rattle.plan.specs.Calls.{PlanCall, SetPeriod, AddSegment, AddMeter, AddCarried, refusal_of, after_call, comes_in_order, values_fit, has_meter, is_empty}
use Rattle.plan.specs.Contents.{Contents, PeriodNumbers, SegmentNumbers, nothing}
use Rattle.plan.specs.Limits.{most_segments}
use Rattle.plan.specs.Questions.{is_full}
use Rattle.plan.specs.declared.carried.CarriedPeak.{CarriedPeak}
use Rattle.plan.specs.declared.meter.Meter.{Meter}
use Rattle.plan.specs.WellMade.{calls_of, period_call, segment_calls}
use Rattle.plan.proofs.Judged.{passed}
use Rattle.monthfile.specs.declared.phase.Phase.{Phase}
use Rattle.monthfile.specs.declared.phase.Phase.TheVariants.{Start, Segments, Meters, Peaks}

abbrev pub for_period : Option PeriodNumbers → Contents → Phase
for_period None plan = Start
for_period (Some p) plan = cond (is_full plan) (cond (is_empty plan.carried) Meters Peaks) Segments

-- the phase of a reader whose plan holds this, between two plan calls
abbrev pub phase_for : Contents → Phase
phase_for plan = for_period plan.period plan

-- nothing stands before its time: no entry before the period, no meter and no carried peak before the last segment
pub record Tidy (plan : Contents) : Type 0 where
  pub unbegun : plan.period ≡ None → plan ≡ nothing
  pub no_meters : is_full plan ≡ false → plan.meters ≡ []
  pub no_peaks : is_full plan ≡ false → plan.carried ≡ []

pub tidy_nothing : Tidy nothing
tidy_nothing = record { unbegun = λ _. refl; no_meters = λ _. refl; no_peaks = λ _. refl }

pub in_order : (plan : Contents) (call : PlanCall) → refusal_of plan call ≡ None → comes_in_order plan call ≡ true
in_order plan call none = (passed (comes_in_order plan call) (values_fit plan call) (has_meter plan call) none).ordered_is

none_from : {X : Type 0} (o : Option X) → is_some o ≡ false → o ≡ None
none_from None e = refl
none_from (Some x) e = absurd (false≢true (sym e))

pub empty_from : {X : Type 0} (xs : List X) → is_empty xs ≡ true → xs ≡ []
empty_from [] e = refl
empty_from (x ∷ xs) e = absurd (omega (arith, eqb-true (length (x ∷ xs)) 0 e))

segment_calls_push : (n : ℕ) (ss : List SegmentNumbers) (s : SegmentNumbers)
    → segment_calls n (ss ++ s ∷ []) ≡ segment_calls n ss ++ AddSegment (n + length ss) s ∷ []
segment_calls_push n [] s = ap (λ k. AddSegment k s ∷ []) (sym (add-zero n))
segment_calls_push n (x ∷ ss) s =
    ap (λ calls. AddSegment n x ∷ calls)
    (segment_calls_push (n + 1) ss s ∙ ap (λ k. segment_calls (n + 1) ss ++ AddSegment k s ∷ []) (omega arith))

-- one entry more at the end of lists that are joined
regroup_2 : {X : Type 0} (a b : List X) (x : X) → a ++ ((b ++ x ∷ []) ++ []) ≡ (a ++ (b ++ [])) ++ x ∷ []
regroup_2 a b x = simp (append_assoc, append-nil)

regroup_3 : {X : Type 0} (a b c : List X) (x : X) → a ++ (b ++ ((c ++ x ∷ []) ++ [])) ≡ (a ++ (b ++ (c ++ []))) ++ x ∷ []
regroup_3 a b c x = simp (append_assoc, append-nil)

regroup_4 : {X : Type 0} (a b c d : List X) (x : X) → a ++ (b ++ (c ++ (d ++ x ∷ []))) ≡ (a ++ (b ++ (c ++ d))) ++ x ∷ []
regroup_4 a b c d x = simp append_assoc

module _ (plan : Contents) (tidy : Tidy plan) where
  pub first_period : (p : PeriodNumbers) → comes_in_order plan (SetPeriod p) ≡ true → plan ≡ nothing
  first_period p e = tidy.unbegun (none_from plan.period (not-true (is_some plan.period) e))

  some_period : is_some plan.period ≡ true → plan.period ≡ None → ⊥
  some_period some none = false≢true (ap is_some (sym none) ∙ some)

  full_period : is_full plan ≡ true → plan.period ≡ None → ⊥
  full_period full none = false≢true (ap is_full (sym (tidy.unbegun none)) ∙ full)

  -- a segment comes in its turn
  pub record Turn (segment : ℕ) : Type 0 where
    pub begun : is_some plan.period ≡ true
    pub next : segment ≡ length plan.segments
    pub few : segment < most_segments

  pub turn : (segment : ℕ) (s : SegmentNumbers) → comes_in_order plan (AddSegment segment s) ≡ true → Turn segment
  turn segment s e =
      let a = and_parts _ _ e in
      let b = and_parts _ _ a.1 in
      record { begun = a.0; next = eqb-true segment (length plan.segments) b.0; few = ltb-true segment most_segments b.1 }

  pub not_yet_full : (segment : ℕ) → Turn segment → is_full plan ≡ false
  not_yet_full segment t = ne_eqb (length plan.segments) most_segments (λ e. omega (arith, t.next, t.few))

  -- the calls behind contents, one more
  pub calls_push : (call : PlanCall) → refusal_of plan call ≡ None → calls_of (after_call plan call) ≡ calls_of plan ++ call ∷ []
  calls_push (SetPeriod p) none =
      let P : Contents → Type 0 = λ c. calls_of (after_call c (SetPeriod p)) ≡ calls_of c ++ SetPeriod p ∷ [] in
      subst P (sym (first_period p (in_order plan (SetPeriod p) none))) refl
  calls_push (AddSegment segment s) none =
      let t = turn segment s (in_order plan (AddSegment segment s) none) in
      let no = not_yet_full segment t in
      let ends : map AddMeter plan.meters ++ map AddCarried plan.carried ≡ [] =
      ap (λ ms. map AddMeter ms ++ map AddCarried plan.carried) (tidy.no_meters no) ∙ ap (map AddCarried) (tidy.no_peaks no) in
      let number : AddSegment (0 + length plan.segments) s ≡ AddSegment segment s = ap (λ k. AddSegment k s) (omega (arith, t.next)) in
      ap (λ rest. period_call plan.period ++ (segment_calls 0 (plan.segments ++ s ∷ []) ++ rest)) ends
      ∙ ap (λ calls. period_call plan.period ++ (calls ++ [])) (segment_calls_push 0 plan.segments s ∙ ap (λ c. segment_calls 0 plan.segments ++ c ∷ []) number)
      ∙ regroup_2 (period_call plan.period) (segment_calls 0 plan.segments) (AddSegment segment s)
      ∙ ap (λ rest. (period_call plan.period ++ (segment_calls 0 plan.segments ++ rest)) ++ AddSegment segment s ∷ []) (sym ends)
  calls_push (AddMeter m) none =
      let e = and_parts _ _ (in_order plan (AddMeter m) none) in
      let no : plan.carried ≡ [] = empty_from plan.carried (and_parts _ _ e.1).0 in
      ap (λ ks. period_call plan.period ++ (segment_calls 0 plan.segments ++ (map AddMeter (plan.meters ++ m ∷ []) ++ map AddCarried ks))) no
      ∙ ap (λ ms. period_call plan.period ++ (segment_calls 0 plan.segments ++ (ms ++ []))) (map_push AddMeter plan.meters m)
      ∙ regroup_3 (period_call plan.period) (segment_calls 0 plan.segments) (map AddMeter plan.meters) (AddMeter m)
      ∙ ap (λ ks. (period_call plan.period ++ (segment_calls 0 plan.segments ++ (map AddMeter plan.meters ++ map AddCarried ks))) ++ AddMeter m ∷ []) (sym no)
  calls_push (AddCarried k) none =
      ap (λ ks. period_call plan.period ++ (segment_calls 0 plan.segments ++ (map AddMeter plan.meters ++ ks))) (map_push AddCarried plan.carried k)
      ∙ regroup_4 (period_call plan.period) (segment_calls 0 plan.segments) (map AddMeter plan.meters) (map AddCarried plan.carried) (AddCarried k)

  pub tidy_kept : (call : PlanCall) → refusal_of plan call ≡ None → Tidy (after_call plan call)
  tidy_kept (SetPeriod p) none = record {
    unbegun = λ e. absurd (some_none e);
    no_meters = tidy.no_meters;
    no_peaks = tidy.no_peaks;
  }
    where
      some_none : Some p ≡ None → ⊥
      some_none e = let z : ◌≡◌ {A = ℕ} 0 1 = cc in omega arith
  tidy_kept (AddSegment segment s) none =
      let t = turn segment s (in_order plan (AddSegment segment s) none) in
      let no = not_yet_full segment t in
      record {
        unbegun = λ e. absurd (some_period t.begun e);
        no_meters = λ _. tidy.no_meters no;
        no_peaks = λ _. tidy.no_peaks no;
      }
  tidy_kept (AddMeter m) none =
      let full = (and_parts _ _ (in_order plan (AddMeter m) none)).0 in
      record {
        unbegun = λ e. absurd (full_period full e);
        no_meters = λ e. absurd (false≢true (sym e ∙ full));
        no_peaks = λ e. absurd (false≢true (sym e ∙ full));
      }
  tidy_kept (AddCarried k) none =
      let full = (and_parts _ _ (in_order plan (AddCarried k) none)).0 in
      record {
        unbegun = λ e. absurd (full_period full e);
        no_meters = λ e. absurd (false≢true (sym e ∙ full));
        no_peaks = λ e. absurd (false≢true (sym e ∙ full));
      }

-- the phase of a plan with a period
pub phase_begun : (plan : Contents) → is_some plan.period ≡ true
    → phase_for plan ≡ cond (is_full plan) (cond (is_empty plan.carried) Meters Peaks) Segments
phase_begun plan begun = go plan.period begun
  where
    go : (o : Option PeriodNumbers) → is_some o ≡ true → for_period o plan ≡ cond (is_full plan) (cond (is_empty plan.carried) Meters Peaks) Segments
    go None e = absurd (false≢true e)
    go (Some p) e = refl

-- what a phase past the segments says of the plan
pub record Filled (plan : Contents) : Type 0 where
  pub begun : is_some plan.period ≡ true
  pub full : is_full plan ≡ true

pub filled : (plan : Contents) (phase : Phase) → phase_for plan ≡ phase → (phase ≡ Start → ⊥) → (phase ≡ Segments → ⊥) → Filled plan
filled plan phase e not_start not-segments = go plan.period refl (is_full plan) refl
  where
    go : (o : Option PeriodNumbers) → plan.period ≡ o → (full : Bool) → is_full plan ≡ full → Filled plan
    go None p full f = absurd (not_start (sym e ∙ ap (λ o. for_period o plan) p))
    go (Some q) p true f = record { begun = ap is_some p; full = f }
    go (Some q) p false f =
        absurd (not-segments (sym e ∙ ap (λ o. for_period o plan) p ∙ cond-false (is_full plan) (cond (is_empty plan.carried) Meters Peaks) Segments f))

pub meters≢start : Meters ≡ Start → ⊥
meters≢start e = let z : ◌≡◌ {A = ℕ} 0 1 = cc in omega arith

pub meters≢segments : Meters ≡ Segments → ⊥
meters≢segments e = let z : ◌≡◌ {A = ℕ} 0 1 = cc in omega arith

pub peaks≢start : Peaks ≡ Start → ⊥
peaks≢start e = let z : ◌≡◌ {A = ℕ} 0 1 = cc in omega arith

pub peaks≢segments : Peaks ≡ Segments → ⊥
peaks≢segments e = let z : ◌≡◌ {A = ℕ} 0 1 = cc in omega arith

-- the phase after a call that was taken
module _ (plan : Contents) (tidy : Tidy plan) where
  pub after_period : (p : PeriodNumbers) → refusal_of plan (SetPeriod p) ≡ None → phase_for (after_call plan (SetPeriod p)) ≡ Segments
  after_period p none =
      let fresh : is_full plan ≡ false = ap is_full (first_period plan tidy p (in_order plan (SetPeriod p) none)) in
      cond-false (is_full plan) _ _ fresh

  pub after_segment : (segment : ℕ) (s : SegmentNumbers) → refusal_of plan (AddSegment segment s) ≡ None
      → phase_for (after_call plan (AddSegment segment s)) ≡ cond (is_full (after_call plan (AddSegment segment s))) Meters Segments
  after_segment segment s none =
      let t = turn plan tidy segment s (in_order plan (AddSegment segment s) none) in
      phase_begun (after_call plan (AddSegment segment s)) t.begun
      ∙ ap (λ ks. cond (is_full (after_call plan (AddSegment segment s))) (cond (is_empty ks) Meters Peaks) Segments) (tidy.no_peaks (not_yet_full plan tidy segment t))

  pub begun_from_full : is_full plan ≡ true → is_some plan.period ≡ true
  begun_from_full full = ⊎_elim (λ e. e) (λ e. absurd (full_period plan tidy full (none_from plan.period e))) (cases_Bool (is_some plan.period))

  pub after_meter : (m : Meter) → refusal_of plan (AddMeter m) ≡ None → phase_for (after_call plan (AddMeter m)) ≡ Meters
  after_meter m none =
      let e = and_parts _ _ (in_order plan (AddMeter m) none) in
      phase_begun (after_call plan (AddMeter m)) (begun_from_full e.0)
      ∙ cond-true (is_full plan) _ _ e.0 ∙ cond-true (is_empty plan.carried) Meters Peaks (and_parts _ _ e.1).0

  pub after_peak : (k : CarriedPeak) → refusal_of plan (AddCarried k) ≡ None → phase_for (after_call plan (AddCarried k)) ≡ Peaks
  after_peak k none =
      let e = and_parts _ _ (in_order plan (AddCarried k) none) in
      phase_begun (after_call plan (AddCarried k)) (begun_from_full e.0)
      ∙ cond-true (is_full plan) _ _ e.0
      ∙ cond-false (is_empty (plan.carried ++ k ∷ [])) Meters Peaks (ne_eqb (length (plan.carried ++ k ∷ [])) 0 (λ z. omega (arith, length_push plan.carried k)))
