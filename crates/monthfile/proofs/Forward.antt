-- Reading the words of a file gives its plan and its bookings back. Assumes nothing.
use Rattle.std.proofs.Common.{◌≡◌, ℕ, Bool, true, false, cond, not, ◌&&◌, eqb, leb, List, [], ◌∷◌, ◌++◌, map, Some, None, Option, sym, refl, ap, ◌∙◌, subst, ⊎_elim, append_assoc, arith}
use Rattle.std.specs.List.{flat_map, AllByRecursion}
use Rattle.std.proofs.lemmas.List.{map-append}
use Rattle.std.proofs.lemmas.Bool.{false≢true, and_parts, cases_Bool, eqb-true, le-leb}
use Rattle.std.proofs.lemmas.Bool.Decides.{nat_tests}
use Rattle.plan.specs.Calls.{PlanCall, SetPeriod, AddSegment, AddMeter, AddCarried, refusal_of, after_call, is_empty}
use Rattle.plan.specs.Contents.{Contents, nothing}
use Rattle.plan.specs.Questions.{is_full}
use Rattle.plan.specs.WellMade.{Makes, calls_of}
use Rattle.plan.specs.declared.booking.Booking.{Booking}
use Rattle.words.specs.Bytes.{number_at}
use Rattle.words.specs.declared.segment_word.SegmentWord.{SegmentWord}
use Rattle.words.specs.declared.spot.Spot.{Spot}
use Rattle.words.specs.declared.word.Word.{Word}
use Rattle.words.specs.declared.word.Word.TheVariants.{Period, Segment, Factor, Meter, Select, Amount, Carried}
use Rattle.monthfile.specs.declared.brought.Brought.{Brought}
use Rattle.monthfile.specs.declared.brought.Brought.TheVariants.{Nothing, Opening, Offtake}
use Rattle.monthfile.specs.declared.phase.Phase.{Phase}
use Rattle.monthfile.specs.declared.phase.Phase.TheVariants.{Start, Segments, Terms, Meters, Peaks, Selected, Booked}
use Rattle.monthfile.specs.File.{call_words, plan_words, spot_of, one_on, comes_next, select_words, booking_words, file_words}
use Rattle.monthfile.specs.Inverse.{Gave, Holdable}
use Rattle.monthfile.specs.declared.telling.Layer.TheVariants.{File as FILE}
use Rattle.monthfile.specs.Judging.{last_hour, by_plan, Standing, beginning, terms_call, Faulty, Taken, judge}
use Rattle.monthfile.specs.Reading.{Reading, reading, gone_on, preceded, booking_of, may_end}
use Rattle.monthfile.proofs.Phases.{phase_for, Tidy, tidy_nothing, in_order, turn, not_yet_full, first_period, begun_from_full, phase_begun, tidy_kept, after_period, after_segment, after_meter, after_peak}

-- a word that is taken, and the rest
taken : (st : Standing) (place : ℕ) (word : Word) (rest : List (Option Word)) (after : Standing) (brought : Brought)
    → judge st word ≡ Taken after brought → reading st place (Some word ∷ rest) ≡ preceded brought (reading after (number_at place 1) rest)
taken st place word rest after brought e = ap (λ v. gone_on st place v (λ standing. reading standing (number_at place 1) rest)) e

abbrev at : Phase → Contents → Standing
at phase plan = record { phase = phase; plan = plan }

-- the plan's word in the phase that it may stand in
judged : (phase : Phase) (plan : Contents) (word : Word) (place : Phase) (after : Standing) (o : Option ℕ) → phase ≡ place → o ≡ None
    → judge (at place plan) word ≡ by_plan o after Nothing → judge (at phase plan) word ≡ Taken after Nothing
judged phase plan word place after o e none is =
    ap (λ p. judge (at p plan) word) e ∙ is ∙ ap (λ n. by_plan n after Nothing) none

-- the words of one call bring the reader to the plan after it
abbrev Brings : Contents → PlanCall → Type 0
Brings plan call =
    (place : ℕ) (rest : List (Option Word)) → (later : ℕ)
    × (reading (at (phase_for plan) plan) place (map Some (call_words call) ++ rest)
    ≡ reading (at (phase_for (after_call plan call)) (after_call plan call)) later rest)

module _ (plan : Contents) (tidy : Tidy plan) where
  brings : (call : PlanCall) → refusal_of plan call ≡ None → Brings plan call
  brings (SetPeriod p) none place rest =
      let fresh : phase_for plan ≡ Start = ap phase_for (first_period plan tidy p (in_order plan (SetPeriod p) none)) in
      let after : Contents = after_call plan (SetPeriod p) in (
        number_at place 1,
        taken (at (phase_for plan) plan) place (Period p.year p.month p.hours) rest (at Segments after) Nothing
            (judged (phase_for plan) plan (Period p.year p.month p.hours) Start (at Segments after) (refusal_of plan (SetPeriod p)) fresh none refl)
            ∙ ap (λ ph. reading (at ph after) (number_at place 1) rest) (sym (after_period plan tidy p none)),
      )
  brings (AddSegment segment s) none place rest =
      let call : PlanCall = AddSegment segment s in
      let after : Contents = after_call plan call in
      let t = turn plan tidy segment s (in_order plan call none) in
      let waits : phase_for plan ≡ Segments = phase_begun plan t.begun ∙ ap (λ b. cond b (cond (is_empty plan.carried) Meters Peaks) Segments) (not_yet_full plan tidy segment t) in
      let given : SegmentWord = record { segment = segment; service = s.service; tariff = s.tariff } in
      let next : Phase = cond (is_full after) Meters Segments in (
        number_at (number_at place 1) 1,
        taken (at (phase_for plan) plan) place (Segment given) (Some (Factor segment s.factor) ∷ rest) (at (Terms given) plan) Nothing
            (ap (λ p. judge (at p plan) (Segment given)) waits)
            ∙ taken (at (Terms given) plan) (number_at place 1) (Factor segment s.factor) rest (at next after) Nothing
            (own_factor given s.factor none)
            ∙ ap (λ ph. reading (at ph after) (number_at (number_at place 1) 1) rest) (sym (after_segment plan tidy segment s none)),
      )
    where
      own_factor : (given : SegmentWord) (f : ℕ) → refusal_of plan (terms_call given f) ≡ None
          → judge (at (Terms given) plan) (Factor given.segment f)
          ≡ Taken (at (cond (is_full (after_call plan (terms_call given f))) Meters Segments) (after_call plan (terms_call given f))) Nothing
      own_factor given f none =
          let own : not (not (eqb given.segment given.segment)) ≡ true = grind (arith, nat_tests) in
          let call : PlanCall = terms_call given f in
          let after : Standing = at (cond (is_full (after_call plan call)) Meters Segments) (after_call plan call) in
          ap (λ b. cond b (by_plan (refusal_of plan call) after Nothing) (Faulty FILE 2)) own ∙ ap (λ o. by_plan o after Nothing) none
  brings (AddMeter m) none place rest =
      let e = and_parts _ _ (in_order plan (AddMeter m) none) in
      let after : Contents = after_call plan (AddMeter m) in
      let waits : phase_for plan ≡ Meters =
      phase_begun plan (begun_from_full plan tidy e.0) ∙ ap (λ b. cond b (cond (is_empty plan.carried) Meters Peaks) Segments) e.0
      ∙ ap (λ b. cond b Meters Peaks) (and_parts _ _ e.1).0 in
      let word : Word = Meter m.segment m.user m.station m.number in (
        number_at place 1,
        taken (at (phase_for plan) plan) place word rest (at Meters after) Nothing
            (judged (phase_for plan) plan word Meters (at Meters after) (refusal_of plan (AddMeter m)) waits none refl)
            ∙ ap (λ ph. reading (at ph after) (number_at place 1) rest) (sym (after_meter plan tidy m none)),
      )
  brings (AddCarried k) none place rest =
      let e = and_parts _ _ (in_order plan (AddCarried k) none) in
      let after : Contents = after_call plan (AddCarried k) in
      let word : Word = Carried k.meter k.amount in
      let filled-plan : phase_for plan ≡ cond (is_empty plan.carried) Meters Peaks =
      phase_begun plan (begun_from_full plan tidy e.0) ∙ ap (λ b. cond b (cond (is_empty plan.carried) Meters Peaks) Segments) e.0 in (
        number_at place 1,
        taken (at (phase_for plan) plan) place word rest (at Peaks after) Nothing
            (⊎_elim
            (λ none_yet. judged (phase_for plan) plan word Meters (at Peaks after) (refusal_of plan (AddCarried k)) (filled-plan ∙ ap (λ b. cond b Meters Peaks) none_yet) none refl)
            (λ some. judged (phase_for plan) plan word Peaks (at Peaks after) (refusal_of plan (AddCarried k)) (filled-plan ∙ ap (λ b. cond b Meters Peaks) some) none refl)
            (cases_Bool (is_empty plan.carried)))
            ∙ ap (λ ph. reading (at ph after) (number_at place 1) rest) (sym (after_peak plan tidy k none)),
      )

-- the words of calls that make a plan bring the reader to it
brings_all : (calls : List PlanCall) (plan end : Contents) → Tidy plan → Makes plan calls end → (place : ℕ) (rest : List (Option Word))
    → (later : ℕ) × Tidy end × (reading (at (phase_for plan) plan) place (map Some (flat_map call_words calls) ++ rest) ≡ reading (at (phase_for end) end) later rest)
brings_all [] plan end tidy makes place rest =
    (place, subst Tidy makes tidy, ap (λ p. reading (at (phase_for p) p) place rest) makes)
brings_all (call ∷ calls) plan end tidy makes place rest =
    let first = brings plan tidy call makes.0 place (map Some (flat_map call_words calls) ++ rest) in
    let others = brings_all calls (after_call plan call) end (tidy_kept plan tidy call makes.0) makes.1 first.0 rest in (
      others.0,
      others.1,
      ap (reading (at (phase_for plan) plan) place)
          (ap (λ ws. ws ++ rest) (map-append Some (call_words call) (flat_map call_words calls)) ∙ append_assoc (map Some (call_words call)) (map Some (flat_map call_words calls)) rest)
          ∙ first.1 ∙ others.2,
    )

gave_after : (plan : Contents) (bs : List Booking) (brought : Brought) (r : Reading) → Gave plan bs r → Gave plan (booking_of brought ++ bs) (preceded brought r)
gave_after plan bs brought r gave = record {
  no_fault = gave.no_fault;
  ends = gave.ends;
  planned = gave.planned;
  booked = ap (λ more. booking_of brought ++ more) gave.booked;
}

-- a phase in which bookings may come, and the hour that the next amount would book there
data Ready : Phase → Option Spot → Type 0 where
  after_meters : Ready Meters None
  after_peaks : Ready Peaks None
  going_on : {spot : Spot} → Ready (Booked spot) (Some spot)

ready_ends : {phase : Phase} {next : Option Spot} → Ready phase next → may_end phase ≡ true
ready_ends after_meters = refl
ready_ends after_peaks = refl
ready_ends going_on = refl

abbrev one_past : Booking → Phase
one_past b = Booked (one_on (spot_of b))

module _ (plan : Contents) (b : Booking) (fits : Holdable b) where
  hour_fits : leb b.hour last_hour ≡ true
  hour_fits = le-leb b.hour last_hour fits.hour

  amount_selected : judge (at (Selected (spot_of b)) plan) (Amount b.amount) ≡ Taken (at (one_past b) plan) (Offtake b)
  amount_selected = ap (λ t. cond t (Taken (at (one_past b) plan) (Offtake b)) (Faulty FILE 3)) hour_fits

  amount_next : judge (at (Booked (spot_of b)) plan) (Amount b.amount) ≡ Taken (at (one_past b) plan) (Offtake b)
  amount_next = ap (λ t. cond t (Taken (at (one_past b) plan) (Offtake b)) (Faulty FILE 3)) hour_fits

  -- the booking that comes next has just its amount
  next_is : {phase : Phase} {next : Option Spot} → Ready phase next → comes_next next (spot_of b) ≡ true → phase ≡ Booked (spot_of b)
  next_is after_meters e = absurd (false≢true e)
  next_is after_peaks e = absurd (false≢true e)
  next_is (going_on {spot}) e =
      let first = and_parts _ _ e in
      let others = and_parts _ _ first.1 in
      let segment = eqb-true spot.segment b.segment first.0 in
      let meter = eqb-true spot.meter b.meter others.0 in
      let hour = eqb-true spot.hour b.hour others.1 in
      rw (← segment, ← meter, ← hour)

  -- any other booking has a select first
  selects : {phase : Phase} {next : Option Spot} → Ready phase next → comes_next next (spot_of b) ≡ false
      → (brought : Brought) × (booking_of brought ≡ []) × (judge (at phase plan) (Select (spot_of b)) ≡ Taken (at (Selected (spot_of b)) plan) brought)
  selects after_meters e = (Opening, refl, ap (λ t. cond t (Taken (at (Selected (spot_of b)) plan) Opening) (Faulty FILE 3)) hour_fits)
  selects after_peaks e = (Opening, refl, ap (λ t. cond t (Taken (at (Selected (spot_of b)) plan) Opening) (Faulty FILE 3)) hour_fits)
  selects (going_on {spot}) e = (
    Nothing,
    refl,
    ap (λ t. cond (not (t && leb spot.hour last_hour)) (cond (leb b.hour last_hour) (Taken (at (Selected (spot_of b)) plan) Nothing) (Faulty FILE 3)) (Faulty FILE 2)) e
        ∙ ap (λ t. cond t (Taken (at (Selected (spot_of b)) plan) Nothing) (Faulty FILE 3)) hour_fits,
  )

reads_bookings : (bs : List Booking) → AllByRecursion Holdable bs → {phase : Phase} {next : Option Spot} → Ready phase next → (plan : Contents) (place : ℕ)
    → Gave plan bs (reading (at phase plan) place (map Some (booking_words next bs)))
reads_bookings [] all ready plan place = record { no_fault = refl; ends = ready_ends ready; planned = refl; booked = refl }
reads_bookings (b ∷ bs) all {phase} {next} ready plan place =
    let rest : List (Option Word) = map Some (booking_words (Some (one_on (spot_of b))) bs) in
    let amount : Option Word = Some (Amount b.amount) in
    let Goal : Bool → Type 0 = λ c. Gave plan (b ∷ bs) (reading (at phase plan) place (map Some (select_words c (spot_of b) ++ (Amount b.amount ∷ booking_words (Some (one_on (spot_of b))) bs)))) in
    let later : (p : ℕ) → Gave plan bs (reading (at (one_past b) plan) p rest) = λ p. reads_bookings bs all.1 going_on plan p in
    ⊎_elim
    (λ e. subst Goal (sym e)
    (subst (λ r. Gave plan (b ∷ bs) r)
    (sym (ap (λ ph. reading (at ph plan) place (amount ∷ rest)) (next_is plan b all.0 ready e)
    ∙ taken (at (Booked (spot_of b)) plan) place (Amount b.amount) rest (at (one_past b) plan) (Offtake b) (amount_next plan b all.0)))
    (gave_after plan bs (Offtake b) (reading (at (one_past b) plan) (number_at place 1) rest) (later (number_at place 1)))))
    (λ e.
    let first = selects plan b all.0 ready e in
    let selected : Standing = at (Selected (spot_of b)) plan in
    let booked : Gave plan (b ∷ bs) (reading selected (number_at place 1) (amount ∷ rest)) =
    subst (λ r. Gave plan (b ∷ bs) r)
    (sym (taken selected (number_at place 1) (Amount b.amount) rest (at (one_past b) plan) (Offtake b) (amount_selected plan b all.0)))
    (gave_after plan bs (Offtake b) (reading (at (one_past b) plan) (number_at (number_at place 1) 1) rest) (later (number_at (number_at place 1) 1))) in
    subst Goal (sym e)
    (subst (λ r. Gave plan (b ∷ bs) r)
    (sym (taken (at phase plan) place (Select (spot_of b)) (amount ∷ rest) selected first.0 first.2))
    (subst (λ xs. Gave plan (xs ++ b ∷ bs) (preceded first.0 (reading selected (number_at place 1) (amount ∷ rest)))) first.1
    (gave_after plan (b ∷ bs) first.0 (reading selected (number_at place 1) (amount ∷ rest)) booked))))
    (cases_Bool (comes_next next (spot_of b)))

-- a full plan's bookings may come
ready_full : (plan : Contents) → Tidy plan → is_full plan ≡ true → Ready (phase_for plan) None
ready_full plan tidy full =
    let e : phase_for plan ≡ cond (is_empty plan.carried) Meters Peaks =
    phase_begun plan (begun_from_full plan tidy full) ∙ ap (λ b. cond b (cond (is_empty plan.carried) Meters Peaks) Segments) full in
    subst (λ p. Ready p None) (sym e) (go (is_empty plan.carried))
  where
    go : (b : Bool) → Ready (cond b Meters Peaks) None
    go true = after_meters
    go false = after_peaks

pub reads_back : (plan : Contents) (bookings : List Booking) → Makes nothing (calls_of plan) plan → is_full plan ≡ true → AllByRecursion Holdable bookings → (place : ℕ)
    → Gave plan bookings (reading beginning place (map Some (file_words plan bookings)))
reads_back plan bookings makes full all place =
    let rest : List (Option Word) = map Some (booking_words None bookings) in
    let calls = brings_all (calls_of plan) nothing plan tidy_nothing makes place rest in
    subst (λ r. Gave plan bookings r)
    (sym (ap (reading beginning place) (map-append Some (plan_words plan) (booking_words None bookings)) ∙ calls.2))
    (reads_bookings bookings all (ready_full plan calls.1 full) plan calls.0)
