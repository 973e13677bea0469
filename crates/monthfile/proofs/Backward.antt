-- Words that are read with no fault are those of the file of what they gave. Assumes nothing.
use Rattle.std.proofs.Common.{◌≡◌, ℕ, Bool, true, false, cond, leb, List, [], ◌∷◌, ◌++◌, map, Some, None, Option, sym, refl, ap, ◌∙◌, subst, append_assoc, arith}
use Rattle.std.specs.List.{flat_map}
use Rattle.std.proofs.lemmas.List.{append-nil, flat_map_more, map-append}
use Rattle.std.proofs.lemmas.Bool.{false≢true}
use Rattle.std.proofs.lemmas.Bool.Decides.{nat_tests}
use Rattle.plan.specs.Calls.{PlanCall, SetPeriod, AddMeter, AddCarried, refusal_of, after_call}
use Rattle.plan.specs.Contents.{Contents}
use Rattle.plan.specs.Questions.{is_full}
use Rattle.plan.specs.WellMade.{calls_of}
use Rattle.plan.specs.declared.booking.Booking.{Booking}
use Rattle.words.specs.Bytes.{number_at}
use Rattle.words.specs.declared.spot.Spot.{Spot}
use Rattle.words.specs.declared.word.Word.{Word}
use Rattle.words.specs.declared.word.Word.TheVariants.{Period, Segment, Factor, Meter, Select, Amount, Carried}
use Rattle.monthfile.specs.declared.brought.Brought.{Brought}
use Rattle.monthfile.specs.declared.phase.Phase.{Phase}
use Rattle.monthfile.specs.declared.phase.Phase.TheVariants.{Start, Segments, Terms, Meters, Peaks, Selected, Booked}
use Rattle.monthfile.specs.File.{call_words, plan_words, spot_of, one_on, is_same_spot, comes_next, select_words, booking_words, file_words}
use Rattle.monthfile.specs.declared.telling.Layer.{Layer}
use Rattle.monthfile.specs.declared.telling.Layer.TheVariants.{File as FILE}
use Rattle.monthfile.specs.Inverse.{Gave}
use Rattle.monthfile.specs.Judging.{last_hour, may_stand, within_limits, redundant, call_of, plan_refusal, plan_after, phase_after, brought_by, by_plan, Standing, beginning, terms_call, Verdict, Faulty, Taken, judge}
use Rattle.monthfile.specs.Reading.{Reading, reading, gone_on, booking_of, may_end}
use Rattle.monthfile.proofs.OneByOne.{some≢none}
use Rattle.monthfile.proofs.Allowed.{Allowed, allowed, period, segment, factor, meter, first_peak, next_peak, select_after_meters, select_after_peaks, select_anew, selected_amount, next_amount}
use Rattle.monthfile.proofs.Phases.{phase_for, Tidy, tidy_nothing, calls_push, tidy_kept, after_period, after_segment, after_meter, after_peak}

faulty≢taken : {l : Layer} {n : ℕ} {s : Standing} {b : Brought} → Faulty l n ≡ Taken s b → ⊥
faulty≢taken e = let z : ◌≡◌ {A = ℕ} 0 1 = cc in omega arith

-- what a word that was taken passed, and what became of it
pub record Passed (before : Standing) (word : Word) (after : Standing) (brought : Brought) : Type 0 where
  pub stands : may_stand before.phase word ≡ true
  pub limits : within_limits before.phase word ≡ true
  pub planned : plan_refusal before.plan (call_of before.phase word) ≡ None
  pub after_is :
      after
      ≡ record { phase = phase_after (plan_after before.plan (call_of before.phase word)) before.phase word; plan = plan_after before.plan (call_of before.phase word) }
  pub brought_is : brought ≡ brought_by before.phase word

pub passed : (before : Standing) (word : Word) (after : Standing) (brought : Brought) → judge before word ≡ Taken after brought
    → Passed before word after brought
passed before word after brought e =
    let parts = go (may_stand before.phase word) (within_limits before.phase word) (plan_refusal before.plan (call_of before.phase word)) _ _ e in
    record { stands = parts.0; limits = parts.1; planned = parts.2; after_is = parts.3; brought_is = parts.4 }
  where
    go : (a b : Bool) (o : Option ℕ) (s : Standing) (x : Brought)
        → cond a (cond b (by_plan o s x) (Faulty FILE 3)) (Faulty FILE 2) ≡ Taken after brought
        → (a ≡ true) × (b ≡ true) × (o ≡ None) × (after ≡ s) × (brought ≡ x)
    go true true None s x e = (refl, refl, refl, cc, cc)
    go true true (Some n) s x e = absurd (faulty≢taken e)
    go true false o s x e = absurd (faulty≢taken e)
    go false b o s x e = absurd (faulty≢taken e)

-- the word that a phase holds back
abbrev pending : Phase → List Word
pending Start = []
pending Segments = []
pending (Terms given) = Segment given ∷ []
pending Meters = []
pending Peaks = []
pending (Selected spot) = Select spot ∷ []
pending (Booked spot) = []

-- the words behind a standing and the bookings so far
abbrev so_far : Standing → List Booking → List Word
so_far st bs = plan_words st.plan ++ (booking_words None bs ++ pending st.phase)

-- the hour that comes next after bookings
abbrev next_after : Option Spot → List Booking → Option Spot
next_after next [] = next
next_after next (b ∷ bs) = next_after (Some (one_on (spot_of b))) bs

next_after_push : (next : Option Spot) (bs : List Booking) (b : Booking) → next_after next (bs ++ b ∷ []) ≡ Some (one_on (spot_of b))
next_after_push next [] b = refl
next_after_push next (x ∷ bs) b = next_after_push (Some (one_on (spot_of x))) bs b

booking_words_push : (next : Option Spot) (bs : List Booking) (b : Booking)
    → booking_words next (bs ++ b ∷ []) ≡ booking_words next bs ++ (select_words (comes_next (next_after next bs) (spot_of b)) (spot_of b) ++ Amount b.amount ∷ [])
booking_words_push next [] b = refl
booking_words_push next (x ∷ bs) b =
    ap (λ rest. select_words (comes_next next (spot_of x)) (spot_of x) ++ (Amount x.amount ∷ rest)) (booking_words_push (Some (one_on (spot_of x))) bs b)
    ∙ sym (append_assoc (select_words (comes_next next (spot_of x)) (spot_of x)) (Amount x.amount ∷ booking_words (Some (one_on (spot_of x))) bs) _)

plan_words_push : (plan : Contents) (call : PlanCall) → Tidy plan → refusal_of plan call ≡ None
    → plan_words (after_call plan call) ≡ plan_words plan ++ call_words call
plan_words_push plan call tidy none = ap (flat_map call_words) (calls_push plan tidy call none) ∙ sym (flat_map_more call_words [] (calls_of plan) call)

-- what holds in each phase of the plan and the bookings so far
abbrev Agrees : Phase → Contents → List Booking → Type 0
Agrees Start plan bs = (phase_for plan ≡ Start) × (bs ≡ [])
Agrees Segments plan bs = (phase_for plan ≡ Segments) × (bs ≡ [])
Agrees (Terms given) plan bs = (phase_for plan ≡ Segments) × (bs ≡ [])
Agrees Meters plan bs = (phase_for plan ≡ Meters) × (bs ≡ [])
Agrees Peaks plan bs = (phase_for plan ≡ Peaks) × (bs ≡ [])
Agrees (Selected spot) plan bs = comes_next (next_after None bs) spot ≡ false
Agrees (Booked spot) plan bs = next_after None bs ≡ Some spot

pub record Sound (st : Standing) (bs : List Booking) : Type 0 where
  pub tidy : Tidy st.plan
  pub agrees : Agrees st.phase st.plan bs

abbrev Grown : Standing → List Booking → Word → Standing → List Booking → Type 0
Grown before bs word after more = Sound after more × (so_far after more ≡ so_far before bs ++ word ∷ [])

abbrev at : Phase → Contents → Standing
at phase plan = record { phase = phase; plan = plan }

-- one more word at the end, in each of the shapes that the cases have
ends_plain : (p : List Word) (b : List Word) (w : Word) → p ++ (b ++ w ∷ []) ≡ (p ++ (b ++ [])) ++ w ∷ []
ends_plain p b w = simp (append_assoc, append-nil)

ends_call : (p q w : List Word) → p ≡ q ++ w → p ++ ([] ++ []) ≡ (q ++ ([] ++ [])) ++ w
ends_call p q w e = append-nil p ∙ e ∙ ap (λ r. r ++ w) (sym (append-nil q))

ends_factor : (p q : List Word) (a b : Word) → p ≡ q ++ (a ∷ b ∷ []) → p ++ ([] ++ []) ≡ (q ++ ([] ++ a ∷ [])) ++ b ∷ []
ends_factor p q a b e = append-nil p ∙ e ∙ sym (append_assoc q (a ∷ []) (b ∷ []))

ends_selected : (p b : List Word) (s a : Word) → p ++ ((b ++ (s ∷ a ∷ [])) ++ []) ≡ (p ++ (b ++ s ∷ [])) ++ a ∷ []
ends_selected p b s a = simp (append_assoc, append-nil)

ends_booked : (p b : List Word) (a : Word) → p ++ ((b ++ a ∷ []) ++ []) ≡ (p ++ (b ++ [])) ++ a ∷ []
ends_booked p b a = simp (append_assoc, append-nil)

same_spot : (spot : Spot) → is_same_spot spot spot ≡ true
same_spot spot = grind (arith, nat_tests)

-- a select that is not redundant names another hour than the one that comes next
names_another : (next spot : Spot) → redundant next (Select spot) ≡ false → leb spot.hour last_hour ≡ true → is_same_spot next spot ≡ false
names_another next spot other within = grind (arith, nat_tests)

abbrev Goal : Phase → Contents → Word → List Booking → Type 0
Goal phase plan word bs =
    Grown (record { phase = phase; plan = plan }) bs word
    (record { phase = phase_after (plan_after plan (call_of phase word)) phase word; plan = plan_after plan (call_of phase word) })
    (bs ++ booking_of (brought_by phase word))

-- after a factor the reader waits for a meter or for the next segment
after_factor : (full : Bool) (after : Contents) → Tidy after → phase_for after ≡ cond full Meters Segments
    → Sound (record { phase = cond full Meters Segments; plan = after }) []
after_factor true after tidy e = record { tidy = tidy; agrees = (e, refl) }
after_factor false after tidy e = record { tidy = tidy; agrees = (e, refl) }

nothing_pending : (full : Bool) → pending (cond full Meters Segments) ≡ []
nothing_pending true = refl
nothing_pending false = refl

-- a word that is taken is the next word behind what the reader then stands for
grows : {phase : Phase} {word : Word} → Allowed phase word → (plan : Contents) (bs : List Booking) → Sound (record { phase = phase; plan = plan }) bs
    → within_limits phase word ≡ true → plan_refusal plan (call_of phase word) ≡ None → Goal phase plan word bs
grows (period {y} {m} {h}) plan bs sound limits none =
    let call : PlanCall = SetPeriod (record { year = y; month = m; hours = h }) in
    subst (λ b. Goal Start plan (Period y m h) b) (sym sound.agrees.1) (
      record { tidy = tidy_kept plan sound.tidy call none; agrees = (after_period plan sound.tidy (record { year = y; month = m; hours = h }) none, refl) },
      ends_call (plan_words (after_call plan call)) (plan_words plan) (call_words call) (plan_words_push plan call sound.tidy none),
    )
grows (segment {given}) plan bs sound limits none =
    subst (λ b. Goal Segments plan (Segment given) b) (sym sound.agrees.1)
    (record { tidy = sound.tidy; agrees = (sound.agrees.0, refl) }, ends_plain (plan_words plan) [] (Segment given))
grows (factor {given} {u} {f} e) plan bs sound limits none =
    subst (λ b. Goal (Terms given) plan (Factor u f) b) (sym sound.agrees.1)
    (let call : PlanCall = terms_call given f in
    let after : Contents = after_call plan call in (
      after_factor (is_full after) after (tidy_kept plan sound.tidy call none) (after_segment plan sound.tidy given.segment (record { service = given.service; tariff = given.tariff; factor = f }) none),
      ap (λ ws. plan_words after ++ ([] ++ ws)) (nothing_pending (is_full after))
          ∙ ends_factor (plan_words after) (plan_words plan) (Segment given) (Factor given.segment f) (plan_words_push plan call sound.tidy none)
          ∙ ap (λ x. (plan_words plan ++ ([] ++ Segment given ∷ [])) ++ Factor x f ∷ []) e,
    ))
grows (meter {s} {u} {p} {m}) plan bs sound limits none =
    let call : PlanCall = AddMeter (record { segment = s; number = m; user = u; station = p }) in
    subst (λ b. Goal Meters plan (Meter s u p m) b) (sym sound.agrees.1) (
      record { tidy = tidy_kept plan sound.tidy call none; agrees = (after_meter plan sound.tidy (record { segment = s; number = m; user = u; station = p }) none, refl) },
      ends_call (plan_words (after_call plan call)) (plan_words plan) (call_words call) (plan_words_push plan call sound.tidy none),
    )
grows (first_peak {m} {a}) plan bs sound limits none =
    let call : PlanCall = AddCarried (record { meter = m; amount = a }) in
    subst (λ b. Goal Meters plan (Carried m a) b) (sym sound.agrees.1) (
      record { tidy = tidy_kept plan sound.tidy call none; agrees = (after_peak plan sound.tidy (record { meter = m; amount = a }) none, refl) },
      ends_call (plan_words (after_call plan call)) (plan_words plan) (call_words call) (plan_words_push plan call sound.tidy none),
    )
grows (next_peak {m} {a}) plan bs sound limits none =
    let call : PlanCall = AddCarried (record { meter = m; amount = a }) in
    subst (λ b. Goal Peaks plan (Carried m a) b) (sym sound.agrees.1) (
      record { tidy = tidy_kept plan sound.tidy call none; agrees = (after_peak plan sound.tidy (record { meter = m; amount = a }) none, refl) },
      ends_call (plan_words (after_call plan call)) (plan_words plan) (call_words call) (plan_words_push plan call sound.tidy none),
    )
grows (select_after_meters {spot}) plan bs sound limits none =
    subst (λ b. Goal Meters plan (Select spot) b) (sym sound.agrees.1)
    (record { tidy = sound.tidy; agrees = refl }, ends_plain (plan_words plan) [] (Select spot))
grows (select_after_peaks {spot}) plan bs sound limits none =
    subst (λ b. Goal Peaks plan (Select spot) b) (sym sound.agrees.1)
    (record { tidy = sound.tidy; agrees = refl }, ends_plain (plan_words plan) [] (Select spot))
grows (select_anew {next} {spot} other) plan bs sound limits none =
    let same : bs ++ [] ≡ bs = append-nil bs in
    subst (λ b. Grown (at (Booked next) plan) bs (Select spot) (at (Selected spot) plan) b) (sym same) (
      record { tidy = sound.tidy; agrees = ap (λ o. comes_next o spot) sound.agrees ∙ names_another next spot other limits },
      ends_plain (plan_words plan) (booking_words None bs) (Select spot),
    )
grows (selected_amount {spot} {a}) plan bs sound limits none =
    let b : Booking = record { segment = spot.segment; meter = spot.meter; hour = spot.hour; amount = a } in (
      record { tidy = sound.tidy; agrees = next_after_push None bs b },
      ap (λ ws. plan_words plan ++ (ws ++ [])) (booking_words_push None bs b ∙ ap (λ next. booking_words None bs ++ (select_words next (spot_of b) ++ Amount a ∷ [])) sound.agrees)
          ∙ ends_selected (plan_words plan) (booking_words None bs) (Select spot) (Amount a),
    )
grows (next_amount {spot} {a}) plan bs sound limits none =
    let b : Booking = record { segment = spot.segment; meter = spot.meter; hour = spot.hour; amount = a } in (
      record { tidy = sound.tidy; agrees = next_after_push None bs b },
      ap (λ ws. plan_words plan ++ (ws ++ []))
          (booking_words_push None bs b
          ∙ ap (λ next. booking_words None bs ++ (select_words next (spot_of b) ++ Amount a ∷ [])) (ap (λ next. comes_next next (spot_of b)) sound.agrees ∙ same_spot spot))
          ∙ ends_booked (plan_words plan) (booking_words None bs) (Amount a),
    )

-- nothing is held back where a file may end
ends_clear : (phase : Phase) → may_end phase ≡ true → pending phase ≡ []
ends_clear Start e = refl
ends_clear Segments e = refl
ends_clear (Terms given) e = absurd (false≢true e)
ends_clear Meters e = refl
ends_clear Peaks e = refl
ends_clear (Selected spot) e = absurd (false≢true e)
ends_clear (Booked spot) e = refl

abbrev Completed : Standing → List Booking → List (Option Word) → Reading → Type 0
Completed st bs words r =
    r.fault ≡ None → may_end r.standing.phase ≡ true
    → map Some (so_far st bs) ++ words ≡ map Some (file_words r.standing.plan (bs ++ r.bookings))

-- the rest of a reading with no fault completes the file
completes : (words : List (Option Word)) (st : Standing) (bs : List Booking) (place : ℕ) → Sound st bs → Completed st bs words (reading st place words)
completes [] st bs place sound clean ends =
    append-nil (map Some (so_far st bs))
    ∙ ap (λ ws. map Some (plan_words st.plan ++ ws))
    (ap (λ rest. booking_words None bs ++ rest) (ends_clear st.phase ends) ∙ append-nil (booking_words None bs) ∙ ap (booking_words None) (sym (append-nil bs)))
completes (None ∷ words) st bs place sound clean ends = absurd (some≢none clean)
completes (Some word ∷ words) st bs place sound clean ends =
    go (λ after more. completes words after more (number_at place 1)) (judge st word) refl clean ends
  where
    go : ((after : Standing) (more : List Booking) → Sound after more → Completed after more words (reading after (number_at place 1) words))
        → (v : Verdict) → judge st word ≡ v → Completed st bs (Some word ∷ words) (gone_on st place v (λ standing. reading standing (number_at place 1) words))
    go later (Faulty layer number) e clean ends = absurd (some≢none clean)
    go later (Taken after brought) e clean ends =
        let p = passed st word after brought e in
        let grown = grows (allowed st.phase word p.stands) st.plan bs sound p.limits p.planned in
        let here : Grown st bs word after (bs ++ booking_of brought) =
        subst (λ x. Grown st bs word after (bs ++ booking_of x)) (sym p.brought_is)
        (subst (λ x. Grown st bs word x (bs ++ booking_of (brought_by st.phase word))) (sym p.after_is) grown) in
        let rest = later after (bs ++ booking_of brought) here.0 clean ends in
        sym (append_assoc (map Some (so_far st bs)) (Some word ∷ []) words)
        ∙ ap (λ ws. ws ++ words) (sym (map-append Some (so_far st bs) (word ∷ [])) ∙ ap (map Some) (sym here.1))
        ∙ rest
        ∙ ap (λ more. map Some (file_words (reading after (number_at place 1) words).standing.plan more))
        (append_assoc bs (booking_of brought) (reading after (number_at place 1) words).bookings)

pub is_file : (plan : Contents) (bookings : List Booking) (words : List (Option Word)) (place : ℕ)
    → Gave plan bookings (reading beginning place words) → words ≡ map Some (file_words plan bookings)
is_file plan bookings words place gave =
    completes words beginning [] place (record { tidy = tidy_nothing; agrees = (refl, refl) }) gave.no_fault gave.ends
    ∙ ap (λ p. map Some (file_words p (reading beginning place words).bookings)) gave.planned
    ∙ ap (λ bs. map Some (file_words plan bs)) gave.booked
