-- The records of a file are those of its plan's calls and then its bookings. Assumes nothing.
use Rattle.std.proofs.Common.{◌≡◌, ℕ, Bool, true, false, cond, List, [], ◌∷◌, ◌++◌, map, Some, None, Option, sym, refl, ap, ◌∙◌, subst, append_assoc}
use Rattle.std.specs.Option.{option_to_list}
use Rattle.std.proofs.lemmas.List.{append-nil, map_push}
use Rattle.plan.specs.Calls.{PlanCall, SetPeriod, AddMeter, AddCarried, after_call, refusal_of}
use Rattle.plan.specs.Contents.{Contents}
use Rattle.plan.specs.Questions.{is_full}
use Rattle.plan.specs.WellMade.{calls_of}
use Rattle.plan.specs.declared.booking.Booking.{Booking}
use Rattle.words.specs.Bytes.{number_at}
use Rattle.words.specs.declared.word.Word.{Word}
use Rattle.words.specs.declared.word.Word.TheVariants.{Factor, Meter, Period, Carried as CarriedWord}
use Rattle.monthfile.specs.declared.phase.Phase.{Phase}
use Rattle.monthfile.specs.declared.phase.Phase.TheVariants.{Start, Segments, Terms, Meters, Peaks, Selected, Booked as BookedPhase}
use Rattle.monthfile.specs.Judging.{call_of, plan_refusal, plan_after, phase_after, brought_by, Standing, beginning, terms_call, Verdict, Faulty, Taken, judge}
use Rattle.monthfile.specs.Reading.{Reading, reading, gone_on, booking_of}
use Rattle.monthfile.proofs.Allowed.{Allowed, allowed, period, segment, factor, meter, first_peak, next_peak, select_after_meters, select_after_peaks, select_anew, selected_amount, next_amount}
use Rattle.monthfile.proofs.Backward.{passed}
use Rattle.monthfile.proofs.OneByOne.{some≢none}
use Rattle.monthfile.proofs.Phases.{Tidy, tidy_nothing, tidy_kept, calls_push}
use Rattle.lines.specs.declared.record.Record.{Record}
use Rattle.lines.specs.declared.record.Record.TheVariants.{Booked}
use Rattle.dumping.specs.Records.{plan_record, completed, records_after, records_in, RecordsOfFile}

-- the records behind a plan and bookings
abbrev records_of : Contents → List Booking → List Record
records_of plan bs = map plan_record (calls_of plan) ++ map Booked bs

-- bookings come after the last plan call
abbrev NoneYet : Phase → List Booking → Type 0
NoneYet Start bs = bs ≡ []
NoneYet Segments bs = bs ≡ []
NoneYet (Terms given) bs = bs ≡ []
NoneYet Meters bs = bs ≡ []
NoneYet Peaks bs = bs ≡ []
NoneYet (Selected spot) bs = Unit {0}
NoneYet (BookedPhase spot) bs = Unit {0}

after_factor : (full : Bool) → NoneYet (cond full Meters Segments) []
after_factor true = refl
after_factor false = refl

abbrev Goal : Phase → Contents → Word → List Booking → Type 0
Goal phase plan word bs =
    Tidy (plan_after plan (call_of phase word))
    × NoneYet (phase_after (plan_after plan (call_of phase word)) phase word) (bs ++ booking_of (brought_by phase word))
    × (records_of (plan_after plan (call_of phase word)) (bs ++ booking_of (brought_by phase word))
    ≡ records_of plan bs ++ option_to_list (completed (call_of phase word) (brought_by phase word)))

planned : (plan : Contents) (call : PlanCall) → Tidy plan → refusal_of plan call ≡ None
    → records_of (after_call plan call) [] ≡ records_of plan [] ++ plan_record call ∷ []
planned plan call tidy none =
    append-nil (map plan_record (calls_of (after_call plan call))) ∙ ap (map plan_record) (calls_push plan tidy call none)
    ∙ map_push plan_record (calls_of plan) call ∙ ap (λ rs. rs ++ plan_record call ∷ []) (sym (append-nil (map plan_record (calls_of plan))))

unchanged : (plan : Contents) (bs : List Booking) → records_of plan (bs ++ []) ≡ records_of plan bs ++ []
unchanged plan bs = ap (records_of plan) (append-nil bs) ∙ sym (append-nil (records_of plan bs))

booked : (plan : Contents) (bs : List Booking) (b : Booking) → records_of plan (bs ++ b ∷ []) ≡ records_of plan bs ++ Booked b ∷ []
booked plan bs b =
    ap (λ rs. map plan_record (calls_of plan) ++ rs) (map_push Booked bs b)
    ∙ sym (append_assoc (map plan_record (calls_of plan)) (map Booked bs) (Booked b ∷ []))

-- a word that is taken adds the record that it completes
adds : {phase : Phase} {word : Word} → Allowed phase word → (plan : Contents) (bs : List Booking) → Tidy plan → NoneYet phase bs
    → plan_refusal plan (call_of phase word) ≡ None → Goal phase plan word bs
adds (period {y} {m} {h}) plan bs tidy none_yet none =
    let call : PlanCall = SetPeriod (record { year = y; month = m; hours = h }) in
    subst (λ b. Goal Start plan (Period y m h) b) (sym none_yet) (tidy_kept plan tidy call none, refl, planned plan call tidy none)
adds segment plan bs tidy none_yet none = (tidy, append-nil bs ∙ none_yet, unchanged plan bs)
adds (factor {given} {u} {f} e) plan bs tidy none_yet none =
    let call : PlanCall = terms_call given f in
    subst (λ b. Goal (Terms given) plan (Factor u f) b) (sym none_yet)
    (tidy_kept plan tidy call none, after_factor (is_full (after_call plan call)), planned plan call tidy none)
adds (meter {s} {u} {p} {m}) plan bs tidy none_yet none =
    let call : PlanCall = AddMeter (record { segment = s; number = m; user = u; station = p }) in
    subst (λ b. Goal Meters plan (Meter s u p m) b) (sym none_yet) (tidy_kept plan tidy call none, refl, planned plan call tidy none)
adds (first_peak {m} {a}) plan bs tidy none_yet none =
    let call : PlanCall = AddCarried (record { meter = m; amount = a }) in
    subst (λ b. Goal Meters plan (CarriedWord m a) b) (sym none_yet) (tidy_kept plan tidy call none, refl, planned plan call tidy none)
adds (next_peak {m} {a}) plan bs tidy none_yet none =
    let call : PlanCall = AddCarried (record { meter = m; amount = a }) in
    subst (λ b. Goal Peaks plan (CarriedWord m a) b) (sym none_yet) (tidy_kept plan tidy call none, refl, planned plan call tidy none)
adds select_after_meters plan bs tidy none_yet none = (tidy, tt, unchanged plan bs)
adds select_after_peaks plan bs tidy none_yet none = (tidy, tt, unchanged plan bs)
adds (select_anew other) plan bs tidy none_yet none = (tidy, tt, unchanged plan bs)
adds (selected_amount {spot} {a}) plan bs tidy none_yet none =
    (tidy, tt, booked plan bs (record { segment = spot.segment; meter = spot.meter; hour = spot.hour; amount = a }))
adds (next_amount {spot} {a}) plan bs tidy none_yet none =
    (tidy, tt, booked plan bs (record { segment = spot.segment; meter = spot.meter; hour = spot.hour; amount = a }))

abbrev Collected : Standing → List Booking → List Record → Reading → Type 0
Collected st bs records r = r.fault ≡ None → records_of st.plan bs ++ records ≡ records_of r.standing.plan (bs ++ r.bookings)

collects : (words : List (Option Word)) (st : Standing) (bs : List Booking) (place : ℕ) → Tidy st.plan → NoneYet st.phase bs
    → Collected st bs (records_in st words) (reading st place words)
collects [] st bs place tidy none_yet clean = sym (unchanged st.plan bs)
collects (None ∷ words) st bs place tidy none_yet clean = absurd (some≢none clean)
collects (Some word ∷ words) st bs place tidy none_yet clean =
    go (λ after more. collects words after more (number_at place 1)) (judge st word) refl clean
  where
    go : ((after : Standing) (more : List Booking) → Tidy after.plan → NoneYet after.phase more → Collected after more (records_in after words) (reading after (number_at place 1) words))
        → (v : Verdict) → judge st word ≡ v
        → Collected st bs (records_after (call_of st.phase word) v (λ standing. records_in standing words)) (gone_on st place v (λ standing. reading standing (number_at place 1) words))
    go later (Faulty layer number) e clean = absurd (some≢none clean)
    go later (Taken after brought) e clean =
        let p = passed st word after brought e in
        let call : Option PlanCall = call_of st.phase word in
        let goal = adds (allowed st.phase word p.stands) st.plan bs tidy none_yet p.planned in
        let more : List Booking = bs ++ booking_of brought in
        let same : more ≡ bs ++ booking_of (brought_by st.phase word) = ap (λ b. bs ++ booking_of b) p.brought_is in
        let tidy-after : Tidy after.plan = subst (λ x. Tidy x.plan) (sym p.after_is) goal.0 in
        let none_after : NoneYet after.phase more =
        subst (λ x. NoneYet x.phase more) (sym p.after_is)
        (subst (NoneYet (phase_after (plan_after st.plan call) st.phase word)) (sym same) goal.1) in
        let added : records_of after.plan more ≡ records_of st.plan bs ++ option_to_list (completed call brought) =
        ap (λ x. records_of x.plan more) p.after_is ∙ ap (records_of (plan_after st.plan call)) same ∙ goal.2
        ∙ ap (λ b. records_of st.plan bs ++ option_to_list (completed call b)) (sym p.brought_is) in
        let rest : List Record = records_in after words in
        sym (append_assoc (records_of st.plan bs) (option_to_list (completed call brought)) rest)
        ∙ ap (λ rs. rs ++ rest) (sym added) ∙ later after more tidy-after none_after clean
        ∙ ap (records_of (reading after (number_at place 1) words).standing.plan) (append_assoc bs (booking_of brought) (reading after (number_at place 1) words).bookings)

pub records_of_file : RecordsOfFile
records_of_file plan bookings words place gave =
    collects words beginning [] place tidy_nothing refl gave.no_fault
    ∙ ap (λ p. records_of p (reading beginning place words).bookings) gave.planned ∙ ap (records_of plan) gave.booked
