-- What was read from words can be filed again: its bookings can be held, and at the end the plan is full. Assumes nothing.
use Rattle.std.proofs.Common.{◌≡◌, ℕ, ◌^◌, ◌<◌, ◌≤◌, Bool, true, false, cond, List, [], ◌∷◌, Some, None, Option, sym, refl, subst}
use Rattle.std.specs.List.{AllByRecursion}
use Rattle.std.proofs.ByRecursion.{All-append}
use Rattle.std.proofs.lemmas.Bool.{false≢true, leb-true}
use Rattle.plan.specs.Calls.{after_call}
use Rattle.plan.specs.Contents.{Contents}
use Rattle.plan.specs.Questions.{is_full}
use Rattle.words.specs.Bytes.{number_at}
use Rattle.words.specs.Layout.{FieldsFit}
use Rattle.words.specs.declared.word.Word.{Word}
use Rattle.monthfile.specs.declared.phase.Phase.{Phase}
use Rattle.monthfile.specs.declared.phase.Phase.TheVariants.{Start, Segments, Terms, Meters, Peaks, Selected, Booked}
use Rattle.monthfile.specs.Inverse.{Holdable}
use Rattle.monthfile.specs.Judging.{last_hour, within_limits, call_of, plan_after, phase_after, brought_by, Standing, terms_call, Verdict, Faulty, Taken, judge}
use Rattle.monthfile.specs.Reading.{Reading, reading, gone_on, booking_of, may_end, AllDecoded}
use Rattle.monthfile.proofs.Allowed.{Allowed, allowed, period, segment, factor, meter, first_peak, next_peak, select_after_meters, select_after_peaks, select_anew, selected_amount, next_amount}
use Rattle.monthfile.proofs.Backward.{passed}

-- from the meters on the plan is full, and what is selected can be held
abbrev Ready : Phase → Contents → Type 0
Ready Start plan = Unit {0}
Ready Segments plan = Unit {0}
Ready (Terms given) plan = Unit {0}
Ready Meters plan = is_full plan ≡ true
Ready Peaks plan = is_full plan ≡ true
Ready (Selected spot) plan = (is_full plan ≡ true) × (spot.segment < 2 ^ 2) × (spot.meter < 2 ^ 6) × (spot.hour ≤ last_hour)
Ready (Booked spot) plan = (is_full plan ≡ true) × (spot.segment < 2 ^ 2) × (spot.meter < 2 ^ 6)

after_factor : (full : Bool) (plan : Contents) → is_full plan ≡ full → Ready (cond full Meters Segments) plan
after_factor true plan e = e
after_factor false plan e = tt

abbrev Goal : Phase → Contents → Word → Type 0
Goal phase plan word =
    Ready (phase_after (plan_after plan (call_of phase word)) phase word) (plan_after plan (call_of phase word))
    × AllByRecursion Holdable (booking_of (brought_by phase word))

stays : {phase : Phase} {word : Word} → Allowed phase word → (plan : Contents) → Ready phase plan → FieldsFit word → within_limits phase word ≡ true
    → Goal phase plan word
stays period plan ready fit limits = (tt, tt)
stays segment plan ready fit limits = (tt, tt)
stays (factor {given} {u} {f} e) plan ready fit limits =
    let after : Contents = after_call plan (terms_call given f) in
    (after_factor (is_full after) after refl, tt)
stays meter plan ready fit limits = (ready, tt)
stays first_peak plan ready fit limits = (ready, tt)
stays next_peak plan ready fit limits = (ready, tt)
stays (select_after_meters {spot}) plan ready fit limits = ((ready, fit.0, fit.1, leb-true spot.hour last_hour limits), tt)
stays (select_after_peaks {spot}) plan ready fit limits = ((ready, fit.0, fit.1, leb-true spot.hour last_hour limits), tt)
stays (select_anew {next} {spot} other) plan ready fit limits = ((ready.0, fit.0, fit.1, leb-true spot.hour last_hour limits), tt)
stays (selected_amount {spot} {a}) plan ready fit limits =
    ((ready.0, ready.1, ready.2), (record { segment = ready.1; meter = ready.2; hour = ready.3; amount = fit }, tt))
stays (next_amount {spot} {a}) plan ready fit limits =
    ((ready.0, ready.1, ready.2), (record { segment = ready.1; meter = ready.2; hour = leb-true spot.hour last_hour limits; amount = fit }, tt))

abbrev Held : Reading → Type 0
Held r = Ready r.standing.phase r.standing.plan × AllByRecursion Holdable r.bookings

pub held : (bits : List ℕ) (words : List (Option Word)) → AllDecoded bits words → (st : Standing) (place : ℕ) → Ready st.phase st.plan
    → Held (reading st place words)
held [] [] decoded st place ready = (ready, tt)
held [] (w ∷ words) decoded st place ready = absurd decoded
held (n ∷ bits) [] decoded st place ready = absurd decoded
held (n ∷ bits) (None ∷ words) decoded st place ready = (ready, tt)
held (n ∷ bits) (Some word ∷ words) decoded st place ready =
    go (λ after r. held bits words decoded.1 after (number_at place 1) r) (judge st word) refl
  where
    go : ((after : Standing) → Ready after.phase after.plan → Held (reading after (number_at place 1) words)) → (v : Verdict) → judge st word ≡ v
        → Held (gone_on st place v (λ standing. reading standing (number_at place 1) words))
    go later (Faulty layer number) e = (ready, tt)
    go later (Taken after brought) e =
        let p = passed st word after brought e in
        let here = stays (allowed st.phase word p.stands) st.plan ready decoded.0.0 p.limits in
        let rest = later after (subst (λ x. Ready x.phase x.plan) (sym p.after_is) here.0) in (
          rest.0,
          All-append Holdable (booking_of brought) (reading after (number_at place 1) words).bookings
              (subst (λ x. AllByRecursion Holdable (booking_of x)) (sym p.brought_is) here.1) rest.1,
        )

pub full_at_end : (phase : Phase) (plan : Contents) → may_end phase ≡ true → Ready phase plan → is_full plan ≡ true
full_at_end Start plan e ready = absurd (false≢true e)
full_at_end Segments plan e ready = absurd (false≢true e)
full_at_end (Terms given) plan e ready = absurd (false≢true e)
full_at_end Meters plan e ready = ready
full_at_end Peaks plan e ready = ready
full_at_end (Selected spot) plan e ready = absurd (false≢true e)
full_at_end (Booked spot) plan e ready = ready.0
