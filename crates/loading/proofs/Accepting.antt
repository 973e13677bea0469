-- Bookings that a month accepts in their order, and the words of their file: no layer refuses one. Assumes nothing.
use Rattle.std.proofs.Common.{◌≡◌, ℕ, ◌+◌, ◌≤◌, Bool, true, false, cond, List, [], ◌∷◌, ◌++◌, map, length, is_some, Some, None, Option, sym, refl, ap, ◌∙◌, append_assoc, length-append, zero-add, arith}
use Rattle.std.specs.Option.{option_map}
use Rattle.std.proofs.lemmas.List.{append-nil}
use Rattle.plan.specs.Contents.{Contents}
use Rattle.plan.specs.declared.booking.Booking.{Booking}
use Rattle.words.specs.Bytes.{number_at}
use Rattle.words.specs.declared.word.Word.{Word}
use Rattle.month.specs.Bookings.{booking_refusal}
use Rattle.month.specs.Calls.{accepted, accepted_from, after_call}
use Rattle.month.specs.Opening.{opening_refusal}
use Rattle.month.specs.Terms.{Terms}
use Rattle.month.specs.declared.call.Call.TheVariants.{Book}
use Rattle.month.proofs.Pushed.{after_refused, after_taken}
use Rattle.monthfile.specs.Inverse.{Gave}
use Rattle.monthfile.specs.Judging.{Standing, Verdict, Faulty, Taken, beginning, judge}
use Rattle.monthfile.specs.Reading.{Reading, gone_on, reading}
use Rattle.monthfile.specs.declared.brought.Brought.{Brought}
use Rattle.monthfile.specs.declared.brought.Brought.TheVariants.{Nothing, Opening, Offtake}
use Rattle.monthfile.specs.declared.telling.Layer.TheVariants.{Plan as PLAN, Book as BOOK}
use Rattle.monthfile.proofs.Entire.{front_clean}
use Rattle.monthfile.proofs.OneByOne.{read_after, some≢none}
use Rattle.loading.specs.Layers.{has_opened, reading_of, terms_by, verdict_fault, word_fault}
use Rattle.loading.proofs.Staged.{book_step, plan_step, taken_with}

module _ (terms : Terms) where
  grown : (before : List Booking) (b : Booking) → length (after_call terms before (Book b)) ≤ length before + 1
  grown before b = go (is_some (booking_refusal terms before b))
    where
      go : (refused : Bool) → length (cond refused before (before ++ b ∷ [])) ≤ length before + 1
      go true = omega arith
      go false = omega (arith, length-append before (b ∷ []))

  -- no more are accepted than were made
  few : (bookings before : List Booking) → length (accepted_from terms before (map Book bookings)) ≤ length before + length bookings
  few [] before = omega arith
  few (b ∷ bookings) before = omega (arith, grown before b, few bookings (after_call terms before (Book b)))

  -- where as many are accepted as were made, none is refused
  first_taken : (b : Booking) (later before : List Booking) →
      length (accepted_from terms before (map Book (b ∷ later))) ≡ length before + length (b ∷ later) →
      booking_refusal terms before b ≡ None
  first_taken b later before all = go (booking_refusal terms before b) refl
    where
      go : (r : Option ℕ) → booking_refusal terms before b ≡ r → booking_refusal terms before b ≡ None
      go None e = e
      go (Some n) e =
          let same = ap (λ bs. length (accepted_from terms bs (map Book later))) (after_refused terms before b n e) in
          absurd (omega (arith, same, all, few later before))

  each_taken : (first : List Booking) (b : Booking) (later before : List Booking) →
      length (accepted_from terms before (map Book (first ++ b ∷ later))) ≡ length before + length (first ++ b ∷ later) →
      booking_refusal terms (before ++ first) b ≡ None
  each_taken [] b later before all = ap (λ bs. booking_refusal terms bs b) (append-nil before) ∙ first_taken b later before all
  each_taken (y ∷ first) b later before all =
      let then = after_taken terms before y (first_taken y (first ++ b ∷ later) before all) in
      ap (λ bs. booking_refusal terms bs b) (sym (append_assoc before (y ∷ []) first))
      ∙ each_taken first b later (before ++ y ∷ [])
      (ap (λ bs. length (accepted_from terms bs (map Book (first ++ b ∷ later)))) (sym then) ∙ all ∙ omega (arith, length-append before (y ∷ [])))

-- the opening and the bookings come where the month is open
open_by : (at : Standing) (word : Word) (after : Standing) (brought : Brought) (opened : Bool) →
    has_opened at.phase ≡ opened →
    judge at word ≡ Taken after brought →
    (brought ≡ Nothing → ⊥) →
    has_opened after.phase ≡ true
open_by at word after Nothing opened is e some = absurd (some refl)
open_by at word after Opening false is e some = (plan_step at word after Opening is e).0
open_by at word after Opening true is e some = absurd (book_step at word after Opening is e)
open_by at word after (Offtake b) false is e some = absurd (plan_step at word after (Offtake b) is e)
open_by at word after (Offtake b) true is e some = book_step at word after (Offtake b) is e

-- an open month stays open
stays_open : (at : Standing) (word : Word) (after : Standing) (brought : Brought) →
    has_opened at.phase ≡ true →
    judge at word ≡ Taken after brought →
    has_opened after.phase ≡ true
stays_open at word after Nothing since e = book_step at word after Nothing since e
stays_open at word after Opening since e = absurd (book_step at word after Opening since e)
stays_open at word after (Offtake b) since e = book_step at word after (Offtake b) since e

abbrev plan_of : Contents → Verdict → Contents
plan_of plan (Faulty layer number) = plan
plan_of plan (Taken after brought) = after.plan

-- its plan stays, whatever words follow
plan_kept : (words : List (Option Word)) (at : Standing) (place : ℕ) →
    has_opened at.phase ≡ true →
    (reading at place words).fault ≡ None →
    (reading at place words).standing.plan ≡ at.plan
plan_kept [] at place since clean = refl
plan_kept (None ∷ words) at place since clean = absurd (some≢none clean)
plan_kept (Some word ∷ words) at place since clean =
    go (λ after. plan_kept words after (number_at place 1)) (judge at word) refl clean
  where
    go : (
        (after : Standing) →
        has_opened after.phase ≡ true →
        (reading after (number_at place 1) words).fault ≡ None →
        (reading after (number_at place 1) words).standing.plan ≡ after.plan
        ) →
        (v : Verdict) →
        judge at word ≡ v →
        (gone_on at place v (λ st. reading st (number_at place 1) words)).fault ≡ None →
        (gone_on at place v (λ st. reading st (number_at place 1) words)).standing.plan ≡ at.plan
    go later (Faulty layer number) e clean = absurd (some≢none clean)
    go later (Taken after brought) e clean =
        later after (stays_open at word after brought since e) clean
        ∙ ap (plan_of at.plan) (sym e ∙ taken_with at.plan at.plan at.phase word after brought since e)

module _ (joins : ℕ → ℕ → ℕ → ℕ) (plan : Contents) (bookings : List Booking) (opened : opening_refusal (terms_by joins plan) ≡ None)
    (taken : accepted (terms_by joins plan) (map Book bookings) ≡ bookings) where
  -- no layer refuses a word of their file
  module _ (before after : List (Option Word)) where
    abbrev at : Standing
    at = (reading_of before).standing

    abbrev earlier : List Booking
    earlier = (reading_of before).bookings

    abbrev place : ℕ
    place = number_at 0 (length before)

    module _ (word : Word) where
      abbrev rest : Standing → Reading
      rest st = reading st (number_at place 1) after

      at_verdict : (v : Verdict) →
          judge at word ≡ v →
          (gone_on at place v rest).fault ≡ None →
          (gone_on at place v rest).standing.plan ≡ plan →
          earlier ++ (gone_on at place v rest).bookings ≡ bookings →
          verdict_fault joins earlier v ≡ None
      at_verdict (Faulty layer number) e clean planned booked = absurd (some≢none clean)
      at_verdict (Taken then Nothing) e clean planned booked = refl
      at_verdict (Taken then Opening) e clean planned booked =
          let is : then.plan ≡ plan =
          sym (plan_kept after then (number_at place 1) (open_by at word then Opening _ refl e (λ none. cc)) clean) ∙ planned in
          ap (λ p. option_map (λ number. (PLAN, number)) (opening_refusal (terms_by joins p))) is
          ∙ ap (option_map (λ number. (PLAN, number))) opened
      at_verdict (Taken then (Offtake b)) e clean planned booked =
          let is : then.plan ≡ plan =
          sym (plan_kept after then (number_at place 1) (open_by at word then (Offtake b) _ refl e (λ none. cc)) clean) ∙ planned in
          let terms : Terms = terms_by joins plan in
          let all = ap (λ bs. length (accepted terms (map Book bs))) booked ∙ ap length taken ∙ ap length (sym booked) in
          ap (λ p. option_map (λ number. (BOOK, number)) (booking_refusal (terms_by joins p) earlier b)) is
          ∙ ap (option_map (λ number. (BOOK, number))) (each_taken terms earlier b (rest then).bookings [] (all ∙ sym (zero-add _)))

    pub not_refused : (word : Option Word) → Gave plan bookings (reading_of (before ++ word ∷ after)) → word_fault joins before word ≡ None
    not_refused word gave =
        let whole =
        read_after beginning 0 before (word ∷ after) (omega arith) (front_clean before (word ∷ after) gave.no_fault) in
        go word (ap (λ (r : Reading). r.fault) (sym whole) ∙ gave.no_fault)
        (ap (λ (r : Reading). r.standing.plan) (sym whole) ∙ gave.planned)
        (ap (λ (r : Reading). r.bookings) (sym whole) ∙ gave.booked)
      where
        go : (word : Option Word) →
            (reading at place (word ∷ after)).fault ≡ None →
            (reading at place (word ∷ after)).standing.plan ≡ plan →
            earlier ++ (reading at place (word ∷ after)).bookings ≡ bookings →
            word_fault joins before word ≡ None
        go None clean planned booked = absurd (some≢none clean)
        go (Some word) clean planned booked = at_verdict word (judge at word) refl clean planned booked
