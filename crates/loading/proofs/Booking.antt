-- A word after the first select, by what it brings and what the month answers. Assumes nothing.
use Rattle.std.proofs.Common.{◌≡◌, ℕ, true, List, [], ◌∷◌, ◌++◌, Some, None, Ok, Err, Option, Result, sym, refl, ap, ◌∙◌, subst}
use Rattle.std.specs.Option.{option_map}
use Rattle.std.proofs.lemmas.List.{append-nil}
use Rattle.std.proofs.lemmas.Option.{none-some}
use Rattle.plan.specs.Contents.{Contents}
use Rattle.plan.specs.declared.booking.Booking.{Booking as Entry}
use Rattle.words.specs.declared.word.Word.{Word}
use Rattle.month.specs.Bookings.{booking_refusal}
use Rattle.month.specs.Calls.{AnswersBooking, after_call}
use Rattle.month.specs.Faults.{number_of}
use Rattle.month.specs.Stands.{Stands, State}
use Rattle.month.specs.Terms.{Terms}
use Rattle.month.specs.declared.call.Call.TheVariants.{Book}
use Rattle.month.specs.declared.fault.BookingFault.{BookingFault}
use Rattle.month.proofs.Pushed.{after_refused, after_taken}
use Rattle.monthfile.specs.Faults.{Stepped}
use Rattle.monthfile.specs.Judging.{Standing, Taken, judge}
use Rattle.monthfile.specs.Reading.{booking_of}
use Rattle.monthfile.specs.declared.brought.Brought.{Brought}
use Rattle.monthfile.specs.declared.brought.Brought.TheVariants.{Nothing, Opening, Offtake}
use Rattle.monthfile.specs.declared.fault.Placed.{Placed}
use Rattle.monthfile.specs.declared.fault.ReadFault.{ReadFault}
use Rattle.monthfile.specs.declared.phase.Phase.{Phase}
use Rattle.monthfile.specs.declared.telling.Layer.TheVariants.{Book as BOOK}
use Rattle.loading.specs.Layers.{brought_fault, has_opened, reading_of, terms_by, verdict_fault, word_fault}
use Rattle.loading.specs.Stages.{BooksAt, WordBooked}
use Rattle.loading.specs.declared.fault.LoadFault.TheVariants.{Booking, Reading}
use Rattle.loading.proofs.Layered.{none_refused_push, pushed}
use Rattle.loading.proofs.Planning.{tells_word, told_parts, wants_word}
use Rattle.loading.proofs.Staged.{book_step, faulty_with, taken_with}

module _ (joins : ℕ → ℕ → ℕ → ℕ) (words : List (Option Word)) (phase : Phase) (state : State) (b : BooksAt joins words phase state) (q : Contents) where
  abbrev plan : Contents
  plan = (reading_of words).standing.plan

  abbrev bookings : List Entry
  bookings = (reading_of words).bookings

  abbrev pub terms : Terms
  terms = terms_by joins plan

  -- the reader, whose plan was handed out
  abbrev at : Standing
  at = record { phase = phase; plan = q }

  since : has_opened phase ≡ true
  since = ap has_opened (sym b.phase_is) ∙ b.books.opened

  stands_at : (reading_of words).standing ≡ record { phase = phase; plan = plan }
  stands_at = ap (λ (ph : Phase). record { phase = ph; plan = plan }) b.phase_is

  pub refused_word : (place bits : ℕ) (fault : ReadFault) (after : Standing) (then : Phase) →
      Stepped at place bits (Err fault) after →
      WordBooked joins words place bits (Err (Reading fault)) then state
  refused_word place bits fault after then stepped = (
    stepped.0,
    stepped.1,
    b.books,
    refl,
    wants_word words at place bits fault after b.books.clean
        (λ word st brought e. (
          record { phase = st.phase; plan = plan },
          ap (λ x. judge x word) stands_at ∙ taken_with q plan phase word st brought since e,
        )) stepped,
    tells_word joins words at place bits fault after
        (λ word layer number e. ap (λ st. judge st word) stands_at ∙ faulty_with q plan phase word layer number since e) stepped,
  )

  module _ (word : Word) (after : Standing) (brought : Brought) (e : judge at word ≡ Taken after brought) where
    here : judge (reading_of words).standing word ≡ Taken (record { phase = after.phase; plan = plan }) brought
    here = ap (λ st. judge st word) stands_at ∙ taken_with q plan phase word after brought since e

    by_month : word_fault joins words (Some word) ≡ brought_fault joins plan bookings brought
    by_month = ap (verdict_fault joins bookings) here

    -- the word is taken, and the month stands with what it brought
    one_more : (then : State) →
        has_opened after.phase ≡ true →
        brought_fault joins plan bookings brought ≡ None →
        Stands terms (bookings ++ booking_of brought) then →
        BooksAt joins (words ++ Some word ∷ []) after.phase then
    one_more then opened fine stands =
        let more = pushed words word (record { phase = after.phase; plan = plan }) brought b.books.clean here in
        let same-plan = ap (λ (st : Standing). st.plan) more.stands in
        record {
          books = record {
            clean = more.clean;
            opened = ap (λ (st : Standing). has_opened st.phase) more.stands ∙ opened;
            none_refused = none_refused_push joins words (Some word) b.books.none_refused (by_month ∙ fine);
            stands =
                subst (λ p. Stands (terms_by joins p) (reading_of (words ++ Some word ∷ [])).bookings then) (sym same-plan)
                (subst (λ bs. Stands terms bs then) (sym more.booked) stands);
          };
          phase_is = ap (λ (st : Standing). st.phase) more.stands;
        }

  pub quiet_word : (place bits : ℕ) (brought : Brought) (after : Standing) →
      Stepped at place bits (Ok brought) after →
      ((entry : Entry) → brought ≡ Offtake entry → ⊥) →
      WordBooked joins words place bits (Ok tt) after.phase state
  quiet_word place bits brought after (None, decoded, never) none = absurd never
  quiet_word place bits Nothing after (Some word, decoded, e) none = (
    word,
    decoded,
    one_more word after Nothing e state (book_step at word after Nothing since e) refl
        (subst (λ bs. Stands terms bs state) (sym (append-nil bookings)) b.books.stands),
  )
  quiet_word place bits Opening after (Some word, decoded, e) none = absurd (book_step at word after Opening since e)
  quiet_word place bits (Offtake entry) after (Some word, decoded, e) none = absurd (none entry refl)

  -- an amount is booked as the month answers
  module _ (place bits : ℕ) (entry : Entry) (after : Standing) (stepped : Stepped at place bits (Ok (Offtake entry)) after) (then : State)
      (answer : Result (Unit {0}) BookingFault)
      (answered : AnswersBooking terms bookings entry answer × Stands terms (after_call terms bookings (Book entry)) then) where
    pub booked_word : answer ≡ Ok tt → WordBooked joins words place bits (Ok tt) after.phase then
    booked_word taken = go stepped
      where
        none : booking_refusal terms bookings entry ≡ None
        none = subst (AnswersBooking terms bookings entry) taken answered.0

        go : Stepped at place bits (Ok (Offtake entry)) after → WordBooked joins words place bits (Ok tt) after.phase then
        go (None, decoded, never) = absurd never
        go (Some word, decoded, e) = (
          word,
          decoded,
          one_more word after (Offtake entry) e then (book_step at word after (Offtake entry) since e)
              (ap (option_map (λ number. (BOOK, number))) none)
              (subst (λ bs. Stands terms bs then) (after_taken terms bookings entry none) answered.1),
        )

    pub unbooked_word : (placed : Placed BookingFault) (phase-then : Phase) →
        (answer ≡ Err placed.fault) × (placed.place ≡ place) →
        WordBooked joins words place bits (Err (Booking placed)) phase-then then
    unbooked_word placed phase-then (given, at_place) = go stepped
      where
        refused : booking_refusal terms bookings entry ≡ Some (number_of placed.fault)
        refused = subst (AnswersBooking terms bookings entry) given answered.0

        go : Stepped at place bits (Ok (Offtake entry)) after → WordBooked joins words place bits (Err (Booking placed)) phase-then then
        go (None, decoded, never) = absurd never
        go (Some word, decoded, e) = (
          Some word,
          decoded,
          record {
            clean = b.books.clean;
            opened = b.books.opened;
            none_refused = b.books.none_refused;
            stands = subst (λ bs. Stands terms bs then) (after_refused terms bookings entry (number_of placed.fault) refused) answered.1;
          },
          refl,
          λ none. absurd (none-some _ (sym none)),
          λ t is.
              let parts = told_parts BOOK (number_of placed.fault) placed.place t is in
              (by_month word after (Offtake entry) e ∙ ap (option_map (λ number. (BOOK, number))) refused ∙ parts.0, parts.1 ∙ at_place),
        )
