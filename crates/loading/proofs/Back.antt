-- An input that has the file of a plan and bookings, which the month accepts. Assumes nothing.
use Rattle.std.proofs.Common.{◌≡◌, ℕ, ◌/◌, ◌%◌, ◌^◌, ◌<◌, Bool, true, false, cond, ◌&&◌, List, [], ◌∷◌, ◌++◌, map, length, Some, None, Ok, Err, Option, Result, sym, refl, ap, ◌∙◌, subst, append_assoc, arith}
use Rattle.std.specs.List.{flat_map, AllByRecursion}
use Rattle.std.specs.Option.{option_map, option_or}
use Rattle.std.specs.declared.io.Read.{Ghosts as Input}
use Rattle.std.proofs.lemmas.List.{append-nil, nil_from_length}
use Rattle.std.proofs.lemmas.Option.{none-some}
use Rattle.plan.specs.Contents.{Contents}
use Rattle.plan.specs.declared.booking.Booking.{Booking}
use Rattle.weights.specs.declared.source.WeightSource.{Ghosts as Source}
use Rattle.words.specs.Bytes.{left_over as bytes_over, spelled, words_of}
use Rattle.words.specs.declared.word.Word.{Word}
use Rattle.words.proofs.Spelling.{left_over-append, length-left_over, length-words, words_append, words_spelled}
use Rattle.input.specs.FileWords.{left_over, to_come}
use Rattle.input.specs.declared.file_words.FileWords.{FileWords}
use Rattle.input.proofs.Runs.{consumed, gave_fits}
use Rattle.month.specs.Calls.{accepted}
use Rattle.month.specs.OfMonth.{state_of}
use Rattle.month.specs.Opening.{opening_refusal}
use Rattle.month.specs.Stands.{Stands}
use Rattle.month.specs.declared.call.Call.TheVariants.{Book}
use Rattle.month.specs.declared.month.Month.{Month}
use Rattle.month.specs.declared.open.Open.{Open}
use Rattle.monthfile.specs.File.{file_of}
use Rattle.monthfile.specs.Inverse.{Fileable, Gave}
use Rattle.monthfile.specs.Judging.{Standing}
use Rattle.monthfile.specs.Reading.{AllDecoded, end_fault}
use Rattle.monthfile.specs.declared.telling.Layer.TheVariants.{File as FILE, Plan as PLAN}
use Rattle.monthfile.specs.declared.telling.Told.{Told}
use Rattle.monthfile.proofs.Entire.{all_decode, none_over, over, reads}
use Rattle.monthfile.proofs.OneByOne.{decoded-append, length-decoded}
use Rattle.loading.specs.Faults.{told}
use Rattle.loading.specs.Layers.{has_opened, opening_tells, reading_of, terms_by}
use Rattle.loading.specs.Loading.{Loaded, Loads, LoadsFile, StoppedBy, TellsOf}
use Rattle.loading.specs.declared.left.Stopped.{Stopped}
use Rattle.loading.proofs.Accepting.{not_refused}

-- words spelled are whole words
whole_words : (ns : List ℕ) → length (flat_map spelled ns) % 4 ≡ 0
whole_words ns = sym (length-left_over (flat_map spelled ns)) ∙ ap length (none_over ns)

module _ (joins : ℕ → ℕ → ℕ → ℕ) (plan : Contents) (bookings : List Booking) (f : Fileable plan bookings) where
  abbrev file : List ℕ
  file = file_of plan bookings

  -- words that were given, and those of the bytes that are still to come, are the words of the file
  file_read : (bits rest : List ℕ) (words : List (Option Word)) →
      AllByRecursion (λ n. n < 2 ^ 32) bits →
      AllDecoded bits words →
      file ≡ flat_map spelled bits ++ rest →
      (more : List (Option Word)) × (length more ≡ length rest / 4) × Gave plan bookings (reading_of (words ++ more))
  file_read bits rest words fit decoded e =
      let others = all_decode (words_of rest) in
      let all : words_of file ≡ bits ++ words_of rest =
      ap words_of e ∙ words_append (flat_map spelled bits) rest (whole_words bits) ∙ ap (λ ns. ns ++ words_of rest) (words_spelled bits fit) in (
        others.0,
        length-decoded (words_of rest) others.0 others.1 ∙ length-words rest,
        reads file plan bookings f refl (words ++ others.0)
            (subst (λ ns. AllDecoded ns (words ++ others.0)) (sym all)
            (decoded-append bits (words_of rest) words others.0 decoded others.1)) 0,
      )

  rest_whole : (bits rest : List ℕ) → file ≡ flat_map spelled bits ++ rest → length rest % 4 ≡ 0
  rest_whole bits rest e =
      sym (length-left_over rest)
      ∙ ap length (sym (left_over-append (flat_map spelled bits) rest (whole_words bits)) ∙ ap bytes_over (sym e)
      ∙ over file plan bookings f refl)

  module _ (opened : opening_refusal (terms_by joins plan) ≡ None) (taken : accepted (terms_by joins plan) (map Book bookings) ≡ bookings) where
    abbrev as_plan : ℕ → ℕ → Told
    as_plan place number = record { layer = PLAN; number = number; place = place }

    no_opening_told : (at : Standing) (place : ℕ) → at.plan ≡ plan → opening_tells joins at place ≡ None
    no_opening_told at place is = go (has_opened at.phase)
      where
        go : (b : Bool) → cond b None (option_map (as_plan place) (opening_refusal (terms_by joins at.plan))) ≡ None
        go true = refl
        go false = ap (λ p. option_map (as_plan place) (opening_refusal (terms_by joins p))) is ∙ ap (option_map (as_plan place)) opened

    -- nothing can be told of it
    not_told : {R : Type 0} {input : Input R} (done others more : List (Option Word)) (rest : List ℕ) (next : ℕ) (reached after : FileWords R input) (t : Told) →
        length more ≡ length rest / 4 →
        length rest % 4 ≡ 0 →
        Gave plan bookings (reading_of ((done ++ others) ++ more)) →
        to_come reached ≡ Some rest →
        TellsOf joins done others next reached after t →
        ⊥
    not_told done (word ∷ others) more rest next reached after t many whole gave is (fault, place) =
        let fine = not_refused joins plan bookings opened taken done (others ++ more) word
        (subst (λ ws. Gave plan bookings (reading_of ws)) (append_assoc done (word ∷ others) more) gave) in
        none-some _ (sym fine ∙ fault)
    not_told done [] more rest next reached after t many whole gave is (ended, tells) =
        let short : length rest ≡ left_over after = ended.rest rest is in
        let none : length rest ≡ 0 = omega (arith, short, whole) in
        let all : (done ++ []) ++ more ≡ done =
        ap (λ ws. (done ++ []) ++ ws) (nil_from_length more (omega (arith, many, none))) ∙ append-nil (done ++ []) ∙ append-nil done in
        let g : Gave plan bookings (reading_of done) = subst (λ ws. Gave plan bookings (reading_of ws)) all gave in
        let at : Standing = (reading_of done).standing in
        let fine : end_fault at after.number (left_over after) ≡ None =
        ap (end_fault at after.number) (sym short ∙ none)
        ∙ ap (λ b. cond (b && true) None (Some (record { layer = FILE; number = 11; place = after.number }))) g.ends in
        none-some _
        (sym (ap (λ o. option_or o (opening_tells joins at after.number)) fine ∙ no_opening_told at after.number g.planned) ∙ tells)

    module _ {A B C D R : Type 0} {input : Input R} (a : Source A) (b : Source B) (c : Source C) (d : Source D) (before after : FileWords R input)
        (is : to_come before ≡ Some file) where
      stopped_back : (stopped : Stopped A B C D a b c d) → StoppedBy a b c d joins stopped before after → told stopped.fault ≡ None
      stopped_back stopped s = go (told stopped.fault) refl
        where
          go : (o : Option Told) → told stopped.fault ≡ o → o ≡ None
          go None e = refl
          go (Some t) e =
              let left = consumed (to_come before) (to_come s.reached) (flat_map spelled s.bits) file s.bytes is in
              let read = file_read s.bits left.0 (s.taken ++ s.others) (gave_fits s.bits before s.reached s.gave) s.decoded left.2 in
              absurd (not_told s.taken s.others read.0 left.0 _ s.reached after t read.1 (rest_whole s.bits left.0 left.2) read.2 left.1 (s.tells t e))

      loaded_back : (month : Month A B C D a b c d) → Loaded a b c d joins month before after → Stands (terms_by joins plan) bookings (state_of month)
      loaded_back month l =
          let words = all_decode (words_of file) in
          let mine = reads file plan bookings f refl words.0 words.1 0 in
          let its = reads file l.plan l.bookings l.fileable (l.bytes file is) words.0 words.1 0 in
          subst (λ p. Stands (terms_by joins p) bookings (state_of month)) (sym its.planned ∙ mine.planned)
          (subst (λ bs. Stands (terms_by joins l.plan) bs (state_of month)) (sym its.booked ∙ mine.booked) l.stands)

module _ {A B C D R : Type 0} {input : Input R} (a : Source A) (b : Source B) (c : Source C) (d : Source D) (joins : ℕ → ℕ → ℕ → ℕ)
    (before after : FileWords R input) where
  pub loads_back : (r : Result (Open (Month A B C D a b c d)) (Stopped A B C D a b c d)) →
      Loads a b c d joins before r after →
      LoadsFile a b c d joins before r
  loads_back (Ok month) l plan bookings f opened taken is =
      loaded_back joins plan bookings f opened taken a b c d before after is month.0 l
  loads_back (Err stopped) s plan bookings f opened taken is =
      stopped_back joins plan bookings f opened taken a b c d before after is stopped s
