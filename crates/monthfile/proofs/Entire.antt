-- The reading of all words of a file: what it gives, and what it tells. Assumes nothing.
use Rattle.std.proofs.Common.{◌≡◌, ℕ, ◌/◌, ◌%◌, ◌^◌, ◌<◌, Bool, true, false, cond, ◌&&◌, eqb, List, [], ◌∷◌, ◌++◌, map, length, is_some, Some, None, Ok, Err, Option, Result, sym, refl, ap, ◌∙◌, subst, arith}
use Rattle.std.specs.List.{flat_map, AllByRecursion}
use Rattle.std.proofs.ByRecursion.{All-map, All-weaker}
use Rattle.std.proofs.lemmas.List.{append-nil, nil_from_length}
use Rattle.std.proofs.lemmas.Bool.{false≢true, eqb-true}
use Rattle.plan.specs.Contents.{Contents}
use Rattle.plan.specs.Questions.{is_full}
use Rattle.plan.specs.WellMade.{is_well_made}
use Rattle.plan.specs.declared.booking.Booking.{Booking}
use Rattle.plan.proofs.Replayed.{makes_itself}
use Rattle.words.specs.Bytes.{spelled, words_of, left_over, number_at}
use Rattle.words.specs.Layout.{encoded, FieldsFit, Decoded}
use Rattle.words.specs.declared.word.Word.{Word}
use Rattle.words.proofs.Reading.{decoded-back, decodes}
use Rattle.words.proofs.Spelling.{length-left_over, length-words, spelled_words, words_spelled}
use Rattle.monthfile.specs.declared.fault.ReadFault.{ReadFault}
use Rattle.monthfile.specs.declared.telling.Layer.TheVariants.{File as FILE}
use Rattle.monthfile.specs.declared.telling.Told.{Told}
use Rattle.monthfile.specs.Faults.{told}
use Rattle.monthfile.specs.File.{bytes_of, file_of, file_words}
use Rattle.monthfile.specs.Inverse.{Fileable, FileAndReading, Gave, Holdable}
use Rattle.monthfile.specs.Judging.{beginning, Standing, Verdict, Faulty, Taken, judge}
use Rattle.monthfile.specs.Reading.{Reading, reading, gone_on, preceded, AllDecoded, BlockRead, may_end, end_fault}
use Rattle.monthfile.specs.Whole.{TellsFirst, file_fault, or_else}
use Rattle.monthfile.proofs.Backward.{is_file}
use Rattle.monthfile.proofs.Fitting.{encoded-below, file_words_fit}
use Rattle.monthfile.proofs.Forward.{reads_back}
use Rattle.monthfile.proofs.Held.{held, full_at_end}
use Rattle.monthfile.proofs.OneByOne.{decoded-append, length-decoded}

pub file_and_reading : FileAndReading
file_and_reading = record {
  reads_back = λ plan bookings f place. reads_back plan bookings (makes_itself plan f.made) f.full f.held place;
  is_file = is_file;
}

none≢some : {X : Type 0} {x : X} → None ≡ Some x → ⊥
none≢some e = let z : ◌≡◌ {A = ℕ} 0 1 = cc in omega arith

-- a fault that is told unless both hold
pub may_end_parts : (a b : Bool) (t : Told) → cond (a && b) None (Some t) ≡ None → (a ≡ true) × (b ≡ true)
may_end_parts true true t e = (refl, refl)
may_end_parts true false t e = absurd (none≢some (sym e))
may_end_parts false b t e = absurd (none≢some (sym e))

-- words that stop the reading stop it whatever follows
pub stops : (first second : List (Option Word)) (before : Standing) (place : ℕ) (t : Told) → (reading before place first).fault ≡ Some t
    → reading before place (first ++ second) ≡ reading before place first
stops [] second before place t e = absurd (none≢some e)
stops (None ∷ first) second before place t e = refl
stops (Some word ∷ first) second before place t e = go (λ after. stops first second after (number_at place 1) t) (judge before word) e
  where
    go : ((after : Standing) → (reading after (number_at place 1) first).fault ≡ Some t
        → reading after (number_at place 1) (first ++ second) ≡ reading after (number_at place 1) first)
        → (v : Verdict) → (gone_on before place v (λ st. reading st (number_at place 1) first)).fault ≡ Some t
        → gone_on before place v (λ st. reading st (number_at place 1) (first ++ second)) ≡ gone_on before place v (λ st. reading st (number_at place 1) first)
    go later (Faulty layer number) e = refl
    go later (Taken after brought) e = ap (preceded brought) (later after e)

-- so the first words of words that are read with no fault have none
pub front_clean : (first second : List (Option Word)) → (reading beginning 0 (first ++ second)).fault ≡ None → (reading beginning 0 first).fault ≡ None
front_clean first second clean = go (reading beginning 0 first).fault refl
  where
    go : (o : Option Told) → (reading beginning 0 first).fault ≡ o → o ≡ None
    go None e = refl
    go (Some t) e = absurd (none≢some (sym clean ∙ ap (λ r. r.fault) (stops first second beginning 0 t e) ∙ e))

-- what bits make is fixed by the bits
decoded-once : (n : ℕ) (a b : Option Word) → Decoded n a → Decoded n b → a ≡ b
decoded-once n None None is also = refl
decoded-once n (Some word) None is also = absurd (also word is.0 is.1)
decoded-once n a (Some word) is also = decoded-back n a is word also.0 also.1

all_decoded_once : (ns : List ℕ) (ws vs : List (Option Word)) → AllDecoded ns ws → AllDecoded ns vs → ws ≡ vs
all_decoded_once [] [] [] is also = refl
all_decoded_once [] [] (v ∷ vs) is also = absurd also
all_decoded_once [] (w ∷ ws) vs is also = absurd is
all_decoded_once (n ∷ ns) [] vs is also = absurd is
all_decoded_once (n ∷ ns) (w ∷ ws) [] is also = absurd also
all_decoded_once (n ∷ ns) (w ∷ ws) (v ∷ vs) is also =
    ap (λ x. x ∷ ws) (decoded-once n w v is.0 also.0) ∙ ap (λ xs. v ∷ xs) (all_decoded_once ns ws vs is.1 also.1)

-- bits make words or none
pub all_decode : (ns : List ℕ) → (ws : List (Option Word)) × AllDecoded ns ws
all_decode [] = ([], tt)
all_decode (n ∷ ns) =
    let first = decodes n in
    let others = all_decode ns in
    (first.0 ∷ others.0, (first.1, others.1))

fit_decoded : (ws : List Word) → AllByRecursion FieldsFit ws → AllDecoded (map encoded ws) (map Some ws)
fit_decoded [] fit = tt
fit_decoded (w ∷ ws) fit = ((fit.0, refl), fit_decoded ws fit.1)

pub decoded-bits : (ns : List ℕ) (ws : List Word) → AllDecoded ns (map Some ws) → ns ≡ map encoded ws
decoded-bits [] [] is = refl
decoded-bits [] (w ∷ ws) is = absurd is
decoded-bits (n ∷ ns) [] is = absurd is
decoded-bits (n ∷ ns) (w ∷ ws) is = ap (λ x. x ∷ ns) (sym is.0.1) ∙ ap (λ xs. encoded w ∷ xs) (decoded-bits ns ws is.1)

bytes_spelled : (ws : List Word) → bytes_of ws ≡ flat_map spelled (map encoded ws)
bytes_spelled [] = refl
bytes_spelled (w ∷ ws) = ap (λ bs. spelled (encoded w) ++ bs) (bytes_spelled ws)

pub none_over : (ns : List ℕ) → left_over (flat_map spelled ns) ≡ []
none_over [] = refl
none_over (n ∷ ns) = none_over ns

module _ (bytes : List ℕ) where
  -- the words and the bytes left over of a file
  module _ (plan : Contents) (bookings : List Booking) (f : Fileable plan bookings) (is : bytes ≡ file_of plan bookings) where
    abbrev ws : List Word
    ws = file_words plan bookings

    spells : bytes ≡ flat_map spelled (map encoded ws)
    spells = is ∙ bytes_spelled ws

    fit : AllByRecursion FieldsFit ws
    fit = file_words_fit plan bookings (makes_itself plan f.made) f.held

    has_words : AllDecoded (words_of bytes) (map Some ws)
    has_words =
        let bits : words_of bytes ≡ map encoded ws =
        ap words_of spells ∙ words_spelled (map encoded ws) (All-map (λ n. n < 2 ^ 32) encoded ws (All-weaker FieldsFit (λ w. encoded w < 2 ^ 32) encoded-below ws fit)) in
        subst (λ ns. AllDecoded ns (map Some ws)) (sym bits) (fit_decoded ws fit)

    pub over : left_over bytes ≡ []
    over = ap left_over spells ∙ none_over (map encoded ws)

    pub reads : (words : List (Option Word)) → AllDecoded (words_of bytes) words → (place : ℕ) → Gave plan bookings (reading beginning place words)
    reads words decoded place =
        subst (λ x. Gave plan bookings (reading beginning place x)) (all_decoded_once (words_of bytes) (map Some ws) words has_words decoded)
        (file_and_reading.reads_back plan bookings f place)

    pub faultless : (words : List (Option Word)) → AllDecoded (words_of bytes) words → file_fault words (length (left_over bytes)) ≡ None
    faultless words decoded =
        let r = reading beginning 0 words in
        let gave = reads words decoded 0 in
        ap (λ o. or_else o (end_fault r.standing (length words) (length (left_over bytes)))) gave.no_fault
        ∙ ap (λ bs. end_fault r.standing (length words) (length bs)) over
        ∙ ap (λ b. cond (b && true) None (Some (record { layer = FILE; number = 11; place = length words }))) gave.ends

  -- stopped at a word
  module _ (fault : ReadFault) (later : List Booking) (end : Standing) (block : BlockRead beginning 0 (words_of bytes) [] (Err fault) later end) where
    abbrev others : List (Option Word)
    others = (all_decode block.rest).0

    all_words : AllDecoded (words_of bytes) (block.words ++ others)
    all_words =
        subst (λ ns. AllDecoded ns (block.words ++ others)) (sym block.split)
        (decoded-append block.front block.rest block.words others block.decoded (all_decode block.rest).1)

    pub stopped_back : (plan : Contents) (bookings : List Booking) → Fileable plan bookings → bytes ≡ file_of plan bookings → told fault ≡ None
    stopped_back plan bookings f is =
        sym block.left.faulty ∙ front_clean block.words others (reads plan bookings f is (block.words ++ others) all_words 0).no_fault

    pub stopped_tells : {X : Type 0} → TellsFirst {X = X} bytes (Err fault)
    stopped_tells = record {
      words = block.words ++ others;
      decoded = all_words;
      tells = λ some. go (told fault) block.left.faulty some;
    }
      where
        go : (o : Option Told) → (reading beginning 0 block.words).fault ≡ o → is_some o ≡ true
            → o ≡ file_fault (block.words ++ others) (length (left_over bytes))
        go None e some = absurd (false≢true some)
        go (Some t) e some =
            let r = reading beginning 0 (block.words ++ others) in
            sym (ap (λ o. or_else o (end_fault r.standing (length (block.words ++ others)) (length (left_over bytes))))
            (ap (λ x. x.fault) (stops block.words others beginning 0 t e) ∙ e))

  -- read to the end
  module _ (bookings : List Booking) (end : Standing) (block : BlockRead beginning 0 (words_of bytes) [] (Ok tt) bookings end) where
    abbrev r : Reading
    r = reading beginning 0 block.words

    decoded-all : AllDecoded (words_of bytes) block.words
    decoded-all =
        subst (λ ns. AllDecoded ns block.words)
        (sym (block.split ∙ ap (λ rest. block.front ++ rest) (block.whole refl) ∙ append-nil block.front)) block.decoded

    -- the end as the program judges it
    abbrev judged_end : Option Told
    judged_end = end_fault end (length bytes / 4) (length bytes % 4)

    end_is : judged_end ≡ file_fault block.words (length (left_over bytes))
    end_is =
        let many : length bytes / 4 ≡ length block.words = sym (length-words bytes) ∙ sym (length-decoded (words_of bytes) block.words decoded-all) in
        ap (λ st. end_fault st (length bytes / 4) (length bytes % 4)) block.left.stands
        ∙ ap (λ n. end_fault r.standing n (length bytes % 4)) many
        ∙ ap (end_fault r.standing (length block.words)) (sym (length-left_over bytes))
        ∙ ap (λ o. or_else o (end_fault r.standing (length block.words) (length (left_over bytes)))) (sym block.left.faulty)

    pub ended_tells : {X : Type 0} (fault : ReadFault) → told fault ≡ judged_end → TellsFirst {X = X} bytes (Err fault)
    ended_tells fault tells = record { words = block.words; decoded = decoded-all; tells = λ _. tells ∙ end_is }

    pub ended_back : (fault : ReadFault) → told fault ≡ judged_end
        → (plan : Contents) (bs : List Booking) → Fileable plan bs → bytes ≡ file_of plan bs → told fault ≡ None
    ended_back fault tells plan bs f is = tells ∙ end_is ∙ faultless plan bs f is block.words decoded-all

    -- the file may end here
    module _ (plan : Contents) (planned : plan ≡ end.plan) (fine : judged_end ≡ None) where
      pub taken_tells : {X : Type 0} (x : X) → TellsFirst bytes (Ok x)
      taken_tells x = record { words = block.words; decoded = decoded-all; tells = sym end_is ∙ fine }

      ends : (may_end end.phase ≡ true) × (eqb (length bytes % 4) 0 ≡ true)
      ends = may_end_parts (may_end end.phase) (eqb (length bytes % 4) 0) (record { layer = FILE; number = 11; place = length bytes / 4 }) fine

      gave : Gave plan bookings r
      gave = record {
        no_fault = block.left.faulty;
        ends = ap (λ st. may_end st.phase) (sym block.left.stands) ∙ ends.0;
        planned = ap (λ st. st.plan) (sym block.left.stands) ∙ sym planned;
        booked = sym block.left.booked;
      }

      pub taken_back : (p : Contents) (bs : List Booking) → Fileable p bs → bytes ≡ file_of p bs → (plan ≡ p) × (bookings ≡ bs)
      taken_back p bs f is =
          let also = reads p bs f is block.words decoded-all 0 in
          (sym gave.planned ∙ also.planned, sym gave.booked ∙ also.booked)

      pub taken_file : AllByRecursion (λ b. b < 2 ^ 8) bytes → bytes ≡ file_of plan bookings
      taken_file small =
          let ws : List Word = file_words plan bookings in
          let bits : words_of bytes ≡ map encoded ws =
          decoded-bits (words_of bytes) ws (subst (AllDecoded (words_of bytes)) (is_file plan bookings block.words 0 gave) decoded-all) in
          let none : left_over bytes ≡ [] = nil_from_length (left_over bytes) (length-left_over bytes ∙ eqb-true (length bytes % 4) 0 ends.1) in
          sym (spelled_words bytes small) ∙ ap (λ rest. flat_map spelled (words_of bytes) ++ rest) none
          ∙ append-nil (flat_map spelled (words_of bytes)) ∙ ap (flat_map spelled) bits ∙ sym (bytes_spelled ws)

      pub taken_fileable : is_well_made plan ≡ true → Fileable plan bookings
      taken_fileable made =
          let h = held (words_of bytes) block.words decoded-all beginning 0 tt in record {
            made = made;
            full = ap (λ p. is_full p) (sym gave.planned) ∙ full_at_end r.standing.phase r.standing.plan gave.ends h.0;
            held = subst (AllByRecursion Holdable) gave.booked h.1;
          }

-- a block that was read from the start of a file
pub from_start : (bytes : List ℕ) (before : Standing) (earlier : List Booking) (r : Result (Unit {0}) ReadFault) (later : List Booking) (end : Standing)
    → before ≡ beginning → earlier ≡ [] → BlockRead before 0 (words_of bytes) earlier r later end → BlockRead beginning 0 (words_of bytes) [] r later end
from_start bytes before earlier r later end start none block =
    subst (λ bs. BlockRead beginning 0 (words_of bytes) bs r later end) none
    (subst (λ st. BlockRead st 0 (words_of bytes) earlier r later end) start block)
