-- The words of a file shown one by one, to its end or its first fault. Assumes nothing.
use Rattle.std.proofs.Common.{◌≡◌, ℕ, ◌≤◌, true, List, [], ◌∷◌, ◌++◌, length, take, is_some, Some, None, Ok, Err, Option, Result, sym, refl, ap, ◌∙◌, subst, append_assoc, append-nil, arith}
use Rattle.std.specs.Io.KnownBytes.{Appends}
use Rattle.std.specs.List.{flat_map}
use Rattle.std.specs.Option.{ForSome, option_to_list}
use Rattle.std.specs.declared.io.Read.{Ghosts as Input}
use Rattle.std.proofs.KnownBytes.{Appends-nil, Appends-trans}
use Rattle.std.proofs.lemmas.Bool.{false≢true}
use Rattle.std.proofs.lemmas.List.{length-take-le, nil_from_length}
use Rattle.std.proofs.lemmas.Option.{none-some, same_Some}
use Rattle.lines.specs.Lines.{fault_line, record_line}
use Rattle.lines.specs.declared.record.Record.{Record}
use Rattle.input.specs.Blocks.{block_of}
use Rattle.input.specs.FileWords.{Ended, Gave, WordGiven, left_over as over_of, to_come}
use Rattle.input.specs.declared.file_words.FileWords.{FileWords}
use Rattle.input.proofs.Runs.{gave_bytes, gave_count, gave_fits, gave-push, numbered}
use Rattle.words.specs.Bytes.{last_number, left_over, number_at, spelled, words_of}
use Rattle.words.specs.declared.word.Word.{Word}
use Rattle.words.proofs.Spelling.{length-left_over, length-words}
use Rattle.monthfile.specs.declared.fault.ReadFault.{ReadFault}
use Rattle.monthfile.specs.declared.telling.Told.{Told}
use Rattle.monthfile.specs.Faults.{JudgedBits, blamed, told as told_by_reading}
use Rattle.monthfile.specs.File.{file_of}
use Rattle.monthfile.specs.Judging.{Standing, Verdict, Faulty, Taken, beginning, call_of, judge}
use Rattle.monthfile.specs.Reading.{AllDecoded, Reading, end_fault, ended, gone_on, preceded, reading}
use Rattle.monthfile.specs.Whole.{or_else}
use Rattle.monthfile.proofs.Entire.{all_decode, faultless, reads, stops}
use Rattle.monthfile.proofs.OneByOne.{decoded-append, length-decoded, read_after}
use Rattle.dumping.specs.Dumping.{Dumped, FileShown, IsJudged, Shown, fault_text, fault_told, lines_of}
use Rattle.dumping.specs.Faults.{told}
use Rattle.dumping.specs.Records.{WordTaken, completed, records_after, records_in}
use Rattle.dumping.specs.Stages.{WordShown}
use Rattle.dumping.specs.declared.fault.DumpFault.{DumpFault}
use Rattle.dumping.specs.declared.fault.DumpFault.TheVariants.{Reading as Refused}
use Rattle.dumping.proofs.Spelled.{last_known, others_known, over_last, words_first}
use Rattle.dumping.proofs.Following.{none_completed, records_follow, records_stop}
use Rattle.dumping.proofs.InOrder.{records_of_file}

lines-append : (records more : List Record) → lines_of (records ++ more) ≡ lines_of records ++ lines_of more
lines-append [] more = refl
lines-append (r ∷ records) more =
    ap (λ bs. (record_line r ++ 10 ∷ []) ++ bs) (lines-append records more)
    ∙ sym (append_assoc (record_line r ++ 10 ∷ []) (lines_of records) (lines_of more))

-- what tells nothing claims nothing
pub untold : (input before after : Option (List ℕ)) (fault : DumpFault) (last : List ℕ) → told fault ≡ None → Shown input before (Err fault) last after
untold input before after fault last none = go input
  where
    unjudged : {X : Type 0} → is_some (told fault) ≡ true → X
    unjudged judged = absurd (false≢true (ap is_some (sym none) ∙ judged))

    go : (input : Option (List ℕ)) → Shown input before (Err fault) last after
    go None =
        record { bytes = []; known = λ all is. absurd (none-some all is); words = []; decoded = tt; tells = unjudged; written = unjudged }
    go (Some bytes) =
        let all = all_decode (words_of bytes) in
        record { bytes = bytes; known = λ xs is. sym (same_Some bytes xs is); words = all.0; decoded = all.1; tells = unjudged; written = unjudged }

-- more is written after the lines
pub then_last : (input before middle after : Option (List ℕ)) (r : Result (Unit {0}) DumpFault) (last : List ℕ) → Shown input before r [] middle
    → (IsJudged r → Appends middle after last) → Shown input before r last after
then_last input before middle after r last shown more = record {
  bytes = shown.bytes;
  known = shown.known;
  words = shown.words;
  decoded = shown.decoded;
  tells = shown.tells;
  written =
      λ judged.
      let lines = lines_of (records_in beginning shown.words) in
      subst (λ bs. Appends before after (bs ++ last)) (append-nil lines)
      (Appends-trans before middle after (lines ++ []) last (shown.written judged) (more judged));
}

-- the fault's line comes last
pub fault_shown : (input before middle after : Option (List ℕ)) (fault : DumpFault) (t : Told) → told fault ≡ Some t
    → Shown input before (Err fault) [] middle → Appends middle after (fault_line t ++ 10 ∷ []) → Dumped input before (Err fault) after
fault_shown input before middle after fault t is shown line =
    then_last input before middle after (Err fault) (fault_text (told fault)) shown
    (λ judged. subst (λ o. Appends middle after (fault_text o)) (sym is) line)

judged_ok : (r : Result (Unit {0}) DumpFault) → IsJudged r → fault_told r ≡ None → r ≡ Ok tt
judged_ok (Ok done) judged none = refl
judged_ok (Err fault) judged none = absurd (false≢true (ap is_some (sym none) ∙ judged))

-- the file of a plan and bookings
pub file_shown : (input before : Option (List ℕ)) (r : Result (Unit {0}) DumpFault) (after : Option (List ℕ)) → Dumped input before r after → FileShown input before r after
file_shown input before r after shown plan bookings fileable is judged =
    let file : shown.bytes ≡ file_of plan bookings = sym (shown.known (file_of plan bookings) is) in
    let none : fault_told r ≡ None = shown.tells judged ∙ faultless shown.bytes plan bookings fileable file shown.words shown.decoded in
    let records = records_of_file plan bookings shown.words 0 (reads shown.bytes plan bookings fileable file shown.words shown.decoded 0) in
    let lines = lines_of (records_in beginning shown.words) in (
      judged_ok r judged none,
      subst (Appends before after) (ap (λ o. lines ++ fault_text o) none ∙ append-nil lines ∙ ap lines_of records) (shown.written judged),
    )

-- a word that is refused with a fault that is told stops the reading
refused_tells : (at : Standing) (place : ℕ) (word : Option Word) (fault : ReadFault) (after : Standing) (t : Told)
    → JudgedBits at place word (Err fault) after → told_by_reading fault ≡ Some t → (reading at place (word ∷ [])).fault ≡ Some t
refused_tells at place None fault after t (tells, same) is = sym tells ∙ is
refused_tells at place (Some word) fault after t (tells, same) is = go (judge at word) (sym tells ∙ is)
  where
    go : (v : Verdict) → blamed place v ≡ Some t → (gone_on at place v (λ st. reading st (number_at place 1) [])).fault ≡ Some t
    go (Faulty layer number) e = e
    go (Taken then brought) e = absurd (none-some t e)

-- what is written for one word
module _ (at : Standing) (place bits : ℕ) (after : Standing) where
  pub line_shown : (taken : Option Record) (found : Record) (earlier later : Option (List ℕ)) → WordTaken at place bits (Ok taken) after → taken ≡ Some found
      → Appends earlier later (record_line found ++ 10 ∷ []) → WordShown at place bits earlier (Ok tt) after later
  line_shown taken found earlier later word is line = (
    taken,
    word,
    subst (Appends earlier later) (sym (append-nil (record_line found ++ 10 ∷ [])) ∙ ap (λ t. lines_of (option_to_list t)) (sym is)) line,
  )

  pub none_completed_shown : (taken : Option Record) (earlier : Option (List ℕ)) → WordTaken at place bits (Ok taken) after → taken ≡ None
      → WordShown at place bits earlier (Ok tt) after earlier
  none_completed_shown taken earlier word is =
      (taken, word, subst (λ t. Appends earlier earlier (lines_of (option_to_list t))) (sym is) (Appends-nil earlier))

  pub refused_shown : (fault : ReadFault) (earlier : Option (List ℕ)) → place ≤ last_number → WordTaken at place bits (Err fault) after
      → WordShown at place bits earlier (Err (Refused fault)) after earlier
  refused_shown fault earlier small (word, decoded, refused) t is = (word, decoded, refused_tells at place word fault after t refused is, small, refl)

module _ {R : Type 0} {input : Input R} (begun : FileWords R input) (earlier : Option (List ℕ)) where
  -- what has been shown: the words so far, which are taken with no fault, and the lines of their records
  pub record SoFar (file : FileWords R input) (standing : Standing) (now : Option (List ℕ)) : Type 0 where
    pub bits : List ℕ
    pub gave : Gave begun bits file
    pub words : List (Option Word)
    pub decoded : AllDecoded bits words
    pub clean : (reading beginning 0 words).fault ≡ None
    pub stands : (reading beginning 0 words).standing ≡ standing
    pub written : Appends earlier now (lines_of (records_in beginning words))

  pub none_shown : (standing : Standing) → standing ≡ beginning → SoFar begun standing earlier
  none_shown standing is = record {
    bits = [];
    gave = refl;
    words = [];
    decoded = tt;
    clean = refl;
    stands = sym is;
    written = Appends-nil earlier;
  }

  module _ (file after : FileWords R input) (at then : Standing) (now : Option (List ℕ)) (so_far : SoFar file at now) where
    abbrev read : Reading
    read = reading beginning 0 so_far.words

    abbrev number : ℕ
    number = number_at 0 (length so_far.words)

    -- a word more is read from where the reader stands
    more_read : (word : Option Word) → (reading beginning 0 (so_far.words ++ word ∷ [])).fault ≡ (reading at number (word ∷ [])).fault
    more_read word =
        ap (λ x. x.fault) (read_after beginning 0 so_far.words (word ∷ []) (omega arith) so_far.clean)
        ∙ ap (λ st. (reading st number (word ∷ [])).fault) so_far.stands

    -- and its record comes after theirs
    more_records : (word : Option Word) → records_in beginning (so_far.words ++ word ∷ []) ≡ records_in beginning so_far.words ++ records_in at (word ∷ [])
    more_records word =
        records_follow beginning 0 so_far.words (word ∷ []) so_far.clean
        ∙ ap (λ st. records_in beginning so_far.words ++ records_in st (word ∷ [])) so_far.stands

    -- one word more
    module _ (entry : ℕ × ℕ) (next : WordGiven file entry after) where
      pub one_more : (later : Option (List ℕ)) → WordShown at entry.0 entry.1 now (Ok tt) then later → SoFar after then later
      one_more later (taken, (word, brought, decoded, judged, is), added) =
          let whole = read_after beginning 0 so_far.words (Some word ∷ []) (omega arith) so_far.clean in
          let one : reading at number (Some word ∷ []) ≡ preceded brought (ended then None) =
          ap (λ v. gone_on at number v (λ st. reading st (number_at number 1) [])) judged in
          let record_of : records_in at (Some word ∷ []) ≡ option_to_list taken =
          ap (λ v. records_after (call_of at.phase word) v (λ st. records_in st [])) judged
          ∙ append-nil (option_to_list (completed (call_of at.phase word) brought)) ∙ ap option_to_list (sym is) in
          let records : records_in beginning (so_far.words ++ Some word ∷ []) ≡ records_in beginning so_far.words ++ option_to_list taken =
          more_records (Some word) ∙ ap (λ rs. records_in beginning so_far.words ++ rs) record_of in
          record {
            bits = so_far.bits ++ entry.1 ∷ [];
            gave = gave-push so_far.bits begun file after entry so_far.gave next;
            words = so_far.words ++ Some word ∷ [];
            decoded = decoded-append so_far.bits (entry.1 ∷ []) so_far.words (Some word ∷ []) so_far.decoded (decoded, tt);
            clean = more_read (Some word) ∙ ap (λ x. x.fault) one;
            stands =
                ap (λ x. x.standing) whole ∙ ap (λ st. (reading st number (Some word ∷ [])).standing) so_far.stands
                ∙ ap (λ x. x.standing) one;
            written =
                subst (Appends earlier later)
                (sym (lines-append (records_in beginning so_far.words) (option_to_list taken)) ∙ ap lines_of (sym records))
                (Appends-trans earlier now later _ _ so_far.written added);
          }

      -- a word that is refused
      pub word_refused : (fault : DumpFault) (later : Option (List ℕ)) → begun.number ≡ 0 → WordShown at entry.0 entry.1 now (Err fault) then later
          → Shown (to_come begun) earlier (Err fault) [] later
      word_refused fault later first refused = go (told fault) refl
        where
          go : (o : Option Told) → told fault ≡ o → Shown (to_come begun) earlier (Err fault) [] later
          go None e = untold (to_come begun) earlier later fault [] e
          go (Some t) e =
              let one = refused t e in
              let word : Option Word = one.0 in
              let words : List (Option Word) = so_far.words ++ word ∷ [] in
              let bits : List ℕ = so_far.bits ++ entry.1 ∷ [] in
              let gave : Gave begun bits after = gave-push so_far.bits begun file after entry so_far.gave next in
              let place : entry.0 ≡ number =
              omega (arith, one.3, numbered file after entry next, gave_count so_far.bits begun file so_far.gave, first, length-decoded so_far.bits so_far.words so_far.decoded) in
              let here : (reading at number (word ∷ [])).fault ≡ Some t =
              ap (λ n. (reading at n (word ∷ [])).fault) (sym place) ∙ one.2 in
              let faulty : (reading beginning 0 words).fault ≡ Some t = more_read word ∙ here in
              let rest = others_known (to_come begun) (to_come after) (flat_map spelled bits) (gave_bytes bits begun after gave) in
              let others = all_decode (words_of rest.0) in
              let all : List ℕ = flat_map spelled bits ++ rest.0 in
              let records : records_in beginning (words ++ others.0) ≡ records_in beginning so_far.words =
              records_stop beginning 0 words others.0 t faulty ∙ more_records word
              ∙ ap (λ rs. records_in beginning so_far.words ++ rs) (none_completed at number word t here) ∙ append-nil (records_in beginning so_far.words) in
              record {
                bytes = all;
                known = rest.1;
                words = words ++ others.0;
                decoded =
                    subst (λ ns. AllDecoded ns (words ++ others.0)) (sym (words_first bits rest.0 (gave_fits bits begun after gave)))
                    (decoded-append bits (words_of rest.0) words others.0
                    (decoded-append so_far.bits (entry.1 ∷ []) so_far.words (word ∷ []) so_far.decoded (one.1, tt)) others.1);
                tells =
                    λ judged.
                    e
                    ∙ sym (ap (λ o. or_else o (end_fault (reading beginning 0 (words ++ others.0)).standing (length (words ++ others.0)) (length (left_over all))))
                    (ap (λ x. x.fault) (stops words others.0 beginning 0 t faulty) ∙ faulty));
                written =
                    λ judged.
                    subst (λ o. Appends earlier o (lines_of (records_in beginning (words ++ others.0)) ++ [])) (sym one.4)
                    (subst (Appends earlier now) (sym (append-nil (lines_of (records_in beginning so_far.words))) ∙ ap (λ rs. lines_of rs ++ []) (sym records)) so_far.written);
              }

    -- the file's end
    pub end_reached : (r : Result (Unit {0}) DumpFault) (place over : ℕ) → begun.number ≡ 0 → Ended file after
        → place ≡ after.number → over ≡ over_of after → fault_told r ≡ end_fault at place over → Shown (to_come begun) earlier r [] now
    end_reached r place over first end counted_words counted_over tells =
        let some : List ℕ = take (over_of after) (block_of after.blocks) in
        let counted : length some ≡ over_of after = length-take-le (over_of after) (block_of after.blocks) (omega arith) in
        let rest : (rest : List ℕ) × (length rest ≡ length some) × ForSome (to_come begun) (λ all. all ≡ flat_map spelled so_far.bits ++ rest) =
        last_known (to_come begun) (to_come file) (flat_map spelled so_far.bits) some (gave_bytes so_far.bits begun file so_far.gave)
        (λ bytes is. end.rest bytes is ∙ sym counted) in
        let long : length rest.0 ≡ over_of after = rest.1 ∙ counted in
        let none : words_of rest.0 ≡ [] = nil_from_length (words_of rest.0) (omega (arith, length-words rest.0, long)) in
        let all : List ℕ = flat_map spelled so_far.bits ++ rest.0 in
        let same_over : over ≡ length (left_over all) =
        counted_over ∙ omega (arith, length-left_over rest.0, long) ∙ ap length (sym (over_last so_far.bits rest.0)) in
        let same_place : place ≡ length so_far.words =
        omega (arith, counted_words, end.stays, gave_count so_far.bits begun file so_far.gave, first, length-decoded so_far.bits so_far.words so_far.decoded) in
        record {
          bytes = all;
          known = rest.2;
          words = so_far.words;
          decoded =
              subst (λ ns. AllDecoded ns so_far.words)
              (sym (words_first so_far.bits rest.0 (gave_fits so_far.bits begun file so_far.gave) ∙ ap (λ ws. so_far.bits ++ ws) none ∙ append-nil so_far.bits))
              so_far.decoded;
          tells =
              λ judged.
              tells ∙ ap (λ st. end_fault st place over) (sym so_far.stands) ∙ ap (λ n. end_fault read.standing n over) same_place
              ∙ ap (end_fault read.standing (length so_far.words)) same_over
              ∙ ap (λ o. or_else o (end_fault read.standing (length so_far.words) (length (left_over all)))) (sym so_far.clean);
          written =
              λ judged. subst (Appends earlier now) (sym (append-nil (lines_of (records_in beginning so_far.words)))) so_far.written;
        }
