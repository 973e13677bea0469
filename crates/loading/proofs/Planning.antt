-- The plan's words, one by one. Assumes nothing.
use Rattle.std.proofs.Common.{◌≡◌, ℕ, ◌+◌, true, List, [], ◌∷◌, ◌++◌, length, Some, None, Ok, Err, Option, sym, refl, ap, ◌∙◌, subst, arith}
use Rattle.std.specs.Option.{option_or}
use Rattle.std.proofs.lemmas.Bool.{false≢true}
use Rattle.std.proofs.lemmas.List.{append-nil}
use Rattle.std.proofs.lemmas.Option.{none-some, same_Some}
use Rattle.std.specs.declared.io.Read.{Ghosts as Input}
use Rattle.words.specs.Layout.{Decoded}
use Rattle.words.specs.declared.word.Word.{Word}
use Rattle.input.specs.FileWords.{Ended, NoneGiven, WordGiven, left_over}
use Rattle.input.specs.declared.file_words.FileWords.{FileWords}
use Rattle.input.proofs.Runs.{none_given-counts, gave_count, gave-push, numbered}
use Rattle.monthfile.specs.Faults.{Stepped, blamed, told as told_by_reading}
use Rattle.monthfile.specs.Judging.{Standing, Verdict, Faulty, Taken, beginning, judge}
use Rattle.monthfile.specs.Reading.{end_fault}
use Rattle.monthfile.specs.declared.brought.Brought.{Brought}
use Rattle.monthfile.specs.declared.brought.Brought.TheVariants.{Nothing, Opening, Offtake}
use Rattle.monthfile.specs.declared.fault.ReadFault.{ReadFault}
use Rattle.monthfile.specs.declared.telling.Layer.{Layer}
use Rattle.monthfile.specs.declared.telling.Layer.TheVariants.{File as FILE}
use Rattle.monthfile.specs.declared.telling.Told.{Told}
use Rattle.monthfile.proofs.OneByOne.{decoded-append, length-decoded}
use Rattle.loading.specs.Faults.{is_transfer, told}
use Rattle.loading.specs.Layers.{end_tells, opening_tells, reading_of, verdict_fault, word_fault}
use Rattle.loading.specs.Stages.{EndRead, Given, PlanStopped, PlanWords, SelectRead}
use Rattle.loading.specs.declared.fault.LoadFault.{LoadFault}
use Rattle.loading.specs.declared.fault.LoadFault.TheVariants.{Reading}
use Rattle.loading.proofs.Layered.{none_refused_nil, none_refused_push, pushed}
use Rattle.loading.proofs.Staged.{plan_step}

-- one word more that the file gives
pub given-push : {R : Type 0} {input : Input R} (before middle after : FileWords R input) (words : List (Option Word)) (entry : ℕ × ℕ) (word : Option Word) →
    Given before words middle →
    WordGiven middle entry after →
    Decoded entry.1 word →
    Given before (words ++ word ∷ []) after
given-push before middle after words entry word given next decoded = record {
  bits = given.bits ++ entry.1 ∷ [];
  gave = gave-push given.bits before middle after entry given.gave next;
  decoded = decoded-append given.bits (entry.1 ∷ []) words (word ∷ []) given.decoded (decoded, tt);
}

-- the same words, and none beside them
pub given-nil : {R : Type 0} {input : Input R} (before after : FileWords R input) (words : List (Option Word)) → Given before words after → Given before (words ++ []) after
given-nil before after words given = subst (λ ws. Given before ws after) (sym (append-nil words)) given

-- the number of the next word
pub given-count : {R : Type 0} {input : Input R} (before after : FileWords R input) (words : List (Option Word)) →
    Given before words after →
    after.number ≡ before.number + length words
given-count before after words given =
    omega (arith, gave_count given.bits before after given.gave, length-decoded given.bits words given.decoded)

-- a word that is refused leaves the reader where it stood
pub stays_refused : (at after : Standing) (place bits : ℕ) (fault : ReadFault) → Stepped at place bits (Err fault) after → after ≡ at
stays_refused at after place bits fault (None, decoded, (tells, same)) = same
stays_refused at after place bits fault (Some word, decoded, (tells, same)) = same

-- the end as the program asks for it
pub end_asked : (at : Standing) (place words over left : ℕ) → words ≡ place → left ≡ over → end_fault at words left ≡ end_fault at place over
end_asked at place words over left p o = ap (λ n. end_fault at n left) p ∙ ap (end_fault at place) o

-- what a fault tells, by its parts
pub told_parts : (layer : Layer) (number place : ℕ) (t : Told) →
    Some (record { layer = layer; number = number; place = place }) ≡ Some t →
    (◌≡◌ {A = Option (Layer × ℕ)} (Some (layer, number)) (Some (t.layer, t.number))) × (t.place ≡ place)
told_parts layer number place t is =
    let same : record { layer = layer; number = number; place = place } ≡ t = same_Some _ _ is in
    (ap (λ (x : Told). Some (x.layer, x.number)) same, ap (λ (x : Told). x.place) (sym same))

-- what FILE and PLAN tell of a word, all layers tell
pub tells_word : (joins : ℕ → ℕ → ℕ → ℕ) (words : List (Option Word)) (at : Standing) (place bits : ℕ) (fault : ReadFault) (after : Standing) →
    ((word : Word) (layer : Layer) (number : ℕ) → judge at word ≡ Faulty layer number → judge (reading_of words).standing word ≡ Faulty layer number) →
    (stepped : Stepped at place bits (Err fault) after) →
    (t : Told) →
    told_by_reading fault ≡ Some t →
    (word_fault joins words stepped.0 ≡ Some (t.layer, t.number)) × (t.place ≡ place)
tells_word joins words at place bits fault after faulty (None, decoded, (tells, same)) t is = told_parts FILE 1 place t (sym tells ∙ is)
tells_word joins words at place bits fault after faulty (Some word, decoded, (tells, same)) t is =
    go (judge at word) refl (sym tells ∙ is)
  where
    go : (v : Verdict) → judge at word ≡ v → blamed place v ≡ Some t →
        (word_fault joins words (Some word) ≡ Some (t.layer, t.number)) × (t.place ≡ place)
    go (Faulty layer number) e b =
        let parts = told_parts layer number place t b in
        (ap (verdict_fault joins (reading_of words).bookings) (faulty word layer number e) ∙ parts.0, parts.1)
    go (Taken st brought) e b = absurd (none-some _ b)

-- where nothing is told of a word, FILE and PLAN take it
pub wants_word : (words : List (Option Word)) (at : Standing) (place bits : ℕ) (fault : ReadFault) (after : Standing) →
    (reading_of words).fault ≡ None →
    ((word : Word) (then : Standing) (brought : Brought) →
    judge at word ≡ Taken then brought →
    (st : Standing) × (judge (reading_of words).standing word ≡ Taken st brought)) →
    (stepped : Stepped at place bits (Err fault) after) →
    told_by_reading fault ≡ None →
    (reading_of (words ++ stepped.0 ∷ [])).fault ≡ None
wants_word words at place bits fault after clean taken (None, decoded, (tells, same)) none = absurd (none-some _ (sym none ∙ tells))
wants_word words at place bits fault after clean taken (Some word, decoded, (tells, same)) none =
    go (judge at word) refl (sym none ∙ tells)
  where
    go : (v : Verdict) → judge at word ≡ v → None ≡ blamed place v → (reading_of (words ++ Some word ∷ [])).fault ≡ None
    go (Faulty layer number) e b = absurd (none-some _ b)
    go (Taken then brought) e b = let t = taken word then brought e in (pushed words word t.0 brought clean t.1).clean

-- what FILE tells of the end, all layers tell
pub tells_end : (joins : ℕ → ℕ → ℕ → ℕ) (words : List (Option Word)) (at : Standing) (place over : ℕ) (t : Told) →
    (reading_of words).standing ≡ at →
    end_fault at place over ≡ Some t →
    end_tells joins words place over ≡ Some t
tells_end joins words at place over t stands e =
    ap (λ o. option_or o (opening_tells joins (reading_of words).standing place))
    (ap (λ st. end_fault st place over) stands ∙ e)

plan_none : PlanWords [] beginning
plan_none = record {
  clean = refl;
  stands = refl;
  none_booked = refl;
  none_refused = none_refused_nil;
  planning = refl;
}

plan_push : (words : List (Option Word)) (at : Standing) (word : Word) (after : Standing) →
    PlanWords words at →
    judge at word ≡ Taken after Nothing →
    PlanWords (words ++ Some word ∷ []) after
plan_push words at word after p e =
    let here : judge (reading_of words).standing word ≡ Taken after Nothing = ap (λ st. judge st word) p.stands ∙ e in
    let more = pushed words word after Nothing p.clean here in
    record {
      clean = more.clean;
      stands = more.stands;
      none_booked = more.booked ∙ append-nil (reading_of words).bookings ∙ p.none_booked;
      none_refused = λ joins.
          none_refused_push joins words (Some word) (p.none_refused joins) (ap (verdict_fault joins (reading_of words).bookings) here);
      planning = plan_step at word after Nothing p.planning e;
    }

module _ {R : Type 0} {input : Input R} (before : FileWords R input) where
  -- the plan's words so far
  abbrev pub PlanSoFar : FileWords R input → Standing → Type 0
  PlanSoFar file standing = (words : List (Option Word)) × Given before words file × PlanWords words standing

  pub plan_begun : (standing : Standing) → standing ≡ beginning → PlanSoFar before standing
  plan_begun standing e = ([], record { bits = []; gave = refl; decoded = tt }, subst (PlanWords []) (sym e) plan_none)

  -- the input failed
  pub plan_failed : (file after : FileWords R input) (at : Standing) (fault : LoadFault) →
      PlanSoFar file at →
      NoneGiven file after →
      is_transfer fault ≡ true →
      told fault ≡ None →
      PlanStopped before after at fault
  plan_failed file after at fault (words, given, planned) failed transfer none = record {
    taken = words;
    others = [];
    reached = file;
    given = given-nil before file words given;
    counts = none_given-counts file after failed;
    planned = planned;
    tells = λ joins t is. absurd (none-some _ (sym none ∙ is));
    fails = λ is. (refl, failed);
    wants = λ other. absurd (false≢true (sym other ∙ transfer));
  }

  module _ (file after : FileWords R input) (at then : Standing) (so_far : PlanSoFar file at) where
    -- one word more
    module _ (entry : ℕ × ℕ) (next : WordGiven file entry after) where
      pub plan_more : (brought : Brought) →
          Stepped at entry.0 entry.1 (Ok brought) then →
          (brought ≡ Opening → ⊥) →
          PlanSoFar after then
      plan_more brought (None, decoded, never) other = absurd never
      plan_more Nothing (Some word, decoded, e) other = (
        so_far.0 ++ Some word ∷ [],
        given-push before file after so_far.0 entry (Some word) so_far.1 next decoded,
        plan_push so_far.0 at word then so_far.2 e,
      )
      plan_more Opening (Some word, decoded, e) other = absurd (other refl)
      plan_more (Offtake b) (Some word, decoded, e) other = absurd (plan_step at word then (Offtake b) so_far.2.planning e)

      pub select_read : Stepped at entry.0 entry.1 (Ok Opening) then → SelectRead before after then entry.0
      select_read (None, decoded, never) = absurd never
      select_read (Some word, decoded, e) = record {
        words = so_far.0;
        word = word;
        at = at;
        given = given-push before file after so_far.0 entry (Some word) so_far.1 next decoded;
        planned = so_far.2;
        opens = e;
        placed = numbered file after entry next ∙ given-count before file so_far.0 so_far.1;
      }

      pub plan_refused : (fault : ReadFault) → Stepped at entry.0 entry.1 (Err fault) then → PlanStopped before after then (Reading fault)
      plan_refused fault stepped = record {
        taken = so_far.0;
        others = stepped.0 ∷ [];
        reached = after;
        given = given-push before file after so_far.0 entry stepped.0 so_far.1 next stepped.1;
        counts = refl;
        planned = subst (PlanWords so_far.0) (sym (stays_refused at then entry.0 entry.1 fault stepped)) so_far.2;
        tells = λ joins t is.
            let told = tells_word joins so_far.0 at entry.0 entry.1 fault then (λ word layer number e. ap (λ st. judge st word) so_far.2.stands ∙ e) stepped t is in
            (told.0, told.1 ∙ numbered file after entry next ∙ given-count before file so_far.0 so_far.1);
        fails = λ is. absurd (false≢true is);
        wants = λ other.
            wants_word so_far.0 at entry.0 entry.1 fault then so_far.2.clean
            (λ word st brought e. (st, ap (λ x. judge x word) so_far.2.stands ∙ e)) stepped;
      }

    -- the file's end
    module _ (ended : Ended file after) where
      pub plan_ended : end_fault at after.number (left_over after) ≡ None → EndRead before after at
      plan_ended fine = record {
        words = so_far.0;
        reached = file;
        given = so_far.1;
        ended = ended;
        planned = so_far.2;
        fine = fine;
      }

      pub plan_cut_short : (fault : ReadFault) →
          told_by_reading fault ≡ end_fault at after.number (left_over after) →
          PlanStopped before after at (Reading fault)
      plan_cut_short fault tells = record {
        taken = so_far.0;
        others = [];
        reached = file;
        given = given-nil before file so_far.0 so_far.1;
        counts = ended.stays;
        planned = so_far.2;
        tells = λ joins t is.
            (ended, tells_end joins so_far.0 at after.number (left_over after) t so_far.2.stands (sym tells ∙ is));
        fails = λ is. absurd (false≢true is);
        wants = λ other none.
            (ended, ap (λ st. end_fault st after.number (left_over after)) so_far.2.stands ∙ sym tells ∙ none);
      }
