-- A whole file: its plan's words, the opening, and its bookings' words. Assumes nothing.
use Rattle.std.proofs.Common.{◌≡◌, ℕ, true, eqb, List, [], ◌∷◌, ◌++◌, map, Some, None, Ok, Err, Option, Result, sym, refl, ap, ◌∙◌, subst, append_assoc, arith, length-append}
use Rattle.std.specs.Option.{ForSome, option_map, option_or}
use Rattle.std.specs.Prelude.{MatchResult}
use Rattle.std.proofs.lemmas.List.{append-nil}
use Rattle.std.proofs.lemmas.List.Folds.{flat_map-map}
use Rattle.std.proofs.lemmas.Option.{none-some}
use Rattle.std.proofs.lemmas.Bool.{cond-false, eqb-true, false≢true}
use Rattle.std.proofs.lemmas.Result.{MatchResult-at_err, MatchResult-at_ok}
use Rattle.std.specs.declared.io.Read.{Ghosts as Input}
use Rattle.plan.specs.Contents.{Contents}
use Rattle.plan.specs.OfPlan.{contents}
use Rattle.plan.specs.WellMade.{is_well_made}
use Rattle.plan.specs.declared.booking.Booking.{Booking}
use Rattle.plan.specs.declared.plan.Plan.{Plan}
use Rattle.weights.specs.declared.source.WeightSource.{Ghosts as Source}
use Rattle.words.specs.Bytes.{spelled}
use Rattle.words.specs.Layout.{encoded}
use Rattle.words.specs.declared.word.Word.{Word}
use Rattle.input.specs.FileWords.{Ended, Gave, left_over, to_come}
use Rattle.input.specs.declared.file_words.FileWords.{FileWords}
use Rattle.input.proofs.Runs.{all_given, gave-append, gave_bytes}
use Rattle.month.specs.Faults.{opening_number_of}
use Rattle.month.specs.OfMonth.{NotOpened, SourcesLeft, source_joins, state_of, terms_of}
use Rattle.month.specs.Opening.{RefusesOpening, opening_refusal}
use Rattle.month.specs.Stands.{Stands, State}
use Rattle.month.specs.Terms.{Terms}
use Rattle.month.specs.declared.fault.OpeningFault.{OpeningFault}
use Rattle.month.specs.declared.fault.OpeningFault.TheVariants.{NotFull, Peak, Memory}
use Rattle.month.specs.declared.month.Month.{Month}
use Rattle.month.specs.declared.open.Open.{Open}
use Rattle.month.specs.declared.opening.Unopened.{Unopened}
use Rattle.month.specs.declared.sources.Sources.{Sources}
use Rattle.monthfile.specs.File.{bytes_of, file_words}
use Rattle.monthfile.specs.Judging.{beginning, Standing, Taken, judge}
use Rattle.monthfile.specs.Reading.{AllDecoded, end_fault, may_end}
use Rattle.monthfile.specs.declared.brought.Brought.TheVariants.{Opening}
use Rattle.monthfile.specs.declared.fault.Placed.{Placed}
use Rattle.monthfile.specs.declared.telling.Layer.{Layer}
use Rattle.monthfile.specs.declared.telling.Layer.TheVariants.{File as FILE, Plan as PLAN}
use Rattle.monthfile.specs.declared.telling.Told.{Told}
use Rattle.monthfile.proofs.Backward.{is_file}
use Rattle.monthfile.proofs.Entire.{decoded-bits, may_end_parts}
use Rattle.monthfile.proofs.Held.{full_at_end, held}
use Rattle.monthfile.proofs.OneByOne.{decoded-append}
use Rattle.loading.specs.Faults.{told}
use Rattle.loading.specs.Layers.{brought_fault, has_opened, opening_tells, reading_of, terms_by, verdict_fault, word_fault}
use Rattle.loading.specs.Left.{stopped_by}
use Rattle.loading.specs.Loading.{LeftBy, Loaded, Loads, StoppedBy, TellsOf}
use Rattle.loading.specs.Stages.{BooksAt, BooksEnded, BooksStopped, EndRead, Given, Opens, PlanStopped, PlanWords, RestBooked, SelectRead}
use Rattle.loading.specs.declared.fault.LoadFault.{LoadFault}
use Rattle.loading.specs.declared.fault.LoadFault.TheVariants.{Opening as Refused}
use Rattle.loading.specs.declared.left.Left.TheVariants.{Planned, Opened}
use Rattle.loading.specs.declared.left.Stopped.{Stopped}
use Rattle.loading.proofs.Layered.{none_refused_push, pushed}
use Rattle.loading.proofs.Planning.{given-count, told_parts}
use Rattle.loading.proofs.Staged.{plan_step}

-- what a refused opening tells
pub opening_told : (terms : Terms) (fault : OpeningFault) (place : ℕ) (t : Told) →
    RefusesOpening terms fault →
    option_map (λ number. record { layer = PLAN; number = number; place = place }) (opening_number_of fault) ≡ Some t →
    option_map (λ number. record { layer = PLAN; number = number; place = place }) (opening_refusal terms) ≡ Some t
opening_told terms NotFull place t refuses is = ap (option_map (λ number. record { layer = PLAN; number = number; place = place })) refuses ∙ is
opening_told terms (Peak fault) place t refuses is = ap (option_map (λ number. record { layer = PLAN; number = number; place = place })) refuses ∙ is
opening_told terms Memory place t refuses is = absurd (none-some _ is)

-- the sources that a refused opening hands back join as before
pub joins_left : {A B C D : Type 0} (a : Source A) (b : Source B) (c : Source C) (d : Source D) (fault : OpeningFault) (before after : Sources A B C D) →
    SourcesLeft a b c d fault before after →
    source_joins a b c d after ≡ source_joins a b c d before
joins_left a b c d NotFull before after same = ap (source_joins a b c d) same
joins_left a b c d (Peak fault) before after reset = reset.0
joins_left a b c d Memory before after reset = reset.0

-- what an opening answers, with its place
module _ {A B C D : Type 0} {a : Source A} {b : Source B} {c : Source C} {d : Source D} (plan : Plan) (sources : Sources A B C D)
    (answer : Result (Open (Month A B C D a b c d)) (Unopened A B C D))
    (opens : MatchResult answer (λ month. Stands (terms_of a b c d plan sources) [] (state_of month.0)) (NotOpened a b c d plan sources)) where
  pub opened : (month : Open (Month A B C D a b c d)) → answer ≡ Ok month → Stands (terms_of a b c d plan sources) [] (state_of month.0)
  opened month e = MatchResult-at_ok _ _ month e opens

  pub unopened : (place : ℕ) (refused : Placed (Unopened A B C D)) →
      (answer ≡ Err refused.fault) × (refused.place ≡ place) →
      Opens a b c d plan sources place (Err (stopped_by refused))
  unopened place refused (e, at) =
      let not : NotOpened a b c d plan sources refused.fault = MatchResult-at_err _ _ refused.fault e opens in (
        refused.fault.sources,
        ap (λ (p : Plan). Planned p refused.fault.sources) not.plan_left,
        joins_left a b c d refused.fault.fault sources refused.fault.sources not.sources_left,
        refl,
        λ t is.
            opening_told (terms_of a b c d plan sources) refused.fault.fault place t not.refusal
            (ap (λ n. told (Refused (record { fault = refused.fault.fault; place = n }))) (sym at) ∙ is),
      )

-- words that were given to the end, with no byte left over: the input has their bytes and nothing else
file_bytes : {R : Type 0} {input : Input R} (words : List Word) (before reached after : FileWords R input) →
    Gave before (map encoded words) reached →
    Ended reached after →
    left_over after ≡ 0 →
    ForSome (to_come before) (λ bytes. bytes ≡ bytes_of words)
file_bytes words before reached after gave ended none bytes is =
    all_given (map encoded words) before reached after gave ended none bytes is ∙ flat_map-map spelled encoded words

given-append : {R : Type 0} {input : Input R} (before middle after : FileWords R input) (words more : List (Option Word)) →
    Given before words middle →
    Given middle more after →
    Given before (words ++ more) after
given-append before middle after words more first second = record {
  bits = first.bits ++ second.bits;
  gave = gave-append first.bits second.bits before middle after first.gave second.gave;
  decoded = decoded-append first.bits second.bits words more first.decoded second.decoded;
}

-- a file may end where its end tells no fault
end_parts : (at : Standing) (place over : ℕ) → end_fault at place over ≡ None → (may_end at.phase ≡ true) × (over ≡ 0)
end_parts at place over fine =
    let p = may_end_parts (may_end at.phase) (eqb over 0) (record { layer = FILE; number = 11; place = place }) fine in
    (p.0, eqb-true over 0 p.1)

-- the first select opens the month
opened_books : (joins : ℕ → ℕ → ℕ → ℕ) (words : List (Option Word)) (word : Word) (at after : Standing) (plan : Contents) (state : State) →
    PlanWords words at →
    judge at word ≡ Taken after Opening →
    plan ≡ after.plan →
    Stands (terms_by joins plan) [] state →
    BooksAt joins (words ++ Some word ∷ []) after.phase state
opened_books joins words word at after plan state planned e same stands =
    let here : judge (reading_of words).standing word ≡ Taken after Opening = ap (λ st. judge st word) planned.stands ∙ e in
    let more = pushed words word after Opening planned.clean here in
    let fine : word_fault joins words (Some word) ≡ None =
    ap (verdict_fault joins (reading_of words).bookings) here
    ∙ ap (λ (p : Contents). brought_fault joins p (reading_of words).bookings Opening) (sym same)
    ∙ ap (option_map (λ number. (PLAN, number))) stands.opened in
    let none : (reading_of (words ++ Some word ∷ [])).bookings ≡ [] =
    more.booked ∙ append-nil (reading_of words).bookings ∙ planned.none_booked in
    record {
      books = record {
        clean = more.clean;
        opened = ap (λ (st : Standing). has_opened st.phase) more.stands ∙ (plan_step at word after Opening planned.planning e).0;
        none_refused = none_refused_push joins words (Some word) (planned.none_refused joins) fine;
        stands =
            subst (λ bs. Stands (terms_by joins (reading_of (words ++ Some word ∷ [])).standing.plan) bs state) (sym none)
            (subst (λ p. Stands (terms_by joins p) [] state) (same ∙ ap (λ (st : Standing). st.plan) (sym more.stands)) stands);
      };
      phase_is = ap (λ (st : Standing). st.phase) more.stands;
    }

module _ {A B C D R : Type 0} {input : Input R} (a : Source A) (b : Source B) (c : Source C) (d : Source D) (sources : Sources A B C D) (before after : FileWords R input) where
  abbrev joins : ℕ → ℕ → ℕ → ℕ
  joins = source_joins a b c d sources

  -- words that were read to the end with no fault are those of a file
  loaded : (month : Month A B C D a b c d) (words : List (Option Word)) (reached : FileWords R input) →
      Given before words reached →
      Ended reached after →
      (reading_of words).fault ≡ None →
      end_fault (reading_of words).standing after.number (left_over after) ≡ None →
      Stands (terms_by joins (reading_of words).standing.plan) (reading_of words).bookings (state_of month) →
      Loaded a b c d joins month before after
  loaded month words reached given ended clean fine stands =
      let plan : Contents = (reading_of words).standing.plan in
      let bookings : List Booking = (reading_of words).bookings in
      let ends = end_parts (reading_of words).standing after.number (left_over after) fine in
      let file = is_file plan bookings words 0 (record { no_fault = clean; ends = ends.0; planned = refl; booked = refl }) in
      let kept = held given.bits words given.decoded beginning 0 tt in
      let bits = decoded-bits given.bits (file_words plan bookings) (subst (AllDecoded given.bits) file given.decoded) in
      record {
        plan = plan;
        bookings = bookings;
        fileable = record {
          made = subst (λ p. is_well_made p ≡ true) stands.contents month.plan.well_made;
          full = full_at_end (reading_of words).standing.phase plan ends.0 kept.0;
          held = kept.1;
        };
        reached = reached;
        gave = subst (λ ns. Gave before ns reached) bits given.gave;
        ended = ended;
        no_more = ends.1;
        bytes = file_bytes (file_words plan bookings) before reached after (subst (λ ns. Gave before ns reached) bits given.gave) ended ends.1;
        stands = stands;
      }

  module _ (at : Standing) (plan : Plan) (same : contents plan ≡ at.plan) where
    -- what is left where the month is not open
    left_by : (words : List (Option Word)) (back : Sources A B C D) (st : Standing) →
        PlanWords words st →
        contents plan ≡ st.plan →
        source_joins a b c d back ≡ joins →
        LeftBy a b c d joins words (Planned plan back)
    left_by words back st planned is kept =
        (is ∙ ap (λ (x : Standing). x.plan) (sym planned.stands), planned.none_booked, kept)

    -- the plan's words were not all taken
    pub plan_stopped : (fault : LoadFault) →
        PlanStopped before after at fault →
        StoppedBy a b c d joins (record { fault = fault; left = Planned plan sources }) before after
    plan_stopped fault s = record {
      bits = s.given.bits;
      reached = s.reached;
      gave = s.given.gave;
      bytes = gave_bytes s.given.bits before s.reached s.given.gave;
      counts = s.counts;
      taken = s.taken;
      others = s.others;
      decoded = s.given.decoded;
      none_refused = s.planned.none_refused joins;
      left = left_by s.taken sources at s.planned same refl;
      tells = s.tells joins;
      fails = s.fails;
      wants = s.wants;
    }

    -- the month opens at the file's end
    pub end_loaded : (month : Month A B C D a b c d) →
        EndRead before after at →
        Stands (terms_of a b c d plan sources) [] (state_of month) →
        Loaded a b c d joins month before after
    end_loaded month e stands =
        let is : (reading_of e.words).standing ≡ at = e.planned.stands in
        loaded month e.words e.reached e.given e.ended e.planned.clean
        (ap (λ st. end_fault st after.number (left_over after)) is ∙ e.fine)
        (subst (λ bs. Stands (terms_by joins (reading_of e.words).standing.plan) bs (state_of month)) (sym e.planned.none_booked)
        (subst (λ p. Stands (terms_by joins p) [] (state_of month)) (same ∙ ap (λ (x : Standing). x.plan) (sym is)) stands))

    -- the opening is refused
    module _ (place : ℕ) (stopped : Stopped A B C D a b c d) (opens : Opens a b c d plan sources place (Err stopped)) where
      abbrev as_plan : ℕ → Told
      as_plan number = record { layer = PLAN; number = number; place = place }

      left_is : (words : List (Option Word)) (st : Standing) →
          PlanWords words st →
          contents plan ≡ st.plan →
          LeftBy a b c d joins words stopped.left
      left_is words st planned is =
          subst (LeftBy a b c d joins words) (sym opens.1) (left_by words opens.0 st planned is opens.2)

      refuses : (t : Told) → told stopped.fault ≡ Some t → option_map as_plan (opening_refusal (terms_by joins at.plan)) ≡ Some t
      refuses t is = ap (λ (p : Contents). option_map as_plan (opening_refusal (terms_by joins p))) (sym same) ∙ opens.4 t is

      tells_plan : (o : Option ℕ) (t : Told) →
          option_map as_plan o ≡ Some t →
          (option_map {U = Layer × ℕ} (λ number. (PLAN, number)) o ≡ Some (t.layer, t.number)) × (t.place ≡ place)
      tells_plan None t e = absurd (none-some _ e)
      tells_plan (Some n) t e = told_parts PLAN n place t e

      pub select_stopped : SelectRead before after at place → StoppedBy a b c d joins stopped before after
      select_stopped s =
          let here : judge (reading_of s.words).standing s.word ≡ Taken at Opening =
          ap (λ st. judge st s.word) s.planned.stands ∙ s.opens in
          record {
            bits = s.given.bits;
            reached = after;
            gave = s.given.gave;
            bytes = gave_bytes s.given.bits before after s.given.gave;
            counts = refl;
            taken = s.words;
            others = Some s.word ∷ [];
            decoded = s.given.decoded;
            none_refused = s.planned.none_refused joins;
            left = left_is s.words s.at s.planned (same ∙ (plan_step s.at s.word at Opening s.planned.planning s.opens).1);
            tells = λ t is.
                let parts = tells_plan (opening_refusal (terms_by joins at.plan)) t (refuses t is) in
                (ap (verdict_fault joins (reading_of s.words).bookings) here ∙ parts.0, parts.1 ∙ s.placed);
            fails = λ is. absurd (false≢true (sym opens.3 ∙ is));
            wants = λ other none. (pushed s.words s.word at Opening s.planned.clean here).clean;
          }

      pub end_stopped : EndRead before after at → place ≡ after.number → StoppedBy a b c d joins stopped before after
      end_stopped e is-end = record {
        bits = e.given.bits;
        reached = e.reached;
        gave = e.given.gave;
        bytes = gave_bytes e.given.bits before e.reached e.given.gave;
        counts = e.ended.stays;
        taken = e.words;
        others = [];
        decoded = subst (AllDecoded e.given.bits) (sym (append-nil e.words)) e.given.decoded;
        none_refused = e.planned.none_refused joins;
        left = left_is e.words at e.planned same;
        tells = λ t is. (
          e.ended,
          ap (λ st. option_or (end_fault st after.number (left_over after)) (opening_tells joins st after.number)) e.planned.stands
              ∙ ap (λ o. option_or o (opening_tells joins at after.number)) e.fine
              ∙ ap (opening_tells joins at) (sym is-end)
              ∙ cond-false (has_opened at.phase) None _ e.planned.planning
              ∙ refuses t is,
        );
        fails = λ is. absurd (false≢true (sym opens.3 ∙ is));
        wants = λ other none.
            (e.ended, ap (λ st. end_fault st after.number (left_over after)) e.planned.stands ∙ e.fine);
      }

    -- the rest of the file
    module _ (middle : FileWords R input) (place : ℕ) (s : SelectRead before middle at place) (month : Month A B C D a b c d)
        (stands : Stands (terms_of a b c d plan sources) [] (state_of month)) where
      abbrev first : List (Option Word)
      first = s.words ++ Some s.word ∷ []

      pub books_first : BooksAt joins first at.phase (state_of month)
      books_first = opened_books joins s.words s.word s.at at (contents plan) (state_of month) s.planned s.opens same stands

      rest_loaded : (then : Open (Month A B C D a b c d)) → BooksEnded joins first middle after (state_of then.0) → Loaded a b c d joins then.0 before after
      rest_loaded then e =
          loaded then.0 (first ++ e.more) e.reached (given-append before middle e.reached first e.more s.given e.given) e.ended
          e.books.clean e.fine e.books.stands

      rest_stopped : (stopped : Stopped A B C D a b c d) (then : Open (Month A B C D a b c d)) →
          stopped.left ≡ Opened then →
          BooksStopped joins first middle after (state_of then.0) stopped.fault →
          StoppedBy a b c d joins stopped before after
      rest_stopped stopped then is e =
          let all = given-append before middle e.reached first (e.taken ++ e.others) s.given e.given in
          let count = given-count before middle first s.given in
          let long = length-append first e.taken in
          record {
            bits = all.bits;
            reached = e.reached;
            gave = all.gave;
            bytes = gave_bytes all.bits before e.reached all.gave;
            counts = e.counts;
            taken = first ++ e.taken;
            others = e.others;
            decoded = subst (AllDecoded all.bits) (sym (append_assoc first e.taken e.others)) all.decoded;
            none_refused = e.books.none_refused;
            left = subst (LeftBy a b c d joins (first ++ e.taken)) (sym is) e.books.stands;
            tells = λ t told_is.
                subst (λ n. TellsOf joins (first ++ e.taken) e.others n e.reached after t) (omega arith) (e.tells t told_is);
            fails = e.fails;
            wants = e.wants;
          }

      pub rest_loads : (r : Result (Open (Month A B C D a b c d)) (Stopped A B C D a b c d)) → RestBooked a b c d joins first middle after r → Loads a b c d joins before r after
      rest_loads (Ok then) e = rest_loaded then e
      rest_loads (Err stopped) e = rest_stopped stopped e.0 e.1 e.2
