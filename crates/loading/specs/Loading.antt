-- What the loading of a month file answers and leaves.
use Rattle.std.specs.Prelude.{◌≡◌, ◌⊎◌, ⊤, ℕ, ◌+◌, true, false, List, [], ◌∷◌, ◌++◌, map, length, Some, None, Ok, Err, MatchResult, Option, Result}
use Rattle.std.specs.Io.KnownBytes.{Consumes}
use Rattle.std.specs.List.{flat_map}
use Rattle.std.specs.Option.{ForSome}
use Rattle.std.specs.declared.io.Read.{Ghosts as Input}
use Rattle.input.specs.FileWords.{Ended, Gave, NoneGiven, left_over, to_come}
use Rattle.input.specs.declared.file_words.FileWords.{FileWords}
use Rattle.month.specs.Calls.{accepted}
use Rattle.month.specs.OfMonth.{SourcesLeft, source_joins, state_of}
use Rattle.month.specs.Opening.{opening_refusal}
use Rattle.month.specs.Stands.{Stands}
use Rattle.month.specs.declared.call.Call.TheVariants.{Book}
use Rattle.month.specs.declared.month.Month.{Month}
use Rattle.month.specs.declared.open.Open.{Open}
use Rattle.month.specs.declared.fault.OpeningFault.{OpeningFault}
use Rattle.month.specs.declared.sources.Sources.{Sources}
use Rattle.monthfile.specs.File.{file_of, file_words}
use Rattle.monthfile.specs.Inverse.{Fileable}
use Rattle.monthfile.specs.Reading.{AllDecoded, end_fault}
use Rattle.monthfile.specs.declared.fault.Placed.{Placed}
use Rattle.monthfile.specs.declared.telling.Told.{Told}
use Rattle.plan.specs.Contents.{Contents}
use Rattle.plan.specs.OfPlan.{contents}
use Rattle.plan.specs.declared.booking.Booking.{Booking}
use Rattle.weights.specs.declared.source.WeightSource.{Ghosts as Source}
use Rattle.words.specs.Bytes.{spelled}
use Rattle.words.specs.Layout.{encoded}
use Rattle.words.specs.declared.word.Word.{Word}
use Rattle.loading.specs.Faults.{is_transfer, told}
use Rattle.loading.specs.Layers.{NoneRefused, end_tells, reading_of, terms_by, word_fault}
use Rattle.loading.specs.declared.fault.LoadFault.{LoadFault}
use Rattle.loading.specs.declared.fault.LoadFault.TheVariants.{Opening}
use Rattle.loading.specs.declared.left.Left.{Left}
use Rattle.loading.specs.declared.left.Left.TheVariants.{Planned, Opened}
use Rattle.loading.specs.declared.left.Stopped.{Stopped}

-- what a fault tells after words that were taken: that a layer refuses the next word, which has this number, or the end
abbrev pub TellsOf : {R : Type 0} {input : Input R} (joins : ℕ → ℕ → ℕ → ℕ) (taken others : List (Option Word)) (next : ℕ) (reached after : FileWords R input) → Told → Type 0
TellsOf joins taken [] next reached after t =
    Ended reached after × (end_tells joins taken after.number (left_over after) ≡ Some t)
TellsOf joins taken (word ∷ others) next reached after t =
    (word_fault joins taken word ≡ Some (t.layer, t.number)) × (t.place ≡ next)

-- memory is wanting after words that were taken: only for a next word that FILE and PLAN take, or at an end that FILE takes
abbrev pub MemoryWanted : {R : Type 0} {input : Input R} (taken others : List (Option Word)) (reached after : FileWords R input) → Type 0
MemoryWanted taken [] reached after =
    Ended reached after × (end_fault (reading_of taken).standing after.number (left_over after) ≡ None)
MemoryWanted taken (word ∷ others) reached after = (reading_of (taken ++ word ∷ [])).fault ≡ None

module _ {A B C D : Type 0} (a : Source A) (b : Source B) (c : Source C) (d : Source D) (joins : ℕ → ℕ → ℕ → ℕ) where
  -- The words that were given, to the file's last byte, are those of the one file that a plan and bookings have: where the bytes
  -- of the input are known, they are this file and nothing else. And the month stands as this plan says with all of these
  -- bookings accepted.
  pub record Loaded {R : Type 0} {input : Input R} (month : Month A B C D a b c d) (before after : FileWords R input) : Type 0 where
    pub plan : Contents
    pub bookings : List Booking
    pub fileable : Fileable plan bookings
    pub reached : FileWords R input
    pub gave : Gave before (map encoded (file_words plan bookings)) reached
    pub ended : Ended reached after
    pub no_more : left_over after ≡ 0
    pub bytes : ForSome (to_come before) (λ bytes. bytes ≡ file_of plan bookings)
    pub stands : Stands (terms_by joins plan) bookings (state_of month)

  -- what is left where these words were taken: the plan that they made, with no booking yet, and the sources; or the open
  -- month with all bookings that they brought
  abbrev pub LeftBy : List (Option Word) → Left A B C D a b c d → Type 0
  LeftBy words (Planned plan sources) =
      (contents plan ≡ (reading_of words).standing.plan) × ((reading_of words).bookings ≡ []) × (source_joins a b c d sources ≡ joins)
  LeftBy words (Opened month) =
      Stands (terms_by joins (reading_of words).standing.plan) (reading_of words).bookings (state_of month.0)

  -- Of the words that were given, whose bytes are the first of the input, some were taken. Those are left, and a fault that tells
  -- something tells the first word that a layer refuses, or the end: then only the bytes left over are still to come. A fault
  -- that tells nothing is want of memory, or the input's: all words that it gave were taken, and the next one is an error.
  pub record StoppedBy {R : Type 0} {input : Input R} (stopped : Stopped A B C D a b c d) (before after : FileWords R input) : Type 0 where
    pub bits : List ℕ
    pub reached : FileWords R input
    pub gave : Gave before bits reached
    pub bytes : Consumes (to_come before) (to_come reached) (flat_map spelled bits)
    pub counts : after.number ≡ reached.number
    pub taken : List (Option Word)
    pub others : List (Option Word)
    pub decoded : AllDecoded bits (taken ++ others)
    pub none_refused : NoneRefused joins taken
    pub left : LeftBy taken stopped.left
    pub tells : (t : Told) →
        told stopped.fault ≡ Some t →
        TellsOf joins taken others (before.number + length taken) reached after t
    pub fails : is_transfer stopped.fault ≡ true → (others ≡ []) × NoneGiven reached after
    pub wants : is_transfer stopped.fault ≡ false → told stopped.fault ≡ None → MemoryWanted taken others reached after

  abbrev pub Loads : {R : Type 0} {input : Input R} → FileWords R input → Result (Open (Month A B C D a b c d)) (Stopped A B C D a b c d) → FileWords R input → Type 0
  Loads before (Ok month) after = Loaded month.0 before after
  Loads before (Err stopped) after = StoppedBy stopped before after

  -- An input that has the file of a plan and bookings, all of which the month accepts, is loaded as they say, or for a reason that
  -- tells nothing: memory is wanting, or the input fails.
  abbrev pub LoadsFile : {R : Type 0} {input : Input R} → FileWords R input → Result (Open (Month A B C D a b c d)) (Stopped A B C D a b c d) → Type 0
  LoadsFile before result =
      (plan : Contents) (bookings : List Booking) →
      Fileable plan bookings →
      opening_refusal (terms_by joins plan) ≡ None →
      accepted (terms_by joins plan) (map Book bookings) ≡ bookings →
      to_come before ≡ Some (file_of plan bookings) →
      MatchResult result (λ month. Stands (terms_by joins plan) bookings (state_of month.0)) (λ stopped. told stopped.fault ≡ None)

-- The sources that a stopped loading hands back where the month is not open: as they were given, or as an opening that was refused
-- leaves them.
abbrev pub SourcesHanded : {A B C D : Type 0} (a : Source A) (b : Source B) (c : Source C) (d : Source D) → (given : Sources A B C D) → LoadFault → Left A B C D a b c d → Type 0
SourcesHanded a b c d given fault (Planned plan back) =
    (back ≡ given) ⊎ ((refused : Placed OpeningFault) × (fault ≡ Opening refused) × SourcesLeft a b c d refused.fault given back)
SourcesHanded a b c d given fault (Opened month) = ⊤

-- the same of what a loading answers
abbrev pub HandsBack : {A B C D : Type 0} (a : Source A) (b : Source B) (c : Source C) (d : Source D) → (given : Sources A B C D) → Result (Open (Month A B C D a b c d)) (Stopped A B C D a b c d) → Type 0
HandsBack a b c d given (Ok month) = ⊤
HandsBack a b c d given (Err stopped) = SourcesHanded a b c d given stopped.fault stopped.left
