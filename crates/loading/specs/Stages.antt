-- The two stages of a loading: the plan's words, and then those of the bookings. Promises of the code's own parts cite it, no
-- public promise does.
use Rattle.std.specs.Prelude.{◌≡◌, ℕ, ◌+◌, true, false, List, [], ◌∷◌, ◌++◌, length, Some, None, Ok, Err, Option, Result}
use Rattle.std.specs.Option.{option_map}
use Rattle.std.specs.declared.io.Read.{Ghosts as Input}
use Rattle.input.specs.FileWords.{Ended, Gave, NoneGiven, left_over}
use Rattle.input.specs.declared.file_words.FileWords.{FileWords}
use Rattle.month.specs.OfMonth.{source_joins, state_of, terms_of}
use Rattle.month.specs.Opening.{opening_refusal}
use Rattle.month.specs.Stands.{Stands, State}
use Rattle.month.specs.declared.month.Month.{Month}
use Rattle.month.specs.declared.open.Open.{Open}
use Rattle.month.specs.declared.sources.Sources.{Sources}
use Rattle.monthfile.specs.Judging.{Standing, Taken, judge}
use Rattle.monthfile.specs.Reading.{AllDecoded, end_fault}
use Rattle.monthfile.specs.declared.brought.Brought.TheVariants.{Opening}
use Rattle.monthfile.specs.declared.phase.Phase.{Phase}
use Rattle.monthfile.specs.declared.telling.Layer.TheVariants.{Plan as PLAN}
use Rattle.monthfile.specs.declared.telling.Told.{Told}
use Rattle.plan.specs.declared.plan.Plan.{Plan}
use Rattle.weights.specs.declared.source.WeightSource.{Ghosts as Source}
use Rattle.words.specs.Layout.{Decoded}
use Rattle.words.specs.declared.word.Word.{Word}
use Rattle.loading.specs.Faults.{is_transfer, told}
use Rattle.loading.specs.Layers.{NoneRefused, has_opened, reading_of, terms_by, word_fault}
use Rattle.loading.specs.Loading.{MemoryWanted, TellsOf}
use Rattle.loading.specs.declared.bookings.Bookings.{Bookings}
use Rattle.loading.specs.declared.fault.LoadFault.{LoadFault}
use Rattle.loading.specs.declared.left.Left.TheVariants.{Planned, Opened}
use Rattle.loading.specs.declared.left.Stopped.{Stopped}

-- words that were given from one state of a file to another, and what they are
pub record Given {R : Type 0} {input : Input R} (before : FileWords R input) (words : List (Option Word)) (after : FileWords R input) : Type 0 where
  pub bits : List ℕ
  pub gave : Gave before bits after
  pub decoded : AllDecoded bits words

-- words of the plan: FILE and PLAN take each, and none opens the month
pub record PlanWords (words : List (Option Word)) (standing : Standing) : Type 0 where
  pub clean : (reading_of words).fault ≡ None
  pub stands : (reading_of words).standing ≡ standing
  pub none_booked : (reading_of words).bookings ≡ []
  pub none_refused : (joins : ℕ → ℕ → ℕ → ℕ) → NoneRefused joins words
  pub planning : has_opened standing.phase ≡ false

module _ {R : Type 0} {input : Input R} (before after : FileWords R input) (standing : Standing) where
  -- the plan's words were read, and then the first select
  pub record SelectRead (place : ℕ) : Type 0 where
    pub words : List (Option Word)
    pub word : Word
    pub at : Standing
    pub given : Given before (words ++ Some word ∷ []) after
    pub planned : PlanWords words at
    pub opens : judge at word ≡ Taken standing Opening
    pub placed : place ≡ before.number + length words

  -- the plan's words were read, and then the file's end
  pub record EndRead : Type 0 where
    pub words : List (Option Word)
    pub reached : FileWords R input
    pub given : Given before words reached
    pub ended : Ended reached after
    pub planned : PlanWords words standing
    pub fine : end_fault standing after.number (left_over after) ≡ None

  -- the reading of the plan stopped
  pub record PlanStopped (fault : LoadFault) : Type 0 where
    pub taken : List (Option Word)
    pub others : List (Option Word)
    pub reached : FileWords R input
    pub given : Given before (taken ++ others) reached
    pub counts : after.number ≡ reached.number
    pub planned : PlanWords taken standing
    pub tells : (joins : ℕ → ℕ → ℕ → ℕ) (t : Told) →
        told fault ≡ Some t →
        TellsOf joins taken others (before.number + length taken) reached after t
    pub fails : is_transfer fault ≡ true → (others ≡ []) × NoneGiven reached after
    pub wants : is_transfer fault ≡ false → told fault ≡ None → MemoryWanted taken others reached after

  -- the answer is the place of the first select, or none at the file's end
  abbrev pub PlanRead : Result (Option ℕ) LoadFault → Type 0
  PlanRead (Ok (Some place)) = SelectRead place
  PlanRead (Ok None) = EndRead
  PlanRead (Err fault) = PlanStopped fault

-- words that no layer refuses, the first select among them: the month stands as they say
pub record Books (joins : ℕ → ℕ → ℕ → ℕ) (words : List (Option Word)) (state : State) : Type 0 where
  pub clean : (reading_of words).fault ≡ None
  pub opened : has_opened (reading_of words).standing.phase ≡ true
  pub none_refused : NoneRefused joins words
  pub stands : Stands (terms_by joins (reading_of words).standing.plan) (reading_of words).bookings state

-- the same, where the reader is in the phase that they bring
pub record BooksAt (joins : ℕ → ℕ → ℕ → ℕ) (words : List (Option Word)) (phase : Phase) (state : State) : Type 0 where
  pub books : Books joins words state
  pub phase_is : (reading_of words).standing.phase ≡ phase

-- what the month of the second stage holds
abbrev pub held : {A B C D : Type 0} {a : Source A} {b : Source B} {c : Source C} {d : Source D} → Bookings A B C D a b c d → State
held {a = a} {b = b} {c = c} {d = d} bookings = state_of bookings.month.0

-- what holds after whatever words the second stage stands by
abbrev pub AfterWords : {A B C D : Type 0} {a : Source A} {b : Source B} {c : Source C} {d : Source D} →
    Bookings A B C D a b c d →
    ((joins : ℕ → ℕ → ℕ → ℕ) → List (Option Word) → Type 0) →
    Type 0
AfterWords bookings Holds =
    (joins : ℕ → ℕ → ℕ → ℕ) (words : List (Option Word)) →
    BooksAt joins words bookings.reader.phase (held bookings) →
    Holds joins words

module _ (joins : ℕ → ℕ → ℕ → ℕ) (words : List (Option Word)) where
  -- what one word more leaves, or the fault that it tells
  abbrev pub WordBooked : (place bits : ℕ) → Result (Unit {0}) LoadFault → (phase : Phase) (state : State) → Type 0
  WordBooked place bits (Ok _) phase state =
      (word : Word) × Decoded bits (Some word) × BooksAt joins (words ++ Some word ∷ []) phase state
  WordBooked place bits (Err fault) phase state =
      (word : Option Word) × Decoded bits word × Books joins words state × (is_transfer fault ≡ false)
      × (told fault ≡ None → (reading_of (words ++ word ∷ [])).fault ≡ None)
      × ((t : Told) → told fault ≡ Some t → (word_fault joins words word ≡ Some (t.layer, t.number)) × (t.place ≡ place))

  module _ {R : Type 0} {input : Input R} (before after : FileWords R input) (state : State) where
    -- the bookings were read to the file's end
    pub record BooksEnded : Type 0 where
      pub more : List (Option Word)
      pub reached : FileWords R input
      pub given : Given before more reached
      pub ended : Ended reached after
      pub books : Books joins (words ++ more) state
      pub fine : end_fault (reading_of (words ++ more)).standing after.number (left_over after) ≡ None

    -- the reading of the bookings stopped
    pub record BooksStopped (fault : LoadFault) : Type 0 where
      pub taken : List (Option Word)
      pub others : List (Option Word)
      pub reached : FileWords R input
      pub given : Given before (taken ++ others) reached
      pub counts : after.number ≡ reached.number
      pub books : Books joins (words ++ taken) state
      pub tells : (t : Told) →
          told fault ≡ Some t →
          TellsOf joins (words ++ taken) others (before.number + length taken) reached after t
      pub fails : is_transfer fault ≡ true → (others ≡ []) × NoneGiven reached after
      pub wants : is_transfer fault ≡ false → told fault ≡ None → MemoryWanted (words ++ taken) others reached after

    abbrev pub BooksRead : Result (Unit {0}) LoadFault → Type 0
    BooksRead (Ok _) = BooksEnded
    BooksRead (Err fault) = BooksStopped fault

module _ {A B C D : Type 0} (a : Source A) (b : Source B) (c : Source C) (d : Source D) where
  -- the month is opened, or what PLAN tells at this place, with the plan and the sources handed back
  abbrev pub Opens : (plan : Plan) (sources : Sources A B C D) (place : ℕ) → Result (Open (Month A B C D a b c d)) (Stopped A B C D a b c d) → Type 0
  Opens plan sources place (Ok month) = Stands (terms_of a b c d plan sources) [] (state_of month.0)
  Opens plan sources place (Err stopped) =
      (back : Sources A B C D) × (stopped.left ≡ Planned plan back) × (source_joins a b c d back ≡ source_joins a b c d sources)
      × (is_transfer stopped.fault ≡ false)
      × ((t : Told) →
      told stopped.fault ≡ Some t →
      option_map (λ number. record { layer = PLAN; number = number; place = place }) (opening_refusal (terms_of a b c d plan sources)) ≡ Some t)

  -- the rest of the file is booked, or the month is left as far as it was
  abbrev pub RestBooked : {R : Type 0} {input : Input R} (joins : ℕ → ℕ → ℕ → ℕ) (words : List (Option Word)) (before after : FileWords R input) → Result (Open (Month A B C D a b c d)) (Stopped A B C D a b c d) → Type 0
  RestBooked joins words before after (Ok month) = BooksEnded joins words before after (state_of month.0)
  RestBooked joins words before after (Err stopped) =
      (month : Open (Month A B C D a b c d)) × (stopped.left ≡ Opened month)
      × BooksStopped joins words before after (state_of month.0) stopped.fault
