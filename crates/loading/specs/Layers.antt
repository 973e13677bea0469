-- How a month file is judged by its layers: FILE and PLAN judge each word, and then the month judges what the word brings.
use Rattle.std.specs.Prelude.{◌≡◌, ℕ, Bool, true, false, cond, List, ◌∷◌, ◌++◌, Some, None, Option}
use Rattle.std.specs.Option.{option_map, option_or}
use Rattle.plan.specs.Contents.{Contents}
use Rattle.plan.specs.declared.booking.Booking.{Booking}
use Rattle.words.specs.declared.word.Word.{Word}
use Rattle.month.specs.Bookings.{booking_refusal}
use Rattle.month.specs.Opening.{opening_refusal}
use Rattle.month.specs.Terms.{Terms}
use Rattle.monthfile.specs.Judging.{Standing, Verdict, Faulty, Taken, beginning, judge}
use Rattle.monthfile.specs.Reading.{Reading, end_fault, reading}
use Rattle.monthfile.specs.declared.brought.Brought.{Brought}
use Rattle.monthfile.specs.declared.brought.Brought.TheVariants.{Nothing, Opening, Offtake}
use Rattle.monthfile.specs.declared.phase.Phase.{Phase}
use Rattle.monthfile.specs.declared.phase.Phase.TheVariants.{Start, Segments, Terms as AwaitsFactor, Meters, Peaks, Selected, Booked}
use Rattle.monthfile.specs.declared.telling.Layer.{Layer}
use Rattle.monthfile.specs.declared.telling.Layer.TheVariants.{File as FILE, Plan as PLAN, Book as BOOK}
use Rattle.monthfile.specs.declared.telling.Told.{Told}

-- what FILE and PLAN read from these words
abbrev pub reading_of : List (Option Word) → Reading
reading_of words = reading beginning 0 words

-- has a select opened the month
abbrev pub has_opened : Phase → Bool
has_opened Start = false
has_opened Segments = false
has_opened (AwaitsFactor given) = false
has_opened Meters = false
has_opened Peaks = false
has_opened (Selected spot) = true
has_opened (Booked spot) = true

module _ (joins : ℕ → ℕ → ℕ → ℕ) where
  -- what a month is opened with, by its plan
  abbrev pub terms_by : Contents → Terms
  terms_by plan = record { contents = plan; joins = joins }

  -- Layer and number of the refusal, if the month refuses what a word brings: the opening is PLAN's, a booking, over those
  -- before it, is BOOK's.
  abbrev pub brought_fault : Contents → List Booking → Brought → Option (Layer × ℕ)
  brought_fault plan bookings Nothing = None
  brought_fault plan bookings Opening = option_map (λ number. (PLAN, number)) (opening_refusal (terms_by plan))
  brought_fault plan bookings (Offtake b) = option_map (λ number. (BOOK, number)) (booking_refusal (terms_by plan) bookings b)

  -- the same of a word by the verdict of FILE and PLAN, which comes first
  abbrev pub verdict_fault : List Booking → Verdict → Option (Layer × ℕ)
  verdict_fault bookings (Faulty layer number) = Some (layer, number)
  verdict_fault bookings (Taken after brought) = brought_fault after.plan bookings brought

  -- the same of the word that follows these words
  abbrev pub word_fault : (before : List (Option Word)) → Option Word → Option (Layer × ℕ)
  word_fault before None = Some (FILE, 1)
  word_fault before (Some word) = verdict_fault (reading_of before).bookings (judge (reading_of before).standing word)

  -- no layer refuses one of these words
  abbrev pub NoneRefused : List (Option Word) → Type 0
  NoneRefused words =
      (before after : List (Option Word)) (word : Option Word) → words ≡ before ++ word ∷ after → word_fault before word ≡ None

  -- what the opening at a file's end tells, if it is refused; a month that a select opened does not open there
  abbrev pub opening_tells : Standing → (place : ℕ) → Option Told
  opening_tells at place =
      cond (has_opened at.phase) None
      (option_map (λ number. record { layer = PLAN; number = number; place = place }) (opening_refusal (terms_by at.plan)))

  -- what the end of a file after these words tells, if it is a fault: FILE's own, else the opening's
  abbrev pub end_tells : List (Option Word) → (place over : ℕ) → Option Told
  end_tells words place over =
      option_or (end_fault (reading_of words).standing place over)
      (opening_tells (reading_of words).standing place)
