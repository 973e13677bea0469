-- Reading words one after the other: the bookings they bring, the first fault, and where the reader stands then. Assumes nothing.
use Rattle.std.specs.Prelude.{◌≡◌, ℕ, ◌≤◌, ◌%◌, Bool, true, false, cond, ◌&&◌, List, [], ◌∷◌, ◌++◌, length, is_ok, is_some, Some, None, Ok, Err, Option, Result, ◌==◌}
use Rattle.std.specs.List.{flat_map}
use Rattle.plan.specs.declared.booking.Booking.{Booking}
use Rattle.words.specs.Bytes.{last_number, number_at, word_bytes, words_of}
use Rattle.words.specs.Layout.{Decoded}
use Rattle.words.specs.declared.word.Word.{Word}
use Rattle.monthfile.specs.declared.brought.Brought.{Brought}
use Rattle.monthfile.specs.declared.brought.Brought.TheVariants.{Nothing, Opening, Offtake}
use Rattle.monthfile.specs.declared.fault.ReadFault.{ReadFault}
use Rattle.monthfile.specs.declared.phase.Phase.{Phase}
use Rattle.monthfile.specs.declared.phase.Phase.TheVariants.{Start, Segments, Terms, Meters, Peaks, Selected, Booked}
use Rattle.monthfile.specs.declared.telling.Layer.TheVariants.{File as FILE}
use Rattle.monthfile.specs.declared.telling.Told.{Told}
use Rattle.monthfile.specs.declared.fault.FileFault.TheVariants.{Malformed, CutShort}
use Rattle.monthfile.specs.Faults.{told}
use Rattle.monthfile.specs.Numbers.{number_of}
use Rattle.monthfile.specs.Judging.{Standing, Verdict, Faulty, Taken, judge}

-- what a reading gives: the bookings before the first fault, that fault, and where the reader stands
pub record Reading : Type 0 where
  pub bookings : List Booking
  pub fault : Option Told
  pub standing : Standing

-- the booking that a word brought, if it brought one
abbrev pub booking_of : Brought → List Booking
booking_of Nothing = []
booking_of Opening = []
booking_of (Offtake booking) = booking ∷ []

-- a reading that ends here, with a fault or without
abbrev pub ended : Standing → Option Told → Reading
ended standing fault = record { bookings = []; fault = fault; standing = standing }

-- a reading after what one word brought
abbrev pub preceded : Brought → Reading → Reading
preceded brought rest =
    record { bookings = booking_of brought ++ rest.bookings; fault = rest.fault; standing = rest.standing }

-- a reading goes on from a verdict: it ends with a fault, else the rest is read from where the reader stands
abbrev pub gone_on : Standing → ℕ → Verdict → (Standing → Reading) → Reading
gone_on before place (Faulty layer number) rest =
    ended before (Some (record { layer = layer; number = number; place = place }))
gone_on before place (Taken standing brought) rest = preceded brought (rest standing)

-- The reading of words from a place on. Bits that make no word are FILE's fault 1.
abbrev pub reading : Standing → ℕ → List (Option Word) → Reading
reading before place [] = ended before None
reading before place (None ∷ words) = ended before (Some (record { layer = FILE; number = number_of Malformed; place = place }))
reading before place (Some word ∷ words) =
    gone_on before place (judge before word) (λ standing. reading standing (number_at place 1) words)

-- the words that these bits make, or none
abbrev pub AllDecoded : List ℕ → List (Option Word) → Type 0
AllDecoded [] [] = Unit {0}
AllDecoded [] (word ∷ words) = ⊥
AllDecoded (bits ∷ more) [] = ⊥
AllDecoded (bits ∷ more) (word ∷ words) = Decoded bits word × AllDecoded more words

-- may the file end in this phase
abbrev pub may_end : Phase → Bool
may_end Start = false
may_end Segments = false
may_end (Terms given) = false
may_end Meters = true
may_end Peaks = true
may_end (Selected spot) = false
may_end (Booked spot) = true

-- the fault of a file's end, if it is one: after a select, inside a word or before the last factor
abbrev pub end_fault : Standing → ℕ → ℕ → Option Told
end_fault standing place left_over =
    cond (may_end standing.phase && left_over == 0) None (Some (record { layer = FILE; number = number_of CutShort; place = place }))

-- two readings, one after the other: a fault of the first ends it, and the second's bookings come after the first's
abbrev pub followed : Reading → Reading → Reading
followed first second =
    cond (is_some first.fault) first
    (record { bookings = first.bookings ++ second.bookings; fault = second.fault; standing = second.standing })

-- The reading of blocks of words, the first word of them at a place: each block is read from where the one before it left the
-- reader, with the numbers that its words have in the whole, up to the first fault.
abbrev pub reading_blocks : Standing → ℕ → List (List (Option Word)) → Reading
reading_blocks before place [] = ended before None
reading_blocks before place (block ∷ blocks) =
    followed (reading before place block)
    (reading_blocks (reading before place block).standing (number_at place (length block)) blocks)

-- blocks as one list, one after the other
abbrev pub joined : {X : Type 0} → List (List X) → List X
joined blocks = flat_map (λ block. block) blocks

-- each block but the last has whole words only
abbrev pub WholeWords : List (List ℕ) → Type 0
WholeWords [] = Unit {0}
WholeWords (block ∷ []) = Unit {0}
WholeWords (block ∷ next ∷ blocks) = (length block % word_bytes ≡ 0) × WholeWords (next ∷ blocks)

-- Whatever the blocks, each but the last of whole words: their words are those of the whole, and reading the blocks one after the
-- other is reading the whole, up to the first fault. So the last word counts, with or without anything after it: the words before
-- it, the last word and what comes after it are three blocks, and the second is read before the third.
pub record BlockByBlock : Type 0 where
  pub words : (blocks : List (List ℕ)) → WholeWords blocks → words_of (joined blocks) ≡ flat_map words_of blocks
  pub read : (before : Standing) (place : ℕ) (blocks : List (List (Option Word))) → place ≤ last_number
      → reading before place (joined blocks) ≡ reading_blocks before place blocks

-- what reading these words from a place leaves: the bookings after the earlier ones, the fault, and where the reader stands
pub record ReadTo (before : Standing) (place : ℕ) (words : List (Option Word)) (earlier : List Booking) (fault : Option Told) (bookings : List Booking) (after : Standing) : Type 0 where
  pub faulty : (reading before place words).fault ≡ fault
  pub booked : bookings ≡ earlier ++ (reading before place words).bookings
  pub stands : after ≡ (reading before place words).standing

-- the fault that an answer tells, if it tells one; want of memory tells none
abbrev pub fault_of : {X : Type 0} → Result X ReadFault → Option Told
fault_of (Ok _) = None
fault_of (Err fault) = told fault

-- What reading the bits of a block answers and leaves. It reads all of them with no fault; or it stops at the first fault, which
-- it answers, or for want of memory.
pub record BlockRead (before : Standing) (place : ℕ) (bits : List ℕ) (earlier : List Booking) (r : Result (Unit {0}) ReadFault) (bookings : List Booking) (after : Standing) : Type 0 where
  pub front : List ℕ
  pub rest : List ℕ
  pub split : bits ≡ front ++ rest
  pub words : List (Option Word)
  pub decoded : AllDecoded front words
  pub left : ReadTo before place words earlier (fault_of r) bookings after
  pub whole : is_ok r ≡ true → rest ≡ []
