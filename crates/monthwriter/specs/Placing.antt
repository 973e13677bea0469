-- Words put into memory from a place on. Promises of the code's own parts cite it, no public promise does.
use Rattle.std.specs.Prelude.{◌≡◌, ℕ, ◌+◌, ◌*◌, ◌≤◌, List, [], ◌∷◌, ◌++◌, length, take, drop, Option}
use Rattle.std.specs.List.{AllByRecursion}
use Rattle.plan.specs.declared.booking.Booking.{Booking}
use Rattle.plan.specs.declared.carried.CarriedPeak.{CarriedPeak}
use Rattle.plan.specs.declared.meter.Meter.{Meter as PlanMeter}
use Rattle.words.specs.Bytes.{word_bytes}
use Rattle.words.specs.Layout.{FieldsFit}
use Rattle.words.specs.declared.spot.Spot.{Spot}
use Rattle.words.specs.declared.word.Word.{Word}
use Rattle.words.specs.declared.word.Word.TheVariants.{Meter, Amount, Carried}
use Rattle.monthwriter.specs.declared.placing.Output.{Output}
use Rattle.monthfile.specs.File.{spot_of, comes_next, select_words, bytes_of}

-- the memory with the bytes of words from a place on, and all else as it was
unfoldable pub with_words : ℕ → List Word → List ℕ → List ℕ
with_words start words memory =
    take start memory ++ (bytes_of words ++ drop (start + word_bytes * length words) memory)

-- words that fit their bits, and an output that has room for them
pub record RoomFor (out : Output) (words : List Word) : Type 0 where
  pub fits : AllByRecursion FieldsFit words
  pub long : out.next + word_bytes * length words ≤ length out.memory.now

-- what putting words leaves: the same memory, with them in it; and the place after them
pub record WordsPut (before : Output) (words : List Word) (after : Output) : Type 0 where
  pub same_reference : after.memory.ghost_name ≡ before.memory.ghost_name
  pub place : after.next ≡ before.next + word_bytes * length words
  pub memory : after.memory.now ≡ with_words before.next words before.memory.now

-- the word of a meter
abbrev pub meter_word : PlanMeter → Word
meter_word m = Meter m.segment m.user m.station m.number

-- the word of a carried peak
abbrev pub peak_word : CarriedPeak → Word
peak_word p = Carried p.meter p.amount

-- the words of one booking, where the next amount would book this hour
abbrev pub words_of_booking : Option Spot → Booking → List Word
words_of_booking next b = select_words (comes_next next (spot_of b)) (spot_of b) ++ (Amount b.amount ∷ [])
