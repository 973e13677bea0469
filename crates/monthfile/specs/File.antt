-- The layout of a month file: which words, in which order. Assumes nothing.
use Rattle.std.specs.Prelude.{ℕ, ◌+◌, Bool, true, false, ◌&&◌, List, [], ◌∷◌, ◌++◌, Some, None, Option, ◌==◌}
use Rattle.std.specs.List.{flat_map}
use Rattle.plan.specs.Calls.{PlanCall, SetPeriod, AddSegment, AddMeter, AddCarried}
use Rattle.plan.specs.Contents.{Contents}
use Rattle.plan.specs.WellMade.{calls_of}
use Rattle.plan.specs.declared.booking.Booking.{Booking}
use Rattle.words.specs.Bytes.{spelled}
use Rattle.words.specs.Layout.{encoded}
use Rattle.words.specs.declared.spot.Spot.{Spot}
use Rattle.words.specs.declared.word.Word.{Word}
use Rattle.words.specs.declared.word.Word.TheVariants.{Period, Segment, Factor, Meter, Select, Amount, Carried}

-- the words of one plan call: a segment has two
abbrev pub call_words : PlanCall → List Word
call_words (SetPeriod p) = Period p.year p.month p.hours ∷ []
call_words (AddSegment segment s) = Segment (record { segment = segment; service = s.service; tariff = s.tariff }) ∷ Factor segment s.factor ∷ []
call_words (AddMeter m) = Meter m.segment m.user m.station m.number ∷ []
call_words (AddCarried p) = Carried p.meter p.amount ∷ []

-- the words of a plan: its period, its segments, its meters, its carried peaks
abbrev pub plan_words : Contents → List Word
plan_words plan = flat_map call_words (calls_of plan)

-- the meter's hour that a booking books
abbrev pub spot_of : Booking → Spot
spot_of b = record { segment = b.segment; meter = b.meter; hour = b.hour }

-- the hour after it
abbrev pub one_on : Spot → Spot
one_on spot = record { segment = spot.segment; meter = spot.meter; hour = spot.hour + 1 }

abbrev pub is_same_spot : Spot → Spot → Bool
is_same_spot a b = a.segment == b.segment && (a.meter == b.meter && a.hour == b.hour)

-- is this the hour that the next amount books anyway
abbrev pub comes_next : Option Spot → Spot → Bool
comes_next None spot = false
comes_next (Some next) spot = is_same_spot next spot

-- a select, where the booking is not the one that comes next
abbrev pub select_words : Bool → Spot → List Word
select_words true spot = []
select_words false spot = Select spot ∷ []

-- the words of bookings, where the next amount would book this hour
abbrev pub booking_words : Option Spot → List Booking → List Word
booking_words next [] = []
booking_words next (b ∷ rest) =
    select_words (comes_next next (spot_of b)) (spot_of b) ++ (Amount b.amount ∷ booking_words (Some (one_on (spot_of b))) rest)

-- the words of a file: those of its plan, then those of its bookings
abbrev pub file_words : Contents → List Booking → List Word
file_words plan bookings = plan_words plan ++ booking_words None bookings

-- the bytes of words, each word's highest byte first
abbrev pub bytes_of : List Word → List ℕ
bytes_of words = flat_map (λ word. spelled (encoded word)) words

-- the file of a plan and bookings
abbrev pub file_of : Contents → List Booking → List ℕ
file_of plan bookings = bytes_of (file_words plan bookings)
