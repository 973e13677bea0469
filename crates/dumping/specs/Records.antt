-- The records of a month file, and which word completes which. Assumes nothing.
use Rattle.std.specs.Prelude.{◌≡◌, ℕ, List, [], ◌∷◌, ◌++◌, map, Some, None, Ok, Err, Option, Result}
use Rattle.std.specs.Option.{option_map, option_to_list}
use Rattle.plan.specs.Calls.{PlanCall, SetPeriod, AddSegment, AddMeter, AddCarried}
use Rattle.plan.specs.Contents.{Contents}
use Rattle.plan.specs.WellMade.{calls_of}
use Rattle.plan.specs.declared.booking.Booking.{Booking}
use Rattle.words.specs.Layout.{Decoded}
use Rattle.words.specs.declared.word.Word.{Word}
use Rattle.monthfile.specs.declared.brought.Brought.{Brought}
use Rattle.monthfile.specs.declared.brought.Brought.TheVariants.{Nothing, Opening, Offtake}
use Rattle.monthfile.specs.declared.fault.ReadFault.{ReadFault}
use Rattle.monthfile.specs.Faults.{Stepped}
use Rattle.monthfile.specs.Inverse.{Gave}
use Rattle.monthfile.specs.Judging.{Standing, beginning, Verdict, Faulty, Taken, call_of, judge}
use Rattle.monthfile.specs.Reading.{reading}
use Rattle.lines.specs.declared.record.Record.{Record}
use Rattle.lines.specs.declared.record.Record.TheVariants.{Period, Terms, Assigned, Carried, Booked}

-- the record of a plan call
abbrev pub plan_record : PlanCall → Record
plan_record (SetPeriod p) = Period p.year p.month p.hours
plan_record (AddSegment segment s) = Terms segment s.service s.tariff s.factor
plan_record (AddMeter m) = Assigned m
plan_record (AddCarried p) = Carried p

-- the record that a word completes, by the plan call that it completes and by what it brings
abbrev pub completed : Option PlanCall → Brought → Option Record
completed call Nothing = option_map plan_record call
completed call Opening = option_map plan_record call
completed call (Offtake booking) = Some (Booked booking)

-- What taking the word at a place answers, and where the reader stands then: the record that the word completes, if it completes
-- one, or the fault.
abbrev pub WordTaken : Standing → ℕ → ℕ → Result (Option Record) ReadFault → Standing → Type 0
WordTaken before place bits (Ok told) after =
    (word : Word) × (brought : Brought) × Decoded bits (Some word) × (judge before word ≡ Taken after brought)
    × (told ≡ completed (call_of before.phase word) brought)
WordTaken before place bits (Err fault) after = Stepped before place bits (Err fault) after

-- the records of words that follow a verdict, and of those that come after it
abbrev pub records_after : Option PlanCall → Verdict → (Standing → List Record) → List Record
records_after call (Faulty layer number) rest = []
records_after call (Taken standing brought) rest = option_to_list (completed call brought) ++ rest standing

-- the records of words that are taken one after the other, up to the first fault
abbrev pub records_in : Standing → List (Option Word) → List Record
records_in before [] = []
records_in before (None ∷ words) = []
records_in before (Some word ∷ words) =
    records_after (call_of before.phase word) (judge before word) (λ standing. records_in standing words)

-- The records of a file, word by word, are those of its plan's calls and then its bookings, each in its order.
abbrev pub RecordsOfFile : Type 0
RecordsOfFile =
    (plan : Contents) (bookings : List Booking) (words : List (Option Word)) (place : ℕ)
    → Gave plan bookings (reading beginning place words)
    → records_in beginning words ≡ map plan_record (calls_of plan) ++ map Booked bookings
