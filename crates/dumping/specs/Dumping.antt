-- What the showing of a file answers and writes. Assumes nothing.
use Rattle.std.specs.Prelude.{◌≡◌, ℕ, true, List, [], ◌++◌, map, length, is_some, Some, None, Ok, Err, Option, Result}
use Rattle.std.specs.Io.KnownBytes.{Appends}
use Rattle.std.specs.List.{flat_map}
use Rattle.std.specs.Option.{ForSome}
use Rattle.lines.specs.Lines.{ended, fault_line, record_line}
use Rattle.lines.specs.declared.record.Record.{Record}
use Rattle.lines.specs.declared.record.Record.TheVariants.{Booked}
use Rattle.plan.specs.Contents.{Contents}
use Rattle.plan.specs.WellMade.{calls_of}
use Rattle.plan.specs.declared.booking.Booking.{Booking}
use Rattle.words.specs.Bytes.{left_over, words_of}
use Rattle.words.specs.declared.word.Word.{Word}
use Rattle.monthfile.specs.File.{file_of}
use Rattle.monthfile.specs.Inverse.{Fileable}
use Rattle.monthfile.specs.Judging.{beginning}
use Rattle.monthfile.specs.Reading.{AllDecoded}
use Rattle.monthfile.specs.Whole.{file_fault}
use Rattle.monthfile.specs.declared.telling.Told.{Told}
use Rattle.dumping.specs.Faults.{told}
use Rattle.dumping.specs.Records.{plan_record, records_in}
use Rattle.dumping.specs.declared.fault.DumpFault.{DumpFault}

-- the lines of records, each ended by a line break
abbrev pub lines_of : List Record → List ℕ
lines_of records = flat_map (λ r. ended (record_line r)) records

-- the line of a fault, if there is one, ended by a line break
abbrev pub fault_text : Option Told → List ℕ
fault_text None = []
fault_text (Some told) = ended (fault_line told)

-- the fault that an answer tells, if it tells one
abbrev pub fault_told : Result (Unit {0}) DumpFault → Option Told
fault_told (Ok _) = None
fault_told (Err fault) = told fault

-- the file was judged: where a fault tells nothing, memory was wanting, or the input or the output failed
abbrev pub IsJudged : Result (Unit {0}) DumpFault → Type 0
IsJudged (Ok _) = Unit {0}
IsJudged (Err fault) = is_some (told fault) ≡ true

-- The bytes of the input, all of them where they are known, and the words that they make. Where the file was judged, the answer
-- tells its first fault, or that it has none; and the lines of the records before the fault, then the last text, were written,
-- and nothing else.
pub record Shown (input before : Option (List ℕ)) (r : Result (Unit {0}) DumpFault) (last : List ℕ) (after : Option (List ℕ)) : Type 0 where
  pub bytes : List ℕ
  pub known : ForSome input (λ all. all ≡ bytes)
  pub words : List (Option Word)
  pub decoded : AllDecoded (words_of bytes) words
  pub tells : IsJudged r → fault_told r ≡ file_fault words (length (left_over bytes))
  pub written : IsJudged r → Appends before after (lines_of (records_in beginning words) ++ last)

-- the same, where the fault's line is the last
abbrev pub Dumped : (input before : Option (List ℕ)) → Result (Unit {0}) DumpFault → (after : Option (List ℕ)) → Type 0
Dumped input before r after = Shown input before r (fault_text (fault_told r)) after

-- The file of a plan and bookings: where it was judged it has no fault, and a line for each call of the plan and then for each
-- booking was written, in their order, and nothing else.
abbrev pub FileShown : (input before : Option (List ℕ)) → Result (Unit {0}) DumpFault → (after : Option (List ℕ)) → Type 0
FileShown input before r after =
    (plan : Contents) (bookings : List Booking) →
    Fileable plan bookings →
    input ≡ Some (file_of plan bookings) →
    IsJudged r →
    (r ≡ Ok tt) × Appends before after (lines_of (map plan_record (calls_of plan) ++ map Booked bookings))
