-- What writing a month file answers and leaves, and that the file is read back.
use Rattle.std.specs.Prelude.{◌≡◌, ℕ, ◌≤◌, true, List, [], ◌++◌, length, drop, is_ok, Some, None, Ok, Err, Option, Result}
use Rattle.plan.specs.Contents.{Contents}
use Rattle.plan.specs.declared.booking.Booking.{Booking}
use Rattle.words.specs.Bytes.{words_of, left_over}
use Rattle.words.specs.declared.word.Word.{Word}
use Rattle.monthfile.specs.File.{file_of}
use Rattle.monthfile.specs.Inverse.{Fileable, Gave}
use Rattle.monthfile.specs.Judging.{beginning}
use Rattle.monthfile.specs.Reading.{AllDecoded, reading}
use Rattle.monthwriter.specs.declared.fault.WriteFault.{WriteFault}
use Rattle.monthwriter.specs.Refusals.{number_of, write_refusal}

-- What writing answers, and what the memory holds then. Where it is not refused, the file stands in front, the answer is
-- its length, and the bytes beyond it are as they were; a refusal leaves all bytes as they were.
abbrev pub FileWritten : Contents → List Booking → List ℕ → Result ℕ WriteFault → List ℕ → Type 0
FileWritten plan bookings before (Ok size) after =
    (write_refusal plan bookings (length before) ≡ None) × (size ≡ length (file_of plan bookings))
    × (after ≡ file_of plan bookings ++ drop size before)
FileWritten plan bookings before (Err fault) after =
    (write_refusal plan bookings (length before) ≡ Some (number_of fault)) × (after ≡ before)

-- A plan and bookings that have a file are written where the memory has room for it. What reading a file gives has that file, so
-- it is written again, byte for byte.
abbrev pub TakesFile : Contents → List Booking → (room : ℕ) → Result ℕ WriteFault → Type 0
TakesFile plan bookings room r = Fileable plan bookings → length (file_of plan bookings) ≤ room → is_ok r ≡ true

-- Bytes that are whole words, which, decoded and read, give this plan and these bookings.
pub record ReadsBack (plan : Contents) (bookings : List Booking) (bytes : List ℕ) : Type 0 where
  pub whole : left_over bytes ≡ []
  pub gives : (words : List (Option Word)) → AllDecoded (words_of bytes) words → (place : ℕ) → Gave plan bookings (reading beginning place words)
