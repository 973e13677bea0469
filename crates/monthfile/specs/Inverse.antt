-- A file and its reading are inverse. Assumes nothing.
use Rattle.std.specs.Prelude.{◌≡◌, ℕ, ◌^◌, ◌<◌, ◌≤◌, true, List, map, Some, None, Option}
use Rattle.std.specs.List.{AllByRecursion}
use Rattle.plan.specs.Contents.{Contents}
use Rattle.plan.specs.Questions.{is_full}
use Rattle.plan.specs.WellMade.{is_well_made}
use Rattle.plan.specs.declared.booking.Booking.{Booking}
use Rattle.words.specs.declared.word.Word.{Word}
use Rattle.monthfile.specs.Judging.{beginning, last_hour}
use Rattle.monthfile.specs.File.{file_words}
use Rattle.monthfile.specs.Reading.{Reading, reading, may_end}

-- a booking that a file can hold
pub record Holdable (b : Booking) : Type 0 where
  pub segment : b.segment < 2 ^ 2
  pub meter : b.meter < 2 ^ 6
  pub hour : b.hour ≤ last_hour
  pub amount : b.amount < 2 ^ 15

-- a plan and bookings that have a file: a full plan that calls can make, and bookings that a file can hold
pub record Fileable (plan : Contents) (bookings : List Booking) : Type 0 where
  pub made : is_well_made plan ≡ true
  pub full : is_full plan ≡ true
  pub held : AllByRecursion Holdable bookings

-- a reading that took every word and ended well, with this plan and these bookings
pub record Gave (plan : Contents) (bookings : List Booking) (r : Reading) : Type 0 where
  pub no_fault : r.fault ≡ None
  pub ends : may_end r.standing.phase ≡ true
  pub planned : r.standing.plan ≡ plan
  pub booked : r.bookings ≡ bookings

-- Reading the words of a file gives its plan and bookings back; and words that give a plan and bookings are those of their file.
pub record FileAndReading : Type 0 where
  pub reads_back : (plan : Contents) (bookings : List Booking) → Fileable plan bookings → (place : ℕ)
      → Gave plan bookings (reading beginning place (map Some (file_words plan bookings)))
  pub is_file : (plan : Contents) (bookings : List Booking) (words : List (Option Word)) (place : ℕ)
      → Gave plan bookings (reading beginning place words) → words ≡ map Some (file_words plan bookings)
