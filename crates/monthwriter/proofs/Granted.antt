-- What holds where writing is not refused. Assumes nothing.
use Rattle.std.proofs.Common.{◌≡◌, ℕ, ◌≤◌, Bool, true, false, cond, leb, List, length, Some, None, Option, refl}
use Rattle.std.specs.List.{list_all}
use Rattle.std.proofs.lemmas.Bool.{le-leb, leb-true}
use Rattle.plan.specs.Contents.{Contents}
use Rattle.plan.specs.Questions.{is_full}
use Rattle.plan.specs.declared.booking.Booking.{Booking}
use Rattle.monthfile.specs.File.{file_of}
use Rattle.monthwriter.specs.Refusals.{is_held, write_refusal}

-- the plan is full, a file can hold the bookings, and the file is no longer than the memory
pub record Grants (plan : Contents) (bs : List Booking) (room : ℕ) : Type 0 where
  pub full : is_full plan ≡ true
  pub held : list_all is_held bs ≡ true
  pub long : length (file_of plan bs) ≤ room

-- where they hold, writing is not refused
pub not_refused : (plan : Contents) (bs : List Booking) (room : ℕ) → Grants plan bs room → write_refusal plan bs room ≡ None
not_refused plan bs room grants =
    go (is_full plan) (list_all is_held bs) (leb (length (file_of plan bs)) room) grants.full grants.held
    (le-leb (length (file_of plan bs)) room grants.long)
  where
    go : (full held long : Bool) → full ≡ true → held ≡ true → long ≡ true → cond {A = Option ℕ} full (cond held (cond long None (Some 10)) (Some 3)) (Some 2) ≡ None
    go true true true a b c = refl
    go true true false a b c = cc
    go true false long a b c = cc
    go false held long a b c = cc

pub granted : (plan : Contents) (bs : List Booking) (room : ℕ) → write_refusal plan bs room ≡ None → Grants plan bs room
granted plan bs room none =
    let all = go (is_full plan) (list_all is_held bs) (leb (length (file_of plan bs)) room) none in
    record { full = all.0; held = all.1; long = leb-true (length (file_of plan bs)) room all.2 }
  where
    go : (full held long : Bool) → cond {A = Option ℕ} full (cond held (cond long None (Some 10)) (Some 3)) (Some 2) ≡ None → (full ≡ true) × (held ≡ true) × (long ≡ true)
    go true true true e = (refl, refl, refl)
    go true true false e = cc
    go true false long e = cc
    go false held long e = cc
