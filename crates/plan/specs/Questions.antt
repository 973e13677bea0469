-- What a plan answers.
use Rattle.std.specs.Prelude.{◌≡◌, ℕ, ◌<◌, Bool, true, cond, ◌&&◌, List, [], ◌∷◌, length, is_some, Some, None, Option, ◌==◌, nat_eq}
use Rattle.std.specs.Option.{option_map}
use Rattle.std.specs.List.{slice_get}
use Rattle.plan.specs.declared.meter.Holder.{Holder}
use Rattle.plan.specs.declared.meter.Meter.{Meter}
use Rattle.plan.specs.Contents.{Contents, SegmentNumbers}
use Rattle.plan.specs.Limits.{most_segments, amr}

-- the first of a list that passes a test, if one does
abbrev pub first_of : {X : Type 0} → (X → Bool) → List X → Option X
first_of test [] = None
first_of test (x ∷ xs) = cond (test x) (Some x) (first_of test xs)

-- has the plan all its segments
abbrev pub is_full : Contents → Bool
is_full plan = length plan.segments == most_segments

-- the terms of a segment, if the plan has them
abbrev pub terms_of : Contents → ℕ → Option SegmentNumbers
terms_of plan segment = slice_get plan.segments segment

-- the plan has its period, and the terms of each segment
abbrev pub Complete : Contents → Type 0
Complete plan =
    (is_some plan.period ≡ true) × ((segment : ℕ) → segment < most_segments → is_some (terms_of plan segment) ≡ true)

-- is it this meter of this segment
abbrev pub is_meter : ℕ → ℕ → Meter → Bool
is_meter segment number m = m.segment == segment && m.number == number

-- is the meter of this number assigned in the segment whose meters carry peaks
abbrev pub is_assigned : List Meter → ℕ → Bool
is_assigned meters number = is_some (first_of (is_meter amr number) meters)

-- the user and the station of a meter
abbrev pub holding : Meter → Holder
holding m = record { user = m.user; station = m.station }

-- whose a meter is and where it stands, if the plan assigns it
abbrev pub holder_of : Contents → ℕ → ℕ → Option Holder
holder_of plan segment number = option_map holding (first_of (is_meter segment number) plan.meters)

-- the peak that a meter carries over, if the plan has one
abbrev pub peak_of : Contents → ℕ → Option ℕ
peak_of plan meter = option_map (λ p. p.amount) (first_of (λ p. nat_eq p.meter meter) plan.carried)
