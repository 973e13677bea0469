-- How the reader judges a word: by its phase and the word together. Assumes nothing.
use Rattle.std.specs.Prelude.{ℕ, Bool, true, false, cond, not, ◌&&◌, ◌||◌, Some, None, Option, ◌==◌, nat_le}
use Rattle.plan.specs.Calls.{PlanCall, SetPeriod, AddSegment, AddMeter, AddCarried, refusal_of, after_call}
use Rattle.plan.specs.Contents.{Contents, nothing}
use Rattle.plan.specs.Questions.{is_full}
use Rattle.words.specs.declared.segment_word.SegmentWord.{SegmentWord}
use Rattle.words.specs.declared.spot.Spot.{Spot}
use Rattle.words.specs.declared.word.Word.{Word}
use Rattle.words.specs.declared.word.Word.TheVariants.{Period, Segment, Factor, Meter, Select, Amount, Carried}
use Rattle.monthfile.specs.declared.phase.Phase.{Phase}
use Rattle.monthfile.specs.declared.phase.Phase.TheVariants.{Start, Segments, Terms, Meters, Peaks, Selected, Booked}
use Rattle.monthfile.specs.declared.brought.Brought.{Brought}
use Rattle.monthfile.specs.declared.brought.Brought.TheVariants.{Nothing, Opening, Offtake}
use Rattle.monthfile.specs.declared.telling.Layer.{Layer}
use Rattle.monthfile.specs.declared.telling.Layer.TheVariants.{File as FILE, Plan as PLAN}
use Rattle.monthfile.specs.declared.fault.FileFault.TheVariants.{OutOfOrder, OutsideLimits}
use Rattle.monthfile.specs.File.{one_on, is_same_spot}
use Rattle.monthfile.specs.Numbers.{number_of}

-- the last hour that a select names
abbrev pub last_hour : ℕ
last_hour = 744

-- the kind of a word, which its four highest bits say
abbrev pub kind_of : Word → ℕ
kind_of (Period year month hours) = 1
kind_of (Segment given) = 2
kind_of (Factor segment factor) = 3
kind_of (Meter segment user station meter) = 4
kind_of (Select spot) = 5
kind_of (Amount amount) = 6
kind_of (Carried meter amount) = 7

-- the meter's hour that an amount would book in this phase, if any
abbrev pub next_spot : Phase → Option Spot
next_spot Start = None
next_spot Segments = None
next_spot (Terms given) = None
next_spot Meters = None
next_spot Peaks = None
next_spot (Selected spot) = Some spot
next_spot (Booked spot) = Some spot

-- a factor of another segment
abbrev pub other_segment : ℕ → Word → Bool
other_segment expected (Period year month hours) = false
other_segment expected (Segment given) = false
other_segment expected (Factor segment factor) = not (expected == segment)
other_segment expected (Meter segment user station meter) = false
other_segment expected (Select spot) = false
other_segment expected (Amount amount) = false
other_segment expected (Carried meter amount) = false

-- a select of the hour that the next amount would book anyway; past the last hour it would book none
abbrev pub redundant : Spot → Word → Bool
redundant next (Period year month hours) = false
redundant next (Segment given) = false
redundant next (Factor segment factor) = false
redundant next (Meter segment user station meter) = false
redundant next (Select spot) = is_same_spot next spot && nat_le next.hour last_hour
redundant next (Amount amount) = false
redundant next (Carried meter amount) = false

-- Which word may stand in which phase.
abbrev pub may_stand : Phase → Word → Bool
may_stand Start word = kind_of word == 1
may_stand Segments word = kind_of word == 2
may_stand (Terms given) word = kind_of word == 3 && not (other_segment given.segment word)
may_stand Meters word = kind_of word == 4 || (kind_of word == 7 || kind_of word == 5)
may_stand Peaks word = kind_of word == 7 || kind_of word == 5
may_stand (Selected spot) word = kind_of word == 6
may_stand (Booked next) word = (kind_of word == 6) || (kind_of word == 5 && not (redundant next word))

-- has an amount an hour left to book
abbrev pub has_hour : Option Spot → Bool
has_hour None = true
has_hour (Some next) = nat_le next.hour last_hour

-- The file's own limits: a select's hour, and no amount past the last hour.
abbrev pub within_limits : Phase → Word → Bool
within_limits phase (Period year month hours) = true
within_limits phase (Segment given) = true
within_limits phase (Factor segment factor) = true
within_limits phase (Meter segment user station meter) = true
within_limits phase (Select spot) = nat_le spot.hour last_hour
within_limits phase (Amount amount) = has_hour (next_spot phase)
within_limits phase (Carried meter amount) = true

-- the plan call of a segment word and its factor
abbrev pub terms_call : SegmentWord → ℕ → PlanCall
terms_call given factor =
    AddSegment given.segment (record { service = given.service; tariff = given.tariff; factor = factor })

-- the plan call that a factor completes
abbrev pub segment_call : Phase → ℕ → Option PlanCall
segment_call Start factor = None
segment_call Segments factor = None
segment_call (Terms given) factor = Some (terms_call given factor)
segment_call Meters factor = None
segment_call Peaks factor = None
segment_call (Selected spot) factor = None
segment_call (Booked spot) factor = None

-- the plan call that a word completes, if it completes one; a segment's is complete with its factor
abbrev pub call_of : Phase → Word → Option PlanCall
call_of phase (Period year month hours) = Some (SetPeriod (record { year = year; month = month; hours = hours }))
call_of phase (Segment given) = None
call_of phase (Factor segment factor) = segment_call phase factor
call_of phase (Meter segment user station meter) =
    Some (AddMeter (record { segment = segment; number = meter; user = user; station = station }))
call_of phase (Select spot) = None
call_of phase (Amount amount) = None
call_of phase (Carried meter amount) = Some (AddCarried (record { meter = meter; amount = amount }))

-- the phase after a booked hour
abbrev pub booked_phase : Option Spot → Phase
booked_phase None = Start
booked_phase (Some next) = Booked (one_on next)

-- the phase after a word that is taken, by what the plan then holds
abbrev pub phase_after : Contents → Phase → Word → Phase
phase_after plan phase (Period year month hours) = Segments
phase_after plan phase (Segment given) = Terms given
phase_after plan phase (Factor segment factor) = cond (is_full plan) Meters Segments
phase_after plan phase (Meter segment user station meter) = Meters
phase_after plan phase (Select spot) = Selected spot
phase_after plan phase (Amount amount) = booked_phase (next_spot phase)
phase_after plan phase (Carried meter amount) = Peaks

-- the first select opens the month
abbrev pub opens : Phase → Brought
opens Start = Nothing
opens Segments = Nothing
opens (Terms given) = Nothing
opens Meters = Opening
opens Peaks = Opening
opens (Selected spot) = Nothing
opens (Booked spot) = Nothing

abbrev pub offtake : Option Spot → ℕ → Brought
offtake None amount = Nothing
offtake (Some next) amount =
    Offtake (record { segment = next.segment; meter = next.meter; hour = next.hour; amount = amount })

-- what a word that is taken brings: nothing, that the month may open, or a booking
abbrev pub brought_by : Phase → Word → Brought
brought_by phase (Period year month hours) = Nothing
brought_by phase (Segment given) = Nothing
brought_by phase (Factor segment factor) = Nothing
brought_by phase (Meter segment user station meter) = Nothing
brought_by phase (Select spot) = opens phase
brought_by phase (Amount amount) = offtake (next_spot phase) amount
brought_by phase (Carried meter amount) = Nothing

-- where a reader stands: its phase, and what its plan holds
pub record Standing : Type 0 where
  pub phase : Phase
  pub plan : Contents

-- where a reader begins
abbrev pub beginning : Standing
beginning = record { phase = Start; plan = nothing }

-- The verdict on a word: the layer that refuses it and the number, or where the reader stands then and what the word brought.
pub data Verdict : Type 0 where
  Faulty : Layer → ℕ → Verdict
  Taken : Standing → Brought → Verdict

-- the number with which the plan refuses a word's call, if it has one and it does
abbrev pub plan_refusal : Contents → Option PlanCall → Option ℕ
plan_refusal plan None = None
plan_refusal plan (Some call) = refusal_of plan call

-- what the plan holds after a word's call, if it has one
abbrev pub plan_after : Contents → Option PlanCall → Contents
plan_after plan None = plan
plan_after plan (Some call) = after_call plan call

-- the plan's verdict on a word that FILE takes
abbrev pub by_plan : Option ℕ → Standing → Brought → Verdict
by_plan None standing brought = Taken standing brought
by_plan (Some number) standing brought = Faulty PLAN number

-- Order first, then the file's limits, then the plan.
abbrev pub judge : Standing → Word → Verdict
judge standing word =
    let after : Contents = plan_after standing.plan (call_of standing.phase word) in
    cond (may_stand standing.phase word)
    (cond (within_limits standing.phase word)
    (by_plan (plan_refusal standing.plan (call_of standing.phase word))
    (record { phase = phase_after after standing.phase word; plan = after })
    (brought_by standing.phase word))
    (Faulty FILE (number_of OutsideLimits)))
    (Faulty FILE (number_of OutOfOrder))
