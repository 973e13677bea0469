-- Which word may stand in which phase, case by case. Assumes nothing.
use Rattle.std.proofs.Common.{◌≡◌, ℕ, Bool, true, false, not, eqb}
use Rattle.std.proofs.lemmas.Bool.{false≢true, not-true, eqb-true}
use Rattle.words.specs.declared.segment_word.SegmentWord.{SegmentWord}
use Rattle.words.specs.declared.spot.Spot.{Spot}
use Rattle.words.specs.declared.word.Word.{Word}
use Rattle.words.specs.declared.word.Word.TheVariants.{Period, Segment, Factor, Meter, Select, Amount, Carried}
use Rattle.monthfile.specs.declared.phase.Phase.{Phase}
use Rattle.monthfile.specs.declared.phase.Phase.TheVariants.{Start, Segments, Terms, Meters, Peaks, Selected, Booked}
use Rattle.monthfile.specs.Judging.{may_stand, redundant}

pub data Allowed : Phase → Word → Type 0 where
  period : {y m h : ℕ} → Allowed Start (Period y m h)
  segment : {given : SegmentWord} → Allowed Segments (Segment given)
  factor : {given : SegmentWord} {u f : ℕ} → given.segment ≡ u → Allowed (Terms given) (Factor u f)
  meter : {s u p m : ℕ} → Allowed Meters (Meter s u p m)
  first_peak : {m a : ℕ} → Allowed Meters (Carried m a)
  next_peak : {m a : ℕ} → Allowed Peaks (Carried m a)
  select_after_meters : {spot : Spot} → Allowed Meters (Select spot)
  select_after_peaks : {spot : Spot} → Allowed Peaks (Select spot)
  select_anew : {next spot : Spot} → redundant next (Select spot) ≡ false → Allowed (Booked next) (Select spot)
  selected_amount : {spot : Spot} {a : ℕ} → Allowed (Selected spot) (Amount a)
  next_amount : {spot : Spot} {a : ℕ} → Allowed (Booked spot) (Amount a)

pub allowed : (phase : Phase) (word : Word) → may_stand phase word ≡ true → Allowed phase word
allowed Start (Period y m h) e = period
allowed Start (Segment given) e = absurd (false≢true e)
allowed Start (Factor s f) e = absurd (false≢true e)
allowed Start (Meter s u p m) e = absurd (false≢true e)
allowed Start (Select spot) e = absurd (false≢true e)
allowed Start (Amount a) e = absurd (false≢true e)
allowed Start (Carried m a) e = absurd (false≢true e)
allowed Segments (Period y m h) e = absurd (false≢true e)
allowed Segments (Segment given) e = segment
allowed Segments (Factor s f) e = absurd (false≢true e)
allowed Segments (Meter s u p m) e = absurd (false≢true e)
allowed Segments (Select spot) e = absurd (false≢true e)
allowed Segments (Amount a) e = absurd (false≢true e)
allowed Segments (Carried m a) e = absurd (false≢true e)
allowed (Terms given) (Period y m h) e = absurd (false≢true e)
allowed (Terms given) (Segment other) e = absurd (false≢true e)
allowed (Terms given) (Factor u f) e = factor (eqb-true given.segment u (double (eqb given.segment u) e))
  where
    double : (b : Bool) → not (not b) ≡ true → b ≡ true
    double true h = h
    double false h = h
allowed (Terms given) (Meter u w p m) e = absurd (false≢true e)
allowed (Terms given) (Select spot) e = absurd (false≢true e)
allowed (Terms given) (Amount a) e = absurd (false≢true e)
allowed (Terms given) (Carried m a) e = absurd (false≢true e)
allowed Meters (Period y m h) e = absurd (false≢true e)
allowed Meters (Segment given) e = absurd (false≢true e)
allowed Meters (Factor s f) e = absurd (false≢true e)
allowed Meters (Meter s u p m) e = meter
allowed Meters (Select spot) e = select_after_meters
allowed Meters (Amount a) e = absurd (false≢true e)
allowed Meters (Carried m a) e = first_peak
allowed Peaks (Period y m h) e = absurd (false≢true e)
allowed Peaks (Segment given) e = absurd (false≢true e)
allowed Peaks (Factor s f) e = absurd (false≢true e)
allowed Peaks (Meter s u p m) e = absurd (false≢true e)
allowed Peaks (Select spot) e = select_after_peaks
allowed Peaks (Amount a) e = absurd (false≢true e)
allowed Peaks (Carried m a) e = next_peak
allowed (Selected spot) (Period y n k) e = absurd (false≢true e)
allowed (Selected spot) (Segment given) e = absurd (false≢true e)
allowed (Selected spot) (Factor u f) e = absurd (false≢true e)
allowed (Selected spot) (Meter u w p n) e = absurd (false≢true e)
allowed (Selected spot) (Select other) e = absurd (false≢true e)
allowed (Selected spot) (Amount a) e = selected_amount
allowed (Selected spot) (Carried n a) e = absurd (false≢true e)
allowed (Booked next) (Period y n k) e = absurd (false≢true e)
allowed (Booked next) (Segment given) e = absurd (false≢true e)
allowed (Booked next) (Factor u f) e = absurd (false≢true e)
allowed (Booked next) (Meter u w p n) e = absurd (false≢true e)
allowed (Booked next) (Select spot) e = select_anew (not-true _ e)
allowed (Booked next) (Amount a) e = next_amount
allowed (Booked next) (Carried n a) e = absurd (false≢true e)
