-- The segments, and their numbers.
use Rattle.std.specs.Prelude.{◌≡◌, ◌≤◌, ◌<◌, ℕ, MatchResult, Result}
use Rattle.plan.specs.declared.segment.Segment.{Segment}
use Rattle.plan.specs.declared.segment.Segment.TheVariants.{Amr, S30, Mrc, Eav}
use Rattle.plan.specs.declared.segment.UnknownSegment.{UnknownSegment}
use Rattle.plan.specs.Limits.{most_segments}

-- each segment's number
abbrev pub segment_number : Segment → ℕ
segment_number Amr = 0
segment_number S30 = 1
segment_number Mrc = 2
segment_number Eav = 3

-- what the segment of a number is: the one whose number it is, exactly where the number is below the count of segments
abbrev pub NumbersSegment : ℕ → Result Segment UnknownSegment → Type 0
NumbersSegment number r = MatchResult r
    (λ segment. (segment_number segment ≡ number) × (number < most_segments))
    (λ unknown. (unknown.0 ≡ number) × (most_segments ≤ number))
