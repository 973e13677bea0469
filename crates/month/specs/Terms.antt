-- What a month is opened with, and how many hours it has.
use Rattle.std.specs.Prelude.{ℕ, cond, List, [], Some, None, Option, ◌==◌}
use Rattle.std.specs.Option.{option_to_list}
use Rattle.plan.specs.Contents.{Contents, PeriodNumbers}
use Rattle.plan.specs.Limits.{amr}
use Rattle.plan.specs.Questions.{peak_of}

pub record Terms : Type 0 where
  -- what the plan holds
  pub contents : Contents
  -- the joining of each segment's weight source
  pub joins : ℕ → ℕ → ℕ → ℕ

-- the hours of a period; none without a period
abbrev pub period_hours : Option PeriodNumbers → ℕ
period_hours None = 0
period_hours (Some p) = p.hours

-- H, the hours of the month that the plan is for
abbrev pub hours_of : Contents → ℕ
hours_of plan = period_hours plan.period

-- the peak that a meter carries over, if any: only meters of the first segment carry one
abbrev pub peaks_of : Terms → (segment meter : ℕ) → List ℕ
peaks_of terms segment meter = cond (segment == amr) (option_to_list (peak_of terms.contents meter)) []

-- one of four things, by the number of the segment
abbrev pub by_segment : {X : Type 0} → (first second third fourth : X) (segment : ℕ) → X
by_segment first second third fourth segment =
    cond (segment == amr) first (cond (segment == 1) second (cond (segment == 2) third fourth))
