-- What a plan holds, in plain numbers.
use Rattle.std.specs.Prelude.{ℕ, List, [], None, Option}
use Rattle.plan.specs.declared.carried.CarriedPeak.{CarriedPeak}
use Rattle.plan.specs.declared.meter.Meter.{Meter}

-- a period: so many hours of a month
pub record PeriodNumbers : Type 0 where
  pub year : ℕ
  pub month : ℕ
  pub hours : ℕ

-- the terms of a segment
pub record SegmentNumbers : Type 0 where
  pub service : ℕ
  pub tariff : ℕ
  pub factor : ℕ

-- the period, the terms of the segments from 0 on, the meters and the carried peaks, each list in the order of the calls
pub record Contents : Type 0 where
  pub period : Option PeriodNumbers
  pub segments : List SegmentNumbers
  pub meters : List Meter
  pub carried : List CarriedPeak

-- what a new plan holds
abbrev pub nothing : Contents
nothing = record { period = None; segments = []; meters = []; carried = [] }
