-- How many hours each assigned meter still misses.
use Rattle.std.specs.Prelude.{List, map, Ok}
use Rattle.std.specs.List.{AllByRecursion}
use Rattle.plan.specs.declared.booking.Booking.{Booking}
use Rattle.plan.specs.declared.meter.Meter.{Meter}
use Rattle.month.specs.Bookings.{missing_of}
use Rattle.month.specs.Calls.{AnswersQuestion}
use Rattle.month.specs.Terms.{Terms}
use Rattle.month.specs.declared.gaps.Gap.{Gap}

module _ (terms : Terms) (bookings : List Booking) where
  abbrev pub gap_of : Meter → Gap
  gap_of m = record {
    segment = m.segment;
    meter = m.number;
    hours = missing_of terms bookings m.segment m.number;
  }

  -- a gap for each meter of the plan, in its order
  abbrev pub gaps_of : List Gap
  gaps_of = map gap_of terms.contents.meters

  -- a gap has what the question about its meter answers
  abbrev pub AnswersGap : Gap → Type 0
  AnswersGap gap = AnswersQuestion terms bookings gap.segment gap.meter (Ok gap.hours)

  abbrev pub AnswersGaps : List Gap → Type 0
  AnswersGaps gaps = AllByRecursion AnswersGap gaps
