-- The parts of a plan, as the program holds them, in plain numbers.
use Rattle.std.specs.Prelude.{List, map, Option}
use Rattle.std.specs.Option.{option_map}
use Rattle.calendar.specs.declared.period.Period.{Period}
use Rattle.tariff.specs.Services.{service_number}
use Rattle.tariff.specs.declared.terms.Terms.{Terms}
use Rattle.plan.specs.declared.carried.CarriedPeak.{CarriedPeak}
use Rattle.plan.specs.declared.meter.Meter.{Meter}
use Rattle.plan.specs.Contents.{Contents, PeriodNumbers, SegmentNumbers}

abbrev pub period_numbers : Period → PeriodNumbers
period_numbers p = record { year = p.year; month = p.month; hours = p.hours }

abbrev pub segment_numbers : Terms → SegmentNumbers
segment_numbers t = record { service = service_number t.service; tariff = t.tariff; factor = t.factor }

abbrev pub view_of : Option Period → List Terms → List Meter → List CarriedPeak → Contents
view_of period segments meters carried = record {
  period = option_map period_numbers period;
  segments = map segment_numbers segments;
  meters = meters;
  carried = carried;
}
