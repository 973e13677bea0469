-- A full plan lacks nothing. Assumes nothing.
use Rattle.std.proofs.Common.{◌≡◌, true, length, get_or, is_some, Some, None, Option, refl, ap, arith}
use Rattle.std.proofs.lemmas.Option.{slice_get-get_or}
use Rattle.std.proofs.lemmas.Bool.{eqb-true}
use Rattle.plan.specs.Calls.{terms_fit}
use Rattle.plan.specs.Contents.{Contents, PeriodNumbers, SegmentNumbers}
use Rattle.plan.specs.Limits.{most_segments}
use Rattle.plan.specs.Questions.{Complete, is_full}
use Rattle.plan.specs.WellMade.{is_well_made}
use Rattle.plan.proofs.Passing.{all_pass-get_or}
use Rattle.plan.proofs.Standing.{standing}

pub some_from_fit : (o : Option PeriodNumbers) (s : SegmentNumbers) → terms_fit o s ≡ true → is_some o ≡ true
some_from_fit None s h = h
some_from_fit (Some p) s h = refl

pub complete : (plan : Contents) → is_well_made plan ≡ true → is_full plan ≡ true → Complete plan
complete plan w h =
    let any : SegmentNumbers = record { service = 0; tariff = 0; factor = 0 } in
    let long : length plan.segments ≡ most_segments = eqb-true (length plan.segments) most_segments h in
    let fit = all_pass-get_or (terms_fit plan.period) plan.segments 0 any (omega arith) (standing plan w).allowed in
    (some_from_fit plan.period (get_or plan.segments 0 any) fit, λ segment l. ap is_some (slice_get-get_or plan.segments segment any (omega arith)))
