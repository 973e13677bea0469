-- The parts of well-made contents, one by one. Assumes nothing.
use Rattle.std.proofs.Common.{◌≡◌, ◌≤◌, true, ◌&&◌, ◌||◌, leb, length}
use Rattle.std.proofs.lemmas.Bool.{and_from, and_parts, le-leb, leb-true}
use Rattle.std.specs.List.{list_all}
use Rattle.plan.specs.Calls.{is_empty, meter_fits, peak_fits, peak_precedes, precedes, terms_fit}
use Rattle.plan.specs.Contents.{Contents}
use Rattle.plan.specs.Limits.{most_segments}
use Rattle.plan.specs.Questions.{is_assigned, is_full}
use Rattle.plan.specs.WellMade.{ascending, carried_stand, meters_stand, period_stands, segments_stand, is_well_made}

pub record Standing (plan : Contents) : Type 0 where
  pub settled : period_stands plan.period ≡ true
  pub few : length plan.segments ≤ most_segments
  pub allowed : list_all (terms_fit plan.period) plan.segments ≡ true
  pub meters_begun : (is_full plan || is_empty plan.meters) ≡ true
  pub meters_fit : list_all meter_fits plan.meters ≡ true
  pub meters_ascend : ascending precedes plan.meters ≡ true
  pub carried_begun : (is_full plan || is_empty plan.carried) ≡ true
  pub carried_fit : list_all (λ p. peak_fits p && is_assigned plan.meters p.meter) plan.carried ≡ true
  pub carried_ascend : ascending peak_precedes plan.carried ≡ true

pub standing : (plan : Contents) → is_well_made plan ≡ true → Standing plan
unfolding is_well_made
standing plan h =
    let p = and_parts (period_stands plan.period) (segments_stand plan && (meters_stand plan && carried_stand plan)) h in
    let q = and_parts (segments_stand plan) (meters_stand plan && carried_stand plan) p.1 in
    let r = and_parts (meters_stand plan) (carried_stand plan) q.1 in
    let s = and_parts (leb (length plan.segments) most_segments) (list_all (terms_fit plan.period) plan.segments) q.0 in
    let m = and_parts (is_full plan || is_empty plan.meters) (list_all meter_fits plan.meters && ascending precedes plan.meters) r.0 in
    let n = and_parts (list_all meter_fits plan.meters) (ascending precedes plan.meters) m.1 in
    let c = and_parts (is_full plan || is_empty plan.carried) (list_all (λ k. peak_fits k && is_assigned plan.meters k.meter) plan.carried && ascending peak_precedes plan.carried) r.1 in
    let d = and_parts (list_all (λ k. peak_fits k && is_assigned plan.meters k.meter) plan.carried) (ascending peak_precedes plan.carried) c.1 in
    record {
      settled = p.0;
      few = leb-true (length plan.segments) most_segments s.0;
      allowed = s.1;
      meters_begun = m.0;
      meters_fit = n.0;
      meters_ascend = n.1;
      carried_begun = c.0;
      carried_fit = d.0;
      carried_ascend = d.1;
    }

pub standing_is_well_made : (plan : Contents) → Standing plan → is_well_made plan ≡ true
unfolding is_well_made
standing_is_well_made plan s =
    and_from (period_stands plan.period) (segments_stand plan && (meters_stand plan && carried_stand plan)) s.settled
    (and_from (segments_stand plan) (meters_stand plan && carried_stand plan)
    (and_from (leb (length plan.segments) most_segments) (list_all (terms_fit plan.period) plan.segments) (le-leb (length plan.segments) most_segments s.few) s.allowed)
    (and_from (meters_stand plan) (carried_stand plan)
    (and_from (is_full plan || is_empty plan.meters) (list_all meter_fits plan.meters && ascending precedes plan.meters) s.meters_begun
    (and_from (list_all meter_fits plan.meters) (ascending precedes plan.meters) s.meters_fit s.meters_ascend))
    (and_from (is_full plan || is_empty plan.carried) (list_all (λ k. peak_fits k && is_assigned plan.meters k.meter) plan.carried && ascending peak_precedes plan.carried) s.carried_begun
    (and_from (list_all (λ k. peak_fits k && is_assigned plan.meters k.meter) plan.carried) (ascending peak_precedes plan.carried) s.carried_fit s.carried_ascend))))
