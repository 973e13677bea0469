-- The limits of a meter and of a carried peak, one by one. Assumes nothing.
use Rattle.std.proofs.Common.{◌≡◌, ℕ, ◌<◌, ◌≤◌, Bool, true, false, cond, ◌&&◌, nat_eq, List, [], ◌∷◌, Some, None, Option, IfSome, arith}
use Rattle.std.proofs.lemmas.Bool.{and_parts}
use Rattle.std.specs.List.{list_all}
use Rattle.std.specs.Option.{option_map}
use Rattle.std.proofs.lemmas.Bool.Decides.{nat_tests}
use Rattle.plan.specs.declared.carried.CarriedPeak.{CarriedPeak}
use Rattle.plan.specs.declared.meter.Meter.{Meter}
use Rattle.plan.specs.Calls.{meter_fits, peak_fits}
use Rattle.plan.specs.Contents.{Contents}
use Rattle.plan.specs.Questions.{first_of, holder_of, holding, is_assigned, is_meter, peak_of}
use Rattle.plan.specs.Limits.{greatest_amount, most_meters, most_segments, most_stations, most_users}

pub record MeterWithin (m : Meter) : Type 0 where
  pub segment_below : m.segment < most_segments
  pub number_below : m.number < most_meters
  pub user_below : m.user < most_users
  pub station_below : m.station < most_stations

pub meter_is_within : (m : Meter) → meter_fits m ≡ true → MeterWithin m
meter_is_within m h = record {
  segment_below = grind (arith, nat_tests);
  number_below = grind (arith, nat_tests);
  user_below = grind (arith, nat_tests);
  station_below = grind (arith, nat_tests);
}

pub record PeakWithin (p : CarriedPeak) : Type 0 where
  pub meter_below : p.meter < most_meters
  pub amount_least : 1 ≤ p.amount
  pub amount_most : p.amount ≤ greatest_amount

pub peak_within : (p : CarriedPeak) → peak_fits p ≡ true → PeakWithin p
peak_within p h = record {
  meter_below = grind (arith, nat_tests);
  amount_least = grind (arith, nat_tests);
  amount_most = grind (arith, nat_tests);
}

-- what all of a list pass, the first of it that passes a test does
first_passes : {X : Type 0} (test p : X → Bool) (xs : List X) → list_all p xs ≡ true → IfSome (first_of test xs) (λ x. p x ≡ true)
first_passes test p [] h = tt
first_passes test p (x ∷ xs) h =
    let both = and_parts (p x) (list_all p xs) h in
    elim (test x) as (λ t. IfSome (cond t (Some x) (first_of test xs)) (λ y. p y ≡ true)) [ true ↦ both.0 | false ↦ first_passes test p xs both.1 ]

map_within : {X Y : Type 0} (f : X → Y) (P : X → Type 0) (Q : Y → Type 0) → ((x : X) → P x → Q (f x)) → (o : Option X) → IfSome o P → IfSome (option_map f o) Q
map_within f P Q step None h = tt
map_within f P Q step (Some x) h = step x h

pub holder_within : (plan : Contents) (segment number : ℕ) → list_all meter_fits plan.meters ≡ true → IfSome (holder_of plan segment number) (λ h. (h.user < most_users) × (h.station < most_stations))
holder_within plan segment number fit =
    map_within holding (λ m. meter_fits m ≡ true) (λ h. (h.user < most_users) × (h.station < most_stations))
    (λ m e. let within = meter_is_within m e in (within.user_below, within.station_below))
    (first_of (is_meter segment number) plan.meters) (first_passes (is_meter segment number) meter_fits plan.meters fit)

pub peak_of_within : (plan : Contents) (meter : ℕ) → list_all (λ p. peak_fits p && is_assigned plan.meters p.meter) plan.carried ≡ true → IfSome (peak_of plan meter) (λ amount. (1 ≤ amount) × (amount ≤ greatest_amount))
peak_of_within plan meter fit =
    map_within (λ p. p.amount) (λ p. (peak_fits p && is_assigned plan.meters p.meter) ≡ true) (λ amount. (1 ≤ amount) × (amount ≤ greatest_amount))
    (λ p e. let within = peak_within p (and_parts (peak_fits p) (is_assigned plan.meters p.meter) e).0 in (within.amount_least, within.amount_most))
    (first_of (λ p. nat_eq p.meter meter) plan.carried)
    (first_passes (λ p. nat_eq p.meter meter) (λ p. peak_fits p && is_assigned plan.meters p.meter) plan.carried fit)
