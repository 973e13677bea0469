-- When an opening is refused, and what noting the carried peaks leaves.
use Rattle.std.specs.Prelude.{◌≡◌, ℕ, ◌<◌, Bool, true, cond, List, None, Option, nat_eq, nat_le, slice_index}
use Rattle.std.specs.Option.{option_map, option_to_list}
use Rattle.std.specs.List.{list_all}
use Rattle.book.specs.declared.fault.BookFault.TheVariants.{Source}
use Rattle.book.specs.Contents.{Contents as BookContents}
use Rattle.plan.specs.Limits.{amr, most_meters}
use Rattle.plan.specs.Questions.{first_of, is_full}
use Rattle.plan.specs.declared.carried.CarriedPeak.{CarriedPeak}
use Rattle.weights.specs.Accepted.{joined_all}
use Rattle.weights.specs.Limits.{greatest_weight}
use Rattle.weights.specs.declared.fault.WeightFault.TheVariants.{TooHeavy}
use Rattle.month.specs.Faults.{opening_number_of}
use Rattle.month.specs.Terms.{Terms}
use Rattle.month.specs.declared.fault.OpeningFault.{OpeningFault}
use Rattle.month.specs.declared.fault.OpeningFault.TheVariants.{Memory, NotFull, Peak}

-- can each carried peak be noted: zero joined with it does not pass 15,000,000
abbrev pub peaks_light : (join : ℕ → ℕ → ℕ) → List CarriedPeak → Bool
peaks_light join peaks = list_all (λ p. nat_le (join 0 p.amount) greatest_weight) peaks

-- the number of a carried peak that cannot be noted
abbrev pub peak_too_heavy : Option ℕ
peak_too_heavy = opening_number_of (Peak (Source TooHeavy))

-- The number that an opening is refused with, if any: 2 where the plan is not full, then 6 where a carried peak cannot be
-- noted.
abbrev pub opening_refusal : Terms → Option ℕ
opening_refusal terms =
    cond (is_full terms.contents)
    (cond (peaks_light (terms.joins amr) terms.contents.carried) None peak_too_heavy)
    (opening_number_of NotFull)

-- The fault is the one that the terms call for. The books are made before the peaks are noted, so want of memory says
-- only that the plan is full.
abbrev pub RefusesOpening : Terms → OpeningFault → Type 0
RefusesOpening terms NotFull = opening_refusal terms ≡ opening_number_of NotFull
RefusesOpening terms (Peak fault) = opening_refusal terms ≡ opening_number_of (Peak fault)
RefusesOpening terms Memory = is_full terms.contents ≡ true

-- a book in which the peaks are noted: hours and sums are as they were, and each weight is zero joined with the peak
pub record PeaksNoted (join : ℕ → ℕ → ℕ) (peaks : List CarriedPeak) (before after : BookContents) : Type 0 where
  pub marks : after.marks ≡ before.marks
  pub sums : after.sums ≡ before.sums
  pub weights : (meter : ℕ) →
      meter < most_meters →
      slice_index after.weights meter
      ≡ joined_all join 0 (option_to_list (option_map (λ p. p.amount) (first_of (λ p. nat_eq p.meter meter) peaks)))
