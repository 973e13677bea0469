-- A cut of a total by weights: what a cutting rule owes, when a cut is refused, and what a cut leaves. Assumes nothing.
use Rattle.std.specs.Prelude.{◌≡◌, ℕ, ◌+◌, ◌*◌, ◌<◌, ◌≤◌, cond, ◌&&◌, List, ◌++◌, length, drop, replicate, Some, None, Ok, Err, sum, Option, Result, ◌==◌, nat_lt, slice_index}
use Rattle.apportion.specs.declared.fault.CutFault.{CutFault}
use Rattle.apportion.specs.declared.fault.CutFault.TheVariants.{ManyWeights, FewPlaces, HeavyWeights, LargeTotal, NoWeight}

-- how many weights a cut takes at most
abbrev pub most_weights : ℕ
most_weights = 16

-- the greatest sum of weights that a cut takes
abbrev pub heaviest : ℕ
heaviest = 1000000000

-- the greatest total that largest remainder and the running cut take
abbrev pub greatest_total : ℕ
greatest_total = 3000000000

-- the number of each refusal
abbrev pub number_of : CutFault → ℕ
number_of ManyWeights = 3
number_of FewPlaces = 10
number_of HeavyWeights = 6
number_of LargeTotal = 8
number_of NoWeight = 9

-- the number that an answer hands to the caller, if it is a refusal
abbrev pub told : {X : Type 0} → Result X CutFault → Option ℕ
told (Ok _) = None
told (Err fault) = Some (number_of fault)

-- The parts of a whole that was cut by weights. Where the weights are not all zero the parts add up to the whole, and
-- each differs from whole × weight ÷ sum of the weights by less than a unit. Nothing cut by no weight is nothing for each.
pub record Shared (whole : ℕ) (weights parts : List ℕ) : Type 0 where
  pub sized : length parts ≡ length weights
  pub adds : 0 < sum weights → sum parts ≡ whole
  pub over : 0 < sum weights → (k : ℕ) → k < length weights → sum weights * slice_index parts k < whole * slice_index weights k + sum weights
  pub under : 0 < sum weights → (k : ℕ) → k < length weights → whole * slice_index weights k < sum weights * slice_index parts k + sum weights
  pub nothing : sum weights ≡ 0 → whole ≡ 0 → parts ≡ replicate (length weights) 0

-- What every cutting rule owes of its shares, for totals up to the greatest that it takes.
abbrev pub Fair : ℕ → (ℕ → List ℕ → List ℕ) → Type 0
Fair greatest shares =
    (total : ℕ) (weights : List ℕ) → total ≤ greatest → length weights ≤ most_weights → sum weights ≤ heaviest
    → Shared total weights (shares total weights)

-- The number that a cut is refused with, if it is: the first of these that holds.
abbrev pub refusal : ℕ → ℕ → List ℕ → ℕ → Option ℕ
refusal greatest total weights places =
    cond (nat_lt most_weights (length weights)) (Some (number_of ManyWeights))
    (cond (nat_lt places (length weights)) (Some (number_of FewPlaces))
    (cond (nat_lt heaviest (sum weights)) (Some (number_of HeavyWeights))
    (cond (nat_lt greatest total) (Some (number_of LargeTotal))
    (cond (sum weights == 0 && nat_lt 0 total) (Some (number_of NoWeight)) None))))

-- What a cut answers and what stands in the places after it.
pub record Outcome : Type 0 where
  pub answer : Option ℕ
  pub places : List ℕ

-- A refusal leaves the places; otherwise the shares stand in the first places, and the places beyond stay.
abbrev pub leaves : Option ℕ → List ℕ → List ℕ → List ℕ
leaves None shares places = shares ++ drop (length shares) places
leaves (Some _) shares places = places

abbrev pub outcome : ℕ → (ℕ → List ℕ → List ℕ) → ℕ → List ℕ → List ℕ → Outcome
outcome greatest shares total weights places = record {
  answer = refusal greatest total weights (length places);
  places = leaves (refusal greatest total weights (length places)) (shares total weights) places;
}
