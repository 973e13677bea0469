-- What the calls of a weight source answer, and what they leave.
use Rattle.std.specs.Prelude.{◌≡◌, ℕ, cond, ◌&&◌, List, replicate, Some, None, Ok, Err, Option, Result, nat_le, nat_lt, slice_index, slice_set}
use Rattle.weights.specs.Limits.{meter_count, greatest_amount, greatest_weight}
use Rattle.weights.specs.declared.fault.WeightFault.{WeightFault}
use Rattle.weights.specs.declared.fault.WeightFault.TheVariants.{OutOfRange, TooHeavy}

-- every weight zero
abbrev pub zero_weights : List ℕ
zero_weights = replicate meter_count 0

-- the number that a caller is handed for each fault
abbrev pub number_of : WeightFault → ℕ
number_of OutOfRange = 3
number_of TooHeavy = 6

-- the number that the question for a meter's weight is refused with, if any
abbrev pub ask_refusal : ℕ → Option ℕ
ask_refusal meter = cond (nat_lt meter meter_count) None (Some (number_of OutOfRange))

-- The number that a note is refused with, if any: 3 for a meter or an amount outside its limits, then 6 where the
-- joined number, which would be the new weight, passes the greatest one.
abbrev pub note_refusal : (meter amount joined : ℕ) → Option ℕ
note_refusal meter amount joined =
    cond (nat_lt meter meter_count && nat_le amount greatest_amount) (cond (nat_le joined greatest_weight) None (Some (number_of TooHeavy))) (Some (number_of OutOfRange))

-- The answer to the question for a meter's weight: the weight, or the fault with the number of the refusal.
abbrev pub Asked : (weights : List ℕ) (meter : ℕ) → Result ℕ WeightFault → Type 0
Asked weights meter (Ok weight) = (ask_refusal meter ≡ None) × (weight ≡ slice_index weights meter)
Asked weights meter (Err fault) = ask_refusal meter ≡ Some (number_of fault)

-- The answer to a note, with the weights before and after it: the joined number in the meter's place and the others as
-- they were, or the fault with the number of the refusal and all weights as they were.
abbrev pub Noted : (join : ℕ → ℕ → ℕ) (weights : List ℕ) (meter amount : ℕ) →
    Result (Unit {0}) WeightFault →
    (after : List ℕ) →
    Type 0
Noted join weights meter amount (Ok _) after =
    (note_refusal meter amount (join (slice_index weights meter) amount) ≡ None)
    × (after ≡ slice_set weights meter (join (slice_index weights meter) amount))
Noted join weights meter amount (Err fault) after =
    (note_refusal meter amount (join (slice_index weights meter) amount) ≡ Some (number_of fault)) × (after ≡ weights)
