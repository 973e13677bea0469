-- What the calls of a segment's book answer, and what they leave.
use Rattle.std.specs.Prelude.{◌≡◌, ℕ, ◌+◌, false, cond, ◌&&◌, ◌||◌, List, Some, None, Ok, Err, Option, Result, ◌==◌, nat_le, nat_lt, slice_index, slice_set}
use Rattle.weights.specs.Answers.{note_refusal, zero_weights}
use Rattle.weights.specs.Limits.{meter_count, greatest_amount}
use Rattle.book.specs.Contents.{Contents, count_at, marked_at, sum_at}
use Rattle.book.specs.Faults.{number_of}
use Rattle.book.specs.Limits.{hour_count}
use Rattle.book.specs.declared.fault.BookFault.{BookFault}
use Rattle.book.specs.declared.fault.BookFault.TheVariants.{OutOfRange, AlreadyBooked}

-- a newly opened book: no meter has an hour, and every sum and every weight is zero
pub record Opened (contents : Contents) : Type 0 where
  pub marks : (meter hour : ℕ) → marked_at contents meter hour ≡ false
  pub counts : (meter : ℕ) → count_at contents meter ≡ 0
  pub sums : (hour : ℕ) → sum_at contents hour ≡ 0
  pub weights : contents.weights ≡ zero_weights

-- the answer to a question: its value, or the fault with the number of the refusal
abbrev pub Answered : (refusal : Option ℕ) (value : ℕ) → Result ℕ BookFault → Type 0
Answered refusal value (Ok answer) = (refusal ≡ None) × (answer ≡ value)
Answered refusal value (Err fault) = refusal ≡ Some (number_of fault)

module _ (join : ℕ → ℕ → ℕ) (before : Contents) (meter : ℕ) where
  -- what the meter's weight and an amount join to
  abbrev pub joined_with : (amount : ℕ) → ℕ
  joined_with amount = join (slice_index before.weights meter) amount

  -- the weights with that number in the meter's place
  abbrev pub weights_with : (amount : ℕ) → List ℕ
  weights_with amount = slice_set before.weights meter (joined_with amount)

  -- The answer to a carried peak, with the contents after it: the peak is joined to the meter's weight, and marks and
  -- sums stay; or the fault with the number of the source's refusal, and all stays.
  abbrev pub Carried : (amount : ℕ) → Result (Unit {0}) BookFault → (after : Contents) → Type 0
  Carried amount (Ok _) after =
      (note_refusal meter amount (joined_with amount) ≡ None)
      × (after ≡ record { marks = before.marks; sums = before.sums; weights = weights_with amount })
  Carried amount (Err fault) after =
      (note_refusal meter amount (joined_with amount) ≡ Some (number_of fault)) × (after ≡ before)

  module _ (hour amount : ℕ) where
    -- The number that a booking is refused with, if any: 3 for a meter, an hour or an amount outside its limits, then 5
    -- for an hour that the meter already has, then what the source refuses the note with.
    abbrev pub book_refusal : Option ℕ
    book_refusal =
        cond (nat_lt meter meter_count && (nat_lt hour hour_count && nat_le amount greatest_amount))
        (cond (marked_at before meter hour) (Some (number_of AlreadyBooked)) (note_refusal meter amount (joined_with amount)))
        (Some (number_of OutOfRange))

    -- what an accepted booking leaves: the meter has that hour too, the amount is added to the hour's sum and joined to
    -- the meter's weight, and the rest is as it was
    pub record Entered (after : Contents) : Type 0 where
      pub marks : (m h : ℕ) → marked_at after m h ≡ (marked_at before m h || (m == meter && h == hour))
      pub counts : (m : ℕ) → count_at after m ≡ count_at before m + cond (m == meter) 1 0
      pub sums : (h : ℕ) → sum_at after h ≡ sum_at before h + cond (h == hour) amount 0
      pub weights : after.weights ≡ weights_with amount

    -- the answer to a booking, with the contents after it: a refusal leaves all as it was
    abbrev pub Booked : Result (Unit {0}) BookFault → (after : Contents) → Type 0
    Booked (Ok _) after = (book_refusal ≡ None) × Entered after
    Booked (Err fault) after = (book_refusal ≡ Some (number_of fault)) × (after ≡ before)
