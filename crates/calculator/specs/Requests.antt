-- What may be asked of the calculator, and what it answers. Assumes nothing.
use Rattle.std.specs.Prelude.{◌≡◌, ℕ, ◌<◌, List, [], ◌∷◌, length, is_some, is_err, Some, Ok, Err, slice_index, string_bytes, codes, Option, Result, String}
use Rattle.apportion.specs.Cutting.{greatest_total, most_weights, refusal}
use Rattle.apportion.specs.LargestRemainder.{largest_remainder}
use Rattle.apportion.specs.RunningCut.{running_cut}
use Rattle.plan.specs.Contents.{PeriodNumbers}
use Rattle.tariff.specs.Totals.{segment_total, total_refusal}
use Rattle.calculator.specs.Faults.{refusal_line}
use Rattle.calculator.specs.FeeRequests.{fee_number, fee_in_cents}
use Rattle.calculator.specs.Replies.{WriteAll, reply_line}
use Rattle.calculator.specs.declared.fault.RequestFault.{RequestFault}
use Rattle.calculator.specs.declared.fault.RequestFault.TheVariants.{BadUsage, Memory}

-- A request: the shares of a total by weights, under one of the rules; a segment's total; or a fee.
pub data Request : Type 0 where
  -- total and weights
  Largest : ℕ → List ℕ → Request
  Running : ℕ → List ℕ → Request
  -- peak and factor
  Total : ℕ → ℕ → Request
  -- year, month and hours; service and tariff; capacity
  Fee : PeriodNumbers → ℕ → ℕ → ℕ → Request

-- The name and the numbers of a request. A cut wants a total and at least one weight.
abbrev pub Named : List ℕ → List ℕ → Request → Type 0
Named name numbers (Largest total weights) = (name ≡ codes "largest") × (numbers ≡ total ∷ weights) × (0 < length weights)
Named name numbers (Running total weights) = (name ≡ codes "running") × (numbers ≡ total ∷ weights) × (0 < length weights)
Named name numbers (Total peak factor) = (name ≡ codes "total") × (numbers ≡ peak ∷ factor ∷ [])
Named name numbers (Fee p service tariff capacity) =
    (name ≡ codes "fee") × (numbers ≡ p.year ∷ p.month ∷ p.hours ∷ service ∷ tariff ∷ capacity ∷ [])

-- The words that make a request: its name, then the numbers.
abbrev pub Asks : {A : Type 0} → List (String A) → Request → Type 0
Asks [] request = ⊥
Asks (word ∷ words) request = (numbers : List ℕ) × WriteAll words numbers × Named (string_bytes word) numbers request

-- the request for a total that two numbers make, and the one for a fee that six make
abbrev pub total_asked : List ℕ → Request
total_asked numbers = Total (slice_index numbers 0) (slice_index numbers 1)

abbrev pub fee_asked : List ℕ → Request
fee_asked numbers =
    Fee (record { year = slice_index numbers 0; month = slice_index numbers 1; hours = slice_index numbers 2 })
    (slice_index numbers 3) (slice_index numbers 4) (slice_index numbers 5)

-- the number that a request is refused with, if it is
abbrev pub refusal_of : Request → Option ℕ
refusal_of (Largest total weights) = refusal greatest_total total weights most_weights
refusal_of (Running total weights) = refusal greatest_total total weights most_weights
refusal_of (Total peak factor) = total_refusal peak factor
refusal_of (Fee p service tariff capacity) = fee_number p service tariff capacity

-- the numbers that a request asks for
abbrev pub result_of : Request → List ℕ
result_of (Largest total weights) = largest_remainder total weights
result_of (Running total weights) = running_cut total weights
result_of (Total peak factor) = segment_total peak factor ∷ []
result_of (Fee p service tariff capacity) = fee_in_cents p service tariff capacity ∷ []

-- why words are not read as numbers: a word writes none, or memory is wanting
abbrev pub Unread : {A : Type 0} → List (String A) → RequestFault → Type 0
Unread words BadUsage = (numbers : List ℕ) → WriteAll words numbers → ⊥
Unread words Memory = Unit {0}
Unread words fault = ⊥

-- the line that an answer gives, if it gives one
abbrev pub line_of : {A : Type 0} → Result (String A) RequestFault → Option (List ℕ)
line_of (Ok line) = Some (string_bytes line)
line_of (Err fault) = refusal_line fault

-- the answer tells the refusal, or else the numbers
pub record Says {A : Type 0} (answer : Result (String A) RequestFault) (number : Option ℕ) (numbers : List ℕ) : Type 0 where
  pub line : line_of answer ≡ Some (reply_line number numbers)
  pub refused : is_err answer ≡ is_some number

-- The answer where these are the requests that were made: bad usage where there is none, else the reply to one.
-- Where memory is wanting, nothing is said.
abbrev pub AnsweredBy : {A : Type 0} → (Request → Type 0) → Result (String A) RequestFault → Type 0
AnsweredBy Made (Err BadUsage) = (request : Request) → Made request → ⊥
AnsweredBy Made (Err Memory) = Unit {0}
AnsweredBy Made answer = (request : Request) × Made request × Says answer (refusal_of request) (result_of request)

-- The same where numbers are a request of one kind or none.
abbrev pub Replies : {A : Type 0} → Type 0 → Option ℕ → List ℕ → Result (String A) RequestFault → Type 0
Replies Asked number numbers (Err BadUsage) = Asked → ⊥
Replies Asked number numbers (Err Memory) = Unit {0}
Replies Asked number numbers answer = Asked × Says answer number numbers
