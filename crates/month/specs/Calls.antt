-- Calls on an open month, in any order: which bookings they accept, and what they answer.
use Rattle.std.specs.Prelude.{◌≡◌, ℕ, ◌+◌, Bool, true, false, cond, not, List, [], ◌∷◌, ◌++◌, is_some, Some, None, Ok, Err, fold, Result}
use Rattle.std.specs.List.{list_all}
use Rattle.plan.specs.declared.booking.Booking.{Booking}
use Rattle.month.specs.Bookings.{ask_refusal, booked_of, booking_refusal, lacked_of, missing_of}
use Rattle.month.specs.Faults.{number_of}
use Rattle.month.specs.Terms.{Terms, hours_of}
use Rattle.month.specs.declared.call.Answer.{Answer}
use Rattle.month.specs.declared.call.Answer.TheVariants.{Booked, Missing}
use Rattle.month.specs.declared.call.Call.{Call}
use Rattle.month.specs.declared.call.Call.TheVariants.{Book, Ask}
use Rattle.month.specs.declared.fault.BookingFault.{BookingFault}

-- The accepted bookings after a call: a booking enters them exactly when none of its checks refuses it, hours and weights
-- taken from those before it; a question leaves them.
abbrev pub after_call : Terms → List Booking → Call → List Booking
after_call terms bookings (Book b) = cond (is_some (booking_refusal terms bookings b)) bookings (bookings ++ b ∷ [])
after_call terms bookings (Ask segment meter) = bookings

-- the accepted bookings after a list of calls
abbrev pub accepted_from : Terms → List Booking → List Call → List Booking
accepted_from terms bookings calls = fold (after_call terms) bookings calls

-- the same in a newly opened month
abbrev pub accepted : Terms → List Call → List Booking
accepted terms calls = accepted_from terms [] calls

-- what a booking answers: the number of its refusal, if it has one
abbrev pub AnswersBooking : Terms → List Booking → Booking → Result (Unit {0}) BookingFault → Type 0
AnswersBooking terms bookings b (Ok _) = booking_refusal terms bookings b ≡ None
AnswersBooking terms bookings b (Err fault) = booking_refusal terms bookings b ≡ Some (number_of fault)

-- what a question answers: the hours that the meter misses, which with its bookings make up the month and are as many as
-- the hours that it has no booking of; or the number of its refusal
abbrev pub AnswersQuestion : Terms → List Booking → (segment meter : ℕ) → Result ℕ BookingFault → Type 0
AnswersQuestion terms bookings segment meter (Ok missing) =
    (ask_refusal terms.contents segment meter ≡ None)
    × (missing ≡ missing_of terms bookings segment meter)
    × (missing + booked_of bookings segment meter ≡ hours_of terms.contents)
    × (missing ≡ lacked_of terms bookings segment meter)
AnswersQuestion terms bookings segment meter (Err fault) = ask_refusal terms.contents segment meter ≡ Some (number_of fault)

-- what a call answers
abbrev pub Answers : Terms → List Booking → Call → Result Answer BookingFault → Type 0
Answers terms bookings (Book b) (Ok Booked) = AnswersBooking terms bookings b (Ok tt)
Answers terms bookings (Book b) (Ok (Missing n)) = ⊥
Answers terms bookings (Book b) (Err fault) = AnswersBooking terms bookings b (Err fault)
Answers terms bookings (Ask segment meter) (Ok Booked) = ⊥
Answers terms bookings (Ask segment meter) (Ok (Missing n)) = AnswersQuestion terms bookings segment meter (Ok n)
Answers terms bookings (Ask segment meter) (Err fault) = AnswersQuestion terms bookings segment meter (Err fault)

-- what calls answer one by one, each over the bookings that those before it left
abbrev pub AnswersEach : Terms → List Booking → List Call → List (Result Answer BookingFault) → Type 0
AnswersEach terms bookings [] [] = Unit {0}
AnswersEach terms bookings [] (answer ∷ answers) = ⊥
AnswersEach terms bookings (call ∷ calls) [] = ⊥
AnswersEach terms bookings (call ∷ calls) (answer ∷ answers) =
    Answers terms bookings call answer × AnswersEach terms (after_call terms bookings call) calls answers

-- is it the answer to an accepted booking
abbrev pub is_booked : Result Answer BookingFault → Bool
is_booked (Ok Booked) = true
is_booked (Ok (Missing n)) = false
is_booked (Err fault) = false

-- do the answers tell of no accepted booking
abbrev pub none_booked : List (Result Answer BookingFault) → Bool
none_booked answers = list_all (λ answer. not (is_booked answer)) answers
