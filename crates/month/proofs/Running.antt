-- Calls made one after another.
use Rattle.std.proofs.Common.{◌≡◌, ℕ, ◌+◌, ◌<◌, true, false, not, List, [], ◌∷◌, ◌++◌, length, get_or, take, sym, refl, ◌∙◌, subst, arith, Result}
use Rattle.std.proofs.lemmas.Bool.{and_from, and_parts}
use Rattle.std.proofs.lemmas.List.{take_more}
use Rattle.std.proofs.lemmas.List.Sums.{fold_more}
use Rattle.plan.specs.declared.booking.Booking.{Booking}
use Rattle.month.specs.Calls.{Answers, AnswersEach, accepted_from, after_call, is_booked, none_booked}
use Rattle.month.specs.Stands.{Stands, State, Unchanged}
use Rattle.month.specs.Terms.{Terms}
use Rattle.month.specs.declared.call.Answer.{Answer}
use Rattle.month.specs.declared.call.Call.{Call}
use Rattle.month.specs.declared.fault.BookingFault.{BookingFault}

-- one call more is answered over what those before it left
pub answers_push : (terms : Terms) (bookings : List Booking) (calls : List Call) (answers : List (Result Answer BookingFault)) (call : Call) (answer : Result Answer BookingFault) →
    AnswersEach terms bookings calls answers →
    Answers terms (accepted_from terms bookings calls) call answer →
    AnswersEach terms bookings (calls ++ call ∷ []) (answers ++ answer ∷ [])
answers_push terms bookings [] [] call answer each next = (next, tt)
answers_push terms bookings [] (a ∷ rest) call answer each next = absurd each
answers_push terms bookings (c ∷ cs) [] call answer each next = absurd each
answers_push terms bookings (c ∷ cs) (a ∷ rest) call answer each next =
    (each.0, answers_push terms (after_call terms bookings c) cs rest call answer each.1 next)

-- one turn: the call at place i is answered over what those before it left
pub next_call : (terms : Terms) (bookings : List Booking) (calls : List Call) (i : ℕ) (d : Call) (answers : List (Result Answer BookingFault)) (answer : Result Answer BookingFault)
    (before after : State) →
    i < length calls →
    Stands terms (accepted_from terms bookings (take i calls)) before × AnswersEach terms bookings (take i calls) answers →
    ((some : List Booking) →
    Stands terms some before →
    Answers terms some (get_or calls i d) answer × Stands terms (after_call terms some (get_or calls i d)) after) →
    Stands terms (accepted_from terms bookings (take (i + 1) calls)) after
    × AnswersEach terms bookings (take (i + 1) calls) (answers ++ answer ∷ [])
next_call terms bookings calls i d answers answer before after inside so_far next =
    let here = next (accepted_from terms bookings (take i calls)) so_far.0 in (
      subst (λ (l : List Booking). Stands terms l after) (sym (fold_more (after_call terms) bookings calls i d inside)) here.1,
      subst (λ (cs : List Call). AnswersEach terms bookings cs (answers ++ answer ∷ [])) (sym (take_more calls i d inside))
          (answers_push terms bookings (take i calls) answers (get_or calls i d) answer so_far.1 here.0),
    )

-- where no answer tells of an accepted booking, none of those before the last does, nor does the last
pub none_booked_push : (answers : List (Result Answer BookingFault)) (answer : Result Answer BookingFault) →
    none_booked (answers ++ answer ∷ []) ≡ true →
    (none_booked answers ≡ true) × (is_booked answer ≡ false)
none_booked_push [] answer e = (refl, grind arith)
none_booked_push (a ∷ rest) answer e =
    let both = and_parts (not (is_booked a)) (none_booked (rest ++ answer ∷ [])) e in
    let next = none_booked_push rest answer both.1 in
    (and_from (not (is_booked a)) (none_booked rest) both.0 next.0, next.1)

-- nothing has changed, and then nothing again
pub unchanged_then : (before then after : State) → Unchanged before then → Unchanged then after → Unchanged before after
unchanged_then before then after first next = record {
  contents = next.contents ∙ first.contents;
  joins = next.joins ∙ first.joins;
  books = λ segment l. next.books segment l ∙ first.books segment l;
}
