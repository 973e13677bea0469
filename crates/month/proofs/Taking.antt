-- A booking keeps a month standing as its terms and accepted bookings say, and is answered as they say.
use Rattle.std.proofs.Common.{◌≡◌, ℕ, ◌+◌, ◌<◌, ◌≤◌, Bool, true, false, cond, ◌&&◌, ◌||◌, eqb, ltb, leb, List, [], ◌∷◌, ◌++◌, length, get_or, set, Some, None, Option, sym, ap, ◌∙◌, subst, ⊎_elim, arith}
use Rattle.std.proofs.lemmas.List.{get_or-set_other, get_or-set_same}
use Rattle.std.proofs.lemmas.Bool.{cases_eq, cond-false, cond-true}
use Rattle.std.proofs.lemmas.Bool.Decides.{nat_tests}
use Rattle.book.specs.Answers.{Entered, book_refusal, joined_with}
use Rattle.book.specs.Contents.{Contents as BookContents, marked_at}
use Rattle.book.specs.Limits.{hour_count}
use Rattle.plan.specs.Contents.{Contents as PlanContents}
use Rattle.plan.specs.Limits.{most_meters, most_segments}
use Rattle.plan.specs.declared.booking.Booking.{Booking}
use Rattle.weights.specs.Answers.{note_refusal as source_refusal}
use Rattle.weights.specs.Limits.{greatest_amount, greatest_weight, meter_count}
use Rattle.month.specs.Bookings.{booked_of, booking_refusal, booking_within, has_hour, is_of, own_refusal, refused_or, sum_of, weight_of}
use Rattle.month.specs.Calls.{after_call}
use Rattle.month.specs.Stands.{BookStands, Stands, State, Unchanged}
use Rattle.month.specs.Terms.{Terms, by_segment, hours_of}
use Rattle.month.specs.declared.call.Call.TheVariants.{Book}
use Rattle.month.proofs.Pushed.{after_refused, after_taken, booked_push, has_push, sum-push, taken_push, weight-push}
use Rattle.month.proofs.Within.{InLimits, in_limits}

-- what the book and the source check once more holds already
checked_twice : (meter hour amount joined : ℕ) (has : Bool) →
    meter < most_meters →
    hour < hour_count →
    amount ≤ greatest_amount →
    cond (ltb meter meter_count && (ltb hour hour_count && leb amount greatest_amount))
    (cond has (Some 5) (source_refusal meter amount joined))
    (Some 3)
    ≡ cond has (Some 5) (cond (leb joined greatest_weight) None (Some 6))
checked_twice meter hour amount joined has m h a = grind (arith, nat_tests)

-- the tests of a booking, at a meter and an hour of its own segment
has_own : (x : Bool) (m meter h hour segment : ℕ) →
    (x || (eqb m meter && eqb h hour)) ≡ (x || ((eqb segment segment && eqb meter m) && eqb hour h))
has_own x m meter h hour segment = grind (arith, nat_tests)

count_own : (m meter segment : ℕ) → ◌≡◌ {A = ℕ} (cond (eqb m meter) 1 0) (cond (eqb segment segment && eqb meter m) 1 0)
count_own m meter segment = grind (arith, nat_tests)

sum-own : (h hour amount segment : ℕ) → cond (eqb h hour) amount 0 ≡ cond (eqb segment segment && eqb hour h) amount 0
sum-own h hour amount segment = grind (arith, nat_tests)

own_meter : (meter segment : ℕ) → (eqb segment segment && eqb meter meter) ≡ true
own_meter meter segment = grind (arith, nat_tests)

other_meter : (m meter segment : ℕ) → (m ≡ meter → ⊥) → (eqb segment segment && eqb meter m) ≡ false
other_meter m meter segment e = grind (arith, nat_tests)

-- and of another segment
has_other : (x t u : Bool) (s segment : ℕ) → (s ≡ segment → ⊥) → x ≡ (x || ((eqb segment s && t) && u))
has_other x t u s segment e = grind (arith, nat_tests)

added_other : (n amount s segment : ℕ) (t : Bool) → (s ≡ segment → ⊥) → n ≡ n + cond (eqb segment s && t) amount 0
added_other n amount s segment t e = grind (arith, nat_tests)

weight-other : (w v s segment : ℕ) (t : Bool) → (s ≡ segment → ⊥) → w ≡ cond (eqb segment s && t) v w
weight-other w v s segment t e = grind (arith, nat_tests)

first_within : (within : Bool) (o : Option ℕ) → cond within o (Some 3) ≡ None → within ≡ true
first_within within o e = grind arith

-- a booking that the plan admits lies within its limits
pub admitted_limits : (plan : PlanContents) (b : Booking) →
    ((next : Option ℕ) → refused_or plan (booking_within (hours_of plan) b) b.segment b.meter next ≡ next) →
    InLimits (hours_of plan) b
admitted_limits plan b admitted = in_limits (hours_of plan) b (first_within _ _ (admitted None))

-- where the book of one segment holds what it held, and so do the others, nothing has changed
pub unchanged : (before after : State) (segment : ℕ) →
    after.contents ≡ before.contents →
    after.joins ≡ before.joins →
    ((other : ℕ) → other < most_segments → (other ≡ segment → ⊥) → after.books other ≡ before.books other) →
    after.books segment ≡ before.books segment →
    Unchanged before after
unchanged before after segment contents joins others own = record {
  contents = contents;
  joins = joins;
  books = λ other l.
      ⊎_elim (λ e. subst (λ (k : ℕ). after.books k ≡ before.books k) (sym e) own) (others other l) (cases_eq other segment);
}

module _ (terms : Terms) (bookings : List Booking) (b : Booking) (before : State) (s : Stands terms bookings before)
    (admitted : (next : Option ℕ) →
    refused_or before.contents (booking_within (hours_of before.contents) b) b.segment b.meter next ≡ next)
    (inside : b.hour < hour_count) where
  limits : InLimits (hours_of before.contents) b
  limits = admitted_limits before.contents b admitted

  segment_below : b.segment < most_segments
  segment_below = limits.segment_below

  abbrev join : ℕ → ℕ → ℕ
  join = before.joins b.segment

  abbrev held : BookContents
  held = before.books b.segment

  joined_same : joined_with join held b.meter b.amount
      ≡ terms.joins b.segment (weight_of terms bookings b.segment b.meter) b.amount
  joined_same = rw (s.joins b.segment segment_below, (s.books b.segment segment_below).weights b.meter limits.meter_below)

  has_same : marked_at held b.meter b.hour ≡ has_hour bookings b.segment b.meter b.hour
  has_same = (s.books b.segment segment_below).marks b.meter b.hour limits.meter_below inside

  -- the book refuses what the rules refuse
  same_refusal : book_refusal join held b.meter b.hour b.amount ≡ booking_refusal terms bookings b
  same_refusal =
      checked_twice b.meter b.hour b.amount (joined_with join held b.meter b.amount)
      (marked_at held b.meter b.hour) limits.meter_below inside limits.amount_most
      ∙ ap (λ (has : Bool). cond has (Some 5) (cond (leb (joined_with join held b.meter b.amount) greatest_weight) None (Some 6))) has_same
      ∙ ap (λ (n : ℕ). cond (has_hour bookings b.segment b.meter b.hour) (Some 5) (cond (leb n greatest_weight) None (Some 6))) joined_same
      ∙ sym (subst (λ plan. refused_or plan (booking_within (hours_of plan) b) b.segment b.meter (own_refusal terms bookings b) ≡ own_refusal terms bookings b) s.contents (admitted (own_refusal terms bookings b)))

  module _ (after : State) (plan-kept : after.contents ≡ before.contents) (joins-kept : after.joins ≡ before.joins)
      (others : (segment : ℕ) → segment < most_segments → (segment ≡ b.segment → ⊥) → after.books segment ≡ before.books segment) where
    -- nothing changed
    stands_refused : after.books b.segment ≡ before.books b.segment → Stands terms bookings after
    stands_refused own = record {
      contents = plan-kept ∙ s.contents;
      joins = λ segment l. ap (λ f. f segment) joins-kept ∙ s.joins segment l;
      opened = s.opened;
      taken = s.taken;
      books = λ segment l.
          subst (BookStands terms bookings segment) (sym ((unchanged before after b.segment plan-kept joins-kept others own).books segment l)) (s.books segment l);
    }

    module _ (sized : length held.weights ≡ meter_count) (taken : booking_refusal terms bookings b ≡ None)
        (entered : Entered join held b.meter b.hour b.amount (after.books b.segment)) where
      abbrev more : List Booking
      more = bookings ++ b ∷ []

      abbrev own : BookStands terms bookings b.segment held
      own = s.books b.segment segment_below

      abbrev joined : ℕ
      joined = joined_with join held b.meter b.amount

      weight-here : get_or (set held.weights b.meter joined) b.meter 0 ≡ weight_of terms more b.segment b.meter
      weight-here =
          let inside : b.meter < length held.weights = omega (arith, limits.meter_below, sized) in
          get_or-set_same held.weights b.meter joined 0 inside
          ∙ joined_same
          ∙ sym (cond-true (is_of b.segment b.meter b) _ _ (own_meter b.meter b.segment))
          ∙ sym (weight-push bookings b terms b.segment b.meter)

      weight-there : (meter : ℕ) → meter < most_meters → (meter ≡ b.meter → ⊥) →
          get_or (set held.weights b.meter joined) meter 0 ≡ weight_of terms more b.segment meter
      weight-there meter m e =
          get_or-set_other held.weights b.meter meter joined 0 e
          ∙ own.weights meter m
          ∙ sym (cond-false (is_of b.segment meter b) _ _ (other_meter meter b.meter b.segment e))
          ∙ sym (weight-push bookings b terms b.segment meter)

      weight-own : (meter : ℕ) →
          meter < most_meters →
          get_or (after.books b.segment).weights meter 0 ≡ weight_of terms more b.segment meter
      weight-own meter m =
          ap (λ (ws : List ℕ). get_or ws meter 0) entered.weights
          ∙ ⊎_elim
          (λ e. subst (λ (k : ℕ). get_or (set held.weights b.meter joined) k 0 ≡ weight_of terms more b.segment k) (sym e) weight-here)
          (weight-there meter m)
          (cases_eq meter b.meter)

      stands_own : BookStands terms more b.segment (after.books b.segment)
      stands_own = record {
        marks = λ meter hour m h.
            entered.marks meter hour
            ∙ ap (λ (x : Bool). x || (eqb meter b.meter && eqb hour b.hour)) (own.marks meter hour m h)
            ∙ has_own (has_hour bookings b.segment meter hour) meter b.meter hour b.hour b.segment
            ∙ sym (has_push bookings b b.segment meter hour);
        counts = λ meter m.
            entered.counts meter
            ∙ ap (λ (n : ℕ). n + cond (eqb meter b.meter) 1 0) (own.counts meter m)
            ∙ ap (λ (n : ℕ). booked_of bookings b.segment meter + n) (count_own meter b.meter b.segment)
            ∙ sym (booked_push bookings b b.segment meter);
        sums = λ hour h.
            entered.sums hour
            ∙ ap (λ (n : ℕ). n + cond (eqb hour b.hour) b.amount 0) (own.sums hour h)
            ∙ ap (λ (n : ℕ). sum_of bookings b.segment hour + n) (sum-own hour b.hour b.amount b.segment)
            ∙ sym (sum-push bookings b b.segment hour);
        weights = weight-own;
      }

      stands_other : (segment : ℕ) → segment < most_segments → (segment ≡ b.segment → ⊥) → BookStands terms more segment (before.books segment)
      stands_other segment l e =
          let book = s.books segment l in
          record {
            marks = λ meter hour m h.
                book.marks meter hour m h
                ∙ has_other (has_hour bookings segment meter hour) (eqb b.meter meter) (eqb b.hour hour) segment b.segment e
                ∙ sym (has_push bookings b segment meter hour);
            counts = λ meter m.
                book.counts meter m
                ∙ added_other (booked_of bookings segment meter) 1 segment b.segment (eqb b.meter meter) e
                ∙ sym (booked_push bookings b segment meter);
            sums = λ hour h.
                book.sums hour h
                ∙ added_other (sum_of bookings segment hour) b.amount segment b.segment (eqb b.hour hour) e
                ∙ sym (sum-push bookings b segment hour);
            weights = λ meter m.
                book.weights meter m
                ∙ weight-other (weight_of terms bookings segment meter) _ segment b.segment (eqb b.meter meter) e
                ∙ sym (weight-push bookings b terms segment meter);
          }

      -- one booking more
      stands_taken : Stands terms more after
      stands_taken = record {
        contents = plan-kept ∙ s.contents;
        joins = λ segment l. ap (λ f. f segment) joins-kept ∙ s.joins segment l;
        opened = s.opened;
        taken = taken_push terms bookings b s.taken taken;
        books = λ segment l. ⊎_elim
            (λ e. subst (λ (k : ℕ). BookStands terms more k (after.books k)) (sym e) stands_own)
            (λ e. subst (BookStands terms more segment) (sym (others segment l e)) (stands_other segment l e))
            (cases_eq segment b.segment);
      }

    -- the booking's answer and what it leaves, by the book's own
    pub taken : length held.weights ≡ meter_count →
        book_refusal join held b.meter b.hour b.amount ≡ None →
        Entered join held b.meter b.hour b.amount (after.books b.segment) →
        (booking_refusal terms bookings b ≡ None) × Stands terms (after_call terms bookings (Book b)) after
    taken sized e entered =
        let none = sym same_refusal ∙ e in
        (none, subst (λ l. Stands terms l after) (sym (after_taken terms bookings b none)) (stands_taken sized none entered))

    pub refused : (number : ℕ) →
        book_refusal join held b.meter b.hour b.amount ≡ Some number →
        after.books b.segment ≡ before.books b.segment →
        (booking_refusal terms bookings b ≡ Some number) × Stands terms (after_call terms bookings (Book b)) after
    refused number e own =
        let some = sym same_refusal ∙ e in
        (some, subst (λ l. Stands terms l after) (sym (after_refused terms bookings b number some)) (stands_refused own))

-- what holds of each of four things holds of the one of a segment
pub by_segment-each : {X : Type 0} (P : X → Type 0) (first second third fourth : X) →
    P first →
    P second →
    P third →
    P fourth →
    (segment : ℕ) →
    P (by_segment first second third fourth segment)
by_segment-each {X} P first second third fourth a b c d segment = pick (eqb segment 0) (eqb segment 1) (eqb segment 2)
  where
    pick : (x y z : Bool) → P (cond x first (cond y second (cond z third fourth)))
    pick true y z = a
    pick false true z = b
    pick false false true = c
    pick false false false = d
