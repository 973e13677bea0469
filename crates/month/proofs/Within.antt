-- A meter has no more accepted bookings than the month has hours; the hours left are those that no booking is for.
use Rattle.std.proofs.Common.{◌≡◌, ℕ, zero, suc, ◌+◌, ◌<◌, ◌≤◌, Bool, true, false, cond, ◌&&◌, ◌||◌, eqb, ltb, leb, List, [], ◌∷◌, ◌++◌, map, is_some, Some, None, count_by, Option, sym, refl, ap, ◌∙◌, subst, ⊎_elim, zero-add, arith}
use Rattle.std.specs.List.{range_with_len}
use Rattle.std.proofs.lemmas.List.Sums.{sum_by-cons}
use Rattle.std.proofs.lemmas.Bool.{and_parts, cases_Bool, eqb-true}
use Rattle.std.proofs.lemmas.Bool.Decides.{nat_tests}
use Rattle.book.proofs.Counting.{below_not}
use Rattle.plan.specs.Limits.{greatest_amount, most_meters, most_segments}
use Rattle.plan.specs.declared.booking.Booking.{Booking}
use Rattle.month.specs.Bookings.{booked_of, booking_refusal, booking_within, has_hour, is_assigned, is_of, lacked_of, missing_of}
use Rattle.month.specs.Calls.{accepted, accepted_from, after_call}
use Rattle.month.specs.Terms.{Terms, hours_of}
use Rattle.month.specs.declared.call.Call.{Call}
use Rattle.month.specs.declared.call.Call.TheVariants.{Book, Ask}
use Rattle.month.proofs.Pushed.{booked_push, has_push}

-- two tests that agree count alike
count_same : (p q : ℕ → Bool) → ((k : ℕ) → q k ≡ p k) → (a n : ℕ) → count_by q (range_with_len a n) ≡ count_by p (range_with_len a n)
count_same p q same a zero = refl
count_same p q same a (suc n) =
    sum_by-cons (λ (k : ℕ). cond (q k) 1 0) a (range_with_len (a + 1) n)
    ∙ (rw (same a, count_same p q same (a + 1) n))
    ∙ sym (sum_by-cons (λ (k : ℕ). cond (p k) 1 0) a (range_with_len (a + 1) n))

-- no number passes
count_none : (a n : ℕ) → count_by (λ (k : ℕ). false) (range_with_len a n) ≡ 0
count_none a zero = refl
count_none a (suc n) = sum_by-cons (λ (k : ℕ). 0) a (range_with_len (a + 1) n) ∙ zero-add _ ∙ count_none (a + 1) n

one_here : (j a n : ℕ) (p : Bool) →
    (eqb j a ≡ true → p ≡ false) →
    cond (p || eqb j a) 1 0 + cond (leb (a + 1) j && ltb j (a + 1 + n)) 1 0
    ≡ cond p 1 0 + cond (leb a j && ltb j (a + suc n)) 1 0
one_here j a n p free = grind (arith, nat_tests)

-- one number more passes
count_one : (p q : ℕ → Bool) (j : ℕ) →
    p j ≡ false →
    ((k : ℕ) → q k ≡ (p k || eqb j k)) →
    (a n : ℕ) →
    count_by q (range_with_len a n) ≡ count_by p (range_with_len a n) + cond (leb a j && ltb j (a + n)) 1 0
count_one p q j free marks a zero = grind (arith, nat_tests)
count_one p q j free marks a (suc n) =
    let here = one_here j a n (p a) (λ e. subst (λ (k : ℕ). p k ≡ false) (eqb-true j a e) free) in
    let first : ◌≡◌ {A = ℕ} (cond (q a) 1 0) (cond (p a || eqb j a) 1 0) = ap (λ (t : Bool). cond t 1 0) (marks a) in
    omega (
      arith,
      sum_by-cons (λ (k : ℕ). cond (q k) 1 0) a (range_with_len (a + 1) n),
      sum_by-cons (λ (k : ℕ). cond (p k) 1 0) a (range_with_len (a + 1) n),
      count_one p q j free marks (a + 1) n,
      here,
      first,
    )

-- the limits of a booking, one by one
pub record InLimits (hours : ℕ) (b : Booking) : Type 0 where
  pub segment_below : b.segment < most_segments
  pub meter_below : b.meter < most_meters
  pub hour_below : b.hour < hours
  pub amount_most : b.amount ≤ greatest_amount

pub in_limits : (hours : ℕ) (b : Booking) → booking_within hours b ≡ true → InLimits hours b
in_limits hours b e = record {
  segment_below = grind (arith, nat_tests);
  meter_below = grind (arith, nat_tests);
  hour_below = grind (arith, nat_tests);
  amount_most = grind (arith, nat_tests);
}

-- what a booking that nothing refuses has passed
pub record Passed (terms : Terms) (bookings : List Booking) (b : Booking) : Type 0 where
  pub within : booking_within (hours_of terms.contents) b ≡ true
  pub assigned : is_assigned terms.contents b.segment b.meter ≡ true
  pub free : has_hour bookings b.segment b.meter b.hour ≡ false

passing : (within assigned has : Bool) (last : Option ℕ) →
    cond within (cond assigned (cond has (Some 5) last) (Some 4)) (Some 3) ≡ None →
    (within ≡ true) × (assigned ≡ true) × (has ≡ false)
passing within assigned has last e = (grind arith, grind arith, grind arith)

pub passed : (terms : Terms) (bookings : List Booking) (b : Booking) →
    booking_refusal terms bookings b ≡ None →
    Passed terms bookings b
passed terms bookings b e =
    let p = passing (booking_within (hours_of terms.contents) b) (is_assigned terms.contents b.segment b.meter)
    (has_hour bookings b.segment b.meter b.hour) _ e
    in
    record { within = p.0; assigned = p.1; free = p.2 }

-- a meter has as many bookings as hours below the month's end
abbrev EachHourOnce : Terms → List Booking → Type 0
EachHourOnce terms bookings =
    (segment meter : ℕ) →
    booked_of bookings segment meter ≡ count_by (has_hour bookings segment meter) (range_with_len 0 (hours_of terms.contents))

drop_other : (x t u : Bool) → t ≡ false → (x || (t && u)) ≡ x
drop_other x t u e = grind arith

keep_own : (x t u : Bool) → t ≡ true → (x || (t && u)) ≡ (x || u)
keep_own x t u e = grind arith

in_month : (j hours : ℕ) → j < hours → ◌≡◌ {A = ℕ} (cond (leb 0 j && ltb j (0 + hours)) 1 0) 1
in_month j hours l = grind (arith, nat_tests)

module _ (terms : Terms) (bookings : List Booking) (b : Booking) (once : EachHourOnce terms bookings) (p : Passed terms bookings b) where
  once_other : (segment meter : ℕ) →
      is_of segment meter b ≡ false →
      booked_of (bookings ++ b ∷ []) segment meter
      ≡ count_by (has_hour (bookings ++ b ∷ []) segment meter) (range_with_len 0 (hours_of terms.contents))
  once_other segment meter other =
      let none : ◌≡◌ {A = ℕ} (cond (is_of segment meter b) 1 0) 0 = ap (λ (t : Bool). cond t 1 0) other in
      let same = count_same (has_hour bookings segment meter) (has_hour (bookings ++ b ∷ []) segment meter)
      (λ k. has_push bookings b segment meter k ∙ drop_other (has_hour bookings segment meter k) (is_of segment meter b) (eqb b.hour k) other)
      0 (hours_of terms.contents)
      in
      omega (arith, booked_push bookings b segment meter, once segment meter, same, none)

  once_same : (segment meter : ℕ) →
      is_of segment meter b ≡ true →
      booked_of (bookings ++ b ∷ []) segment meter
      ≡ count_by (has_hour (bookings ++ b ∷ []) segment meter) (range_with_len 0 (hours_of terms.contents))
  once_same segment meter own =
      let hours = hours_of terms.contents in
      let parts = and_parts (eqb b.segment segment) (eqb b.meter meter) own in
      let free : has_hour bookings segment meter b.hour ≡ false =
      subst (λ (s : ℕ). has_hour bookings s meter b.hour ≡ false) (eqb-true b.segment segment parts.0)
      (subst (λ (m : ℕ). has_hour bookings b.segment m b.hour ≡ false) (eqb-true b.meter meter parts.1) p.free)
      in
      let one : ◌≡◌ {A = ℕ} (cond (is_of segment meter b) 1 0) 1 = ap (λ (t : Bool). cond t 1 0) own in
      let more = count_one (has_hour bookings segment meter) (has_hour (bookings ++ b ∷ []) segment meter) b.hour free
      (λ k. has_push bookings b segment meter k ∙ keep_own (has_hour bookings segment meter k) (is_of segment meter b) (eqb b.hour k) own)
      0 hours
      in
      let inside = in_month b.hour hours (in_limits hours b p.within).hour_below in
      omega (arith, booked_push bookings b segment meter, once segment meter, more, one, inside)

  once_push : EachHourOnce terms (bookings ++ b ∷ [])
  once_push segment meter = ⊎_elim (once_same segment meter) (once_other segment meter) (cases_Bool (is_of segment meter b))

once_after : (terms : Terms) (bookings : List Booking) (call : Call) →
    EachHourOnce terms bookings →
    EachHourOnce terms (after_call terms bookings call)
once_after terms bookings (Book b) once =
    by_refusal (booking_refusal terms bookings b) refl
  where
    by_refusal : (o : Option ℕ) → booking_refusal terms bookings b ≡ o → EachHourOnce terms (cond (is_some o) bookings (bookings ++ b ∷ []))
    by_refusal None e = once_push terms bookings b once (passed terms bookings b e)
    by_refusal (Some n) e = once
once_after terms bookings (Ask segment meter) once = once

once_from : (terms : Terms) (bookings : List Booking) (calls : List Call) →
    EachHourOnce terms bookings →
    EachHourOnce terms (accepted_from terms bookings calls)
once_from terms bookings [] once = once
once_from terms bookings (call ∷ calls) once =
    once_from terms (after_call terms bookings call) calls (once_after terms bookings call once)

module _ (terms : Terms) (bookings : List Booking) (taken : accepted terms (map Book bookings) ≡ bookings) where
  once : EachHourOnce terms bookings
  once =
      let none : EachHourOnce terms [] = λ s m. sym (count_none 0 (hours_of terms.contents)) in
      subst (EachHourOnce terms) taken (once_from terms [] (map Book bookings) none)

  pub booked_within : (segment meter : ℕ) → booked_of bookings segment meter ≤ hours_of terms.contents
  booked_within segment meter =
      omega (arith, once segment meter, below_not (has_hour bookings segment meter) (hours_of terms.contents))

  -- the hours that are left are those that no booking is for
  pub missing_lacked : (segment meter : ℕ) → missing_of terms bookings segment meter ≡ lacked_of terms bookings segment meter
  missing_lacked segment meter =
      omega (arith, once segment meter, below_not (has_hour bookings segment meter) (hours_of terms.contents))
