-- What one more booking at the end of a list makes of a month.
use Rattle.std.proofs.Common.{◌≡◌, ℕ, ◌+◌, Bool, true, false, cond, ◌||◌, ltb, List, [], ◌∷◌, ◌++◌, map, is_some, Some, None, sum_by, count_by, filter, Option, sym, refl, ap, ◌∙◌, zero-add, arith}
use Rattle.std.proofs.lemmas.List.Elements.{filter-append}
use Rattle.std.proofs.lemmas.List.{append_assoc, map-append, map_push}
use Rattle.std.proofs.lemmas.List.Sums.{fold_push, sum_by-append, sum_by_push}
use Rattle.std.proofs.lemmas.Bool.Decides.{nat_tests}
use Rattle.plan.specs.declared.booking.Booking.{Booking}
use Rattle.weights.specs.Accepted.{joined_all}
use Rattle.month.specs.Bookings.{amounts_of, booked_of, booking_refusal, has_hour, is_at, is_of, is_of_hour, sum_of, weight_of}
use Rattle.month.specs.Calls.{accepted, after_call}
use Rattle.month.specs.Terms.{Terms, peaks_of}
use Rattle.month.specs.declared.call.Call.TheVariants.{Book}

-- a weight joined with the amounts of two lists
pub joined_all-append : (join : ℕ → ℕ → ℕ) (weight : ℕ) (xs ys : List ℕ) →
    joined_all join weight (xs ++ ys) ≡ joined_all join (joined_all join weight xs) ys
joined_all-append join weight [] ys = refl
joined_all-append join weight (x ∷ xs) ys = joined_all-append join (join weight x) xs ys

one_sum : (t : Bool) (b : Booking) → sum_by (λ (x : Booking). x.amount) (cond t (b ∷ []) []) ≡ cond t b.amount 0
one_sum true b = zero-add b.amount
one_sum false b = refl

one_joined : (join : ℕ → ℕ → ℕ) (weight : ℕ) (t : Bool) (b : Booking) →
    joined_all join weight (map (λ (x : Booking). x.amount) (cond t (b ∷ []) [])) ≡ cond t (join weight b.amount) weight
one_joined join weight true b = refl
one_joined join weight false b = refl

one_more : (n : ℕ) (t : Bool) → ltb 0 (n + cond t 1 0) ≡ (ltb 0 n || t)
one_more n true = grind (arith, nat_tests)
one_more n false = grind (arith, nat_tests)

module _ (bookings : List Booking) (b : Booking) where
  pub booked_push : (segment meter : ℕ) →
      booked_of (bookings ++ b ∷ []) segment meter ≡ booked_of bookings segment meter + cond (is_of segment meter b) 1 0
  booked_push segment meter = sum_by_push (λ (x : Booking). cond (is_of segment meter x) 1 0) bookings b

  pub has_push : (segment meter hour : ℕ) →
      has_hour (bookings ++ b ∷ []) segment meter hour
      ≡ (has_hour bookings segment meter hour || is_of_hour segment meter hour b)
  has_push segment meter hour =
      ap (ltb 0) (sum_by_push (λ (x : Booking). cond (is_of_hour segment meter hour x) 1 0) bookings b)
      ∙ one_more (count_by (is_of_hour segment meter hour) bookings) (is_of_hour segment meter hour b)

  pub sum-push : (segment hour : ℕ) →
      sum_of (bookings ++ b ∷ []) segment hour ≡ sum_of bookings segment hour + cond (is_at segment hour b) b.amount 0
  sum-push segment hour =
      let kept = filter (is_at segment hour) bookings in
      ap (sum_by (λ (x : Booking). x.amount)) (filter-append (is_at segment hour) bookings (b ∷ []))
      ∙ sum_by-append (λ (x : Booking). x.amount) kept (cond (is_at segment hour b) (b ∷ []) [])
      ∙ ap (λ (n : ℕ). sum_of bookings segment hour + n) (one_sum (is_at segment hour b) b)

  pub weight-push : (terms : Terms) (segment meter : ℕ) →
      weight_of terms (bookings ++ b ∷ []) segment meter
      ≡ cond (is_of segment meter b) (terms.joins segment (weight_of terms bookings segment meter) b.amount)
      (weight_of terms bookings segment meter)
  weight-push terms segment meter =
      let join = terms.joins segment in
      let peaks = peaks_of terms segment meter in
      let amounts = amounts_of bookings segment meter in
      let last = map (λ (x : Booking). x.amount) (cond (is_of segment meter b) (b ∷ []) []) in
      let split : amounts_of (bookings ++ b ∷ []) segment meter ≡ amounts ++ last =
      ap (map (λ (x : Booking). x.amount)) (filter-append (is_of segment meter) bookings (b ∷ []))
      ∙ map-append (λ (x : Booking). x.amount) (filter (is_of segment meter) bookings) (cond (is_of segment meter b) (b ∷ []) [])
      in
      ap (λ (l : List ℕ). joined_all join 0 (peaks ++ l)) split
      ∙ ap (joined_all join 0) (sym (append_assoc peaks amounts last))
      ∙ joined_all-append join 0 (peaks ++ amounts) last
      ∙ one_joined join (weight_of terms bookings segment meter) (is_of segment meter b) b

module _ (terms : Terms) (bookings : List Booking) (b : Booking) where
  pub after_taken : booking_refusal terms bookings b ≡ None → after_call terms bookings (Book b) ≡ bookings ++ b ∷ []
  after_taken e = ap (λ (o : Option ℕ). cond (is_some o) bookings (bookings ++ b ∷ [])) e

  pub after_refused : (n : ℕ) → booking_refusal terms bookings b ≡ Some n → after_call terms bookings (Book b) ≡ bookings
  after_refused n e = ap (λ (o : Option ℕ). cond (is_some o) bookings (bookings ++ b ∷ [])) e

  -- bookings that are accepted where they stand, and one more that is
  pub taken_push : accepted terms (map Book bookings) ≡ bookings →
      booking_refusal terms bookings b ≡ None →
      accepted terms (map Book (bookings ++ b ∷ [])) ≡ bookings ++ b ∷ []
  taken_push so_far e =
      ap (accepted terms) (map_push Book bookings b)
      ∙ fold_push (after_call terms) [] (map Book bookings) (Book b)
      ∙ ap (λ (l : List Booking). after_call terms l (Book b)) so_far
      ∙ after_taken e
