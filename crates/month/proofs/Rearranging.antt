-- Bookings in another order make the same of a month.
use Rattle.std.proofs.Common.{◌≡◌, ℕ, ◌<◌, Bool, true, false, cond, ltb, List, ◌∷◌, sum_by, filter, sym, refl, ap, ◌∙◌, subst, arith}
use mathlib.Core.List.Permᴰ
use mathlib.Core.List.{Perm, Permᴰ}
use mathlib.Core.Logic.{∥∥₁_elim, ∥∥₁_map}
use native.Mathlib.Nat.{ℕ_set}
use Rattle.std.proofs.lemmas.List.Sums.{sum_by-cons}
use Rattle.plan.specs.Limits.{most_segments}
use Rattle.plan.specs.declared.booking.Booking.{Booking}
use Rattle.weights.specs.Accepted.{joined_all}
use Rattle.weights.specs.Joining.{Swaps}
use Rattle.weights.proofs.Joined.{joined_all-perm}
use Rattle.month.specs.Bookings.{amounts_of, is_at, is_of, is_of_hour, weight_of}
use Rattle.month.specs.Laws.{Alike, Rearranges}
use Rattle.month.specs.Stands.{Stands, State}
use Rattle.month.specs.Terms.{Terms, peaks_of}
use Rattle.month.proofs.Pushed.{joined_all-append}

module _ {X : Type 0} (p : X → Bool) where
  kept_cons : (t : Bool) (x : X) (xs ys : List X) → Permᴰ xs ys → Permᴰ (cond t (x ∷ xs) xs) (cond t (x ∷ ys) ys)
  kept_cons true x xs ys d = Permᴰ.cons refl d
  kept_cons false x xs ys d = d

  kept_swap : (t u : Bool) (x y : X) (xs : List X) →
      Permᴰ (cond t (x ∷ cond u (y ∷ xs) xs) (cond u (y ∷ xs) xs)) (cond u (y ∷ cond t (x ∷ xs) xs) (cond t (x ∷ xs) xs))
  kept_swap true true x y xs = Permᴰ.swap refl refl
  kept_swap true false x y xs = Permᴰ.refl (x ∷ xs)
  kept_swap false true x y xs = Permᴰ.refl (y ∷ xs)
  kept_swap false false x y xs = Permᴰ.refl xs

  kept_permᴰ : {xs ys : List X} → Permᴰ xs ys → Permᴰ (filter p xs) (filter p ys)
  kept_permᴰ Permᴰ.nil = Permᴰ.nil
  kept_permᴰ (Permᴰ.cons {a = a} {l₁ = xs} {l₂ = ys} e d) =
      subst (λ (x : X). Permᴰ (filter p (a ∷ xs)) (filter p (x ∷ ys))) e
      (kept_cons (p a) a (filter p xs) (filter p ys) (kept_permᴰ d))
  kept_permᴰ (Permᴰ.swap {a = a} {b = b} {b' = b'} {l = l} e f) =
      subst (λ (x : X). Permᴰ (filter p (a ∷ b ∷ l)) (filter p (x ∷ b' ∷ l))) f
      (subst (λ (x : X). Permᴰ (filter p (a ∷ b ∷ l)) (filter p (b ∷ x ∷ l))) e
      (kept_swap (p a) (p b) a b (filter p l)))
  kept_permᴰ (Permᴰ.trans d e) = Permᴰ.trans (kept_permᴰ d) (kept_permᴰ e)

  kept_perm : (xs ys : List X) → Perm xs ys → Perm (filter p xs) (filter p ys)
  kept_perm xs ys d = ∥∥₁_map {B = Permᴰ (filter p xs) (filter p ys)} d kept_permᴰ

module _ {X : Type 0} (f : X → ℕ) where
  sum_by-permᴰ : {xs ys : List X} → Permᴰ xs ys → sum_by f ys ≡ sum_by f xs
  sum_by-permᴰ Permᴰ.nil = refl
  sum_by-permᴰ (Permᴰ.cons {a = a} {b = b} {l₁ = xs} {l₂ = ys} e d) =
      omega (arith, sum_by-cons f a xs, sum_by-cons f b ys, ap f e, sum_by-permᴰ d)
  sum_by-permᴰ (Permᴰ.swap {a = a} {b = b} {a' = a'} {b' = b'} {l = l} e g) =
      omega (
        arith,
        sum_by-cons f a (b ∷ l),
        sum_by-cons f b l,
        sum_by-cons f a' (b' ∷ l),
        sum_by-cons f b' l,
        ap f e,
        ap f g,
      )
  sum_by-permᴰ (Permᴰ.trans d e) = sum_by-permᴰ e ∙ sum_by-permᴰ d

  sum_by-perm : (xs ys : List X) → Perm xs ys → sum_by f ys ≡ sum_by f xs
  sum_by-perm xs ys d = ∥∥₁_elim d (ℕ_set _ _) sum_by-permᴰ

module _ (terms : Terms) (bookings others : List Booking) (d : Perm bookings others) where
  weight-same : (segment meter : ℕ) →
      Swaps (terms.joins segment) →
      weight_of terms others segment meter ≡ weight_of terms bookings segment meter
  weight-same segment meter swaps =
      let join = terms.joins segment in
      let peaks = peaks_of terms segment meter in
      let amounts = amounts_of bookings segment meter in
      let amounts' = amounts_of others segment meter in
      let same : Perm amounts amounts' =
      mathlib.Core.List.Perm.map (λ (b : Booking). b.amount) (kept_perm (is_of segment meter) bookings others d)
      in
      joined_all-append join 0 peaks amounts'
      ∙ joined_all-perm join swaps (joined_all join 0 peaks) amounts amounts' same
      ∙ sym (joined_all-append join 0 peaks amounts)

  alike : ((segment : ℕ) → segment < most_segments → Swaps (terms.joins segment)) → Alike terms bookings others
  alike swaps = record {
    weights = λ segment meter l. weight-same segment meter (swaps segment l);
    hours = λ segment meter hour.
        ap (ltb 0) (sum_by-perm (λ (b : Booking). cond (is_of_hour segment meter hour b) 1 0) bookings others d);
    counts = λ segment meter. sum_by-perm (λ (b : Booking). cond (is_of segment meter b) 1 0) bookings others d;
    sums = λ segment hour.
        sum_by-perm (λ (b : Booking). b.amount) (filter (is_at segment hour) bookings) (filter (is_at segment hour) others)
        (kept_perm (is_at segment hour) bookings others d);
  }

-- the law of a month that stands: its joinings are those of its terms
pub rearranges : (terms : Terms) (bookings : List Booking) (state : State) →
    Stands terms bookings state →
    ((segment : ℕ) → Swaps (state.joins segment)) →
    Rearranges terms
rearranges terms bookings state s swaps = λ some others d.
    alike terms some others d (λ segment l. subst Swaps (s.joins segment l) (swaps segment))
