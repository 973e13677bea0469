-- Entries that ascend by their places: the last tells whether one more is above all, and a binary search finds the one of a place. Assumes nothing.
use Rattle.std.proofs.Common.{Ordering, Less, Equal, Greater, ◌≡◌, ℕ, zero, suc, ◌-◌, ◌<◌, ◌≤◌, Bool, true, false, List, [], ◌∷◌, length, get_or, Some, None, Option, Result, Ok, Err, Bor, IsTrue, inl, inr, refl, sym, ap, ◌∙◌, arith}
use Rattle.std.proofs.lemmas.Bool.{and_parts, cases_order, cond-false}
use Rattle.std.proofs.lemmas.Bool.Decides.{nat_tests}
use Rattle.std.proofs.lemmas.List.{get_or_default}
use Rattle.std.specs.List.{list_all}
use Rattle.std.specs.List.Sorted.{IsBinarySearchResult, IsNonDecreasingBy, IsSearchInRange}
use Rattle.std.specs.Option.{MatchOption}
use Rattle.std.specs.Ordering.{nat_cmp, ordering_index, ordering_then}
use Rattle.std.specs.Result.{result_ok}
use Rattle.std.specs.Slice.{IsGetResult}
use Rattle.plan.specs.Places.{is_place, place_precedes}
use Rattle.plan.specs.Questions.{first_of}
use Rattle.plan.specs.WellMade.{ascending}
use Rattle.plan.proofs.Only.{first_only, places_apart}
use Rattle.plan.proofs.Passing.{above_none, all_pass-get_or, told_by_last}

-- how two places compare
abbrev place_cmp : ℕ × ℕ → ℕ × ℕ → Ordering
place_cmp a b = ordering_then (nat_cmp a.0 b.0) (nat_cmp a.1 b.1)

chain : (a b c : ℕ × ℕ) → place_precedes a b ≡ true → place_precedes b c ≡ true → place_precedes a c ≡ true
chain a b c p q = grind (arith, nat_tests)

rises : (k a b : ℕ × ℕ) → place_precedes a b ≡ true → ordering_index (place_cmp a k) ≤ ordering_index (place_cmp b k)
rises k a b p = grind (arith, nat_tests)

here : (a k : ℕ × ℕ) → place_cmp a k ≡ Equal → is_place a k ≡ true
here a k e = grind (arith, nat_tests)

before_it : (a k : ℕ × ℕ) → place_cmp a k ≡ Less → is_place a k ≡ false
before_it a k e = grind (arith, nat_tests)

after_it : (a k : ℕ × ℕ) → place_cmp a k ≡ Greater → is_place a k ≡ false
after_it a k e = grind (arith, nat_tests)

first_none : {X : Type 0} (p : X → Bool) (xs : List X) → ((i : ℕ) (d : X) → i < length xs → p (get_or xs i d) ≡ false) → first_of p xs ≡ None
first_none p [] none = refl
first_none p (x ∷ xs) none =
    cond-false (p x) (Some x) (first_of p xs) (none 0 x (omega arith)) ∙ first_none p xs (λ i d l. none (suc i) d (omega arith))

ascending-get_or : {X : Type 0} (before : X → X → Bool) (xs : List X) (i j : ℕ) (d : X) → i < j → j < length xs → ascending before xs ≡ true → before (get_or xs i d) (get_or xs j d) ≡ true
ascending-get_or before [] i j d l within h = absurd (omega arith)
ascending-get_or before (x ∷ xs) i zero d l within h = absurd (omega arith)
ascending-get_or before (x ∷ xs) zero (suc j) d l within h =
    all_pass-get_or (before x) xs j d (omega arith) (and_parts (list_all (before x) xs) (ascending before xs) h).0
ascending-get_or before (x ∷ xs) (suc i) (suc j) d l within h =
    ascending-get_or before xs i j d (omega arith) (omega arith) (and_parts (list_all (before x) xs) (ascending before xs) h).1

module _ {X : Type 0} (place_of : X → ℕ × ℕ) (xs : List X) (ascent : ascending (λ a b. place_precedes (place_of a) (place_of b)) xs ≡ true) where
  -- what the last tells of one more
  pub above_from_last : (x : X) (r : Option (Bor X)) (b : Bool) → IsGetResult xs 0 (length xs - 1) r → MatchOption r (IsTrue b) (λ last. b ≡ place_precedes (place_of last.now) (place_of x)) → b ≡ list_all (λ other. place_precedes (place_of other) (place_of x)) xs
  above_from_last x None b item told =
      told ∙ above_none (λ other. place_precedes (place_of other) (place_of x)) xs item.0
  above_from_last x (Some last) b item told =
      told
      ∙ told_by_last (λ a b. place_precedes (place_of a) (place_of b)) (λ a b c. chain (place_of a) (place_of b) (place_of c)) xs last.now x item.0 item.1 ascent

  module _ (k : ℕ × ℕ) where
    comparisons_rise : IsNonDecreasingBy (λ y. ordering_index (place_cmp (place_of y) k)) xs
    comparisons_rise i j d le within =
        elim (cases_order i j) [
          | inl same ↦ rw same (omega arith)
          | inr (inl less) ↦ rises k (place_of (get_or xs i d)) (place_of (get_or xs j d)) (ascending-get_or (λ a b. place_precedes (place_of a) (place_of b)) xs i j d less within ascent)
          | inr (inr more) ↦ absurd (omega arith)
        ]

    -- the entry that stands somewhere in the list, and has the place
    pub stands_at : (i : ℕ) (x : X) → i < length xs → x ≡ get_or xs i x → is_place (place_of x) k ≡ true → Some x ≡ first_of (λ y. is_place (place_of y) k) xs
    stands_at i x within item same =
        sym (first_only (λ a b. place_precedes (place_of a) (place_of b)) (λ y. is_place (place_of y) k) (λ a b. places_apart k (place_of a) (place_of b)) xs x ascent (i, within, λ d. get_or_default xs i d x within ∙ sym item) same)

    pub first_found : (r : Result ℕ ℕ) (at : ℕ) (x : X) → IsSearchInRange r (length xs) → IsBinarySearchResult (λ y. place_cmp (place_of y) k) xs r → Some at ≡ result_ok r → x ≡ get_or xs at x → Some x ≡ first_of (λ y. is_place (place_of y) k) xs
    first_found (Err i) at x within found is item = absurd (grind arith)
    first_found (Ok i) at x within found is item =
        let same : at ≡ i = grind arith in
        let equal : place_cmp (place_of x) k ≡ Equal = ap (λ y. place_cmp (place_of y) k) (item ∙ ap (λ n. get_or xs n x) same) ∙ found x in
        stands_at i x within (item ∙ ap (λ n. get_or xs n x) same) (here (place_of x) k equal)

    pub first_missed : (r : Result ℕ ℕ) → IsBinarySearchResult (λ y. place_cmp (place_of y) k) xs r → None ≡ result_ok r → first_of (λ y. is_place (place_of y) k) xs ≡ None
    first_missed (Ok i) found is = absurd (grind arith)
    first_missed (Err i) found is =
        let parted = found comparisons_rise in
        first_none (λ y. is_place (place_of y) k) xs (λ j d within.
        elim (cases_order j i) [
          | inl same ↦ after_it (place_of (get_or xs j d)) k (parted.1 j d (omega arith) within)
          | inr (inl less) ↦ before_it (place_of (get_or xs j d)) k (parted.0 j d (omega arith) less)
          | inr (inr more) ↦ after_it (place_of (get_or xs j d)) k (parted.1 j d (omega arith) within)
        ])
