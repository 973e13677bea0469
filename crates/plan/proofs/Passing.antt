-- Lists whose elements all pass a test, and lists that ascend. Assumes nothing.
use Rattle.std.proofs.Common.{◌≡◌, ℕ, zero, suc, ◌-◌, ◌<◌, Bool, true, false, ◌&&◌, ltb, List, [], ◌∷◌, ◌++◌, length, get_or, sym, refl, ap, ◌∙◌, arith}
use Rattle.std.proofs.lemmas.List.{nil_from_length}
use Rattle.std.proofs.lemmas.Bool.{and_from, and_parts, ltb-false, ltb-true}
use Rattle.std.specs.List.{list_all, ContainsAt as Has}
use Rattle.plan.specs.WellMade.{ascending}

absorbed : (a b : Bool) → (b ≡ true → a ≡ true) → b ≡ (a && b)
absorbed true b h = refl
absorbed false true h = sym (h refl)
absorbed false false h = refl

module _ {X : Type 0} where
  -- one more at the end
  pub all_pass-push : (p : X → Bool) (xs : List X) (x : X) → list_all p xs ≡ true → p x ≡ true → list_all p (xs ++ x ∷ []) ≡ true
  all_pass-push p [] x h e = and_from (p x) true e refl
  all_pass-push p (y ∷ ys) x h e =
      let both = and_parts (p y) (list_all p ys) h in
      and_from (p y) (list_all p (ys ++ x ∷ [])) both.0 (all_pass-push p ys x both.1 e)

  -- one element
  pub all_pass-at : (p : X → Bool) (xs : List X) (x : X) (ys : List X) → list_all p (xs ++ x ∷ ys) ≡ true → p x ≡ true
  all_pass-at p [] x ys h = (and_parts (p x) (list_all p ys) h).0
  all_pass-at p (y ∷ xs) x ys h = all_pass-at p xs x ys (and_parts (p y) (list_all p (xs ++ x ∷ ys)) h).1

  pub all_pass-get_or : (p : X → Bool) (xs : List X) (i : ℕ) (d : X) → i < length xs → list_all p xs ≡ true → p (get_or xs i d) ≡ true
  all_pass-get_or p [] i d l h = absurd (omega arith)
  all_pass-get_or p (x ∷ xs) zero d l h = (and_parts (p x) (list_all p xs) h).0
  all_pass-get_or p (x ∷ xs) (suc i) d l h = all_pass-get_or p xs i d (omega arith) (and_parts (p x) (list_all p xs) h).1

  pub all_pass-has : (p : X → Bool) (xs : List X) (x : X) → list_all p xs ≡ true → Has xs x → p x ≡ true
  all_pass-has p xs x h (i, l, at) = ap p (sym (at x)) ∙ all_pass-get_or p xs i x l h

  module _ (before : X → X → Bool) where
    pub ascending_push : (xs : List X) (x : X) → ascending before xs ≡ true → list_all (λ y. before y x) xs ≡ true → ascending before (xs ++ x ∷ []) ≡ true
    ascending_push [] x h e = refl
    ascending_push (y ∷ ys) x h e =
        let both = and_parts (list_all (before y) ys) (ascending before ys) h in
        let below = and_parts (before y x) (list_all (λ z. before z x) ys) e in
        and_from (list_all (before y) (ys ++ x ∷ [])) (ascending before (ys ++ x ∷ []))
        (all_pass-push (before y) ys x both.0 below.0)
        (ascending_push ys x both.1 below.1)

    -- an element is above all those in front of it
    pub ascending_at : (xs : List X) (x : X) (ys : List X) → ascending before (xs ++ x ∷ ys) ≡ true → list_all (λ y. before y x) xs ≡ true
    ascending_at [] x ys h = refl
    ascending_at (y ∷ xs) x ys h =
        let both = and_parts (list_all (before y) (xs ++ x ∷ ys)) (ascending before (xs ++ x ∷ ys)) h in
        and_from (before y x) (list_all (λ z. before z x) xs) (all_pass-at (before y) xs x ys both.0) (ascending_at xs x ys both.1)

    module _ (chain : (x y z : X) → before x y ≡ true → before y z ≡ true → before x z ≡ true) where
      -- whether x is above all is told by the last
      pub last_tells : (xs : List X) (d x : X) → 0 < length xs → ascending before xs ≡ true → before (get_or xs (length xs - 1) d) x ≡ list_all (λ y. before y x) xs
      last_tells [] d x l h = absurd (omega arith)
      last_tells (y ∷ []) d x l h = grind arith
      last_tells (y ∷ z ∷ zs) d x l h =
          let both = and_parts (list_all (before y) (z ∷ zs)) (ascending before (z ∷ zs)) h in
          let next : before y z ≡ true = (and_parts (before y z) (list_all (before y) zs) both.0).0 in
          let place : length (y ∷ z ∷ zs) - 1 ≡ suc (length (z ∷ zs) - 1) = omega arith in
          ap (λ k. before (get_or (y ∷ z ∷ zs) k d) x) place
          ∙ last_tells (z ∷ zs) d x (omega arith) both.1
          ∙ absorbed (before y x) (list_all (λ w. before w x) (z ∷ zs))
          (λ e. chain y z x next (and_parts (before z x) (list_all (λ w. before w x) zs) e).0)

      -- the same of what `last` gives
      pub told_by_last : (xs : List X) (last x : X) → true ≡ ltb 0 (length xs) → last ≡ get_or xs (length xs - 1) last → ascending before xs ≡ true → before last x ≡ list_all (λ y. before y x) xs
      told_by_last xs last x some is h =
          ap (λ y. before y x) is ∙ last_tells xs last x (ltb-true 0 (length xs) (sym some)) h

  pub above_none : (p : X → Bool) (xs : List X) → false ≡ ltb 0 (length xs) → true ≡ list_all p xs
  above_none p xs none = ap (list_all p) (sym (nil_from_length xs (omega (arith, ltb-false 0 (length xs) (sym none)))))
