-- Of n positions in a strict order exactly L have fewer than L before them, for L up to n. Assumes nothing.
use Rattle.std.specs.Prelude.{◌≡◌, ℕ, zero, suc, ◌+◌, ◌<◌, ◌≤◌, Bool, true, false, cond, ◌≢◌, nat_lt, refl}
use Rattle.std.proofs.Common.{sym, ap, ◌∙◌, ⊎_elim, arith}
use mir.Val.{bool_byte}
use Rattle.std.proofs.lemmas.Bool.{cases_Bool, cases_lt, lt-ltb, le-ltb}
use Rattle.apportion.specs.Positions.{over, over-suc, over-le, over-lt, over-same, over-const}

abbrev pub one_if : Bool → ℕ
one_if b = cond b 1 0

pub one_if_le : (a b : Bool) → (a ≡ true → b ≡ true) → one_if a ≤ one_if b
one_if_le true b h = omega (arith, ap one_if (h refl))
one_if_le false b h = omega arith

pub byte_is_one_if : (b : Bool) → bool_byte b ≡ one_if b
byte_is_one_if true = refl
byte_is_one_if false = refl

pub one_if_le_one : (b : Bool) → one_if b ≤ 1
one_if_le_one b = one_if_le b true (λ _. refl)

agree : (p q l m : ℕ) → (p < l → q < m) → (q < m → p < l) → one_if (nat_lt p l) ≡ one_if (nat_lt q m)
agree p q l m to from =
    ⊎_elim
    (λ h. ap one_if (lt-ltb p l h ∙ sym (lt-ltb q m (to h))))
    (λ h. ⊎_elim (λ g. absurd (omega (arith, from g))) (λ g. ap one_if (le-ltb p l h ∙ sym (le-ltb q m g))) (cases_lt q m))
    (cases_lt p l)

-- a strict order of the positions, as a test
pub record Strict (before : ℕ → ℕ → Bool) : Type 0 where
  pub irreflexive : (k : ℕ) → before k k ≡ false
  pub transitive : (i j k : ℕ) → before i j ≡ true → before j k ≡ true → before i k ≡ true
  pub connected : (j k : ℕ) → before j k ≡ false → (j ≢ k) → before k j ≡ true

-- how many of the positions below n come before k
abbrev pub rank : (ℕ → ℕ → Bool) → ℕ → ℕ → ℕ
rank before n k = over (λ j. one_if (before j k)) n

module _ (before : ℕ → ℕ → Bool) (strict : Strict before) where
  -- the new position n comes before k: whatever comes before n does too
  rank-after : (n k : ℕ) → before n k ≡ true → rank before n n ≤ rank before n k
  rank-after n k h = over-le _ _ n (λ j _. one_if_le (before j n) (before j k) (λ b. strict.transitive j n k b h))

  -- the new position n does not come before k: k comes before n, with all that comes before k
  rank-before : (n k : ℕ) → k < n → before n k ≡ false → rank before n k < rank before n n
  rank-before n k l h =
      let b : before k n ≡ true = strict.connected n k h (λ e. omega arith) in
      over-lt _ _ n (λ j _. one_if_le (before j k) (before j n) (λ a. strict.transitive j k n a b)) k l
      (omega (arith, ap one_if (strict.irreflexive k), ap one_if b))

  rank-grows : (n k : ℕ) → rank before (suc n) k ≡ rank before n k + one_if (before n k)
  rank-grows n k = over-suc (λ j. one_if (before j k)) n

  rank-own : (n : ℕ) → rank before (suc n) n ≡ rank before n n
  rank-own n = omega (arith, rank-grows n n, ap one_if (strict.irreflexive n))

  rank-le : (n k : ℕ) → rank before n k ≤ n
  rank-le n k =
      omega (arith, over-const 1 n, over-le (λ j. one_if (before j k)) (λ _. 1) n (λ j _. one_if_le_one (before j k)))

  -- how many of the positions below n have fewer than l of them before them
  abbrev chosen : ℕ → ℕ → ℕ
  chosen n l = over (λ k. one_if (nat_lt (rank before n k) l)) n

  same_choice : (n l : ℕ) → l ≤ rank before n n → (k : ℕ) → k < n
      → one_if (nat_lt (rank before (suc n) k) l) ≡ one_if (nat_lt (rank before n k) l)
  same_choice n l h k below =
      ⊎_elim
      (λ b. agree _ _ l l (λ g. omega (arith, rank-grows n k, ap one_if b, rank-after n k b)) (λ g. omega (arith, rank-grows n k, ap one_if b, rank-after n k b)))
      (λ b. agree _ _ l l (λ g. omega (arith, rank-grows n k, ap one_if b)) (λ g. omega (arith, rank-grows n k, ap one_if b)))
      (cases_Bool (before n k))

  next_choice : (n l : ℕ) → rank before n n < suc l → (k : ℕ) → k < n
      → one_if (nat_lt (rank before (suc n) k) (suc l)) ≡ one_if (nat_lt (rank before n k) l)
  next_choice n l h k below =
      ⊎_elim
      (λ b. agree _ _ (suc l) l (λ g. omega (arith, rank-grows n k, ap one_if b)) (λ g. omega (arith, rank-grows n k, ap one_if b)))
      (λ b. agree _ _ (suc l) l (λ g. omega (arith, rank-before n k below b)) (λ g. omega (arith, rank-grows n k, ap one_if b)))
      (cases_Bool (before n k))

  pub choice : (n l : ℕ) → l ≤ n → chosen n l ≡ l
  choice zero l h = omega arith
  choice (suc n) zero h = omega (arith, over-same (λ k. one_if (nat_lt (rank before (suc n) k) zero)) (λ _. 0) (suc n) (λ k _. ap one_if (le-ltb (rank before (suc n) k) zero (omega arith))), over-const 0 (suc n))
  choice (suc n) (suc l) h =
      let f : ℕ → ℕ = λ k. one_if (nat_lt (rank before (suc n) k) (suc l)) in
      ⊎_elim
      (λ r. omega (
        arith,
        over-suc f n,
        over-same f (λ k. one_if (nat_lt (rank before n k) l)) n (next_choice n l r),
        choice n l (omega arith),
        ap one_if (lt-ltb (rank before (suc n) n) (suc l) (omega (arith, rank-own n))),
      ))
      (λ r. omega (
        arith,
        over-suc f n,
        over-same f (λ k. one_if (nat_lt (rank before n k) (suc l))) n (same_choice n (suc l) r),
        choice n (suc l) (omega (arith, rank-le n n)),
        ap one_if (le-ltb (rank before (suc n) n) (suc l) (omega (arith, rank-own n))),
      ))
      (cases_lt (rank before n n) (suc l))
