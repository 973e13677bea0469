-- The formula that rounds a quotient gives the nearest whole number, halves up.
use Rattle.std.proofs.Common.{◌≡◌, ℕ, suc, ◌+◌, ◌*◌, ◌<◌, ◌≤◌, ◌⊎◌, inl, inr, mul-le-mul_right, suc-mul, div-mul-le_self, mul_left_comm, arith}
use native.Mathlib.Nat.{lt-div-mul-add}
use Rattle.std.proofs.lemmas.Bool.{cases_order}
use Rattle.tariff.specs.Fees.{NearestHalvesUp, apart, nearest}
use Rattle.tariff.specs.declared.quotient.Quotient.{Quotient}

-- the multiples of d step by d
step : (d k m : ℕ) → k < m → k * d + d ≤ m * d
step d k m less = rw suc-mul at (mul-le-mul_right {m = suc k} {n = m} d less)

-- a lies within half of d of n, so that what is d or more from it is no nearer
nearer_than : (n d a b : ℕ) → 2 * a ≤ 2 * n + d → 2 * n < 2 * a + d → (b + d ≤ a) ⊎ (a + d ≤ b) → apart n a ≤ apart n b
nearer_than n d a b low high (inl under) = omega arith
nearer_than n d a b low high (inr over) = omega arith

-- and what is d or more above it is farther
farther_above : (n d a b : ℕ) → 0 < d → 2 * n < 2 * a + d → a + d ≤ b → apart n a < apart n b
farther_above n d a b positive high over = omega arith

module _ (n d r : ℕ) (positive : 0 < d) (low : 2 * (r * d) ≤ 2 * n + d) (high : 2 * n < 2 * (r * d) + d) where
  is_nearer : (other : ℕ) → apart n (r * d) ≤ apart n (other * d)
  is_nearer other =
      elim (cases_order other r) [
        | inl same ↦ rw same (omega arith)
        | inr (inl less) ↦ nearer_than n d (r * d) (other * d) low high (inl (step d other r less))
        | inr (inr more) ↦ nearer_than n d (r * d) (other * d) low high (inr (step d r other more))
      ]

  is_greater : (other : ℕ) → apart n (r * d) ≡ apart n (other * d) → other ≤ r
  is_greater other same =
      elim (cases_order other r) [
        | inl e ↦ omega arith
        | inr (inl less) ↦ omega arith
        | inr (inr more) ↦ omega (arith, farther_above n d (r * d) (other * d) positive high (step d r other more))
      ]

pub is_nearest : (q : Quotient) → 0 < q.divisor → NearestHalvesUp q (nearest q)
is_nearest q positive =
    let n = q.dividend in
    let d = q.divisor in
    let r = nearest q in
    let twice : 0 < 2 * d = omega arith in
    let even : r * (2 * d) ≡ 2 * (r * d) = mul_left_comm r 2 d in
    let low : 2 * (r * d) ≤ 2 * n + d = omega (arith, div-mul-le_self (2 * n + d) (2 * d), even) in
    let high : 2 * n < 2 * (r * d) + d = omega (arith, lt-div-mul-add {a = 2 * n + d} twice, even) in
    record { nearer = is_nearer n d r positive low high; greater = is_greater n d r positive low high }
