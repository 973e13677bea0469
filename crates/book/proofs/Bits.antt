-- The bits of a number, and what setting one of them leaves.
use Rattle.std.proofs.Common.{◌≡◌, ℕ, zero, suc, ◌+◌, ◌-◌, ◌*◌, ◌/◌, ◌%◌, ◌^◌, ◌<◌, Bool, true, false, cond, ◌||◌, eqb, sym, refl, ap, ◌∙◌, ⊎_elim, arith}
use native.Mathlib.Nat.{div-eq_of_lt, div_self, mul-mod_left}
use lib.Bits.{bit_or, or_block, or_zero_r}
use lib.Count.{ones, ones_cat, ones_step}
use Rattle.std.proofs.lemmas.Nat.{or_shr, or_mod, pow-add, pow_below, pow_pos, shl-shr, shr_split, mod_below}
use Rattle.std.proofs.lemmas.Bool.{cases_order, eq-eqb, ne_eqb}

-- a bit of two numbers joined by or
bit_of_or : (a b j : ℕ) → bit_or a b / 2 ^ j % 2 ≡ bit_or (a / 2 ^ j % 2) (b / 2 ^ j % 2)
bit_of_or a b j = rw (or_shr a b j) (or_mod (a / 2 ^ j) (b / 2 ^ j) 1)

-- a power has no bit below its own
bit_low : (m j : ℕ) → 2 ^ (m + 1 + j) / 2 ^ j % 2 ≡ 0
bit_low m j = rw (pow-add 2 (m + 1) j, shl-shr (2 ^ (m + 1)) j, pow-add 2 m 1) (mul-mod_left (2 ^ m) 2)

-- the one bit of a power
bit_pow : (k j : ℕ) → 2 ^ k / 2 ^ j % 2 ≡ cond (eqb j k) 1 0
bit_pow k j = ⊎_elim same (⊎_elim below above) (cases_order j k)
  where
    same : j ≡ k → 2 ^ k / 2 ^ j % 2 ≡ cond (eqb j k) 1 0
    same e = rw (e, eq-eqb k k refl, div_self (pow_pos k))

    below : j < k → 2 ^ k / 2 ^ j % 2 ≡ cond (eqb j k) 1 0
    below h =
        let e : k ≡ (k - j - 1) + 1 + j = omega arith in
        ap (λ (n : ℕ). 2 ^ n / 2 ^ j % 2) e ∙ bit_low (k - j - 1) j ∙ rw (ne_eqb j k (λ e. omega arith))

    above : k < j → 2 ^ k / 2 ^ j % 2 ≡ cond (eqb j k) 1 0
    above h = rw (div-eq_of_lt (pow_below k j h), ne_eqb j k (λ e. omega arith))

-- a bit joined with another by or
set_bit : (b : ℕ) (t : Bool) → b < 2 → eqb (bit_or b (cond t 1 0)) 1 ≡ (eqb b 1 || t)
set_bit zero true h = refl
set_bit zero false h = refl
set_bit (suc zero) true h = refl
set_bit (suc zero) false h = refl
set_bit (suc (suc b)) t h = absurd (omega arith)

-- setting bit k sets it and leaves the others
pub bit_after : (n k j : ℕ) → eqb (bit_or n (2 ^ k) / 2 ^ j % 2) 1 ≡ (eqb (n / 2 ^ j % 2) 1 || eqb j k)
bit_after n k j = rw (bit_of_or n (2 ^ k) j, bit_pow k j) (set_bit (n / 2 ^ j % 2) (eqb j k) (mod_below (n / 2 ^ j) 2 (omega arith)))

-- an even number with its lowest bit set
ones_odd : (a : ℕ) → a % 2 ≡ 0 → ones (bit_or a 1) ≡ ones a + 1
unfolding ones
ones_odd a even =
    let half : a / 2 * 2 + 0 ≡ a = omega (arith, shr_split a 1) in
    let set : bit_or a 1 ≡ a / 2 * 2 + 1 = ap (λ (n : ℕ). bit_or n 1) (sym half) ∙ or_block 1 (a / 2) 0 0 1 (omega arith) (omega arith) ∙ rw or_zero_r
    in rw (set, ones_cat 1 (a / 2) 1 (omega arith), ones_step a, even) (omega arith)

-- setting a bit that was not set makes one more
pub ones_after : (n k : ℕ) → n / 2 ^ k % 2 ≡ 0 → ones (bit_or n (2 ^ k)) ≡ ones n + 1
ones_after n k free =
    let below = mod_below n (2 ^ k) (pow_pos k) in
    let whole : 2 ^ k ≡ 1 * 2 ^ k + 0 = omega arith in
    let set : bit_or n (2 ^ k) ≡ bit_or (n / 2 ^ k) 1 * 2 ^ k + n % 2 ^ k =
    ap (λ (x : ℕ). bit_or x (2 ^ k)) (sym (shr_split n k)) ∙ ap (λ (x : ℕ). bit_or (n / 2 ^ k * 2 ^ k + n % 2 ^ k) x) whole
    ∙ or_block k (n / 2 ^ k) 1 (n % 2 ^ k) 0 below (pow_pos k) ∙ rw or_zero_r
    in
    let split : ones n ≡ ones (n / 2 ^ k) + ones (n % 2 ^ k) = ap ones (sym (shr_split n k)) ∙ ones_cat k (n / 2 ^ k) (n % 2 ^ k) below in
    rw (set, ones_cat k (bit_or (n / 2 ^ k) 1) (n % 2 ^ k) below, ones_odd (n / 2 ^ k) free, split) (omega arith)
