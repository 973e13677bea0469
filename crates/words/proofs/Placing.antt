-- A value put into the empty low bits of a word.
use Rattle.std.proofs.Common.{◌≡◌, ℕ, ◌+◌, ◌*◌, ◌/◌, ◌%◌, ◌^◌, ◌<◌, ◌≤◌, sym, ap, ◌∙◌, add_comm, arith}
use lib.Bits.{bit_or}
use Rattle.std.proofs.lemmas.Nat.{or_shifted, shl_below, shl_whole, shr_split, pow_pos, mod_below}

-- the bits above 2 ^ k are none exactly where the value is below it
pub below_from_shr : (value k : ℕ) → value / 2 ^ k ≡ 0 → value < 2 ^ k
below_from_shr value k none =
    let e : value / 2 ^ k * 2 ^ k ≡ 0 = ap (λ q. q * 2 ^ k) none ∙ omega arith in
    omega (arith, shr_split value k, mod_below value (2 ^ k) (pow_pos k))

pub or_placed : (bits value low width : ℕ) → bits % 2 ^ (low + width) ≡ 0 → value < 2 ^ width → low + width ≤ 32
    → bit_or bits (value * 2 ^ low % 2 ^ 32) ≡ bits + value * 2 ^ low
or_placed bits value low width empty small fits =
    let whole : value * 2 ^ low % 2 ^ 32 ≡ value * 2 ^ low = shl_whole value width low 32 small (omega arith) in
    let above : bits ≡ bits / 2 ^ (low + width) * 2 ^ (low + width) = omega (arith, shr_split bits (low + width)) in
    let room : value * 2 ^ low < 2 ^ (low + width) = rw (add_comm low width) (shl_below value width low small) in
    ap (λ v. bit_or bits v) whole ∙ ap (λ b. bit_or b (value * 2 ^ low)) above
    ∙ or_shifted (bits / 2 ^ (low + width)) (low + width) (value * 2 ^ low) room
    ∙ ap (λ b. b + value * 2 ^ low) (sym above)
