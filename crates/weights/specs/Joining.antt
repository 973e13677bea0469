-- What a joining, which makes one number of a weight and an amount, has to keep.
use Rattle.std.specs.Prelude.{◌≡◌, ℕ, ◌≤◌}

-- two amounts joined one after the other give the same in either order
abbrev pub Swaps : (ℕ → ℕ → ℕ) → Type 0
Swaps join = (weight first second : ℕ) → join (join weight first) second ≡ join (join weight second) first

-- a weight does not fall
abbrev pub Keeps : (ℕ → ℕ → ℕ) → Type 0
Keeps join = (weight amount : ℕ) → weight ≤ join weight amount

-- a weight is at least each amount that is joined to it
abbrev pub Covers : (ℕ → ℕ → ℕ) → Type 0
Covers join = (weight amount : ℕ) → amount ≤ join weight amount
