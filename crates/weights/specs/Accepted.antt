-- Amounts noted for one meter, one after another: which are accepted, and what they bring the weights to.
use Rattle.std.specs.Prelude.{◌≡◌, ℕ, ◌≤◌, cond, List, [], ◌∷◌, length, is_some, slice_index, slice_index_or, slice_set}
use mathlib.Core.List.{Perm}
use Rattle.std.specs.List.{AllByRecursion}
use Rattle.weights.specs.Answers.{note_refusal}

-- a weight joined with amounts, one by one
abbrev pub joined_all : (join : ℕ → ℕ → ℕ) (weight : ℕ) → List ℕ → ℕ
joined_all join weight [] = weight
joined_all join weight (amount ∷ rest) = joined_all join (join weight amount) rest

-- The amounts that are accepted: one enters exactly when nothing refuses it over the weight that those before it left.
abbrev pub accepted : (join : ℕ → ℕ → ℕ) (weight meter : ℕ) → List ℕ → List ℕ
accepted join weight meter [] = []
accepted join weight meter (amount ∷ rest) =
    cond (is_some (note_refusal meter amount (join weight amount)))
    (accepted join weight meter rest)
    (amount ∷ accepted join (join weight amount) meter rest)

module _ (join : ℕ → ℕ → ℕ) (weights : List ℕ) (meter : ℕ) where
  -- the accepted amounts of a list that is noted over these weights
  abbrev pub accepted_at : List ℕ → List ℕ
  accepted_at amounts = accepted join (slice_index weights meter) meter amounts

  -- the meter's weight joined with the accepted amounts
  abbrev pub weight_after : List ℕ → ℕ
  weight_after amounts = joined_all join (slice_index weights meter) (accepted_at amounts)

  -- all weights then: those of the other meters stay
  abbrev pub weights_after : List ℕ → List ℕ
  weights_after amounts = slice_set weights meter (weight_after amounts)

  -- What noting amounts one after another answers and leaves, whatever the joining.
  pub record NotedEach (amounts : List ℕ) (count : ℕ) (after : List ℕ) : Type 0 where
    -- the answer is how many are accepted, and the meter's weight is joined with those
    pub counted : count ≡ length (accepted_at amounts)
    pub left : after ≡ weights_after amounts
    -- the meter's weight does not fall, and is at least each accepted amount
    pub kept : slice_index_or weights meter 0 ≤ weight_after amounts
    pub covered : AllByRecursion (λ amount. amount ≤ weight_after amounts) (accepted_at amounts)
    -- noted in any other order, the accepted amounts are all accepted and leave the same weights
    pub rearranged : (others : List ℕ) →
        Perm (accepted_at amounts) others →
        (accepted_at others ≡ others) × (weights_after others ≡ after)
