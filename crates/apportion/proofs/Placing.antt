-- Writing one share after the other, and what stands in the places then. Assumes nothing.
use Rattle.std.proofs.Common.{◌≡◌, ℕ, ◌+◌, ◌<◌, List, [], ◌∷◌, ◌++◌, map, length, drop, set, sym, ap, ◌∙◌, zero-add}
use Rattle.std.specs.List.{range_with_len}
use Rattle.std.proofs.lemmas.List.FromFn.{map-range_with_len_more, length-map-range_with_len}
use Rattle.std.proofs.lemmas.List.{append_assoc, drop_more, set_at}

-- f at the positions below i, and beyond them what stood there
abbrev pub filled : (ℕ → ℕ) → ℕ → List ℕ → List ℕ
filled f i places = map f (range_with_len 0 i) ++ drop i places

pub filled_more : (f : ℕ → ℕ) (places : List ℕ) (i v : ℕ) → i < length places → v ≡ f i
    → set (filled f i places) i v ≡ filled f (i + 1) places
filled_more f places i v h e =
    ap (λ rest. set (map f (range_with_len 0 i) ++ rest) i v) (drop_more places i 0 h)
    ∙ set_at (map f (range_with_len 0 i)) _ (drop (i + 1) places) v i (length-map-range_with_len f 0 i)
    ∙ ap (λ x. map f (range_with_len 0 i) ++ x ∷ drop (i + 1) places) e
    ∙ sym (append_assoc (map f (range_with_len 0 i)) (f i ∷ []) (drop (i + 1) places))
    ∙ ap (λ front. front ++ drop (i + 1) places) (sym (map-range_with_len_more f 0 i i (zero-add i)))
