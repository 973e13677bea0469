-- The numbers of words that follow one another.
use Rattle.std.proofs.Common.{◌≡◌, ℕ, ◌≤◌, List, [], ◌∷◌, ◌++◌, map, length, get_or, sym, refl, ap, ◌∙◌, arith}
use Rattle.words.specs.Bytes.{last_number, number_at, numbered}

-- words after others go on with the count
pub numbered-append : (n : ℕ) (ws vs : List ℕ) → n ≤ last_number → numbered n (ws ++ vs) ≡ numbered n ws ++ numbered (number_at n (length ws)) vs
numbered-append n [] vs small = ap (λ m. numbered m vs) (omega arith)
numbered-append n (w ∷ ws) vs small =
    ap (λ es. (n, w) ∷ es) (numbered-append (number_at n 1) ws vs (omega arith)
    ∙ ap (λ m. numbered (number_at n 1) ws ++ numbered m vs) (omega arith))

unnumbered : (n : ℕ) (ws : List ℕ) → map (λ (e : ℕ × ℕ). e.1) (numbered n ws) ≡ ws
unnumbered n [] = refl
unnumbered n (w ∷ ws) = ap (λ rest. w ∷ rest) (unnumbered (number_at n 1) ws)

pub none_left : (n : ℕ) (ws : List ℕ) → numbered n ws ≡ [] → ws ≡ []
none_left n ws e = sym (unnumbered n ws) ∙ ap (map (λ (x : ℕ × ℕ). x.1)) e

-- the word that a window shows, and those that it has left
pub shown : (n m : ℕ) (ws vs : List ℕ) (place bits : ℕ) → numbered n ws ≡ (place, bits) ∷ numbered m vs → (ws ≡ bits ∷ vs) × (place ≡ n)
shown n m ws vs place bits e =
    let split : ws ≡ bits ∷ vs = sym (unnumbered n ws) ∙ ap (map (λ (x : ℕ × ℕ). x.1)) e ∙ ap (λ rest. bits ∷ rest) (unnumbered m vs) in
    let first : List (ℕ × ℕ) → ℕ = λ l. (get_or l 0 (place, bits)).0 in
    (split, ap first (sym e) ∙ ap (λ l. first (numbered n l)) split)
