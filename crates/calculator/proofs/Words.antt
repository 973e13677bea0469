-- One word or one number more. Assumes nothing.
use Rattle.std.proofs.Common.{◌≡◌, ℕ, zero, suc, ◌+◌, ◌<◌, List, [], ◌∷◌, ◌++◌, length, get_or, take, string_bytes, codes, decimal, String, sym, refl, ap, ◌∙◌, append_assoc, le_of_suc-le-suc, not-suc-le-zero}
use Rattle.std.proofs.lemmas.List.{take_more}
use Rattle.calculator.specs.Replies.{Writes, WriteAll, spaced}

module _ {A : Type 0} where
  pub write_all_push : (ws : List (String A)) (ns : List ℕ) (w : String A) (n : ℕ)
      → WriteAll ws ns → Writes (string_bytes w) n → WriteAll (ws ++ w ∷ []) (ns ++ n ∷ [])
  write_all_push [] [] w n h one = (one, tt)
  write_all_push [] (m ∷ ns) w n h one = absurd h
  write_all_push (v ∷ ws) [] w n h one = absurd h
  write_all_push (v ∷ ws) (m ∷ ns) w n h one = (h.0, write_all_push ws ns w n h.1 one)

  pub write_all_at : (ws : List (String A)) (ns : List ℕ) (k : ℕ) (d : String A)
      → WriteAll ws ns → k < length ws → (n : ℕ) × Writes (string_bytes (get_or ws k d)) n
  write_all_at [] ns k d h l = absurd (not-suc-le-zero l)
  write_all_at (w ∷ ws) [] k d h l = absurd h
  write_all_at (w ∷ ws) (n ∷ ns) zero d h l = (n, h.0)
  write_all_at (w ∷ ws) (n ∷ ns) (suc k) d h l = write_all_at ws ns k d h.1 (le_of_suc-le-suc l)

spaced_push : (m : ℕ) (ns : List ℕ) (n : ℕ) → spaced (m ∷ ns ++ n ∷ []) ≡ spaced (m ∷ ns) ++ (codes " " ++ decimal n)
spaced_push m [] n = refl
spaced_push m (k ∷ ns) n =
    ap (λ rest. decimal m ++ (codes " " ++ rest)) (spaced_push k ns n)
    ∙ sym (append_assoc (decimal m) (codes " " ++ spaced (k ∷ ns)) (codes " " ++ decimal n))

-- one number more of a list, parted by a blank from those before it
pub spaced_more : (ns : List ℕ) (i : ℕ) → i < length ns → 0 < i → spaced (take (i + 1) ns) ≡ spaced (take i ns) ++ (codes " " ++ decimal (get_or ns i 0))
spaced_more (m ∷ ns) (suc i) h p =
    ap spaced (take_more (m ∷ ns) (suc i) 0 h) ∙ spaced_push m (take i ns) (get_or ns i 0)
spaced_more (m ∷ ns) zero h p = absurd (not-suc-le-zero p)
spaced_more [] i h p = absurd (not-suc-le-zero h)

-- the first number of a list
pub spaced_one : (ns : List ℕ) (i : ℕ) → i < length ns → i ≡ 0 → spaced (take (i + 1) ns) ≡ decimal (get_or ns i 0)
spaced_one ns i h none = ap spaced (take_more ns i 0 h) ∙ ap (λ k. spaced (take k ns ++ get_or ns i 0 ∷ [])) none
