-- What the numbered words of a block tell of its bytes and its places.
use Rattle.std.proofs.Common.{◌≡◌, ℕ, zero, suc, ◌^◌, ◌<◌, ◌≤◌, List, [], ◌∷◌, ◌++◌, length, get_or, sym, refl, ap, ◌∙◌, arith}
use Rattle.std.specs.List.{flat_map, AllByRecursion}
use Rattle.std.specs.Iterator.{Drains}
use Rattle.words.specs.declared.window.Window.{Window}
use Rattle.words.specs.Windows.{entries, Shown}
use Rattle.words.specs.Bytes.{spelled, words_of, left_over, last_number, number_at, numbered, Collected}
use Rattle.words.proofs.Spelling.{words_spelled, spelled_words}

spelled_numbered : (n : ℕ) (ws : List ℕ) → flat_map (λ (entry : ℕ × ℕ). spelled entry.1) (numbered n ws) ≡ flat_map spelled ws
spelled_numbered n [] = refl
spelled_numbered n (w ∷ ws) = ap (λ bs. spelled w ++ bs) (spelled_numbered (number_at n 1) ws)

number_at-is : (n : ℕ) (ws : List ℕ) (k : ℕ) → n ≤ last_number → k < length (numbered n ws) → (get_or (numbered n ws) k (0, 0)).0 ≡ number_at n k
number_at-is n [] k small within = absurd (omega arith)
number_at-is n (w ∷ ws) zero small within = omega arith
number_at-is n (w ∷ ws) (suc k) small within = number_at-is (number_at n 1) ws k (omega arith) (omega arith) ∙ omega arith

pub collected : (block : List ℕ) (n : ℕ) (items : List (ℕ × ℕ)) → AllByRecursion (λ b. b < 2 ^ 8) block → n ≤ last_number
    → items ≡ numbered n (words_of block) → Collected block n items
collected block n items bytes small shown = record {
  shown = shown;
  spells =
      ap (λ es. flat_map (λ (entry : ℕ × ℕ). spelled entry.1) es ++ left_over block) shown
      ∙ ap (λ bs. bs ++ left_over block) (spelled_numbered n (words_of block)) ∙ spelled_words block bytes;
  written = λ words fit e. shown ∙ ap (λ bs. numbered n (words_of bs)) e ∙ ap (numbered n) (words_spelled words fit);
  places = λ k within. rw shown (number_at-is n (words_of block) k small (rw shown at within));
}

-- what a window shows until it shows nothing
pub drained : (window : Window) (items : List (ℕ × ℕ)) → Drains Shown window items → items ≡ entries window
drained window [] (end, (stopped, same, none)) = sym (ap entries same ∙ none.0)
drained window (item ∷ items) (end, (stopped, (next, shown, others), last)) =
    ap (λ rest. item ∷ rest) (drained next items (end, (stopped, others, last))) ∙ sym shown.shows
