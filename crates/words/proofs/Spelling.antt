-- The words of bytes, and the bytes of words.
use Rattle.std.proofs.Common.{◌≡◌, ℕ, ◌+◌, ◌*◌, ◌/◌, ◌%◌, ◌^◌, ◌<◌, ◌≤◌, List, [], ◌∷◌, ◌++◌, length, get_or, take, drop, refl, ap, ◌∙◌, arith}
use Rattle.std.specs.List.{flat_map, AllByRecursion}
use Rattle.std.proofs.lemmas.Nat.{mod-pow-add}
use Rattle.words.specs.Bytes.{word_bytes, spelled, words_of, left_over}

-- the first word of bytes that have one
pub words_front : (bs : List ℕ) → word_bytes ≤ length bs
    → words_of bs
    ≡ (get_or (take word_bytes bs) 0 0 * 2 ^ 24 + get_or (take word_bytes bs) 1 0 * 2 ^ 16 + get_or (take word_bytes bs) 2 0 * 2 ^ 8 + get_or (take word_bytes bs) 3 0) ∷ words_of (drop word_bytes bs)
words_front [] long = absurd (omega arith)
words_front (a ∷ []) long = absurd (omega arith)
words_front (a ∷ b ∷ []) long = absurd (omega arith)
words_front (a ∷ b ∷ c ∷ []) long = absurd (omega arith)
words_front (a ∷ b ∷ c ∷ d ∷ rest) long = refl

pub length-left_over : (bs : List ℕ) → length (left_over bs) ≡ length bs % word_bytes
length-left_over [] = refl
length-left_over (a ∷ []) = refl
length-left_over (a ∷ b ∷ []) = refl
length-left_over (a ∷ b ∷ c ∷ []) = refl
length-left_over (a ∷ b ∷ c ∷ d ∷ rest) = omega (arith, length-left_over rest)

pub length-words : (bs : List ℕ) → length (words_of bs) ≡ length bs / word_bytes
length-words [] = refl
length-words (a ∷ []) = refl
length-words (a ∷ b ∷ []) = refl
length-words (a ∷ b ∷ c ∷ []) = refl
length-words (a ∷ b ∷ c ∷ d ∷ rest) = omega (arith, length-words rest)

-- bytes that end with a whole word: the words of what follows come after theirs
pub words_append : (bs cs : List ℕ) → length bs % word_bytes ≡ 0 → words_of (bs ++ cs) ≡ words_of bs ++ words_of cs
words_append [] cs whole = refl
words_append (a ∷ []) cs whole = absurd (omega arith)
words_append (a ∷ b ∷ []) cs whole = absurd (omega arith)
words_append (a ∷ b ∷ c ∷ []) cs whole = absurd (omega arith)
words_append (a ∷ b ∷ c ∷ d ∷ rest) cs whole =
    ap (λ ws. (a * 2 ^ 24 + b * 2 ^ 16 + c * 2 ^ 8 + d) ∷ ws) (words_append rest cs (omega arith))

pub left_over-append : (bs cs : List ℕ) → length bs % word_bytes ≡ 0 → left_over (bs ++ cs) ≡ left_over cs
left_over-append [] cs whole = refl
left_over-append (a ∷ []) cs whole = absurd (omega arith)
left_over-append (a ∷ b ∷ []) cs whole = absurd (omega arith)
left_over-append (a ∷ b ∷ c ∷ []) cs whole = absurd (omega arith)
left_over-append (a ∷ b ∷ c ∷ d ∷ rest) cs whole = left_over-append rest cs (omega arith)

word_spelled : (word : ℕ) → word < 2 ^ 32
    → word / 2 ^ 24 % 2 ^ 8 * 2 ^ 24 + word / 2 ^ 16 % 2 ^ 8 * 2 ^ 16 + word / 2 ^ 8 % 2 ^ 8 * 2 ^ 8 + word % 2 ^ 8 ≡ word
word_spelled word small = omega (arith, mod-pow-add word 8 24, mod-pow-add word 8 16, mod-pow-add word 8 8)

-- the words of spelled words are those
pub words_spelled : (ws : List ℕ) → AllByRecursion (λ w. w < 2 ^ 32) ws → words_of (flat_map spelled ws) ≡ ws
words_spelled [] fit = refl
words_spelled (w ∷ ws) fit = rw (words_spelled ws fit.1, word_spelled w fit.0)

bytes_of_word : (a b c d : ℕ) → a < 2 ^ 8 → b < 2 ^ 8 → c < 2 ^ 8 → d < 2 ^ 8 → spelled (a * 2 ^ 24 + b * 2 ^ 16 + c * 2 ^ 8 + d) ≡ a ∷ b ∷ c ∷ d ∷ []
bytes_of_word a b c d a' b' c' d' =
    let n : ℕ = a * 2 ^ 24 + b * 2 ^ 16 + c * 2 ^ 8 + d in
    let p : n / 2 ^ 24 % 2 ^ 8 ≡ a = omega arith in
    let q : n / 2 ^ 16 % 2 ^ 8 ≡ b = omega arith in
    let r : n / 2 ^ 8 % 2 ^ 8 ≡ c = omega arith in
    let s : n % 2 ^ 8 ≡ d = omega arith in
    cc

-- the words spelled and the bytes left over are the bytes
pub spelled_words : (bs : List ℕ) → AllByRecursion (λ b. b < 2 ^ 8) bs → flat_map spelled (words_of bs) ++ left_over bs ≡ bs
spelled_words [] fit = refl
spelled_words (a ∷ []) fit = refl
spelled_words (a ∷ b ∷ []) fit = refl
spelled_words (a ∷ b ∷ c ∷ []) fit = refl
spelled_words (a ∷ b ∷ c ∷ d ∷ rest) fit =
    let first = bytes_of_word a b c d fit.0 fit.1.0 fit.1.1.0 fit.1.1.1.0 in
    ap (λ bs. (bs ++ flat_map spelled (words_of rest)) ++ left_over rest) first
    ∙ ap (λ bs. a ∷ b ∷ c ∷ d ∷ bs) (spelled_words rest fit.1.1.1.1)
