-- The bytes of a month file's words, highest byte first, and the numbers of the words. Assumes nothing.
use Rattle.std.specs.Prelude.{◌≡◌, ℕ, ◌+◌, ◌-◌, ◌*◌, ◌/◌, ◌%◌, ◌^◌, ◌<◌, min, List, [], ◌∷◌, ◌++◌, length, slice_index_or}
use Rattle.std.specs.List.{flat_map, AllByRecursion}

-- how many bytes a word has
abbrev pub word_bytes : ℕ
word_bytes = 4

-- the bytes of a word
abbrev pub spelled : ℕ → List ℕ
spelled n = n / 2 ^ 24 % 2 ^ 8 ∷ n / 2 ^ 16 % 2 ^ 8 ∷ n / 2 ^ 8 % 2 ^ 8 ∷ n % 2 ^ 8 ∷ []

-- the words of a list of bytes
abbrev pub words_of : List ℕ → List ℕ
words_of [] = []
words_of (a ∷ []) = []
words_of (a ∷ b ∷ []) = []
words_of (a ∷ b ∷ c ∷ []) = []
words_of (a ∷ b ∷ c ∷ d ∷ rest) = (a * 2 ^ 24 + b * 2 ^ 16 + c * 2 ^ 8 + d) ∷ words_of rest

-- the bytes after the last whole word, too few for another
abbrev pub left_over : List ℕ → List ℕ
left_over [] = []
left_over (a ∷ []) = a ∷ []
left_over (a ∷ b ∷ []) = a ∷ b ∷ []
left_over (a ∷ b ∷ c ∷ []) = a ∷ b ∷ c ∷ []
left_over (a ∷ b ∷ c ∷ d ∷ rest) = left_over rest

-- the greatest number that a word can have
abbrev pub last_number : ℕ
last_number = 2 ^ 64 - 1

-- the number of the word that comes so many places after the one numbered n; the count stops at the greatest number
abbrev pub number_at : ℕ → ℕ → ℕ
number_at n place = min (n + place) last_number

-- words with their numbers, the first of them numbered n
abbrev pub numbered : ℕ → List ℕ → List (ℕ × ℕ)
numbered n [] = []
numbered n (word ∷ words) = (n, word) ∷ numbered (number_at n 1) words

-- The entries of a block whose first word is numbered n are its words with their numbers. Spelled again, with the bytes left
-- over, they are the block; a block that spells words has these; and the word at each place has n and the place for number.
pub record Collected (block : List ℕ) (n : ℕ) (items : List (ℕ × ℕ)) : Type 0 where
  pub shown : items ≡ numbered n (words_of block)
  pub spells : flat_map (λ entry. spelled entry.1) items ++ left_over block ≡ block
  pub written : (words : List ℕ) → AllByRecursion (λ word. word < 2 ^ 32) words → block ≡ flat_map spelled words → items ≡ numbered n words
  pub places : (k : ℕ) → k < length items → (slice_index_or items k (0, 0)).0 ≡ number_at n k
