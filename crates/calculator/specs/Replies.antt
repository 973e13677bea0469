-- What the calculator reads and what it writes. Assumes nothing.
use Rattle.std.specs.Prelude.{◌≡◌, ℕ, ◌^◌, ◌<◌, List, [], ◌∷◌, ◌++◌, Some, None, string_bytes, codes, decimal, Option, String}
use Rattle.std.specs.Str.Parse.{IsNumeral, without_leading_plus, digits_value}

-- the word writes a number that 64 bits hold: decimal digits, with or without a plus sign in front
pub record Writes (word : List ℕ) (n : ℕ) : Type 0 where
  pub digits : IsNumeral 10 (without_leading_plus word)
  pub number : n ≡ digits_value 10 (without_leading_plus word)
  pub fits : n < 2 ^ 64

-- the words write these numbers, one each
abbrev pub WriteAll : {A : Type 0} → List (String A) → List ℕ → Type 0
WriteAll [] [] = Unit {0}
WriteAll [] (n ∷ ns) = ⊥
WriteAll (w ∷ ws) [] = ⊥
WriteAll (w ∷ ws) (n ∷ ns) = Writes (string_bytes w) n × WriteAll ws ns

-- numbers parted by blanks
abbrev pub spaced : List ℕ → List ℕ
spaced [] = []
spaced (n ∷ []) = decimal n
spaced (n ∷ m ∷ ns) = decimal n ++ (codes " " ++ spaced (m ∷ ns))

-- the line that tells of a refusal, or else of the numbers
abbrev pub reply_line : Option ℕ → List ℕ → List ℕ
reply_line None ns = spaced ns
reply_line (Some number) ns = codes "REFUSED " ++ decimal number
