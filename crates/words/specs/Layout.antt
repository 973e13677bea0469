-- The bit fields of a month file's words. Assumes nothing.
use Rattle.std.specs.Prelude.{◌≡◌, ℕ, ◌+◌, ◌*◌, ◌^◌, ◌<◌, Some, None, Option, ◌≢◌}
use Rattle.words.specs.declared.word.Word.{Word}
use Rattle.words.specs.declared.word.Word.TheVariants.{Period, Segment, Factor, Meter, Select, Amount, Carried}

-- A word as a number below 2 ^ 32: the kind, then each field times the power of its lowest bit.
abbrev pub encoded : Word → ℕ
encoded (Period year month hours) = 1 * 2 ^ 28 + year * 2 ^ 16 + month * 2 ^ 12 + hours
encoded (Segment given) = 2 * 2 ^ 28 + given.segment * 2 ^ 26 + given.service * 2 ^ 24 + given.tariff
encoded (Factor segment factor) = 3 * 2 ^ 28 + segment * 2 ^ 26 + factor
encoded (Meter segment user station meter) = 4 * 2 ^ 28 + segment * 2 ^ 26 + user * 2 ^ 22 + station * 2 ^ 18 + meter
encoded (Select spot) = 5 * 2 ^ 28 + spot.segment * 2 ^ 26 + spot.meter * 2 ^ 20 + spot.hour
encoded (Amount amount) = 6 * 2 ^ 28 + amount
encoded (Carried meter amount) = 7 * 2 ^ 28 + meter * 2 ^ 20 + amount

-- Each field below 2 ^ its number of bits.
abbrev pub FieldsFit : Word → Type 0
FieldsFit (Period year month hours) = (year < 2 ^ 12) × (month < 2 ^ 4) × (hours < 2 ^ 10)
FieldsFit (Segment given) = (given.segment < 2 ^ 2) × (given.service < 2 ^ 2) × (given.tariff < 2 ^ 14)
FieldsFit (Factor segment factor) = (segment < 2 ^ 2) × (factor < 2 ^ 11)
FieldsFit (Meter segment user station meter) = (segment < 2 ^ 2) × (user < 2 ^ 4) × (station < 2 ^ 4) × (meter < 2 ^ 6)
FieldsFit (Select spot) = (spot.segment < 2 ^ 2) × (spot.meter < 2 ^ 6) × (spot.hour < 2 ^ 10)
FieldsFit (Amount amount) = amount < 2 ^ 15
FieldsFit (Carried meter amount) = (meter < 2 ^ 6) × (amount < 2 ^ 15)

-- What a number is as a word: the word with these bits, or none where no word has them.
abbrev pub Decoded : ℕ → Option Word → Type 0
Decoded n (Some word) = FieldsFit word × (encoded word ≡ n)
Decoded n None = (word : Word) → FieldsFit word → encoded word ≢ n
