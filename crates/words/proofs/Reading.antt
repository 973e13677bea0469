-- A word that fits is read off its number, so no two such words have one number.
use Rattle.std.proofs.Common.{◌≡◌, ℕ, ◌/◌, ◌%◌, ◌^◌, cond, eqb, Some, None, Option, sym, refl, ap, ◌∙◌, ⊎_elim, arith}
use Rattle.std.proofs.lemmas.Bool.{cases_eq, cond_both}
use Rattle.words.specs.declared.word.Word.{Word}
use Rattle.words.specs.declared.word.Word.TheVariants.{Period, Segment, Factor, Meter, Select, Amount, Carried}
use Rattle.words.specs.Layout.{encoded, FieldsFit, Decoded}

-- the word of a kind whose fields stand in n
abbrev of_kind : ℕ → ℕ → Word
of_kind n kind =
    cond (eqb kind 1) (Period (n / 2 ^ 16 % 2 ^ 12) (n / 2 ^ 12 % 2 ^ 4) (n % 2 ^ 10))
    (cond (eqb kind 2) (Segment (record { segment = n / 2 ^ 26 % 2 ^ 2; service = n / 2 ^ 24 % 2 ^ 2; tariff = n % 2 ^ 14 }))
    (cond (eqb kind 3) (Factor (n / 2 ^ 26 % 2 ^ 2) (n % 2 ^ 11))
    (cond (eqb kind 4) (Meter (n / 2 ^ 26 % 2 ^ 2) (n / 2 ^ 22 % 2 ^ 4) (n / 2 ^ 18 % 2 ^ 4) (n % 2 ^ 6))
    (cond (eqb kind 5) (Select (record { segment = n / 2 ^ 26 % 2 ^ 2; meter = n / 2 ^ 20 % 2 ^ 6; hour = n % 2 ^ 10 }))
    (cond (eqb kind 6) (Amount (n % 2 ^ 15))
    (Carried (n / 2 ^ 20 % 2 ^ 6) (n % 2 ^ 15)))))))

-- the fields of a word that fits are those that stand in its number
read_back : (word : Word) → FieldsFit word → (n : ℕ) → encoded word ≡ n → of_kind n (n / 2 ^ 28) ≡ word
read_back (Period year month hours) fit n e =
    let kind : n / 2 ^ 28 ≡ 1 = omega arith in
    let y : n / 2 ^ 16 % 2 ^ 12 ≡ year = omega arith in
    let m : n / 2 ^ 12 % 2 ^ 4 ≡ month = omega arith in
    let h : n % 2 ^ 10 ≡ hours = omega arith in
    ap (of_kind n) kind ∙ cc
read_back (Segment given) fit n e =
    let kind : n / 2 ^ 28 ≡ 2 = omega arith in
    let g : n / 2 ^ 26 % 2 ^ 2 ≡ given.segment = omega arith in
    let s : n / 2 ^ 24 % 2 ^ 2 ≡ given.service = omega arith in
    let t : n % 2 ^ 14 ≡ given.tariff = omega arith in
    ap (of_kind n) kind ∙ rw (g, s, t)
read_back (Factor segment factor) fit n e =
    let kind : n / 2 ^ 28 ≡ 3 = omega arith in
    let g : n / 2 ^ 26 % 2 ^ 2 ≡ segment = omega arith in
    let f : n % 2 ^ 11 ≡ factor = omega arith in
    ap (of_kind n) kind ∙ cc
read_back (Meter segment user station meter) fit n e =
    let kind : n / 2 ^ 28 ≡ 4 = omega arith in
    let g : n / 2 ^ 26 % 2 ^ 2 ≡ segment = omega arith in
    let u : n / 2 ^ 22 % 2 ^ 4 ≡ user = omega arith in
    let s : n / 2 ^ 18 % 2 ^ 4 ≡ station = omega arith in
    let m : n % 2 ^ 6 ≡ meter = omega arith in
    ap (of_kind n) kind ∙ cc
read_back (Select spot) fit n e =
    let kind : n / 2 ^ 28 ≡ 5 = omega arith in
    let g : n / 2 ^ 26 % 2 ^ 2 ≡ spot.segment = omega arith in
    let m : n / 2 ^ 20 % 2 ^ 6 ≡ spot.meter = omega arith in
    let h : n % 2 ^ 10 ≡ spot.hour = omega arith in
    ap (of_kind n) kind ∙ rw (g, m, h)
read_back (Amount amount) fit n e =
    let kind : n / 2 ^ 28 ≡ 6 = omega arith in
    let a : n % 2 ^ 15 ≡ amount = omega arith in
    ap (of_kind n) kind ∙ cc
read_back (Carried meter amount) fit n e =
    let kind : n / 2 ^ 28 ≡ 7 = omega arith in
    let m : n / 2 ^ 20 % 2 ^ 6 ≡ meter = omega arith in
    let a : n % 2 ^ 15 ≡ amount = omega arith in
    ap (of_kind n) kind ∙ cc

-- no two words that fit have one number
pub encoded-injective : (word other : Word) → FieldsFit word → FieldsFit other → encoded word ≡ encoded other → word ≡ other
encoded-injective word other fit also same =
    sym (read_back word fit (encoded other) same) ∙ read_back other also (encoded other) refl

-- what a number is as a word is fixed by the number
pub decoded-back : (n : ℕ) (r : Option Word) → Decoded n r → (word : Word) → FieldsFit word → encoded word ≡ n → r ≡ Some word
decoded-back n None none word fit e = absurd (none word fit e)
decoded-back n (Some found) has word fit e = ap Some (encoded-injective found word has.0 fit (has.1 ∙ sym e))

of_kind_fits : (n kind : ℕ) → FieldsFit (of_kind n kind)
of_kind_fits n kind =
    cond_both (eqb kind 1) _ _ FieldsFit (λ _. (omega arith, omega arith, omega arith)) (λ _.
    cond_both (eqb kind 2) _ _ FieldsFit (λ _. (omega arith, omega arith, omega arith)) (λ _.
    cond_both (eqb kind 3) _ _ FieldsFit (λ _. (omega arith, omega arith)) (λ _.
    cond_both (eqb kind 4) _ _ FieldsFit (λ _. (omega arith, omega arith, omega arith, omega arith)) (λ _.
    cond_both (eqb kind 5) _ _ FieldsFit (λ _. (omega arith, omega arith, omega arith)) (λ _.
    cond_both (eqb kind 6) _ _ FieldsFit (λ _. omega arith) (λ _. (omega arith, omega arith)))))))

-- every number is a word or none
pub decodes : (n : ℕ) → (r : Option Word) × Decoded n r
decodes n =
    let found : Word = of_kind n (n / 2 ^ 28) in
    ⊎_elim
    (λ same. (Some found, (of_kind_fits n (n / 2 ^ 28), same)))
    (λ other. (None, λ word fit e. other (ap encoded (read_back word fit n e) ∙ e)))
    (cases_eq (encoded found) n)
