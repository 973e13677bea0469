-- Words one by one, as all layers judge them. Assumes nothing.
use Rattle.std.proofs.Common.{◌≡◌, ℕ, List, [], ◌∷◌, ◌++◌, length, Some, None, Option, sym, refl, ap, ◌∙◌, subst, append_assoc, arith}
use Rattle.std.proofs.lemmas.List.{append-nil, same_from_push}
use Rattle.words.specs.Bytes.{number_at}
use Rattle.words.specs.declared.word.Word.{Word}
use Rattle.monthfile.specs.Judging.{Standing, Taken, beginning, judge}
use Rattle.monthfile.specs.Reading.{Reading, booking_of, ended, gone_on, preceded, reading}
use Rattle.monthfile.specs.declared.brought.Brought.{Brought}
use Rattle.monthfile.proofs.OneByOne.{read_after}
use Rattle.loading.specs.Layers.{NoneRefused, reading_of, word_fault}

-- what the words read with one more that FILE and PLAN take
pub record Pushed (words : List (Option Word)) (word : Word) (after : Standing) (brought : Brought) : Type 0 where
  pub clean : (reading_of (words ++ Some word ∷ [])).fault ≡ None
  pub stands : (reading_of (words ++ Some word ∷ [])).standing ≡ after
  pub booked : (reading_of (words ++ Some word ∷ [])).bookings ≡ (reading_of words).bookings ++ booking_of brought

pub pushed : (words : List (Option Word)) (word : Word) (after : Standing) (brought : Brought) →
    (reading_of words).fault ≡ None →
    judge (reading_of words).standing word ≡ Taken after brought →
    Pushed words word after brought
pushed words word after brought clean e =
    let r : Reading = reading_of words in
    let n : ℕ = number_at 0 (length words) in
    let whole = read_after beginning 0 words (Some word ∷ []) (omega arith) clean in
    let one : reading r.standing n (Some word ∷ []) ≡ preceded brought (ended after None) =
    ap (λ v. gone_on r.standing n v (λ st. reading st (number_at n 1) [])) e in
    record {
      clean = ap (λ x. x.fault) whole ∙ ap (λ x. x.fault) one;
      stands = ap (λ x. x.standing) whole ∙ ap (λ x. x.standing) one;
      booked =
          ap (λ x. x.bookings) whole ∙ ap (λ x. r.bookings ++ x.bookings) one
          ∙ ap (λ bs. r.bookings ++ bs) (append-nil (booking_of brought));
    }

-- a list that is not empty has a last element
last_of : {X : Type 0} (x : X) (xs : List X) → (front : List X) × (last : X) × (x ∷ xs ≡ front ++ last ∷ [])
last_of x [] = ([], x, refl)
last_of x (y ∷ ys) = let rest = last_of y ys in (x ∷ rest.0, rest.1, ap (λ l. x ∷ l) rest.2)

module _ (joins : ℕ → ℕ → ℕ → ℕ) where
  pub none_refused_nil : NoneRefused joins []
  none_refused_nil [] after word e = cc
  none_refused_nil (b ∷ before) after word e = cc

  pub none_refused_push : (words : List (Option Word)) (word : Option Word) →
      NoneRefused joins words →
      word_fault joins words word ≡ None →
      NoneRefused joins (words ++ word ∷ [])
  none_refused_push words word none fine before [] other e =
      let same = same_from_push words before word other e in
      subst (λ w. word_fault joins before w ≡ None) same.1 (subst (λ ws. word_fault joins ws word ≡ None) same.0 fine)
  none_refused_push words word none fine before (x ∷ xs) other e =
      let end = last_of x xs in
      let split : words ++ word ∷ [] ≡ (before ++ other ∷ end.0) ++ end.1 ∷ [] =
      e ∙ ap (λ l. before ++ other ∷ l) end.2 ∙ sym (append_assoc before (other ∷ end.0) (end.1 ∷ [])) in
      none before end.0 other (same_from_push words (before ++ other ∷ end.0) word end.1 split).0
