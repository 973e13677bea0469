-- The records of words that follow one another. Assumes nothing.
use Rattle.std.proofs.Common.{◌≡◌, ℕ, List, [], ◌∷◌, ◌++◌, Some, None, Option, sym, refl, ap, ◌∙◌, append_assoc}
use Rattle.std.specs.Option.{option_to_list}
use Rattle.std.proofs.lemmas.Option.{none-some}
use Rattle.words.specs.Bytes.{number_at}
use Rattle.words.specs.declared.word.Word.{Word}
use Rattle.monthfile.specs.Judging.{Standing, Verdict, Faulty, Taken, call_of, judge}
use Rattle.monthfile.specs.Reading.{reading, gone_on}
use Rattle.monthfile.specs.declared.telling.Told.{Told}
use Rattle.monthfile.proofs.OneByOne.{some≢none}
use Rattle.dumping.specs.Records.{completed, records_after, records_in}

-- where the first words are taken with no fault, the records of the rest follow, from where the reader then stands
pub records_follow : (before : Standing) (place : ℕ) (first second : List (Option Word)) → (reading before place first).fault ≡ None
    → records_in before (first ++ second) ≡ records_in before first ++ records_in (reading before place first).standing second
records_follow before place [] second clean = refl
records_follow before place (None ∷ first) second clean = absurd (some≢none clean)
records_follow before place (Some word ∷ first) second clean =
    go (λ after. records_follow after (number_at place 1) first second) (judge before word) clean
  where
    go : ((after : Standing) → (reading after (number_at place 1) first).fault ≡ None
        → records_in after (first ++ second) ≡ records_in after first ++ records_in (reading after (number_at place 1) first).standing second)
        → (v : Verdict) → (gone_on before place v (λ st. reading st (number_at place 1) first)).fault ≡ None
        → records_after (call_of before.phase word) v (λ st. records_in st (first ++ second))
        ≡ records_after (call_of before.phase word) v (λ st. records_in st first)
        ++ records_in (gone_on before place v (λ st. reading st (number_at place 1) first)).standing second
    go later (Faulty layer number) clean = absurd (some≢none clean)
    go later (Taken after brought) clean =
        let one = option_to_list (completed (call_of before.phase word) brought) in
        ap (λ rs. one ++ rs) (later after clean)
        ∙ sym (append_assoc one (records_in after first) (records_in (reading after (number_at place 1) first).standing second))

-- a word that is refused completes no record
pub none_completed : (before : Standing) (place : ℕ) (word : Option Word) (t : Told) → (reading before place (word ∷ [])).fault ≡ Some t
    → records_in before (word ∷ []) ≡ []
none_completed before place None t faulty = refl
none_completed before place (Some word) t faulty = go (judge before word) faulty
  where
    go : (v : Verdict) → (gone_on before place v (λ st. reading st (number_at place 1) [])).fault ≡ Some t
        → records_after (call_of before.phase word) v (λ st. records_in st []) ≡ []
    go (Faulty layer number) faulty = refl
    go (Taken after brought) faulty = absurd (none-some t faulty)

-- where the first words stop the reading, no record comes after theirs
pub records_stop : (before : Standing) (place : ℕ) (first second : List (Option Word)) (t : Told) → (reading before place first).fault ≡ Some t
    → records_in before (first ++ second) ≡ records_in before first
records_stop before place [] second t faulty = absurd (none-some t faulty)
records_stop before place (None ∷ first) second t faulty = refl
records_stop before place (Some word ∷ first) second t faulty =
    go (λ after. records_stop after (number_at place 1) first second t) (judge before word) faulty
  where
    go : ((after : Standing) → (reading after (number_at place 1) first).fault ≡ Some t → records_in after (first ++ second) ≡ records_in after first)
        → (v : Verdict) → (gone_on before place v (λ st. reading st (number_at place 1) first)).fault ≡ Some t
        → records_after (call_of before.phase word) v (λ st. records_in st (first ++ second))
        ≡ records_after (call_of before.phase word) v (λ st. records_in st first)
    go later (Faulty layer number) faulty = refl
    go later (Taken after brought) faulty =
        ap (λ rs. option_to_list (completed (call_of before.phase word) brought) ++ rs) (later after faulty)
