-- The words after the first select, one after the other to the file's end. Assumes nothing.
use Rattle.std.proofs.Common.{◌≡◌, ℕ, true, List, [], ◌∷◌, ◌++◌, Some, None, Ok, Err, Option, sym, refl, ap, ◌∙◌, subst, append_assoc}
use Rattle.std.proofs.lemmas.Bool.{false≢true}
use Rattle.std.proofs.lemmas.List.{append-nil}
use Rattle.std.proofs.lemmas.Option.{none-some}
use Rattle.std.specs.declared.io.Read.{Ghosts as Input}
use Rattle.plan.specs.Contents.{Contents}
use Rattle.words.specs.declared.word.Word.{Word}
use Rattle.input.specs.FileWords.{Ended, NoneGiven, WordGiven, left_over}
use Rattle.input.specs.declared.file_words.FileWords.{FileWords}
use Rattle.input.proofs.Runs.{none_given-counts, numbered}
use Rattle.month.specs.Stands.{State}
use Rattle.monthfile.specs.Faults.{told as told_by_reading}
use Rattle.monthfile.specs.Judging.{Standing}
use Rattle.monthfile.specs.Reading.{end_fault}
use Rattle.monthfile.specs.declared.fault.ReadFault.{ReadFault}
use Rattle.monthfile.specs.declared.phase.Phase.{Phase}
use Rattle.monthfile.specs.declared.telling.Told.{Told}
use Rattle.loading.specs.Faults.{is_transfer, told}
use Rattle.loading.specs.Layers.{reading_of}
use Rattle.loading.specs.Stages.{BooksAt, BooksEnded, BooksStopped, Given, WordBooked}
use Rattle.loading.specs.declared.fault.LoadFault.{LoadFault}
use Rattle.loading.specs.declared.fault.LoadFault.TheVariants.{Reading}
use Rattle.loading.proofs.Planning.{given-count, given-nil, given-push, tells_end}

-- the end is judged by the phase alone
pub end_by_phase : (at : Standing) (phase : Phase) (q : Contents) (place over : ℕ) →
    at.phase ≡ phase →
    end_fault (record { phase = phase; plan = q }) place over ≡ end_fault at place over
end_by_phase at phase q place over e = ap (λ (ph : Phase). end_fault (record { phase = ph; plan = q }) place over) (sym e)

module _ {R : Type 0} {input : Input R} (joins : ℕ → ℕ → ℕ → ℕ) (words : List (Option Word)) (before : FileWords R input) where
  -- the words so far
  abbrev pub BooksSoFar : FileWords R input → Phase → State → Type 0
  BooksSoFar file phase state = (more : List (Option Word)) × Given before more file × BooksAt joins (words ++ more) phase state

  pub books_begun : (phase : Phase) (state : State) → BooksAt joins words phase state → BooksSoFar before phase state
  books_begun phase state b =
      ([], record { bits = []; gave = refl; decoded = tt }, subst (λ ws. BooksAt joins ws phase state) (sym (append-nil words)) b)

  module _ (file after : FileWords R input) (phase : Phase) (state : State) (so_far : BooksSoFar file phase state) where
    abbrev more : List (Option Word)
    more = so_far.0

    pub books_failed : (fault : LoadFault) → NoneGiven file after → is_transfer fault ≡ true → told fault ≡ None → BooksStopped joins words before after state fault
    books_failed fault failed transfer none = record {
      taken = more;
      others = [];
      reached = file;
      given = given-nil before file more so_far.1;
      counts = none_given-counts file after failed;
      books = so_far.2.books;
      tells = λ t is. absurd (none-some _ (sym none ∙ is));
      fails = λ is. (refl, failed);
      wants = λ other. absurd (false≢true (sym other ∙ transfer));
    }

    -- one word more
    module _ (entry : ℕ × ℕ) (next : WordGiven file entry after) (then : Phase) (state-then : State) where
      pub books_more : WordBooked joins (words ++ more) entry.0 entry.1 (Ok tt) then state-then → BooksSoFar after then state-then
      books_more (word, decoded, b) = (
        more ++ Some word ∷ [],
        given-push before file after more entry (Some word) so_far.1 next decoded,
        subst (λ ws. BooksAt joins ws then state-then) (append_assoc words more (Some word ∷ [])) b,
      )

      pub books_refused : (fault : LoadFault) →
          WordBooked joins (words ++ more) entry.0 entry.1 (Err fault) then state-then →
          BooksStopped joins words before after state-then fault
      books_refused fault (word, decoded, books, other, wants, tells) = record {
        taken = more;
        others = word ∷ [];
        reached = after;
        given = given-push before file after more entry word so_far.1 next decoded;
        counts = refl;
        books = books;
        tells = λ t is.
            let told = tells t is in
            (told.0, told.1 ∙ numbered file after entry next ∙ given-count before file more so_far.1);
        fails = λ is. absurd (false≢true (sym other ∙ is));
        wants = λ _. wants;
      }

    -- the file's end
    module _ (ended : Ended file after) (q : Contents) where
      abbrev asked : Option Told
      asked = end_fault (record { phase = phase; plan = q }) after.number (left_over after)

      same_end : asked ≡ end_fault (reading_of (words ++ more)).standing after.number (left_over after)
      same_end = end_by_phase (reading_of (words ++ more)).standing phase q after.number (left_over after) so_far.2.phase_is

      pub books_ended : asked ≡ None → BooksEnded joins words before after state
      books_ended fine = record {
        more = more;
        reached = file;
        given = so_far.1;
        ended = ended;
        books = so_far.2.books;
        fine = sym same_end ∙ fine;
      }

      pub books_cut_short : (fault : ReadFault) → told_by_reading fault ≡ asked → BooksStopped joins words before after state (Reading fault)
      books_cut_short fault tells = record {
        taken = more;
        others = [];
        reached = file;
        given = given-nil before file more so_far.1;
        counts = ended.stays;
        books = so_far.2.books;
        tells = λ t is. (
          ended,
          tells_end joins (words ++ more) (reading_of (words ++ more)).standing after.number (left_over after) t refl
              (sym same_end ∙ sym tells ∙ is),
        );
        fails = λ is. absurd (false≢true is);
        wants = λ other none. (ended, sym same_end ∙ sym tells ∙ none);
      }
