-- The words of a meter in a list of rows.
use Rattle.std.proofs.Common.{◌≡◌, ℕ, ◌<◌, ◌≤◌, List, [], map, length, get_or, set, replicate, sym, ap, ◌∙◌, subst, ⊎_elim}
use Rattle.std.proofs.lemmas.List.{get_or-map, get_or_past, get_or-replicate, get_or-set_same, length-map, length-replicate, length-set}
use Rattle.std.proofs.lemmas.Bool.{cases_lt}
use Rattle.book.specs.declared.row.Row.{Row}

module _ (rows : List Row) (meter : ℕ) where
  -- a row that was read at the meter has its words
  pub words_are_read : (row : Row) →
      meter < length rows →
      row ≡ get_or rows meter row →
      get_or (map (λ r. r.marks) rows) meter [] ≡ row.marks
  words_are_read row inside read =
      get_or-map (λ r. r.marks) rows meter row [] inside ∙ ap (λ (r : Row). r.marks) (sym read)

  -- past the last row there are no words
  words_past : length rows ≤ meter → get_or (map (λ r. r.marks) rows) meter [] ≡ []
  words_past past = get_or_past (map (λ r. r.marks) rows) meter [] (rw length-map past)

  -- another row at the meter
  pub words_set : (row : Row) →
      meter < length rows →
      get_or (map (λ r. r.marks) (set rows meter row)) meter [] ≡ row.marks
  words_set row inside =
      get_or-map (λ r. r.marks) (set rows meter row) meter row [] (rw length-set inside)
      ∙ ap (λ (r : Row). r.marks) (get_or-set_same rows meter row row inside)

-- what holds of one row's words and of none holds of every meter's, where all rows are that one
pub words_alike : (P : List ℕ → Type 0) (n : ℕ) (row : Row) →
    P row.marks →
    P [] →
    (meter : ℕ) →
    P (get_or (map (λ r. r.marks) (replicate n row)) meter [])
words_alike P n row one none meter = ⊎_elim
    (λ h. subst P (sym (words_are_read (replicate n row) meter row (rw length-replicate h) (sym (get_or-replicate n meter row row h)))) one)
    (λ h. subst P (sym (words_past (replicate n row) meter (rw length-replicate h))) none)
    (cases_lt meter n)
