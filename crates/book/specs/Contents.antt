-- What a segment's book holds, as plain values.
use Rattle.std.specs.Prelude.{ℕ, Bool, not, List, [], map, count_by, slice_index, slice_index_or}
use Rattle.std.specs.List.{range_with_len}
use Rattle.book.specs.Marks.{is_marked, ones_of}
use Rattle.book.specs.declared.tables.Tables.{Tables}

pub record Contents : Type 0 where
  -- the mark words of each meter
  pub marks : List (List ℕ)
  -- the sum of each hour
  pub sums : List ℕ
  -- the weight of each meter
  pub weights : List ℕ

-- the mark words of each meter in a book's tables
abbrev pub marks_of : Tables → List (List ℕ)
marks_of tables = map (λ row. row.marks) (tables.rows.value)

-- the mark words of one meter
abbrev pub words_of : Tables → (meter : ℕ) → List ℕ
words_of tables meter = slice_index_or (marks_of tables) meter []

-- the contents of a book with these tables and a source of these weights
abbrev pub contents_of : Tables → (weights : List ℕ) → Contents
contents_of tables weights =
    record { marks = marks_of tables; sums = tables.sums.value; weights = weights }

module _ (contents : Contents) where
  -- the mark words of a meter
  abbrev pub words_at : (meter : ℕ) → List ℕ
  words_at meter = slice_index_or contents.marks meter []

  -- whether a meter has an hour
  abbrev pub marked_at : (meter hour : ℕ) → Bool
  marked_at meter hour = is_marked (words_at meter) hour

  -- how many hours a meter has
  abbrev pub count_at : (meter : ℕ) → ℕ
  count_at meter = ones_of (words_at meter)

  -- how many of the hours below a bound a meter does not have
  abbrev pub lacked_below : (meter hours : ℕ) → ℕ
  lacked_below meter hours = count_by (λ hour. not (marked_at meter hour)) (range_with_len 0 hours)

  -- the sum of an hour
  abbrev pub sum_at : (hour : ℕ) → ℕ
  sum_at hour = slice_index contents.sums hour
