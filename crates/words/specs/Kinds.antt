-- The numbers of the kinds of words. Assumes nothing.
use Rattle.std.specs.Prelude.{◌≡◌, ℕ, ◌<◌, ◌⊎◌, Result, MatchResult}
use Rattle.words.specs.declared.kind.Kind.{Kind}
use Rattle.words.specs.declared.kind.Kind.TheVariants.{Period, Segment, Factor, Meter, Select, Amount, Carried}
use Rattle.words.specs.declared.kind.UnknownKind.{UnknownKind}

abbrev pub number_of : Kind → ℕ
number_of Period = 1
number_of Segment = 2
number_of Factor = 3
number_of Meter = 4
number_of Select = 5
number_of Amount = 6
number_of Carried = 7

-- the kind with this number, or an error where none has it
abbrev pub KindOf : ℕ → Result Kind UnknownKind → Type 0
KindOf n r = MatchResult r (λ kind. number_of kind ≡ n) (λ _. (n < 1) ⊎ (7 < n))
