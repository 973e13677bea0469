-- The lines of records, faults and gaps, without their line breaks. Assumes nothing.
use Rattle.std.specs.Prelude.{ℕ, ◌/◌, ◌%◌, cond, List, [], ◌∷◌, ◌++◌, codes, decimal, ◌==◌}
use Rattle.std.specs.List.{flat_map}
use Rattle.month.specs.declared.gaps.Gap.{Gap}
use Rattle.monthfile.specs.declared.telling.Told.{Told}
use Rattle.monthfile.specs.declared.telling.Layer.{Layer}
use Rattle.monthfile.specs.declared.telling.Layer.TheVariants.{File as FILE, Plan as PLAN, Book as BOOK}
use Rattle.lines.specs.declared.record.Record.{Record}
use Rattle.lines.specs.declared.record.Record.TheVariants.{Period, Terms, Assigned, Carried, Booked}

-- a segment's name by its number; a number that no segment has stands for itself
abbrev pub segment_name : ℕ → List ℕ
segment_name n =
    cond (n == 0) (codes "AMR")
    (cond (n == 1) (codes "S30") (cond (n == 2) (codes "MRC") (cond (n == 3) (codes "EAV") (decimal n))))

-- The line of each record. The month has two digits.
abbrev pub record_line : Record → List ℕ
record_line (Period year month hours) =
    codes "PERIOD "
    ++ (decimal year ++ (codes "-" ++ (decimal (month / 10) ++ (decimal (month % 10) ++ (codes " " ++ decimal hours)))))
record_line (Terms segment service tariff factor) =
    codes "SEGMENT "
    ++ (segment_name segment
    ++ (codes " " ++ (decimal service ++ (codes " " ++ (decimal tariff ++ (codes " " ++ decimal factor))))))
record_line (Assigned m) =
    codes "METER "
    ++ (segment_name m.segment
    ++ (codes " " ++ (decimal m.number ++ (codes " " ++ (decimal m.user ++ (codes " " ++ decimal m.station))))))
record_line (Carried p) = codes "CARRIED " ++ (decimal p.meter ++ (codes " " ++ decimal p.amount))
record_line (Booked b) =
    codes "BOOK "
    ++ (segment_name b.segment
    ++ (codes " " ++ (decimal b.meter ++ (codes " " ++ (decimal b.hour ++ (codes " " ++ decimal b.amount))))))

abbrev pub layer_name : Layer → List ℕ
layer_name FILE = codes "FILE"
layer_name PLAN = codes "PLAN"
layer_name BOOK = codes "BOOK"

-- the line of what a fault tells
abbrev pub fault_line : Told → List ℕ
fault_line told =
    codes "FAULT "
    ++ (layer_name told.layer ++ (codes " " ++ (decimal told.number ++ (codes " " ++ decimal told.place))))

-- the line of a meter that misses hours
abbrev pub gap_line : Gap → List ℕ
gap_line gap =
    codes "MISSING "
    ++ (segment_name gap.segment ++ (codes " " ++ (decimal gap.meter ++ (codes " " ++ decimal gap.hours))))

-- a line with the break that ends it
abbrev pub ended : List ℕ → List ℕ
ended line = line ++ 10 ∷ []

-- the lines of gaps, each ended by a line break
abbrev pub gap_text : List Gap → List ℕ
gap_text gaps = flat_map (λ gap. ended (gap_line gap)) gaps
