-- The showing of one word. Promises of the code's own parts cite it, no public promise does.
use Rattle.std.specs.Prelude.{◌≡◌, ℕ, ◌≤◌, [], ◌∷◌, List, Some, Ok, Err, Option, Result}
use Rattle.std.specs.Io.KnownBytes.{Appends}
use Rattle.std.specs.Option.{option_to_list}
use Rattle.lines.specs.declared.record.Record.{Record}
use Rattle.words.specs.Bytes.{last_number}
use Rattle.words.specs.Layout.{Decoded}
use Rattle.words.specs.declared.word.Word.{Word}
use Rattle.monthfile.specs.Judging.{Standing}
use Rattle.monthfile.specs.Reading.{reading}
use Rattle.monthfile.specs.declared.telling.Told.{Told}
use Rattle.dumping.specs.Dumping.{lines_of}
use Rattle.dumping.specs.Faults.{told}
use Rattle.dumping.specs.Records.{WordTaken}
use Rattle.dumping.specs.declared.fault.DumpFault.{DumpFault}

-- What showing the word at a place answers, where the reader stands then, and what is written: the line of the record that the
-- word completes, if it completes one; or, where a fault is told, nothing, and the fault is this word's.
abbrev pub WordShown : (before : Standing) (place bits : ℕ) (earlier : Option (List ℕ)) → Result (Unit {0}) DumpFault → (after : Standing) (later : Option (List ℕ)) → Type 0
WordShown before place bits earlier (Ok _) after later =
    (taken : Option Record) × WordTaken before place bits (Ok taken) after × Appends earlier later (lines_of (option_to_list taken))
WordShown before place bits earlier (Err fault) after later =
    (t : Told) →
    told fault ≡ Some t →
    (word : Option Word) × Decoded bits word × ((reading before place (word ∷ [])).fault ≡ Some t) × (place ≤ last_number)
    × (later ≡ earlier)
