-- What a report on an input answers, and what the output then holds, where their bytes are known.
use Rattle.std.specs.Prelude.{◌≡◌, ⊤, ℕ, List, Some, None, Ok, Err, Option, Result}
use Rattle.std.specs.Io.KnownBytes.{Appends, Keeps}
use Rattle.std.specs.declared.io.Read.{Ghosts as Input}
use Rattle.input.specs.FileWords.{Unread, to_come}
use Rattle.input.specs.declared.file_words.FileWords.{FileWords}
use Rattle.lines.specs.Lines.{ended, fault_line, gap_text}
use Rattle.loading.specs.Faults.{told}
use Rattle.loading.specs.Layers.{terms_by}
use Rattle.loading.specs.Loading.{Loaded, StoppedBy}
use Rattle.loading.specs.declared.fault.LoadFault.{LoadFault}
use Rattle.loading.specs.declared.left.Stopped.{Stopped}
use Rattle.month.specs.Gaps.{gaps_of}
use Rattle.month.specs.Terms.{Terms}
use Rattle.month.specs.declared.month.Month.{Month}
use Rattle.monthfile.specs.declared.telling.Told.{Told}
use Rattle.plan.specs.declared.booking.Booking.{Booking}
use Rattle.weights.specs.declared.source.WeightSource.{Ghosts as Source}
use Rattle.reporting.specs.declared.fault.ReportFault.{ReportFault}
use Rattle.reporting.specs.declared.fault.ReportFault.TheVariants.{Loading, Memory, Output}

-- the output grows by a line for each meter of the plan, in its order; where memory is wanting it stays
abbrev pub GapsWritten : Terms → List Booking → (held : Option (List ℕ)) → Result (Unit {0}) ReportFault → (holds : Option (List ℕ)) → Type 0
GapsWritten terms bookings held (Ok _) holds = Appends held holds (gap_text (gaps_of terms bookings))
GapsWritten terms bookings held (Err (Loading fault)) holds = ⊥
GapsWritten terms bookings held (Err Memory) holds = Keeps held holds
GapsWritten terms bookings held (Err (Output error)) holds = ⊤

-- the output grows by the line of what a fault tells, if it tells something
abbrev pub TellingWritten : Option Told → (held holds : Option (List ℕ)) → Type 0
TellingWritten (Some t) held holds = Appends held holds (ended (fault_line t))
TellingWritten None held holds = Keeps held holds

abbrev pub FaultWritten : {E : Type 0} → Option Told → (held : Option (List ℕ)) → Result (Unit {0}) E → (holds : Option (List ℕ)) → Type 0
FaultWritten tells held (Ok _) holds = TellingWritten tells held holds
FaultWritten tells held (Err error) holds = ⊤

-- the words of an input of which nothing was read yet
pub record Begins {R : Type 0} {input : Input R} (known : Option (List ℕ)) (file : FileWords R input) : Type 0 where
  pub unread : Unread file
  pub bytes : to_come file ≡ known

module _ {R A B C D : Type 0} (input : Input R) (a : Source A) (b : Source B) (c : Source C) (d : Source D) (joins : ℕ → ℕ → ℕ → ℕ) (known held : Option (List ℕ)) where
  -- the input is loaded with no fault, and the hours that its month still misses are written, and nothing else
  pub record GapsReported (holds : Option (List ℕ)) : Type 0 where
    pub before : FileWords R input
    pub after : FileWords R input
    pub begins : Begins known before
    pub month : Month A B C D a b c d
    pub loaded : Loaded a b c d joins month before after
    pub written : Appends held holds (gap_text (gaps_of (terms_by joins loaded.plan) loaded.bookings))

  -- the loading stops, and the line of what its fault tells is written, if it tells something, and nothing else
  pub record FaultReported (fault : LoadFault) (holds : Option (List ℕ)) : Type 0 where
    pub before : FileWords R input
    pub after : FileWords R input
    pub begins : Begins known before
    pub stopped : Stopped A B C D a b c d
    pub stops : StoppedBy a b c d joins stopped before after
    pub faulty : stopped.fault ≡ fault
    pub written : TellingWritten (told fault) held holds

  -- Where memory is wanting nothing is written. An output that fails leaves it open what was.
  abbrev pub Reports : Result (Unit {0}) ReportFault → (holds : Option (List ℕ)) → Type 0
  Reports (Ok done) holds = GapsReported holds
  Reports (Err (Loading fault)) holds = FaultReported fault holds
  Reports (Err Memory) holds = Keeps held holds
  Reports (Err (Output error)) holds = ⊤
