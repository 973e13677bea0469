-- What a report writes is what the loading before it made. Assumes nothing.
use Rattle.std.proofs.Common.{◌≡◌, ℕ, List, Ok, Err, Option, Result, refl, sym, subst}
use Rattle.std.specs.declared.io.Read.{Ghosts as Input}
use Rattle.input.specs.declared.file_words.FileWords.{FileWords}
use Rattle.loading.specs.Faults.{told}
use Rattle.loading.specs.Layers.{terms_by}
use Rattle.loading.specs.Loading.{Loaded, Loads}
use Rattle.loading.specs.declared.left.Stopped.{Stopped}
use Rattle.month.specs.OfMonth.{state_of}
use Rattle.month.specs.Stands.{AsStands}
use Rattle.month.specs.declared.month.Month.{Month}
use Rattle.month.specs.declared.open.Open.{Open}
use Rattle.weights.specs.declared.source.WeightSource.{Ghosts as Source}
use Rattle.reporting.specs.Reporting.{Begins, GapsWritten, Reports, TellingWritten}
use Rattle.reporting.specs.declared.fault.ReportFault.{ReportFault}
use Rattle.reporting.specs.declared.fault.ReportFault.TheVariants.{Loading, Memory, Output}

module _ {R A B C D : Type 0} (input : Input R) (a : Source A) (b : Source B) (c : Source C) (d : Source D) (joins : ℕ → ℕ → ℕ → ℕ) (known held : Option (List ℕ)) (before after : FileWords R input) (begins : Begins known before) where
  -- the gaps of the month that was loaded
  pub gaps_reported : (loading : Result (Open (Month A B C D a b c d)) (Stopped A B C D a b c d)) (month : Open (Month A B C D a b c d)) (r : Result (Unit {0}) ReportFault) (holds : Option (List ℕ)) →
      loading ≡ Ok month →
      Loads a b c d joins before loading after →
      AsStands (state_of month.0) (λ terms bookings. GapsWritten terms bookings held r holds) →
      Reports input a b c d joins known held r holds
  gaps_reported loading month r holds is loads written =
      let loaded = subst (λ l. Loads a b c d joins before l after) is loads in
      go loaded r (written (terms_by joins loaded.plan) loaded.bookings loaded.stands)
    where
      go : (loaded : Loaded a b c d joins month.0 before after) (r : Result (Unit {0}) ReportFault) →
          GapsWritten (terms_by joins loaded.plan) loaded.bookings held r holds →
          Reports input a b c d joins known held r holds
      go loaded (Ok done) written =
          record { before = before; after = after; begins = begins; month = month.0; loaded = loaded; written = written }
      go loaded (Err (Loading fault)) written = absurd written
      go loaded (Err Memory) written = written
      go loaded (Err (Output error)) written = tt

  -- what a loading that stopped tells
  pub fault_reported : (loading : Result (Open (Month A B C D a b c d)) (Stopped A B C D a b c d)) (stopped : Stopped A B C D a b c d) (fault : ReportFault) (holds : Option (List ℕ)) →
      loading ≡ Err stopped →
      Loads a b c d joins before loading after →
      fault ≡ Loading stopped.fault →
      TellingWritten (told stopped.fault) held holds →
      Reports input a b c d joins known held (Err fault) holds
  fault_reported loading stopped fault holds is loads same written =
      let stops = subst (λ l. Loads a b c d joins before l after) is loads in
      subst (λ f. Reports input a b c d joins known held (Err f) holds) (sym same)
      (record { before = before; after = after; begins = begins; stopped = stopped; stops = stops; faulty = refl; written = written })
