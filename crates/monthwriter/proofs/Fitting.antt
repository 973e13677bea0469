-- What a booking that a file can hold comes to, and that every word of a file fits its bits. Assumes nothing.
use Rattle.std.proofs.Common.{◌≡◌, true, Bool, ◌&&◌, List, [], ◌∷◌, refl, arith}
use Rattle.std.specs.List.{list_all, AllByRecursion}
use Rattle.std.proofs.lemmas.Bool.{and_parts}
use Rattle.std.proofs.lemmas.Bool.Decides.{nat_tests}
use Rattle.plan.specs.Contents.{Contents}
use Rattle.plan.specs.WellMade.{is_well_made}
use Rattle.plan.specs.declared.booking.Booking.{Booking}
use Rattle.plan.proofs.Replayed.{makes_itself}
use Rattle.words.specs.Layout.{FieldsFit}
use Rattle.monthfile.specs.File.{file_words}
use Rattle.monthfile.specs.Inverse.{Holdable}
use Rattle.monthfile.proofs.Fitting.{file_words_fit}
use Rattle.monthwriter.specs.Refusals.{is_held}

both_true : {x y : Bool} → x ≡ true → y ≡ true → x && y ≡ true
both_true first second = cc

held : (b : Booking) → is_held b ≡ true → Holdable b
held b fit = record {
  segment = grind (arith, nat_tests);
  meter = grind (arith, nat_tests);
  hour = grind (arith, nat_tests);
  amount = grind (arith, nat_tests);
}

pub all_held : (bs : List Booking) → list_all is_held bs ≡ true → AllByRecursion Holdable bs
all_held [] fit = tt
all_held (b ∷ bs) fit = let both = and_parts (is_held b) (list_all is_held bs) fit in (held b both.0, all_held bs both.1)

-- and the other way round
holds : (b : Booking) → Holdable b → is_held b ≡ true
holds b fit =
    grind (arith, nat_tests, fit.segment, fit.meter, fit.hour, fit.amount)

pub all_hold : (bs : List Booking) → AllByRecursion Holdable bs → list_all is_held bs ≡ true
all_hold [] fit = refl
all_hold (b ∷ bs) fit = both_true (holds b fit.0) (all_hold bs fit.1)

pub file_fits : (plan : Contents) (bs : List Booking) → is_well_made plan ≡ true → AllByRecursion Holdable bs → AllByRecursion FieldsFit (file_words plan bs)
file_fits plan bs made fit = file_words_fit plan bs (makes_itself plan made) fit
