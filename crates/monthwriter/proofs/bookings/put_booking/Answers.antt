use Rattle.std.proofs.Common.{◌≡◌, [], ◌∷◌, ◌++◌, Option, sym, ap}
use Rattle.plan.specs.declared.booking.Booking.{Booking}
use Rattle.words.specs.declared.spot.Spot.{Spot}
use Rattle.words.specs.declared.word.Word.TheVariants.{Amount}
use Rattle.monthfile.specs.File.{comes_next, select_words, spot_of}
use Rattle.monthwriter.specs.Placing.{words_of_booking}
use Rattle.monthwriter.proofs.Putting.{at_start, one_step}
use Rattle.monthwriter.proofs.bookings.put_booking.Goals as goal

-- a select, where one is due, and the amount
parts : (next : Option Spot) (b : Booking) (spot : Spot) → spot ≡ spot_of b
    → words_of_booking next b ≡ select_words (comes_next next spot) spot ++ (Amount b.amount ∷ [])
parts next b spot of_it = ap (λ s. select_words (comes_next next s) s ++ (Amount b.amount ∷ [])) (sym of_it)

pub put-requires : goal.put-requires
put-requires c =
    (one_step (at_start c.requires) (parts c.args.next c.args.booking.now c.spot_of.result c.spot_of.ensures) c.put_select.ensures).room

pub returns : goal.returns
returns c =
    (one_step (at_start c.requires) (parts c.args.next c.args.booking.now c.spot_of.result c.spot_of.ensures) c.put_select.ensures
    ).goes c.put.new.self c.put.ensures
