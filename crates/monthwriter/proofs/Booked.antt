-- The words of bookings, booking by booking. Assumes nothing.
use Rattle.std.proofs.Common.{◌≡◌, ℕ, ◌+◌, ◌<◌, List, [], ◌∷◌, ◌++◌, length, get_or, drop, Some, Option, sym, ◌∙◌}
use Rattle.std.proofs.lemmas.List.{append_assoc, at_drop_more}
use Rattle.plan.specs.declared.booking.Booking.{Booking}
use Rattle.words.specs.declared.spot.Spot.{Spot}
use Rattle.words.specs.declared.word.Word.TheVariants.{Amount}
use Rattle.monthfile.specs.File.{spot_of, one_on, comes_next, select_words, booking_words}
use Rattle.monthwriter.specs.Placing.{words_of_booking}

-- what a read past the end would give
abbrev pub blank : Booking
blank = record { segment = 0; meter = 0; hour = 0; amount = 0 }

-- those of one booking, and then those of the bookings after it
pub booking_parts : (next : Option Spot) (bs : List Booking) (i : ℕ) (d : Booking) → i < length bs
    → booking_words next (drop i bs) ≡ words_of_booking next (get_or bs i d) ++ booking_words (Some (one_on (spot_of (get_or bs i d)))) (drop (i + 1) bs)
booking_parts next bs i d within =
    let b : Booking = get_or bs i d in
    at_drop_more (booking_words next) bs i d within
    ∙ sym (append_assoc (select_words (comes_next next (spot_of b)) (spot_of b)) (Amount b.amount ∷ []) (booking_words (Some (one_on (spot_of b))) (drop (i + 1) bs)))
