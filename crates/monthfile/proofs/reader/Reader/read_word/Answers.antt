use Rattle.std.proofs.Common.{[], ◌∷◌, ◌++◌, Err, vec_items, sym, refl, ap, ◌∙◌, subst}
use Rattle.std.proofs.lemmas.List.{append-nil}
use Rattle.monthfile.proofs.Failing.{err_is}
use Rattle.monthfile.specs.declared.fault.ReadFault.TheVariants.{Memory}
use Rattle.monthfile.specs.Reading.{BlockRead, booking_of}
use Rattle.monthfile.specs.View.{standing_of}
use Rattle.monthfile.proofs.OneByOne.{nothing_read, faulty_read, taken_read, no_booking}
use Rattle.monthfile.proofs.reader.Reader.read_word.Goals as goal

pub returns-in_err-reserve : goal.returns-in_err-reserve
returns-in_err-reserve c =
    let before = standing_of c.args.self.now in
    let bs = vec_items c.args.bookings.now in
    subst (λ r. BlockRead before c.args.place (c.args.bits ∷ []) bs r (vec_items c.reserve.new.self) before) (sym (err_is c.from_residual.result Memory c.from_residual.ensures.1))
    (subst (λ more. BlockRead before c.args.place (c.args.bits ∷ []) bs (Err Memory) more before) (sym c.reserve.ensures.items)
    (nothing_read before c.args.place (c.args.bits ∷ []) bs Memory refl))

pub returns-in_err-booking : goal.returns-in_err-booking
returns-in_err-booking c =
    let before = standing_of c.args.self.now in
    let after = standing_of c.step.new.self in
    let bs = vec_items c.args.bookings.now in
    let fault = c.in_err-booking.field-0.0 in
    subst (λ r. BlockRead before c.args.place (c.args.bits ∷ []) bs r (vec_items c.reserve.new.self) after) (sym (err_is c.from_residual-in_err-booking.result fault c.from_residual-in_err-booking.ensures.1))
    (subst (λ more. BlockRead before c.args.place (c.args.bits ∷ []) bs (Err fault) more after) (sym c.reserve.ensures.items)
    (faulty_read before c.args.place c.args.bits bs fault after c.in_err-booking.ensures))

pub returns-in-Offtake : goal.returns-in-Offtake
returns-in-Offtake c =
    taken_read (standing_of c.args.self.now) c.args.place c.args.bits (vec_items c.args.bookings.now) (vec_items c.push_reserved.new.self)
    c.in_ok-booking.field-0 (standing_of c.step.new.self) c.in_ok-booking.ensures
    (c.push_reserved.ensures.items ∙ ap (λ bs. bs ++ c.in-Offtake.booking ∷ []) c.reserve.ensures.items
    ∙ ap (λ b. vec_items c.args.bookings.now ++ booking_of b) (sym c.in-Offtake.is))

pub returns-in_default : goal.returns-in_default
returns-in_default c =
    taken_read (standing_of c.args.self.now) c.args.place c.args.bits (vec_items c.args.bookings.now) (vec_items c.reserve.new.self)
    c.in_ok-booking.field-0 (standing_of c.step.new.self) c.in_ok-booking.ensures
    (c.reserve.ensures.items ∙ sym (append-nil (vec_items c.args.bookings.now))
    ∙ ap (λ bs. vec_items c.args.bookings.now ++ bs) (sym (no_booking c.in_ok-booking.field-0 c.in_default.not-Offtake)))
