-- The record of a word that was taken. Assumes nothing.
use Rattle.std.proofs.Common.{◌≡◌, ℕ, Some, None, Ok, Option, sym, refl, ◌∙◌}
use Rattle.std.specs.Option.{option_map}
use Rattle.plan.specs.Calls.{PlanCall}
use Rattle.plan.specs.declared.booking.Booking.{Booking}
use Rattle.words.specs.Layout.{FieldsFit, encoded}
use Rattle.words.specs.declared.word.Word.{Word}
use Rattle.monthfile.specs.declared.brought.Brought.{Brought}
use Rattle.monthfile.specs.declared.brought.Brought.TheVariants.{Nothing, Opening, Offtake}
use Rattle.monthfile.specs.Faults.{Stepped}
use Rattle.monthfile.specs.Judging.{Standing, call_of}
use Rattle.lines.specs.declared.record.Record.{Record}
use Rattle.lines.specs.declared.record.Record.TheVariants.{Booked}
use Rattle.dumping.specs.Records.{WordTaken, completed, plan_record}

abbrev NoBooking : Brought → Type 0
NoBooking brought = (b : Booking) → brought ≡ Offtake b → ⊥

planned_only : (call : Option PlanCall) (brought : Brought) → NoBooking brought → completed call brought ≡ option_map plan_record call
planned_only call Nothing none = refl
planned_only call Opening none = refl
planned_only call (Offtake b) none = absurd (none b refl)

pub booking_taken : (before : Standing) (place bits : ℕ) (b : Booking) (after : Standing) → Stepped before place bits (Ok (Offtake b)) after
    → WordTaken before place bits (Ok (Some (Booked b))) after
booking_taken before place bits b after (None, decoded, never) = absurd never
booking_taken before place bits b after (Some word, decoded, is) = (word, Offtake b, decoded, is, refl)

-- where the bits are read again, their word has the record of its plan call
pub call_taken : (before : Standing) (place bits : ℕ) (brought : Brought) (after : Standing) → Stepped before place bits (Ok brought) after → NoBooking brought
    → (found : Option Word) → ((word : Word) → FieldsFit word → encoded word ≡ bits → found ≡ Some word)
    → (told : Option Record) → ((word : Word) → found ≡ Some word → told ≡ option_map plan_record (call_of before.phase word))
    → WordTaken before place bits (Ok told) after
call_taken before place bits brought after (None, decoded, never) none found back told is = absurd never
call_taken before place bits brought after (Some word, decoded, judged) none found back told is =
    (word, brought, decoded, judged, is word (back word decoded.0 decoded.1) ∙ sym (planned_only (call_of before.phase word) brought none))
