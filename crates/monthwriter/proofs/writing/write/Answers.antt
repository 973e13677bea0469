use Rattle.std.proofs.Common.{◌≡◌, ℕ, Bool, List, ◌++◌, length, take, drop, None, Ok, refl, sym, ap, ◌∙◌, subst, rules, arith}
use Rattle.std.proofs.lemmas.Option.{none-some}
use Rattle.plan.specs.Contents.{Contents}
use Rattle.plan.specs.OfPlan.{contents}
use Rattle.plan.specs.declared.booking.Booking.{Booking}
use Rattle.plan.specs.declared.plan.Plan.{Plan}
use Rattle.monthfile.specs.File.{file_of, file_words}
use Rattle.monthfile.specs.Inverse.{Fileable}
use Rattle.monthfile.proofs.Entire.{file_and_reading}
use Rattle.monthwriter.specs.declared.placing.Output.{Output}
use Rattle.monthwriter.specs.Placing.{RoomFor, WordsPut}
use Rattle.monthwriter.specs.Refusals.{write_refusal}
use Rattle.monthwriter.specs.Written.{FileWritten, ReadsBack}
use Rattle.monthwriter.proofs.Filed.{file_room}
use Rattle.monthwriter.proofs.Fitting.{all_held, all_hold}
use Rattle.monthwriter.proofs.Granted.{Grants, granted, not_refused}
use Rattle.monthwriter.proofs.Putting.{in_front}
use Rattle.monthwriter.proofs.Readable.{file_reads_back}
use Rattle.monthwriter.proofs.writing.write.Goals as goal

-- what the caller's memory is left as
written : (plan : Contents) (bs : List Booking) {memory : List ℕ} {start end : Output} {size : ℕ} {left : List ℕ} → Fileable plan bs
    → write_refusal plan bs (length memory) ≡ None → start.next ≡ 0 → start.memory.now ≡ memory → WordsPut start (file_words plan bs) end
    → size ≡ end.next → left ≡ end.memory.now
    → FileWritten plan bs memory (Ok size) left × ReadsBack plan bs (take size left)
written plan bs {memory} {start} {end} {size} {left} fileable none front untouched put long is =
    let file = in_front (file_words plan bs) start end front put in
    let stands : left ≡ file_of plan bs ++ drop size memory =
    is ∙ file.1 ∙ ap (λ k. file_of plan bs ++ drop k start.memory.now) (sym long) ∙ ap (λ m. file_of plan bs ++ drop size m) untouched in
    let front : take size left ≡ file_of plan bs = ap (λ k. take k left) long ∙ ap (take end.next) is ∙ file.2 in
    ((none, long ∙ file.0, stands), subst (ReadsBack plan bs) (sym front) (file_reads_back plan bs fileable))

-- the words of a file are those of its plan and its bookings
same_words : {made plan : Plan} {held bs : List Booking} → made ≡ plan → held ≡ bs → file_words (contents made) held ≡ file_words (contents plan) bs
same_words plan bookings = cc

pub returns-in_err-file-clause-inverse : goal.returns-in_err-file-clause-inverse
returns-in_err-file-clause-inverse c = file_and_reading

pub returns-in_err-file-clause-takes : goal.returns-in_err-file-clause-takes
returns-in_err-file-clause-takes c = λ fileable long.
    let grants : Grants (contents c.args.plan.now) c.args.bookings.now (length c.args.out.now) =
    record { full = fileable.full; held = all_hold c.args.bookings.now fileable.held; long = long } in
    absurd (none-some _ (sym (not_refused (contents c.args.plan.now) c.args.bookings.now (length c.args.out.now) grants) ∙ c.in_err-file.ensures))

pub put-requires : goal.put-requires
put-requires c =
    let plan = contents c.args.plan.now in
    let bs = c.args.bookings.now in
    let checked = c.in_ok-file.ensures in
    let grants = granted plan bs (length c.args.out.now) checked.0 in
    subst (RoomFor c.new-output.result) (same_words (sym checked.1) (sym checked.2))
    (file_room plan bs c.new-output.result c.args.plan.now.well_made grants.held c.new-output.ensures.front
    (omega (arith, grants.long, ap length c.new-output.ensures.untouched)))

pub returns : goal.returns
returns c =
    let plan = contents c.args.plan.now in
    let bs = c.args.bookings.now in
    let checked = c.in_ok-file.ensures in
    let grants = granted plan bs (length c.args.out.now) checked.0 in
    let fileable : Fileable plan bs = record { made = c.args.plan.now.well_made; full = grants.full; held = all_held bs grants.held } in
    let put = subst (λ words. WordsPut c.new-output.result words c.put.new.out) (same_words checked.1 checked.2) c.put.ensures in
    let file = written plan bs fileable checked.0 c.new-output.ensures.front (search rules) put c.length.ensures (search rules) in
    record { answer = file.0; back = file.1; takes = λ fileable long. refl {A = Bool}; inverse = file_and_reading }
