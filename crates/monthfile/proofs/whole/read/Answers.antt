use Rattle.std.proofs.Common.{◌≡◌, ◌^◌, ◌<◌, is_err, None, Ok, Err, vec_items, sym, ap, subst, MatchResult}
use Rattle.std.specs.List.{AllByRecursion}
use Rattle.std.proofs.ByRecursion.{All-from_get_or}
use Rattle.monthfile.proofs.Failing.{err_is}
use Rattle.std.proofs.lemmas.Result.{IfOk-from_err}
use Rattle.plan.specs.OfPlan.{contents}
use Rattle.monthfile.specs.Faults.{told}
use Rattle.monthfile.specs.View.{standing_of}
use Rattle.monthfile.specs.Whole.{TellsFirst}
use Rattle.monthfile.proofs.Entire.{file_and_reading, stopped_back, stopped_tells, ended_back, ended_tells, taken_back, taken_file, taken_fileable, taken_tells, from_start}
use Rattle.monthfile.proofs.whole.read.Goals as goal

pub returns-in_err-read_block : goal.returns-in_err-read_block
returns-in_err-read_block c =
    let bytes = c.args.bytes.now in
    let fault = c.in_err-read_block.field-0.0 in
    let later = vec_items c.read_block.new.bookings in
    let end = standing_of c.read_block.new.self in
    let block = from_start bytes (standing_of c.new-reader.result) (vec_items c.new-bookings.result) (Err fault) later end c.new-reader.ensures c.new-bookings.ensures.items c.in_err-read_block.ensures.read in
    let e = err_is c.from_residual.result fault c.from_residual.ensures.1 in
    record {
      file = IfOk-from_err c.from_residual.result _ (ap is_err e);
      back = λ q bs f is. subst (λ r. MatchResult r (λ given. (contents given.0 ≡ q) × (vec_items given.1 ≡ bs)) (λ x. told x ≡ None)) (sym e) (stopped_back bytes fault later end block q bs f is);
      fault = subst (λ r. TellsFirst bytes r) (sym e) (stopped_tells bytes fault later end block);
      inverse = file_and_reading;
    }

pub returns-in_err-plan : goal.returns-in_err-plan
returns-in_err-plan c =
    let bytes = c.args.bytes.now in
    let fault = c.in_err-plan.field-0.0 in
    let later = vec_items c.read_block.new.bookings in
    let end = standing_of c.read_block.new.self in
    let block = from_start bytes (standing_of c.new-reader.result) (vec_items c.new-bookings.result) (Ok tt) later end c.new-reader.ensures c.new-bookings.ensures.items c.in_ok-read_block.ensures.read in
    let e = err_is c.from_residual-in_err-plan.result fault c.from_residual-in_err-plan.ensures.1 in
    let tells = c.in_err-plan.ensures.answer in
    record {
      file = IfOk-from_err c.from_residual-in_err-plan.result _ (ap is_err e);
      back = λ q bs f is. subst (λ r. MatchResult r (λ given. (contents given.0 ≡ q) × (vec_items given.1 ≡ bs)) (λ x. told x ≡ None)) (sym e) (ended_back bytes later end block fault tells q bs f is);
      fault = subst (λ r. TellsFirst bytes r) (sym e) (ended_tells bytes later end block fault tells);
      inverse = file_and_reading;
    }

pub returns : goal.returns
returns c =
    let bytes = c.args.bytes.now in
    let plan = c.in_ok-plan.plan in
    let later = vec_items c.read_block.new.bookings in
    let end = standing_of c.read_block.new.self in
    let block = from_start bytes (standing_of c.new-reader.result) (vec_items c.new-bookings.result) (Ok tt) later end c.new-reader.ensures c.new-bookings.ensures.items c.in_ok-read_block.ensures.read in
    let may = c.in_ok-plan.ensures.answer in
    let small : AllByRecursion (λ b. b < 2 ^ 8) bytes = All-from_get_or _ bytes 0 (λ k _. (c.type_inv.bytes k).fits) in
    record {
      file = (taken_fileable bytes later end block (contents plan) may.1 may.0 plan.well_made, taken_file bytes later end block (contents plan) may.1 may.0 small);
      back = taken_back bytes later end block (contents plan) may.1 may.0;
      fault = taken_tells bytes later end block (contents plan) may.1 may.0 (plan, c.read_block.new.bookings);
      inverse = file_and_reading;
    }
