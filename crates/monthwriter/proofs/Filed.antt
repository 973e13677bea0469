-- A file that is put part by part. Assumes nothing.
use Rattle.std.proofs.Common.{◌≡◌, ◌≤◌, true, List, ◌++◌, length, None, refl, arith}
use Rattle.std.specs.List.{list_all}
use Rattle.plan.specs.Contents.{Contents}
use Rattle.plan.specs.WellMade.{is_well_made}
use Rattle.plan.specs.declared.booking.Booking.{Booking}
use Rattle.monthfile.specs.File.{booking_words, file_of, file_words}
use Rattle.monthwriter.specs.declared.placing.Output.{Output}
use Rattle.monthwriter.specs.Placing.{RoomFor, WordsPut}
use Rattle.monthwriter.specs.Refusals.{is_held}
use Rattle.monthwriter.proofs.Counting.{period_words, segment_words, entry_words, file_parts}
use Rattle.monthwriter.proofs.Fitting.{all_held, file_fits}
use Rattle.monthwriter.proofs.Putting.{OnTheWay, at_start, length-bytes, one_step}

-- a file that fits has room
pub file_room : (plan : Contents) (bs : List Booking) (out : Output) → is_well_made plan ≡ true → list_all is_held bs ≡ true → out.next ≡ 0
    → length (file_of plan bs) ≤ length out.memory.now → RoomFor out (file_words plan bs)
file_room plan bs out made held front long = record {
  fits = file_fits plan bs made (all_held bs held);
  long = omega (arith, front, long, length-bytes (file_words plan bs));
}

module _ (plan : Contents) (bs : List Booking) {out period : Output} (room : RoomFor out (file_words plan bs)) (first : WordsPut out (period_words plan) period) where
  pub after_period : OnTheWay out (file_words plan bs) (segment_words plan ++ (entry_words plan ++ booking_words None bs)) period
  after_period = one_step (at_start room) (file_parts plan bs) first

  pub after_segments : {segments : Output} → WordsPut period (segment_words plan) segments
      → OnTheWay out (file_words plan bs) (entry_words plan ++ booking_words None bs) segments
  after_segments put = one_step after_period refl put

  pub after_entries : {segments entries : Output} → WordsPut period (segment_words plan) segments → WordsPut segments (entry_words plan) entries
      → OnTheWay out (file_words plan bs) (booking_words None bs) entries
  after_entries put more = one_step (after_segments put) refl more
