use Rattle.std.proofs.Common.{◌++◌, None, refl}
use Rattle.plan.specs.OfPlan.{contents}
use Rattle.monthfile.specs.File.{booking_words}
use Rattle.monthwriter.proofs.Counting.{segment_words, entry_words}
use Rattle.monthwriter.proofs.Filed.{after_period, after_segments, after_entries}
use Rattle.monthwriter.proofs.Putting.{room_now}
use Rattle.monthwriter.proofs.month_file.MonthFile.put.Goals as goal

pub put_segments-requires : goal.put_segments-requires
put_segments-requires c =
    let plan = contents c.args.self.now.plan.now in
    let bs = c.args.self.now.bookings.now in
    let way = after_period plan bs c.requires c.put_period.ensures in
    room_now (segment_words plan) (entry_words plan ++ booking_words None bs) way refl

pub put_meters_and_peaks-requires : goal.put_meters_and_peaks-requires
put_meters_and_peaks-requires c =
    let plan = contents c.args.self.now.plan.now in
    let bs = c.args.self.now.bookings.now in
    room_now (entry_words plan) (booking_words None bs) (after_segments plan bs c.requires c.put_period.ensures c.put_segments.ensures) refl

pub put_bookings-requires : goal.put_bookings-requires
put_bookings-requires c =
    let way = after_entries (contents c.args.self.now.plan.now) c.args.self.now.bookings.now c.requires c.put_period.ensures c.put_segments.ensures c.put_meters_and_peaks.ensures in
    way.room

pub returns : goal.returns
returns c =
    (after_entries (contents c.args.self.now.plan.now) c.args.self.now.bookings.now c.requires c.put_period.ensures c.put_segments.ensures c.put_meters_and_peaks.ensures
    ).goes c.put_bookings.new.out c.put_bookings.ensures
