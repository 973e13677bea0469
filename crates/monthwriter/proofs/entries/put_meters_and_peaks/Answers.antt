use Rattle.std.proofs.Common.{◌≡◌, List, ◌++◌, map, sym, ap, subst}
use Rattle.plan.specs.OfPlan.{contents}
use Rattle.plan.specs.declared.carried.CarriedPeak.{CarriedPeak}
use Rattle.plan.specs.declared.meter.Meter.{Meter}
use Rattle.monthwriter.specs.declared.placing.Output.{Output}
use Rattle.monthwriter.specs.Placing.{RoomFor, WordsPut, meter_word, peak_word}
use Rattle.monthwriter.proofs.Putting.{OnTheWay, at_start, one_step}
use Rattle.monthwriter.proofs.entries.put_meters_and_peaks.Goals as goal

-- the meters are put, the peaks are left
after_meters : (ms listed : List Meter) (ps : List CarriedPeak) {out middle : Output} → listed ≡ ms
    → RoomFor out (map meter_word ms ++ map peak_word ps) → WordsPut out (map meter_word listed) middle
    → OnTheWay out (map meter_word ms ++ map peak_word ps) (map peak_word ps) middle
after_meters ms listed ps e room put = one_step (at_start room) (ap (λ l. map meter_word l ++ map peak_word ps) (sym e)) put

pub put_entries-requires-2 : goal.put_entries-requires-2
put_entries-requires-2 c =
    let plan = contents c.args.plan.now in
    let way = after_meters plan.meters c.meters.result.now plan.carried c.meters.ensures.answer c.requires c.put_entries.ensures in
    subst (λ ps. RoomFor c.put_entries.new.out (map peak_word ps)) (sym c.carried.ensures.answer) way.room

pub returns : goal.returns
returns c =
    let plan = contents c.args.plan.now in
    let way = after_meters plan.meters c.meters.result.now plan.carried c.meters.ensures.answer c.requires c.put_entries.ensures in
    way.goes c.put_entries-2.new.out
    (subst (λ ps. WordsPut c.put_entries.new.out (map peak_word ps) c.put_entries-2.new.out) c.carried.ensures.answer c.put_entries-2.ensures)
