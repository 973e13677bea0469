use Rattle.std.proofs.Common.{◌+◌, drop, ◌∙◌, arith}
use Rattle.std.specs.List.{flat_map}
use Rattle.std.proofs.lemmas.List.{at_drop_all}
use Rattle.plan.specs.Calls.{AddSegment}
use Rattle.plan.specs.OfPlan.{contents}
use Rattle.plan.specs.View.{segment_numbers}
use Rattle.plan.specs.WellMade.{segment_calls}
use Rattle.monthfile.specs.File.{call_words}
use Rattle.monthwriter.proofs.Present.{full_length, in_place, segment_parts}
use Rattle.monthwriter.proofs.Putting.{room_now, one_step, at_end}
use Rattle.monthwriter.proofs.month_file.MonthFile.put_segments.Goals as goal

pub put_segment-requires : goal.put_segment-requires
put_segment-requires c =
    let plan = contents c.args.self.now.plan.now in
    let i = c.loop-segment.segment-index in
    let number = c.from-segment.result in
    let t = c.unwrap-terms.result in
    room_now (call_words (AddSegment number (segment_numbers t))) (flat_map call_words (segment_calls (i + 1) (drop (i + 1) plan.segments))) c.loop-segment.invariant
    (segment_parts plan i number c.terms.result t c.args.self.now.full c.loop-segment-test.true (c.from-segment.ensures ∙ in_place i _ c.loop-segment-test.true)
    c.terms.ensures c.unwrap-terms.ensures)

pub loop-segment-preserved : goal.loop-segment-preserved
loop-segment-preserved c =
    let i = c.loop-segment.segment-index in
    one_step c.loop-segment.invariant
    (segment_parts (contents c.args.self.now.plan.now) i c.from-segment.result c.terms.result c.unwrap-terms.result c.args.self.now.full c.loop-segment-test.true
    (c.from-segment.ensures ∙ in_place i _ c.loop-segment-test.true) c.terms.ensures c.unwrap-terms.ensures)
    c.put_segment.ensures

pub returns : goal.returns
returns c =
    let plan = contents c.args.self.now.plan.now in
    let i = c.loop-segment.segment-index in
    let long = full_length plan c.args.self.now.full in
    at_end c.loop-segment.invariant (at_drop_all (λ l. flat_map call_words (segment_calls i l)) plan.segments i (omega arith))
