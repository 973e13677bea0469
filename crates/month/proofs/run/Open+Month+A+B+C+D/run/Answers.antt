-- Each turn answers one call more; the sources' joinings swap, so the order of bookings makes no difference.
use Rattle.std.proofs.Common.{◌≡◌, ℕ, ◌+◌, true, List, take, vec_items, sym, subst, arith, Result}
use Rattle.weights.specs.Joining.{Swaps}
use Rattle.month.specs.Calls.{AnswersEach, none_booked}
use Rattle.month.specs.OfMonth.{book_joins, state_of}
use Rattle.month.specs.declared.call.Answer.{Answer}
use Rattle.month.specs.declared.call.Call.{Call}
use Rattle.month.specs.declared.fault.BookingFault.{BookingFault}
use Rattle.month.specs.declared.call.Call.TheVariants.{Book}
use Rattle.month.specs.declared.four.Four.{Four}
use Rattle.month.proofs.Rearranging.{rearranges}
use Rattle.month.proofs.Running.{next_call, none_booked_push, unchanged_then}
use Rattle.month.proofs.Taking.{by_segment-each}
use Rattle.month.proofs.run.Open+Month+A+B+C+D.run.Given as given
use Rattle.month.proofs.run.Open+Month+A+B+C+D.run.Goals as goal

-- each segment's joining swaps
swaps_each : (g : given.Over)
    (four : Four g.row.A.Denot g.row.B.Denot g.row.C.Denot g.row.D.Denot g.A.WeightSource g.B.WeightSource g.C.WeightSource g.D.WeightSource)
    (segment : ℕ) →
    Swaps (book_joins four segment)
swaps_each g four segment =
    by_segment-each Swaps (g.A.WeightSource.joining four.amr.source) (g.B.WeightSource.joining four.s30.source)
    (g.C.WeightSource.joining four.mrc.source) (g.D.WeightSource.joining four.eav.source)
    (g.met.A.WeightSource.swaps four.amr.source) (g.met.B.WeightSource.swaps four.s30.source)
    (g.met.C.WeightSource.swaps four.mrc.source) (g.met.D.WeightSource.swaps four.eav.source) segment

pub returns-in_err-answers-clause-rearranged : goal.returns-in_err-answers-clause-rearranged
returns-in_err-answers-clause-rearranged g c = λ terms bookings s.
    rearranges terms bookings (state_of c.args.self.now.0) s (swaps_each g c.args.self.now.0.books)

pub loop-call-preserved : goal.loop-call-preserved
loop-call-preserved g c =
    let inv = c.loop-call.invariant in
    let d : Call = Book (record { segment = 0; meter = 0; hour = 0; amount = 0 }) in
    let items = c.push_reserved.ensures.items in (
      λ terms bookings s.
          let next = next_call terms bookings c.args.calls.now c.loop-call.call-index d (vec_items c.loop-call.answers)
          c.answer.result
          (state_of c.loop-call.self.0)
          (state_of c.answer.new.self.0)
          c.loop-call-test.true (inv.0 terms bookings s) (c.answer.ensures.answered terms)
          in
          (next.0, subst (λ (l : List (Result Answer BookingFault)). AnswersEach terms bookings (take (c.loop-call.call-index + 1) c.args.calls.now) l) (sym items) next.1),
      omega (arith, c.push_reserved.ensures.len, inv.1),
      omega (arith, c.push_reserved.ensures.capacity, inv.2),
      λ none.
          let all = none_booked_push (vec_items c.loop-call.answers) c.answer.result (subst (λ l. none_booked l ≡ true) items none) in
          unchanged_then _ _ _ (inv.3 all.0) (c.answer.ensures.unchanged all.1),
    )

pub returns-clause-rearranged : goal.returns-clause-rearranged
returns-clause-rearranged g c = λ terms bookings s.
    rearranges terms bookings (state_of c.args.self.now.0) s (swaps_each g c.args.self.now.0.books)
