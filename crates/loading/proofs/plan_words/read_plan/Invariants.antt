-- The words so far are of the plan; each turn has one more.
use Rattle.std.proofs.Common.{◌-◌, ◌^◌}
use Rattle.monthfile.specs.View.{standing_of}
use Rattle.loading.proofs.Planning.{PlanSoFar}
use Rattle.loading.proofs.plan_words.read_plan.Given as goal

abbrev pub invariant-loop-place : goal.invariant-loop-place
invariant-loop-place g l = PlanSoFar l.initial.file l.file (standing_of l.reader)

abbrev pub decreases-loop-place : goal.decreases-loop-place
decreases-loop-place g l = 2 ^ 64 - l.file.number
