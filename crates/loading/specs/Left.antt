-- What a loading leaves: its plan and its sources, and what a refused opening makes of it.
use Rattle.month.specs.OfMonth.{held_sources}
use Rattle.month.specs.declared.sources.Sources.{Sources}
use Rattle.month.specs.declared.opening.Unopened.{Unopened}
use Rattle.monthfile.specs.declared.fault.Placed.{Placed}
use Rattle.plan.specs.declared.plan.Plan.{Plan}
use Rattle.weights.specs.declared.source.WeightSource.{Ghosts as Source}
use Rattle.loading.specs.declared.fault.LoadFault.TheVariants.{Opening}
use Rattle.loading.specs.declared.left.Left.{Left}
use Rattle.loading.specs.declared.left.Left.TheVariants.{Planned, Opened}
use Rattle.loading.specs.declared.left.Stopped.{Stopped}

abbrev pub plan_of : {A B C D : Type 0} {a : Source A} {b : Source B} {c : Source C} {d : Source D} → Left A B C D a b c d → Plan
plan_of (Planned plan sources) = plan
plan_of (Opened month) = month.0.plan

abbrev pub held_by : {A B C D : Type 0} {a : Source A} {b : Source B} {c : Source C} {d : Source D} →
    Left A B C D a b c d →
    Sources A B C D
held_by (Planned plan sources) = sources
held_by (Opened month) = held_sources month.0.books

-- what a refused opening tells and leaves
abbrev pub stopped_by : {A B C D : Type 0} {a : Source A} {b : Source B} {c : Source C} {d : Source D} →
    Placed (Unopened A B C D) →
    Stopped A B C D a b c d
stopped_by refused = record {
  fault = Opening (record { fault = refused.fault.fault; place = refused.place });
  left = Planned refused.fault.plan refused.fault.sources;
}
