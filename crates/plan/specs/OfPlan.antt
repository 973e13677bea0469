-- The contents of a plan.
use Rattle.std.specs.Prelude.{vec_items}
use Rattle.plan.specs.declared.plan.Plan.{Plan}
use Rattle.plan.specs.Contents.{Contents}
use Rattle.plan.specs.View.{view_of}

abbrev pub contents : Plan → Contents
contents plan =
    view_of plan.period (vec_items plan.segments) (vec_items plan.meters) (vec_items plan.carried)
