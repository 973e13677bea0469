-- Where a reader stands, as the program holds it. Assumes nothing.
use Rattle.plan.specs.OfPlan.{contents}
use Rattle.monthfile.specs.declared.reader.Reader.{Reader}
use Rattle.monthfile.specs.Judging.{Standing}

abbrev pub standing_of : Reader → Standing
standing_of reader = record { phase = reader.phase; plan = contents reader.plan }
