-- The first segment's book is newly opened, as all are.
use Rattle.month.proofs.four.Four.carry.Goals as goal

pub carry_peaks-requires-clause-opened : goal.carry_peaks-requires-clause-opened
carry_peaks-requires-clause-opened g c = c.requires.opened 0
