use Rattle.std.proofs.Common.{refl}
use Rattle.input.proofs.Giving.{gives, still_whole}
use Rattle.input.proofs.file_words.FileWords.next_in_block.Goals as goal

pub invariant_of-self : goal.invariant_of-self
invariant_of-self g c = record {
  whole =
      still_whole c.args.self.now c.in_ok-entry.entry c.block.result.now c.in_ok-rest.rest.now c.block.ensures
      c.in_ok-rest.ensures.lookup.0.2 c.in_ok-entry.ensures;
}

pub returns-clause-given : goal.returns-clause-given
returns-clause-given g c =
    gives c.args.self.now c.in_ok-entry.entry c.block.result.now c.in_ok-rest.rest.now c.block.ensures
    c.in_ok-rest.ensures.lookup.0.2 c.in_ok-entry.ensures _ refl refl refl
