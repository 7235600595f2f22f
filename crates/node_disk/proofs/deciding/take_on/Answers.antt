-- The places that a turn passed are those of the rules.
use Rattle.node_memory.specs.Parts.{kept_in}
use Rattle.node_disk.proofs.deciding.take_on.Goals as goal

pub returns-in-Ok-clause-passes : goal.returns-in-Ok-clause-passes
returns-in-Ok-clause-passes c =
    c.passed_by-passes.ensures c.args.memory.now.place (kept_in c.args.memory.now) (kept_in c.take.new.memory) c.requires.expected.fit c.look-ahead.ensures c.in-Ok.ensures.serves
