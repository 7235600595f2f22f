-- What was read is what the node can take.
use Rattle.node_disk.proofs.deciding.decide.Goals as goal

pub told-requires-clause-takes : goal.told-requires-clause-takes
told-requires-clause-takes c = c.requires.takes c.in_ok-input.input c.in_ok-input.ensures
