use Rattle.std.proofs.Common.{sym, ◌∙◌}
use Rattle.world.proofs.CallLemmas.{delivery_takes, has_node, message_there}
use Rattle.world.proofs.world.World.deliver.Goals as goal

pub bytes_of-requires : goal.bytes_of-requires
bytes_of-requires c = record { there = message_there c.args.self.now c.args.k c.args.again c.requires.due c.requires.linked c.what_is_due_can_happen.ensures.messages }

pub turn-requires-clause-took : goal.turn-requires-clause-took
turn-requires-clause-took c = delivery_takes c.args.self.now c.args.k c.args.again c.requires.due c.requires.linked

pub unreachable-requires : goal.unreachable-requires
unreachable-requires c =
    has_node c.args.self.now c.args.k c.args.again (message_there c.args.self.now c.args.k c.args.again c.requires.due c.requires.linked c.what_is_due_can_happen.ensures.messages) (sym c.target.ensures ∙ c.in_default.is)
