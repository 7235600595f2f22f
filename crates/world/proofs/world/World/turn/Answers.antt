use Rattle.world.proofs.TakeLemmas.{coming_there, served_still, still_through}
use Rattle.world.proofs.world.World.turn.Goals as goal

pub begin_turn-begun-requires-clause-there : goal.begin_turn-begun-requires-clause-there
begin_turn-begun-requires-clause-there c = coming_there c.args.self.now c.args.node c.args.incoming c.requires.linked c.turns_can_be_taken.ensures.turns c.requires.due

pub take_turn-requires-clause-there : goal.take_turn-requires-clause-there
take_turn-requires-clause-there c =
    let ready = c.begin_turn-begun.ensures in
    coming_there c.args.self.now c.begin_turn-begun.result.node c.args.incoming ready.linked ready.turns ready.coming

pub returns-in-Ok-clause-left : goal.returns-in-Ok-clause-left
returns-in-Ok-clause-left c =
    let still = served_still c.args.self.now c.take_turn.new.self c.requires.linked c.take_turn.ensures.trace c.take_turn.ensures.run_report c.take_turn.ensures.shown in
    still_through c.turn_whole.result c.take_turn.new.self c.turn_whole.new.self still c.turn_whole.ensures.left

pub returns-in-Err-Cut-clause-left : goal.returns-in-Err-Cut-clause-left
returns-in-Err-Cut-clause-left c =
    let still = served_still c.args.self.now c.take_turn.new.self c.requires.linked c.take_turn.ensures.trace c.take_turn.ensures.run_report c.take_turn.ensures.shown in
    still_through c.turn_cut.result c.take_turn.new.self c.turn_cut.new.self still c.turn_cut.ensures.left

pub returns-in-Err-NoMemory-clause-left : goal.returns-in-Err-NoMemory-clause-left
returns-in-Err-NoMemory-clause-left c = served_still c.args.self.now c.take_turn.new.self c.requires.linked c.take_turn.ensures.trace c.take_turn.ensures.run_report c.take_turn.ensures.shown
