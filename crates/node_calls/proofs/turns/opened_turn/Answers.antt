-- Only a live branch hears an Opened.
use Rattle.node_memory.specs.Parts.{kept_in}
use Rattle.node_calls.proofs.TurnLaws.{opened_alike}
use Rattle.node_calls.proofs.turns.opened_turn.Goals as goal

pub returns-clause-gives : goal.returns-clause-gives
returns-clause-gives c = opened_alike (kept_in c.args.memory.now) c.args.from c.args.to.now _ _ c.args.edge c.args.strength c.in_ok-draft.ensures.gives
