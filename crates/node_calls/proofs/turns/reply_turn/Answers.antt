-- Only a live branch hears a Reply.
use Rattle.node_memory.specs.Parts.{kept_in}
use Rattle.node_calls.proofs.TurnLaws.{reply_alike}
use Rattle.node_calls.proofs.turns.reply_turn.Goals as goal

pub returns-clause-gives : goal.returns-clause-gives
returns-clause-gives c = reply_alike (kept_in c.args.memory.now) c.args.from c.args.to.now _ _ c.args.call c.args.weight c.args.count c.args.told c.in_ok-draft.ensures.gives
