-- A node that can take turns in a test may take what comes, can say what it says and write what it writes, and is such a node after
-- the turn.
use Rattle.lone_node.proofs.TurnLemmas.{takes, spellable, startable_so, still_alone}
use Rattle.lone_node.proofs.turns.turn.Goals as goal

pub turn-requires-clause-takes : goal.turn-requires-clause-takes
turn-requires-clause-takes c = takes c.args.bound c.args.asks c.args.node.now c.args.incoming c.requires.alone c.requires.few c.requires.coming c.requires.meets

pub turn-requires-clause-spellable : goal.turn-requires-clause-spellable
turn-requires-clause-spellable c =
    spellable c.messages_fit.ensures.turns c.records_fit.ensures.records c.args.bound c.args.asks c.args.node.now c.args.incoming c.requires.alone c.requires.few c.requires.coming c.requires.meets

pub returns-in-Ok-clause-alone : goal.returns-in-Ok-clause-alone
returns-in-Ok-clause-alone c =
    still_alone c.messages_fit.ensures.turns c.turns_stay_ready.ensures.numbers c.args.bound c.args.asks c.args.node.now c.turn.new.self c.args.incoming c.in-Ok.effects c.requires.alone c.requires.few c.requires.coming c.requires.meets
    c.in-Ok.ensures.told.input c.in-Ok.ensures.told.tells c.in-Ok.ensures.next.running c.in-Ok.ensures.next.ready c.in-Ok.ensures.next.undo c.turn.ensures.place
    (startable_so c.args.bound c.args.node.now _ c.requires.alone c.turn.ensures.startable)

pub returns-in-Ok-clause-starts : goal.returns-in-Ok-clause-starts
returns-in-Ok-clause-starts c = startable_so c.args.bound c.args.node.now _ c.requires.alone c.turn.ensures.startable

pub returns-in-Err-clause-starts : goal.returns-in-Err-clause-starts
returns-in-Err-clause-starts c = startable_so c.args.bound c.args.node.now _ c.requires.alone c.turn.ensures.startable
