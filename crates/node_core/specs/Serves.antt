-- That a turn of a node is the one of the rules.
use Rattle.std.specs.Prelude.{◌≡◌}
use Rattle.node_rules.specs.NodeState.{NodeState, TurnOutput}
use Rattle.node_core.specs.declared.served.StampedTurn.{StampedTurn}

-- The state after a turn, its record, its messages and the calls that it ends are those of this outcome.
pub record Serves (o : TurnOutput) (new : NodeState) (served : StampedTurn) : Type 0 where
  pub after : new ≡ o.after
  pub wrote : served.wrote ≡ o.wrote
  pub sent : served.sent ≡ o.sent
  pub ended : served.ended ≡ o.ended
