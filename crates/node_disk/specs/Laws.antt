-- What the records of a node say of what it stores.
use Rattle.node_rules.specs.Data.{Place, Input}
use Rattle.node_rules.specs.NodeState.{NodeState}
use Rattle.node_rules.specs.Inputs.{IsFit}
use Rattle.node_rules.specs.Turn.{turn_of}
use Rattle.node_disk.specs.Starts.{IsButForAcks, stored_next}

-- after each turn a node stores what it stored before and the turn's record, but for Acks
abbrev pub TurnsStoreTheirRecords : Type 0
TurnsStoreTheirRecords = (p : Place) (k : NodeState) (input : Input) → IsFit input → IsButForAcks (stored_next k.stored (turn_of p k input).wrote) (turn_of p k input).after.stored
