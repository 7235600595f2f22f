-- What comes to a node, as the node reads it.
use Rattle.std.specs.Prelude.{◌≡◌, option_map, Option, Some, None}
use Rattle.msg_codec.specs.Message.{message_of}
use Rattle.node_rules.specs.Data.{RedoRecord, Place, Input}
use Rattle.node_rules.specs.Data.inputs
use Rattle.node_rules.specs.NodeState.{NodeState}
use Rattle.node_rules.specs.Turn.{turn_of}
use Rattle.node_disk.specs.declared.incoming.Incoming.{Incoming}
use Rattle.node_disk.specs.declared.incoming.Incoming.TheVariants as comings

-- bytes are read as the message that they spell
abbrev pub read_as : Incoming → Option Input
read_as (comings.Call session statement) = Some (inputs.Call session statement)
read_as (comings.GiveUp session) = Some (inputs.GiveUp session)
read_as (comings.Message bytes) = option_map inputs.Message (message_of bytes)
read_as comings.Reco = Some inputs.Reco

-- this is read so
abbrev pub IsReadAs : Incoming → Input → Type 0
IsReadAs incoming input = read_as incoming ≡ Some input

-- the record that a turn over this writes, where it writes one
abbrev pub record_of : Place → NodeState → Option Input → Option RedoRecord
record_of p k None = None
record_of p k (Some input) = (turn_of p k input).wrote
