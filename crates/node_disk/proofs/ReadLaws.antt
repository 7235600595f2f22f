-- Bytes that are read as a message.
use Rattle.std.proofs.Common.{◌≡◌, ℕ, List, Option, None, Some, refl, ap}
use Rattle.std.specs.Prelude.{option_map}
use Rattle.wire_msg.specs.declared.msg.Msg.{Msg}
use Rattle.msg_codec.specs.Message.{message_of}
use Rattle.node_rules.specs.Data.{Input}
use Rattle.node_rules.specs.Data.inputs
use Rattle.node_disk.specs.Incoming.{IsReadAs}
use Rattle.node_disk.specs.declared.incoming.Incoming.TheVariants as comings

spells_by : (found : Option Msg) (i : Input) → option_map inputs.Message found ≡ Some i → (m : Msg) × (found ≡ Some m)
spells_by None i is = absurd cc
spells_by (Some m) i is = (m, refl)

-- they spell one
pub spells_one : (bytes : List ℕ) → ((i : Input) × IsReadAs (comings.Message bytes) i) → (m : Msg) × (message_of bytes ≡ Some m)
spells_one bytes is = spells_by (message_of bytes) is.0 is.1

-- and are read as it
pub read_so : (bytes : List ℕ) (m : Msg) → message_of bytes ≡ Some m → IsReadAs (comings.Message bytes) (inputs.Message m)
read_so bytes m is = ap (option_map inputs.Message) is
