-- A message as it is kept: its bytes, with what has to be known of it at hand.
use Rattle.std.specs.Prelude.{◌≡◌, ℕ, List, Some, unwrap_or}
use Rattle.tran_ids.specs.declared.branch.BranchId.{BranchId}
use Rattle.wire_msg.specs.declared.kind.Kind.TheVariants as kinds
use Rattle.wire_msg.specs.declared.kind.KindName.{KindName}
use Rattle.wire_msg.specs.declared.msg.Msg.{Msg}
use Rattle.wire_msg.specs.Names.{name_of_kind}
use Rattle.msg_codec.specs.Message.{message_of}

-- no branch
abbrev pub nobody : BranchId
nobody = record { node = 0; boot = 0; session = 0; seq = 0 }

-- the message that these bytes spell; any one, where they spell none
unfoldable pub spelled : List ℕ → Msg
spelled bytes = unwrap_or (message_of bytes) (record { from = nobody; to = nobody; scn = 0; kind = kinds.Ask })

-- these bytes spell a message of this kind, from and to these nodes
pub record IsLabelled (bytes : List ℕ) (kind : KindName) (from to : ℕ) : Type 0 where
  pub spells : message_of bytes ≡ Some (spelled bytes)
  pub kind_is : kind ≡ name_of_kind (spelled bytes).kind
  pub from_is : from ≡ (spelled bytes).from.node
  pub to_is : to ≡ (spelled bytes).to.node
