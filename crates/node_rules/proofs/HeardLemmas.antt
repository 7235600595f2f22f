-- What a node hears with a message changes no session.
use Rattle.std.proofs.Common.{◌≡◌, refl}
use Rattle.node_rules.specs.Data.{Input}
use Rattle.node_rules.specs.Data.inputs
use Rattle.node_rules.specs.NodeState.{NodeState}
use Rattle.node_rules.specs.Turn.{heard}

pub sessions_heard : (k : NodeState) (input : Input) → (heard k input).sessions ≡ k.sessions
sessions_heard k (inputs.Message m) = refl
sessions_heard k (inputs.Call session statement) = refl
sessions_heard k (inputs.GiveUp session) = refl
sessions_heard k inputs.Reco = refl
sessions_heard k inputs.Checkpoint = refl
