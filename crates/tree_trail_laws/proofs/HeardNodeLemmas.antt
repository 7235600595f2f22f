-- A node that has heard what came has the live branches and the sessions that it had.
use Rattle.std.proofs.Common.{◌≡◌, refl}
use Rattle.node_rules.specs.Data.{BranchId, Input}
use Rattle.node_rules.specs.Data.inputs
use Rattle.node_rules.specs.NodeState.{NodeState, live_at}
use Rattle.node_rules.specs.Turn.{heard}
use Rattle.run_base_laws.proofs.RootLemmas.{SessionsFit}

pub heard_live : (k : NodeState) (input : Input) (b : BranchId) → live_at (heard k input) b ≡ live_at k b
heard_live k (inputs.Message m) b = refl
heard_live k (inputs.Call n s) b = refl
heard_live k (inputs.GiveUp n) b = refl
heard_live k inputs.Reco b = refl
heard_live k inputs.Checkpoint b = refl

pub heard_fits : (k : NodeState) → SessionsFit k → (input : Input) → SessionsFit (heard k input)
heard_fits k fits (inputs.Message m) = record { roots = fits.roots; above = fits.above }
heard_fits k fits (inputs.Call n s) = fits
heard_fits k fits (inputs.GiveUp n) = fits
heard_fits k fits inputs.Reco = fits
heard_fits k fits inputs.Checkpoint = fits
