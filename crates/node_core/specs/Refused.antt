-- What a refused statement leaves.
use Rattle.std.specs.Prelude.{◌≡◌, List, [], ◌∷◌, None}
use Rattle.node_rules.specs.Data.{Refusal, Place, Input}
use Rattle.node_rules.specs.declared.session.Finished.{Finished}
use Rattle.node_rules.specs.Data.answers
use Rattle.node_rules.specs.Data.inputs
use Rattle.node_rules.specs.NodeState.{NodeState, TurnOutput}
use Rattle.node_rules.specs.Turn.{turn_of}

-- A turn that changes no row and no lock, neither what is committed nor what a branch has changed, and writes no record.
pub record LeavesAll (k : NodeState) (o : TurnOutput) : Type 0 where
  pub stored : o.after.stored ≡ k.stored
  pub owns : o.after.owns ≡ k.owns
  pub locks : o.after.locks ≡ k.locks
  pub wrote : o.wrote ≡ None

-- the call of a client ends with a refusal, and no other call ends
abbrev pub IsRefused : Input → List Finished → Type 0
IsRefused (inputs.Call n s) ended = (refusal : Refusal) × (ended ≡ (record { session = n; answer = answers.Refused refusal }) ∷ [])
IsRefused _ ended = ⊥

-- a call that is refused in the turn in which it came leaves all as it is
abbrev pub RefusedCallsLeaveAll : Type 0
RefusedCallsLeaveAll = (p : Place) (k : NodeState) (input : Input) → IsRefused input (turn_of p k input).ended → LeavesAll k (turn_of p k input)
