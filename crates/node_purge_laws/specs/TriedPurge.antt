-- A purge, tried at B: its branch was forced to roll back, and met the commit, so its row is mixed. The purge hides it. Asked for
-- the decision, B tells it as before; purged again, B finds no row.
use Rattle.std.specs.Prelude.{◌≡◌, Bool, true, false, List, [], ◌∷◌, codes, map, Some, None}
use Rattle.tran_ids.specs.Texts.{local_text}
use Rattle.node_rules.specs.Data.{BranchId, Input, Place, RedoRecord}
use Rattle.node_rules.specs.Data.answers
use Rattle.node_rules.specs.Data.decisions
use Rattle.node_rules.specs.Data.dones
use Rattle.node_rules.specs.Data.inputs
use Rattle.node_rules.specs.Data.kinds
use Rattle.node_rules.specs.Data.records
use Rattle.node_rules.specs.Data.stmts
use Rattle.node_rules.specs.Data.towards
use Rattle.node_rules.specs.NodeState.{NodeState, TurnOutput}
use Rattle.node_rules.specs.Refusals.{dtx}
use Rattle.node_rules.specs.Turn.{start_of, turn_of}

abbrev pub place : Place
place = record { names = codes "A" ∷ codes "B" ∷ []; number = 2; strength = 1; links = 4; undo = 64 }

-- the root at A, and its branch at B
abbrev pub a : BranchId
a = record { node = 1; boot = 1; session = 1; seq = 1 }

abbrev pub b : BranchId
b = record { node = 2; boot = 1; session = 65; seq = 1 }

-- the records of B
abbrev pub disk : List RedoRecord
disk =
    records.Boot 1
    ∷ records.Sealed (record { me = b; root = a; scn = 3; toward = towards.Parent; parent = Some a; children = []; advice = None; comment = []; changes = [] })
    ∷ records.Forced b decisions.Rollback false
    ∷ records.Met b (decisions.Commit 5) true
    ∷ []

-- B with its row, and when it was purged
abbrev pub mixed : NodeState
mixed = start_of disk

abbrev pub purge_call : Input
purge_call = inputs.Call 1 (Some (stmts.PurgeMixed (local_text b)))

abbrev pub purges : TurnOutput
purges = turn_of place mixed purge_call

-- A asks for the decision
abbrev pub ask : Input
ask = inputs.Message (record { from = a; to = b; scn = 7; kind = kinds.Ask })

-- which rows are hidden
abbrev pub hidden_rows : NodeState → List Bool
hidden_rows k = map (λ s. s.hidden) k.stored.durable.kept

-- The row is hidden, and the answer stays.
pub record TheTriedPurge : Type 0 where
  pub shown : hidden_rows mixed ≡ false ∷ []
  pub hidden : hidden_rows purges.after ≡ true ∷ []
  pub done : purges.ended ≡ (record { session = 1; answer = answers.Did dones.Purged 0 }) ∷ []
  pub silent : purges.sent ≡ []
  pub told : (turn_of place purges.after ask).sent ≡ (record { from = b; to = a; scn = 7; kind = kinds.Committed 5 }) ∷ []
  pub as_before : (turn_of place mixed ask).sent ≡ (record { from = b; to = a; scn = 7; kind = kinds.Committed 5 }) ∷ []
  pub refused : (turn_of place purges.after purge_call).ended ≡ (record { session = 1; answer = answers.Refused (dtx 6 (local_text b ∷ [])) }) ∷ []
