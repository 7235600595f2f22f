-- The record by which a live branch leaves: it is the branch's, and has what the branch changed. The undo of a branch that
-- becomes sealed.
use Rattle.std.specs.Prelude.{◌≡◌}
use Rattle.tran_ids.specs.declared.branch.BranchId.{BranchId}
use Rattle.row_store.specs.Pending.{undo_of, undo_over}
use Rattle.row_store.specs.Store.{sets_at}
use Rattle.node_rules.specs.Data.{RedoRecord}
use Rattle.node_rules.specs.Data.records
use Rattle.node_rules.specs.NodeState.{NodeState}
use Rattle.node_rules.specs.Prepare.{own_changes}

-- the branch becomes sealed
abbrev pub IsOwnSeal : NodeState → BranchId → RedoRecord → Type 0
IsOwnSeal k b (records.Sealed r) = (r.me ≡ b) × (r.changes ≡ own_changes k b)
IsOwnSeal k b _ = ⊥

-- the branch decides
abbrev pub IsOwnDecision : NodeState → BranchId → RedoRecord → Type 0
IsOwnDecision k b (records.Decided r) = (r.me ≡ b) × (r.changes ≡ own_changes k b)
IsOwnDecision k b _ = ⊥

-- the undo that a branch has is that of its changes over the committed rows
abbrev pub HasItsUndo : NodeState → BranchId → Type 0
HasItsUndo k b = undo_of (sets_at k.owns b) ≡ undo_over k.stored.rows (own_changes k b)
