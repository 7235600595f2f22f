-- The undo of a node stands from turn to turn and over a start. So the undo that is kept of a live branch is that of the branch in doubt
-- that it becomes, and a start never needs more space than the node had.
use Rattle.std.specs.Prelude.{◌≡◌, ℕ, ◌≤◌, List, [], ◌∷◌, ◌++◌, IfSome}
use Rattle.row_store.specs.Store.{doubt_extents, used_extents, extents_free}
use Rattle.node_rules.specs.Data.{KeptRow, RedoRecord, Sealed, Place, Input}
use Rattle.node_rules.specs.Data.records
use Rattle.node_rules.specs.Rows.{changes_length, extents, undo_of, undo_over}
use Rattle.node_rules.specs.NodeState.{NodeState, Stored, sets_at}
use Rattle.node_rules.specs.Records.{nothing_stored, doubts_after}
use Rattle.node_rules.specs.Inputs.{IsFit}
use Rattle.node_rules.specs.Turn.{turn_of, start_of, made}
use Rattle.node_ready_laws.specs.Following.{MayAllFollow}
use Rattle.node_ready_laws.specs.Sound.{with_rows}
use Rattle.node_ready_laws.specs.Rows.{HasRows}
use Rattle.node_ready_laws.specs.Ids.{HasOwnIds}
use Rattle.node_undo_laws.specs.Kept.{HasUndo}
use Rattle.node_undo_laws.specs.Fits.{FitsDoubts, AllFitDoubts}

-- each turn keeps the undo of a node whose rows are of its tables and whose branches have their own ids
abbrev pub TurnsKeepUndo : Type 0
TurnsKeepUndo = (p : Place) (k : NodeState) (input : Input) → IsFit input → HasRows k → HasOwnIds k → HasUndo p k → HasUndo p (turn_of p k input).after

-- and its record fits beside the branches in doubt
abbrev pub RecordsFitDoubts : Type 0
RecordsFitDoubts = (p : Place) (k : NodeState) (input : Input) → IsFit input → HasOwnIds k → HasUndo p k → IfSome (turn_of p k input).wrote (FitsDoubts p.undo k.stored)

-- the branches in doubt after a record take no more extents than all branches took before the turn
abbrev pub NeedsNoMore : NodeState → RedoRecord → Type 0
NeedsNoMore k r = doubt_extents (doubts_after k.stored.rows k.stored.doubts r) ≤ used_extents k.owns k.stored.doubts

-- so it is with the record of each turn
abbrev pub RecordsNeedNoMore : Type 0
RecordsNeedNoMore = (p : Place) (k : NodeState) (input : Input) → IsFit input → HasUndo p k → IfSome (turn_of p k input).wrote (NeedsNoMore k)

-- the undo of a branch that seals, over the committed rows, is what was kept of its statements
abbrev pub SealsWithItsUndo : NodeState → RedoRecord → Type 0
SealsWithItsUndo k (records.Sealed r) = undo_over k.stored.rows r.changes ≡ undo_of (sets_at k.owns r.me)
SealsWithItsUndo k _ = Unit {0}

-- so it is with the record of each turn
abbrev pub SealsKeepUndo : Type 0
SealsKeepUndo = (p : Place) (k : NodeState) (input : Input) → IsFit input → HasUndo p k → IfSome (turn_of p k input).wrote (SealsWithItsUndo k)

-- a branch that is put in doubt by a record that fits has room beside the others
abbrev pub SealsHaveRoom : Type 0
SealsHaveRoom = (undo : ℕ) (s : Stored) (r : Sealed) → FitsDoubts undo s (records.Sealed r)
    → extents (changes_length (undo_over s.rows r.changes)) ≤ extents_free (record { rows = s.rows; owns = []; doubts = s.doubts; extents = undo })

-- whether a record fits does not hang on the rows of kept branches, where Acks are noted that no record has
abbrev pub AcksDoNotMatter : Type 0
AcksDoNotMatter = (undo : ℕ) (s : Stored) (kept : List KeptRow) (r : RedoRecord) → FitsDoubts undo s r → FitsDoubts undo (with_rows s kept) r

-- a node that has just been made has no undo
abbrev pub NoUndoAtFirst : Type 0
NoUndoAtFirst = (p : Place) → HasUndo p made

-- a node that starts has the undo of its branches in doubt, and space for it, where each of its records may stand next
abbrev pub StartsHaveUndo : Type 0
StartsHaveUndo = (p : Place) (rs : List RedoRecord) (boot : ℕ) → MayAllFollow nothing_stored rs → AllFitDoubts p.undo nothing_stored rs → HasUndo p (start_of (rs ++ records.Boot boot ∷ []))
