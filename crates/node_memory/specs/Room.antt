-- Space for the undo of branches that records put in doubt.
use Rattle.std.specs.Prelude.{ℕ, ◌≤◌, List, [], ◌∷◌}
use Rattle.row_store.specs.Own.{changes_length, extents}
use Rattle.row_store.specs.Pending.{undo_over}
use Rattle.row_store.specs.Store.{Contents, extents_free}
use Rattle.node_rules.specs.Data.{RedoRecord}
use Rattle.node_rules.specs.Data.records
use Rattle.node_rules.specs.NodeState.{Stored}
use Rattle.node_rules.specs.Records.{applied}

-- where a record puts a branch in doubt, its undo has room
abbrev pub HasRoomFor : Contents → RedoRecord → Type 0
HasRoomFor s (records.Sealed r) = extents (changes_length (undo_over s.rows r.changes)) ≤ extents_free s
HasRoomFor s _ = Unit {0}

-- what a node of so many undo extents has at a start, where nobody is live yet
abbrev pub at_start : ℕ → Stored → Contents
at_start undo s = record { rows = s.rows; owns = []; doubts = s.doubts; extents = undo }

-- these records, one after the other at a start
unfoldable pub AllHaveRoom : ℕ → Stored → List RedoRecord → Type 0
AllHaveRoom undo s [] = Unit {0}
AllHaveRoom undo s (r ∷ rs) = HasRoomFor (at_start undo s) r × AllHaveRoom undo (applied s r) rs
