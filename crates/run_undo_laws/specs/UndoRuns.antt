-- In every lawful run each node keeps its undo, and a start has the space that it needs: the branches in doubt of a node take no more
-- undo extents after a start than all its branches took when it was last up. (Database Administrator's Guide, "Managing Undo".)
use Rattle.std.specs.Prelude.{◌≡◌, ℕ, ◌≤◌, List, [], ◌∷◌, take, IfSome, Option, Some, None}
use Rattle.row_store.specs.Store.{doubt_extents, used_extents}
use Rattle.node_rules.specs.Data.{RedoRecord, Place}
use Rattle.node_rules.specs.NodeState.{NodeState}
use Rattle.node_rules.specs.Records.{nothing_stored, stored_by}
use Rattle.node_rules.specs.Turn.{start_of}
use Rattle.run_rules.specs.Data.{Happening, Command}
use Rattle.run_rules.specs.Data.happenings
use Rattle.run_rules.specs.Each.{facts_upto}
use Rattle.run_rules.specs.Facts.{Facts, first_facts, place_at, node_at, records_at, with_boot, facts_after}
use Rattle.run_rules.specs.Lawful.{History, IsLawfulRun, facts_at}
use Rattle.run_base_laws.specs.NodeLaws.{AtEachFact, OfEachNode}
use Rattle.node_undo_laws.specs.Kept.{HasUndo}
use Rattle.node_undo_laws.specs.Fits.{AllFitDoubts}

-- In every lawful run each node that is up keeps its undo, within its extents.
abbrev pub NodesKeepUndo : Type 0
NodesKeepUndo = OfEachNode (λ p rs k. HasUndo p k)

-- And each record on its disk fits beside the branches that were in doubt before it, whether the node is up or down.
abbrev pub DisksFitDoubts : Type 0
DisksFitDoubts = (t : History) → IsLawfulRun t → (n : ℕ) → AllFitDoubts (place_at t.places n).undo nothing_stored (records_at (facts_at t) n)

-- ---- space

-- the undo extents that a node uses
abbrev pub extents_used : NodeState → ℕ
extents_used k = used_extents k.owns k.stored.doubts

-- the undo extents of the branches that are in doubt by these records
abbrev pub extents_in_doubt : List RedoRecord → ℕ
extents_in_doubt rs = doubt_extents (stored_by nothing_stored rs).doubts

-- what was seen before, or what is there now
abbrev pub seen_last : Option NodeState → Option NodeState → Option NodeState
seen_last before None = before
seen_last before (Some k) = Some k

-- what a node kept when it was last up: now, or before the happening that took it down
unfoldable pub last_up_from : List Place → List Command → ℕ → Facts → Option NodeState → List Happening → Option NodeState
last_up_from places asked n f before [] = seen_last before (node_at f n)
last_up_from places asked n f before (h ∷ hs) = last_up_from places asked n (facts_after places asked f h) (seen_last before (node_at f n)) hs

-- in a run
abbrev pub last_up : History → ℕ → Option NodeState
last_up t n = last_up_from t.places t.commands n (first_facts t.places) None t.trace

-- In every lawful run the branches in doubt by the records on a disk need no more undo extents than the node used when it was last up.
abbrev pub DisksNeedNoMore : Type 0
DisksNeedNoMore = (t : History) → IsLawfulRun t → (n : ℕ) → IfSome (last_up t n) (λ k. extents_in_doubt (records_at (facts_at t) n) ≤ extents_used k)

-- A start uses just what these branches need, and that is within the node's extents.
abbrev pub StartFits : List Place → Facts → Happening → Type 0
StartFits places f (happenings.Started n boot) = (extents_used (start_of (with_boot f n boot)) ≡ extents_in_doubt (records_at f n)) × (extents_in_doubt (records_at f n) ≤ (place_at places n).undo)
StartFits places f _ = Unit {0}

-- So it is at each start of every lawful run: none lacks undo extents.
abbrev pub StartsAlwaysFit : Type 0
StartsAlwaysFit = (t : History) → IsLawfulRun t → AtEachFact StartFits t

-- ---- a run

-- the run up to a moment
abbrev pub run_upto : History → ℕ → History
run_upto t i = record t { trace = take i t.trace }

-- The undo of a run. At each moment each node that is up has of each of its branches, live or in doubt, the rows from before its changes,
-- within its undo extents; the branches in doubt by the records on a disk need no more of them than the node used when it was last up;
-- and each start uses just what they need.
pub record UndoIsKept (t : History) : Type 0 where
  pub nodes : (i n : ℕ) (k : NodeState) → node_at (facts_upto t i) n ≡ Some k → HasUndo (place_at t.places n) k
  pub disks : (i n : ℕ) → IfSome (last_up (run_upto t i) n) (λ k. extents_in_doubt (records_at (facts_upto t i) n) ≤ extents_used k)
  pub starts : AtEachFact StartFits t

-- In every lawful run it is so.
abbrev pub EveryRunKeepsUndo : Type 0
EveryRunKeepsUndo = (t : History) → IsLawfulRun t → UndoIsKept t
