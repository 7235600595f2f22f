-- Which branches have a row in the views of pending transactions, and what stands in it: by the redo records on their node's
-- disk, and for branches that are still live by the branch history and by what came with messages and calls. (Database
-- Administrator's Guide, "Managing Distributed Transactions", on viewing information about distributed transactions; Database
-- Reference, DBA_2PC_PENDING, DBA_2PC_NEIGHBORS.)
use Rattle.std.specs.Prelude.{ℕ, ◌==◌, ◌&&◌, ◌||◌, not, Bool, true, false, if◌then◌else◌, List, [], ◌∷◌, ◌++◌, map, slice_get, is_some, option_to_list, codes, is_none, Option, Some, None}
use Rattle.std.specs.List.{list_any}
use Rattle.tran_ids.specs.Texts.{name_of}
use Rattle.redo_record.specs.Rows.{toward_of}
use Rattle.session_tree.specs.Live.{is_branch}
use Rattle.pending_view.specs.Views.{Pending, Neighbor}
use Rattle.node_rules.specs.Data.{BranchId, Decision, RedoRecord, Sealed, Decided}
use Rattle.redo_record.specs.declared.record.Peer.{Peer}
use Rattle.node_rules.specs.Data.decisions
use Rattle.node_rules.specs.Data.records
use Rattle.node_rules.specs.Words.{same}
use Rattle.run_rules.specs.Branches.{Seen, Trail, seen_at, is_live}
use Rattle.run_rules.specs.BranchRecords.{sealed_in, decided_in}
use Rattle.run_rules.specs.Facts.{Facts, records_at}
use Rattle.view_laws.specs.GivenColumns.{Given}

-- ---- what a record says of a branch

-- whether a branch ended with a rollback
abbrev pub ends_back : BranchId → RedoRecord → Bool
ends_back b (records.Ended c decisions.Rollback) = same c b
ends_back b _ = false

-- whether a branch that was forced met a rollback
abbrev pub meets_back : BranchId → RedoRecord → Bool
meets_back b (records.Met c decisions.Rollback mixed) = same c b
meets_back b _ = false

-- whether it met a decision that is not the outcome that was forced
abbrev pub meets_mixed : BranchId → RedoRecord → Bool
meets_mixed b (records.Met c d mixed) = same c b && mixed
meets_mixed b _ = false

-- whether all have acknowledged, so that it forgot
abbrev pub forgets : BranchId → RedoRecord → Bool
forgets b (records.Forgot c) = same c b
forgets b _ = false

-- whether its row was purged
abbrev pub purges : BranchId → RedoRecord → Bool
purges b (records.Hidden c) = same c b
purges b _ = false

-- the outcome that was forced
abbrev pub forced_as : List RedoRecord → BranchId → Option Decision
forced_as [] b = None
forced_as (records.Forced c d given ∷ rs) b = if same c b then Some d else forced_as rs b
forced_as (_ ∷ rs) b = forced_as rs b

-- the SCN of the commit with which it ended
abbrev pub committed_at : List RedoRecord → BranchId → Option ℕ
committed_at [] b = None
committed_at (records.Ended c (decisions.Commit n) ∷ rs) b = if same c b then Some n else committed_at rs b
committed_at (_ ∷ rs) b = committed_at rs b

-- ---- which branches have a row

-- MIXED: a branch is mixed from when it met a decision that is not the outcome that was forced
abbrev pub is_mixed : List RedoRecord → BranchId → Bool
is_mixed rs b = list_any (meets_mixed b) rs

-- a row goes with a rollback, and when its branch forgets; that of a mixed branch stays
abbrev pub is_over : List RedoRecord → BranchId → Bool
is_over rs b = list_any (ends_back b) rs || ((list_any (meets_back b) rs || list_any (forgets b) rs) && not (is_mixed rs b))

-- a purge takes a row out of the views, unless its branch is found mixed after it
abbrev pub is_purged : List RedoRecord → BranchId → Bool
is_purged [] b = false
is_purged (r ∷ rs) b = (purges b r && not (is_mixed rs b)) || is_purged rs b

-- whether the views show the row of a branch that was prepared, or that decided
abbrev pub is_shown : List RedoRecord → BranchId → Bool
is_shown rs b = not (is_over rs b) && not (is_purged rs b)

-- a commit point site has a row where it has neighbours
abbrev pub has_neighbors : Decided → Bool
has_neighbors r = is_some r.parent || is_some (slice_get r.children 0)

-- ---- DBA_2PC_PENDING

-- STATE: the outcome that was forced; else committed, once the branch knows the commit; and prepared before
abbrev pub state_by : Option Decision → Option ℕ → List ℕ
state_by (Some (decisions.Commit n)) ended = codes "forced commit"
state_by (Some decisions.Rollback) ended = codes "forced rollback"
state_by None (Some n) = codes "committed"
state_by None None = codes "prepared"

-- COMMIT#: the SCN of a commit that was forced, or with which the branch ended
abbrev pub scn_by : Option Decision → Option ℕ → Option ℕ
scn_by (Some (decisions.Commit n)) ended = Some n
scn_by (Some decisions.Rollback) ended = None
scn_by None ended = ended

-- the row of a branch from its Sealed record on
abbrev pub pending_sealed : List RedoRecord → Sealed → Pending
pending_sealed rs r = record {
  me = r.me;
  root = r.root;
  state = state_by (forced_as rs r.me) (committed_at rs r.me);
  mixed = is_mixed rs r.me;
  advice = r.advice;
  comment = r.comment;
  number = scn_by (forced_as rs r.me) (committed_at rs r.me);
}

-- the row of the commit point site from its Decided record on
abbrev pub pending_decided : Decided → Pending
pending_decided r = record { me = r.me; root = r.root; state = codes "committed"; mixed = false; advice = r.advice; comment = r.comment; number = Some r.scn }

-- by the first record of a branch
abbrev pub pending_first : List RedoRecord → Option Sealed → Option Decided → List Pending
pending_first rs (Some r) d = pending_sealed rs r ∷ []
pending_first rs None (Some r) = if has_neighbors r then pending_decided r ∷ [] else []
pending_first rs None None = []

-- the row of a branch by the records of its node, if it has one
abbrev pub pending_recorded : List RedoRecord → BranchId → List Pending
pending_recorded rs b = if is_shown rs b then pending_first rs (sealed_in rs b) (decided_in rs b) else []

-- the row of a live branch that has asked its children to prepare; a root has no advice
abbrev pub pending_collecting : Given → Seen → Pending
pending_collecting g s = record { me = s.me; root = s.root; state = codes "collecting"; mixed = false; advice = if is_none s.parent then None else g.advice s.me; comment = g.comment s.root; number = None }

-- whether a branch is live and has asked its children to prepare
abbrev pub is_collecting : Seen → Bool
is_collecting s = is_live s && (s.collects && is_some (slice_get s.children 0))

-- the same, of a branch that began, or did not
abbrev pub pending_seen : Given → Option Seen → List Pending
pending_seen g None = []
pending_seen g (Some s) = if is_collecting s then pending_collecting g s ∷ [] else []

-- the row of a branch at a node, if it has one
abbrev pub pending_at : Facts → Trail → Given → ℕ → BranchId → List Pending
pending_at f tr g n b = if b.node == n then pending_seen g (seen_at tr b) ++ pending_recorded (records_at f n) b else []

-- ---- DBA_2PC_NEIGHBORS

-- the row of a parent: its node, and whether it is on the way to the commit point site
abbrev pub neighbor_in : List (List ℕ) → BranchId → Option BranchId → BranchId → Neighbor
neighbor_in names me toward parent = record { me = me; is_in = true; database = name_of names parent.node; to_site = is_branch parent toward }

-- the row of a child: the link that leads to it, and the same
abbrev pub neighbor_out : BranchId → Option BranchId → Peer → Neighbor
neighbor_out me toward child = record { me = me; is_in = false; database = child.link; to_site = is_branch child.branch toward }

-- the rows of a branch that was prepared: its parent, and then its children in order of reference
abbrev pub neighbors_sealed : List (List ℕ) → Sealed → List Neighbor
neighbors_sealed names r = map (neighbor_in names r.me (toward_of r r.toward)) (option_to_list r.parent) ++ map (neighbor_out r.me (toward_of r r.toward)) r.children

-- those of the commit point site, from which no neighbour is on the way to it
abbrev pub neighbors_decided : List (List ℕ) → Decided → List Neighbor
neighbors_decided names r = map (neighbor_in names r.me None) (option_to_list r.parent) ++ map (neighbor_out r.me None) r.children

-- by the first record of a branch
abbrev pub neighbors_first : List (List ℕ) → Option Sealed → Option Decided → List Neighbor
neighbors_first names (Some r) d = neighbors_sealed names r
neighbors_first names None (Some r) = neighbors_decided names r
neighbors_first names None None = []

-- the rows of a branch at a node
abbrev pub neighbors_at : List (List ℕ) → Facts → ℕ → BranchId → List Neighbor
neighbors_at names f n b = if is_shown (records_at f n) b then neighbors_first names (sealed_in (records_at f n) b) (decided_in (records_at f n) b) else []
