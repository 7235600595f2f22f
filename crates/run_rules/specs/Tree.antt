-- The session tree of a transaction at a moment, the weights in it, the walk to its commit point site, and the plan of a
-- COMMIT that is accepted then. (Database Administrator's Guide, "Distributed Transactions Concepts": session trees, commit
-- point site, commit point strength.)
use Rattle.std.specs.Prelude.{ℕ, zero, suc, Bool, if◌then◌else◌, List, [], ◌∷◌, map, flat_map, slice_get, unwrap_or, is_some, Option, Some, None}
use Rattle.dtx_values.specs.Limits.{depth_limit}
use Rattle.node_rules.specs.Data.{BranchId, Place, Walk}
use Rattle.node_rules.specs.Data.walks
use Rattle.node_rules.specs.Words.{same, numbered}
use Rattle.session_tree.specs.Tree.{place_of_greatest, weight_by, walk_by}
use Rattle.run_rules.specs.Facts.{place_at}
use Rattle.run_rules.specs.Branches.{Seen, Trail, CommitPlan, PlannedBranch, seen_at, own_at, strength_set, children_at, is_among}

-- whether a branch has changes
abbrev pub has_changes : Trail → BranchId → Bool
has_changes tr b = is_some (slice_get (own_at tr b) 0)

-- the commit point strength of a branch's node when it began: the one that was set, or else that of its NODE command
abbrev pub strength_of : List Place → Trail → BranchId → ℕ
strength_of places tr b = unwrap_or (strength_set (seen_at tr b)) (place_at places b.node).strength

-- the weight of a branch in a tree of so many levels: its own strength where it has changes, else the greatest weight of its children
abbrev pub weight_in : ℕ → List Place → Trail → BranchId → Option ℕ
weight_in zero places tr b = None
weight_in (suc levels) places tr b = weight_by (has_changes tr b) (strength_of places tr b) (place_of_greatest 1 (map (weight_in levels places tr) (children_at tr b)) None)

-- the weight of a branch
unfoldable pub weight : List Place → Trail → BranchId → Option ℕ
weight places tr b = weight_in depth_limit places tr b

-- the walk's step from a branch
unfoldable pub step : List Place → Trail → BranchId → Walk
step places tr b = walk_by (has_changes tr b) (strength_of places tr b) (place_of_greatest 1 (map (weight places tr) (children_at tr b)) None)

-- the walk goes on from a child, where it is there
abbrev pub goes_down : (BranchId → List BranchId) → Option BranchId → List BranchId
goes_down further None = []
goes_down further (Some c) = further c

-- by the step from a branch
abbrev pub walks_by : (BranchId → List BranchId) → BranchId → List BranchId → Walk → List BranchId
walks_by further b cs walks.Here = b ∷ []
walks_by further b cs (walks.Down i) = b ∷ goes_down further (numbered cs i)
walks_by further b cs walks.Nowhere = []

-- the branches on the walk from a branch, through so many levels
abbrev pub walk_in : ℕ → List Place → Trail → BranchId → List BranchId
walk_in zero places tr b = []
walk_in (suc levels) places tr b = walks_by (walk_in levels places tr) b (children_at tr b) (step places tr b)

-- the walk from a root to its commit point site: none where no branch has changes
unfoldable pub walk : List Place → Trail → BranchId → List BranchId
walk places tr root = walk_in depth_limit places tr root

-- the last of these
abbrev pub last_of : List BranchId → Option BranchId
last_of [] = None
last_of (b ∷ []) = Some b
last_of (b ∷ c ∷ cs) = last_of (c ∷ cs)

-- the commit point site of the transaction of a root
abbrev pub site : List Place → Trail → BranchId → Option BranchId
site places tr root = last_of (walk places tr root)

-- the branches of a tree of so many levels, the root first
abbrev pub tree_in : ℕ → Trail → BranchId → List BranchId
tree_in zero tr b = []
tree_in (suc levels) tr b = b ∷ flat_map (tree_in levels tr) (children_at tr b)

-- the session tree of a root
unfoldable pub tree : Trail → BranchId → List BranchId
tree tr root = tree_in depth_limit tr root

-- the branch after this one on a walk
abbrev pub next_on : BranchId → List BranchId → Option BranchId
next_on b [] = None
next_on b (c ∷ []) = None
next_on b (c ∷ d ∷ cs) = if same c b then Some d else next_on b (d ∷ cs)

-- the neighbour toward the site: the next on the walk, and off it the parent
abbrev pub toward_by : List BranchId → BranchId → Option BranchId → Option BranchId
toward_by path b parent = if is_among b path then next_on b path else parent

-- the parent of a branch that began
abbrev pub parent_of : Option Seen → Option BranchId
parent_of None = None
parent_of (Some s) = s.parent

-- a branch of the tree, with the walk to the site
abbrev pub planned : List Place → Trail → List BranchId → BranchId → PlannedBranch
planned places tr path b = record {
  me = b;
  parent = parent_of (seen_at tr b);
  children = children_at tr b;
  changes = own_at tr b;
  weight = weight places tr b;
  toward = toward_by path b (parent_of (seen_at tr b));
}

-- the plan of a COMMIT at this root
unfoldable pub plan : List Place → Trail → BranchId → CommitPlan
plan places tr root = record { root = root; site = site places tr root; tree = map (planned places tr (walk places tr root)) (tree tr root) }
