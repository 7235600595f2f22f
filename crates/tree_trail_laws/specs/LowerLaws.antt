-- What the happenings tell of a live branch below a root is what its node keeps of it: that it is live, its parent and its
-- children, the SCN at which it reads, whether its collect began, and which of its children answered. (Database Administrator's Guide, "Distributed
-- Transactions Concepts": session trees, prepare phase.)
use Rattle.std.specs.Prelude.{◌≡◌, ◌≢◌, ℕ, not, true, false, List, [], Some, None}
use Rattle.std.specs.List.{AllByRecursion}
use Rattle.prepare_phase.specs.Acts.{is_awaited}
use Rattle.session_tree.specs.Live.{children_of}
use Rattle.node_rules.specs.Data.{BranchId, Edge, Live}
use Rattle.node_rules.specs.Data.phases
use Rattle.node_rules.specs.NodeState.{NodeState, live_at}
use Rattle.run_rules.specs.Branches.{Seen, is_among, seen_at}
use Rattle.run_rules.specs.Facts.{node_at}
use Rattle.run_rules.specs.Lawful.{History, IsLawfulRun, facts_at}
use Rattle.tree_trail_laws.specs.ChildLaws.{trail_at}

-- of these children those have answered whose answers are not awaited
abbrev pub AreVoted : List BranchId → List Edge → Type 0
AreVoted votes es = AllByRecursion (λ e. is_among e.peer votes ≡ not (is_awaited e.vote)) es

-- The branch history of a live branch agrees with what its node keeps of it. Before its COMMIT or Prepare comes no child has
-- answered.
pub record IsTracedLive (l : Live) (s : Seen) : Type 0 where
  pub live : s.exit ≡ None
  pub parent : s.parent ≡ l.parent
  pub children : s.children ≡ children_of l
  pub read_at : s.read_at ≡ l.read_at
  pub working : l.phase ≡ phases.Working → (s.collects ≡ false) × (s.voted ≡ [])
  pub collects : l.phase ≢ phases.Working → (s.collects ≡ true) × AreVoted s.voted l.edges

-- In every lawful run it is so of each live branch below a root.
abbrev pub LowerAreTraced : Type 0
LowerAreTraced = (t : History) → IsLawfulRun t → (n : ℕ) (k : NodeState) → node_at (facts_at t) n ≡ Some k → (l : Live) → live_at k l.me ≡ Some l → l.parent ≢ None
    → (s : Seen) × (seen_at (trail_at t) l.me ≡ Some s) × IsTracedLive l s
