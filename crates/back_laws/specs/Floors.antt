-- A floor for each branch: a number of a call below which it is not taken back. Where floors stand they go on to stand, as long as no
-- root goes back below its own: each branch goes back to its floor or above, has noted the floors of its children by then, and sends no BACK
-- that names a call below them. (SQL Language Reference: ROLLBACK.)
use Rattle.std.specs.Prelude.{◌⊎◌, ◌≡◌, ◌≢◌, ℕ, ◌<◌, ◌≤◌, length, take, option_map, Option, Some, None, []}
use Rattle.std.specs.List.{AllByRecursion}
use Rattle.session_tree.specs.Live.{children_of}
use Rattle.node_rules.specs.Data.{BranchId, Kind, Live}
use Rattle.node_rules.specs.Data.kinds
use Rattle.node_rules.specs.Data.tasks
use Rattle.node_rules.specs.declared.work.Errand.TheVariants as errands
use Rattle.node_rules.specs.declared.work.Going.{Going}
use Rattle.node_rules.specs.declared.work.Work.{Work}
use Rattle.node_rules.specs.Marks.{kept_call}
use Rattle.node_rules.specs.NodeState.{NodeState, Branch, branch_at}
use Rattle.node_rules.specs.Words.{numbered}
use Rattle.run_rules.specs.Births.{Born, born_at, births_of, births_from}
use Rattle.run_rules.specs.Branches.{Seen, seen_at}
use Rattle.run_rules.specs.Each.{facts_upto, trail_upto}
use Rattle.run_rules.specs.Facts.{Facts, first_facts, node_at}
use Rattle.run_rules.specs.Lawful.{History, IsLawfulRun}
use Rattle.run_base_laws.specs.InTurnLaws.{said_in}
use Rattle.back_laws.specs.BackLaws.{StaysAbove}

-- the parent of a branch as it began
abbrev pub parent_then : Option Born → Option BranchId
parent_then None = None
parent_then (Some x) = x.parent

-- and in a run
abbrev pub parent_in : History → BranchId → Option BranchId
parent_in t b = parent_then (born_at (births_of t) b)

-- the number of the edge over which it began
abbrev pub edge_in : History → BranchId → Option ℕ
edge_in t b = option_map (λ x. x.edge) (born_at (births_of t) b)

-- A live branch keeps its floor: it has taken a call so high, it goes back no further, and its notes up to there name the floors of its
-- children; a child of an edge that it does not know yet has none.
pub record KeepsFloor (floor : BranchId → ℕ) (up : BranchId → Option BranchId) (edge : BranchId → Option ℕ) (l : Live) (w : Work) : Type 0 where
  pub low : up l.me ≢ None → floor l.me ≤ w.came.last_call
  pub err : (g : Going) → w.going ≡ Some g → (step : ℕ) → g.errand ≡ errands.GoBack step → floor l.me ≤ step
  pub kept : (i : ℕ) (c : BranchId) → numbered (children_of l) i ≡ Some c → floor c ≤ kept_call w.marks (floor l.me) i
  pub later : (c : BranchId) (e : ℕ) → up c ≡ Some l.me → edge c ≡ Some e → length l.edges < e → floor c ≡ 0

-- a BACK to a branch, of a call above its floor, does not go below it
abbrev pub BackAbove : (BranchId → ℕ) → BranchId → Kind → Type 0
BackAbove floor to (kinds.Exec call (tasks.GoBack keep)) = floor to < call → floor to ≤ keep
BackAbove floor to _ = Unit {0}

-- Floors stand: each live branch keeps its own, and no BACK that was sent goes below one.
pub record FloorsStand (t : History) (floor : BranchId → ℕ) (f : Facts) : Type 0 where
  pub nodes : (n : ℕ) (k : NodeState) → node_at f n ≡ Some k → (x : Branch) → branch_at k x.live.me ≡ Some x → KeepsFloor floor (parent_in t) (edge_in t) x.live x.work
  pub said : AllByRecursion (λ m. BackAbove floor m.to m.kind) (said_in f)

-- a branch that has not begun by a moment has no floor, and its children neither
abbrev pub NoneUnborn : History → (BranchId → ℕ) → ℕ → Type 0
NoneUnborn t floor moment = (b : BranchId) → born_at (births_from t.places t.commands (first_facts t.places) (take moment t.trace) []) b ≡ None → (floor b ≡ 0) × ((c : BranchId) → parent_in t c ≡ Some b → floor c ≡ 0)

-- In every lawful run floors that stand at a moment stand later, where no root was taken back below its own meanwhile.
abbrev pub FloorsHold : Type 0
FloorsHold = (t : History) → IsLawfulRun t → (moment now : ℕ) → moment ≤ now → now ≤ length t.trace → (floor : BranchId → ℕ) → NoneUnborn t floor moment → FloorsStand t floor (facts_upto t moment)
    → ((b : BranchId) → parent_in t b ≡ None → StaysAbove t moment now b (floor b)) → FloorsStand t floor (facts_upto t now)

-- a branch has taken a call as high as its floor by a moment, where it has one
abbrev pub FloorsTaken : History → (BranchId → ℕ) → ℕ → Type 0
FloorsTaken t floor moment = (b : BranchId) → (floor b ≡ 0) ⊎ ((old : Seen) × (seen_at (trail_upto t moment) b ≡ Some old) × (floor b ≤ old.taken))

-- So no branch is taken back below its floor: what it had up to there it has still.
abbrev pub BranchesStayAbove : Type 0
BranchesStayAbove = (t : History) → IsLawfulRun t → (moment now : ℕ) → moment ≤ now → now ≤ length t.trace → (floor : BranchId → ℕ) → NoneUnborn t floor moment → FloorsStand t floor (facts_upto t moment) → FloorsTaken t floor moment
    → ((b : BranchId) → parent_in t b ≡ None → StaysAbove t moment now b (floor b)) → (b : BranchId) → StaysAbove t moment now b (floor b)
