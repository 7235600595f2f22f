-- Where a branch decides, by what live branches knew when the COMMIT of its root came: the walk from the root, by the weights that each
-- branch held of its children, ended at that branch.
use Rattle.std.specs.Prelude.{◌≡◌, ◌≢◌, ◌⊎◌, ℕ, List, ◌∷◌, ◌++◌, Option, Some, None}
use Rattle.std.specs.List.{AllByRecursion}
use Rattle.session_tree.specs.Live.{children_of}
use Rattle.session_tree.specs.Tree.{weight, step}
use Rattle.session_tree.specs.declared.act.Walk.TheVariants as walks
use Rattle.agreement.specs.Events.{Sealed, Decided, exit}
use Rattle.node_rules.specs.Data.{BranchId, Live, Place}
use Rattle.node_rules.specs.Data.stmts
use Rattle.node_rules.specs.Inputs.{IsCall}
use Rattle.node_rules.specs.Words.{numbered}
use Rattle.node_rules.specs.NodeState.{NodeState, live_at}
use Rattle.node_rules.specs.Sessions.{session_at}
use Rattle.run_rules.specs.Data.{Turn, Happening}
use Rattle.run_rules.specs.Data.happenings
use Rattle.run_rules.specs.Facts.{Facts, first_facts, node_at, facts_of}
use Rattle.run_rules.specs.Lawful.{History, IsLawfulRun}
use Rattle.run_base_laws.specs.RunEvents.{events_of}
use Rattle.run_rules.specs.Branches.{Trail, PlannedBranch, children_at}
use Rattle.run_rules.specs.Tree.{has_changes, strength_of, plan}

-- a live branch of a node, where it is up
abbrev pub live_of : Option NodeState → BranchId → Option Live
live_of None b = None
live_of (Some k) b = live_at k b

-- a live branch, at its node
abbrev pub live_in : Facts → BranchId → Option Live
live_in f b = live_of (node_at f b.node) b

-- The walk from a branch ends at another.
pub data WalksTo (f : Facts) : BranchId → BranchId → Type 0 where
  Ends_here : (l : Live) (b : BranchId) → live_in f b ≡ Some l → step l ≡ walks.Here → WalksTo f b b
  Goes_down : (l : Live) (i : ℕ) (b c d : BranchId) → live_in f b ≡ Some l → step l ≡ walks.Down i → numbered (children_of l) i ≡ Some c → WalksTo f c d → WalksTo f b d

-- A branch is in the tree of a root.
pub data InTree (f : Facts) (r : BranchId) : BranchId → Type 0 where
  Is_root : InTree f r r
  Is_child : (p c : BranchId) (l : Live) (i : ℕ) → InTree f r p → live_in f p ≡ Some l → numbered (children_of l) i ≡ Some c → InTree f r c

-- What the happenings tell of the live branches of a tree is what their nodes keep: their children, whether they have changes, and
-- the strength with which they began.
pub record SeesTree (places : List Place) (f : Facts) (tr : Trail) (r : BranchId) : Type 0 where
  pub children : (c : BranchId) (l : Live) → InTree f r c → live_in f c ≡ Some l → children_at tr c ≡ children_of l
  pub changed : (c : BranchId) (l : Live) → InTree f r c → live_in f c ≡ Some l → has_changes tr c ≡ l.changed
  pub strength : (c : BranchId) (l : Live) → InTree f r c → live_in f c ≡ Some l → strength_of places tr c ≡ l.strength

-- A branch of a plan other than this one, with changes on it or below it, has been sealed.
abbrev pub IsCoveredBy : History → BranchId → PlannedBranch → Type 0
IsCoveredBy t b x = x.me ≢ b → x.weight ≢ None → (m : ℕ) × (exit (events_of t) x.me ≡ Some (Sealed m))

-- The COMMIT of the root came to it after some happenings, was not refused, and its transaction was not READ ONLY. The walk ended at
-- the branch that decides. The plan of the COMMIT has it as the site, where the happenings tell of the tree what nodes keep, and each
-- other branch of the plan with changes on it or below it has been sealed. Every other branch of the tree was live, and has been sealed
-- by now, or had no weight.
pub record DecidedSo (t : History) (b : BranchId) : Type 0 where
  pub before : List Happening
  pub turn : Turn
  pub later : List Happening
  pub is : before ++ happenings.Turn turn ∷ later ≡ t.trace
  pub root : BranchId
  pub session : ℕ
  pub given : Option (List ℕ)
  pub call : IsCall turn.input session (stmts.Commit given)
  pub kept : NodeState
  pub up : node_at (facts_of t.places t.commands (first_facts t.places) before) turn.node ≡ Some kept
  pub has : (session_at kept.sessions session).root ≡ Some root
  pub accepted : (session_at kept.sessions session).code ≡ None
  pub writes : (l : Live) → live_at kept root ≡ Some l → l.read_at ≡ None
  pub walk : WalksTo (facts_of t.places t.commands (first_facts t.places) before) root b
  pub planned : (tr : Trail) → SeesTree t.places (facts_of t.places t.commands (first_facts t.places) before) tr root
      → ((plan t.places tr root).site ≡ Some b) × AllByRecursion (IsCoveredBy t b) (plan t.places tr root).tree
  pub covers : (c : BranchId) → InTree (facts_of t.places t.commands (first_facts t.places) before) root c
      → (l : Live) × (live_in (facts_of t.places t.commands (first_facts t.places) before) c ≡ Some l) × ((c ≡ b) ⊎ (((m : ℕ) × (exit (events_of t) c ≡ Some (Sealed m))) ⊎ (weight l ≡ None)))

-- In every lawful run each branch that has decided did so.
abbrev pub DecisionsFollowWalks : Type 0
DecisionsFollowWalks = (t : History) → IsLawfulRun t → (b : BranchId) (n : ℕ) → exit (events_of t) b ≡ Some (Decided n) → DecidedSo t b
