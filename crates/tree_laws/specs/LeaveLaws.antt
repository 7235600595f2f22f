-- How branches leave that are not dropped: their collects are complete, and their weights say how they leave.
use Rattle.std.specs.Prelude.{◌≡◌, ◌≢◌, ◌⊎◌, ℕ, Bool, List, Option, Some, None, true}
use Rattle.session_tree.specs.Live.{children_of}
use Rattle.session_tree.specs.Tree.{weight, step}
use Rattle.session_tree.specs.declared.act.Walk.TheVariants as walks
use Rattle.agreement.specs.Events.{Event, Exit, Decided, Quiet, Dropped, exit}
use Rattle.node_rules.specs.Data.{BranchId, Live, Post, Input}
use Rattle.node_rules.specs.Data.kinds
use Rattle.node_rules.specs.Data.phases
use Rattle.node_rules.specs.Data.stmts
use Rattle.node_rules.specs.Inputs.{Came, IsCall}
use Rattle.node_rules.specs.Words.{numbered}
use Rattle.node_rules.specs.NodeState.{NodeState, live_at}
use Rattle.run_rules.specs.Data.{Happening}
use Rattle.run_rules.specs.Data.happenings
use Rattle.run_rules.specs.Facts.{Facts, node_at}
use Rattle.run_base_laws.specs.RunEvents.{events_after, events_of}
use Rattle.run_rules.specs.Births.{births_of}
use Rattle.run_rules.specs.Trail.{is_prepare}
use Rattle.tree_laws.specs.AskLaws.{HeardAbove}
use Rattle.run_rules.specs.Lawful.{History, IsLawfulRun, facts_at}
use Rattle.run_base_laws.specs.EventLaws.{AtEachEvent}
use Rattle.run_base_laws.specs.FreezeLaws.{was_asked}
use Rattle.run_base_laws.specs.InTurnLaws.{said_in}

-- a site decides where the walk ends, and a branch that answers without changes has no weight
abbrev pub EndsAs : Live → Exit → Type 0
EndsAs l (Decided n) = step l ≡ walks.Here
EndsAs l Quiet = weight l ≡ None
EndsAs l _ = Unit {0}

-- Its parent asked it, and it asked its children.
pub record LeavesSo (said : List Post) (l : Live) (x : Exit) : Type 0 where
  pub asked : (q : BranchId) → l.parent ≡ Some q → was_asked said q l.me ≡ true
  pub kids : (i : ℕ) (c : BranchId) → numbered (children_of l) i ≡ Some c → was_asked said l.me c ≡ true
  pub ends : EndsAs l x

-- COMMIT came to its node, or Prepare to the branch
abbrev pub Begins_by : Input → BranchId → Type 0
Begins_by input b = ((n : ℕ) × (given : Option (List ℕ)) × IsCall input n (stmts.Commit given)) ⊎ ((from : BranchId) × (site_below : Bool) × (comment : List ℕ) × Came input from b (kinds.Prepare site_below comment))

-- A branch that was live as the turn began leaves so.
pub record LeftSo (k : NodeState) (input : Input) (said : List Post) (b : BranchId) (x : Exit) : Type 0 where
  pub live : Live
  pub found : live_at k live.me ≡ Some live
  pub is_me : live.me ≡ b
  pub leaves : LeavesSo said live x
  pub begins : live.phase ≡ phases.Working → Begins_by input live.me

-- each branch that leaves in a turn, and is not dropped, does so
abbrev pub LeaveComplete : History → Facts → List Event → Happening → Type 0
LeaveComplete t f e (happenings.Turn u) = (k : NodeState) → node_at f u.node ≡ Some k → (b : BranchId) (x : Exit) → exit e b ≡ None → x ≢ Dropped
    → exit (events_after t.places t.commands f (happenings.Turn u) e) b ≡ Some x → LeftSo k u.input (said_in f) b x
LeaveComplete t f e _ = Unit {0}

-- In every lawful run.
abbrev pub LeaversAreComplete : Type 0
LeaversAreComplete = (t : History) → IsLawfulRun t → AtEachEvent (LeaveComplete t) t

-- In every lawful run a branch that has left, and was not dropped, began, and its parent asked it.
abbrev pub LeftWereAsked : Type 0
LeftWereAsked = (t : History) → IsLawfulRun t → (c : BranchId) (z : Exit) → exit (events_of t) c ≡ Some z → z ≢ Dropped → HeardAbove is_prepare (births_of t) (said_in (facts_at t)) c
