-- From its COMMIT or its Prepare on a branch stands still: it waits for nothing, takes no call and makes none.
use Rattle.std.specs.Prelude.{map, ◌≡◌, ◌≢◌, ℕ, ◌≤◌, ◌&&◌, Bool, true, false, List, Some, None}
use Rattle.std.specs.List.{list_any}
use Rattle.node_rules.specs.Data.{BranchId, Post}
use Rattle.node_rules.specs.Data.phases
use Rattle.node_rules.specs.Words.{same}
use Rattle.node_rules.specs.NodeState.{NodeState, Branch, branch_at}
use Rattle.run_rules.specs.Trail.{is_prepare}
use Rattle.session_tree.specs.Live.{children_of}
use Rattle.node_rules.specs.Data.{Place}
use Rattle.node_rules.specs.Turn.{turn_of}
use Rattle.run_rules.specs.Data.{Happening}
use Rattle.run_rules.specs.Data.happenings
use Rattle.run_base_laws.specs.NodeLaws.{AtEachFact}
use Rattle.run_rules.specs.Facts.{Facts, place_at, node_at}
use Rattle.run_rules.specs.Lawful.{History, IsLawfulRun, facts_at}
use Rattle.run_base_laws.specs.InTurnLaws.{said_in, newest_exec, newest_reply}

-- whether a branch sent Prepare to another
abbrev pub was_asked : List Post → BranchId → BranchId → Bool
was_asked said p c = list_any (λ m. (same m.from p && same m.to c) && is_prepare m.kind) said

-- In every lawful run a branch that asked a child to prepare had its Reply to each of its calls, and calls it no more.
abbrev pub AskedHaveAnswered : Type 0
AskedHaveAnswered = (t : History) → IsLawfulRun t → (p c : BranchId) → was_asked (said_in (facts_at t)) p c ≡ true → newest_exec (said_in (facts_at t)) p c ≤ newest_reply (said_in (facts_at t)) c

-- In every lawful run a live branch that is working has asked no child. One that is not waits for nothing; below a root its parent
-- asked it, and it took the last of its parent's calls.
abbrev pub AskedStandStill : Type 0
AskedStandStill = (t : History) → IsLawfulRun t → (n : ℕ) (k : NodeState) → node_at (facts_at t) n ≡ Some k → (x : Branch) → branch_at k x.live.me ≡ Some x
    → (x.live.phase ≡ phases.Working → (c : BranchId) → was_asked (said_in (facts_at t)) x.live.me c ≡ false)
    × (x.live.phase ≢ phases.Working → (x.work.going ≡ None) × ((p : BranchId) → x.live.parent ≡ Some p → (was_asked (said_in (facts_at t)) p x.live.me ≡ true) × (newest_exec (said_in (facts_at t)) p x.live.me ≡ x.work.came.last_call)))

-- In every lawful run the live receiver of a Prepare waits for nothing, and took the last of its parent's calls.
abbrev pub PrepareFindsRest : Type 0
PrepareFindsRest = (t : History) → IsLawfulRun t → (p : BranchId) (n : ℕ) (k : NodeState) → node_at (facts_at t) n ≡ Some k → (x : Branch) → branch_at k x.live.me ≡ Some x
    → was_asked (said_in (facts_at t)) p x.live.me ≡ true → (x.live.parent ≡ Some p) × (x.work.going ≡ None) × (newest_exec (said_in (facts_at t)) p x.live.me ≡ x.work.came.last_call)

-- ---- what a turn leaves of such a branch

-- The same children with the same weights and counts, the same own changes, and the same calls.
pub record StandsStill (x y : Branch) : Type 0 where
  pub peers : children_of y.live ≡ children_of x.live
  pub weights : map (λ e. e.weight) y.live.edges ≡ map (λ e. e.weight) x.live.edges
  pub counts : map (λ e. e.count) y.live.edges ≡ map (λ e. e.count) x.live.edges
  pub changed : y.live.changed ≡ x.live.changed
  pub calls : y.work.calls ≡ x.work.calls
  pub last : y.work.came.last_call ≡ x.work.came.last_call
  pub phase : y.live.phase ≢ phases.Working

-- a turn leaves a live branch so that is not working, where it stays live
abbrev pub LeavesStill : List Place → Facts → Happening → Type 0
LeavesStill places f (happenings.Turn u) = (k : NodeState) → node_at f u.node ≡ Some k → (x y : Branch) → branch_at k x.live.me ≡ Some x → x.live.phase ≢ phases.Working
    → y.live.me ≡ x.live.me → branch_at (turn_of (place_at places u.node) k u.input).after y.live.me ≡ Some y → StandsStill x y
LeavesStill places f _ = Unit {0}

-- In every lawful run the tree below a branch stands still from its COMMIT or its Prepare on.
abbrev pub TreesStandStill : Type 0
TreesStandStill = (t : History) → IsLawfulRun t → AtEachFact LeavesStill t
