-- A live branch that no statement is on its way to stands still: the tree below it is as it was.
use Rattle.std.specs.Prelude.{◌≡◌, List, map, Option, Some, None}
use Rattle.session_tree.specs.Live.{children_of}
use Rattle.node_rules.specs.Data.{BranchId, Post, Place}
use Rattle.node_rules.specs.declared.work.Work.{Work}
use Rattle.node_rules.specs.NodeState.{NodeState, Branch, branch_at}
use Rattle.node_rules.specs.Turn.{turn_of}
use Rattle.run_rules.specs.Data.{Happening}
use Rattle.run_rules.specs.Data.happenings
use Rattle.run_rules.specs.Facts.{Facts, place_at, node_at}
use Rattle.run_rules.specs.Lawful.{History, IsLawfulRun}
use Rattle.run_base_laws.specs.NodeLaws.{AtEachFact}
use Rattle.run_base_laws.specs.InTurnLaws.{said_in, newest_exec}

-- A branch below a root waits for nothing, and took the last call of its parent.
pub record Rests (said : List Post) (me : BranchId) (parent : Option BranchId) (w : Work) : Type 0 where
  pub above : BranchId
  pub is_parent : parent ≡ Some above
  pub waits : w.going ≡ None
  pub last : newest_exec said above me ≡ w.came.last_call

-- The same children with the same weights, and own changes or none as before.
pub record SameTree (x y : Branch) : Type 0 where
  pub peers : children_of y.live ≡ children_of x.live
  pub weights : map (λ e. e.weight) y.live.edges ≡ map (λ e. e.weight) x.live.edges
  pub changed : y.live.changed ≡ x.live.changed

-- a turn leaves a live branch that rests so, where it stays live
abbrev pub LeavesAtRest : List Place → Facts → Happening → Type 0
LeavesAtRest places f (happenings.Turn u) = (k : NodeState) → node_at f u.node ≡ Some k → (x y : Branch) → branch_at k x.live.me ≡ Some x → Rests (said_in f) x.live.me x.live.parent x.work
    → y.live.me ≡ x.live.me → branch_at (turn_of (place_at places u.node) k u.input).after y.live.me ≡ Some y → SameTree x y
LeavesAtRest places f _ = Unit {0}

-- In every lawful run a live branch below a root that waits for nothing and took its parent's last call stands still.
abbrev pub RestingStandStill : Type 0
RestingStandStill = (t : History) → IsLawfulRun t → AtEachFact LeavesAtRest t
