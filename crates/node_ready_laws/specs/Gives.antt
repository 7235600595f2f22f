-- What a ready node gives its code, in the words of the code's conditions.
use Rattle.std.specs.Prelude.{◌≡◌, ℕ, ◌+◌, ◌<◌, ◌≤◌, ◌^◌, length, Some}
use Rattle.dtx_values.specs.Limits.{link_limit}
use Rattle.node_rules.specs.Data.{BranchId, Live, Place}
use Rattle.node_rules.specs.LiveBranches.{works_of}
use Rattle.node_rules.specs.NodeState.{NodeState, live_at}
use Rattle.node_rules.specs.Calls.{next_call}
use Rattle.session_tree.specs.Tree.{count}
use Rattle.node_ready_laws.specs.Shapes.{HasShape}
use Rattle.node_ready_laws.specs.Ready.{IsWithin}

-- a live branch has few children, where LINKS is within its limit, and two bytes are enough to count the branches of its subtree
abbrev pub ChildrenAreFew : Type 0
ChildrenAreFew = (p : Place) (k : NodeState) (b : BranchId) (l : Live) → p.links ≤ link_limit → HasShape p k → live_at k b ≡ Some l → (length l.edges ≤ link_limit) × (count l < 2 ^ 16)

-- the next call number of each edge is at most one more than the greatest number so far
abbrev pub NextCallsAreWithin : Type 0
NextCallsAreWithin = (k : NodeState) (n : ℕ) → IsWithin n k → (b : BranchId) (i : ℕ) → next_call (works_of k.works b) i ≤ n + 1
