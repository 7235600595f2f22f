-- The weights of children that voted: a branch off the walk votes where there are changes on it or beyond, so its parent, to which its
-- Replies told its weight, knows one.
use Rattle.std.specs.Prelude.{◌≡◌, ◌≢◌, ℕ, ◌≤◌, ◌⊎◌, true, List, [], ◌∷◌, Option, Some, None}
use Rattle.std.specs.List.{AllByRecursion}
use Rattle.session_tree.specs.Tree.{weight}
use Rattle.node_rules.specs.Data.{BranchId, Edge, Kind, Live, Post, ReplyFields}
use Rattle.node_rules.specs.Data.kinds
use Rattle.node_rules.specs.declared.work.Work.{Work}
use Rattle.node_rules.specs.Words.{numbered}
use Rattle.node_rules.specs.NodeState.{NodeState, Branch, branch_at}
use Rattle.agreement.specs.Events.{Event, Send_vote, Has}
use Rattle.run_rules.specs.Data.{Happening}
use Rattle.run_rules.specs.Facts.{Facts, node_at}
use Rattle.run_rules.specs.Lawful.{History, IsLawfulRun, facts_at}
use Rattle.run_base_laws.specs.EventLaws.{AtEachEvent}
use Rattle.run_base_laws.specs.FreezeLaws.{was_asked}
use Rattle.run_base_laws.specs.InTurnLaws.{said_in, WaitsFor, call_at, NeedsNoRollback}
use Rattle.run_branch_laws.specs.WalkLaws.{is_above, was_sent}

-- a child that was asked off the walk, and voted, has a weight
abbrev pub EdgeWeighs : List Event → List Post → BranchId → Edge → Type 0
EdgeWeighs t said me e = (j : ℕ) → Has (Send_vote e.peer j) t → was_sent is_above said me e.peer ≡ true → e.weight ≢ None

-- of the children of a live branch
abbrev pub LiveWeighs : List Event → List Post → Live → Type 0
LiveWeighs t said l = AllByRecursion (EdgeWeighs t said l.me) l.edges

-- at each node, whatever happens next
abbrev pub NodesWeigh : Facts → List Event → Happening → Type 0
NodesWeigh f t h = (n : ℕ) (k : NodeState) → node_at f n ≡ Some k → AllByRecursion (LiveWeighs t (said_in f)) k.lives

-- in a run, before each happening
abbrev pub VotersWeigh : History → Type 0
VotersWeigh t = AtEachEvent NodesWeigh t

-- ---- what Replies tell

-- a Reply of this number with this weight
abbrev pub TellsWeight : ℕ → Option ℕ → Kind → Type 0
TellsWeight n wt (kinds.Reply call weight count a) = (call ≡ n) × (weight ≡ wt)
TellsWeight n wt _ = ⊥

-- a branch sent one
abbrev pub ToldWeight : List Post → BranchId → ℕ → Option ℕ → Type 0
ToldWeight [] b n wt = ⊥
ToldWeight (m ∷ ms) b n wt = ((m.from ≡ b) × TellsWeight n wt m.kind) ⊎ ToldWeight ms b n wt

-- What a branch below a root told of its weight: each Reply to its last call tells it, once it waits for nothing, and so does the one that
-- it keeps. Before its first call it has none.
pub record TellsItsWeight (said : List Post) (me : BranchId) (parent : Option BranchId) (wt : Option ℕ) (w : Work) : Type 0 where
  pub told : parent ≢ None → 1 ≤ w.came.last_call → w.going ≡ None → (v : Option ℕ) → ToldWeight said me w.came.last_call v → v ≡ wt
  pub kept : (t : ReplyFields) → w.came.reply ≡ Some t → t.weight ≡ wt
  pub zero_calls : parent ≢ None → w.came.last_call ≡ 0 → wt ≡ None

-- In every lawful run each live branch did.
abbrev pub RepliesTellWeights : Type 0
RepliesTellWeights = (t : History) → IsLawfulRun t → (n : ℕ) (k : NodeState) → node_at (facts_at t) n ≡ Some k → (x : Branch) → branch_at k x.live.me ≡ Some x
    → TellsItsWeight (said_in (facts_at t)) x.live.me x.live.parent (weight x.live) x.work

-- ---- what edges hold

-- What a branch holds of its children's weights: the weight in each edge was told by a Reply to the last call over it, unless the branch
-- waits for that Reply or can only roll back. Of a child that it asked to prepare it is so in any case.
pub record HoldsWeights (said : List Post) (goes_on : Type 0) (me : BranchId) (edges : List Edge) (w : Work) : Type 0 where
  pub held : goes_on → (i : ℕ) (e : Edge) → numbered edges i ≡ Some e → WaitsFor i w.going ⊎ ToldWeight said e.peer (call_at w i) e.weight
  pub asked : (i : ℕ) (e : Edge) → numbered edges i ≡ Some e → was_asked said me e.peer ≡ true → ToldWeight said e.peer (call_at w i) e.weight

-- In every lawful run each live branch does.
abbrev pub EdgesHoldWeights : Type 0
EdgesHoldWeights = (t : History) → IsLawfulRun t → (n : ℕ) (k : NodeState) → node_at (facts_at t) n ≡ Some k → (x : Branch) → branch_at k x.live.me ≡ Some x
    → HoldsWeights (said_in (facts_at t)) (NeedsNoRollback k x.live) x.live.me x.live.edges x.work

-- So in every lawful run each child that voted off the walk has a weight at its parent.
abbrev pub VotersHaveWeights : Type 0
VotersHaveWeights = (t : History) → IsLawfulRun t → VotersWeigh t
