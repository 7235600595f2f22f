-- Each commit goes from a branch to a neighbour beyond it once, and its Ack comes back once: for two branches what the one holds of
-- this and what of it is in flight between them is counted. That is CommitPoint that the neighbour may say or said, the commit that
-- the branch may tell or told, and the Ack that the neighbour may say, or said, or that is noted. (Database Administrator's Guide,
-- "Distributed Transactions Concepts": commit phase and forget phase.)
use Rattle.std.specs.Prelude.{ℕ, ◌+◌, ◌&&◌, not, Bool, true, false, List, Option, Some, None}
use Rattle.std.specs.List.{list_any}
use Rattle.commit_forget.specs.Beyond.{beyond, all_acked}
use Rattle.session_tree.specs.Live.{is_branch}
use Rattle.node_rules.specs.Data.{BranchId, Beyond, Decision, Edge, Kind, KeptRow, Live}
use Rattle.node_rules.specs.Data.kinds
use Rattle.node_rules.specs.Words.{same}
use Rattle.node_rules.specs.NodeState.{NodeState}
use Rattle.run_rules.specs.Facts.{Facts}
use Rattle.commit_length_laws.specs.Worth.{total, net_weight, nodes_weight}

-- a number, where something is so
abbrev pub when : Bool → ℕ → ℕ
when true n = n
when false n = 0

-- whether two branches are the same, as a number
abbrev pub on : BranchId → BranchId → ℕ
on a b = when (same a b) 1

-- a message between a branch z and its neighbour w
abbrev pub message_between : BranchId → BranchId → BranchId → BranchId → Kind → ℕ
message_between z w from to kinds.CommitPoint = when (same from w) (on to z)
message_between z w from to (kinds.Committed n) = when (same from z) (on to w)
message_between z w from to kinds.Ack = when (same from w) (on to z)
message_between z w from to _ = 0

-- how often a branch is a child
abbrev pub peers : BranchId → List Edge → ℕ
peers b es = total (λ e. on e.peer b) es

-- what a live branch may say: CommitPoint to a child, or the commit to one
abbrev pub edges_between : BranchId → BranchId → BranchId → List Edge → ℕ
edges_between z w me es = when (same me w) (peers z es) + when (same me z) (peers w es)

-- how often a neighbour is named as one beyond
abbrev pub named : BranchId → List Beyond → ℕ
named w bs = total (λ y. on y.branch w) bs

-- whether its Ack is noted
abbrev pub heard : BranchId → List Beyond → ℕ
heard w bs = when (list_any (λ y. same y.branch w && y.acked) bs) 1

-- what a row holds of a neighbour beyond
abbrev pub holds : BranchId → Option Decision → List Beyond → ℕ
holds w None bs = named w bs + heard w bs
holds w (Some d) bs = heard w bs

-- whether its branch may still say Ack to the one toward
abbrev pub waits : BranchId → Option Decision → Option BranchId → Bool → ℕ
waits z None toward acked = 0
waits z (Some d) toward acked = when (is_branch z toward) (when (not acked) 1)

-- both
abbrev pub kept_between : BranchId → BranchId → BranchId → Option Decision → Option BranchId → List Beyond → Bool → ℕ
kept_between z w me decision toward bs acked = when (same me z) (holds w decision bs) + when (same me w) (waits z decision toward acked)

-- of a live branch of the transaction of a root
abbrev pub live_between : BranchId → BranchId → BranchId → Live → ℕ
live_between z w g l = when (same l.root g) (edges_between z w l.me l.edges)

-- of a row of it
abbrev pub row_between : BranchId → BranchId → BranchId → KeptRow → ℕ
row_between z w g s = when (same s.root g) (kept_between z w s.me s.decision s.toward (beyond s) (all_acked s))

-- of a node
abbrev pub node_between : BranchId → BranchId → BranchId → NodeState → ℕ
node_between z w g k = total (live_between z w g) k.lives + total (row_between z w g) k.stored.durable.kept

-- all of it
abbrev pub all_between : BranchId → BranchId → BranchId → Facts → ℕ
all_between z w g f = net_weight (message_between z w) f.net + nodes_weight (node_between z w g) f
