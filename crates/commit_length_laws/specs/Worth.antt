-- What all that is in flight and kept of a COMMIT's transaction may still lead to, in deliveries: each message, each live branch and
-- each row is worth so much, and a delivery lessens the sum. (Database Administrator's Guide, "Distributed Transactions Concepts":
-- two-phase commit mechanism.)
use Rattle.std.specs.Prelude.{ℕ, ◌+◌, ◌-◌, ◌*◌, Bool, true, false, if◌then◌else◌, List, [], ◌∷◌, length, Option, Some, None}
use Rattle.commit_forget.specs.Beyond.{all_acked}
use Rattle.session_tree.specs.Tree.{count}
use Rattle.node_rules.specs.Data.{BranchId, Decision, Kind, Live, Phase, KeptRow}
use Rattle.node_rules.specs.Data.kinds
use Rattle.node_rules.specs.Data.phases
use Rattle.node_rules.specs.Words.{same}
use Rattle.node_rules.specs.NodeState.{NodeState, live_at}
use Rattle.net_bag.specs.Net.{Net, flies}
use Rattle.run_rules.specs.Data.{Packet}
use Rattle.run_rules.specs.Facts.{Facts, node_at}

-- the sum of what a function makes of the items
abbrev pub total : {A : Type 0} → (A → ℕ) → List A → ℕ
total f [] = 0
total f (x ∷ xs) = f x + total f xs

-- ---- what is in flight and kept, with a weight for each message and each node

-- a packet, while it is in flight
abbrev pub flight : (BranchId → BranchId → Kind → ℕ) → Packet → ℕ
flight weigh x = if flies x then weigh x.msg.from x.msg.to x.msg.kind else 0

-- all packets
abbrev pub net_weight : (BranchId → BranchId → Kind → ℕ) → Net → ℕ
net_weight weigh net = total (flight weigh) net.packets

-- what a node keeps, where it is up
abbrev pub kept_weight : (NodeState → ℕ) → Option NodeState → ℕ
kept_weight held None = 0
kept_weight held (Some k) = held k

-- all nodes
abbrev pub nodes_weight : (NodeState → ℕ) → Facts → ℕ
nodes_weight held f = total (kept_weight held) f.nodes

-- ---- branches

-- a parent counts as one neighbour
abbrev pub one_of : Option BranchId → ℕ
one_of None = 0
one_of (Some q) = 1

-- the neighbours of a row
abbrev pub neighbors : KeptRow → ℕ
neighbors s = one_of s.parent + length s.children

-- a live branch with so many children, by its phase
abbrev pub phase_worth : Phase → ℕ → ℕ
phase_worth phases.Working n = 0
phase_worth (phases.Collecting b) n = 6 + 4 * n
phase_worth phases.Ready n = 5 + 4 * n

-- a row with so many neighbours, by what it knows, and whether it forgot and all beyond acknowledged
abbrev pub known_worth : Option Decision → Bool → Bool → ℕ → ℕ
known_worth None forgot acked n = 4 * n
known_worth (Some d) true acked n = 0
known_worth (Some d) false true n = n
known_worth (Some d) false false n = n + 2

-- a live branch of the transaction of a root
abbrev pub live_worth : BranchId → Live → ℕ
live_worth g l = if same l.root g then phase_worth l.phase (length l.edges) else 0

-- a row of it
abbrev pub row_worth : BranchId → KeptRow → ℕ
row_worth g s = if same s.root g then known_worth s.decision s.forgot (all_acked s) (neighbors s) else 0

-- all of them at a node
abbrev pub node_worth : BranchId → NodeState → ℕ
node_worth g k = total (live_worth g) k.lives + total (row_worth g) k.stored.durable.kept

-- ---- messages

-- a Prepare to a branch with so many below it, itself one of them, by its phase
abbrev pub full_by : Phase → ℕ → ℕ
full_by phases.Working n = 11 * n - 4
full_by (phases.Collecting b) n = 2
full_by phases.Ready n = 2

-- by what is live of it
abbrev pub full : Option Live → ℕ
full None = 2
full (Some l) = full_by l.phase (count l)

-- what is live at a node
abbrev pub live_in : Option NodeState → BranchId → Option Live
live_in None b = None
live_in (Some k) b = live_at k b

-- a Prepare to a branch as it is now
abbrev pub ask_in : Facts → BranchId → ℕ
ask_in f b = full (live_in (node_at f b.node) b)

-- a message to a branch, where it is given what a Prepare to each is worth
abbrev pub worth : (BranchId → ℕ) → BranchId → Kind → ℕ
worth ask to (kinds.Prepare below comment) = ask to
worth ask to kinds.Prepared = 1
worth ask to kinds.ReadOnly = 1
worth ask to kinds.Ready = 1
worth ask to kinds.Abort = 1
worth ask to kinds.CommitPoint = 4
worth ask to (kinds.Committed n) = 3
worth ask to kinds.Ack = 2
worth ask to kinds.Forgotten = 1
worth ask to _ = 0

-- all that is in flight
abbrev pub net_worth : (BranchId → ℕ) → Net → ℕ
net_worth ask net = net_weight (λ from to kind. worth ask to kind) net

-- and with it what is kept of the transaction of a root
abbrev pub all_worth : BranchId → Facts → ℕ
all_worth g f = net_worth (ask_in f) f.net + nodes_weight (node_worth g) f
