-- A stretch of a run in which nothing is lost and no node stops, of whole turns by RECO and by first deliveries; and what is
-- so of the branches of nodes that have recovered in it. (Database Administrator's Guide, "Distributed Transactions
-- Concepts": automatic resolution of in-doubt transactions, the recoverer process RECO.)
use Rattle.std.specs.Prelude.{◌≡◌, ◌≢◌, ℕ, ◌⊎◌, Bool, true, false, List, [], ◌∷◌, ◌++◌, length, Some, None}
use Rattle.std.specs.List.{AllByRecursion}
use Rattle.commit_forget.specs.Beyond.{is_neighbor}
use Rattle.net_bag.specs.Net.{lost_at_once}
use Rattle.node_rules.specs.Data.{BranchId, Kind, Live, Msg, KeptRow}
use Rattle.node_rules.specs.Data.inputs
use Rattle.node_rules.specs.Data.kinds
use Rattle.node_rules.specs.NodeState.{NodeState, live_at, kept_row_at}
use Rattle.run_rules.specs.Data.{Happening, Packet, Took, Turn}
use Rattle.run_rules.specs.Data.happenings
use Rattle.run_rules.specs.Facts.{Facts, first_facts, facts_of, node_at, taken}
use Rattle.run_base_laws.specs.FreezeLaws.{was_asked}
use Rattle.run_base_laws.specs.InTurnLaws.{said_in}
use Rattle.run_rules.specs.Lawful.{History, IsInFlight, IsNode}
use Rattle.run_base_laws.specs.NodeLaws.{EachFactFrom}
use Rattle.settle_laws.specs.OverLaws.{is_rollback}

-- ---- the stretch

-- A turn is whole, nothing that it sends is lost, and it is one of RECO or the first delivery of a message.
pub data IsCalm (f : Facts) (u : Turn) : Type 0 where
  By_reco : u.cut ≡ false → lost_at_once (taken f.net u.took) u.sent ≡ [] → u.input ≡ inputs.Reco → IsCalm f u
  By_message : (m : Msg) (j : Took) → u.cut ≡ false → lost_at_once (taken f.net u.took) u.sent ≡ [] → u.input ≡ inputs.Message m → u.took ≡ Some j → j.again ≡ false → IsCalm f u

abbrev pub CalmHere : Facts → Happening → Type 0
CalmHere f (happenings.Turn u) = IsCalm f u
CalmHere f _ = ⊥

-- The run goes hs, then mid, and then on. Before mid all nodes are up, no pair is cut, and no loss is to be told; each happening of
-- mid is a calm turn.
pub record CalmStretch (t : History) (hs mid : List Happening) : Type 0 where
  pub rest : List Happening
  pub is : hs ++ (mid ++ rest) ≡ t.trace
  pub up : (n : ℕ) → IsNode (length t.places) n → node_at (facts_of t.places t.commands (first_facts t.places) hs) n ≢ None
  pub joined : (facts_of t.places t.commands (first_facts t.places) hs).net.cuts ≡ []
  pub calm : EachFactFrom CalmHere t.places t.commands (facts_of t.places t.commands (first_facts t.places) hs) mid

-- a node recovered among these happenings
abbrev pub Recovered : List Happening → ℕ → Type 0
Recovered [] n = ⊥
Recovered (happenings.Turn u ∷ hs) n = ((u.node ≡ n) × (u.input ≡ inputs.Reco)) ⊎ Recovered hs n
Recovered (h ∷ hs) n = Recovered hs n

-- ---- what is so of branches of nodes that have recovered

-- a message of such a kind flies from a branch to another
abbrev pub Flies : (Kind → Bool) → Facts → BranchId → BranchId → Type 0
Flies test f from to = (j : ℕ) × (x : Packet) × IsInFlight f j x × (x.msg.from ≡ from) × (x.msg.to ≡ to) × (test x.msg.kind ≡ true)

abbrev pub is_ask : Kind → Bool
is_ask kinds.Ask = true
is_ask _ = false

abbrev pub is_point : Kind → Bool
is_point kinds.CommitPoint = true
is_point _ = false

-- a message that tells a decision
abbrev pub is_decision : Kind → Bool
is_decision (kinds.Committed n) = true
is_decision kinds.Rollback = true
is_decision kinds.RolledBack = true
is_decision _ = false

-- A branch is live at its node.
pub record LivesAt (f : Facts) (b : BranchId) : Type 0 where
  pub node : NodeState
  pub up : node_at f b.node ≡ Some node
  pub live : Live
  pub found : live_at node b ≡ Some live

-- Its node keeps a row of it that names another.
pub record RowNamesAnother (f : Facts) (b z : BranchId) : Type 0 where
  pub node : NodeState
  pub up : node_at f b.node ≡ Some node
  pub row : KeptRow
  pub found : kept_row_at node b ≡ Some row
  pub names : is_neighbor row z ≡ true

-- An undecided row y, with e toward: its question or its CommitPoint flies there, or a decision flies back; or e is undecided
-- too, and names y; or e is live, and the parent of y.
pub data Sought (f : Facts) (y : KeptRow) (e : BranchId) : Type 0 where
  Asks : Flies is_ask f y.me e → Sought f y e
  Points : Flies is_point f y.me e → Sought f y e
  Is_told : Flies is_decision f e y.me → Sought f y e
  In_doubt : (r : RowNamesAnother f e y.me) → r.row.decision ≡ None → Sought f y e
  Under_live : LivesAt f e → y.parent ≡ Some e → Sought f y e

-- A live branch z with parent q: its question flies there, or a rollback flies back; or q is live, or its row names z; or q never
-- asked z to prepare.
pub data Watched (f : Facts) (z q : BranchId) : Type 0 where
  Asks_up : Flies is_ask f z q → Watched f z q
  Is_rolled : Flies is_rollback f q z → Watched f z q
  Up_lives : LivesAt f q → Watched f z q
  Up_names : RowNamesAnother f q z → Watched f z q
  Unasked : was_asked (said_in f) q z ≡ false → Watched f z q

-- So it is of all undecided rows and of all live branches of these nodes.
pub record Obliged (R : ℕ → Type 0) (f : Facts) : Type 0 where
  pub rows : (n : ℕ) → R n → (k : NodeState) → node_at f n ≡ Some k → AllByRecursion (λ y. y.decision ≡ None → (e : BranchId) → y.toward ≡ Some e → Sought f y e) k.stored.durable.kept
  pub lives : (n : ℕ) → R n → (k : NodeState) → node_at f n ≡ Some k → AllByRecursion (λ l. (q : BranchId) → l.parent ≡ Some q → Watched f l.me q) k.lives
