-- What is due in the run of a script is there: the nodes that it names, the message that is to come, and the node that is to
-- take a turn is up.
use Rattle.std.specs.Prelude.{◌≡◌, ℕ, Bool, true, if◌then◌else◌, length, Some}
use Rattle.std.specs.List.{AllByRecursion}
use Rattle.node_rules.specs.NodeState.{NodeState}
use Rattle.net_bag.specs.Net.{may_deliver, may_repeat, packet_at}
use Rattle.run_rules.specs.Data.{Packet}
use Rattle.run_rules.specs.Facts.{Facts, node_at}
use Rattle.run_rules.specs.Lawful.{History, IsNode, IsLawfulRun, facts_at}
use Rattle.run_rules.specs.Due.{Due, Falls, Pends, Gives_up, Delivers, Recovers, Cuts, Joins, Stops, Starts, due_of}
use Rattle.run_rules.specs.Reported.{past_of}
use Rattle.run_rules.specs.Scripts.{IsTheRunOf}

-- what is due after a run so far
abbrev pub due_in : History → Due
due_in t = due_of t.commands (past_of t)

-- ---- messages

-- whether a message can come, or a copy of it
abbrev pub may_come : Facts → ℕ → Bool → Bool
may_come f k again = if again then may_repeat f.net k else may_deliver f.net k

-- The message that is due is there, and can come.
abbrev pub DueMessagesAreThere : Type 0
DueMessagesAreThere = (t : History) (k : ℕ) (again : Bool) → due_in t ≡ Delivers k again → may_come (past_of t).facts k again ≡ true

-- ---- nodes

-- the nodes that are named by what is due are some of this many
abbrev pub NamesNodes : ℕ → Due → Type 0
NamesNodes count (Falls n) = IsNode count n
NamesNodes count (Pends c) = IsNode count c.node
NamesNodes count (Gives_up n session) = IsNode count n
NamesNodes count (Recovers n) = IsNode count n
NamesNodes count (Cuts a b) = IsNode count a × IsNode count b
NamesNodes count (Joins a b) = IsNode count a × IsNode count b
NamesNodes count (Stops n) = IsNode count n
NamesNodes count (Starts n) = IsNode count n
NamesNodes count _ = Unit {0}

-- What is due names nodes that there are.
abbrev pub DueNodesAreThere : Type 0
DueNodesAreThere = (t : History) → IsTheRunOf t → NamesNodes (length t.places) (due_in t)

-- a node is up
abbrev pub IsUp : Facts → ℕ → Type 0
IsUp f n = (k : NodeState) × (node_at f n ≡ Some k)

-- the node of a turn that is due is up
abbrev pub FindsUp : Facts → Due → Type 0
FindsUp f (Pends c) = IsUp f c.node
FindsUp f (Gives_up n session) = IsUp f n
FindsUp f (Delivers k again) = (x : Packet) × (packet_at f.net k ≡ Some x) × IsUp f x.msg.to.node
FindsUp f (Recovers n) = IsUp f n
FindsUp f _ = Unit {0}

-- The node that is due to take a turn is up.
abbrev pub DueNodesAreUp : Type 0
DueNodesAreUp = (t : History) → IsTheRunOf t → FindsUp (past_of t).facts (due_in t)

-- ---- targets

-- In every lawful run each message that was sent goes to a node that there is.
abbrev pub MessagesGoToNodes : Type 0
MessagesGoToNodes = (t : History) → IsLawfulRun t → AllByRecursion (λ x. IsNode (length t.places) x.msg.to.node) (facts_at t).net.packets
