-- Which happening may come after those before it, and which runs are lawful.
pub use Rattle.script_read.specs.Sound.{IsNode}
use Rattle.std.specs.Prelude.{◌≡◌, ℕ, ◌+◌, ◌≤◌, ◌⊎◌, Bool, true, false, List, [], ◌∷◌, length, IfSome, Option, Some, None}
use Rattle.std.specs.List.{AllByRecursion}
use Rattle.sql_statement.specs.Whole.{IsWhole}
use Rattle.node_rules.specs.Data.{RedoRecord, Msg, Place, Input}
use Rattle.node_rules.specs.Data.records
use Rattle.node_rules.specs.Data.inputs
use Rattle.node_rules.specs.Words.{numbered}
use Rattle.node_rules.specs.NodeState.{NodeState}
use Rattle.node_rules.specs.Sessions.{session_at}
use Rattle.node_rules.specs.Inputs.{IsSession}
use Rattle.node_rules.specs.Turn.{turn_of}
use Rattle.run_rules.specs.Data.{PendingCall, Packet, Took, Turn, Happening, Command}
use Rattle.run_rules.specs.Data.pending
use Rattle.run_rules.specs.Data.fates
use Rattle.run_rules.specs.Data.happenings
use Rattle.run_rules.specs.Data.commands
use Rattle.net_bag.specs.Net.{packet_at, is_blocked}
use Rattle.run_rules.specs.Facts.{Facts, first_facts, names_in, place_at, node_at, records_at, facts_after, facts_of}

-- ---- places and commands

-- A node has its number and the limits of a NODE command, and knows the names of all nodes.
pub record IsPlace (places : List Place) (n : ℕ) (p : Place) : Type 0 where
  pub number : p.number ≡ n
  pub names : p.names ≡ names_in places
  pub strength : p.strength ≤ 255
  pub links : (1 ≤ p.links) × (p.links ≤ 64)
  pub undo : (1 ≤ p.undo) × (p.undo ≤ 1024)

-- a command names nodes that there are, sessions 1 to 64, and statements that a text spells
abbrev pub IsCommandOver : ℕ → Command → Type 0
IsCommandOver count (commands.At node session statement) = IsNode count node × IsSession session × IfSome statement IsWhole
IsCommandOver count (commands.Cut a b) = IsNode count a × IsNode count b
IsCommandOver count (commands.Join a b) = IsNode count a × IsNode count b
IsCommandOver count (commands.LoseNext kind from to) = IsNode count from × IsNode count to
IsCommandOver count (commands.Stop n) = IsNode count n
IsCommandOver count (commands.Start n) = IsNode count n
IsCommandOver count (commands.Crash n write how) = IsNode count n
IsCommandOver count (commands.Fault n call) = IsNode count n
IsCommandOver count (commands.GiveUp n session) = IsNode count n × IsSession session
IsCommandOver count (commands.Reco n) = IsNode count n
IsCommandOver count (commands.ShowPending n) = IsNode count n
IsCommandOver count (commands.ShowNeighbors n) = IsNode count n
IsCommandOver count (commands.ShowDisk n) = IsNode count n
IsCommandOver count (commands.ShowUndo n) = IsNode count n
IsCommandOver count _ = Unit {0}

-- What the reader of scripts gives: at most 16 nodes, each in its place, and commands over them.
pub record AreOfAScript (places : List Place) (asked : List Command) : Type 0 where
  pub few : length places ≤ 16
  pub named : length (names_in places) ≡ length places
  pub each : (n : ℕ) (p : Place) → numbered places n ≡ Some p → IsPlace places n p
  pub proper : AllByRecursion (IsCommandOver (length places)) asked

-- A run: its places, its commands, its happenings.
pub record History : Type 0 where
  pub places : List Place
  pub commands : List Command
  pub of_a_script : AreOfAScript places commands
  pub trace : List Happening

-- ---- which happening may come

-- nothing must come before: no loss to tell, no node to stop
pub record NothingComesFirst (f : Facts) : Type 0 where
  pub told : f.losses_to_report ≡ []
  pub upright : f.node_to_stop ≡ None

-- message t.number was sent to this node, word for word; its pair is joined and its target is up; it is in flight, unless it comes again
pub record MayCome (f : Facts) (node : ℕ) (m : Msg) (t : Took) (x : Packet) : Type 0 where
  pub sent : packet_at f.net t.number ≡ Some x
  pub same : x.msg ≡ m
  pub here : m.to.node ≡ node
  pub passes : is_blocked f.net m ≡ false
  pub once : t.again ≡ false → x.fate ≡ fates.InFlight

-- a call is pending, and may be given up
abbrev pub IsPending : PendingCall → Type 0
IsPending pending.NoCall = ⊥
IsPending _ = Unit {0}

-- an input may come to a node: a call where the session has none pending, of a statement that a text spells
abbrev pub Comes : Facts → NodeState → ℕ → Input → Option Took → Type 0
Comes f k node (inputs.Message m) (Some t) = (x : Packet) × MayCome f node m t x
Comes f k node (inputs.Call session statement) None = IsSession session × ((session_at k.sessions session).call ≡ pending.NoCall) × IfSome statement IsWhole
Comes f k node (inputs.GiveUp session) None = IsSession session × IsPending (session_at k.sessions session).call
Comes f k node inputs.Reco None = Unit {0}
Comes f k node inputs.Checkpoint None = Unit {0}
Comes f k node _ _ = ⊥

-- an uncut turn writes and sends what the rules say; a cut one sends nothing, and its record stands or not
abbrev pub IsOwed : Place → NodeState → Input → Option RedoRecord → List Msg → Bool → Type 0
IsOwed place k input wrote sent false = (wrote ≡ (turn_of place k input).wrote) × (sent ≡ (turn_of place k input).sent)
IsOwed place k input wrote sent true = ((wrote ≡ None) ⊎ (wrote ≡ (turn_of place k input).wrote)) × (sent ≡ [])

-- a node that is up serves an input that may come, and writes and sends what it owes
pub record MayTurn (places : List Place) (f : Facts) (t : Turn) (k : NodeState) : Type 0 where
  pub settled : NothingComesFirst f
  pub up : node_at f t.node ≡ Some k
  pub comes : Comes f k t.node t.input t.took
  pub owed : IsOwed (place_at places t.node) k t.input t.wrote t.sent t.cut

-- a message in flight
pub record IsInFlight (f : Facts) (k : ℕ) (x : Packet) : Type 0 where
  pub sent : packet_at f.net k ≡ Some x
  pub flying : x.fate ≡ fates.InFlight

-- the next loss that is to be told, or any message in flight
abbrev pub MayBeLost : Facts → ℕ → List ℕ → Type 0
MayBeLost f k [] = (f.node_to_stop ≡ None) × (x : Packet) × IsInFlight f k x
MayBeLost f k (j ∷ js) = j ≡ k

-- the node of a cut turn stops right after it; any other node may stop at any time
abbrev pub MayStop : Facts → ℕ → Option ℕ → Type 0
MayStop f n (Some m) = (f.losses_to_report ≡ []) × (m ≡ n)
MayStop f n None = f.losses_to_report ≡ []

-- how many starts of a node its records tell
abbrev pub boots : List RedoRecord → ℕ
boots [] = 0
boots (records.Boot n ∷ rs) = 1 + boots rs
boots (_ ∷ rs) = boots rs

-- a node that is down starts, for the next time
pub record MayStart (count : ℕ) (f : Facts) (n boot : ℕ) : Type 0 where
  pub settled : NothingComesFirst f
  pub there : IsNode count n
  pub down : node_at f n ≡ None
  pub next : boot ≡ boots (records_at f n) + 1

-- this happening may come next
abbrev pub MayHappen : List Place → List Command → Facts → Happening → Type 0
MayHappen places asked f (happenings.Begun c) = NothingComesFirst f × (c ≡ f.command + 1) × (c ≤ length asked)
MayHappen places asked f (happenings.Turn t) = (k : NodeState) × MayTurn places f t k
MayHappen places asked f (happenings.Cut a b) = NothingComesFirst f × IsNode (length places) a × IsNode (length places) b
MayHappen places asked f (happenings.Join a b) = NothingComesFirst f × IsNode (length places) a × IsNode (length places) b
MayHappen places asked f (happenings.Lost k) = MayBeLost f k f.losses_to_report
MayHappen places asked f (happenings.Stopped n) = IsNode (length places) n × MayStop f n f.node_to_stop
MayHappen places asked f (happenings.Started n boot) = MayStart (length places) f n boot

-- each happening may come after those before it
unfoldable pub IsLawful : List Place → List Command → Facts → List Happening → Type 0
IsLawful places asked f [] = Unit {0}
IsLawful places asked f (h ∷ hs) = MayHappen places asked f h × IsLawful places asked (facts_after places asked f h) hs

-- the facts that a run leaves
abbrev pub facts_at : History → Facts
facts_at t = facts_of t.places t.commands (first_facts t.places) t.trace

-- each happening of a run may come where it came
abbrev pub IsLawfulRun : History → Type 0
IsLawfulRun t = IsLawful t.places t.commands (first_facts t.places) t.trace
