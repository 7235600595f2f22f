-- The facts of a run so far: what its happenings leave of the nodes, of the records on their disks, of the network and of
-- the book. The laws of agreement see nothing else.
use Rattle.std.specs.Prelude.{ℕ, Bool, true, false, if◌then◌else◌, List, [], ◌∷◌, ◌++◌, map, unwrap_or, is_some, option_to_list, Option, Some, None}
use Rattle.node_rules.specs.Data.{RedoRecord, Place, Input}
use Rattle.node_rules.specs.Data.records
use Rattle.node_rules.specs.Words.{numbered, set_numbered}
use Rattle.node_rules.specs.NodeState.{NodeState, TurnOutput}
use Rattle.node_rules.specs.Turn.{turn_of, start_of, made}
use Rattle.run_rules.specs.Data.{Took, Turn, Happening, Entry, Command}
use Rattle.run_rules.specs.Data.happenings
use Rattle.run_rules.specs.Data.commands
use Rattle.run_rules.specs.Entries.{entries_of}
use Rattle.net_bag.specs.Net.{Net, still, sent_on, lost_at_once, delivered, lost, cut_over, lost_by_cut, joined, stopped, lost_by_stop, started, with_order}

-- What the happenings so far leave.
pub record Facts : Type 0 where
  pub command : ℕ  -- the number of the command that runs, 0 before the first
  pub nodes : List (Option NodeState)  -- from number 1; a stopped node keeps nothing
  pub records : List (List RedoRecord)  -- what each node's disk stands for
  pub net : Net
  pub losses_to_report : List ℕ  -- the numbers of messages whose losses come next
  pub node_to_stop : Option ℕ  -- the node of a cut turn, whose stop comes next
  pub book : List Entry

-- before anything happened: every node is made
abbrev pub first_facts : List Place → Facts
first_facts places = record {
  command = 0;
  nodes = map (λ p. Some made) places;
  records = map (λ p. records.Boot 1 ∷ []) places;
  net = still;
  losses_to_report = [];
  node_to_stop = None;
  book = [];
}

-- no node
abbrev pub no_place : Place
no_place = record { names = []; number = 0; strength = 0; links = 0; undo = 0 }

-- the place of a node
abbrev pub place_at : List Place → ℕ → Place
place_at places n = unwrap_or (numbered places n) no_place

-- the names of the nodes, by the first of them
abbrev pub names_in : List Place → List (List ℕ)
names_in [] = []
names_in (p ∷ ps) = p.names

-- an option of an option
abbrev pub flat : {A : Type 0} → Option (Option A) → Option A
flat None = None
flat (Some o) = o

-- what a node keeps, where it is up
abbrev pub node_at : Facts → ℕ → Option NodeState
node_at f n = flat (numbered f.nodes n)

-- whether a node is up
abbrev pub is_up : Facts → ℕ → Bool
is_up f n = is_some (node_at f n)

-- the records that a node's disk stands for
abbrev pub records_at : Facts → ℕ → List RedoRecord
records_at f n = unwrap_or (numbered f.records n) []

-- the command of a number
abbrev pub command_at : List Command → ℕ → Command
command_at asked c = unwrap_or (numbered asked c) commands.ShowBook

-- what a node that is up does about an input
abbrev pub served : Place → Input → Option NodeState → Option TurnOutput
served p input None = None
served p input (Some k) = Some (turn_of p k input)

-- what the node of a turn does
abbrev pub outcome_at : List Place → Facts → Turn → Option TurnOutput
outcome_at places f t = served (place_at places t.node) t.input (node_at f t.node)

-- what a node keeps after a turn, unless it was cut
abbrev pub kept_after : Bool → Option TurnOutput → Option NodeState
kept_after true o = None
kept_after false None = None
kept_after false (Some o) = Some o.after

-- a message that was taken is delivered, unless it is a copy
abbrev pub taken : Net → Option Took → Net
taken net None = net
taken net (Some t) = if t.again then net else delivered net t.number

-- the node of a cut turn has to stop
abbrev pub to_stop_after : Turn → Option ℕ
to_stop_after t = if t.cut then Some t.node else None

-- a turn that came to this, unless it was cut
abbrev pub facts_turned : Facts → Turn → Option TurnOutput → Facts
facts_turned f t o = record f {
  nodes = set_numbered f.nodes t.node (kept_after t.cut o);
  records = set_numbered f.records t.node (records_at f t.node ++ option_to_list t.wrote);
  net = sent_on (taken f.net t.took) t.sent;
  losses_to_report = lost_at_once (taken f.net t.took) t.sent;
  node_to_stop = to_stop_after t;
  book = f.book ++ entries_of t.node t.wrote;
}

-- LOSE NEXT is an order to the network
abbrev pub ordered : Net → Command → Net
ordered net (commands.LoseNext kind from to) = with_order net (record { kind = kind; from = from; to = to })
ordered net _ = net

-- all but the first
abbrev pub others : List ℕ → List ℕ
others [] = []
others (k ∷ ks) = ks

-- the records of a node with one more Boot
abbrev pub with_boot : Facts → ℕ → ℕ → List RedoRecord
with_boot f n boot = records_at f n ++ records.Boot boot ∷ []

-- one happening more
unfoldable pub facts_after : List Place → List Command → Facts → Happening → Facts
facts_after places asked f (happenings.Begun c) = record f { command = c; net = ordered f.net (command_at asked c) }
facts_after places asked f (happenings.Turn t) = facts_turned f t (outcome_at places f t)
facts_after places asked f (happenings.Cut a b) = record f { net = cut_over f.net a b; losses_to_report = lost_by_cut f.net a b }
facts_after places asked f (happenings.Join a b) = record f { net = joined f.net a b }
facts_after places asked f (happenings.Lost k) = record f { net = lost f.net k; losses_to_report = others f.losses_to_report }
facts_after places asked f (happenings.Stopped n) = record f { nodes = set_numbered f.nodes n None; net = stopped f.net n; losses_to_report = lost_by_stop f.net n; node_to_stop = None }
facts_after places asked f (happenings.Started n boot) =
    record f { nodes = set_numbered f.nodes n (Some (start_of (with_boot f n boot))); records = set_numbered f.records n (with_boot f n boot); net = started f.net n }

-- what these happenings leave, oldest first
unfoldable pub facts_of : List Place → List Command → Facts → List Happening → Facts
facts_of places asked f [] = f
facts_of places asked f (h ∷ hs) = facts_of places asked (facts_after places asked f h) hs
