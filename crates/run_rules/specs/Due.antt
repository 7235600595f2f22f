-- Which happening must come next, by the script: the losses and stops that are to be told, the command's own act, the
-- deliveries in order up to 4,096, the give-ups in order of command, and then the next command.
use Rattle.std.specs.Prelude.{◌≡◌, ℕ, ◌+◌, ◌==◌, ◌&&◌, not, Bool, true, false, if◌then◌else◌, List, [], ◌∷◌, ◌++◌, length, min, nat_lt, is_some, option_to_list, Option, Some, None}
use Rattle.node_rules.specs.Data.{Place, Input}
use Rattle.node_rules.specs.Data.inputs
use Rattle.node_rules.specs.NodeState.{NodeState, TurnOutput}
use Rattle.node_rules.specs.Turn.{turn_of}
use Rattle.run_rules.specs.Data.{Packet, Took, Happening, Command}
use Rattle.run_rules.specs.Data.happenings
use Rattle.run_rules.specs.Data.commands
use Rattle.net_bag.specs.Net.{first_flying, may_deliver, may_repeat, packet_at}
use Rattle.run_rules.specs.Facts.{Facts, node_at, place_at, is_up, command_at, records_at}
use Rattle.run_rules.specs.RunReport.{Past, RunReport, Call, orders_at}
use Rattle.run_rules.specs.Past.{next}
use Rattle.run_rules.specs.Commands.{is_enabled}
use Rattle.run_rules.specs.Calls.{call_at}
use Rattle.run_rules.specs.Lines.{spent}
use Rattle.run_rules.specs.Cuts.{Cut_by, By_nothing, By_strike, By_point, cut_by}
use Rattle.run_rules.specs.Disks.{Strike, struck}
use Rattle.run_rules.specs.Lawful.{boots}

-- What is due next.
pub data Due : Type 0 where
  Tells : (k : ℕ) → Due  -- a loss that is to be told
  Falls : (node : ℕ) → Due  -- the stop of a node whose turn was cut, or that was struck in its start
  Pends : (call : Call) → Due  -- a client's call
  Gives_up : (node session : ℕ) → Due  -- a call is given up
  Delivers : (k : ℕ) (again : Bool) → Due  -- a message, or a copy of one
  Recovers : (node : ℕ) → Due  -- RECO
  Cuts : (a b : ℕ) → Due  -- CUT
  Joins : (a b : ℕ) → Due  -- JOIN
  Loses : (k : ℕ) → Due  -- LOSE
  Stops : (node : ℕ) → Due  -- STOP
  Starts : (node : ℕ) → Due  -- START
  Begins : (command : ℕ) → Due  -- the next command
  Ends : Due  -- nothing: the script was run

-- this, where the test holds
abbrev pub if_due : Bool → Due → Option Due
if_due true d = Some d
if_due false d = None

-- the call of the command that runs
abbrev pub call_due : ℕ → Option Call → Option Due
call_due running None = None
call_due running (Some c) = if_due (c.command == running) (Pends c)

-- the happening that a command makes by itself
abbrev pub act_of : Facts → RunReport → Command → Option Due
act_of f t (commands.At node session statement) = call_due f.command (call_at t node session)
act_of f t (commands.Cut a b) = Some (Cuts a b)
act_of f t (commands.Join a b) = Some (Joins a b)
act_of f t (commands.Lose k) = if_due (may_deliver f.net k) (Loses k)
act_of f t (commands.Stop n) = if_due (is_up f n) (Stops n)
act_of f t (commands.Start n) = if_due (not (is_up f n)) (Starts n)
act_of f t (commands.Deliver k) = if_due (may_deliver f.net k) (Delivers k false)
act_of f t (commands.Again k) = if_due (may_repeat f.net k) (Delivers k true)
act_of f t (commands.GiveUp n session) = if_due (is_up f n && is_some (call_at t n session)) (Gives_up n session)
act_of f t (commands.Reco n) = if_due (is_enabled (node_at f n)) (Recovers n)
act_of f t _ = None

-- the next command, or the end of the script
abbrev pub next_command : List Command → Facts → Due
next_command asked f = if nat_lt f.command (length asked) then Begins (f.command + 1) else Ends

-- the first pending call is given up
abbrev pub next_give_up : List Command → Facts → List Call → Due
next_give_up asked f [] = next_command asked f
next_give_up asked f (c ∷ cs) = Gives_up c.node c.session

-- the next message in flight, or else a call is given up
abbrev pub next_delivery : List Command → Facts → RunReport → Option ℕ → Due
next_delivery asked f t None = next_give_up asked f t.calls
next_delivery asked f t (Some k) = if spent t.deliveries then next_give_up asked f t.calls else Delivers k false

-- with HOLD on only PUMP delivers, and no call is given up by itself
abbrev pub most_of : Command → ℕ
most_of (commands.Pump None) = 4096
most_of (commands.Pump (Some n)) = min n 4096
most_of _ = 0

-- the next message in flight, while PUMP delivers
abbrev pub next_pumped : List Command → Facts → RunReport → ℕ → Option ℕ → Due
next_pumped asked f t most None = next_command asked f
next_pumped asked f t most (Some k) = if nat_lt t.deliveries most then Delivers k false else next_command asked f

-- what comes by itself
abbrev pub flows : List Command → Facts → RunReport → Due
flows asked f t =
    if t.hold then next_pumped asked f t (most_of (command_at asked f.command)) (first_flying f.net) else next_delivery asked f t (first_flying f.net)

-- a command's own act comes before what comes by itself
abbrev pub acts_first : Due → Option Due → Due
acts_first later None = later
acts_first later (Some d) = d

-- and comes once
abbrev pub acts_once : List Command → Facts → RunReport → Due
acts_once asked f t = if t.acted then flows asked f t else acts_first (flows asked f t) (act_of f t (command_at asked f.command))

-- the statement of a CREATE comes right after its COMMIT
abbrev pub follows_first : Due → Option Call → Due
follows_first later None = later
follows_first later (Some c) = Pends c

-- a stop comes before that
abbrev pub falls_first : Due → Option ℕ → Due
falls_first later None = later
falls_first later (Some n) = Falls n

-- and the losses that are to be told come first of all
abbrev pub first_losses : Due → List ℕ → Due
first_losses later [] = later
first_losses later (k ∷ ks) = Tells k

-- what is due next
unfoldable pub due_of : List Command → Past → Due
due_of asked p =
    first_losses (falls_first (falls_first (follows_first (acts_once asked p.facts p.run_report) p.run_report.next_call) p.run_report.start_to_stop) p.facts.node_to_stop) p.facts.losses_to_report

-- a whole turn
abbrev pub whole_turn : ℕ → Input → Option Took → TurnOutput → Happening
whole_turn node input took o = happenings.Turn (record { node = node; input = input; took = took; wrote = o.wrote; sent = o.sent; cut = false })

-- of a cut turn the record stands or not, and nothing is sent
abbrev pub cut_turn : ℕ → Input → Option Took → TurnOutput → Bool → Happening
cut_turn node input took o stands = happenings.Turn (record { node = node; input = input; took = took; wrote = if stands then o.wrote else None; sent = []; cut = true })

-- a turn, cut or whole
abbrev pub turn_by : ℕ → Input → Option Took → TurnOutput → Cut_by → Happening
turn_by node input took o By_nothing = whole_turn node input took o
turn_by node input took o (By_strike stands) = cut_turn node input took o stands
turn_by node input took o (By_point root numbers stands) = cut_turn node input took o stands

-- a turn that came to this
abbrev pub turn_comes : RunReport → ℕ → Input → Option Took → NodeState → TurnOutput → Happening
turn_comes t node input took k o = turn_by node input took o (cut_by t node k input o)

-- a turn of a node that is up
abbrev pub turn_at : List Place → RunReport → ℕ → Input → Option Took → Option NodeState → Option Happening
turn_at places t node input took None = None
turn_at places t node input took (Some k) = Some (turn_comes t node input took k (turn_of (place_at places node) k input))

-- a start has its Boot unless an order strikes before it stands
abbrev pub start_by : Facts → ℕ → Option Strike → Happening
start_by f n None = happenings.Started n (boots (records_at f n) + 1)
start_by f n (Some s) = if s.stands then happenings.Started n (boots (records_at f n) + 1) else happenings.Stopped n

-- the turn that a message comes to
abbrev pub delivery_at : List Place → Past → ℕ → Bool → Option Packet → Option Happening
delivery_at places p k again None = None
delivery_at places p k again (Some x) = turn_at places p.run_report x.msg.to.node (inputs.Message x.msg) (Some (record { number = k; again = again })) (node_at p.facts x.msg.to.node)

-- what is due, as a happening
abbrev pub happens : List Place → Past → Due → Option Happening
happens places p (Tells k) = Some (happenings.Lost k)
happens places p (Falls n) = Some (happenings.Stopped n)
happens places p (Pends c) = turn_at places p.run_report c.node (inputs.Call c.session c.statement) None (node_at p.facts c.node)
happens places p (Gives_up n session) = turn_at places p.run_report n (inputs.GiveUp session) None (node_at p.facts n)
happens places p (Delivers k again) = delivery_at places p k again (packet_at p.facts.net k)
happens places p (Recovers n) = turn_at places p.run_report n inputs.Reco None (node_at p.facts n)
happens places p (Cuts a b) = Some (happenings.Cut a b)
happens places p (Joins a b) = Some (happenings.Join a b)
happens places p (Loses k) = Some (happenings.Lost k)
happens places p (Stops n) = Some (happenings.Stopped n)
happens places p (Starts n) = Some (start_by p.facts n (struck 3 (orders_at p.run_report n)))
happens places p (Begins c) = Some (happenings.Begun c)
happens places p Ends = None

-- the happening that comes next, where the script goes on
abbrev pub comes_next : List Place → List Command → Past → Option Happening
comes_next places asked p = happens places p (due_of asked p)

-- each happening is the one that is due, with the record, the messages and the cut that the rules give: a run is a
-- function of its places and commands, and where memory runs out a first part of it stands
unfoldable pub IsTheRun : List Place → List Command → Past → List Happening → Type 0
IsTheRun places asked p [] = Unit {0}
IsTheRun places asked p (h ∷ hs) = (comes_next places asked p ≡ Some h) × IsTheRun places asked (next places asked p h) hs

-- one happening on, where one is due
abbrev pub one_on : List Place → List Command → Past → Option Happening → Past
one_on places asked p None = p
one_on places asked p (Some h) = next places asked p h

-- what is due has happened
abbrev pub step_on : List Place → List Command → Past → Past
step_on places asked p = one_on places asked p (comes_next places asked p)

-- so many happenings on, as far as the script goes
unfoldable pub runs_on : List Place → List Command → List ℕ → Past → Past
runs_on places asked [] p = p
runs_on places asked (x ∷ xs) p = runs_on places asked xs (step_on places asked p)

-- and the happenings on the way
unfoldable pub happened : List Place → List Command → List ℕ → Past → List Happening
happened places asked [] p = []
happened places asked (x ∷ xs) p = option_to_list (comes_next places asked p) ++ happened places asked xs (step_on places asked p)
