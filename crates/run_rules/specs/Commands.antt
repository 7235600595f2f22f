-- What a command says and orders when it begins.
use Rattle.std.specs.Prelude.{ℕ, ◌&&◌, not, Bool, true, false, if◌then◌else◌, List, [], ◌∷◌, ◌++◌, is_some, Option, Some, None}
use Rattle.node_rules.specs.Data.{Stmt, Place}
use Rattle.node_rules.specs.Data.stmts
use Rattle.node_rules.specs.Words.{one, set_numbered}
use Rattle.node_rules.specs.Ids.{decimal}
use Rattle.node_rules.specs.Refusals.{dtx}
use Rattle.node_rules.specs.Sessions.{session_at}
use Rattle.node_rules.specs.NodeState.{NodeState}
use Rattle.run_rules.specs.Data.{Said, Command}
use Rattle.run_rules.specs.Data.notices
use Rattle.run_rules.specs.Data.said
use Rattle.run_rules.specs.Data.commands
use Rattle.net_bag.specs.Net.{may_deliver, may_repeat}
use Rattle.run_rules.specs.Shown.{shown}
use Rattle.run_rules.specs.Disks.{DiskOrders, opens_gate}
use Rattle.run_rules.specs.Calls.{call_at}
use Rattle.run_rules.specs.Lines.{fine, is_down, refuses_with, all_lines}
use Rattle.run_rules.specs.Facts.{Facts, is_up, node_at}
use Rattle.run_rules.specs.RunReport.{Call, RunReport, CommandOutput, node_name, no_page, orders_at}

-- this, or DTX-01 where the node is down
abbrev pub if_up : List Place → Facts → ℕ → List Said → List Said
if_up places f n said = if is_up f n then said else one (is_down places n)

-- ok, or DTX-11
abbrev pub if_may : Bool → ℕ → List Said
if_may may k = if may then fine else one (refuses_with (dtx 11 (one (decimal k))))

-- whether distributed recovery is enabled at a node that is up
abbrev pub is_enabled : Option NodeState → Bool
is_enabled None = false
is_enabled (Some k) = k.stored.durable.recovery

-- what SHOW prints
abbrev pub shows : List Place → Facts → Command → List Said
shows places f c = one (said.World (notices.Shown (shown places f c)))

-- whether a session has a pending call
abbrev pub has_call : RunReport → ℕ → ℕ → Bool
has_call t node session = is_some (call_at t node session)

-- what a command says when it begins
abbrev pub says_at_once : List Place → Facts → RunReport → Command → List Said
says_at_once places f t (commands.At node session statement) = if_up places f node (if has_call t node session then one (refuses_with (dtx 4 [])) else [])
says_at_once places f t (commands.Lose k) = if_may (may_deliver f.net k) k
says_at_once places f t (commands.Stop n) = if_up places f n fine
says_at_once places f t (commands.Start n) = if is_up f n then one (refuses_with (dtx 13 (one (node_name places n)))) else []
says_at_once places f t (commands.Deliver k) = if_may (may_deliver f.net k) k
says_at_once places f t (commands.Again k) = if_may (may_repeat f.net k) k
says_at_once places f t (commands.GiveUp n session) = if_up places f n (if has_call t n session then fine else one (refuses_with (dtx 14 [])))
says_at_once places f t (commands.Reco n) = if_up places f n (if is_enabled (node_at f n) then fine else one (refuses_with (dtx 12 [])))
says_at_once places f t (commands.ShowPending n) = if_up places f n (shows places f (commands.ShowPending n))
says_at_once places f t (commands.ShowNeighbors n) = if_up places f n (shows places f (commands.ShowNeighbors n))
says_at_once places f t commands.ShowBook = shows places f commands.ShowBook
says_at_once places f t commands.ShowNet = shows places f commands.ShowNet
says_at_once places f t (commands.ShowDisk n) = shows places f (commands.ShowDisk n)
says_at_once places f t (commands.ShowUndo n) = if_up places f n (shows places f (commands.ShowUndo n))
says_at_once places f t _ = fine

-- CREATE commits first, where the session has a transaction
abbrev pub commits_first : Stmt → Bool
commits_first (stmts.CreateTable t) = true
commits_first (stmts.CreateLink l) = true
commits_first (stmts.CreateSynonym y) = true
commits_first _ = false

-- whether a session has a transaction
abbrev pub has_transaction : Option NodeState → ℕ → Bool
has_transaction None n = false
has_transaction (Some k) n = is_some (session_at k.sessions n).root

-- the call of a command AT, for a CREATE in a transaction its COMMIT first
abbrev pub call_of : ℕ → ℕ → ℕ → Option Stmt → Bool → Call
call_of c node session None has = record { command = c; node = node; session = session; statement = None; follows = None }
call_of c node session (Some s) has =
    if commits_first s && has then record { command = c; node = node; session = session; statement = Some (stmts.Commit None); follows = Some s }
    else record { command = c; node = node; session = session; statement = Some s; follows = None }

-- a call at a node that is up pends, where the session has none pending
abbrev pub calls_after : Facts → RunReport → ℕ → Command → List Call
calls_after f t c (commands.At node session statement) =
    if is_up f node && not (has_call t node session) then t.calls ++ call_of c node session statement (has_transaction (node_at f node) session) ∷ [] else t.calls
calls_after f t c _ = t.calls

-- HOLD ON and HOLD OFF
abbrev pub hold_after : Bool → Command → Bool
hold_after hold (commands.Hold on) = on
hold_after hold _ = hold

-- CRASH and FAULT are orders on a node's disk; a later one of the same kind takes the place of an earlier one
abbrev pub orders_after : RunReport → Command → List DiskOrders
orders_after t (commands.Crash n write how) = set_numbered t.orders n (record (orders_at t n) { stop = Some (record { write = write; opens = opens_gate how }) })
orders_after t (commands.Fault n call) = set_numbered t.orders n (record (orders_at t n) { fault = Some call })
orders_after t _ = t.orders

-- a new page
abbrev pub page_of : List Said → CommandOutput
page_of own = record no_page { own = own }

-- a command of this number begins: the lines of the one before it are all_lines
abbrev pub begins : List Place → Facts → RunReport → ℕ → Command → RunReport
begins places f t c command = record t {
  acted = false;
  deliveries = 0;
  page = page_of (says_at_once places f t command);
  hold = hold_after t.hold command;
  calls = calls_after f t c command;
  orders = orders_after t command;
  lines = all_lines f t;
}
