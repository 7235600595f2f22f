-- A run on which the laws of session trees and of events are tried: a transaction of A that changes a row at A and, over a link,
-- one at B. It commits, B is sealed and learns the commit, and both forget.
use Rattle.std.specs.Prelude.{◌≡◌, ℕ, true, false, List, [], ◌∷◌, codes, pos, Option, Some, None}
use Rattle.node_rules.specs.Data.{Value, Change, Column, Table, TableRef, Stmt, BranchId, Place, Input}
use Rattle.node_rules.specs.Data.values
use Rattle.node_rules.specs.Data.terms
use Rattle.node_rules.specs.Data.stmts
use Rattle.node_rules.specs.Data.decisions
use Rattle.node_rules.specs.Data.inputs
use Rattle.node_rules.specs.NodeState.{TurnOutput}
use Rattle.net_bag.specs.Net.{packet_at}
use Rattle.agreement.specs.Events.{Event, Make, Seal, Decide, Learn, Forget, Send_vote, Send_commit, Send_ack, Send_forgotten}
use Rattle.run_rules.specs.Data.{Packet, Took, Turn, Happening}
use Rattle.run_rules.specs.Data.happenings
use Rattle.run_rules.specs.Facts.{Facts, first_facts, outcome_at, facts_after}
use Rattle.run_base_laws.specs.RunEvents.{events_from}
use Rattle.run_rules.specs.Births.{root_born, child_born, births_from}

-- ---- two nodes, and what comes to them

-- the names of the nodes, and of the link from A to B
abbrev pub names : List (List ℕ)
names = codes "A" ∷ codes "B" ∷ []

-- the node of a number
abbrev pub place_of : ℕ → Place
place_of n = record { names = names; number = n; strength = 1; links = 4; undo = 64 }

-- A and B
abbrev pub places : List Place
places = place_of 1 ∷ place_of 2 ∷ []

-- a turn that writes and says what it owes
abbrev pub owing : ℕ → Input → Option Took → Option TurnOutput → Turn
owing n input took None = record { node = n; input = input; took = took; wrote = None; sent = []; cut = false }
owing n input took (Some o) = record { node = n; input = input; took = took; wrote = o.wrote; sent = o.sent; cut = false }

-- the same of a node
abbrev pub turn_by : Facts → ℕ → Input → Option Took → Turn
turn_by f n input took = owing n input took (outcome_at places f (owing n input took None))

-- a call of session 1
abbrev pub calls : ℕ → Stmt → Facts → Turn
calls n s f = turn_by f n (inputs.Call 1 (Some s)) None

-- a message by its number
abbrev pub takes_it : ℕ → Facts → Option Packet → Turn
takes_it k f None = owing 0 inputs.Reco None None
takes_it k f (Some x) = turn_by f x.msg.to.node (inputs.Message x.msg) (Some (record { number = k; again = false }))

-- it comes to its node
abbrev pub takes : ℕ → Facts → Turn
takes k f = takes_it k f (packet_at f.net k)

-- what happens when these come one after the other
abbrev pub played : Facts → List (Facts → Turn) → List Happening
played f [] = []
played f (come ∷ comes) = happenings.Turn (come f) ∷ played (facts_after places [] f (happenings.Turn (come f))) comes

-- ---- the run

-- a column of numbers that is the key
abbrev pub column : List ℕ → Column
column name = record { name = name; text_max = None; not_null = false; key = true }

-- a table of numbers, with a key alone
abbrev pub table_of_keys : List ℕ → Table
table_of_keys name = record { name = name; columns = column (codes "K") ∷ [] }

-- the key of the rows
abbrev pub one : Value
one = values.Number (pos 1)

-- INSERT of the row 1
abbrev pub insert : TableRef → Stmt
insert ref = stmts.Insert ref None ((record { first = terms.Literal one; rest = [] }) ∷ [])

-- tables at A and B, a link, a row at B, a row at A, COMMIT, and the messages
abbrev pub coming : List (Facts → Turn)
coming =
    calls 1 (stmts.CreateTable (table_of_keys (codes "T")))
    ∷ calls 2 (stmts.CreateTable (table_of_keys (codes "T")))
    ∷ calls 1 (stmts.CreateLink (record { name = codes "B"; target = codes "B" }))
    ∷ calls 1 (insert (record { name = codes "T"; link = Some (codes "B") }))
    ∷ takes 1
    ∷ takes 2
    ∷ takes 3
    ∷ takes 4
    ∷ calls 1 (insert (record { name = codes "T"; link = None }))
    ∷ calls 1 (stmts.Commit None)
    ∷ takes 5
    ∷ takes 6
    ∷ takes 7
    ∷ takes 8
    ∷ takes 9
    ∷ []

-- what happens in this run
abbrev pub trace : List Happening
trace = played (first_facts places) coming

-- ---- what it leaves

-- the root at A, and the branch at B
abbrev pub a : BranchId
a = record { node = 1; boot = 1; session = 1; seq = 1 }

-- the branch at B
abbrev pub b : BranchId
b = record { node = 2; boot = 1; session = 65; seq = 1 }

-- the row of each
abbrev pub changes : List Change
changes = (record { table = codes "T"; key = one; after = Some (record { cells = one ∷ [] }) }) ∷ []

-- the newest first
abbrev pub events : List Event
events =
    Forget b
    ∷ Send_forgotten a b
    ∷ Forget a
    ∷ Send_ack b a
    ∷ Learn b (decisions.Commit 1) None
    ∷ Send_commit a b 1
    ∷ Decide a a 1 changes
    ∷ Send_vote b 0
    ∷ Seal b a 0 changes
    ∷ Make 2 (table_of_keys (codes "T"))
    ∷ Make 1 (table_of_keys (codes "T"))
    ∷ []

-- The branches that began are the root at A and its child at B, and the events are those of a commit.
pub record TheTriedRun : Type 0 where
  pub births : births_from places [] (first_facts places) trace [] ≡ root_born a 1 None ∷ child_born b a 1 a 2 1 None ∷ []
  pub told : events_from places [] (first_facts places) trace [] ≡ events
