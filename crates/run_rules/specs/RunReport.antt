-- What is told of a run so far, and what decides what comes next beside the facts: the pending calls, HOLD, the orders on
-- disks and the points of crash-test comments that have not struck, the lines.
use Rattle.std.specs.Prelude.{ℕ, Bool, true, false, List, [], map, unwrap_or, Option, None}
use Rattle.node_rules.specs.Data.{Stmt, Place}
use Rattle.node_rules.specs.Words.{numbered, set_numbered}
use Rattle.node_rules.specs.Ids.{name_of}
use Rattle.node_rules.specs.Points.{Point}
use Rattle.run_rules.specs.Data.{Said, AnswerLine}
use Rattle.run_rules.specs.Disks.{DiskOrders, no_orders}
use Rattle.run_rules.specs.Facts.{Facts, first_facts, place_at}

-- A pending call: its command, where it was made, the statement of its next turn, and the one that follows its COMMIT.
pub record Call : Type 0 where
  pub command : ℕ
  pub node : ℕ
  pub session : ℕ
  pub statement : Option Stmt
  pub follows : Option Stmt

-- The lines of the command that runs: its own, the answers of earlier calls that it ended, the nodes that stopped.
pub record CommandOutput : Type 0 where
  pub own : List Said
  pub others : List AnswerLine
  pub stops : List Said

-- What is told of a run so far, and what comes next beside the facts.
pub record RunReport : Type 0 where
  pub acted : Bool  -- something has happened since the command that runs began
  pub deliveries : ℕ  -- those of the command that runs
  pub page : CommandOutput  -- the lines of the command that runs
  pub hold : Bool  -- HOLD is on
  pub calls : List Call  -- the pending calls, in order of command
  pub next_call : Option Call  -- the second call of a CREATE, which comes next
  pub start_to_stop : Option ℕ  -- a node that an order struck in its start, after its Boot stood
  pub orders : List DiskOrders  -- the orders on each node's disk that have not struck
  pub points : List Point  -- the points of crash-test comments
  pub lines : List AnswerLine  -- those of the commands before

-- A run so far.
pub record Past : Type 0 where
  pub facts : Facts
  pub run_report : RunReport

-- a command that has said nothing
abbrev pub no_page : CommandOutput
no_page = record { own = []; others = []; stops = [] }

-- before any command
abbrev pub empty_report : List Place → RunReport
empty_report places = record {
  acted = true;
  deliveries = 0;
  page = no_page;
  hold = false;
  calls = [];
  next_call = None;
  start_to_stop = None;
  orders = map (λ p. no_orders) places;
  points = [];
  lines = [];
}

-- before anything happened
abbrev pub start : List Place → Past
start places = record { facts = first_facts places; run_report = empty_report places }

-- a node's name
abbrev pub node_name : List Place → ℕ → List ℕ
node_name places n = name_of (place_at places n).names n

-- the orders on a node's disk
abbrev pub orders_at : RunReport → ℕ → DiskOrders
orders_at t n = unwrap_or (numbered t.orders n) no_orders

-- with other orders on a node's disk
abbrev pub with_orders : RunReport → ℕ → DiskOrders → RunReport
with_orders t n orders = record t { orders = set_numbered t.orders n orders }
