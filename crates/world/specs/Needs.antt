-- The laws of runs that the world stands on: the turn that is due can be taken, and what it writes and says has bytes; the message
-- that is due is there; starts and deliveries are few.
pub use Rattle.run_number_laws.specs.There.{NamesNodes, may_come}
pub use Rattle.run_number_laws.specs.Turns.{IsTurnDue}
use Rattle.std.specs.Prelude.{◌≡◌, ◌+◌, ◌<◌, ◌≤◌, ◌^◌, ℕ, Bool, true, List, length, Some}
use Rattle.std.specs.List.{AllByRecursion}
use Rattle.script_read.specs.Sound.{IsInRange}
use Rattle.node_rules.specs.Data.{Place, Input}
use Rattle.node_rules.specs.NodeState.{NodeState}
use Rattle.node_rules.specs.Turn.{turn_of}
use Rattle.node_core.specs.Able.{MayTake}
use Rattle.node_disk.specs.Starts.{last_boot}
use Rattle.node_disk.specs.OnDisk.{IsSpellable}
use Rattle.run_spell_laws.specs.ByteRuns.{AsksSpelled}
use Rattle.run_rules.specs.Facts.{Facts, node_at, place_at, records_at}
use Rattle.run_rules.specs.Lawful.{AreOfAScript, IsNode, boots}
use Rattle.run_rules.specs.Due.{Due, Delivers, due_of}
use Rattle.run_trace.specs.Recorded.{RunSoFar, IsRunOfScript, happening_limit, past_of}

-- A run of a script, which has few commands: with orders for writes and calls to come, and with statements that their printed texts
-- spell.
pub record IsOfScript (r : RunSoFar) : Type 0 where
  pub of_a_script : AreOfAScript r.places r.asked
  pub few : length r.asked < 2 ^ 18
  pub in_range : AllByRecursion IsInRange r.asked
  pub spelled : AllByRecursion AsksSpelled r.asked
  pub run : IsRunOfScript r
  pub bounded : length r.happenings ≤ happening_limit

-- what is due in a run
abbrev pub due_in : RunSoFar → Due
due_in r = due_of r.asked (past_of r)

-- A node is up and can take this, and what it then writes and says has bytes.
pub record CanTake (places : List Place) (f : Facts) (n : ℕ) (input : Input) (k : NodeState) : Type 0 where
  pub up : node_at f n ≡ Some k
  pub takes : MayTake (place_at places n) k input
  pub spellable : IsSpellable (turn_of (place_at places n) k input)

-- the turn that is due can be taken
abbrev pub DueTurnsCanBeTaken : Type 0
DueTurnsCanBeTaken = (r : RunSoFar) (n : ℕ) (input : Input) → IsOfScript r → IsTurnDue (past_of r).facts (due_in r) n input
    → (k : NodeState) × CanTake r.places (past_of r).facts n input k

-- the message that is due is there
abbrev pub DueMessagesAreThere : Type 0
DueMessagesAreThere = (r : RunSoFar) (k : ℕ) (again : Bool) → IsOfScript r → due_in r ≡ Delivers k again → may_come (past_of r).facts k again ≡ true

-- what is due names nodes that there are
abbrev pub DueNodesAreThere : Type 0
DueNodesAreThere = (r : RunSoFar) → IsOfScript r → NamesNodes (length r.places) (due_in r)

-- How often a node started, by its records: as often as their last Boot says, and seldom.
pub record StartsAreFew (f : Facts) (n : ℕ) : Type 0 where
  pub counted : last_boot (records_at f n) ≡ boots (records_at f n)
  pub few : boots (records_at f n) + 1 < 2 ^ 32

-- each node starts seldom
abbrev pub EachStartsSeldom : Type 0
EachStartsSeldom = (r : RunSoFar) (n : ℕ) → IsOfScript r → IsNode (length r.places) n → StartsAreFew (past_of r).facts n

-- the deliveries that are counted for the command that runs are no more than the happenings of a trace
abbrev pub DeliveriesAreFew : Type 0
DeliveriesAreFew = (r : RunSoFar) → IsOfScript r → (past_of r).run_report.deliveries ≤ happening_limit
