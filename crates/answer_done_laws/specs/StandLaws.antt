-- The records of statements on the disks: what a client was told is done stays there to the end of the run, and each such
-- record on a disk comes from a turn that its call came to. (Database Administrator's Guide, "Managing Distributed
-- Transactions".)
use Rattle.std.specs.Prelude.{◌≡◌, ℕ, ◌⊎◌, true, List, [], ◌∷◌, Some}
use Rattle.std.specs.List.{AllByRecursion}
use Rattle.node_rules.specs.Data.{Stmt, RedoRecord, Place}
use Rattle.node_rules.specs.Inputs.{IsCall}
use Rattle.node_rules.specs.NodeState.{NodeState}
use Rattle.run_rules.specs.Data.{Happening, Command}
use Rattle.run_rules.specs.Data.happenings
use Rattle.run_rules.specs.Facts.{Facts, first_facts, facts_after, node_at, records_at}
use Rattle.run_rules.specs.Lawful.{History, IsLawfulRun, facts_at}
use Rattle.run_base_laws.specs.NodeLaws.{AtEachFact}
use Rattle.answer_done_laws.specs.DoneLaws.{is_done, ended_in, IsAsked}
use Rattle.run_claims.specs.Recorded.{is_recorded, is_of_statement}
use Rattle.run_claims.specs.Recorded.{IsOneOf}

-- ---- it stays

-- what a turn writes for such a call that it answers as done is among these records
abbrev pub StaysIn : (ℕ → List RedoRecord) → List Place → Facts → Happening → Type 0
StaysIn disk places f (happenings.Turn u) =
    (k : NodeState) → node_at f u.node ≡ Some k → (n : ℕ) (s : Stmt) → IsCall u.input n s → is_recorded s ≡ true → is_done n (ended_in places f u) ≡ true
    → (r : RedoRecord) × (u.wrote ≡ Some r) × IsOneOf (disk u.node) r
StaysIn disk places f _ = Unit {0}

-- in every lawful run it is on the node's disk at the end, through stops and starts
abbrev pub DoneStays : Type 0
DoneStays = (t : History) → IsLawfulRun t → AtEachFact (StaysIn (records_at (facts_at t))) t

-- ---- where it comes from

-- one of these happenings is so, by the facts before it
abbrev pub SomeFactFrom : (Facts → Happening → Type 0) → List Place → List Command → Facts → List Happening → Type 0
SomeFactFrom So places asked f [] = ⊥
SomeFactFrom So places asked f (h ∷ hs) = So f h ⊎ SomeFactFrom So places asked (facts_after places asked f h) hs

-- a turn of this node writes the record, and its call came to it
abbrev pub IsWrittenBy : List Place → ℕ → RedoRecord → Facts → Happening → Type 0
IsWrittenBy places n r f (happenings.Turn u) = (u.node ≡ n) × (u.wrote ≡ Some r) × (k : NodeState) × (node_at f u.node ≡ Some k) × IsAsked places f u k r
IsWrittenBy places n r f _ = ⊥

-- the record of a statement comes from such a turn
abbrev pub ComesFromItsCall : History → ℕ → RedoRecord → Type 0
ComesFromItsCall t n r = is_of_statement r ≡ true → SomeFactFrom (IsWrittenBy t.places n r) t.places t.commands (first_facts t.places) t.trace

-- in every lawful run each on each disk does
abbrev pub RecordsComeFromCalls : Type 0
RecordsComeFromCalls = (t : History) → IsLawfulRun t → (n : ℕ) → AllByRecursion (ComesFromItsCall t n) (records_at (facts_at t) n)
