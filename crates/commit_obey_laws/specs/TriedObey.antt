-- The law of decisions that are obeyed, tried on the run of two nodes: A's commit comes to B, which is sealed, and B ends with it.
-- Where B was forced to roll back before, it notes the commit as mixed; where it was forced to commit, it notes it as not mixed.
use Rattle.std.specs.Prelude.{◌≡◌, true, false, List, [], ◌∷◌, ◌++◌, take, Some, None}
use Rattle.agreement.specs.Events.{Event, Sealed, exit, learned, forced}
use Rattle.node_rules.specs.Data.decisions
use Rattle.node_rules.specs.Data.inputs
use Rattle.node_rules.specs.Data.kinds
use Rattle.node_rules.specs.Data.records
use Rattle.node_rules.specs.Data.stmts
use Rattle.node_rules.specs.Ids.{local_text}
use Rattle.run_rules.specs.Data.{Turn}
use Rattle.run_rules.specs.Facts.{Facts, first_facts, facts_of}
use Rattle.run_rules.specs.BranchRecords.{toward_at}
use Rattle.run_base_laws.specs.RunEvents.{events_from}
use Rattle.run_branch_laws.specs.TriedRun.{places, calls, takes, played, coming, a, b}

-- the facts and the events when these have come
abbrev pub facts_when : List (Facts → Turn) → Facts
facts_when comes = facts_of places [] (first_facts places) (played (first_facts places) comes)

abbrev pub events_when : List (Facts → Turn) → List Event
events_when comes = events_from places [] (first_facts places) (played (first_facts places) comes) []

-- A has decided, and its Committed is on the way
abbrev pub decided : List (Facts → Turn)
decided = take 12 coming

-- B was forced before it comes
abbrev pub forced_back : List (Facts → Turn)
forced_back = decided ++ calls 2 (stmts.RollbackForce (local_text b)) ∷ []

abbrev pub forced_on : List (Facts → Turn)
forced_on = decided ++ calls 2 (stmts.CommitForce (local_text b) None) ∷ []

-- the turn in which it comes
abbrev pub comes_after : List (Facts → Turn) → Turn
comes_after comes = takes 7 (facts_when comes)

-- The premises of the law hold there, and B writes what the law says.
pub record TheTriedObey : Type 0 where
  pub toward : toward_at (facts_when decided) b ≡ Some a
  pub brings : (comes_after decided).input ≡ inputs.Message (record { from = a; to = b; scn = 1; kind = kinds.Committed 1 })
  pub sealed : exit (events_when decided) b ≡ Some (Sealed 0)
  pub unlearned : learned (events_when decided) b ≡ None
  pub unforced : forced (events_when decided) b ≡ None
  pub ends : (comes_after decided).wrote ≡ Some (records.Ended b (decisions.Commit 1))
  pub back : forced (events_when forced_back) b ≡ Some decisions.Rollback
  pub back_unlearned : learned (events_when forced_back) b ≡ None
  pub meets_mixed : (comes_after forced_back).wrote ≡ Some (records.Met b (decisions.Commit 1) true)
  pub on : forced (events_when forced_on) b ≡ Some (decisions.Commit 1)
  pub meets : (comes_after forced_on).wrote ≡ Some (records.Met b (decisions.Commit 1) false)
