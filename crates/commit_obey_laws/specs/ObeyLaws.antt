-- A decision from toward is obeyed at once: the sealed branch to which it comes ends with it, and a forced one notes how it met it.
-- Until it ends, and longer where it has to, its node keeps its row (RowStayLaws).
-- (Database Administrator's Guide, "Distributed Transactions Concepts": commit phase; "Managing Distributed Transactions": mixed
-- outcomes.)
use Rattle.std.specs.Prelude.{◌≡◌, Bool, false, List, Option, Some, None}
use Rattle.agreement.specs.Events.{Event, learned, forced}
use Rattle.node_rules.specs.Data.{BranchId, Decision, Place, RedoRecord}
use Rattle.node_rules.specs.Data.records
use Rattle.node_rules.specs.Words.{same}
use Rattle.run_rules.specs.Book.{differ, forced_in, stands}
use Rattle.run_rules.specs.Branches.{Trail}
use Rattle.run_rules.specs.Data.{Entry, Happening}
use Rattle.run_rules.specs.Data.entries
use Rattle.run_rules.specs.Data.happenings
use Rattle.run_rules.specs.Each.{AtEach}
use Rattle.run_base_laws.specs.EventLaws.{AtEachEvent}
use Rattle.run_rules.specs.Facts.{Facts}
use Rattle.run_claims.specs.Knowledge.{HeardFromToward}
use Rattle.run_rules.specs.Lawful.{History, IsLawfulRun}
use Rattle.commit_obey_laws.specs.RowStayLaws.{SealedRowsStay}

-- the record by which a branch with this forced outcome, or none, takes a decision
abbrev pub taken_as : Option Decision → BranchId → Decision → RedoRecord
taken_as None b d = records.Ended b d
taken_as (Some o) b d = records.Met b d (differ o d)

-- a decision that came to a branch from the toward of its Sealed record, and is the first, is written, if the turn is whole
abbrev pub Obeys : Facts → List Event → Happening → Type 0
Obeys f e (happenings.Turn u) = u.cut ≡ false → (b : BranchId) (d : Decision) → HeardFromToward f b d u.input → learned e b ≡ None
    → u.wrote ≡ Some (taken_as (forced e b) b d)
Obeys f e _ = Unit {0}

-- In every lawful run it is so of each turn.
abbrev pub DecisionsAreObeyed : Type 0
DecisionsAreObeyed = (t : History) → IsLawfulRun t → AtEachEvent Obeys t

-- ---- by the book

-- whether by this entry a branch met the decision of its transaction
abbrev pub is_meeting_of : BranchId → Entry → Bool
is_meeting_of b (entries.Ended c d) = same c b
is_meeting_of b (entries.Met c d mixed) = same c b
is_meeting_of b _ = false

-- In a turn that is whole: where a decision comes to a sealed branch from its neighbour on the way to the commit point site,
-- and the book does not have it yet that the branch met one, it is written that the branch ended with it, or, where a user had
-- forced the branch, how it met it.
abbrev pub TakesDecision : List Place → Facts → Trail → Happening → Type 0
TakesDecision places f tr (happenings.Turn u) = u.cut ≡ false → (b : BranchId) (d : Decision) → HeardFromToward f b d u.input → stands (is_meeting_of b) f.book ≡ false
    → u.wrote ≡ Some (taken_as (forced_in b f.book) b d)
TakesDecision places f tr _ = Unit {0}

-- each decision that comes to a sealed branch is taken
abbrev pub DecisionsAreTaken : History → Type 0
DecisionsAreTaken t = AtEach TakesDecision t

-- A sealed branch takes the decision that comes to it, and its node keeps its row until it ends with a rollback, or forgets.
pub record Obedience (t : History) : Type 0 where
  pub taken : DecisionsAreTaken t
  pub rows : SealedRowsStay t

-- In every lawful run it is so.
abbrev pub EveryDecisionIsObeyed : Type 0
EveryDecisionIsObeyed = (t : History) → IsLawfulRun t → Obedience t
