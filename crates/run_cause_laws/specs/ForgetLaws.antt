-- When a commit point site forgets: once the Ack of each of its neighbours came. (Database Administrator's Guide,
-- "Distributed Transactions Concepts": forget phase.)
use Rattle.std.specs.Prelude.{◌≡◌, List, IfSome, Some}
use Rattle.node_rules.specs.Data.{RedoRecord, Decided, Input, Place}
use Rattle.node_rules.specs.Data.records
use Rattle.run_rules.specs.Branches.{Trail}
use Rattle.run_rules.specs.Data.{Happening}
use Rattle.run_rules.specs.Data.happenings
use Rattle.run_rules.specs.Each.{AtEach}
use Rattle.run_rules.specs.Facts.{Facts, records_at}
use Rattle.run_claims.specs.Knowledge.{MayForget}
use Rattle.run_rules.specs.BranchRecords.{decided_in}
use Rattle.run_rules.specs.Lawful.{History, IsLawfulRun}
use Rattle.run_rules.specs.Trail.{trail_after}

-- what the record by which a site forgets needs of its turn
abbrev pub SiteMayForget : Facts → Trail → Input → RedoRecord → Type 0
SiteMayForget f after input (records.Forgot b) = (r : Decided) → decided_in (records_at f b.node) b ≡ Some r → MayForget f after b input (Some r)
SiteMayForget f after input _ = Unit {0}

-- the record of a turn has it
abbrev pub ForgetsDuly : List Place → Facts → Trail → Happening → Type 0
ForgetsDuly places f tr (happenings.Turn u) = IfSome u.wrote (SiteMayForget f (trail_after places f tr (happenings.Turn u)) u.input)
ForgetsDuly places f tr _ = Unit {0}

-- In every lawful run sites forget so.
abbrev pub SitesForgetDuly : Type 0
SitesForgetDuly = (t : History) → IsLawfulRun t → AtEach ForgetsDuly t
