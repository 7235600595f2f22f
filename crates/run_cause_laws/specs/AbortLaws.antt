-- On what a branch says Abort: on Prepare where it is gone, or on a child's Abort. (Database Administrator's Guide,
-- "Distributed Transactions Concepts": prepare phase, unprepared response.)
use Rattle.std.specs.Prelude.{List, ◌++◌, option_to_list}
use Rattle.std.specs.List.{AllByRecursion}
use Rattle.node_rules.specs.Data.{BranchId, RedoRecord, Kind, Input, Place}
use Rattle.node_rules.specs.Data.kinds
use Rattle.run_rules.specs.Branches.{Trail}
use Rattle.run_rules.specs.Data.{Happening}
use Rattle.run_rules.specs.Data.happenings
use Rattle.run_rules.specs.Each.{AtEach}
use Rattle.run_rules.specs.Facts.{Facts, place_at, records_at}
use Rattle.run_claims.specs.Knowledge.{MaySay}
use Rattle.run_rules.specs.Lawful.{History, IsLawfulRun}
use Rattle.run_rules.specs.Trail.{trail_after}

-- what Abort needs of its turn
abbrev pub MayAbort : Place → Facts → Trail → Trail → List RedoRecord → Input → BranchId → BranchId → Kind → Type 0
MayAbort p f tr after rs input b to kinds.Abort = MaySay p f tr after rs input b to kinds.Abort
MayAbort p f tr after rs input b to _ = Unit {0}

-- each Abort of a turn has it
abbrev pub AbortsDuly : List Place → Facts → Trail → Happening → Type 0
AbortsDuly places f tr (happenings.Turn u) =
    AllByRecursion (λ m. MayAbort (place_at places u.node) f tr (trail_after places f tr (happenings.Turn u)) (records_at f u.node ++ option_to_list u.wrote) u.input m.from m.to m.kind) u.sent
AbortsDuly places f tr _ = Unit {0}

-- In every lawful run Abort is said so.
abbrev pub AbortsAreDue : Type 0
AbortsAreDue = (t : History) → IsLawfulRun t → AtEach AbortsDuly t
