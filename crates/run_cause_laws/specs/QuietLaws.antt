-- On what a branch answers ReadOnly: neither it nor a branch below it has changes. (Database Administrator's Guide,
-- "Distributed Transactions Concepts": prepare phase, read-only response.)
use Rattle.std.specs.Prelude.{List}
use Rattle.std.specs.List.{AllByRecursion}
use Rattle.node_rules.specs.Data.{BranchId, Kind, Place}
use Rattle.node_rules.specs.Data.kinds
use Rattle.run_rules.specs.Branches.{Trail}
use Rattle.run_rules.specs.Data.{Happening}
use Rattle.run_rules.specs.Data.happenings
use Rattle.run_rules.specs.Each.{AtEach}
use Rattle.run_rules.specs.Facts.{Facts}
use Rattle.run_claims.specs.Knowledge.{HasNoChanges}
use Rattle.run_rules.specs.Lawful.{History, IsLawfulRun}

-- what ReadOnly needs of its sender
abbrev pub MaySayReadOnly : Trail → BranchId → Kind → Type 0
MaySayReadOnly tr b kinds.ReadOnly = HasNoChanges tr b
MaySayReadOnly tr b _ = Unit {0}

-- each ReadOnly of a turn has it
abbrev pub SaysReadOnlyDuly : List Place → Facts → Trail → Happening → Type 0
SaysReadOnlyDuly places f tr (happenings.Turn u) = AllByRecursion (λ m. MaySayReadOnly tr m.from m.kind) u.sent
SaysReadOnlyDuly places f tr _ = Unit {0}

-- In every lawful run ReadOnly is said so.
abbrev pub ReadOnlyIsDue : Type 0
ReadOnlyIsDue = (t : History) → IsLawfulRun t → AtEach SaysReadOnlyDuly t
