-- What an Exec passes on: the statement that its sender was asked, over the link that its table is behind; a BACK goes to a child. (Database
-- Administrator's Guide, "Distributed Transactions Concepts": session trees.)
use Rattle.std.specs.Prelude.{List, ◌++◌, option_to_list}
use Rattle.std.specs.List.{AllByRecursion}
use Rattle.node_rules.specs.Data.{BranchId, RedoRecord, Kind, Input, Place}
use Rattle.node_rules.specs.Data.kinds
use Rattle.run_rules.specs.Branches.{Trail}
use Rattle.run_rules.specs.Data.{Happening}
use Rattle.run_rules.specs.Data.happenings
use Rattle.run_rules.specs.Each.{AtEach}
use Rattle.run_rules.specs.Facts.{Facts, place_at, records_at}
use Rattle.run_claims.specs.Knowledge.{MaySay}
use Rattle.run_rules.specs.Lawful.{History, IsLawfulRun}
use Rattle.run_rules.specs.Trail.{trail_after}

-- what Exec needs of its turn
abbrev pub MayExec : Place → Facts → Trail → Trail → List RedoRecord → Input → BranchId → BranchId → Kind → Type 0
MayExec p f tr after rs input b to (kinds.Exec call task) = MaySay p f tr after rs input b to (kinds.Exec call task)
MayExec p f tr after rs input b to _ = Unit {0}

-- each Exec of a turn has it
abbrev pub ExecsDuly : List Place → Facts → Trail → Happening → Type 0
ExecsDuly places f tr (happenings.Turn u) =
    AllByRecursion (λ m. MayExec (place_at places u.node) f tr (trail_after places f tr (happenings.Turn u)) (records_at f u.node ++ option_to_list u.wrote) u.input m.from m.to m.kind) u.sent
ExecsDuly places f tr _ = Unit {0}

-- In every lawful run statements go on so.
abbrev pub ExecsPassOn : Type 0
ExecsPassOn = (t : History) → IsLawfulRun t → AtEach ExecsDuly t
