-- Of whom a branch learns its decision, and when it forgets: by its row, toward told it the decision; and toward has forgotten,
-- or it is the site and all beyond it acknowledged.
use Rattle.std.specs.Prelude.{◌≡◌, ◌⊎◌, IfSome, List, Some, None}
use Rattle.std.specs.List.{AllByRecursion}
use Rattle.commit_forget.specs.Beyond.{beyond}
use Rattle.agreement.specs.Events.{Event, Send_commit, Send_rollback, Send_ack, Send_forgotten, Has}
use Rattle.node_rules.specs.Data.{BranchId, Decision, KeptRow, RedoRecord}
use Rattle.node_rules.specs.Data.decisions
use Rattle.node_rules.specs.Data.records
use Rattle.node_rules.specs.Words.{item_at}
use Rattle.node_rules.specs.NodeState.{NodeState, kept_row_id}
use Rattle.run_rules.specs.Data.{Happening}
use Rattle.run_rules.specs.Data.happenings
use Rattle.run_rules.specs.Facts.{Facts, node_at}
use Rattle.run_rules.specs.Lawful.{History, IsLawfulRun}
use Rattle.run_base_laws.specs.NodeLaws.{unacked_row}
use Rattle.run_base_laws.specs.EventLaws.{AtEachEvent}

-- The row of a branch, as these rows have it but for the Acks that it holds.
pub record IsRowLike (ks : List KeptRow) (b : BranchId) (s : KeptRow) : Type 0 where
  pub row : KeptRow
  pub stands : item_at kept_row_id ks b ≡ Some row
  pub like : unacked_row s ≡ unacked_row row

-- a neighbour told a branch this decision
abbrev pub WasTold : List Event → BranchId → BranchId → Decision → Type 0
WasTold t from b (decisions.Commit n) = Has (Send_commit from b n) t
WasTold t from b decisions.Rollback = Has (Send_rollback from b) t

-- the neighbour that is toward told it
abbrev pub LearnsSo : List Event → List KeptRow → BranchId → Decision → Type 0
LearnsSo t ks b d = (s : KeptRow) × IsRowLike ks b s × ((x : BranchId) × (s.toward ≡ Some x) × WasTold t x b d)

-- all beyond acknowledged
abbrev pub AllAcked : List Event → KeptRow → Type 0
AllAcked t s = AllByRecursion (λ x. Has (Send_ack x.branch s.me) t) (beyond s)

-- at the site all beyond acknowledged; elsewhere toward has forgotten
abbrev pub ForgetsSo : List Event → List KeptRow → BranchId → Type 0
ForgetsSo t ks b = (s : KeptRow) × IsRowLike ks b s × (((s.toward ≡ None) × AllAcked t s) ⊎ ((x : BranchId) × (s.toward ≡ Some x) × Has (Send_forgotten x b) t))

-- what a record says of its branch goes by the branch's row
abbrev pub GoesByRow : List Event → List KeptRow → RedoRecord → Type 0
GoesByRow t ks (records.Ended b d) = LearnsSo t ks b d
GoesByRow t ks (records.Met b d mixed) = LearnsSo t ks b d
GoesByRow t ks (records.Forgot b) = ForgetsSo t ks b
GoesByRow t ks _ = Unit {0}

-- the record of a turn does, by the rows before it
abbrev pub WritesByRow : Facts → List Event → Happening → Type 0
WritesByRow f t (happenings.Turn u) = (k : NodeState) → node_at f u.node ≡ Some k → IfSome u.wrote (GoesByRow t k.stored.durable.kept)
WritesByRow f t _ = Unit {0}

-- In every lawful run decisions are learned of toward, and a branch forgets once all beyond acknowledged, or after toward.
abbrev pub TurnsGoByRows : Type 0
TurnsGoByRows = (t : History) → IsLawfulRun t → AtEachEvent WritesByRow t
