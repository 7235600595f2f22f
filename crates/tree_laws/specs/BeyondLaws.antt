-- What a branch that becomes sealed or decides has heard of each neighbour beyond it, by the forest that the Prepares of the whole run
-- make, and whom its record names.
use Rattle.std.specs.Prelude.{◌≡◌, ℕ, ◌<◌, ◌≤◌, ◌⊎◌, IfSome, true, List, map, Option, Some}
use Rattle.std.specs.List.{list_any}
use Rattle.node_rules.specs.Data.{BranchId, RedoRecord}
use Rattle.node_rules.specs.Data.records
use Rattle.node_rules.specs.Words.{same}
use Rattle.agreement.specs.Events.{Forest, Event, Beyond, Quiet, Send_vote, exit, Has}
use Rattle.run_rules.specs.Data.{Happening}
use Rattle.run_rules.specs.Data.happenings
use Rattle.run_rules.specs.Facts.{Facts}
use Rattle.run_rules.specs.Lawful.{History, IsLawfulRun}
use Rattle.run_base_laws.specs.EventLaws.{AtEachEvent}
use Rattle.tree_laws.specs.Forests.{forest_of}

-- it is the parent, or one of these children
abbrev pub IsNamed : Option BranchId → List BranchId → BranchId → Type 0
IsNamed parent kids x = (parent ≡ Some x) ⊎ (list_any (λ c. same c x) kids ≡ true)

-- Each neighbour beyond a branch is named, and voted with a clock of at most n; or it is gone without changes.
abbrev pub BeyondHeard : Forest → List Event → BranchId → Option BranchId → List BranchId → ℕ → Type 0
BeyondHeard p t me parent kids n = (x : BranchId) → Beyond p x me → (IsNamed parent kids x × ((k : ℕ) × Has (Send_vote x k) t × (k ≤ n))) ⊎ (exit t x ≡ Some Quiet)

-- A seal has heard so with its SCN, and a decision with one below.
abbrev pub RecordHeard : Forest → List Event → RedoRecord → Type 0
RecordHeard p t (records.Sealed r) = BeyondHeard p t r.me r.parent (map (λ c. c.branch) r.children) r.scn
RecordHeard p t (records.Decided r) = (n : ℕ) × (n < r.scn) × BeyondHeard p t r.me r.parent (map (λ c. c.branch) r.children) n
RecordHeard p t _ = Unit {0}

-- the record of a turn is so, by the events before it
abbrev pub WritesHeard : Forest → Facts → List Event → Happening → Type 0
WritesHeard p f t (happenings.Turn u) = IfSome u.wrote (RecordHeard p t)
WritesHeard p f t _ = Unit {0}

-- In every lawful run each seal and each decision has heard so.
abbrev pub RecordsHeard : Type 0
RecordsHeard = (t : History) → IsLawfulRun t → AtEachEvent (WritesHeard (forest_of t)) t
