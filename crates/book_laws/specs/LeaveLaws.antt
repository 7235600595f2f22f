-- On what a live branch seals or decides, by what its node keeps of it: on CommitPoint from its parent, on Prepare or COMMIT where it
-- has no children, on the last answer of its children. (Database Administrator's Guide, "Distributed Transactions Concepts": prepare
-- phase, commit point site.)
use Rattle.std.specs.Prelude.{◌≡◌, ℕ, ◌⊎◌, true, List, [], IfSome, Option, Some, None}
use Rattle.std.specs.List.{list_any}
use Rattle.node_rules.specs.Data.{BranchId, RedoRecord, Kind, Vote, Live, Input}
use Rattle.node_rules.specs.Data.records
use Rattle.node_rules.specs.Data.kinds
use Rattle.node_rules.specs.Data.stmts
use Rattle.node_rules.specs.Inputs.{Came, IsCall}
use Rattle.node_rules.specs.NodeState.{NodeState, live_id}
use Rattle.node_rules.specs.Prepare.{answers_first, all_answered, voted}
use Rattle.node_rules.specs.Words.{item_at}
use Rattle.run_rules.specs.Data.{Happening}
use Rattle.run_rules.specs.Data.happenings
use Rattle.run_rules.specs.Facts.{Facts, node_at}
use Rattle.run_claims.specs.Knowledge.{IsPrepare}
use Rattle.run_rules.specs.Lawful.{History, IsLawfulRun}
use Rattle.run_base_laws.specs.NodeLaws.{AtEachFact}
use Rattle.run_rules.specs.Trail.{is_vote}

-- a child's first answer to Prepare, after which no child's is awaited
abbrev pub IsLastAnswer : Live → Input → Type 0
IsLastAnswer l input = (from : BranchId) × (kind : Kind) × (v : Vote) × Came input from l.me kind × (is_vote kind ≡ true) × (list_any (answers_first from) l.edges ≡ true) × (all_answered (voted l from v) ≡ true)

-- CommitPoint from the parent
abbrev pub IsPointed : Live → Input → Type 0
IsPointed l input = (from : BranchId) × Came input from l.me kinds.CommitPoint × (l.parent ≡ Some from)

-- COMMIT
abbrev pub IsCommit : Input → Type 0
IsCommit input = (session : ℕ) × (comment : Option (List ℕ)) × IsCall input session (stmts.Commit comment)

-- on what a live branch seals
abbrev pub SealsOn : Live → Input → Type 0
SealsOn l input = IsLastAnswer l input ⊎ ((IsPrepare l.me input × (l.edges ≡ [])) ⊎ IsPointed l input)

-- and decides
abbrev pub DecidesOn : Live → Input → Type 0
DecidesOn l input = IsPointed l input ⊎ ((l.parent ≡ None) × (IsLastAnswer l input ⊎ (IsCommit input × (l.edges ≡ []))))

-- a record by which a live branch leaves
abbrev pub LeavesOn : List Live → Input → RedoRecord → Type 0
LeavesOn lives input (records.Sealed r) = (l : Live) × (item_at live_id lives r.me ≡ Some l) × SealsOn l input
LeavesOn lives input (records.Decided r) = (l : Live) × (item_at live_id lives r.me ≡ Some l) × DecidesOn l input
LeavesOn lives input _ = Unit {0}

-- so does the record of a turn
abbrev pub LeavesDuly : Facts → Happening → Type 0
LeavesDuly f (happenings.Turn u) = (k : NodeState) → node_at f u.node ≡ Some k → IfSome u.wrote (LeavesOn k.lives u.input)
LeavesDuly f _ = Unit {0}

-- In every lawful run branches seal and decide so.
abbrev pub BranchesLeaveDuly : Type 0
BranchesLeaveDuly = (t : History) → IsLawfulRun t → AtEachFact (λ places f h. LeavesDuly f h) t
