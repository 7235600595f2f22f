-- What the records of a node say of a branch: its seal with its neighbour on the way to the site, its decision, its commit.
use Rattle.std.specs.Prelude.{◌≡◌, ℕ, ◌⊎◌, if◌then◌else◌, List, [], ◌∷◌, Option, Some, None}
use Rattle.node_rules.specs.Data.{BranchId, RedoRecord, Sealed, Decided}
use Rattle.node_rules.specs.Data.decisions
use Rattle.node_rules.specs.Data.records
use Rattle.node_rules.specs.Words.{same}
use Rattle.redo_record.specs.Rows.{toward_of}
use Rattle.run_rules.specs.Facts.{Facts, records_at}

-- the Sealed record of a branch
abbrev pub sealed_in : List RedoRecord → BranchId → Option Sealed
sealed_in [] b = None
sealed_in (records.Sealed r ∷ rs) b = if same r.me b then Some r else sealed_in rs b
sealed_in (_ ∷ rs) b = sealed_in rs b

-- the Decided record of a branch
abbrev pub decided_in : List RedoRecord → BranchId → Option Decided
decided_in [] b = None
decided_in (records.Decided r ∷ rs) b = if same r.me b then Some r else decided_in rs b
decided_in (_ ∷ rs) b = decided_in rs b

-- a sealed branch's neighbour on the way to the site
abbrev pub toward_in : Option Sealed → Option BranchId
toward_in None = None
toward_in (Some r) = toward_of r r.toward

-- a branch's neighbour on the way to the site, by the records of its node
abbrev pub toward_at : Facts → BranchId → Option BranchId
toward_at f b = toward_in (sealed_in (records_at f b.node) b)

-- a record by which a branch decides the commit, or learns it, at this SCN
abbrev pub Commits : BranchId → ℕ → RedoRecord → Type 0
Commits b n (records.Decided r) = (r.me ≡ b) × (r.scn ≡ n)
Commits b n (records.Ended c d) = (c ≡ b) × (d ≡ decisions.Commit n)
Commits b n (records.Met c d mixed) = (c ≡ b) × (d ≡ decisions.Commit n)
Commits b n _ = ⊥

-- one of these records tells the commit of the branch at this SCN
abbrev pub CommitIsRecorded : List RedoRecord → BranchId → ℕ → Type 0
CommitIsRecorded [] b n = ⊥
CommitIsRecorded (r ∷ rs) b n = Commits b n r ⊎ CommitIsRecorded rs b n
