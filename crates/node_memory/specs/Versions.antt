-- The commits that a node keeps, as its memory has them.
use Rattle.std.specs.Prelude.{ℕ, ◌+◌, ◌≤◌, if◌then◌else◌, List, [], ◌∷◌, ◌++◌, fold, nat_le, vec_len, vec_capacity, Option, Some, None}
use Rattle.dtx_values.specs.declared.row.Change.{Change}
use Rattle.sql_eval.specs.declared.keyed.Keyed.{Keyed}
use Rattle.sql_eval.specs.Rows.{apply}
use Rattle.row_store.specs.Tables.{TableRows}
use Rattle.read_only_tx.specs.Versions.{Version, Versions as VersionsByRules, newest, version_over, versions_from}
use Rattle.row_store.specs.declared.pending.Doubt.{Doubt}
use Rattle.node_rules.specs.Data.{RedoRecord}
use Rattle.node_rules.specs.Data.records
use Rattle.node_rules.specs.Records.{Commit as CommitByRules, commit_of, versions_by}
use Rattle.node_memory.specs.declared.versions.Versions.{Versions}
use Rattle.node_memory.specs.declared.versions.Commit.{Commit}

-- as the rules have them
abbrev pub versions_as : Versions → VersionsByRules
versions_as vs = record { kept = vs.kept.items; floor = vs.floor }

-- there is room for one more
abbrev pub HasSpare : Versions → Type 0
HasSpare vs = vec_len vs.kept + 1 ≤ vec_capacity vs.kept

-- a commit that a record makes
abbrev pub commit_as : Commit → CommitByRules
commit_as c = record { scn = c.scn; changes = c.changes.now }

-- with one commit more, where there is one
abbrev pub with_version : VersionsByRules → Option Version → VersionsByRules
with_version vs None = vs
with_version vs (Some v) = newest (vs.kept ++ v ∷ []) vs.floor

-- a commit of these changes, where there are some
abbrev pub version_changing : List TableRows → ℕ → List Change → Option Version
version_changing rows scn [] = None
version_changing rows scn (c ∷ cs) = Some (version_over rows scn (c ∷ cs))

-- the commit that a record makes, where it changes rows
abbrev pub version_made : List TableRows → Option CommitByRules → Option Version
version_made rows None = None
version_made rows (Some c) = version_changing rows c.scn c.changes

-- the commits after one more record of a start, over these rows and branches in doubt: an image says the greatest SCN of those
-- before it
abbrev pub versions_read_over : List TableRows → List Doubt → VersionsByRules → RedoRecord → VersionsByRules
versions_read_over rows doubts vs (records.Image i) = versions_from i.top
versions_read_over rows doubts vs r = versions_by rows vs (commit_of doubts r)

-- ---- rows at an SCN

-- the rows of a table before these commits
abbrev pub undone_in : List ℕ → List Keyed → List Version → List Keyed
undone_in table rows [] = rows
undone_in table rows (v ∷ vs) = apply table (undone_in table rows vs) v.before

-- with a commit, where its SCN is not above this one
abbrev pub redone_in : List ℕ → ℕ → List Keyed → Version → List Keyed
redone_in table scn rows v = if nat_le v.scn scn then apply table rows v.changes else rows

-- the rows of a table at an SCN
abbrev pub looked_back : List ℕ → List Keyed → VersionsByRules → ℕ → List Keyed
looked_back table rows vs scn = fold (redone_in table scn) (undone_in table rows vs.kept) vs.kept
