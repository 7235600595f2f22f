-- The newest commits of a node, and the rows that it had at an SCN. (SQL Language Reference: SET TRANSACTION READ ONLY. How
-- many commits a node keeps is dtx's own.)
use Rattle.std.specs.Prelude.{ℕ, Bool, if◌then◌else◌, List, [], ◌∷◌, ◌++◌, map, fold, length, max, nat_le, nat_lt}
use Rattle.dtx_values.specs.Limits.{version_limit}
use Rattle.dtx_values.specs.declared.row.Change.{Change}
use Rattle.row_store.specs.Own.{before}
use Rattle.row_store.specs.Tables.{TableRows, apply_all, rows_of_table}

-- A commit that changed rows: its SCN, its changes, and each of their keys with the row from before the commit.
pub record Version : Type 0 where
  pub scn : ℕ
  pub changes : List Change
  pub before : List Change

-- The newest commits of a node, oldest first, and the greatest SCN of the others.
pub record Versions : Type 0 where
  pub kept : List Version
  pub floor : ℕ

-- no commit is kept, and the greatest SCN of all is this
abbrev pub versions_from : ℕ → Versions
versions_from floor = record { kept = []; floor = floor }

-- a commit of these changes, over the rows from before it
abbrev pub version_over : List TableRows → ℕ → List Change → Version
version_over rows scn cs = record { scn = scn; changes = cs; before = map (λ c. before (rows_of_table rows c.table) c) cs }

-- without the oldest commits that are too many
abbrev pub newest : List Version → ℕ → Versions
newest [] floor = versions_from floor
newest (v ∷ vs) floor = if nat_lt version_limit (length (v ∷ vs)) then newest vs (max floor v.scn) else record { kept = v ∷ vs; floor = floor }

-- with one commit more, where it changed rows
abbrev pub with_commit : List TableRows → Versions → ℕ → List Change → Versions
with_commit rows vs scn [] = vs
with_commit rows vs scn (c ∷ cs) = newest (vs.kept ++ version_over rows scn (c ∷ cs) ∷ []) vs.floor

-- the rows before these commits, from those behind them
abbrev pub undone : List TableRows → List Version → List TableRows
undone rows [] = rows
undone rows (v ∷ vs) = apply_all (undone rows vs) v.before

-- with a commit, where its SCN is not above this one
abbrev pub redone : ℕ → List TableRows → Version → List TableRows
redone scn rows v = if nat_le v.scn scn then apply_all rows v.changes else rows

-- the rows of a node at an SCN, from its committed rows: of the kept commits those up to the SCN count
unfoldable pub rows_at : List TableRows → Versions → ℕ → List TableRows
rows_at rows vs scn = fold (redone scn) (undone rows vs.kept) vs.kept

-- whether a commit up to this SCN may be one that is not kept any more
abbrev pub is_too_old : Versions → ℕ → Bool
is_too_old vs scn = nat_lt scn vs.floor
