-- The versions of a node, tried: of 65 commits the 64 newest are kept, so nobody can look behind the first one any more; and
-- over one commit a transaction whose SCN is below it reads the row from before, and over two that from before the first.
use Rattle.std.specs.Prelude.{◌≡◌, ℕ, zero, suc, true, false, List, [], ◌∷◌, codes, pos, length, Some}
use Rattle.dtx_values.specs.declared.value.Value.TheVariants as values
use Rattle.dtx_values.specs.declared.row.Row.{Row}
use Rattle.dtx_values.specs.declared.row.Change.{Change}
use Rattle.row_store.specs.Tables.{TableRows, rows_of_table}
use Rattle.read_only_tx.specs.Versions.{Versions, versions_from, with_commit, rows_at, is_too_old}

-- the row with this number in its second column, and its key 1
abbrev pub row : ℕ → Row
row n = record { cells = values.Number (pos 1) ∷ values.Number (pos n) ∷ [] }

-- a change that leaves this row
abbrev pub change : ℕ → Change
change n = record { table = codes "T"; key = values.Number (pos 1); after = Some (row n) }

-- the table with one row
abbrev pub rows : ℕ → List TableRows
rows n = record { table = codes "T"; rows = record { key = values.Number (pos 1); row = row n } ∷ [] } ∷ []

-- the versions after so many commits, whose SCNs are 1, 2 and so on
abbrev pub after : ℕ → Versions
after zero = versions_from 0
after (suc n) = with_commit (rows n) (after n) (suc n) (change (suc n) ∷ [])

-- what is kept of 65 commits, and what is read over one and over two
pub record TheTriedVersions : Type 0 where
  pub kept : length (after 65).kept ≡ 64
  pub floor : (after 65).floor ≡ 1
  pub too_old : is_too_old (after 65) 0 ≡ true
  pub old_enough : is_too_old (after 65) 1 ≡ false
  pub before : rows_of_table (rows_at (rows 7) (with_commit (rows 3) (versions_from 2) 5 (change 7 ∷ [])) 4) (codes "T") ≡ record { key = values.Number (pos 1); row = row 3 } ∷ []
  pub first : rows_of_table (rows_at (rows 9) (with_commit (rows 7) (with_commit (rows 3) (versions_from 2) 5 (change 7 ∷ [])) 6 (change 9 ∷ [])) 4) (codes "T") ≡ record { key = values.Number (pos 1); row = row 3 } ∷ []
  pub behind : rows_of_table (rows_at (rows 7) (with_commit (rows 3) (versions_from 2) 5 (change 7 ∷ [])) 5) (codes "T") ≡ record { key = values.Number (pos 1); row = row 7 } ∷ []
