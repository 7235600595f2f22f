-- What branches have changed and not committed: sets of changes, one a statement, each with the rows from before.
use Rattle.std.specs.Prelude.{List, [], ◌∷◌, map, flat_map}
use Rattle.dtx_values.specs.declared.row.Change.{Change}
use Rattle.sql_eval.specs.declared.keyed.Keyed.{Keyed}
use Rattle.row_store.specs.declared.pending.ChangeSet.{ChangeSet}
use Rattle.row_store.specs.Own.{before}
use Rattle.row_store.specs.Tables.{TableRows, rows_of_table, apply_all}

-- the changes of several statements, in order
abbrev pub changes_of : List ChangeSet → List Change
changes_of sets = flat_map (λ s. s.changes) sets

-- and their undo
abbrev pub undo_of : List ChangeSet → List Change
undo_of sets = flat_map (λ s. s.undo) sets

-- the changes of one statement, over the rows that its branch saw
abbrev pub set_over : List Keyed → List Change → ChangeSet
set_over view cs = record { changes = cs; undo = map (before view) cs }

-- the undo of changes over committed rows: each key with the row from before the change
abbrev pub undo_over : List TableRows → List Change → List Change
undo_over rows [] = []
undo_over rows (c ∷ cs) = before (rows_of_table rows c.table) c ∷ undo_over (apply_all rows (c ∷ [])) cs
