-- Things that are called by different names.
use Rattle.std.specs.Prelude.{ℕ, Bool, true, ◌&&◌, not, List, [], ◌∷◌}
use Rattle.std.specs.List.{list_any}
use Rattle.std.specs.Str.{bytes_eq}
use Rattle.dtx_values.specs.declared.table.Column.{Column}

-- whether all items are called by different names
abbrev pub are_distinct : {V : Type 0} → (V → List ℕ) → List V → Bool
are_distinct called [] = true
are_distinct called (v ∷ vs) = not (list_any (λ w. bytes_eq (called w) (called v)) vs) && are_distinct called vs

-- a column is called by its name
abbrev pub column_name : Column → List ℕ
column_name c = c.name
