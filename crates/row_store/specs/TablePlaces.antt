-- The rows of all tables at places.
use Rattle.std.specs.Prelude.{ℕ, Bool, false, List, map, Option, None, Some, is_some, unwrap_or}
use Rattle.std.specs.Map.{lookup}
use Rattle.std.specs.Str.{bytes_eq}
use Rattle.dtx_values.specs.declared.value.Value.{Value}
use Rattle.dtx_values.specs.declared.row.Row.{Row}
use Rattle.dtx_values.specs.declared.row.Change.{Change}
use Rattle.row_store.specs.Places.{Place, rows_at, has_place}
use Rattle.sql_eval.specs.declared.keyed.Keyed.{Keyed}
use Rattle.row_store.specs.Own.{last_at}
use Rattle.row_store.specs.Tables.{TableRows}
use Rattle.row_store.specs.Named.{tables_of}

-- a table's name, and the places of its rows
abbrev pub Shelf : Type 0
Shelf = List ℕ × List Place

-- the rows alone, under the names of their tables
abbrev pub rows_under : List Shelf → List (List ℕ × List Keyed)
rows_under shelves = map (λ s. (s.0, rows_at s.1)) shelves

-- the rows of all tables
abbrev pub rows_in : List Shelf → List TableRows
rows_in shelves = tables_of (rows_under shelves)

-- the places of the table of a name
abbrev pub places_of : List Shelf → List ℕ → Option (List Place)
places_of shelves table = lookup (bytes_eq table) shelves

-- whether one of the places is for a key
abbrev pub has_place_on : Option (List Place) → Value → Bool
has_place_on None key = false
has_place_on (Some ps) key = has_place ps key

-- whether there is a place for a key of a table
abbrev pub has_place_in : List Shelf → List ℕ → Value → Bool
has_place_in shelves table key = has_place_on (places_of shelves table) key

-- whether there is a table of a name
abbrev pub is_table_in : List Shelf → List ℕ → Bool
is_table_in shelves table = is_some (places_of shelves table)

-- the row that changes of a table leave at a place
abbrev pub left_at : List ℕ → List Change → Place → Option Row
left_at table cs p = unwrap_or (last_at cs table p.0 None) p.1

-- places with the rows that changes of their table leave there
abbrev pub left_by : List ℕ → List Change → List Place → List Place
left_by table cs ps = map (λ p. (p.0, left_at table cs p)) ps
