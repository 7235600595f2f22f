-- The rows of a table with places for rows to come: keys in order, each with a row or with none yet.
use Rattle.std.specs.Prelude.{Bool, List, [], ◌∷◌, Option, None, Some, is_some}
use Rattle.std.specs.Coded.{Coded, coded×, coded_list, coded_option}
use Rattle.std.specs.List.Sorted.{IsStrictlySortedBy}
use Rattle.std.specs.Map.{lookup, keys_of as place_keys}
use Rattle.dtx_values.specs.declared.value.Value.{Value}
use Rattle.dtx_values.specs.declared.row.Row.{Row}
use Rattle.dtx_values.specs.Order.{value_cmp, same_value, coded_value, coded_row}
use Rattle.sql_eval.specs.declared.keyed.Keyed.{Keyed}

-- a key with the row that stands there, if one does
abbrev pub Place : Type 0
Place = Value × Option Row

-- a row with its key before these, where there is one
abbrev pub before_rows : Value → Option Row → List Keyed → List Keyed
before_rows key None rows = rows
before_rows key (Some row) rows = record { key = key; row = row } ∷ rows

-- the rows that stand at these places
abbrev pub rows_at : List Place → List Keyed
rows_at [] = []
rows_at (p ∷ ps) = before_rows p.0 p.1 (rows_at ps)

-- what stands at the place of a key, where there is one
abbrev pub place_at : List Place → Value → Option (Option Row)
place_at ps key = lookup (λ k. same_value k key) ps

-- whether there is a place for a key
abbrev pub has_place : List Place → Value → Bool
has_place ps key = is_some (place_at ps key)

-- the keys of the places rise
abbrev pub AreRising : List Place → Type 0
AreRising ps = IsStrictlySortedBy value_cmp (place_keys ps)

-- places are stored one by one
abbrev pub coded_places : Coded (List Place)
coded_places = coded_list (coded× coded_value (coded_option coded_row))
