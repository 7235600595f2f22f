-- How the last change at a key is found: by an index that has its place among the changes, where each change has the place of
-- the one before it at its key.
use Rattle.std.specs.Prelude.{◌≡◌, ℕ, ◌+◌, ◌&&◌, Bool, if◌then◌else◌, List, [], ◌∷◌, ◌++◌, slice_get, Option, Some, None}
use Rattle.std.specs.Cow.{cow_value}
use Rattle.std.specs.Map.{lookup}
use Rattle.std.specs.Option.{option_map}
use Rattle.dtx_values.specs.declared.value.Value.{Value}
use Rattle.dtx_values.specs.declared.row.Row.{Row}
use Rattle.dtx_values.specs.declared.row.Change.{Change}
use Rattle.sql_check.specs.Words.{same_text}
use Rattle.dtx_values.specs.Order.{same_value}
use Rattle.row_store.specs.declared.changed_key.ChangedKey.{ChangedKey}
use Rattle.row_store.specs.Own.{changes_length, is_change_of}

-- whether a key of the index is this one
abbrev pub is_key : List ℕ → Value → ChangedKey → Bool
is_key table key k = same_text (cow_value k.table) table && same_value (cow_value k.key) key

-- the place that the index has for a key
abbrev pub place_at : List (ChangedKey × ℕ) → List ℕ → Value → Option ℕ
place_at places table key = lookup (is_key table key) places

-- the place of the last change at a key, where the first of the changes has this place
abbrev pub last_place : ℕ → List Change → List ℕ → Value → Option ℕ → Option ℕ
last_place place [] table key last = last
last_place place (c ∷ cs) table key last = last_place (place + 1) cs table key (if is_change_of table key c then Some place else last)

-- what the change at a place leaves
abbrev pub after_at : List Change → Option ℕ → Option (Option Row)
after_at cs None = None
after_at cs (Some place) = option_map (λ c. c.after) (slice_get cs place)

-- for each of the changes behind those in front, the place of the last change at its key before it
abbrev pub earlier_from : List Change → List Change → List (Option ℕ)
earlier_from front [] = []
earlier_from front (c ∷ cs) = last_place 0 front c.table c.key None ∷ earlier_from (front ++ c ∷ []) cs

-- the index has the place of the last change at each key, each change has that of the one before it at its key, and the
-- bytes are those of the changes
pub record AreIndexed (places : List (ChangedKey × ℕ)) (earlier : List (Option ℕ)) (made : List Change) (bytes : ℕ) : Type 0 where
  pub indexed : (table : List ℕ) (key : Value) → place_at places table key ≡ last_place 0 made table key None
  pub linked : earlier ≡ earlier_from [] made
  pub counted : bytes ≡ changes_length made
