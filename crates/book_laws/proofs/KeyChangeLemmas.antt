-- The row that changes leave at a key hangs on those of its changes alone that are at the key.
use Rattle.std.proofs.Common.{◌≡◌, ℕ, ◌&&◌, Bool, true, false, if◌then◌else◌, cond, List, [], ◌∷◌, filter, Option, refl, ap, ◌∙◌}
use Rattle.node_rules.specs.Data.{Value, Row, Change, Keyed}
use Rattle.node_rules.specs.Rows.{same_value, get, set_to, change_one, apply, is_change_of}
use Rattle.node_rules.specs.Words.{same_text}
use Rattle.stmt_view_laws.proofs.AgreeLemmas.{get_set}

-- the row that changes at one key leave there
abbrev pub last_row : Option Row → List Change → Option Row
last_row row [] = row
last_row row (c ∷ cs) = last_row c.after cs

module _ (table : List ℕ) (key : Value) where
  got_one : (rows : List Keyed) (c : Change) → get (change_one table rows c) key ≡ cond (is_change_of table key c) c.after (get rows key)
  got_one rows c = by (same_text c.table table) (get_set c.key key c.after rows)
    where
      by : (here : Bool) → get (set_to rows c.key c.after) key ≡ cond (same_value c.key key) c.after (get rows key)
          → get (if here then set_to rows c.key c.after else rows) key ≡ cond (here && same_value c.key key) c.after (get rows key)
      by true set = set
      by false set = refl

  pub got_applied : (rows : List Keyed) (cs : List Change) → get (apply table rows cs) key ≡ last_row (get rows key) (filter (is_change_of table key) cs)
  got_applied rows [] = refl
  got_applied rows (c ∷ cs) = got_applied (change_one table rows c) cs ∙ (ap (λ row. last_row row (filter (is_change_of table key) cs)) (got_one rows c) ∙ by (is_change_of table key c))
    where
      by : (at : Bool) → last_row (cond at c.after (get rows key)) (filter (is_change_of table key) cs) ≡ last_row (get rows key) (cond at (c ∷ filter (is_change_of table key) cs) (filter (is_change_of table key) cs))
      by true = refl
      by false = refl
