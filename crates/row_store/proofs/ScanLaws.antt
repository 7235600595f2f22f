-- The rows that changes leave at all places of a table are the table's rows with these changes.
use Rattle.std.proofs.Common.{◌≡◌, ℕ, Bool, true, false, cond, List, [], ◌∷◌, length, None, Some, Option, is_some, unwrap_or, refl, sym, ap, subst, ◌∙◌, true≢false, arith}
use Rattle.std.proofs.lemmas.Bool.{and_parts}
use Rattle.std.proofs.lemmas.Bool.Decides.{nat_tests}
use Rattle.std.specs.Prelude.{nat_lt}
use Rattle.std.specs.Cmp.Lexicographic.{bytes_decides}
use Rattle.std.specs.List.Sorted.{IsStrictlySortedBy}
use Rattle.std.specs.Map.{keys_of as place_keys}
use Rattle.std.specs.Option.{option_map}
use Rattle.dtx_values.specs.declared.value.Value.{Value}
use Rattle.dtx_values.specs.declared.row.Row.{Row}
use Rattle.dtx_values.specs.declared.row.Change.{Change}
use Rattle.dtx_values.specs.Order.{value_cmp, same_value}
use Rattle.dtx_values.proofs.ValueOrder.{equal_from_same}
use Rattle.sql_eval.specs.Rows.{apply}
use Rattle.row_store.specs.Own.{is_change_of, last_at}
use Rattle.row_store.specs.Places.{Place, rows_at, place_at, AreRising}
use Rattle.row_store.specs.TablePlaces.{Shelf, rows_in, places_of, has_place_on, has_place_in, left_at, left_by}
use Rattle.row_store.specs.AllPlaced.{ArePlaced}
use Rattle.row_store.proofs.InOrder.{apply_in_order}
use Rattle.row_store.proofs.Lookups.{get_applied}
use Rattle.row_store.specs.Tables.{rows_of_table}
use Rattle.row_store.proofs.TableLaws.{rows_there}
use Rattle.row_store.proofs.PlaceLaws.{same_rows, places_in_order, get_at}

module _ (table : List ℕ) (cs : List Change) where
  keys_left : (ps : List Place) → place_keys (left_by table cs ps) ≡ place_keys ps
  keys_left [] = refl
  keys_left (p ∷ ps) = ap (λ (ks : List Value). p.0 ∷ ks) (keys_left ps)

  rising_left : (ps : List Place) → AreRising ps → AreRising (left_by table cs ps)
  rising_left ps rise = subst (IsStrictlySortedBy value_cmp) (sym (keys_left ps)) rise

  place_if : (p : Place) (q : Value) (rest more : Option (Option Row)) (hit : Bool) → same_value p.0 q ≡ hit → rest ≡ option_map (λ row. unwrap_or (last_at cs table q None) row) more
      → cond hit (Some (left_at table cs p)) rest ≡ option_map (λ row. unwrap_or (last_at cs table q None) row) (cond hit (Some p.1) more)
  place_if p q rest more true is later = ap (λ (k : Value). Some (unwrap_or (last_at cs table k None) p.1)) (equal_from_same p.0 q is)
  place_if p q rest more false is later = later

  place_left : (ps : List Place) (q : Value) → place_at (left_by table cs ps) q ≡ option_map (λ row. unwrap_or (last_at cs table q None) row) (place_at ps q)
  place_left [] q = refl
  place_left (p ∷ ps) q = place_if p q (place_at (left_by table cs ps) q) (place_at ps q) (same_value p.0 q) refl (place_left ps q)

  got_if : (found : Option (Option Row)) (last : Option (Option Row)) → (found ≡ None → last ≡ None)
      → unwrap_or (option_map (λ row. unwrap_or last row) found) None ≡ unwrap_or last (unwrap_or found None)
  got_if None last none = sym (ap (λ l. unwrap_or l None) (none refl))
  got_if (Some row) last none = refl

  -- where each change has its place
  pub all_left : (ps : List Place) → AreRising ps → ((q : Value) → place_at ps q ≡ None → last_at cs table q None ≡ None) → rows_at (left_by table cs ps) ≡ apply table (rows_at ps) cs
  all_left ps rise none =
      same_rows (rows_at (left_by table cs ps)) (apply table (rows_at ps) cs) (places_in_order (left_by table cs ps) (rising_left ps rise)) (apply_in_order table (rows_at ps) cs (places_in_order ps rise))
      (λ q. get_at (left_by table cs ps) q (rising_left ps rise) ∙ ap (λ o. unwrap_or o None) (place_left ps q) ∙ got_if (place_at ps q) (last_at cs table q None) (none q)
      ∙ ap (unwrap_or (last_at cs table q None)) (sym (get_at ps q rise)) ∙ sym (get_applied table q (rows_at ps) cs))

-- a key that has no place has no change
module _ (sh : List Shelf) (table : List ℕ) (q : Value) (none : has_place_in sh table q ≡ false) where
  no_change : (c : Change) (at : Bool) → is_change_of table q c ≡ at → has_place_in sh c.table c.key ≡ true → at ≡ false
  no_change c false is has = refl
  no_change c true is has =
      let both = and_parts _ _ is in
      let here : has_place_in sh c.table c.key ≡ has_place_in sh table q =
      (λ i. has_place_in sh ((bytes_decides c.table table).0 both.0 i) (equal_from_same c.key q both.1 i)) in
      absurd (true≢false (sym has ∙ here ∙ none))

  pub none_last : (cs : List Change) (last : Option (Option Row)) → ArePlaced sh cs → last_at cs table q last ≡ last
  none_last [] last all = refl
  none_last (c ∷ cs) last all =
      ap (λ at. last_at cs table q (cond at (Some c.after) last)) (no_change c (is_change_of table q c) refl all.0) ∙ none_last cs last all.1

-- ---- the rows that a branch sees

module _ (sh : List Shelf) (table : List ℕ) (cs : List Change) where
  pub seen_left : (ps : List Place) → places_of sh table ≡ Some ps → AreRising ps → ArePlaced sh cs → rows_at (left_by table cs ps) ≡ apply table (rows_of_table (rows_in sh) table) cs
  seen_left ps at rise placed =
      all_left table cs ps rise (λ q none. none_last sh table q (ap (λ o. has_place_on o q) at ∙ ap is_some none) cs None placed)
      ∙ ap (λ rows. apply table rows cs) (sym (rows_there sh table ∙ ap (λ o. rows_at (unwrap_or o [])) at))

  -- a table that is not there has no row
  pub none_seen : places_of sh table ≡ None → ArePlaced sh cs → [] ≡ apply table (rows_of_table (rows_in sh) table) cs
  unfolding IsStrictlySortedBy
  none_seen at placed =
      all_left table cs [] tt (λ q none. none_last sh table q (ap (λ o. has_place_on o q) at) cs None placed)
      ∙ ap (λ rows. apply table rows cs) (sym (rows_there sh table ∙ ap (λ o. rows_at (unwrap_or o [])) at))

-- ---- no change

pub same_left : (table : List ℕ) (ps : List Place) → ps ≡ left_by table [] ps
same_left table [] = refl
same_left table (p ∷ ps) = ap (λ (all : List Place). p ∷ all) (same_left table ps)

pub no_changes : (cs : List Change) → nat_lt 0 (length cs) ≡ false → cs ≡ []
no_changes [] none = refl
no_changes (c ∷ cs) none =
    let some : nat_lt 0 (length (c ∷ cs)) ≡ true = grind (arith, nat_tests) in
    absurd (true≢false (sym some ∙ none))
