-- What the map of tables with places does, as the rows of the tables say it.
use Rattle.std.proofs.Common.{◌≡◌, ℕ, zero, suc, Bool, true, false, cond, ◌||◌, List, [], ◌∷◌, ◌++◌, get_or, position, slice_get, None, Some, Option, is_some, unwrap_or, refl, sym, ap, subst, ◌∙◌, true≢false}
use Rattle.std.specs.Cmp.Lexicographic.{nat_list_eq_equiv, bytes_decides}
use Rattle.std.specs.List.{list_any, IsDistinct}
use Rattle.std.specs.Map.{lookup, keys_of, values_of}
use Rattle.std.specs.Option.{option_map}
use Rattle.std.specs.Str.{bytes_eq}
use Rattle.indexmap.specs.IndexMap.{IndexMap, IsUnique, insert_entry}
use Rattle.indexmap.specs.Layout.{set_value_at}
use Rattle.indexmap.proofs.MapLemmas.{insert_entry-first, Found-position}
use Rattle.indexmap.proofs.CallerLemmas.{insert_entry-new, updates-with_value_at}
use Rattle.dtx_values.specs.declared.value.Value.{Value}
use Rattle.dtx_values.specs.declared.row.Change.{Change}
use Rattle.sql_eval.specs.declared.keyed.Keyed.{Keyed}
use Rattle.sql_eval.specs.Rows.{set_to}
use Rattle.sql_check.specs.Words.{same_text}
use Rattle.row_store.specs.Places.{Place, rows_at, has_place, AreRising}
use Rattle.row_store.specs.Tables.{TableRows, apply_all, rows_of_table, with_table}
use Rattle.row_store.specs.Named.{tables_of}
use Rattle.row_store.specs.TablePlaces.{Shelf, rows_under, rows_in, has_place_on, has_place_in, is_table_in}
use Rattle.row_store.proofs.Named.{rows_are, absent, changed}
use Rattle.row_store.proofs.InOrder.{are_in_order}
use Rattle.row_store.proofs.PlaceLaws.{places_in_order}
use Rattle.row_store.proofs.MadeLaws.{first_entry}

found_step : (hit : Bool) (s : Shelf) (rest : Option (List Place)) → cond hit (Some (rows_at s.1)) (option_map rows_at rest) ≡ option_map rows_at (cond hit (Some s.1) rest)
found_step true s rest = refl
found_step false s rest = refl

-- the rows of a name are those at its places
found_under : (es : List Shelf) (q : List ℕ) → lookup (bytes_eq q) (rows_under es) ≡ option_map rows_at (lookup (bytes_eq q) es)
found_under [] q = refl
found_under (e ∷ es) q = ap (cond (bytes_eq q e.0) (Some (rows_at e.1))) (found_under es q) ∙ found_step (bytes_eq q e.0) e (lookup (bytes_eq q) es)

at_places : (o : Option (List Place)) → unwrap_or (option_map rows_at o) [] ≡ rows_at (unwrap_or o [])
at_places None = refl
at_places (Some ps) = refl

pub rows_there : (es : List Shelf) (q : List ℕ) → rows_of_table (rows_in es) q ≡ rows_at (unwrap_or (lookup (bytes_eq q) es) [])
rows_there es q = sym (rows_are (rows_under es) q) ∙ ap (λ o. unwrap_or o []) (found_under es q) ∙ at_places (lookup (bytes_eq q) es)

-- where the keys of the places rise, so do those of the rows
pub rows_rise : (es : List Shelf) (q : List ℕ) (ps : List Place) → unwrap_or (lookup (bytes_eq q) es) [] ≡ ps → AreRising ps → are_in_order (rows_of_table (rows_in es) q)
rows_rise es q ps is rise = subst are_in_order (sym (rows_there es q ∙ ap rows_at is)) (places_in_order ps rise)

keys_under : (es : List Shelf) → keys_of (rows_under es) ≡ keys_of es
keys_under [] = refl
keys_under (e ∷ es) = ap (λ (ks : List (List ℕ)). e.0 ∷ ks) (keys_under es)

put_step : (hit : Bool) (e f : Shelf) (es more : List Shelf) (rest : List (List ℕ × List Keyed)) → rows_under more ≡ rest
    → rows_under (cond hit (f ∷ es) (e ∷ more)) ≡ cond hit ((f.0, rows_at f.1) ∷ rows_under es) ((e.0, rows_at e.1) ∷ rest)
put_step true e f es more rest later = refl
put_step false e f es more rest later = ap (λ all. (e.0, rows_at e.1) ∷ all) later

put_under : (es : List Shelf) (q : List ℕ) (y : List Place) → rows_under (insert_entry bytes_eq es q y) ≡ insert_entry bytes_eq (rows_under es) q (rows_at y)
put_under [] q y = refl
put_under (e ∷ es) q y = put_step (bytes_eq q e.0) e (e.0, y) es (insert_entry bytes_eq es q y) _ (put_under es q y)

none_back : (o : Option (List Place)) → option_map rows_at o ≡ None → o ≡ None
none_back None e = refl
none_back (Some ps) e = absurd cc

-- a new name has no table
pub no_table : (es : List Shelf) (q : List ℕ) → list_any (λ t. same_text t.table q) (rows_in es) ≡ false → lookup (bytes_eq q) es ≡ None
no_table es q new = none_back (lookup (bytes_eq q) es) (sym (found_under es q) ∙ absent (rows_under es) q new)

-- ---- places that change at a table

module _ {S : Type 0} (m : IndexMap (List ℕ) (List Place) S) (q : List ℕ) (i : ℕ) (x y : List Place)
    (unique : IsUnique bytes_eq m) (at : Some i ≡ position (bytes_eq q) (keys_of m.entries)) (there : slice_get (values_of m.entries) i ≡ Some x) (found : slice_get (values_of m.entries) i ≡ lookup (bytes_eq q) m.entries) where
  abbrev now : List Shelf
  now = set_value_at m.entries i y

  here : lookup (bytes_eq q) m.entries ≡ Some x
  here = sym found ∙ there

  put_is : now ≡ insert_entry bytes_eq m.entries q y
  put_is = sym (insert_entry-first bytes_eq q y m.entries i (Found-position (bytes_eq q) m.entries i (sym at)).first)

  place_updates : (name : List ℕ) → lookup (bytes_eq name) now ≡ cond (bytes_eq q name) (Some y) (lookup (bytes_eq name) m.entries)
  place_updates name =
      let d : Shelf = (q, []) in
      let first = first_entry (bytes_eq q) m.entries i d (sym at) in
      let e = get_or m.entries i d in
      (updates-with_value_at m i y nat_list_eq_equiv unique e.0 e.1 first.0).0 name
      ∙ ap (λ k. cond (bytes_eq k name) (Some y) (lookup (bytes_eq name) m.entries)) (sym ((bytes_decides q e.0).0 first.1))

  at_name : (name : List ℕ) → bytes_eq q name ≡ true → lookup (bytes_eq name) m.entries ≡ Some x
  at_name name same = subst (λ k. lookup (bytes_eq k) m.entries ≡ Some x) ((bytes_decides q name).0 same) here

  kept_if : (name : List ℕ) (key : Value) (hit : Bool) → bytes_eq q name ≡ hit → (has_place x key ≡ true → has_place y key ≡ true)
      → has_place_on (lookup (bytes_eq name) m.entries) key ≡ true → has_place_on (cond hit (Some y) (lookup (bytes_eq name) m.entries)) key ≡ true
  kept_if name key true same more has = more (ap (λ o. has_place_on o key) (sym (at_name name same)) ∙ has)
  kept_if name key false same more has = has

  -- a place that was there is there, where all at the table are
  pub places_kept : (name : List ℕ) (key : Value) → (has_place x key ≡ true → has_place y key ≡ true) → has_place_in m.entries name key ≡ true → has_place_in now name key ≡ true
  places_kept name key more has = ap (λ o. has_place_on o key) (place_updates name) ∙ kept_if name key (bytes_eq q name) refl more has

  same_if : (name : List ℕ) (key : Value) (hit : Bool) → bytes_eq q name ≡ hit → has_place y key ≡ has_place x key
      → has_place_on (cond hit (Some y) (lookup (bytes_eq name) m.entries)) key ≡ has_place_on (lookup (bytes_eq name) m.entries) key
  same_if name key true same alike = alike ∙ sym (ap (λ o. has_place_on o key) (at_name name same))
  same_if name key false same alike = refl

  pub places_same : (name : List ℕ) (key : Value) → has_place y key ≡ has_place x key → has_place_in now name key ≡ has_place_in m.entries name key
  places_same name key alike = ap (λ o. has_place_on o key) (place_updates name) ∙ same_if name key (bytes_eq q name) refl alike

  table_if : (name : List ℕ) (hit : Bool) → bytes_eq q name ≡ hit → is_some (cond hit (Some y) (lookup (bytes_eq name) m.entries)) ≡ is_some (lookup (bytes_eq name) m.entries)
  table_if name true same = sym (ap is_some (at_name name same))
  table_if name false same = refl

  pub tables_same : (name : List ℕ) → is_table_in now name ≡ is_table_in m.entries name
  tables_same name = ap is_some (place_updates name) ∙ table_if name (bytes_eq q name) refl

  -- the key has a place at the table
  pub place_made : (key : Value) → has_place y key ≡ true → has_place_in now q key ≡ true
  place_made key has = ap (λ o. has_place_on o key) (place_updates q ∙ ap (λ b. cond b (Some y) (lookup (bytes_eq q) m.entries)) ((bytes_decides q q).1 refl)) ∙ has

  pub has_here : (key : Value) → has_place_in m.entries q key ≡ true → has_place x key ≡ true
  has_here key has = sym (ap (λ o. has_place_on o key) here) ∙ has

  -- the rows with a change
  pub rows_changed : (c : Change) → c.table ≡ q → rows_at y ≡ set_to (rows_at x) c.key c.after → rows_in now ≡ apply_all (rows_in m.entries) (c ∷ [])
  rows_changed c is set =
      ap rows_in put_is ∙ ap tables_of (put_under m.entries q y) ∙ ap (λ k. tables_of (insert_entry bytes_eq (rows_under m.entries) k (rows_at y))) (sym is)
      ∙ changed c (rows_under m.entries) (rows_at x) (rows_at y) (subst (IsDistinct bytes_eq) (sym (keys_under m.entries)) unique)
      (ap (λ k. lookup (bytes_eq k) (rows_under m.entries)) is ∙ found_under m.entries q ∙ ap (option_map rows_at) here) set

-- rows that stay as they are
pub rows_stay : (es : List Shelf) (i : ℕ) (x y : List Place) → slice_get (values_of es) i ≡ Some x → rows_at y ≡ rows_at x → rows_in (set_value_at es i y) ≡ rows_in es
rows_stay [] i x y there same = refl
rows_stay (e ∷ es) zero x y there same =
    ap (λ rows. record { table = e.0; rows = rows } ∷ rows_in es) (same ∙ ap rows_at (sym (ap (λ o. unwrap_or o []) there)))
rows_stay (e ∷ es) (suc i) x y there same = ap (λ (ts : List TableRows). record { table = e.0; rows = rows_at e.1 } ∷ ts) (rows_stay es i x y there same)

-- ---- a table more

added_if : (es : List Shelf) (q name : List ℕ) (key : Value) (hit : Bool) → bytes_eq q name ≡ hit → lookup (bytes_eq q) es ≡ None
    → has_place_on (lookup (bytes_eq name) es) key ≡ true → has_place_on (cond hit (Some []) (lookup (bytes_eq name) es)) key ≡ true
added_if es q name key true same none has =
    absurd (true≢false (sym has ∙ ap (λ o. has_place_on o key) (subst (λ k. lookup (bytes_eq k) es ≡ None) ((bytes_decides q name).0 same) none)))
added_if es q name key false same none has = has

pub places_added : (es fs : List Shelf) (q name : List ℕ) (key : Value) → lookup (bytes_eq name) fs ≡ cond (bytes_eq q name) (Some []) (lookup (bytes_eq name) es) → lookup (bytes_eq q) es ≡ None
    → has_place_in es name key ≡ true → has_place_in fs name key ≡ true
places_added es fs q name key put none has = ap (λ o. has_place_on o key) put ∙ added_if es q name key (bytes_eq q name) refl none has

-- with the rows of a table more, and none yet
pub rows_added : {S : Type 0} (m : IndexMap (List ℕ) (List Place) S) (q : List ℕ) → lookup (bytes_eq q) m.entries ≡ None → rows_in (insert_entry bytes_eq m.entries q []) ≡ with_table (rows_in m.entries) q
rows_added m q none = ap rows_in (insert_entry-new bytes_eq m q [] none) ∙ rows_push m.entries q
  where
    rows_push : (es : List Shelf) (p : List ℕ) → rows_in (es ++ (p, []) ∷ []) ≡ with_table (rows_in es) p
    rows_push [] p = refl
    rows_push (e ∷ es) p = ap (λ (ts : List TableRows). record { table = e.0; rows = rows_at e.1 } ∷ ts) (rows_push es p)

pub or_true : (a b : Bool) → b ≡ true → (a || b) ≡ true
or_true true b h = refl
or_true false b h = h

nowhere_if : (o : Option (List Place)) (key : Value) {P : Type 0} → false ≡ is_some o → has_place_on o key ≡ true → P
nowhere_if None key none has = absurd (true≢false (sym has))
nowhere_if (Some ps) key none has = absurd (true≢false (sym none))

-- no table has the name, and so no place
pub nowhere : (es : List Shelf) (q : List ℕ) (key : Value) {P : Type 0} → false ≡ is_some (lookup (bytes_eq q) es) → has_place_in es q key ≡ true → P
nowhere es q key none has = nowhere_if (lookup (bytes_eq q) es) key none has

table_step : (hit : Bool) (s : Shelf) (rest : Option (List Place)) (any : Bool) → is_some rest ≡ any → is_some (cond hit (Some s.1) rest) ≡ (hit || any)
table_step true s rest any later = refl
table_step false s rest any later = later

-- a table is there where one has its name
pub table_is : (es : List Shelf) (name : List ℕ) → is_table_in es name ≡ list_any (λ t. same_text t.table name) (rows_in es)
table_is [] name = refl
table_is (e ∷ es) name =
    table_step (bytes_eq name e.0) e (lookup (bytes_eq name) es) (list_any (λ t. same_text t.table name) (rows_in es)) (table_is es name)
    ∙ ap (λ b. b || list_any (λ t. same_text t.table name) (rows_in es)) (nat_list_eq_equiv.symm name e.0)
