-- Rows at places: a look-up, a place made, a row put at a place. Rows in order are told by what stands at each key.
use Rattle.std.proofs.Common.{◌≡◌, Bool, true, false, cond, ◌||◌, List, [], ◌∷◌, None, Some, Option, is_some, unwrap_or, refl, sym, ap, subst, ◌∙◌, true≢false}
use Rattle.std.specs.declared.cmp.Ordering.{Ordering}
use Rattle.std.specs.declared.cmp.Ordering.TheVariants.{Less, Equal, Greater}
use Rattle.std.specs.Ordering.{is_eq, ordering_reverse}
use Rattle.std.specs.BTreeMap.{is_at}
use Rattle.std.specs.List.{AllByRecursion}
use Rattle.std.specs.List.Sorted.{IsStrictlySortedBy}
use Rattle.std.specs.Map.{lookup, keys_of as place_keys}
use Rattle.std.specs.Option.{IsSome}
use Rattle.dtx_values.specs.declared.value.Value.{Value}
use Rattle.dtx_values.specs.declared.row.Row.{Row}
use Rattle.dtx_values.specs.Order.{value_cmp, same_value}
use Rattle.dtx_values.proofs.RowLookups.{derived, derived_is, values_total, values_exact}
use Rattle.dtx_values.proofs.ValueOrder.{same_is, equal_from_same, same_from_equal}
use Rattle.sql_eval.specs.declared.keyed.Keyed.{Keyed}
use Rattle.sql_eval.specs.Rows.{get, set_to}
use Rattle.row_store.specs.Places.{Place, rows_at, before_rows, place_at, has_place, AreRising}
use Rattle.row_store.proofs.InOrder.{are_in_order, is_below, below_further, set_in_order}
use Rattle.row_store.proofs.Lookups.{get_set}

-- ---- what the map finds

found : (ps : List Place) (q : Value) → lookup (is_at (value_cmp q)) ps ≡ place_at ps q
found [] q = refl
found (p ∷ ps) q = ap (λ b. cond b (Some p.1) (lookup (is_at (value_cmp q)) ps)) (same_is p.0 q) ∙ ap (cond (same_value p.0 q) (Some p.1)) (found ps q)

pub found_is : (ps : List Place) (q : Value) → lookup (is_at (derived q)) ps ≡ place_at ps q
found_is ps q = ap (λ (R : Value → Value → Ordering). lookup (is_at (R q)) ps) derived_is ∙ found ps q

pub at_is : (k q : Value) → is_at (derived k) q ≡ same_value k q
at_is k q = ap (λ (R : Value → Value → Ordering). is_eq (R k q)) derived_is

pub rising_is : (ps : List Place) → IsStrictlySortedBy derived (place_keys ps) → AreRising ps
rising_is ps rise = subst (λ (R : Value → Value → Ordering). IsStrictlySortedBy R (place_keys ps)) derived_is rise

-- ---- rows in order

-- no row is at a key below them all
pub none_below : (k q : Value) (rows : List Keyed) → same_value k q ≡ true → is_below k rows → get rows q ≡ None
none_below k q [] same below = refl
none_below k q (r ∷ rs) same below =
    let apart : same_value r.key q ≡ false = subst (λ (v : Value). same_value r.key v ≡ false) (equal_from_same k q same) (sym (same_is r.key k) ∙ ap is_eq below.0) in
    ap (λ b. cond b (Some r.row) (get rs q)) apart ∙ none_below k q rs same below.1

here : (k : Value) (row : Row) (more : Option Row) → cond (same_value k k) (Some row) more ≡ Some row
here k row more = ap (λ b. cond b (Some row) more) (same_from_equal k k refl)

some_row : (a b : Row) → Some a ≡ Some b → a ≡ b
some_row a b e = cc

clash : (row : Row) (found : Option Row) {P : Type 0} → found ≡ Some row → found ≡ None → P
clash row found some none = absurd cc

module _ (x y : Keyed) (xs ys : List Keyed) (inx : are_in_order (x ∷ xs)) (iny : are_in_order (y ∷ ys)) (alike : (q : Value) → get (x ∷ xs) q ≡ get (y ∷ ys) q) where
  firsts : (o : Ordering) → value_cmp x.key y.key ≡ o → x.key ≡ y.key
  unfolding IsStrictlySortedBy
  firsts Equal is = values_exact x.key y.key is
  firsts Less is =
      clash x.row (get (y ∷ ys) x.key) (sym (alike x.key) ∙ here x.key x.row (get xs x.key))
      (none_below x.key x.key (y ∷ ys) (same_from_equal x.key x.key refl) (is, below_further x.key y.key ys is iny.0))
  firsts Greater is =
      let less : value_cmp y.key x.key ≡ Less = values_total.antisymm y.key x.key ∙ ap ordering_reverse is in
      clash y.row (get (x ∷ xs) y.key) (alike y.key ∙ here y.key y.row (get ys y.key))
      (none_below y.key y.key (x ∷ xs) (same_from_equal y.key y.key refl) (less, below_further y.key x.key xs less inx.0))

  first_key : x.key ≡ y.key
  first_key = firsts (value_cmp x.key y.key) refl

  first_row : x.row ≡ y.row
  first_row =
      some_row x.row y.row
      (sym (here x.key x.row (get xs x.key)) ∙ alike x.key ∙ ap (λ (k : Value). cond (same_value y.key k) (Some y.row) (get ys k)) first_key ∙ here y.key y.row (get ys y.key))

  rest_if : (q : Value) (b : Bool) → same_value x.key q ≡ b → get xs q ≡ get ys q
  unfolding IsStrictlySortedBy
  rest_if q true is = none_below x.key q xs is inx.0 ∙ sym (none_below y.key q ys (subst (λ (k : Value). same_value k q ≡ true) first_key is) iny.0)
  rest_if q false is =
      let too : same_value y.key q ≡ false = subst (λ (k : Value). same_value k q ≡ false) first_key is in
      sym (ap (λ b. cond b (Some x.row) (get xs q)) is) ∙ alike q ∙ ap (λ b. cond b (Some y.row) (get ys q)) too

  rest_alike : (q : Value) → get xs q ≡ get ys q
  rest_alike q = rest_if q (same_value x.key q) refl

keyed_is : (x y : Keyed) → x.key ≡ y.key → x.row ≡ y.row → x ≡ y
keyed_is x y keys rows i = record { key = keys i; row = rows i }

-- rows in order are the same where the same row stands at each key
pub same_rows : (xs ys : List Keyed) → are_in_order xs → are_in_order ys → ((q : Value) → get xs q ≡ get ys q) → xs ≡ ys
unfolding IsStrictlySortedBy
same_rows [] [] inx iny alike = refl
same_rows [] (y ∷ ys) inx iny alike = clash y.row (get (y ∷ ys) y.key) (here y.key y.row (get ys y.key)) (sym (alike y.key))
same_rows (x ∷ xs) [] inx iny alike = clash x.row (get (x ∷ xs) x.key) (here x.key x.row (get xs x.key)) (alike x.key)
same_rows (x ∷ xs) (y ∷ ys) inx iny alike =
    let first = keyed_is x y (first_key x y xs ys inx iny alike) (first_row x y xs ys inx iny alike) in
    let rest = same_rows xs ys inx.1 iny.1 (rest_alike x y xs ys inx iny alike) in
    (λ i. first i ∷ rest i)

-- ---- the rows at places

below_first : (k p : Value) (row : Option Row) (rows : List Keyed) → value_cmp k p ≡ Less → is_below k rows → is_below k (before_rows p row rows)
below_first k p None rows less below = below
below_first k p (Some row) rows less below = (less, below)

below_rows : (k : Value) (ps : List Place) → AllByRecursion (λ q. value_cmp k q ≡ Less) (place_keys ps) → is_below k (rows_at ps)
below_rows k [] all = tt
below_rows k (p ∷ ps) all = below_first k p.0 p.1 (rows_at ps) all.0 (below_rows k ps all.1)

first_in_order : (p : Value) (row : Option Row) (rows : List Keyed) → is_below p rows → are_in_order rows → are_in_order (before_rows p row rows)
unfolding IsStrictlySortedBy
first_in_order p None rows below order = order
first_in_order p (Some row) rows below order = (below, order)

-- they are in order
pub places_in_order : (ps : List Place) → AreRising ps → are_in_order (rows_at ps)
unfolding IsStrictlySortedBy
places_in_order [] rise = tt
places_in_order (p ∷ ps) rise = first_in_order p.0 p.1 (rows_at ps) (below_rows p.0 ps rise.0) (places_in_order ps rise.1)

get_first : (p : Value) (row : Option Row) (rows : List Keyed) (rest : Option (Option Row)) (q : Value) (same : Bool) → same_value p q ≡ same → is_below p rows
    → get rows q ≡ unwrap_or rest None → get (before_rows p row rows) q ≡ unwrap_or (cond same (Some row) rest) None
get_first p None rows rest q true is below later = none_below p q rows is below
get_first p None rows rest q false is below later = later
get_first p (Some row) rows rest q true is below later = ap (λ b. cond b (Some row) (get rows q)) is
get_first p (Some row) rows rest q false is below later = ap (λ b. cond b (Some row) (get rows q)) is ∙ later

-- the row at a key is the one at its place
pub get_at : (ps : List Place) (q : Value) → AreRising ps → get (rows_at ps) q ≡ unwrap_or (place_at ps q) None
unfolding IsStrictlySortedBy
get_at [] q rise = refl
get_at (p ∷ ps) q rise = get_first p.0 p.1 (rows_at ps) (place_at ps q) q (same_value p.0 q) refl (below_rows p.0 ps rise.0) (get_at ps q rise.1)

-- ---- changes

set_step : (same : Bool) (after : Option Row) (rest : Option (Option Row)) → unwrap_or (cond same (Some after) rest) None ≡ cond same after (unwrap_or rest None)
set_step true after rest = refl
set_step false after rest = refl

-- a row is put at a place
pub rows_set : (ps qs : List Place) (k : Value) (after : Option Row) → AreRising ps → AreRising qs
    → ((q : Value) → place_at qs q ≡ cond (same_value k q) (Some after) (place_at ps q)) → rows_at qs ≡ set_to (rows_at ps) k after
rows_set ps qs k after rise rises put =
    same_rows (rows_at qs) (set_to (rows_at ps) k after) (places_in_order qs rises) (set_in_order (rows_at ps) k after (places_in_order ps rise))
    (λ q. get_at qs q rises ∙ ap (λ o. unwrap_or o None) (put q) ∙ set_step (same_value k q) after (place_at ps q)
    ∙ ap (cond (same_value k q) after) (sym (get_at ps q rise)) ∙ sym (get_set k q (rows_at ps) after))

made_step : (k q : Value) (ps : List Place) (same : Bool) → same_value k q ≡ same → place_at ps k ≡ None → unwrap_or (cond same (Some None) (place_at ps q)) None ≡ unwrap_or (place_at ps q) None
made_step k q ps true is none = sym (ap (λ o. unwrap_or o None) (subst (λ (v : Value). place_at ps v ≡ None) (equal_from_same k q is) none))
made_step k q ps false is none = refl

-- a place is made for a key that has none
pub rows_made : (ps qs : List Place) (k : Value) → AreRising ps → AreRising qs → place_at ps k ≡ None
    → ((q : Value) → place_at qs q ≡ cond (same_value k q) (Some None) (place_at ps q)) → rows_at qs ≡ rows_at ps
rows_made ps qs k rise rises none made =
    same_rows (rows_at qs) (rows_at ps) (places_in_order qs rises) (places_in_order ps rise)
    (λ q. get_at qs q rises ∙ ap (λ o. unwrap_or o None) (made q) ∙ made_step k q ps (same_value k q) refl none ∙ sym (get_at ps q rise))

some_step : (same : Bool) (row : Option Row) (rest : Option (Option Row)) → is_some (cond same (Some row) rest) ≡ (same || is_some rest)
some_step true row rest = refl
some_step false row rest = refl

-- the places then
pub places_put : (ps qs : List Place) (k : Value) (row : Option Row) → ((q : Value) → place_at qs q ≡ cond (same_value k q) (Some row) (place_at ps q))
    → (q : Value) → has_place qs q ≡ (same_value k q || has_place ps q)
places_put ps qs k row put q = ap is_some (put q) ∙ some_step (same_value k q) row (place_at ps q)

kept_step : (k q : Value) (ps : List Place) (same : Bool) → same_value k q ≡ same → has_place ps k ≡ true → (same || has_place ps q) ≡ has_place ps q
kept_step k q ps true is has = sym (subst (λ (v : Value). has_place ps v ≡ true) (equal_from_same k q is) has)
kept_step k q ps false is has = refl

-- a key that has a place adds none
pub places_stay : (ps : List Place) (k q : Value) → has_place ps k ≡ true → (same_value k q || has_place ps q) ≡ has_place ps q
places_stay ps k q has = kept_step k q ps (same_value k q) refl has

-- what the map has after a call, by its places
pub put_by_map : (ps qs : List Place) (k key : Value) (row : Option Row) → k ≡ key
    → ((q : Value) → lookup (is_at (derived q)) qs ≡ cond (is_at (derived k) q) (Some row) (lookup (is_at (derived q)) ps))
    → (q : Value) → place_at qs q ≡ cond (same_value key q) (Some row) (place_at ps q)
put_by_map ps qs k key row is put q =
    sym (found_is qs q) ∙ put q ∙ (λ i. cond (at_is (is i) q i) (Some row) (found_is ps q i))

none_from : (found : Option (Option Row)) → is_some found ≡ false → found ≡ None
none_from None e = refl
none_from (Some x) e = absurd (true≢false e)

-- the map has no key
pub none_by_map : (ps : List Place) (key : Value) → is_some (lookup (is_at (derived key)) ps) ≡ false → place_at ps key ≡ None
none_by_map ps key none = sym (found_is ps key) ∙ none_from (lookup (is_at (derived key)) ps) none

-- and where it has one
pub has_by_map : (ps : List Place) (key : Value) → is_some (lookup (is_at (derived key)) ps) ≡ true → has_place ps key ≡ true
has_by_map ps key has = ap is_some (sym (found_is ps key)) ∙ has

-- the map finds a key that has a place
pub some_by_map : (ps : List Place) (key : Value) → has_place ps key ≡ true → IsSome (lookup (is_at (derived key)) ps)
some_by_map ps key has = ap is_some (found_is ps key) ∙ has

-- so it does not miss it
pub missed : (ps : List Place) (key : Value) {P : Type 0} → has_place ps key ≡ true → None ≡ lookup (is_at (derived key)) ps → P
missed ps key has none = absurd (true≢false (sym has ∙ ap is_some (sym (found_is ps key) ∙ sym none)))
