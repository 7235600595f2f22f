-- The index of a branch's changes finds the last change at each key.
use Rattle.std.proofs.Common.{◌≡◌, ℕ, ◌+◌, Bool, true, false, cond, ◌&&◌, List, [], ◌∷◌, ◌++◌, length, slice_get, None, Some, Option, refl, sym, ap, ◌∙◌, arith, append_assoc, length-append, zero-add, add-zero}
use Rattle.std.proofs.lemmas.Bool.{and_parts}
use Rattle.std.specs.Cmp.Lexicographic.{nat_list_eq_equiv, bytes_decides}
use Rattle.std.specs.Cow.{cow_value}
use Rattle.std.specs.declared.borrow.Cow.TheVariants.{Owned}
use Rattle.std.specs.Map.{lookup}
use Rattle.std.specs.Option.{option_map}
use Rattle.std.specs.Str.{bytes_eq}
use Rattle.dtx_values.specs.declared.value.Value.{Value}
use Rattle.dtx_values.specs.declared.row.Change.{Change}
use Rattle.dtx_values.specs.contracts.value.ValuePartialEq.TheImpl as of_value
use Rattle.dtx_values.specs.Order.{same_value}
use Rattle.row_store.specs.declared.changed_key.ChangedKey.{ChangedKey}
use Rattle.row_store.specs.contracts.changed_key.ChangedKeyPartialEq.TheImpl as of_key
use Rattle.row_store.specs.contracts.changed_key.ChangedKeyEq.TheImpl.Laws.{laws-law}
use Rattle.row_store.specs.Own.{is_change_of, last_at}
use Rattle.row_store.specs.Kept.{is_key, place_at, last_place, after_at}
use Rattle.dtx_values.proofs.ValueOrder.{derived_same, same_is, equal_from_same}
use Rattle.sql_check.specs.Words.{same_text}

-- ---- how the map finds a key

-- the test by which the map finds a key
abbrev pub found_as : ChangedKey → ChangedKey → Bool
found_as = of_key.eq-value.it

values_are : (a b : Value) → of_value.eq-value.it a b ≡ same_value b a
values_are a b = derived_same a b ∙ same_is b a

found_is : (q k : ChangedKey) → found_as q k ≡ is_key (cow_value q.table) (cow_value q.key) k
found_is q k =
    ap (λ both. both && of_value.eq-value.it (cow_value q.key) (cow_value k.key)) (nat_list_eq_equiv.symm (cow_value q.table) (cow_value k.table))
    ∙ ap (λ both. bytes_eq (cow_value k.table) (cow_value q.table) && both) (values_are (cow_value q.key) (cow_value k.key))

-- a look-up in the map is one in the index
pub lookup_is : (q : ChangedKey) (es : List (ChangedKey × ℕ)) → lookup (found_as q) es ≡ place_at es (cow_value q.table) (cow_value q.key)
lookup_is q [] = refl
lookup_is q (e ∷ es) =
    ap (λ b. cond b (Some e.1) (lookup (found_as q) es)) (found_is q e.0) ∙ ap (cond (is_key (cow_value q.table) (cow_value q.key) e.0) (Some e.1)) (lookup_is q es)

-- a key as the index would own it
abbrev asked : List ℕ → Value → ChangedKey
asked table key = record { table = Owned table; key = Owned key }

-- an owned key is found where a change is at it
hit_is : (k : ChangedKey) (c : Change) (table : List ℕ) (key : Value) → cow_value k.table ≡ c.table → cow_value k.key ≡ c.key
    → found_as k (asked table key) ≡ is_change_of table key c
hit_is k c table key tables keys =
    laws-law.symm k (asked table key) ∙ found_is (asked table key) k ∙ (λ i. bytes_eq (tables i) table && same_value (keys i) key)

-- ---- the last change at a key

module _ (table : List ℕ) (key : Value) where
  -- one more change
  pub last_place_push : (c : Change) (place : ℕ) (cs : List Change) (last : Option ℕ)
      → last_place place (cs ++ c ∷ []) table key last ≡ cond (is_change_of table key c) (Some (place + length cs)) (last_place place cs table key last)
  last_place_push c place [] last = ap (λ n. cond (is_change_of table key c) (Some n) last) (sym (add-zero place))
  last_place_push c place (d ∷ cs) last =
      let further : (place + 1) + length cs ≡ place + length (d ∷ cs) = omega arith in
      last_place_push c (place + 1) cs (cond (is_change_of table key d) (Some place) last)
      ∙ ap (λ n. cond (is_change_of table key c) (Some n) (last_place place (d ∷ cs) table key last)) further

  middle : (front : List Change) (c : Change) (cs : List Change) → slice_get (front ++ c ∷ cs) (length front) ≡ Some c
  middle [] c cs = refl
  middle (d ∷ front) c cs = middle front c cs

  after_first : (hit : Bool) (front : List Change) (c : Change) (cs : List Change) (last : Option ℕ)
      → after_at (front ++ c ∷ cs) (cond hit (Some (length front)) last) ≡ cond hit (Some c.after) (after_at (front ++ c ∷ cs) last)
  after_first true front c cs last = ap (option_map (λ d. d.after)) (middle front c cs)
  after_first false front c cs last = refl

  after_last : (front cs : List Change) (last : Option ℕ) → after_at (front ++ cs) (last_place (length front) cs table key last) ≡ last_at cs table key (after_at (front ++ cs) last)
  after_last front [] last = refl
  after_last front (c ∷ cs) last =
      let hit = is_change_of table key c in
      let next = cond hit (Some (length front)) last in
      let all = sym (append_assoc front (c ∷ []) cs) in
      let place = sym (length-append front (c ∷ [])) in
      (λ i. after_at (all i) (last_place (place i) cs table key next))
      ∙ after_last (front ++ c ∷ []) cs next
      ∙ ap (λ ds. last_at cs table key (after_at ds next)) (append_assoc front (c ∷ []) cs)
      ∙ ap (last_at cs table key) (after_first hit front c cs last)

  -- what the last change at a key leaves
  pub last_is : (cs : List Change) → after_at cs (last_place 0 cs table key None) ≡ last_at cs table key None
  last_is cs = after_last [] cs None

-- ---- the index with another place at the key of a change

module _ (k : ChangedKey) (c : Change) (tables : cow_value k.table ≡ c.table) (keys : cow_value k.key ≡ c.key) where
  pub place_set : (es fs : List (ChangedKey × ℕ)) (place : Option ℕ)
      → ((q : ChangedKey) → lookup (found_as q) fs ≡ cond (found_as k q) place (lookup (found_as q) es))
      → (table : List ℕ) (key : Value) → place_at fs table key ≡ cond (is_change_of table key c) place (place_at es table key)
  place_set es fs place given table key =
      let q = asked table key in
      sym (lookup_is q fs) ∙ given q ∙ (λ i. cond (hit_is k c table key tables keys i) place (lookup_is q es i))

-- a key of the index that is found as the key of a change is at it
pub found_at : (q k : ChangedKey) (c : Change) → cow_value q.table ≡ c.table → cow_value q.key ≡ c.key → found_as q k ≡ true
    → (cow_value k.table ≡ c.table) × (cow_value k.key ≡ c.key)
found_at q k c tables keys found =
    let both = and_parts (same_text (cow_value k.table) (cow_value q.table)) (same_value (cow_value k.key) (cow_value q.key)) (sym (found_is q k) ∙ found) in
    ((bytes_decides (cow_value k.table) (cow_value q.table)).0 both.0 ∙ tables, equal_from_same (cow_value k.key) (cow_value q.key) both.1 ∙ keys)

-- ---- the index with one more change

module _ (k : ChangedKey) (c : Change) (tables : cow_value k.table ≡ c.table) (keys : cow_value k.key ≡ c.key) where
  pub indexed_more : (es fs : List (ChangedKey × ℕ)) (cs : List Change)
      → ((q : ChangedKey) → lookup (found_as q) fs ≡ cond (found_as k q) (Some (length cs)) (lookup (found_as q) es))
      → ((table : List ℕ) (key : Value) → place_at es table key ≡ last_place 0 cs table key None)
      → (table : List ℕ) (key : Value) → place_at fs table key ≡ last_place 0 (cs ++ c ∷ []) table key None
  indexed_more es fs cs given before table key =
      let place = sym (zero-add (length cs)) in
      place_set k c tables keys es fs (Some (length cs)) given table key
      ∙ (λ i. cond (is_change_of table key c) (Some (place i)) (before table key i))
      ∙ sym (last_place_push table key c 0 cs None)
