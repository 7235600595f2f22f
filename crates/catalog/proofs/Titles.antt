-- Entries whose keys are the names of their items: a look-up by the key is one by the item's name.
use Rattle.std.proofs.Common.{◌≡◌, ℕ, Bool, true, false, cond, List, [], ◌∷◌, ◌++◌, map, find, drop, get_or, is_some, Option, Some, None, refl, ap, sym, subst, ◌∙◌, true≢false}
use Rattle.std.proofs.Math.Path.{ap₂}
use Rattle.std.proofs.lemmas.List.{map-append}
use Rattle.std.specs.Prelude.{◌||◌}
use Rattle.std.specs.Cmp.Lexicographic.{nat_list_eq_equiv}
use Rattle.std.specs.List.{list_any}
use Rattle.std.specs.Map.{keys_of, values_of, lookup}
use Rattle.std.specs.Str.{bytes_eq}
use Rattle.indexmap.specs.IndexMap.{IndexMap, insert_entry}
use Rattle.indexmap.proofs.CallerLemmas.{insert_entry-new}

module _ {X : Type 0} (title : X → List ℕ) where
  -- each key is the name of its item
  abbrev pub are_titled : List (List ℕ × X) → Type 0
  are_titled es = keys_of es ≡ map title (values_of es)

  first_titled : (e : List ℕ × X) (es : List (List ℕ × X)) → are_titled (e ∷ es) → e.0 ≡ title e.1
  first_titled e es h = ap (λ ks. get_or ks 0 []) h

  rest_titled : (e : List ℕ × X) (es : List (List ℕ × X)) → are_titled (e ∷ es) → are_titled es
  rest_titled e es h = ap (drop 1) h

  first_passes : (e : List ℕ × X) (es : List (List ℕ × X)) (q : List ℕ) → are_titled (e ∷ es) → bytes_eq q e.0 ≡ bytes_eq (title e.1) q
  first_passes e es q h = nat_list_eq_equiv.symm q e.0 ∙ ap (λ k. bytes_eq k q) (first_titled e es h)

  -- what a key finds is the first item of that name
  pub lookup_find : (es : List (List ℕ × X)) (q : List ℕ) → are_titled es → lookup (bytes_eq q) es ≡ find (λ x. bytes_eq (title x) q) (values_of es)
  lookup_find [] q h = refl
  lookup_find (e ∷ es) q h = ap₂ (λ b (r : Option X). cond b (Some e.1) r) (first_passes e es q h) (lookup_find es q (rest_titled e es h))

  -- and there is one where an item has that name
  pub lookup_any : (es : List (List ℕ × X)) (q : List ℕ) → are_titled es → is_some (lookup (bytes_eq q) es) ≡ list_any (λ x. bytes_eq (title x) q) (values_of es)
  lookup_any [] q h = refl
  lookup_any (e ∷ es) q h = found (bytes_eq q e.0) ∙ ap₂ (λ a b. a || b) (first_passes e es q h) (lookup_any es q (rest_titled e es h))
    where
      found : (b : Bool) → is_some (cond b (Some e.1) (lookup (bytes_eq q) es)) ≡ (b || is_some (lookup (bytes_eq q) es))
      found true = refl
      found false = refl

  -- a name that no item has is no key
  pub lookup_new : (es : List (List ℕ × X)) (q : List ℕ) → are_titled es → list_any (λ x. bytes_eq (title x) q) (values_of es) ≡ false → lookup (bytes_eq q) es ≡ None
  lookup_new es q h new = none (lookup (bytes_eq q) es) (lookup_any es q h ∙ new)
    where
      none : (r : Option X) → is_some r ≡ false → r ≡ None
      none None e = refl
      none (Some x) e = absurd (true≢false e)

  -- one more entry of its item's name
  titled_more : (es : List (List ℕ × X)) (x : X) → are_titled es → are_titled (es ++ (title x, x) ∷ [])
  titled_more [] x h = refl
  titled_more (e ∷ es) x h = ap₂ (λ (k : List ℕ) ks. k ∷ ks) (first_titled e es h) (titled_more es x (rest_titled e es h))

module _ {X S : Type 0} (title : X → List ℕ) (m : IndexMap (List ℕ) X S) (k : List ℕ) (x : X) (h : are_titled title m.entries) (named : k ≡ title x) where
  -- an item of a new name is inserted after the others
  inserted_last : list_any (λ y. bytes_eq (title y) (title x)) (values_of m.entries) ≡ false → insert_entry bytes_eq m.entries k x ≡ m.entries ++ (title x, x) ∷ []
  inserted_last new =
      insert_entry-new bytes_eq m k x (lookup_new title m.entries k h (ap (λ q. list_any (λ y. bytes_eq (title y) q) (values_of m.entries)) named ∙ new))
      ∙ ap (λ q. m.entries ++ (q, x) ∷ []) named

  -- the map after it, where the items before it were these
  pub values_insert : (xs : List X) → values_of m.entries ≡ xs → list_any (λ y. bytes_eq (title y) (title x)) xs ≡ false → values_of (insert_entry bytes_eq m.entries k x) ≡ xs ++ x ∷ []
  values_insert xs are new =
      ap values_of (inserted_last (ap (list_any (λ y. bytes_eq (title y) (title x))) are ∙ new)) ∙ map-append (λ e. e.1) m.entries ((title x, x) ∷ []) ∙ ap (λ ys. ys ++ x ∷ []) are

  pub titled_insert : (xs : List X) → values_of m.entries ≡ xs → list_any (λ y. bytes_eq (title y) (title x)) xs ≡ false → are_titled title (insert_entry bytes_eq m.entries k x)
  titled_insert xs are new =
      subst (are_titled title) (sym (inserted_last (ap (list_any (λ y. bytes_eq (title y) (title x))) are ∙ new))) (titled_more title m.entries x h)
