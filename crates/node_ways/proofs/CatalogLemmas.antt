-- A catalog in which nothing has an empty name, and a way by what the records of a node leave.
use Rattle.std.proofs.Common.{◌≡◌, false, refl, Bool, List, ℕ, [], ◌∷◌, None, find, ap, sym, ◌∙◌}
use Rattle.std.proofs.lemmas.Bool.{or_parts}
use Rattle.std.specs.List.{list_any}
use Rattle.catalog.specs.Catalog.{Listed, is_used}
use Rattle.node_rules.specs.Data.{Durable, Place, Live, Stmt}
use Rattle.node_rules.specs.Words.{same_text}
use Rattle.node_rules.specs.Names.{Unknown, named_by, no_ref, way_of}
use Rattle.node_ways.specs.Ways.{durable_with, listed_of}

-- where no item passes a test, none is found by it
pub none_is_found : {A : Type 0} (p : A → Bool) (xs : List A) → list_any p xs ≡ false → find p xs ≡ None
none_is_found p [] none = refl
none_is_found p (x ∷ xs) none = rw ((or_parts (p x) (list_any p xs) none).0) (none_is_found p xs (or_parts (p x) (list_any p xs) none).1)

-- where no table and no synonym has the empty name, a statement without a table names nothing
pub nameless_is_unknown : (c : Listed) → is_used c [] ≡ false → named_by (durable_with c) no_ref ≡ Unknown
nameless_is_unknown c none =
    let parts = or_parts (list_any (λ t. same_text t.name []) c.tables) (list_any (λ y. same_text y.name []) c.synonyms) none in
    rw (none_is_found (λ t. same_text t.name []) c.tables parts.0) (rw (none_is_found (λ y. same_text y.name []) c.synonyms parts.1) refl)

-- where a statement goes depends on the catalog alone of what the records leave
pub way_by_catalog : (p : Place) (d : Durable) (l : Live) (given : ℕ) (s : Stmt) → way_of p (durable_with (listed_of d)) l given s ≡ way_of p d l given s
unfolding way_of
way_by_catalog p d l given s = refl

-- so it is the same whatever else they leave
pub way_of_listed : (p : Place) (d : Durable) (c : Listed) (l : Live) (given : ℕ) (s : Stmt) → listed_of d ≡ c → way_of p (durable_with c) l given s ≡ way_of p d l given s
way_of_listed p d c l given s is = ap (λ x. way_of p (durable_with x) l given s) (sym is) ∙ way_by_catalog p d l given s
