-- Distinct names stay distinct when a new one comes in.
use Rattle.std.proofs.Common.{◌≡◌, ℕ, Bool, true, false, List, [], ◌∷◌, ◌++◌, map, refl, ap, sym, subst, ◌∙◌, true≢false}
use Rattle.std.proofs.lemmas.List.{map-append, append-nil, append_assoc}
use Rattle.std.proofs.lemmas.List.Folds.{list_any-append}
use Rattle.std.proofs.Math.Path.{ap₂}
use Rattle.std.specs.Prelude.{◌||◌}
use Rattle.std.specs.Cmp.Lexicographic.{nat_list_eq_equiv}
use Rattle.std.specs.List.{list_any, IsDistinct, AllByRecursion}
use Rattle.std.specs.Str.{bytes_eq}
use Rattle.dtx_values.specs.declared.table.Table.{Table}
use Rattle.dtx_values.specs.declared.table.Link.{Link}
use Rattle.dtx_values.specs.declared.table.Synonym.{Synonym}
use Rattle.catalog.specs.Catalog.{Listed, with_table, with_link, with_synonym, is_used, is_link_used, shared_names, link_names, HasOwnNames}

-- neither of two tests passes
neither : (a b : Bool) → (a || b) ≡ false → (a ≡ false) × (b ≡ false)
neither true b e = absurd (true≢false e)
neither false b e = (refl, e)

-- a name that none of these is differs from each
differs : (k : List ℕ) (ks : List (List ℕ)) → list_any (λ n. bytes_eq n k) ks ≡ false → AllByRecursion (λ n. bytes_eq k n ≡ false) ks
differs k [] e = tt
differs k (n ∷ ks) e = let both = neither (bytes_eq n k) _ e in (nat_list_eq_equiv.symm k n ∙ both.0, differs k ks both.1)

-- a test that all pass still is passed by all with one more that passes
all_put : (P : List ℕ → Type 0) (ks ls : List (List ℕ)) (k : List ℕ) → AllByRecursion P (ks ++ ls) → P k → AllByRecursion P (ks ++ k ∷ ls)
all_put P [] ls k all one = (one, all)
all_put P (n ∷ ks) ls k all one = (all.0, all_put P ks ls k all.1 one)

-- a new name between the others
apart_put : (ks ls : List (List ℕ)) (k : List ℕ) → IsDistinct bytes_eq (ks ++ ls) → list_any (λ n. bytes_eq n k) (ks ++ ls) ≡ false → IsDistinct bytes_eq (ks ++ k ∷ ls)
unfolding IsDistinct
apart_put [] ls k apart new = (differs k ls new, apart)
apart_put (n ∷ ks) ls k apart new =
    let both = neither (bytes_eq n k) _ new in
    (all_put (λ m. bytes_eq n m ≡ false) ks ls k apart.0 both.0, apart_put ks ls k apart.1 both.1)

-- a new name after the others
apart_last : (ks : List (List ℕ)) (k : List ℕ) → IsDistinct bytes_eq ks → list_any (λ n. bytes_eq n k) ks ≡ false → IsDistinct bytes_eq (ks ++ k ∷ [])
apart_last ks k apart new =
    apart_put ks [] k (subst (IsDistinct bytes_eq) (sym (append-nil ks)) apart) (ap (list_any (λ n. bytes_eq n k)) (append-nil ks) ∙ new)

module _ {X : Type 0} (title : X → List ℕ) where
  any_title : (xs : List X) (k : List ℕ) → list_any (λ n. bytes_eq n k) (map title xs) ≡ list_any (λ x. bytes_eq (title x) k) xs
  any_title [] k = refl
  any_title (x ∷ xs) k = ap (λ b. bytes_eq (title x) k || b) (any_title xs k)

  -- the name of the last of these stands before the names after it
  title_put : (xs : List X) (x : X) (ls : List (List ℕ)) → map title (xs ++ x ∷ []) ++ ls ≡ map title xs ++ title x ∷ ls
  title_put [] x ls = refl
  title_put (y ∷ xs) x ls = ap (λ ks. title y ∷ ks) (title_put xs x ls)

any_shared : (c : Listed) (k : List ℕ) → list_any (λ n. bytes_eq n k) (shared_names c) ≡ is_used c k
any_shared c k =
    list_any-append (λ n. bytes_eq n k) (map (λ (t : Table). t.name) c.tables) (map (λ (y : Synonym). y.name) c.synonyms)
    ∙ ap₂ (λ a b. a || b) (any_title (λ (t : Table). t.name) c.tables k) (any_title (λ (y : Synonym). y.name) c.synonyms k)

module _ (c : Listed) (own : HasOwnNames c) where
  pub own_table : (t : Table) → is_used c t.name ≡ false → HasOwnNames (with_table c t)
  own_table t new =
      let ys = map (λ (y : Synonym). y.name) c.synonyms in
      (subst (IsDistinct bytes_eq) (sym (title_put (λ (u : Table). u.name) c.tables t ys)) (apart_put (map (λ (u : Table). u.name) c.tables) ys t.name own.0 (any_shared c t.name ∙ new)), own.1)

  pub own_synonym : (y : Synonym) → is_used c y.name ≡ false → HasOwnNames (with_synonym c y)
  own_synonym y new =
      let ts = map (λ (t : Table). t.name) c.tables in
      let put : ts ++ map (λ (z : Synonym). z.name) (c.synonyms ++ y ∷ []) ≡ shared_names c ++ y.name ∷ [] =
      ap (λ ks. ts ++ ks) (map-append (λ (z : Synonym). z.name) c.synonyms (y ∷ [])) ∙ sym (append_assoc ts (map (λ (z : Synonym). z.name) c.synonyms) (y.name ∷ [])) in
      (subst (IsDistinct bytes_eq) (sym put) (apart_last (shared_names c) y.name own.0 (any_shared c y.name ∙ new)), own.1)

  pub own_link : (l : Link) → is_link_used c l.name ≡ false → HasOwnNames (with_link c l)
  own_link l new =
      (own.0, subst (IsDistinct bytes_eq) (sym (map-append (λ (m : Link). m.name) c.links (l ∷ []))) (apart_last (link_names c) l.name own.1 (any_title (λ (m : Link). m.name) c.links l.name ∙ new)))
