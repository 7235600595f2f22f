-- A map by branches, does what the list of what belongs to the branches says.
use Rattle.std.proofs.Common.{◌≡◌, ℕ, Bool, true, false, cond, not, List, [], ◌∷◌, map, position, None, Some, Option, refl, sym, ap, ◌∙◌}
use Rattle.std.specs.Option.{option_map}
use Rattle.std.specs.Map.{lookup, keys_of, remove_entry}
use Rattle.indexmap.specs.IndexMap.{insert_entry}
use Rattle.indexmap.specs.Layout.{set_value_at}
use Rattle.indexmap.proofs.MapLemmas.{insert_entry-first, Found-position}
use Rattle.tran_ids.specs.declared.branch.BranchId.{BranchId}
use Rattle.tran_ids.specs.Branch.{same}
use Rattle.tran_ids.specs.Listed.{item_at, put_item, drop_item}
use Rattle.tran_ids.proofs.BranchLemmas.{equal_from_same}

module _ (test : BranchId → BranchId → Bool) (key_is : (b k : BranchId) → test b k ≡ same k b)
    {X A : Type 0} (make : BranchId → X → A) (id : A → BranchId) (is : (b : BranchId) (x : X) → id (make b x) ≡ b) where
  abbrev item : BranchId × X → A
  item e = make e.0 e.1

  test_is : (b : BranchId) (e : BranchId × X) → test b e.0 ≡ same (id (item e)) b
  test_is b e = key_is b e.0 ∙ ap (λ c. same c b) (sym (is e.0 e.1))

  -- ---- a look-up

  found_step : (b : BranchId) (hit : Bool) (e : BranchId × X) (more : Option X) (rest : Option A) → same e.0 b ≡ hit
      → option_map (make b) more ≡ rest → option_map (make b) (cond hit (Some e.1) more) ≡ cond hit (Some (item e)) rest
  found_step b true e more rest hit later = ap (λ c. Some (make c e.1)) (sym (equal_from_same e.0 b hit))
  found_step b false e more rest hit later = later

  pub found : (b : BranchId) (es : List (BranchId × X)) → option_map (make b) (lookup (test b) es) ≡ item_at id (map item es) b
  found b [] = refl
  found b (e ∷ es) =
      ap (λ h. option_map (make b) (cond h (Some e.1) (lookup (test b) es))) (key_is b e.0)
      ∙ found_step b (same e.0 b) e _ _ refl (found b es)
      ∙ ap (λ h. cond h (Some (item e)) (item_at id (map item es) b)) (ap (λ c. same c b) (sym (is e.0 e.1)))

  -- ---- an item that is put

  put_step : (b : BranchId) (x : X) (hit : Bool) (e : BranchId × X) (es more : List (BranchId × X)) (rest : List A) → same e.0 b ≡ hit
      → map item more ≡ rest → map item (cond hit ((e.0, x) ∷ es) (e ∷ more)) ≡ cond hit (make b x ∷ map item es) (item e ∷ rest)
  put_step b x true e es more rest hit later = ap (λ c. make c x ∷ map item es) (equal_from_same e.0 b hit)
  put_step b x false e es more rest hit later = ap (λ (xs : List A). item e ∷ xs) later

  pub put_is : (b : BranchId) (x : X) (es : List (BranchId × X)) → map item (insert_entry test es b x) ≡ put_item id (map item es) (make b x)
  put_is b x [] = refl
  put_is b x (e ∷ es) =
      ap (λ h. map item (cond h ((e.0, x) ∷ es) (e ∷ insert_entry test es b x))) (key_is b e.0)
      ∙ put_step b x (same e.0 b) e es _ _ refl (put_is b x es)
      ∙ (λ i. cond (same (sym (is e.0 e.1) i) (sym (is b x) i)) (make b x ∷ map item es) (item e ∷ put_item id (map item es) (make b x)))

  -- in the place where the map has one
  pub placed_is : (b : BranchId) (x : X) (es : List (BranchId × X)) (i : ℕ) → position (test b) (keys_of es) ≡ Some i
      → map item (set_value_at es i x) ≡ put_item id (map item es) (make b x)
  placed_is b x es i at = ap (map item) (sym (insert_entry-first test b x es i (Found-position (test b) es i at).first)) ∙ put_is b x es

  -- ---- an item that is dropped

  module _ (b : BranchId) where
    abbrev at : BranchId → Bool
    at = test b

    kept_step : (hit : Bool) (e : BranchId × X) (es : List (BranchId × X)) → same (id (item e)) b ≡ hit → (lookup at es ≡ None → map item es ≡ drop_item id (map item es) b)
        → cond hit (Some e.1) (lookup at es) ≡ None → item e ∷ map item es ≡ cond (not hit) (item e ∷ drop_item id (map item es) b) (drop_item id (map item es) b)
    kept_step true e es hit later none = absurd cc
    kept_step false e es hit later none = ap (λ (xs : List A). item e ∷ xs) (later none)

    kept : (es : List (BranchId × X)) → lookup at es ≡ None → map item es ≡ drop_item id (map item es) b
    kept [] none = refl
    kept (e ∷ es) none = kept_step (same (id (item e)) b) e es refl (kept es) (ap (λ h. cond h (Some e.1) (lookup at es)) (sym (test_is b e)) ∙ none)

    dropped_step : (hit : Bool) (e : BranchId × X) (es rest : List (BranchId × X)) → at e.0 ≡ hit → (lookup at rest ≡ None → map item rest ≡ drop_item id (map item es) b)
        → lookup at (cond hit es (e ∷ rest)) ≡ None → map item (cond hit es (e ∷ rest)) ≡ cond (not hit) (item e ∷ drop_item id (map item es) b) (drop_item id (map item es) b)
    dropped_step true e es rest hit later none = kept es none
    dropped_step false e es rest hit later none = ap (λ (xs : List A). item e ∷ xs) (later (ap (λ h. cond h (Some e.1) (lookup at rest)) (sym hit) ∙ none))

    -- the map has no more of the branch
    pub dropped_is : (es : List (BranchId × X)) → lookup at (remove_entry at es) ≡ None → map item (remove_entry at es) ≡ drop_item id (map item es) b
    dropped_is [] none = refl
    dropped_is (e ∷ es) none =
        dropped_step (at e.0) e es (remove_entry at es) refl (dropped_is es) none
        ∙ ap (λ h. cond (not h) (item e ∷ drop_item id (map item es) b) (drop_item id (map item es) b)) (test_is b e)
