-- What a map from branches' ids to their items does, as the list of the items says it.
use Rattle.std.proofs.Common.{◌≡◌, ℕ, zero, suc, Bool, true, false, cond, not, if◌then◌else◌, List, [], ◌∷◌, ◌++◌, position, slice_get, None, Some, Option, is_some, true≢false, refl, sym, ap, subst, ◌∙◌}
use Rattle.std.specs.Map.{lookup, keys_of, values_of, remove_entry}
use Rattle.indexmap.specs.IndexMap.{insert_entry}
use Rattle.indexmap.specs.Layout.{set_value_at}
use Rattle.indexmap.proofs.MapLemmas.{insert_entry-first, Found-position}
use Rattle.tran_ids.specs.declared.branch.BranchId.{BranchId}
use Rattle.tran_ids.specs.Branch.{same}
use Rattle.tran_ids.specs.Listed.{item_at, put_item, drop_item}
use Rattle.tran_ids.specs.contracts.branch.BranchIdPartialEq.TheImpl as of_key
use Rattle.tran_ids.specs.contracts.branch.BranchIdEq.TheImpl.Laws.{laws-law}
use Rattle.tran_ids.proofs.BranchLemmas.{equal_from_same, same_from_equal}
use Rattle.tran_ids.proofs.ListedLemmas.{item_is, put_found}
use Rattle.node_state.specs.ByBranch.{KeysAreBranches}
use Rattle.node_state.specs.Changed.{with_item, change_item}

-- the test by which the map finds a key
abbrev pub found_as : BranchId → BranchId → Bool
found_as = of_key.eq-value.it

key_is : (b c : BranchId) → found_as b c ≡ same c b
key_is b c = laws-law.symm b c

module _ {A : Type 0} (id : A → BranchId) (P : A → Type 0) where
  abbrev Entry : Type 0
  Entry = BranchId × A

  test_is : (b : BranchId) (e : Entry) → e.0 ≡ id e.1 → found_as b e.0 ≡ same (id e.1) b
  test_is b e keyed = ap (found_as b) keyed ∙ key_is b (id e.1)

  -- ---- a look-up

  -- the item that is found
  pub found : (b : BranchId) (es : List Entry) → KeysAreBranches id P es → lookup (found_as b) es ≡ item_at id (values_of es) b
  found b [] keyed = refl
  found b (e ∷ es) keyed =
      ap (λ h. cond h (Some e.1) (lookup (found_as b) es)) (test_is b e keyed.0.0)
      ∙ ap (λ o. cond (same (id e.1) b) (Some e.1) o) (found b es keyed.1)

  none_from : (o : Option A) → false ≡ is_some o → o ≡ None
  none_from None e = refl
  none_from (Some x) e = absurd (true≢false (sym e))

  -- where no key is found there is no item
  pub none_there : (b : BranchId) (es : List Entry) → KeysAreBranches id P es → false ≡ is_some (lookup (found_as b) es) → item_at id (values_of es) b ≡ None
  none_there b es keyed none = sym (found b es keyed) ∙ none_from (lookup (found_as b) es) none

  -- ---- an item that is put

  put_step : (x : A) (hit : Bool) (e : Entry) (es more : List Entry) (rest : List A) → values_of more ≡ rest
      → values_of (cond hit ((e.0, x) ∷ es) (e ∷ more)) ≡ cond hit (x ∷ values_of es) (e.1 ∷ rest)
  put_step x true e es more rest later = refl
  put_step x false e es more rest later = ap (λ (xs : List A). e.1 ∷ xs) later

  -- under its branch's key
  pub put_is : (x : A) (es : List Entry) → KeysAreBranches id P es → values_of (insert_entry found_as es (id x) x) ≡ put_item id (values_of es) x
  put_is x [] keyed = refl
  put_is x (e ∷ es) keyed =
      ap (λ h. values_of (cond h ((e.0, x) ∷ es) (e ∷ insert_entry found_as es (id x) x))) (test_is (id x) e keyed.0.0)
      ∙ put_step x (same (id e.1) (id x)) e es _ _ (put_is x es keyed.1)

  keyed_step : (x : A) (hit : Bool) (e : Entry) (es more : List Entry) → same (id e.1) (id x) ≡ hit → P x → KeysAreBranches id P (e ∷ es) → KeysAreBranches id P more
      → KeysAreBranches id P (cond hit ((e.0, x) ∷ es) (e ∷ more))
  keyed_step x true e es more is holds keyed later = ((keyed.0.0 ∙ equal_from_same (id e.1) (id x) is, holds), keyed.1)
  keyed_step x false e es more is holds keyed later = (keyed.0, later)

  -- the keys stay those of the items
  pub keyed_put : (x : A) (es : List Entry) → P x → KeysAreBranches id P es → KeysAreBranches id P (insert_entry found_as es (id x) x)
  keyed_put x [] holds keyed = ((refl, holds), tt)
  keyed_put x (e ∷ es) holds keyed =
      subst (λ h. KeysAreBranches id P (cond h ((e.0, x) ∷ es) (e ∷ insert_entry found_as es (id x) x))) (sym (test_is (id x) e keyed.0.0))
      (keyed_step x (same (id e.1) (id x)) e es _ refl holds keyed (keyed_put x es holds keyed.1))

  twice_step : (x y z : A) (xs : List A) → id x ≡ id y → (hit : Bool) → same (id z) (id x) ≡ hit → put_item id (put_item id xs x) y ≡ put_item id xs y
      → put_item id (if hit then x ∷ xs else z ∷ put_item id xs x) y ≡ (if same (id z) (id y) then y ∷ xs else z ∷ put_item id xs y)
  twice_step x y z xs is true at later =
      ap (λ hit. if hit then y ∷ xs else x ∷ put_item id xs y) (same_from_equal (id x) (id y) is)
      ∙ sym (ap (λ hit. if hit then y ∷ xs else z ∷ put_item id xs y) (ap (same (id z)) (sym is) ∙ at))
  twice_step x y z xs is false at later =
      let apart : same (id z) (id y) ≡ false = ap (same (id z)) (sym is) ∙ at in
      ap (λ hit. if hit then y ∷ put_item id xs x else z ∷ put_item id (put_item id xs x) y) apart
      ∙ ap (λ (ys : List A). z ∷ ys) later
      ∙ sym (ap (λ hit. if hit then y ∷ xs else z ∷ put_item id xs y) apart)

  -- an item put in the place of one that was put there before
  pub put_twice : (xs : List A) (x y : A) → id x ≡ id y → put_item id (put_item id xs x) y ≡ put_item id xs y
  put_twice [] x y is = ap (λ hit. if hit then y ∷ [] else x ∷ y ∷ []) (same_from_equal (id x) (id y) is)
  put_twice (z ∷ zs) x y is = twice_step x y z zs is (same (id z) (id x)) refl (put_twice zs x y is)

  -- ---- an item that is changed at its place

  -- where a key is found, there its item stands
  pub keyed_placed : (b : BranchId) (x : A) (es : List Entry) (i : ℕ) → position (found_as b) (keys_of es) ≡ Some i → id x ≡ b → KeysAreBranches id P es
      → values_of (set_value_at es i x) ≡ put_item id (values_of es) x
  keyed_placed b x es i at is keyed =
      let there : position (found_as (id x)) (keys_of es) ≡ Some i = subst (λ c. position (found_as c) (keys_of es) ≡ Some i) (sym is) at in
      ap values_of (sym (insert_entry-first found_as (id x) x es i (Found-position (found_as (id x)) es i there).first)) ∙ put_is x es keyed

  -- the keys stay those of the items
  pub still_keyed : (es : List Entry) (i : ℕ) (x y : A) → slice_get (values_of es) i ≡ Some x → id y ≡ id x → P y → KeysAreBranches id P es → KeysAreBranches id P (set_value_at es i y)
  still_keyed [] i x y there is holds keyed = tt
  still_keyed (e ∷ es) zero x y there is holds keyed =
      let it : e.1 ≡ x = cc in
      ((keyed.0.0 ∙ ap id it ∙ sym is, holds), keyed.1)
  still_keyed (e ∷ es) (suc i) x y there is holds keyed = (keyed.0, still_keyed es i x y there is holds keyed.1)

  -- what holds of each item holds of one that is found
  pub holds_there : (es : List Entry) (i : ℕ) (x : A) → slice_get (values_of es) i ≡ Some x → KeysAreBranches id P es → P x
  holds_there [] i x there keyed = absurd cc
  holds_there (e ∷ es) zero x there keyed = let it : e.1 ≡ x = cc in subst P it keyed.0.1
  holds_there (e ∷ es) (suc i) x there keyed = holds_there es i x there keyed.1

  holds_step : (e : Entry) (x : A) (hit : Bool) (more : Option A) → cond hit (Some e.1) more ≡ Some x → P e.1 → (more ≡ Some x → P x) → P x
  holds_step e x true more there holds later = let it : e.1 ≡ x = cc in subst P it holds
  holds_step e x false more there holds later = later there

  -- and of one that is looked up
  pub holds_found : (test : BranchId → Bool) (es : List Entry) (x : A) → lookup test es ≡ Some x → KeysAreBranches id P es → P x
  holds_found test [] x there keyed = absurd cc
  holds_found test (e ∷ es) x there keyed = holds_step e x (test e.0) (lookup test es) there keyed.0.1 (λ later. holds_found test es x later keyed.1)

  -- the same item put at its place
  pub same_set : (es : List Entry) (i : ℕ) (x : A) → slice_get (values_of es) i ≡ Some x → set_value_at es i x ≡ es
  same_set [] i x there = refl
  same_set (e ∷ es) zero x there = let it : e.1 ≡ x = cc in ap (λ (y : A). (e.0, y) ∷ es) (sym it)
  same_set (e ∷ es) (suc i) x there = ap (λ (ds : List Entry). e ∷ ds) (same_set es i x there)

  -- another item of the branch at its place: the branch has one
  pub placed_there : (b : BranchId) (x : A) (es : List Entry) (i : ℕ) → position (found_as b) (keys_of es) ≡ Some i → id x ≡ b → KeysAreBranches id P es
      → item_at id (values_of (set_value_at es i x)) b ≡ Some x
  placed_there b x es i at is keyed =
      ap (λ xs. item_at id xs b) (keyed_placed b x es i at is keyed) ∙ subst (λ c. item_at id (put_item id (values_of es) x) c ≡ Some x) is (put_found id (values_of es) x)

  -- what is put there afterwards stands as if it had been put in the place of the first
  pub placed_twice : (b : BranchId) (x y : A) (es : List Entry) (i : ℕ) → position (found_as b) (keys_of es) ≡ Some i → id x ≡ b → id y ≡ b → KeysAreBranches id P es
      → put_item id (values_of (set_value_at es i x)) y ≡ put_item id (values_of es) y
  placed_twice b x y es i at is too keyed = ap (λ xs. put_item id xs y) (keyed_placed b x es i at is keyed) ∙ put_twice (values_of es) x y (is ∙ sym too)

  -- the branch's item changed at its place
  pub changed_is : (b : BranchId) (f : A → A) (es : List Entry) (i : ℕ) (x y : A) → position (found_as b) (keys_of es) ≡ Some i → lookup (found_as b) es ≡ Some x
      → y ≡ f x → id (f x) ≡ id x → KeysAreBranches id P es → values_of (set_value_at es i y) ≡ change_item id f (values_of es) b
  changed_is b f es i x y at there after keeps keyed =
      let item : item_at id (values_of es) b ≡ Some x = sym (found b es keyed) ∙ there in
      let mine : id y ≡ b = ap id after ∙ keeps ∙ item_is id (values_of es) b x item in
      keyed_placed b y es i at mine keyed ∙ ap (put_item id (values_of es)) after ∙ sym (ap (with_item id f (values_of es)) item)

  -- a branch that has none
  pub unchanged_is : (b : BranchId) (f : A → A) (es : List Entry) → KeysAreBranches id P es → false ≡ is_some (lookup (found_as b) es) → values_of es ≡ change_item id f (values_of es) b
  unchanged_is b f es keyed none = sym (ap (with_item id f (values_of es)) (none_there b es keyed none))

  -- ---- an item behind the others

  pub keyed_push : (es : List Entry) (x : A) → P x → KeysAreBranches id P es → KeysAreBranches id P (es ++ (id x, x) ∷ [])
  keyed_push [] x holds keyed = ((refl, holds), tt)
  keyed_push (e ∷ es) x holds keyed = (keyed.0, keyed_push es x holds keyed.1)

  put_absent_step : (x : A) (hit : Bool) (e : A) (xs : List A) → cond hit (Some e) (item_at id xs (id x)) ≡ None → (item_at id xs (id x) ≡ None → put_item id xs x ≡ xs ++ x ∷ [])
      → (if hit then x ∷ xs else e ∷ put_item id xs x) ≡ e ∷ (xs ++ x ∷ [])
  put_absent_step x true e xs none later = absurd cc
  put_absent_step x false e xs none later = ap (λ (ys : List A). e ∷ ys) (later none)

  -- an item of a branch that has none goes behind the others
  pub put_absent : (xs : List A) (x : A) → item_at id xs (id x) ≡ None → put_item id xs x ≡ xs ++ x ∷ []
  put_absent [] x none = refl
  put_absent (y ∷ ys) x none = put_absent_step x (same (id y) (id x)) y ys none (put_absent ys x)

  -- and its key is not there
  pub absent_from : (b : BranchId) (es : List Entry) → KeysAreBranches id P es → item_at id (values_of es) b ≡ None → lookup (found_as b) es ≡ None
  absent_from b es keyed none = found b es keyed ∙ none

  -- ---- an item that is dropped

  module _ (b : BranchId) where
    abbrev at : BranchId → Bool
    at = found_as b

    kept_step : (hit : Bool) (e : Entry) (es : List Entry) → same (id e.1) b ≡ hit → (lookup at es ≡ None → values_of es ≡ drop_item id (values_of es) b)
        → cond hit (Some e.1) (lookup at es) ≡ None → e.1 ∷ values_of es ≡ cond (not hit) (e.1 ∷ drop_item id (values_of es) b) (drop_item id (values_of es) b)
    kept_step true e es hit later none = absurd cc
    kept_step false e es hit later none = ap (λ (xs : List A). e.1 ∷ xs) (later none)

    kept : (es : List Entry) → KeysAreBranches id P es → lookup at es ≡ None → values_of es ≡ drop_item id (values_of es) b
    kept [] keyed none = refl
    kept (e ∷ es) keyed none = kept_step (same (id e.1) b) e es refl (kept es keyed.1) (ap (λ h. cond h (Some e.1) (lookup at es)) (sym (test_is b e keyed.0.0)) ∙ none)

    dropped_step : (hit : Bool) (e : Entry) (es rest : List Entry) → KeysAreBranches id P es → at e.0 ≡ hit → (lookup at rest ≡ None → values_of rest ≡ drop_item id (values_of es) b)
        → lookup at (cond hit es (e ∷ rest)) ≡ None → values_of (cond hit es (e ∷ rest)) ≡ cond (not hit) (e.1 ∷ drop_item id (values_of es) b) (drop_item id (values_of es) b)
    dropped_step true e es rest keyed hit later none = kept es keyed none
    dropped_step false e es rest keyed hit later none = ap (λ (xs : List A). e.1 ∷ xs) (later (ap (λ h. cond h (Some e.1) (lookup at rest)) (sym hit) ∙ none))

    -- the map has no more of the branch
    pub dropped_is : (es : List Entry) → KeysAreBranches id P es → lookup at (remove_entry at es) ≡ None → values_of (remove_entry at es) ≡ drop_item id (values_of es) b
    dropped_is [] keyed none = refl
    dropped_is (e ∷ es) keyed none =
        dropped_step (at e.0) e es (remove_entry at es) keyed.1 refl (dropped_is es keyed.1) none
        ∙ ap (λ h. cond (not h) (e.1 ∷ drop_item id (values_of es) b) (drop_item id (values_of es) b)) (test_is b e keyed.0.0)

    removed_step : (hit : Bool) (e : Entry) (es rest : List Entry) → KeysAreBranches id P (e ∷ es) → KeysAreBranches id P rest → KeysAreBranches id P (cond hit es (e ∷ rest))
    removed_step true e es rest keyed later = keyed.1
    removed_step false e es rest keyed later = (keyed.0, later)

    pub keyed_removed : (es : List Entry) → KeysAreBranches id P es → KeysAreBranches id P (remove_entry at es)
    keyed_removed [] keyed = tt
    keyed_removed (e ∷ es) keyed = removed_step (at e.0) e es (remove_entry at es) keyed (keyed_removed es keyed.1)
