-- Changes that are kept with their undo in a pool, where an owner's undo changes: what the others have stays.
use Rattle.std.proofs.Common.{◌≡◌, ◌==◌, ℕ, ◌+◌, ◌≤◌, zero, suc, Bool, true, false, cond, if◌then◌else◌, List, [], ◌∷◌, ◌++◌, slice_get, Some, unwrap_or, refl, sym, ap, subst, ◌∙◌, arith}
use Rattle.std.specs.List.{AllByRecursion}
use Rattle.std.specs.Map.{lookup, values_of, remove_entry}
use Rattle.std.proofs.lemmas.Bool.{eq-eqb, eqb-true}
use Rattle.std.proofs.lemmas.List.Sums.{sum_by-cons}
use Rattle.indexmap.specs.Layout.{set_value_at}
use Rattle.tran_ids.specs.declared.branch.BranchId.{BranchId}
use Rattle.tran_ids.specs.Branch.{same}
use Rattle.tran_ids.specs.Listed.{put_item}
use Rattle.undo_pool.specs.Pool.{PoolState}
use Rattle.undo_book.specs.Undo.{undo_of as undo_at, OthersStay}
use Rattle.row_store.specs.declared.pending.Owned.{Owned}
use Rattle.row_store.specs.declared.pending.Doubt.{Doubt}
use Rattle.row_store.specs.ByBranch.{KeptSets, KeptDoubt, cut, own_in, owns_in, doubts_in, AreCut, own_count, doubt_count}
use Rattle.row_store.specs.Store.{own_id}
use Rattle.row_store.proofs.BranchLaws.{found_as, key_is}
use Rattle.row_store.proofs.Totals.{total_at, total_removed}

abbrev pub Entry : Type 0
Entry = BranchId × KeptSets

abbrev pub Held : Type 0
Held = BranchId × KeptDoubt

-- ---- how often an owner is one

abbrev pub is_at : ℕ → ℕ → ℕ
is_at o n = if n == o then 1 else 0

pub at_self : (n o : ℕ) → n ≡ o → is_at o n ≡ 1
at_self n o is = ap (λ b. if b then 1 else 0) (eq-eqb n o is)

at_if : (b : Bool) → (if b then 1 else 0) ≤ 1
at_if true = omega arith
at_if false = omega arith

pub at_most : (n o : ℕ) → is_at o n ≤ 1
at_most n o = at_if (n == o)

pub at_other : (n o : ℕ) → (n ≡ o → ⊥) → is_at o n ≡ 0
at_other n o other = go (n == o) refl where
  go : (b : Bool) → (n == o) ≡ b → ◌≡◌ {A = ℕ} (if b then 1 else 0) 0
  go true is = absurd (other (eqb-true n o is))
  go false is = refl

-- the entries of which a pool has all
abbrev pub AllCut : PoolState → List Entry → Type 0
AllCut p es = AllByRecursion (λ e. AreCut e.1.sizes e.1.changes (undo_at p e.1.owner)) es

pub own_first : (o : ℕ) (e : Entry) (es : List Entry) → own_count o (e ∷ es) ≡ is_at o e.1.owner + own_count o es
own_first o e es = sum_by-cons (λ (d : Entry). is_at o d.1.owner) e es

pub doubt_first : (o : ℕ) (e : Held) (es : List Held) → doubt_count o (e ∷ es) ≡ is_at o e.1.owner + doubt_count o es
doubt_first o e es = sum_by-cons (λ (d : Held). is_at o d.1.owner) e es

-- an entry that is found is one
pub own_found : (o : ℕ) (test : BranchId → Bool) (es : List Entry) (x : KeptSets) → lookup test es ≡ Some x → own_count o (remove_entry test es) + is_at o x.owner ≡ own_count o es
own_found o test es x there = total_removed (λ (y : KeptSets). is_at o y.owner) test es x there

pub doubt_found : (o : ℕ) (test : BranchId → Bool) (es : List Held) (x : KeptDoubt) → lookup test es ≡ Some x → doubt_count o (remove_entry test es) + is_at o x.owner ≡ doubt_count o es
doubt_found o test es x there = total_removed (λ (y : KeptDoubt). is_at o y.owner) test es x there

-- ---- what the others have

module _ (p q : PoolState) (o : ℕ) (others : OthersStay p q o) where
  same_undo : (n : ℕ) → is_at o n ≡ 0 → undo_at q n ≡ undo_at p n
  same_undo n none = others n (λ is. absurd (let one = at_self n o is in omega arith))

  pub still_own : (es : List Entry) → own_count o es ≡ 0 → owns_in q es ≡ owns_in p es
  still_own [] none = refl
  still_own (e ∷ es) none =
      let s = own_first o e es in
      let undo = same_undo e.1.owner (omega arith) in
      let rest = still_own es (omega arith) in
      (λ i. let x : Owned = record { branch = e.0; sets = cut e.1.sizes e.1.changes (undo i) } in x ∷ rest i)

  pub still_doubt : (ds : List Held) → doubt_count o ds ≡ 0 → doubts_in q ds ≡ doubts_in p ds
  still_doubt [] none = refl
  still_doubt (e ∷ ds) none =
      let s = doubt_first o e ds in
      let undo = same_undo e.1.owner (omega arith) in
      let rest = still_doubt ds (omega arith) in
      (λ i. let x : Doubt = record { branch = e.0; changes = e.1.changes; undo = undo i } in x ∷ rest i)

  pub still_cut : (es : List Entry) → own_count o es ≡ 0 → AllCut p es → AllCut q es
  still_cut [] none all = tt
  still_cut (e ∷ es) none all =
      let s = own_first o e es in
      (subst (AreCut e.1.sizes e.1.changes) (sym (same_undo e.1.owner (omega arith))) all.0, still_cut es (omega arith) all.1)

  -- ---- an entry of this owner that changes

  put_step : (hit : Bool) (e : Entry) (es : List Entry) (b : BranchId) (x : KeptSets) (z : Owned) → cond hit (Some e.1) (lookup (found_as b) es) ≡ Some x → x.owner ≡ o
      → own_count o (e ∷ es) ≤ 1
      → (lookup (found_as b) es ≡ Some x → own_count o es ≤ 1 → put_item own_id (owns_in q es) z ≡ put_item own_id (owns_in p es) z)
      → cond hit (z ∷ owns_in q es) (own_in q e ∷ put_item own_id (owns_in q es) z) ≡ cond hit (z ∷ owns_in p es) (own_in p e ∷ put_item own_id (owns_in p es) z)
  put_step true e es b x z there at few later =
      let s = own_first o e es in
      let one : is_at o e.1.owner ≡ 1 = ap (λ r. is_at o (unwrap_or r x).owner) there ∙ at_self x.owner o at in
      ap (λ (os : List Owned). z ∷ os) (still_own es (omega arith))
  put_step false e es b x z there at few later =
      let s = own_first o e es in
      let found = own_found o (found_as b) es x there in
      let one = at_self x.owner o at in
      let undo = same_undo e.1.owner (omega arith) in
      let rest = later there (omega arith) in
      (λ i. let y : Owned = record { branch = e.0; sets = cut e.1.sizes e.1.changes (undo i) } in y ∷ rest i)

  pub put_still : (es : List Entry) (b : BranchId) (x : KeptSets) (z : Owned) → z.branch ≡ b → lookup (found_as b) es ≡ Some x → x.owner ≡ o → own_count o es ≤ 1
      → put_item own_id (owns_in q es) z ≡ put_item own_id (owns_in p es) z
  put_still [] b x z is there at few = absurd cc
  put_still (e ∷ es) b x z is there at few =
      let hit : same e.0 z.branch ≡ found_as b e.0 = ap (same e.0) is ∙ sym (key_is b e.0) in
      ap (λ h. cond h (z ∷ owns_in q es) (own_in q e ∷ put_item own_id (owns_in q es) z)) hit
      ∙ put_step (found_as b e.0) e es b x z there at few (λ found less. put_still es b x z is found at less)
      ∙ ap (λ h. cond h (z ∷ owns_in p es) (own_in p e ∷ put_item own_id (owns_in p es) z)) (sym hit)

  pub set_cut : (es : List Entry) (i : ℕ) (x y : KeptSets) → slice_get (values_of es) i ≡ Some x → x.owner ≡ o → own_count o es ≤ 1
      → AreCut y.sizes y.changes (undo_at q y.owner) → AllCut p es → AllCut q (set_value_at es i y)
  set_cut [] i x y there at few one all = absurd cc
  set_cut (e ∷ es) zero x y there at few one all =
      let s = own_first o e es in
      let here : is_at o e.1.owner ≡ 1 = ap (λ r. is_at o (unwrap_or r x).owner) there ∙ at_self x.owner o at in
      (one, still_cut es (omega arith) all.1)
  set_cut (e ∷ es) (suc i) x y there at few one all =
      let s = own_first o e es in
      let more = total_at (λ (z : KeptSets). is_at o z.owner) es i x there in
      let here = at_self x.owner o at in
      (subst (AreCut e.1.sizes e.1.changes) (sym (same_undo e.1.owner (omega arith))) all.0, set_cut es i x y there at (omega arith) one all.1)

-- ---- an entry that leaves, and one that comes

cut_if : (p : PoolState) (hit : Bool) (e : Entry) (es rest : List Entry) → AllCut p (e ∷ es) → AllCut p rest → AllCut p (cond hit es (e ∷ rest))
cut_if p true e es rest all later = all.1
cut_if p false e es rest all later = (all.0, later)

pub remove_cut : (p : PoolState) (test : BranchId → Bool) (es : List Entry) → AllCut p es → AllCut p (remove_entry test es)
remove_cut p test [] all = tt
remove_cut p test (e ∷ es) all = cut_if p (test e.0) e es (remove_entry test es) all (remove_cut p test es all.1)

pub push_cut : (p : PoolState) (es : List Entry) (e : Entry) → AllCut p es → AreCut e.1.sizes e.1.changes (undo_at p e.1.owner) → AllCut p (es ++ e ∷ [])
push_cut p [] e all one = (one, tt)
push_cut p (d ∷ es) e all one = (all.0, push_cut p es e all.1 one)

-- the same value put at its place
pub same_set : {X : Type 0} (es : List (BranchId × X)) (i : ℕ) (x : X) → slice_get (values_of es) i ≡ Some x → set_value_at es i x ≡ es
same_set [] i x there = refl
same_set {X} (e ∷ es) zero x there = ap (λ (y : X). (e.0, y) ∷ es) (sym (ap (λ o. unwrap_or o x) there))
same_set {X} (e ∷ es) (suc i) x there = ap (λ (ds : List (BranchId × X)). e ∷ ds) (same_set es i x there)
