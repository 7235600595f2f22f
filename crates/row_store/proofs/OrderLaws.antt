-- A map of branches in doubt stays in the order of their ids: a branch that comes stands in front of the first that it comes before.
use Rattle.std.proofs.Common.{◌≡◌, ℕ, ◌+◌, ◌-◌, ◌≤◌, Bool, true, false, cond, if◌then◌else◌, not, List, [], ◌∷◌, ◌++◌, length, slice_get, None, Some, Option, is_some, refl, sym, ap, ◌∙◌, arith}
use Rattle.std.specs.Prelude.{nat_lt}
use Rattle.std.specs.List.{insert, remove, position_or_len}
use Rattle.std.specs.Map.{lookup, keys_of}
use Rattle.std.specs.Option.{option_map_or}
use Rattle.std.proofs.lemmas.Bool.Decides.{nat_tests}
use Rattle.std.proofs.lemmas.List.{length-append, append-nil}
use Rattle.std.proofs.lemmas.List.Edits.{remove-append_right}
use Rattle.std.proofs.lemmas.Option.{slice_get_read}
use Rattle.std.proofs.Math.Seq.{get_or-append_seam}
use Rattle.indexmap.specs.IndexMap.{insert_entry, move_index, index_before}
use Rattle.indexmap.proofs.MapLemmas.{absent_from_lookup, insert_entry-absent, or_len-absent}
use Rattle.tran_ids.specs.declared.branch.BranchId.{BranchId}
use Rattle.tran_ids.specs.Branch.{same, branch_below, put_by_branch}
use Rattle.tran_ids.specs.Listed.{item_at}
use Rattle.tran_ids.proofs.BranchLemmas.{put_is_insert}
use Rattle.undo_pool.specs.Pool.{PoolState}
use Rattle.row_store.specs.ByBranch.{KeptDoubt, held_id, doubt_in, doubts_in}
use Rattle.row_store.specs.Store.{doubt_id, is_in_doubt}
use Rattle.row_store.proofs.BranchLaws.{found_as, key_is}
use Rattle.row_store.proofs.KeptLaws.{Held}

-- ---- a branch that the map does not have

absent_if : (e : Held) (here found : Bool) (item : Option Held) (value : Option KeptDoubt) → found ≡ here → (if here then Some e else item) ≡ None → (item ≡ None → value ≡ None) → cond found (Some e.1) value ≡ None
absent_if e true found item value is none later = absurd cc
absent_if e false found item value is none later = ap (λ hit. cond hit (Some e.1) value) is ∙ later none

pub absent_held : (b : BranchId) (ds : List Held) → item_at held_id ds b ≡ None → lookup (found_as b) ds ≡ None
absent_held b [] none = refl
absent_held b (e ∷ ds) none = absent_if e (same e.0 b) (found_as b e.0) (item_at held_id ds b) (lookup (found_as b) ds) (key_is b e.0) none (absent_held b ds)

-- ---- a pair that goes last and is moved

slice_seam : {X : Type 0} (xs : List X) (x : X) → slice_get (xs ++ x ∷ []) (length xs) ≡ Some x
slice_seam xs x =
    slice_get_read (xs ++ x ∷ []) (length (xs ++ x ∷ [])) (length xs) x refl (let l = length-append xs (x ∷ []) in omega (arith, l)) (sym (get_or-append_seam xs x [] x))

remove_seam : {X : Type 0} (xs : List X) (x : X) → remove (xs ++ x ∷ []) (length xs) ≡ xs
remove_seam xs x =
    let none : length xs - length xs ≡ 0 = omega arith in
    remove-append_right xs (x ∷ []) (length xs) (length xs) refl (omega arith) ∙ ap (λ n. xs ++ remove (x ∷ []) n) none ∙ append-nil xs

before_is : (n i : ℕ) (past : Bool) → nat_lt n i ≡ past → i ≤ n → ◌≡◌ {A = ℕ} (if past then i - 1 else i) i
before_is n i true is within = absurd (grind (arith, nat_tests, is, within))
before_is n i false is within = refl

moved : {X : Type 0} (xs : List X) (x : X) (i : ℕ) → i ≤ length xs → move_index (xs ++ x ∷ []) (length xs) (index_before (length xs) i) ≡ insert xs i x
moved {X} xs x i within =
    ap (move_index (xs ++ x ∷ []) (length xs)) (before_is (length xs) i (nat_lt (length xs) i) refl within)
    ∙ ap (λ (o : Option X). option_map_or (λ y. insert (remove (xs ++ x ∷ []) (length xs)) i y) o (xs ++ x ∷ [])) (slice_seam xs x)
    ∙ ap (λ (ys : List X). insert ys i x) (remove_seam xs x)

-- ---- where it stands

place_step : (b : BranchId) (e : Held) (ds : List Held) → position_or_len (branch_below b) (keys_of ds) ≡ position_or_len (λ d. branch_below b (held_id d)) ds
    → position_or_len (branch_below b) (keys_of (e ∷ ds)) ≡ position_or_len (λ d. branch_below b (held_id d)) (e ∷ ds)
place_step b e ds rest = ap (λ (n : ℕ). if not (branch_below b e.0) then 1 + n else 0) rest

place_is : (b : BranchId) (ds : List Held) → position_or_len (branch_below b) (keys_of ds) ≡ position_or_len (λ d. branch_below b (held_id d)) ds
place_is b [] = refl
place_is b (e ∷ ds) = place_step b e ds (place_is b ds)

-- the entries, where the branch is put in front of this place
pub placed_entries : (b : BranchId) (x : KeptDoubt) (ds : List Held) (place : ℕ) → lookup (found_as b) ds ≡ None
    → place ≡ position_or_len (branch_below b) (keys_of ds) → place ≤ length ds
    → move_index (insert_entry found_as ds b x) (position_or_len (found_as b) (keys_of ds)) (index_before (position_or_len (found_as b) (keys_of ds)) place) ≡ put_by_branch held_id ds (b, x)
placed_entries b x ds place none is within =
    let absent = absent_from_lookup (found_as b) ds none in
    let last = or_len-absent (found_as b) ds absent in
    ap (λ es. move_index es (position_or_len (found_as b) (keys_of ds)) (index_before (position_or_len (found_as b) (keys_of ds)) place)) (insert_entry-absent found_as b x ds absent)
    ∙ ap (λ n. move_index (ds ++ (b, x) ∷ []) n (index_before n place)) last
    ∙ moved ds (b, x) place within
    ∙ ap (λ n. insert ds n (b, x)) (is ∙ place_is b ds)
    ∙ sym (put_is_insert held_id ds (b, x))

-- ---- a branch that is not in doubt has no entry

not_held_if : (p : PoolState) (e : Held) (ds : List Held) (b : BranchId) (here : Bool) → is_some (if here then Some (doubt_in p e) else item_at doubt_id (doubts_in p ds) b) ≡ false
    → (is_in_doubt (doubts_in p ds) b ≡ false → item_at held_id ds b ≡ None) → (if here then Some e else item_at held_id ds b) ≡ None
not_held_if p e ds b true none later = absurd cc
not_held_if p e ds b false none later = later none

pub not_held : (p : PoolState) (b : BranchId) (ds : List Held) → is_in_doubt (doubts_in p ds) b ≡ false → item_at held_id ds b ≡ None
not_held p b [] none = refl
not_held p b (e ∷ ds) none = not_held_if p e ds b (same e.0 b) none (not_held p b ds)
