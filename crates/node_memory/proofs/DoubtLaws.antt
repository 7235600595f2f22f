-- The branches in doubt as their records have them hold the same keys as those that are stored.
use Rattle.std.proofs.Common.{◌≡◌, ℕ, zero, suc, ◌+◌, Bool, true, false, not, cond, if◌then◌else◌, List, [], ◌∷◌, map, refl, sym, ap, ◌∙◌}
use Rattle.std.specs.Prelude.{filter, fold}
use Rattle.std.specs.List.{insert, position_or_len}
use Rattle.std.proofs.lemmas.List.Folds.{fold-map}
use Rattle.tran_ids.specs.declared.branch.BranchId.{BranchId}
use Rattle.tran_ids.specs.Branch.{same, branch_below, put_by_branch}
use Rattle.tran_ids.proofs.BranchLemmas.{put_is_insert}
use Rattle.row_store.proofs.OrderLemmas.{map_placed}
use Rattle.tran_ids.specs.Listed.{drop_item}
use Rattle.row_locks.specs.Locks.{Lock}
use Rattle.row_store.specs.Store.{doubt_id}
use Rattle.node_rules.specs.Data.{RedoRecord, Sealed, Doubt, Change}
use Rattle.node_rules.specs.Data.records
use Rattle.node_rules.specs.NodeState.{Stored}
use Rattle.node_rules.specs.Records.{nothing_stored, applied, stored_by, with_doubt, doubt_over}
use Rattle.node_rules.specs.Turn.{with_doubt_of}
use Rattle.node_memory.specs.Doubts.{sealed_id, in_doubt_after, in_doubt_by, with_keys_of}

module _ {A B : Type 0} (f : A → B) where
  map_filter_if : (q : B → Bool) (x : A) (xs : List A) (here : Bool) → q (f x) ≡ here → map f (filter (λ y. q (f y)) xs) ≡ filter q (map f xs)
      → map f (cond here (x ∷ filter (λ y. q (f y)) xs) (filter (λ y. q (f y)) xs)) ≡ cond here (f x ∷ filter q (map f xs)) (filter q (map f xs))
  map_filter_if q x xs true is rest = ap (λ ys. f x ∷ ys) rest
  map_filter_if q x xs false is rest = rest

  -- what passes, up to f, is what passes of the values of f
  pub map_filter : (q : B → Bool) (xs : List A) → map f (filter (λ y. q (f y)) xs) ≡ filter q (map f xs)
  map_filter q [] = refl
  map_filter q (x ∷ xs) = map_filter_if q x xs (q (f x)) refl (map_filter q xs)

  map_insert : (xs : List A) (i : ℕ) (x : A) → map f (insert xs i x) ≡ insert (map f xs) i (f x)
  map_insert [] zero x = refl
  map_insert [] (suc i) x = refl
  map_insert (y ∷ ys) zero x = refl
  map_insert (y ∷ ys) (suc i) x = ap (λ zs. f y ∷ zs) (map_insert ys i x)

  place_if : (q : B → Bool) (x : A) (xs : List A) (here : Bool) → position_or_len (λ y. q (f y)) xs ≡ position_or_len q (map f xs)
      → (if not here then 1 + position_or_len (λ y. q (f y)) xs else 0) ≡ (if not here then 1 + position_or_len q (map f xs) else 0)
  place_if q x xs true rest = refl
  place_if q x xs false rest = ap (λ n. 1 + n) rest

  place_kept : (q : B → Bool) (xs : List A) → position_or_len (λ y. q (f y)) xs ≡ position_or_len q (map f xs)
  place_kept q [] = refl
  place_kept q (x ∷ xs) = place_if q x xs (q (f x)) (place_kept q xs)

-- a record among others by references to them, in front of the first that it comes before
pub entered : {A : Type 0} (now : A → Sealed) (doubts : List A) (x : A) (place : ℕ) → place ≡ position_or_len (λ y. branch_below (now x).me (now y).me) doubts
    → map now (insert doubts place x) ≡ put_by_branch sealed_id (map now doubts) (now x)
entered now doubts x place at =
    map_insert now doubts place x
    ∙ ap (λ n. insert (map now doubts) n (now x)) (at ∙ place_kept now (λ r. branch_below (now x).me r.me) doubts)
    ∙ sym (put_is_insert sealed_id (map now doubts) (now x))

-- a branch with its changes
abbrev Held : Type 0
Held = BranchId × List Change

abbrev by_record : Sealed → Held
by_record r = (r.me, r.changes)

abbrev by_doubt : Doubt → Held
by_doubt d = (d.branch, d.changes)

abbrev held_id : Held → BranchId
held_id h = h.0

abbrev with_held : List Lock → Held → List Lock
with_held locks h = with_doubt locks h.0 h.1

left_alike : (doubts : List Sealed) (ds : List Doubt) (b : BranchId) → map by_record doubts ≡ map by_doubt ds → map by_record (drop_item sealed_id doubts b) ≡ map by_doubt (drop_item doubt_id ds b)
left_alike doubts ds b alike =
    map_filter by_record (λ h. not (same (held_id h) b)) doubts ∙ ap (λ hs. drop_item held_id hs b) alike ∙ sym (map_filter by_doubt (λ h. not (same (held_id h) b)) ds)

-- one more record
alike_after : (s : Stored) (doubts : List Sealed) (r : RedoRecord) → map by_record doubts ≡ map by_doubt s.doubts → map by_record (in_doubt_after doubts r) ≡ map by_doubt (applied s r).doubts
unfolding applied
alike_after s doubts (records.Boot n) alike = alike
alike_after s doubts (records.Table t) alike = alike
alike_after s doubts (records.Link l) alike = alike
alike_after s doubts (records.Synonym y) alike = alike
alike_after s doubts (records.Param p) alike = alike
alike_after s doubts (records.Sealed r) alike =
    map_placed held_id by_record doubts r ∙ ap (λ hs. put_by_branch held_id hs (by_record r)) alike ∙ sym (map_placed held_id by_doubt s.doubts (doubt_over s.rows r))
alike_after s doubts (records.Decided r) alike = alike
alike_after s doubts (records.Ended b d) alike = left_alike doubts s.doubts b alike
alike_after s doubts (records.Forced b d given) alike = left_alike doubts s.doubts b alike
alike_after s doubts (records.Met b d mixed) alike = alike
alike_after s doubts (records.Forgot b) alike = alike
alike_after s doubts (records.Hidden b) alike = alike
alike_after s doubts (records.Image i) alike = alike

alike_by : (s : Stored) (doubts : List Sealed) (rs : List RedoRecord) → map by_record doubts ≡ map by_doubt s.doubts → map by_record (fold in_doubt_after doubts rs) ≡ map by_doubt (stored_by s rs).doubts
unfolding stored_by
alike_by s doubts [] alike = alike
alike_by s doubts (r ∷ rs) alike = alike_by (applied s r) (in_doubt_after doubts r) rs (alike_after s doubts r alike)

-- the keys that a start takes again are those of the branches that are stored in doubt
pub keys_at_start : (rs : List RedoRecord) → fold with_keys_of [] (in_doubt_by rs) ≡ fold with_doubt_of [] (stored_by nothing_stored rs).doubts
keys_at_start rs =
    sym (fold-map with_held by_record [] (in_doubt_by rs)) ∙ ap (fold with_held []) (alike_by nothing_stored [] rs refl) ∙ fold-map with_held by_doubt [] (stored_by nothing_stored rs).doubts

-- by references to the records
pub locks_at_start : {A : Type 0} (now : A → Sealed) (doubts : List A) (rs : List RedoRecord) → map now doubts ≡ in_doubt_by rs
    → fold (λ locks x. with_keys_of locks (now x)) [] doubts ≡ fold with_doubt_of [] (stored_by nothing_stored rs).doubts
locks_at_start now doubts rs is = sym (fold-map with_keys_of now [] doubts) ∙ ap (fold with_keys_of []) is ∙ keys_at_start rs
