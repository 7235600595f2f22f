-- What the maps of branches and the pool have of a branch, as the lists of branches say it.
use Rattle.std.proofs.Common.{◌≡◌, ℕ, false, List, [], length, None, Some, Option, is_some, true≢false, refl, sym, ap, subst, ◌∙◌, arith}
use Rattle.std.specs.Map.{lookup}
use Rattle.std.specs.Option.{option_map}
use Rattle.dtx_values.specs.declared.row.Change.{Change}
use Rattle.tran_ids.specs.declared.branch.BranchId.{BranchId}
use Rattle.tran_ids.specs.Listed.{item_at}
use Rattle.row_size_laws.proofs.LengthLaws.{changes_length_is}
use Rattle.undo_pool.specs.Pool.{PoolState}
use Rattle.undo_book.specs.Undo.{undo_text, undo_of as undo_at}
use Rattle.undo_book.proofs.UndoLaws.{say, nothing}
use Rattle.row_store.specs.declared.pending.Owned.{Owned}
use Rattle.row_store.specs.declared.pending.Doubt.{Doubt}
use Rattle.row_store.specs.Own.{changes_length}
use Rattle.row_store.specs.Pending.{changes_of, undo_of}
use Rattle.row_store.specs.ByBranch.{KeptSets, KeptDoubt, own_in, owns_in, doubt_in, doubts_in, changes_kept, AreKept}
use Rattle.row_store.specs.Store.{own_id, doubt_id, sets_of, sets_at, held_back, held_by, undo_held_in, is_in_doubt}
use Rattle.row_store.proofs.BranchLaws.{found_as, found}
use Rattle.row_store.proofs.KeptLaws.{Entry, Held, AllCut}
use Rattle.row_store.proofs.PoolLaws.{changes_are, undo_is, cut_found}

-- nothing is there
pub not_there : {X : Type 0} (o : Option X) → false ≡ is_some o → o ≡ None
not_there None e = refl
not_there (Some x) e = absurd (true≢false (sym e))

nothing_kept : (p : PoolState) (n : ℕ) → p ≡ record { used = []; free = n } → AreKept p 0 [] []
nothing_kept p n is = record {
  apart = λ o. omega arith;
  unused = λ o high. refl;
  empty = λ o high. ap (λ q. undo_at q o) is ∙ say [] [] nothing;
  cut = tt;
  used = let all = ap (λ q. length q.used) is in omega arith;
}

-- nothing is kept yet
pub none_kept : (p : PoolState) (n : ℕ) (es : List Entry) (ds : List Held) → p ≡ record { used = []; free = n } → es ≡ [] → ds ≡ [] → AreKept p 0 es ds
none_kept p n es ds is no_own no_doubt = subst (AreKept p 0 es) (sym no_doubt) (subst (λ fs. AreKept p 0 fs []) (sym no_own) (nothing_kept p n is))

-- what a map has of a branch
pub own_there : (p : PoolState) (b : BranchId) (es : List Entry) → option_map (λ y. own_in p (b, y)) (lookup (found_as b) es) ≡ item_at own_id (owns_in p es) b
own_there p b es = found (λ c y. own_in p (c, y)) own_id (λ c y. refl) b es

pub doubt_there : (p : PoolState) (b : BranchId) (ds : List Held) → option_map (λ y. doubt_in p (b, y)) (lookup (found_as b) ds) ≡ item_at doubt_id (doubts_in p ds) b
doubt_there p b ds = found (λ c y. doubt_in p (c, y)) doubt_id (λ c y. refl) b ds

-- the changes of a live branch
changes_by : (p : PoolState) (b : BranchId) (es : List Entry) (o : Option KeptSets) → lookup (found_as b) es ≡ o → AllCut p es
    → changes_kept o ≡ changes_of (sets_of (option_map (λ y. own_in p (b, y)) o))
changes_by p b es None is all = refl
changes_by p b es (Some x) is all = sym (changes_are x (undo_at p x.owner) (cut_found p (found_as b) es x is all))

pub changes_there : (p : PoolState) (b : BranchId) (es : List Entry) → AllCut p es → changes_kept (lookup (found_as b) es) ≡ changes_of (sets_at (owns_in p es) b)
changes_there p b es all = changes_by p b es (lookup (found_as b) es) refl all ∙ ap (λ o. changes_of (sets_of o)) (own_there p b es)

-- a branch that is not there
pub no_own : (p : PoolState) (b : BranchId) (es : List Entry) → lookup (found_as b) es ≡ None → item_at own_id (owns_in p es) b ≡ None
no_own p b es none = sym (own_there p b es) ∙ ap (option_map (λ y. own_in p (b, y))) none

pub no_doubt : (p : PoolState) (b : BranchId) (ds : List Held) → lookup (found_as b) ds ≡ None → item_at doubt_id (doubts_in p ds) b ≡ None
no_doubt p b ds none = sym (doubt_there p b ds) ∙ ap (option_map (λ y. doubt_in p (b, y))) none

not_some : (o : Option KeptDoubt) (f : KeptDoubt → Doubt) → is_some (option_map f o) ≡ false → o ≡ None
not_some None f e = refl
not_some (Some x) f e = absurd (true≢false e)

pub not_in_doubt : (p : PoolState) (b : BranchId) (ds : List Held) → is_in_doubt (doubts_in p ds) b ≡ false → lookup (found_as b) ds ≡ None
not_in_doubt p b ds none = not_some (lookup (found_as b) ds) (λ y. doubt_in p (b, y)) (ap is_some (doubt_there p b ds) ∙ none)

none_own_if : (o : Option KeptSets) (f : KeptSets → Owned) → option_map f o ≡ None → o ≡ None
none_own_if None f e = refl
none_own_if (Some x) f e = absurd cc

pub absent_own : (p : PoolState) (b : BranchId) (es : List Entry) → item_at own_id (owns_in p es) b ≡ None → lookup (found_as b) es ≡ None
absent_own p b es none = none_own_if (lookup (found_as b) es) (λ y. own_in p (b, y)) (own_there p b es ∙ none)

-- the bytes of a live branch's undo
pub bytes_there : (p : PoolState) (b : BranchId) (es : List Entry) (x : KeptSets) → lookup (found_as b) es ≡ Some x → AllCut p es
    → length (undo_text (undo_at p x.owner)) ≡ changes_length (undo_of (sets_at (owns_in p es) b))
bytes_there p b es x there all =
    sym (changes_length_is (undo_at p x.owner))
    ∙ ap changes_length (sym (undo_is x (undo_at p x.owner) (cut_found p (found_as b) es x there all)))
    ∙ ap (λ o. changes_length (undo_of (sets_of o))) (sym (ap (option_map (λ y. own_in p (b, y))) there) ∙ own_there p b es)

-- ---- the undo that a branch holds

pub held_live : (p : PoolState) (b : BranchId) (es : List Entry) (ds : List Held) (x : KeptSets) → lookup (found_as b) es ≡ Some x → AllCut p es
    → undo_at p x.owner ≡ undo_held_in (owns_in p es) (doubts_in p ds) b
held_live p b es ds x there all =
    held_some (own_in p (b, x)) (item_at doubt_id (doubts_in p ds) b) (undo_at p x.owner) (sym (undo_is x (undo_at p x.owner) (cut_found p (found_as b) es x there all)))
    ∙ ap (λ o. held_by o (item_at doubt_id (doubts_in p ds) b)) (sym (ap (option_map (λ y. own_in p (b, y))) there) ∙ own_there p b es)
  where
    held_some : (o : Owned) (d : Option Doubt) (us : List Change) → us ≡ undo_of o.sets → us ≡ held_by (Some o) d
    held_some o None us is = is
    held_some o (Some d) us is = is

pub held_doubt : (p : PoolState) (b : BranchId) (es : List Entry) (ds : List Held) (x : KeptDoubt) → lookup (found_as b) es ≡ None → lookup (found_as b) ds ≡ Some x
    → undo_at p x.owner ≡ undo_held_in (owns_in p es) (doubts_in p ds) b
held_doubt p b es ds x none there =
    let d = sym (ap (option_map (λ y. doubt_in p (b, y))) there) ∙ doubt_there p b ds in
    let o = sym (no_own p b es none) in
    (λ i. held_by (o i) (d i))

pub held_none : (p : PoolState) (b : BranchId) (es : List Entry) (ds : List Held) → lookup (found_as b) es ≡ None → lookup (found_as b) ds ≡ None
    → [] ≡ undo_held_in (owns_in p es) (doubts_in p ds) b
held_none p b es ds none neither =
    let o = sym (no_own p b es none) in
    let d = sym (no_doubt p b ds neither) in
    (λ i. held_by (o i) (d i))

-- the changes of a branch in doubt
pub held_there : (p : PoolState) (b : BranchId) (ds : List Held) (x : KeptDoubt) → lookup (found_as b) ds ≡ Some x → x.changes ≡ held_back (item_at doubt_id (doubts_in p ds) b)
held_there p b ds x there = ap held_back (sym (ap (option_map (λ y. doubt_in p (b, y))) there) ∙ doubt_there p b ds)
