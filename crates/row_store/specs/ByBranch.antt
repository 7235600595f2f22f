-- How what branches have changed is kept: the changes in maps by the branches' ids, and their undo in a pool, where each branch
-- is an owner.
use Rattle.std.specs.Prelude.{◌≡◌, ◌==◌, ◌+◌, ◌≤◌, ℕ, if◌then◌else◌, List, [], ◌∷◌, length, map, take, drop, sum_by, Option, Some, None}
use Rattle.std.specs.List.{AllByRecursion}
use Rattle.dtx_values.specs.declared.row.Change.{Change}
use Rattle.tran_ids.specs.declared.branch.BranchId.{BranchId}
use Rattle.undo_pool.specs.Pool.{PoolState, all_extents}
use Rattle.undo_book.specs.Undo.{undo_text, undo_of as undo_at}
use Rattle.row_store.specs.declared.own_sets.SetSize.{SetSize}
use Rattle.row_store.specs.declared.pending.ChangeSet.{ChangeSet}
use Rattle.row_store.specs.declared.pending.Owned.{Owned}
use Rattle.row_store.specs.declared.pending.Doubt.{Doubt}
use Rattle.row_store.specs.Store.{used_extents}

-- The changes of a live branch, the sizes of its sets, and the owner of its undo.
pub record KeptSets : Type 0 where
  pub changes : List Change
  pub sizes : List SetSize
  pub owner : ℕ

-- The changes of a branch in doubt, and the owner of its undo.
pub record KeptDoubt : Type 0 where
  pub changes : List Change
  pub owner : ℕ

-- the changes of a live branch that has some
abbrev pub changes_kept : Option KeptSets → List Change
changes_kept None = []
changes_kept (Some x) = x.changes

-- what a live branch holds back as one in doubt; one that has changed nothing has this owner
abbrev pub doubt_kept : ℕ → Option KeptSets → KeptDoubt
doubt_kept next None = record { changes = []; owner = next }
doubt_kept next (Some x) = record { changes = x.changes; owner = x.owner }

-- changes and their undo as sets of these sizes
abbrev pub cut : List SetSize → List Change → List Change → List ChangeSet
cut [] cs us = []
cut (n ∷ ns) cs us = record { changes = take n.changes cs; undo = take n.changes us } ∷ cut ns (drop n.changes cs) (drop n.changes us)

-- what a pool and the map of live branches have of one
abbrev pub own_in : PoolState → BranchId × KeptSets → Owned
own_in p e = record { branch = e.0; sets = cut e.1.sizes e.1.changes (undo_at p e.1.owner) }

-- and of all
abbrev pub owns_in : PoolState → List (BranchId × KeptSets) → List Owned
owns_in p es = map (own_in p) es

-- the branch in doubt whose changes an entry has
abbrev pub held_id : BranchId × KeptDoubt → BranchId
held_id e = e.0

-- what a pool and the map of branches in doubt have of one
abbrev pub doubt_in : PoolState → BranchId × KeptDoubt → Doubt
doubt_in p e = record { branch = e.0; changes = e.1.changes; undo = undo_at p e.1.owner }

-- and of all
abbrev pub doubts_in : PoolState → List (BranchId × KeptDoubt) → List Doubt
doubts_in p es = map (doubt_in p) es

-- how many changes sets of these sizes have
abbrev pub total : List SetSize → ℕ
total ns = sum_by (λ n. n.changes) ns

-- how many bytes the undo of a set takes
abbrev pub set_bytes : ChangeSet → ℕ
set_bytes s = length (undo_text s.undo)

-- sets of these sizes are all of the changes with their undo, and the sizes have the bytes of their undo
pub record AreCut (ns : List SetSize) (cs us : List Change) : Type 0 where
  pub all : total ns ≡ length cs
  pub both : length us ≡ length cs
  pub spelled : map set_bytes (cut ns cs us) ≡ map (λ n. n.undo) ns

-- the live branches with this owner
abbrev pub own_count : ℕ → List (BranchId × KeptSets) → ℕ
own_count o es = sum_by (λ e. if e.1.owner == o then 1 else 0) es

-- the branches in doubt with this owner
abbrev pub doubt_count : ℕ → List (BranchId × KeptDoubt) → ℕ
doubt_count o es = sum_by (λ e. if e.1.owner == o then 1 else 0) es

-- no two branches have one owner, the owners from the next one on have nothing, and what nobody holds is free
pub record AreKept (p : PoolState) (next : ℕ) (es : List (BranchId × KeptSets)) (ds : List (BranchId × KeptDoubt)) : Type 0 where
  pub apart : (o : ℕ) → own_count o es + doubt_count o ds ≤ 1
  pub unused : (o : ℕ) → next ≤ o → own_count o es + doubt_count o ds ≡ 0
  pub empty : (o : ℕ) → next ≤ o → undo_at p o ≡ []
  pub cut : AllByRecursion (λ e. AreCut e.1.sizes e.1.changes (undo_at p e.1.owner)) es
  pub used : p.free + used_extents (owns_in p es) (doubts_in p ds) ≡ all_extents p

-- What live branches and branches in doubt have changed, and the extents that there are for their undo.
pub record PendingState : Type 0 where
  pub owns : List Owned
  pub doubts : List Doubt
  pub extents : ℕ
