-- What a node keeps of rows: the committed ones, what live branches have changed, what branches in doubt hold back, and how
-- many undo extents there are for all.
use Rattle.std.specs.List.{list_any, AllByRecursion}
use Rattle.sql_check.specs.Words.{same_text}
use Rattle.std.specs.Prelude.{◌≡◌, Bool, true, ℕ, ◌+◌, ◌-◌, if◌then◌else◌, List, [], ◌∷◌, ◌++◌, sum_by, length, take, map, nat_lt, is_some, Option, None, Some}
use Rattle.dtx_values.specs.declared.row.Change.{Change}
use Rattle.dtx_values.specs.Limits.{changes_limit}
use Rattle.tran_ids.specs.declared.branch.BranchId.{BranchId}
use Rattle.tran_ids.specs.Branch.{put_by_branch}
use Rattle.tran_ids.specs.Listed.{item_at, put_item, drop_item}
use Rattle.sql_eval.specs.declared.keyed.Keyed.{Keyed}
use Rattle.row_store.specs.declared.pending.ChangeSet.{ChangeSet}
use Rattle.row_store.specs.declared.pending.Owned.{Owned}
use Rattle.row_store.specs.declared.pending.Doubt.{Doubt}
use Rattle.row_store.specs.Own.{changes_length, extents, before, view_of}
use Rattle.row_store.specs.Pending.{changes_of, undo_of, undo_over}
use Rattle.row_store.specs.Tables.{TableRows, apply_all}
use Rattle.row_store.specs.declared.store_err.StoreErr.{StoreErr}
use Rattle.row_store.specs.declared.store_err.StoreErr.TheVariants.{Full, TooLarge, NoMemory}
use Rattle.std.specs.declared.result.Result.{Result}
use Rattle.std.specs.declared.result.Result.TheVariants.{Ok, Err}

-- the branch whose changes these are
abbrev pub own_id : Owned → BranchId
own_id o = o.branch

-- the branch that is in doubt
abbrev pub doubt_id : Doubt → BranchId
doubt_id d = d.branch

-- the sets of changes of a branch that has some
abbrev pub sets_of : Option Owned → List ChangeSet
sets_of None = []
sets_of (Some o) = o.sets

-- the sets of changes of a live branch
abbrev pub sets_at : List Owned → BranchId → List ChangeSet
sets_at owns b = sets_of (item_at own_id owns b)

-- the extents that the undo of sets takes
abbrev pub extents_of_sets : List ChangeSet → ℕ
extents_of_sets sets = extents (changes_length (undo_of sets))

-- the extents that live branches hold
abbrev pub own_extents : List Owned → ℕ
own_extents owns = sum_by (λ o. extents (changes_length (undo_of o.sets))) owns

-- with one more set of a branch
abbrev pub with_set : List Owned → BranchId → ChangeSet → List Owned
with_set owns b s = put_item own_id owns (record { branch = b; sets = sets_at owns b ++ s ∷ [] })

-- all sets but the last
abbrev pub but_last : List ChangeSet → List ChangeSet
but_last sets = take (length sets - 1) sets

-- without the last set of a branch that has some
abbrev pub less_last : List Owned → Option Owned → List Owned
less_last owns None = owns
less_last owns (Some o) = put_item own_id owns (record o { sets = but_last o.sets })

-- without so many sets of a branch, the last ones
abbrev pub less_sets : ℕ → List Owned → Option Owned → List Owned
less_sets n owns None = owns
less_sets n owns (Some o) = put_item own_id owns (record o { sets = take (length o.sets - n) o.sets })

-- so many of a branch's last sets are taken back
abbrev pub without_sets : List Owned → BranchId → ℕ → List Owned
without_sets owns b n = less_sets n owns (item_at own_id owns b)

-- a branch's last set is taken back
abbrev pub without_last : List Owned → BranchId → List Owned
without_last owns b = less_last owns (item_at own_id owns b)

-- the extents that branches in doubt hold
abbrev pub doubt_extents : List Doubt → ℕ
doubt_extents doubts = sum_by (λ d. extents (changes_length d.undo)) doubts

-- the undo extents that live branches and branches in doubt hold
abbrev pub used_extents : List Owned → List Doubt → ℕ
used_extents owns doubts = own_extents owns + doubt_extents doubts

-- Committed rows, the changes of live branches, branches in doubt, and the undo extents that there are for all.
pub record Contents : Type 0 where
  pub rows : List TableRows
  pub owns : List Owned
  pub doubts : List Doubt
  pub extents : ℕ

-- nothing yet
abbrev pub nothing_kept : ℕ → Contents
nothing_kept undo = record { rows = []; owns = []; doubts = []; extents = undo }

-- whether there is a table of a name
abbrev pub has_table : List TableRows → List ℕ → Bool
has_table rows table = list_any (λ t. same_text t.table table) rows

-- each change is of a table that is there
abbrev pub AreOfTables : List TableRows → List Change → Type 0
AreOfTables rows cs = AllByRecursion (λ c. has_table rows c.table ≡ true) cs

-- what a branch has changed
abbrev pub own_changes : Contents → BranchId → List Change
own_changes s b = changes_of (sets_at s.owns b)

-- the rows of a table as a branch sees them
abbrev pub seen_by : Contents → BranchId → List ℕ → List Keyed
seen_by s b table = view_of s.rows (own_changes s b) table

-- the changes of a statement of a branch, each with the row that the branch saw before the statement
abbrev pub set_seen : Contents → BranchId → List Change → ChangeSet
set_seen s b cs = record { changes = cs; undo = map (λ c. before (seen_by s b c.table) c) cs }

-- with the changes of one more statement
abbrev pub with_pending : Contents → BranchId → List Change → Contents
with_pending s b cs = record s { owns = with_set s.owns b (set_seen s b cs) }

-- the bytes of the branch's changes with these
abbrev pub bytes_with : Contents → BranchId → List Change → ℕ
bytes_with s b cs = changes_length (own_changes s b ++ cs)

-- the extents that these changes need beside those that the branch holds
abbrev pub extents_needed : Contents → BranchId → List Change → ℕ
extents_needed s b cs = extents_of_sets (sets_at s.owns b ++ set_seen s b cs ∷ []) - extents_of_sets (sets_at s.owns b)

-- the extents that nobody holds
abbrev pub extents_free : Contents → ℕ
extents_free s = s.extents - used_extents s.owns s.doubts

-- why a store refuses changes: too many bytes, or else too few extents
abbrev pub refusal_of : Contents → BranchId → List Change → Option StoreErr
refusal_of s b cs =
    if nat_lt changes_limit (bytes_with s b cs) then Some (TooLarge (bytes_with s b cs))
    else (if nat_lt (extents_free s) (extents_needed s b cs) then Some (Full (extents_needed s b cs) (extents_free s)) else None)

-- Ok comes only where nothing refuses the changes, and a refusal is the one that is due; memory may run out at any time
abbrev pub RefusesOnly : {A : Type 0} → Result A StoreErr → Option StoreErr → Type 0
RefusesOnly (Ok x) refusal = refusal ≡ None
RefusesOnly (Err NoMemory) refusal = Unit {0}
RefusesOnly (Err (TooLarge bytes)) refusal = refusal ≡ Some (TooLarge bytes)
RefusesOnly (Err (Full need free)) refusal = refusal ≡ Some (Full need free)

-- the branch's changes are committed
abbrev pub committed : Contents → BranchId → Contents
committed s b = record s { rows = apply_all s.rows (own_changes s b); owns = drop_item own_id s.owns b }

-- and rolled back
abbrev pub rolled_back : Contents → BranchId → Contents
rolled_back s b = record s { owns = drop_item own_id s.owns b }

-- a branch that becomes in doubt with these changes: each has its undo over the committed rows
abbrev pub doubt_from : List TableRows → BranchId → List Change → Doubt
doubt_from rows b cs = record { branch = b; changes = cs; undo = undo_over rows cs }

-- with a branch in doubt among the others, which stand in the order of their ids
abbrev pub held_from : Contents → BranchId → List Change → Contents
held_from s b cs = record s { doubts = put_by_branch doubt_id s.doubts (doubt_from s.rows b cs) }

-- a live branch's changes are those of a branch in doubt from now on
abbrev pub sealed : Contents → BranchId → Contents
sealed s b = record (held_from s b (own_changes s b)) { owns = drop_item own_id s.owns b }

-- the changes that a branch in doubt holds back
abbrev pub held_back : Option Doubt → List Change
held_back None = []
held_back (Some d) = d.changes

-- the undo of a branch that is live, or else in doubt
abbrev pub held_by : Option Owned → Option Doubt → List Change
held_by None None = []
held_by None (Some d) = d.undo
held_by (Some o) d = undo_of o.sets

-- the undo that a branch holds among these
abbrev pub undo_held_in : List Owned → List Doubt → BranchId → List Change
undo_held_in owns doubts b = held_by (item_at own_id owns b) (item_at doubt_id doubts b)

-- the undo that a branch holds: each of its changes with the row from before it
abbrev pub undo_held : Contents → BranchId → List Change
undo_held s b = undo_held_in s.owns s.doubts b

-- the branches that may hold undo: the live ones that have run statements, and then those in doubt
abbrev pub holders : List Owned → List Doubt → List BranchId
holders owns doubts = map own_id owns ++ map doubt_id doubts

-- a live branch as one in doubt, with the undo that it holds
abbrev pub sealed_doubt : List Owned → BranchId → Doubt
sealed_doubt owns b = record { branch = b; changes = changes_of (sets_at owns b); undo = undo_of (sets_at owns b) }

-- whether a branch is in doubt
abbrev pub is_in_doubt : List Doubt → BranchId → Bool
is_in_doubt doubts b = is_some (item_at doubt_id doubts b)

-- a branch in doubt puts its changes into the committed rows
abbrev pub doubt_committed : Contents → BranchId → Contents
doubt_committed s b = record s { rows = apply_all s.rows (held_back (item_at doubt_id s.doubts b)); doubts = drop_item doubt_id s.doubts b }

-- and is forgotten with its changes
abbrev pub doubt_dropped : Contents → BranchId → Contents
doubt_dropped s b = record s { doubts = drop_item doubt_id s.doubts b }
