-- A statement over the store of a node: what it meets there, and what it leaves. A store refuses changes exactly where the
-- rules of space do.
use Rattle.std.specs.Prelude.{◌≡◌, false, List, [], ◌∷◌, Option, None, Some}
use Rattle.std.specs.List.{AllByRecursion}
use Rattle.dtx_values.specs.declared.row.Change.{Change}
use Rattle.dtx_values.specs.declared.table.Table.{Table}
use Rattle.dtx_values.specs.declared.answer.Refusal.{Refusal}
use Rattle.tran_ids.specs.declared.branch.BranchId.{BranchId}
use Rattle.tran_ids.specs.Numbers.{decimal}
use Rattle.sql_eval.specs.declared.keyed.Keyed.{Keyed}
use Rattle.sql_check.specs.Refusals.{ora, dtx}
use Rattle.row_locks.specs.Locks.{Lock}
use Rattle.row_store.specs.declared.pending.Owned.{Owned}
use Rattle.row_store.specs.declared.store_err.StoreErr.{StoreErr}
use Rattle.row_store.specs.declared.store_err.StoreErr.TheVariants.{Full, TooLarge, NoMemory}
use Rattle.row_store.specs.Own.{changes_length}
use Rattle.row_store.specs.Pending.{undo_of, set_over}
use Rattle.row_store.specs.Store.{Contents, sets_at, with_set, with_pending, own_changes, seen_by, extents_free, refusal_of}
use Rattle.stmt_run.specs.declared.ran.StmtOutcome.{StmtOutcome}
use Rattle.stmt_run.specs.declared.ran.StmtOutcome.TheVariants.{Writes}
use Rattle.stmt_run.specs.Run.{StmtContext, space_refusal}

-- what a statement of a branch meets at a table of a store, where it reads the newest rows
abbrev pub ground_in : Contents → List Lock → BranchId → Table → StmtContext
ground_in s locks b t = record {
  me = b;
  view = seen_by s b t.name;
  too_old = false;
  locks = locks;
  bytes = changes_length (own_changes s b);
  undo = changes_length (undo_of (sets_at s.owns b));
  free = extents_free s;
}

-- what live branches have changed after a run: an accepted change of rows is one more set
abbrev pub owns_after : List Owned → BranchId → List Keyed → StmtOutcome → List Owned
owns_after owns b view (Writes d cs keys undo) = with_set owns b (set_over view cs)
owns_after owns b view _ = owns

-- the store after a run
abbrev pub store_after_run : Contents → BranchId → Table → StmtOutcome → Contents
store_after_run s b t r = record s { owns = owns_after s.owns b (seen_by s b t.name) r }

-- what is answered where a store refuses changes
abbrev pub refusal_told : Option StoreErr → Option Refusal
refusal_told None = None
refusal_told (Some (TooLarge bytes)) = Some (dtx 16 [])
refusal_told (Some (Full need free)) = Some (ora 30036 (decimal need ∷ decimal free ∷ []))
refusal_told (Some NoMemory) = None

-- changes that are all of one table
abbrev pub AreOfOneTable : Table → List Change → Type 0
AreOfOneTable t cs = AllByRecursion (λ c. c.table ≡ t.name) cs

-- the changes of a statement are refused by the store where the rules refuse them, and by the same refusal
abbrev pub StoreRefusesAlike : Type 0
StoreRefusesAlike = (s : Contents) (locks : List Lock) (b : BranchId) (t : Table) (cs : List Change) → AreOfOneTable t cs
    → space_refusal (ground_in s locks b t) cs ≡ refusal_told (refusal_of s b cs)

-- and where it takes them, they are one more set of the branch, over the rows that it saw
abbrev pub StoreTakesOneSet : Type 0
StoreTakesOneSet = (s : Contents) (b : BranchId) (t : Table) (cs : List Change) → AreOfOneTable t cs
    → with_pending s b cs ≡ record s { owns = with_set s.owns b (set_over (seen_by s b t.name) cs) }
