-- One statement at the node of its table: what it meets there, and what it does.
use Rattle.std.specs.Prelude.{ℕ, ◌+◌, ◌-◌, Bool, true, false, List, [], ◌∷◌, map, fold, length, nat_lt, Option, Some, None}
use Rattle.dtx_values.specs.declared.value.Value.{Value}
use Rattle.dtx_values.specs.declared.row.Change.{Change}
use Rattle.dtx_values.specs.declared.table.Table.{Table}
use Rattle.dtx_values.specs.declared.answer.Refusal.{Refusal}
use Rattle.dtx_values.specs.declared.answer.Done.{Done}
use Rattle.dtx_values.specs.declared.answer.Answer.{Answer}
use Rattle.dtx_values.specs.declared.answer.Answer.TheVariants as answers
use Rattle.tran_ids.specs.declared.branch.BranchId.{BranchId}
use Rattle.tran_ids.specs.Numbers.{decimal}
use Rattle.tran_ids.specs.Texts.{local_text}
use Rattle.sql_statement.specs.declared.statement.Stmt.{Stmt}
use Rattle.sql_eval.specs.declared.keyed.Keyed.{Keyed}
use Rattle.sql_eval.specs.declared.meant.Meant.{Meant}
use Rattle.sql_eval.specs.declared.meant.Meant.TheVariants as meants
use Rattle.dtx_values.specs.Limits.{changes_limit}
use Rattle.sql_check.specs.Words.{one, first_some}
use Rattle.sql_check.specs.Refusals.{ora, dtx, else_refuse, refuse_if}
use Rattle.sql_check.specs.Checks.{checked}
use Rattle.sql_eval.specs.Meaning.{examined, written, meant_over}
use Rattle.row_locks.specs.Locks.{Lock, keys_held, taken}
use Rattle.row_locks.specs.Held.{doubt_on, hold_on}
use Rattle.row_store.specs.Own.{changes_length, undo_length, extents}
use Rattle.stmt_run.specs.declared.ran.StmtOutcome.{StmtOutcome}
use Rattle.stmt_run.specs.declared.ran.StmtOutcome.TheVariants.{Refuses, Reads, Writes}

-- What a statement meets: the branch that makes it, what the branch sees of the table, whether its SCN lies too far back for
-- that, the locks of the node, the bytes of the branch's changes and of their undo, and the undo extents that are free.
pub record StmtContext : Type 0 where
  pub me : BranchId
  pub view : List Keyed
  pub too_old : Bool
  pub locks : List Lock
  pub bytes : ℕ
  pub undo : ℕ
  pub free : ℕ

-- ORA-01555: what the branch would see is not kept any more
abbrev pub too_old_refusal : StmtContext → Option Refusal
too_old_refusal g = refuse_if g.too_old (ora 1555 [])

-- the refusal that names a holder
abbrev pub held_refusal : ℕ → Option BranchId → Option Refusal
held_refusal code None = None
held_refusal code (Some b) = Some (ora code (one (local_text b)))

-- ORA-01591: an examined key is in doubt
abbrev pub in_doubt_refusal : StmtContext → Table → List Value → Option Refusal
in_doubt_refusal g t keys = held_refusal 1591 (first_some (map (doubt_on g.locks t.name) keys))

-- ORA-02049: a written key is held by another live branch
abbrev pub locked_refusal : StmtContext → Table → List Value → Option Refusal
locked_refusal g t keys = held_refusal 2049 (first_some (map (hold_on g.locks g.me t.name) keys))

-- the extents that further changes need
abbrev pub needed_extents : StmtContext → List Change → ℕ
needed_extents g cs = extents (g.undo + undo_length g.view cs) - extents g.undo

-- whether the branch's changes with these take more bytes than a branch may change
abbrev pub too_many_changes : StmtContext → List Change → Bool
too_many_changes g cs = nat_lt changes_limit (g.bytes + changes_length cs)

-- DTX-16 and ORA-30036: too many changes, or not enough extents
abbrev pub space_refusal : StmtContext → List Change → Option Refusal
space_refusal g cs =
    else_refuse (refuse_if (too_many_changes g cs) (dtx 16 []))
    (refuse_if (nat_lt g.free (needed_extents g cs)) (ora 30036 (decimal (needed_extents g cs) ∷ decimal g.free ∷ [])))

-- changes, where there is space
abbrev pub ran_within : StmtContext → Option Refusal → Done → List Change → List Value → StmtOutcome
ran_within g (Some r) d cs keys = Refuses r
ran_within g None d cs keys = Writes d cs keys (undo_length g.view cs)

-- what the meaning comes to
abbrev pub ran_meant : StmtContext → List Value → Meant → StmtOutcome
ran_meant g keys (meants.Refused r) = Refuses r
ran_meant g keys (meants.Gives rows) = Reads rows keys
ran_meant g keys (meants.Changes d n cs) = ran_within g (space_refusal g cs) d cs keys

-- after the locks were tested
abbrev pub ran_locked : StmtContext → Stmt → Table → Option Refusal → StmtOutcome
ran_locked g s t (Some r) = Refuses r
ran_locked g s t None = ran_meant g (written s t g.view) (meant_over s t g.view)

-- after the checks: the SCN, the examined keys, the written keys, the meaning, the space
abbrev pub ran_checked : StmtContext → Stmt → Table → Option Refusal → StmtOutcome
ran_checked g s t (Some r) = Refuses r
ran_checked g s t None =
    ran_locked g s t
    (else_refuse (too_old_refusal g)
    (else_refuse (in_doubt_refusal g t (examined s t g.view (keys_held g.locks t.name))) (locked_refusal g t (written s t g.view))))

-- what a statement does at its table's node: the checks, the SCN of a READ ONLY transaction, the keys in doubt, the keys
-- that others hold, the meaning, the space, in this order
unfoldable pub ran_over : StmtContext → Stmt → Table → StmtOutcome
ran_over g s t = ran_checked g s t (checked s t)

-- the locks with several more keys of a branch
abbrev pub take_keys : List Lock → BranchId → List ℕ → Bool → List Value → List Lock
take_keys locks me table writes keys = fold (λ ls key. taken ls me table key writes) locks keys

-- the locks after a run
abbrev pub locks_after : List Lock → BranchId → Table → StmtOutcome → List Lock
locks_after locks me t (Refuses r) = locks
locks_after locks me t (Reads rows keys) = take_keys locks me t.name false keys
locks_after locks me t (Writes d cs keys undo) = take_keys locks me t.name true keys

-- what is answered to a run
abbrev pub answer_of_run : StmtOutcome → Answer
answer_of_run (Refuses r) = answers.Refused r
answer_of_run (Reads rows keys) = answers.Found rows
answer_of_run (Writes d cs keys undo) = answers.Did d (length cs)
