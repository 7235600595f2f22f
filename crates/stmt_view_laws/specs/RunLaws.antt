-- What a statement does at the node of its table is what it means over the node's view, and over each view that agrees with
-- this one but at keys that branches in doubt hold. (SQL Language Reference; Database Administrator's Guide, "Distributed
-- Transactions Concepts": in-doubt transactions.)
use Rattle.std.specs.Prelude.{◌≡◌, true, List, length, is_some, None}
use Rattle.std.specs.List.{AllByRecursion}
use Rattle.dtx_values.specs.declared.value.Value.{Value}
use Rattle.dtx_values.specs.declared.table.Table.{Table}
use Rattle.sql_statement.specs.declared.statement.Stmt.{Stmt}
use Rattle.sql_eval.specs.declared.keyed.Keyed.{Keyed}
use Rattle.sql_eval.specs.declared.meant.Meant.{Meant}
use Rattle.sql_eval.specs.declared.meant.Meant.TheVariants.{Gives, Changes}
use Rattle.sql_eval.specs.Laws.{has_one_key}
use Rattle.sql_eval.specs.Meaning.{examined, written, meant}
use Rattle.row_locks.specs.Locks.{keys_held}
use Rattle.row_locks.specs.Held.{doubt_on}
use Rattle.stmt_run.specs.declared.ran.StmtOutcome.{StmtOutcome}
use Rattle.stmt_run.specs.declared.ran.StmtOutcome.TheVariants.{Refuses, Reads, Writes}
use Rattle.stmt_run.specs.Run.{StmtContext, ran_over}
use Rattle.stmt_view_laws.specs.Views.{AgreeBut, IsView, AreCertain}

-- no key that a statement examines is held by a branch in doubt
abbrev pub ExaminesNoDoubt : StmtContext → Stmt → Table → Type 0
ExaminesNoDoubt g s t = AllByRecursion (λ key. doubt_on g.locks t.name key ≡ None) (examined s t g.view (keys_held g.locks t.name))

-- What a run that is not refused says: its meaning over the view, the keys that it writes, and that it examined no key in doubt.
pub record RunsAsMeant (g : StmtContext) (s : Stmt) (t : Table) (m : Meant) (keys : List Value) : Type 0 where
  pub means : meant s t g.view ≡ m
  pub writes : keys ≡ written s t g.view
  pub certain : ExaminesNoDoubt g s t

-- a run that is not refused reads or writes what its statement means
abbrev pub RunDoesAsMeant : StmtContext → Stmt → Table → StmtOutcome → Type 0
RunDoesAsMeant g s t (Refuses r) = Unit {0}
RunDoesAsMeant g s t (Reads rows keys) = RunsAsMeant g s t (Gives rows) keys
RunDoesAsMeant g s t (Writes d cs keys undo) = RunsAsMeant g s t (Changes d (length cs) cs) keys

-- so it is with every run
abbrev pub RunsDoAsMeant : Type 0
RunsDoAsMeant = (g : StmtContext) (s : Stmt) (t : Table) (r : StmtOutcome) → ran_over g s t ≡ r → RunDoesAsMeant g s t r

-- Another view of the table that agrees with the view of a run but at keys in doubt, all of which branches in doubt hold.
pub record IsViewBeside (g : StmtContext) (t : Table) (doubtful : List Value) (more : List Keyed) : Type 0 where
  pub one_key : has_one_key t ≡ true
  pub first : IsView t g.view
  pub second : IsView t more
  pub agree : AgreeBut doubtful g.view more
  pub held : AllByRecursion (λ key. is_some (doubt_on g.locks t.name key) ≡ true) doubtful

-- The same of the other view: the meaning, the keys that are written, and that no key in doubt is examined, whatever is locked.
pub record IsMeantOver (s : Stmt) (t : Table) (doubtful : List Value) (more : List Keyed) (m : Meant) (keys : List Value) : Type 0 where
  pub means : meant s t more ≡ m
  pub writes : keys ≡ written s t more
  pub certain : (locked : List Value) → AreCertain doubtful (examined s t more locked)

-- a run that is not refused reads or writes what its statement means over the other view
abbrev pub RunIsMeantOver : Stmt → Table → List Value → List Keyed → StmtOutcome → Type 0
RunIsMeantOver s t doubtful more (Refuses r) = Unit {0}
RunIsMeantOver s t doubtful more (Reads rows keys) = IsMeantOver s t doubtful more (Gives rows) keys
RunIsMeantOver s t doubtful more (Writes d cs keys undo) = IsMeantOver s t doubtful more (Changes d (length cs) cs) keys

-- so it is with every run and every such view
abbrev pub RunsMeanAlike : Type 0
RunsMeanAlike = (g : StmtContext) (s : Stmt) (t : Table) (doubtful : List Value) (more : List Keyed) (r : StmtOutcome) → IsViewBeside g t doubtful more
    → ran_over g s t ≡ r → RunIsMeantOver s t doubtful more r
