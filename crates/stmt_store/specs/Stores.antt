-- A statement at a table of a store: what it meets there, and its changes as the store takes them.
use Rattle.std.specs.Prelude.{List, Option, None, Some}
use Rattle.dtx_values.specs.declared.row.Change.{Change}
use Rattle.dtx_values.specs.declared.table.Table.{Table}
use Rattle.dtx_values.specs.declared.value.Value.{Value}
use Rattle.dtx_values.specs.declared.answer.Refusal.{Refusal}
use Rattle.dtx_values.specs.declared.answer.Done.{Done}
use Rattle.dtx_values.specs.declared.answer.Answer.{Answer}
use Rattle.dtx_values.specs.declared.answer.Answer.TheVariants as answers
use Rattle.tran_ids.specs.declared.branch.BranchId.{BranchId}
use Rattle.sql_eval.specs.declared.keyed.Keyed.{Keyed}
use Rattle.sql_eval.specs.declared.meant.Meant.{Meant}
use Rattle.sql_eval.specs.declared.meant.Meant.TheVariants as meants
use Rattle.sql_eval.specs.Laws.{AreChangesOf}
use Rattle.row_store.specs.Store.{Contents, seen_by, with_pending}
use Rattle.stmt_run.specs.declared.ran.StmtOutcome.{StmtOutcome}
use Rattle.stmt_run.specs.declared.ran.StmtOutcome.TheVariants.{Refuses, Reads, Writes}
use Rattle.stmt_run.specs.Run.{StmtContext, ran_within, space_refusal}
use Rattle.stmt_run.specs.Stored.{ground_in}
use Rattle.stmt_store.specs.declared.site.StoreSite.{StoreSite}
use Rattle.stmt_store.specs.declared.written.Written.{Written}

-- what a statement meets at a table of a store
abbrev pub ground_of : StoreSite → StmtContext
ground_of site = ground_in site.store.now site.locks.now site.me.now site.table.now

-- the rows that it sees there
abbrev pub view_of : StoreSite → List Keyed
view_of site = seen_by site.store.now site.me.now site.table.now.name

-- the changes that a statement means are of this table
abbrev pub ChangesOnly : Table → Meant → Type 0
ChangesOnly t (meants.Changes d n cs) = AreChangesOf t cs
ChangesOnly t _ = Unit {0}

-- a store with the changes of one more statement, where nothing refuses them
abbrev pub kept_unless : Option Refusal → Contents → BranchId → List Change → Contents
kept_unless None s b cs = with_pending s b cs
kept_unless (Some r) s b cs = s

-- what changes come to: they are kept, or refused for want of space
abbrev pub ran_changing : StmtContext → Done → List Change → List Value → StmtOutcome
ran_changing g d cs keys = ran_within g (space_refusal g cs) d cs keys

-- what a statement wrote, where it is not refused: one set of changes or none, and its keys
abbrev pub written_of : StmtOutcome → Option Written
written_of (Refuses r) = None
written_of (Reads rows keys) = Some (record { sets = 0; keys = keys })
written_of (Writes d cs keys undo) = Some (record { sets = 1; keys = keys })

-- the same of changes, by what is answered to them
abbrev pub written_unless : Answer → List Value → Option Written
written_unless (answers.Refused r) keys = None
written_unless _ keys = Some (record { sets = 1; keys = keys })
