-- What a run of a statement leaves of a branch's changes is of its table.
use Rattle.std.proofs.Common.{◌≡◌, ℕ, true, List, [], ◌∷◌, ◌++◌, append-nil, append_assoc, Option, Some, None, refl, sym, ap, subst, ◌∙◌}
use Rattle.std.specs.List.{AllByRecursion}
use Rattle.std.proofs.lemmas.List.Elements.{recursion_from_All}
use Rattle.node_rules.specs.Data.{Value, Change, Table, Refusal, Done, BranchId, Stmt, ChangeSet, Owned, Place}
use Rattle.node_rules.specs.Words.{item_at}
use Rattle.node_rules.specs.Rows.{rows_of_table, changes_of, set_over}
use Rattle.node_rules.specs.NodeState.{NodeState, own_id, sets_of, sets_at}
use Rattle.node_rules.specs.Statement.{StmtOutcome, Refuses, Reads, Writes, view, ground_of, ran, owns_after, rows_read, reads_at}
use Rattle.sql_check.specs.Checks.{checked}
use Rattle.sql_check.specs.Refusals.{else_refuse}
use Rattle.sql_eval.specs.declared.meant.Meant.{Meant}
use Rattle.sql_eval.specs.declared.meant.Meant.TheVariants as meants
use Rattle.sql_eval.specs.Meaning.{examined, written, meant_over}
use Rattle.sql_eval.specs.Laws.{has_one_key, AreRowsOf, IsChangeOf}
use Rattle.sql_eval.proofs.RowLaws.{rows_stay, changes_are_of_table}
use Rattle.sql_eval.proofs.TableLaws.{whole_tables_have_one_key}
use Rattle.row_locks.specs.Locks.{keys_held}
use Rattle.stmt_run.specs.Run.{StmtContext, in_doubt_refusal, locked_refusal, space_refusal, ran_within, ran_meant, ran_locked, ran_checked, ran_over, too_old_refusal}
use Rattle.node_ready_laws.specs.Rows.{table_named, IsChangeAt, AreChangesAt, HasRows, AreRows}
use Rattle.node_ready_laws.proofs.ListLemmas.{all_append, all_weaker, all_found, all_put}
use Rattle.node_ready_laws.proofs.TableLemmas.{named_changes}
use Rattle.node_ready_laws.proofs.VersionLemmas.{rows_at_scn}

-- what a run changes is such
abbrev Changes : (Change → Type 0) → StmtOutcome → Type 0
Changes P (Writes d cs keys undo) = AllByRecursion P cs
Changes P _ = Unit {0}

module _ (P : Change → Type 0) (g : StmtContext) (s : Stmt) (t : Table) where
  within : (o : Option Refusal) (d : Done) (cs : List Change) (keys : List Value) → AllByRecursion P cs → Changes P (ran_within g o d cs keys)
  within (Some r) d cs keys new = tt
  within None d cs keys new = new

  meant : (m : Meant) (keys : List Value) → ((d : Done) (n : ℕ) (cs : List Change) → m ≡ meants.Changes d n cs → AllByRecursion P cs) → Changes P (ran_meant g keys m)
  meant (meants.Refused r) keys new = tt
  meant (meants.Gives rows) keys new = tt
  meant (meants.Changes d n cs) keys new = within (space_refusal g cs) d cs keys (new d n cs refl)

  locked : (o : Option Refusal) → ((d : Done) (n : ℕ) (cs : List Change) → meant_over s t g.view ≡ meants.Changes d n cs → AllByRecursion P cs) → Changes P (ran_locked g s t o)
  locked (Some r) new = tt
  locked None new = meant (meant_over s t g.view) (written s t g.view) new

  accepted : (o : Option Refusal) → checked s t ≡ o → (checked s t ≡ None → (d : Done) (n : ℕ) (cs : List Change) → meant_over s t g.view ≡ meants.Changes d n cs → AllByRecursion P cs) → Changes P (ran_checked g s t o)
  accepted (Some r) is new = tt
  accepted None is new = locked (else_refuse (too_old_refusal g) (else_refuse (in_doubt_refusal g t (examined s t g.view (keys_held g.locks t.name))) (locked_refusal g t (written s t g.view)))) (new is)

  over : has_one_key t ≡ true → AreRowsOf t g.view → ((c : Change) → IsChangeOf t c → P c) → Changes P (ran_over g s t)
  unfolding ran_over
  over one rows such = accepted (checked s t) refl (λ none d n cs e. all_weaker (IsChangeOf t) P such cs (recursion_from_All (IsChangeOf t) cs (changes_are_of_table s t g.view d n cs one rows none e)))

-- the changes with one more set
set_last : (sets : List ChangeSet) (x : ChangeSet) → changes_of (sets ++ x ∷ []) ≡ changes_of sets ++ x.changes
set_last [] x = append-nil x.changes
set_last (y ∷ sets) x = ap (λ cs. y.changes ++ cs) (set_last sets x) ∙ sym (append_assoc y.changes (changes_of sets) x.changes)

module _ (k : NodeState) (now : HasRows k) (b : BranchId) where
  -- what the branch has changed is of tables that are there
  own_by : (o : Option Owned) → item_at own_id k.owns b ≡ o → AreChangesAt k.stored.durable.tables (changes_of (sets_of o))
  own_by None is = tt
  own_by (Some o) is = all_found (λ x. AreChangesAt k.stored.durable.tables (changes_of x.sets)) _ k.owns o now.own is

  pub own_there : AreChangesAt k.stored.durable.tables (changes_of (sets_at k.owns b))
  own_there = own_by (item_at own_id k.owns b) refl

module _ (k : NodeState) (now : HasRows k) where
  -- what a branch reads are rows of their tables, also at an SCN
  pub read_rows : (read_at : Option ℕ) → AreRows k.stored.durable.tables (rows_read k read_at) k.owns k.stored.doubts k.versions.kept
  read_rows None = now
  read_rows (Some scn) = rows_at_scn k.stored.durable.tables k.stored.rows k.owns k.stored.doubts k.versions scn now

module _ (k : NodeState) (now : HasRows k) (b : BranchId) (t : Table) (there : table_named k.stored.durable.tables t.name ≡ Some t) where
  own : AreChangesAt k.stored.durable.tables (changes_of (sets_at k.owns b))
  own = own_there k now b

  -- the table is whole, and what the branch sees are rows of it
  pub one_key : has_one_key t ≡ true
  one_key = whole_tables_have_one_key t (all_found _ _ k.stored.durable.tables t now.whole there)

  pub seen : AreRowsOf t (view k b t.name)
  seen = rows_stay t _ (changes_of (sets_at k.owns b)) (all_found (λ x. AreRowsOf x (rows_of_table (rows_read k (reads_at k b)) x.name)) _ k.stored.durable.tables t (read_rows k now (reads_at k b)).fit there)
      (named_changes k.stored.durable.tables t (changes_of (sets_at k.owns b)) there own)

  changed : (r : StmtOutcome) → Changes (IsChangeAt k.stored.durable.tables) r → AllByRecursion (λ o. AreChangesAt k.stored.durable.tables (changes_of o.sets)) (owns_after k.owns b (view k b t.name) r)
  changed (Refuses r) new = now.own
  changed (Reads rows keys) new = now.own
  changed (Writes d cs keys undo) new =
      all_put (λ o. AreChangesAt k.stored.durable.tables (changes_of o.sets)) own_id k.owns _ now.own
      (subst (AreChangesAt k.stored.durable.tables) (sym (set_last (sets_at k.owns b) (set_over (view k b t.name) cs))) (all_append _ (changes_of (sets_at k.owns b)) cs own new))

  -- and so are its changes after a run
  pub own_ran : (p : Place) (s : Stmt) → AllByRecursion (λ o. AreChangesAt k.stored.durable.tables (changes_of o.sets)) (owns_after k.owns b (view k b t.name) (ran p k b s t))
  unfolding ran
  own_ran p s = changed (ran_over (ground_of p k b t) s t) (over (IsChangeAt k.stored.durable.tables) (ground_of p k b t) s t one_key seen (λ c is. (t, subst (λ name. table_named k.stored.durable.tables name ≡ Some t) (sym is.0) there, is)))
