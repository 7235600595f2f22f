-- What the changes of a statement come to at a store.
use Rattle.std.proofs.Common.{◌≡◌, ℕ, ◌≤◌, Bool, true, false, cond, List, [], ◌∷◌, ◌++◌, Option, None, Some, nat_lt, length, refl, sym, ap, subst, ◌∙◌, arith}
use Rattle.std.specs.List.{AllByRecursion}
use Rattle.std.proofs.lemmas.Bool.Decides.{nat_tests}
use Rattle.std.proofs.lemmas.List.Elements.{recursion_from_All}
use Rattle.dtx_values.specs.declared.value.Value.{Value}
use Rattle.dtx_values.specs.declared.row.Change.{Change}
use Rattle.dtx_values.specs.declared.table.Table.{Table}
use Rattle.dtx_values.specs.declared.answer.Done.{Done}
use Rattle.dtx_values.specs.declared.answer.Refusal.{Refusal}
use Rattle.dtx_values.specs.Limits.{changes_limit}
use Rattle.tran_ids.specs.declared.branch.BranchId.{BranchId}
use Rattle.sql_statement.specs.declared.statement.Stmt.{Stmt}
use Rattle.sql_eval.specs.declared.keyed.Keyed.{Keyed}
use Rattle.sql_eval.specs.declared.meant.Meant.{Meant}
use Rattle.sql_eval.specs.declared.meant.Meant.TheVariants as meants
use Rattle.sql_check.specs.Checks.{checked}
use Rattle.sql_eval.specs.Meaning.{meant_over}
use Rattle.sql_eval.specs.Laws.{has_one_key, AreRowsOf, IsChangeOf, AreChangesOf}
use Rattle.sql_eval.proofs.RowLaws.{changes_are_of_table}
use Rattle.row_locks.specs.Locks.{Lock}
use Rattle.row_store.specs.declared.store_err.StoreErr.TheVariants.{Full, TooLarge}
use Rattle.row_store.specs.Own.{changes_length}
use Rattle.row_store.specs.Store.{Contents, AreOfTables, bytes_with, extents_needed, extents_free, has_table, own_changes, refusal_of}
use Rattle.row_store.specs.Tables.{TableRows}
use Rattle.stmt_run.specs.Run.{answer_of_run, ran_within, space_refusal}
use Rattle.stmt_run.specs.Stored.{AreOfOneTable, ground_in, refusal_told, store_after_run}
use Rattle.stmt_run.proofs.Lengths.{count_bound}
use Rattle.stmt_run.proofs.StoreLaws.{store_refuses_alike, store_takes_one_set}
use Rattle.stmt_store.specs.Stores.{ChangesOnly, kept_unless, ran_changing, written_of, written_unless}

-- what a statement that passed the checks means changes its table alone
pub changes_only : (s : Stmt) (t : Table) (rows : List Keyed) (m : Meant) → has_one_key t ≡ true → AreRowsOf t rows → checked s t ≡ None → meant_over s t rows ≡ m → ChangesOnly t m
changes_only s t rows (meants.Refused r) one are passed is = tt
changes_only s t rows (meants.Gives found) one are passed is = tt
changes_only s t rows (meants.Changes d n cs) one are passed is = changes_are_of_table s t rows d n cs one are passed is

each_of_one : (t : Table) (cs : List Change) → AllByRecursion (IsChangeOf t) cs → AreOfOneTable t cs
each_of_one t [] all = tt
each_of_one t (c ∷ cs) all = (all.0.0, each_of_one t cs all.1)

pub of_one_table : (t : Table) (cs : List Change) → AreChangesOf t cs → AreOfOneTable t cs
of_one_table t cs are = each_of_one t cs (recursion_from_All (IsChangeOf t) cs are)

each_there : (rows : List TableRows) (t : Table) (cs : List Change) → has_table rows t.name ≡ true → AreOfOneTable t cs → AreOfTables rows cs
each_there rows t [] there all = tt
each_there rows t (c ∷ cs) there all = (subst (λ name. has_table rows name ≡ true) (sym all.0) there, each_there rows t cs there all.1)

-- changes of a table that is there
pub of_tables : (rows : List TableRows) (t : Table) (cs : List Change) → has_table rows t.name ≡ true → AreChangesOf t cs → AreOfTables rows cs
of_tables rows t cs there are = each_there rows t cs there (of_one_table t cs are)

few_if : (own cs : List Change) (many few : Bool) (bytes need free : ℕ) → nat_lt changes_limit (changes_length (own ++ cs)) ≡ many
    → refusal_told (cond many (Some (TooLarge bytes)) (cond few (Some (Full need free)) None)) ≡ None → length cs ≤ changes_limit
few_if own cs true few bytes need free is none = absurd cc
few_if own cs false few bytes need free is none = count_bound own cs (grind (arith, nat_tests, is))

-- changes that are not refused are few
pub few_changes : (s : Contents) (b : BranchId) (cs : List Change) → refusal_told (refusal_of s b cs) ≡ None → length cs ≤ changes_limit
few_changes s b cs none =
    few_if (own_changes s b) cs (nat_lt changes_limit (bytes_with s b cs)) (nat_lt (extents_free s) (extents_needed s b cs)) (bytes_with s b cs) (extents_needed s b cs) (extents_free s) refl none

-- what changes come to, by what the store answers to them
pub ran_as_told : (s : Contents) (locks : List Lock) (b : BranchId) (t : Table) (d : Done) (cs : List Change) (keys : List Value) (r : Option Refusal) → AreChangesOf t cs
    → r ≡ refusal_told (refusal_of s b cs) → ran_changing (ground_in s locks b t) d cs keys ≡ ran_within (ground_in s locks b t) r d cs keys
ran_as_told s locks b t d cs keys r are is = ap (λ o. ran_within (ground_in s locks b t) o d cs keys) (store_refuses_alike s locks b t cs (of_one_table t cs are) ∙ sym is)

kept_by : (s : Contents) (locks : List Lock) (b : BranchId) (t : Table) (d : Done) (cs : List Change) (keys : List Value) (r : Option Refusal) → AreChangesOf t cs
    → kept_unless r s b cs ≡ store_after_run s b t (ran_within (ground_in s locks b t) r d cs keys)
kept_by s locks b t d cs keys (Some r) are = refl
kept_by s locks b t d cs keys None are = store_takes_one_set s b t cs (of_one_table t cs are)

-- and the store after them
pub store_as_told : (s : Contents) (locks : List Lock) (b : BranchId) (t : Table) (d : Done) (cs : List Change) (keys : List Value) (r : Option Refusal) → AreChangesOf t cs
    → r ≡ refusal_told (refusal_of s b cs) → kept_unless r s b cs ≡ store_after_run s b t (ran_changing (ground_in s locks b t) d cs keys)
store_as_told s locks b t d cs keys r are is = kept_by s locks b t d cs keys r are ∙ ap (store_after_run s b t) (sym (ran_as_told s locks b t d cs keys r are is))

written_so : (s : Contents) (locks : List Lock) (b : BranchId) (t : Table) (d : Done) (cs : List Change) (keys : List Value) (r : Option Refusal)
    → written_unless (answer_of_run (ran_within (ground_in s locks b t) r d cs keys)) keys ≡ written_of (ran_within (ground_in s locks b t) r d cs keys)
written_so s locks b t d cs keys None = refl
written_so s locks b t d cs keys (Some r) = refl

-- what changes wrote, by what is answered to them
pub written_alike : (s : Contents) (locks : List Lock) (b : BranchId) (t : Table) (d : Done) (cs : List Change) (keys : List Value)
    → written_unless (answer_of_run (ran_changing (ground_in s locks b t) d cs keys)) keys ≡ written_of (ran_changing (ground_in s locks b t) d cs keys)
written_alike s locks b t d cs keys = written_so s locks b t d cs keys (space_refusal (ground_in s locks b t) cs)
