-- The keys that a run locks are free or the branch's own, and stay so while they are taken.
use Rattle.std.proofs.Common.{◌≡◌, ℕ, Bool, List, [], ◌∷◌, Option, None, Some, map, refl, subst, arith}
use Rattle.std.specs.List.{All, AllByRecursion}
use Rattle.std.proofs.lemmas.List.Elements.{All-from_recursion}
use Rattle.tran_ids.specs.declared.branch.BranchId.{BranchId}
use Rattle.tran_ids.proofs.BranchLemmas.{same_from_equal}
use Rattle.dtx_values.specs.declared.answer.Refusal.{Refusal}
use Rattle.dtx_values.specs.declared.answer.Done.{Done}
use Rattle.dtx_values.specs.declared.row.Change.{Change}
use Rattle.dtx_values.specs.declared.table.Table.{Table}
use Rattle.dtx_values.specs.declared.value.Value.{Value}
use Rattle.sql_statement.specs.declared.statement.Stmt.{Stmt}
use Rattle.sql_eval.specs.declared.meant.Meant.{Meant}
use Rattle.sql_eval.specs.declared.meant.Meant.TheVariants as meants
use Rattle.sql_check.specs.Words.{first_some}
use Rattle.sql_check.specs.Refusals.{else_refuse}
use Rattle.sql_check.specs.Checks.{checked}
use Rattle.sql_eval.specs.Meaning.{examined, written, meant_over}
use Rattle.sql_eval.specs.Laws.{HasOneKey, AreKeyed}
use Rattle.row_locks.specs.Locks.{Lock, another, holder_of, taken, keys_held}
use Rattle.row_locks.specs.Held.{in_doubt_one, live_one, doubt_on, hold_on}
use Rattle.stmt_run.specs.declared.ran.StmtOutcome.{StmtOutcome}
use Rattle.stmt_run.specs.Run.{StmtContext, too_old_refusal, held_refusal, in_doubt_refusal, locked_refusal, space_refusal, ran_within, ran_meant, ran_locked, ran_checked, ran_over}
use Rattle.stmt_run.specs.Keys.{IsFree, LocksFreeKeys}
use Rattle.stmt_run.proofs.Examined.{written_examined}

-- ---- a key that is taken leaves the others free

pub free_still : (ls : List Lock) (me : BranchId) (table : List ℕ) (key other : Value) (writes : Bool) → IsFree ls me table other → IsFree (taken ls me table key writes) me table other
free_still [] me table key other writes free = grind (arith, same_from_equal me me refl)
free_still (l ∷ ls) me table key other writes free = grind (arith, free_still ls me table key other writes, free)

-- ---- keys that no refusal names

none_step : (f : Value → Option BranchId) (k : Value) (ks : List Value) (first : Option BranchId) → f k ≡ first → (first_some (map f ks) ≡ None → AllByRecursion (λ key. f key ≡ None) ks)
    → first_some (first ∷ map f ks) ≡ None → AllByRecursion (λ key. f key ≡ None) (k ∷ ks)
none_step f k ks (Some b) is rest e = absurd cc
none_step f k ks None is rest e = (is, rest e)

none_of : (f : Value → Option BranchId) (keys : List Value) → first_some (map f keys) ≡ None → AllByRecursion (λ key. f key ≡ None) keys
none_of f [] e = tt
none_of f (k ∷ ks) e = none_step f k ks (f k) refl (none_of f ks) e

nobody : (code : ℕ) (holder : Option BranchId) → held_refusal code holder ≡ None → holder ≡ None
nobody code None e = refl
nobody code (Some b) e = absurd cc

neither : (a b : Option Refusal) → else_refuse a b ≡ None → (a ≡ None) × (b ≡ None)
neither (Some r) b e = absurd cc
neither None b e = (refl, e)

-- a key that is not in doubt, and that no other live branch holds, is free
free_one : (h : Option (BranchId × Bool)) (me : BranchId) → in_doubt_one h ≡ None → live_one (another me h) ≡ None → another me h ≡ None
free_one None me doubt live = refl
free_one (Some h) me doubt live = grind (arith, doubt, live)

module _ (ls : List Lock) (me : BranchId) (table : List ℕ) where
  free_each : (keys : List Value) → AllByRecursion (λ key. doubt_on ls table key ≡ None) keys → AllByRecursion (λ key. hold_on ls me table key ≡ None) keys
      → AllByRecursion (IsFree ls me table) keys
  free_each [] doubt live = tt
  free_each (k ∷ ks) doubt live = (free_one (holder_of ls table k) me doubt.0 live.0, free_each ks doubt.1 live.1)

-- ---- a run locks free keys

module _ (g : StmtContext) (t : Table) where
  abbrev AreFree : List Value → Type 0
  AreFree keys = All (IsFree g.locks g.me t.name) keys

  abbrev IsSafe : StmtOutcome → Type 0
  IsSafe r = LocksFreeKeys g.locks g.me t r

  within_free : (o : Option Refusal) (d : Done) (cs : List Change) (keys : List Value) (r : StmtOutcome) → AreFree keys → ran_within g o d cs keys ≡ r → IsSafe r
  within_free (Some x) d cs keys r free e = subst IsSafe e tt
  within_free None d cs keys r free e = subst IsSafe e free

  meant_free : (keys : List Value) (m : Meant) (r : StmtOutcome) → AreFree keys → ran_meant g keys m ≡ r → IsSafe r
  meant_free keys (meants.Refused x) r free e = subst IsSafe e tt
  meant_free keys (meants.Gives rows) r free e = subst IsSafe e free
  meant_free keys (meants.Changes d n cs) r free e = within_free (space_refusal g cs) d cs keys r free e

  module _ (s : Stmt) (one : HasOneKey t) (keyed : AreKeyed t g.view) where
    -- each key that an accepted run writes is free, or the branch's own
    pub written_free : else_refuse (in_doubt_refusal g t (examined s t g.view (keys_held g.locks t.name))) (locked_refusal g t (written s t g.view)) ≡ None
        → AllByRecursion (IsFree g.locks g.me t.name) (written s t g.view)
    written_free none =
        let refused = neither (in_doubt_refusal g t (examined s t g.view (keys_held g.locks t.name))) (locked_refusal g t (written s t g.view)) none in
        let doubt = none_of (doubt_on g.locks t.name) (examined s t g.view (keys_held g.locks t.name)) (nobody 1591 _ refused.0) in
        let live = none_of (hold_on g.locks g.me t.name) (written s t g.view) (nobody 2049 _ refused.1) in
        free_each g.locks g.me t.name (written s t g.view)
        (written_examined (λ (key : Value). doubt_on g.locks t.name key ≡ None) s t g.view (keys_held g.locks t.name) one keyed doubt) live

    locked_free : (o : Option Refusal) (r : StmtOutcome)
        → else_refuse (in_doubt_refusal g t (examined s t g.view (keys_held g.locks t.name))) (locked_refusal g t (written s t g.view)) ≡ o
        → ran_locked g s t o ≡ r → IsSafe r
    locked_free (Some x) r is e = subst IsSafe e tt
    locked_free None r is e =
        meant_free (written s t g.view) (meant_over s t g.view) r (All-from_recursion (IsFree g.locks g.me t.name) (written s t g.view) (written_free is)) e

    kept_free : (old : Option Refusal) (r : StmtOutcome)
        → ran_locked g s t (else_refuse old (else_refuse (in_doubt_refusal g t (examined s t g.view (keys_held g.locks t.name))) (locked_refusal g t (written s t g.view)))) ≡ r
        → IsSafe r
    kept_free (Some x) r e = subst IsSafe e tt
    kept_free None r e = locked_free _ r refl e

    checked_free : (o : Option Refusal) (r : StmtOutcome) → ran_checked g s t o ≡ r → IsSafe r
    checked_free (Some x) r e = subst IsSafe e tt
    checked_free None r e = kept_free (too_old_refusal g) r e

    pub run_locks_free : (r : StmtOutcome) → ran_over g s t ≡ r → IsSafe r
    unfolding ran_over
    run_locks_free r e = checked_free (checked s t) r e
