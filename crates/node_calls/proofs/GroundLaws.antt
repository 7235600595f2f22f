-- What a statement meets at a node is what it meets at the node's store, and what it leaves there is the same.
use Rattle.std.proofs.Common.{◌≡◌, ℕ, ◌-◌, true, List, Option, Some, None, Result, IfOk, IfSome, refl, sym, ap, subst, ◌∙◌}
use Rattle.tran_ids.specs.declared.branch.BranchId.{BranchId}
use Rattle.tran_ids.specs.Listed.{item_at}
use Rattle.row_locks.specs.Locks.{Lock}
use Rattle.row_store.specs.Own.{view_of}
use Rattle.row_store.specs.Pending.{changes_of}
use Rattle.row_store.specs.Store.{Contents, seen_by, sets_at, used_extents}
use Rattle.row_store.specs.declared.pending.Owned.{Owned}
use Rattle.stmt_run.specs.Run.{StmtContext, locks_after, ran_over}
use Rattle.stmt_run.specs.Stored.{ground_in, owns_after as owns_after_store, store_after_run}
use Rattle.node_rules.specs.Data.{Live, Table, Stmt, Keyed, Answer}
use Rattle.node_rules.specs.NodeState.{NodeState, live_id, branch_at}
use Rattle.node_rules.specs.Names.{Runs_here, way_of}
use Rattle.node_rules.specs.Calls.{answered, statement_at}
use Rattle.node_rules.specs.Marks.{step_of}
use Rattle.node_rules.specs.declared.work.Work.{Work}
use Rattle.node_rules.specs.Statement.{StmtOutcome, Refuses, Reads, Writes, answer_of_run, ground_of, makes_changes, owns_after, ran, read_by, reads_at, reads_too_old, rows_read, view}
use Rattle.node_state.specs.Changed.{change_item}
use Rattle.node_state.specs.Lives.{changed_by}
use Rattle.node_drafts.specs.declared.draft.TurnDraft.{TurnDraft}
use Rattle.node_drafts.specs.Gives.{GivesDraft}
use Rattle.node_memory.specs.declared.memory.Memory.{Memory}
use Rattle.node_memory.specs.Parts.{kept_in, stored_in, HasOwnUndo}
use Rattle.sql_eval.specs.Laws.{AreRowsOf}
use Rattle.stmt_store.specs.Past.{is_query}
use Rattle.stmt_store.proofs.PastLaws.{queries_alike}
use Rattle.node_memory.specs.Versions.{versions_as}
use Rattle.node_calls.specs.Handled.{at_live, did_changes, ground_at, works_after_run, SeesRows}
use Rattle.node_calls.proofs.PastLaws.{LocksNothing, query_locks_nothing, reads_query}
use Rattle.node_calls.proofs.BranchLaws.{branch_here}
use Rattle.node_calls.proofs.WayLaws.{ran_so}

-- what live branches have changed after a run
owns_is : (owns : List Owned) (b : BranchId) (rows : List Keyed) (r : StmtOutcome) → owns_after_store owns b rows r ≡ owns_after owns b rows r
owns_is owns b rows (Refuses x) = refl
owns_is owns b rows (Reads found keys) = refl
owns_is owns b rows (Writes d cs keys undo) = refl

-- and whether it made changes, by its answer
pub changes_is : (r : StmtOutcome) → did_changes (answer_of_run r) ≡ makes_changes r
changes_is (Refuses x) = refl
changes_is (Reads found keys) = refl
changes_is (Writes d cs keys undo) = refl

-- what a node keeps whose store, locks, live branches and calls are these
abbrev pub with_parts : Memory → Contents → List Lock → List Live → List Work → NodeState
with_parts m store locks lives works = record (kept_in m) {
  stored = record (stored_in m) { rows = store.rows; doubts = store.doubts };
  owns = store.owns;
  locks = locks;
  lives = lives;
  works = works;
}

module _ (m : Memory) (b : BranchId) (s : Stmt) (t : Table) where
  -- what the statement meets at the store, where the branch reads the newest rows or those at an SCN
  abbrev pub met : Option ℕ → StmtContext
  met read_at = ground_at m.store (versions_as m.versions) m.locks b t read_at

  -- what it does there, and by the rules
  abbrev pub at_store : Option ℕ → StmtOutcome
  at_store read_at = ran_over (met read_at) s t

  abbrev by_rules : StmtOutcome
  by_rules = ran m.place (kept_in m) b s t

-- where a branch reads
reads_is : (m : Memory) (b : BranchId) (l : Live) → item_at live_id m.lives b ≡ Some l → reads_at (kept_in m) b ≡ l.read_at
reads_is m b l is = ap read_by is

-- a branch that reads the newest rows sees rows of the table
pub sees_rows : (m : Memory) (b : BranchId) (l : Live) (t : Table) → item_at live_id m.lives b ≡ Some l → AreRowsOf t (view (kept_in m) b t.name) → SeesRows m.store b t l.read_at
sees_rows m b l t is seen = by l.read_at (reads_is m b l is)
  where
    by : (o : Option ℕ) → reads_at (kept_in m) b ≡ o → SeesRows m.store b t o
    by None newest = subst (λ r. AreRowsOf t (view_of (rows_read (kept_in m) r) (changes_of (sets_at m.store.owns b)) t.name)) newest seen
    by (Some scn) past = tt

module _ (m : Memory) (own : HasOwnUndo m) (b : BranchId) (s : Stmt) (t : Table) (read_at : Option ℕ) (reads : reads_at (kept_in m) b ≡ read_at) (query : IfSome read_at (λ scn. is_query s ≡ true)) where
  abbrev seen_at : Option ℕ → List Keyed
  seen_at scn = view_of (rows_read (kept_in m) scn) (changes_of (sets_at m.store.owns b)) t.name

  -- by the rules, where it reads there
  abbrev ground_by : Option ℕ → StmtContext
  ground_by o = record (ground_of m.place (kept_in m) b t) { view = seen_at o; too_old = reads_too_old (kept_in m) o }

  ran_at : (o : Option ℕ) → IfSome o (λ scn. is_query s ≡ true) → ran_over (met m b s t o) s t ≡ ran_over (ground_by o) s t
  ran_at None query = ap (λ n. ran_over (record (ground_in m.store m.locks b t) { free = n - used_extents m.store.owns m.store.doubts }) s t) own
  ran_at (Some scn) query = sym (queries_alike (ground_by (Some scn)) s t query)

  ran_is : at_store m b s t read_at ≡ by_rules m b s t
  unfolding ran
  ran_is = ran_at read_at query ∙ sym (ap (λ o. ran_over (ground_by o) s t) reads)

  abbrev store_by : Contents
  store_by = record m.store { owns = owns_after m.store.owns b (view (kept_in m) b t.name) (by_rules m b s t) }

  owns_at : (o : Option ℕ) → IfSome o (λ scn. is_query s ≡ true) → owns_after_store m.store.owns b (seen_by m.store b t.name) (ran_over (ground_by o) s t) ≡ owns_after m.store.owns b (seen_at o) (ran_over (ground_by o) s t)
  owns_at None query = owns_is m.store.owns b (seen_at None) (ran_over (ground_by None) s t)
  owns_at (Some scn) query = quiet_owns (ran_over (ground_by (Some scn)) s t) (query_locks_nothing (ground_by (Some scn)) s t query)
    where
      quiet_owns : (r : StmtOutcome) → LocksNothing r → owns_after_store m.store.owns b (seen_by m.store b t.name) r ≡ owns_after m.store.owns b (seen_at (Some scn)) r
      quiet_owns (Refuses x) quiet = refl
      quiet_owns (Reads rows keys) quiet = refl
      quiet_owns (Writes d cs keys undo) quiet = absurd quiet

  store_is : store_after_run m.store b t (at_store m b s t read_at) ≡ store_by
  unfolding ran
  store_is =
      ap (λ r. record m.store { owns = owns_after_store m.store.owns b (seen_by m.store b t.name) r }) (ran_at read_at query)
      ∙ (ap (λ os. record m.store { owns = os }) (owns_at read_at query)
      ∙ sym (ap (λ o. record m.store { owns = owns_after m.store.owns b (seen_at o) (ran_over (ground_by o) s t) }) reads))

  abbrev kept_by : ℕ → NodeState
  kept_by step = record (kept_in m) {
    owns = owns_after m.store.owns b (view (kept_in m) b t.name) (by_rules m b s t);
    locks = locks_after m.locks b t (by_rules m b s t);
    lives = change_item live_id (changed_by (makes_changes (by_rules m b s t))) m.lives b;
    works = works_after_run m.works b step t (by_rules m b s t);
  }

  -- what the node keeps after it
  kept_is : (store : Contents) (locks : List Lock) (lives : List Live) (works : List Work) (step : ℕ) → store ≡ store_after_run m.store b t (at_store m b s t read_at)
      → locks ≡ locks_after m.locks b t (at_store m b s t read_at) → lives ≡ change_item live_id (changed_by (makes_changes (at_store m b s t read_at))) m.lives b
      → works ≡ works_after_run m.works b step t (at_store m b s t read_at) → with_parts m store locks lives works ≡ kept_by step
  kept_is store locks lives works step s_is l_is v_is w_is =
      let r = by_rules m b s t in
      ap (λ x. with_parts m x locks lives works) (s_is ∙ store_is)
      ∙ ap (λ x. with_parts m store_by x lives works) (l_is ∙ ap (locks_after m.locks b t) ran_is)
      ∙ ap (λ x. with_parts m store_by (locks_after m.locks b t r) x works) (v_is ∙ ap (λ q. change_item live_id (changed_by (makes_changes q)) m.lives b) ran_is)
      ∙ ap (λ x. with_parts m store_by (locks_after m.locks b t r) (change_item live_id (changed_by (makes_changes r)) m.lives b) x) (w_is ∙ ap (works_after_run m.works b step t) ran_is)

-- and so the branch answers it by the rules
pub ran_here : (m : Memory) → HasOwnUndo m → (b : BranchId) (s : Stmt) (t : Table) {E : Type 0} (l : Live) (given step : ℕ) (told : Answer) (store : Contents) (locks : List Lock) (lives : List Live) (works : List Work)
    (after : NodeState) (result : Result TurnDraft E)
    → item_at live_id m.lives b ≡ Some l → way_of m.place (stored_in m).durable l given s ≡ Runs_here t → step ≡ step_of m.sessions (branch_here (kept_in m) b l)
    → told ≡ answer_of_run (at_store m b s t l.read_at) → store ≡ store_after_run m.store b t (at_store m b s t l.read_at) → locks ≡ locks_after m.locks b t (at_store m b s t l.read_at)
    → lives ≡ change_item live_id (changed_by (makes_changes (at_store m b s t l.read_at))) m.lives b → works ≡ works_after_run m.works b step t (at_store m b s t l.read_at)
    → IfOk result (λ draft. GivesDraft (at_live (with_parts m store locks lives works) (λ x. answered (with_parts m store locks lives works) x told) (branch_at (with_parts m store locks lives works) b)) after draft)
    → IfOk result (λ draft. GivesDraft (at_live (kept_in m) (λ x. statement_at m.place (kept_in m) x s given) (branch_at (kept_in m) b)) after draft)
ran_here m own b s t l given step told store locks lives works after result is way at t_is s_is l_is v_is w_is does =
    let k = with_parts m store locks lives works in
    let reads = reads_is m b l is in
    let query = reads_query m.place (stored_in m).durable l given s t way in
    ran_so m.place (kept_in m) b l is s given t (by_rules m b s t) step k after result way refl at (kept_is m own b s t l.read_at reads query store locks lives works step s_is l_is v_is w_is)
    (subst (λ a. IfOk result (λ draft. GivesDraft (at_live k (λ x. answered k x a) (branch_at k b)) after draft)) (t_is ∙ ap answer_of_run (ran_is m own b s t l.read_at reads query)) does)
