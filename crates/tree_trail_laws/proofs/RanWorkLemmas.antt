-- What a run leaves at its node of the sets of changes, the notes, the savepoints and the step of its branch, and of each other; and what is told of it.
use Rattle.std.proofs.Common.{◌≡◌, ◌≤◌, ℕ, Bool, true, false, if◌then◌else◌, is_none, List, [], ◌∷◌, ◌++◌, Option, Some, None, refl, sym, ap, subst, ◌∙◌}
use Rattle.tran_ids.proofs.ListedLemmas.{put_found, put_leaves}
use Rattle.sql_eval.specs.Meaning.{meant, meant_over, unless}
use Rattle.sql_eval.specs.declared.meant.Meant.TheVariants as meants
use Rattle.sql_check.specs.Checks.{checked}
use Rattle.node_rules.specs.Data.{Answer, Table, Stmt, BranchId, Keyed, Place, Input, Owned, Refusal, RowSet}
use Rattle.node_rules.specs.Data.stmts
use Rattle.node_rules.specs.declared.work.Work.{Work}
use Rattle.node_rules.specs.Words.{same, item_at, put_item}
use Rattle.node_rules.specs.Rows.{set_over}
use Rattle.node_rules.specs.NodeState.{NodeState, Branch, own_id, sets_of, sets_at, work_id, work_or, work_at}
use Rattle.node_rules.specs.Statement.{StmtOutcome, Refuses, Reads, Writes, ground_of, ran, after_run, answer_of_run, owns_after, view}
use Rattle.node_rules.specs.Calls.{answered_sessions, branch_ran, with_answer}
use Rattle.node_rules.specs.Marks.{marks_after, run_note, step_of}
use Rattle.node_rules.specs.Sessions.{session_at}
use Rattle.node_rules.proofs.LiveLemmas.{work_is}
use Rattle.node_rules.proofs.Steps.{Asked, By_call, By_exec, IsOfRows}
use Rattle.run_key_laws.proofs.RanLemmas.{run_so}
use Rattle.run_rules.specs.Branches.{Run, Seen, own_of, Trail}
use Rattle.run_rules.specs.Data.{Entry}
use Rattle.run_rules.specs.Runs.{is_accepted, changes_in, changes_rows, view_by, goes_back, ran_by}
use Rattle.run_rules.specs.Trail.{runs_with, savepoints_set}
use Rattle.node_rules.specs.Data.inputs
use Rattle.tree_trail_laws.specs.RunLaws.{RunsAre}
use Rattle.tree_trail_laws.proofs.OwnKnowLemmas.{gives_is_query, changes_is_none}
use Rattle.tree_trail_laws.proofs.OwnRunLemmas.{IsMeantBy}
use Rattle.tree_trail_laws.proofs.OwnStepLemmas.{found_work}
use Rattle.tree_trail_laws.proofs.RootCallLemmas.{answered_calls}
use Rattle.tree_trail_laws.proofs.RunListLemmas.{runs_higher, reads_more, writes_more}

-- ---- what came

-- a statement takes no branch back, and sets no savepoint
rows_stay : (tr : Trail) (n : ℕ) (a : Option Answer) (m : ℕ) (s : Stmt) → IsOfRows s → goes_back tr n a (inputs.Call m (Some s)) ≡ None
rows_stay tr n a m (stmts.Insert table columns given) rows = refl
rows_stay tr n a m (stmts.Update table sets cs) rows = refl
rows_stay tr n a m (stmts.Delete table cs) rows = refl
rows_stay tr n a m (stmts.Select list table cs for_update) rows = refl
rows_stay tr n a m _ rows = absurd rows

pub asked_stays : (tr : Trail) (n : ℕ) (a : Option Answer) {k : NodeState} {input : Input} {x : Branch} {s : Stmt} {given : ℕ} → Asked k input x s given → goes_back tr n a input ≡ None
asked_stays tr n a (By_call m x s call rows has code found may) = ap (goes_back tr n a) call ∙ rows_stay tr n a m s rows
asked_stays tr n a (By_exec x from call given advice s came found runs) = ap (goes_back tr n a) came.is

rows_saves : (n : ℕ) (a : Option Answer) (step : ℕ) (y : Seen) (m : ℕ) (s : Stmt) → IsOfRows s → savepoints_set n a step y (inputs.Call m (Some s)) ≡ y.savepoints
rows_saves n a step y m (stmts.Insert table columns given) rows = refl
rows_saves n a step y m (stmts.Update table sets cs) rows = refl
rows_saves n a step y m (stmts.Delete table cs) rows = refl
rows_saves n a step y m (stmts.Select list table cs for_update) rows = refl
rows_saves n a step y m _ rows = absurd rows

pub asked_saves : (n : ℕ) (a : Option Answer) (step : ℕ) (y : Seen) {k : NodeState} {input : Input} {x : Branch} {s : Stmt} {given : ℕ} → Asked k input x s given → savepoints_set n a step y input ≡ y.savepoints
asked_saves n a step y (By_call m x s call rows has code found may) = ap (savepoints_set n a step y) call ∙ rows_saves n a step y m s rows
asked_saves n a step y (By_exec x from call given advice s came found runs) = ap (savepoints_set n a step y) came.is

-- the calls of the branch that it came to are its own, with its marks
pub asked_me : {k : NodeState} {input : Input} {x : Branch} {s : Stmt} {given : ℕ} → Asked k input x s given → x.work.branch ≡ x.live.me
asked_me {k = k} (By_call m x s call rows has code found may) = work_is k x.live.me x found
asked_me {k = k} (By_exec x from call given advice s came found runs) = work_is k x.live.me x found

pub asked_marks : {k : NodeState} {input : Input} {x : Branch} {s : Stmt} {given : ℕ} → Asked k input x s given → x.work.marks ≡ (work_at k x.live.me).marks
asked_marks {k = k} (By_call m x s call rows has code found may) = ap (λ (w : Work). w.marks) (found_work k x found)
asked_marks {k = k} (By_exec x from call given advice s came found runs) = ap (λ (w : Work). w.marks) (found_work k x found)

-- ---- what the run says

-- one that writes is of a statement that changes rows
abbrev pub ChangesRows : Stmt → StmtOutcome → Type 0
ChangesRows s (Writes d cs keys undo) = changes_rows s ≡ true
ChangesRows s _ = Unit {0}

pub changes_so : (p : Place) (k : NodeState) (b : BranchId) (s : Stmt) (t : Table) → ChangesRows s (ran p k b s t)
unfolding ran
changes_so p k b s t =
    run_so (ground_of p k b t) s t (ChangesRows s) (λ r. tt) (λ rows nobody. tt) (λ d n cs none nobody meant space. changes_is_none s t (view k b t.name) d n cs meant)

-- what is told of an accepted run, over these rows, is what it did
abbrev pub Says : Stmt → Table → List Keyed → StmtOutcome → Type 0
Says s t rows (Refuses r) = Unit {0}
Says s t rows (Reads found keys) = (changes_rows s ≡ false) × (changes_in (meant s t rows) ≡ [])
Says s t rows (Writes d cs keys undo) = (changes_rows s ≡ true) × (changes_in (meant s t rows) ≡ cs)

meant_query : (s : Stmt) (t : Table) (rows : List Keyed) (found : RowSet) → meant s t rows ≡ meants.Gives found → changes_rows s ≡ false
unfolding meant
meant_query s t rows found is = by (checked s t) is
  where
    by : (o : Option Refusal) → unless o (meant_over s t rows) ≡ meants.Gives found → changes_rows s ≡ false
    by None is = gives_is_query s t rows found is
    by (Some r) is = absurd cc

pub meant_says : (book : List Entry) (n : ℕ) (s : Stmt) (t : Table) (rows : List Keyed) (r : StmtOutcome) → IsMeantBy book n s t rows r → ChangesRows s r → Says s t rows r
meant_says book n s t rows (Refuses e) so changes = tt
meant_says book n s t rows (Reads found keys) so changes = (meant_query s t rows found so.0, ap changes_in so.0)
meant_says book n s t rows (Writes d cs keys undo) so changes = (changes, ap changes_in so)

-- ---- the node after it

module _ (j : NodeState) (x : Branch) (t : Table) (a : Answer) (me : x.work.branch ≡ x.live.me) where
  abbrev b : BranchId
  b = x.live.me

  abbrev sets_ran : StmtOutcome → List Owned
  sets_ran r = owns_after j.owns b (view j b t.name) r

  abbrev work_ran : StmtOutcome → Work
  work_ran r = (with_answer (branch_ran j.sessions x t r) a).work

  abbrev works_ran : StmtOutcome → List Work
  works_ran r = put_item work_id j.works (work_ran r)

  -- the sets and the marks of another branch stay
  pub other_sets : (r : StmtOutcome) (c : BranchId) → same b c ≡ false → sets_at (sets_ran r) c ≡ sets_at j.owns c
  other_sets (Refuses e) c other = refl
  other_sets (Reads rows keys) c other = refl
  other_sets (Writes d cs keys undo) c other = ap sets_of (put_leaves own_id j.owns (record { branch = b; sets = sets_at j.owns b ++ set_over (view j b t.name) cs ∷ [] }) c other)

  pub other_work : (r : StmtOutcome) (c : BranchId) → same b c ≡ false → work_or c (item_at work_id (works_ran r) c) ≡ work_at j c
  other_work r c other = ap (work_or c) (put_leaves work_id j.works (work_ran r) c (subst (λ m. same m c ≡ false) (sym me) other))

  -- its own calls are put
  pub own_work : (r : StmtOutcome) → work_or b (item_at work_id (works_ran r) b) ≡ work_ran r
  own_work r = ap (work_or b) (subst (λ c. item_at work_id (works_ran r) c ≡ Some (work_ran r)) me (put_found work_id j.works (work_ran r)))

  -- its savepoints stay
  pub own_savepoints : (r : StmtOutcome) → (work_or b (item_at work_id (works_ran r) b)).marks.savepoints ≡ x.work.marks.savepoints
  own_savepoints r = ap (λ (w : Work). w.marks.savepoints) (own_work r) ∙ by r
    where
      by : (r : StmtOutcome) → (marks_after x.work (step_of j.sessions x) t r).savepoints ≡ x.work.marks.savepoints
      by (Refuses e) = refl
      by (Reads rows keys) = refl
      by (Writes d cs keys undo) = refl

  -- so does its step
  pub own_step : (r : StmtOutcome)
      → step_of (answered_sessions j.sessions (after_run x.live r) x.live.parent) (record { live = after_run x.live r; work = work_or b (item_at work_id (works_ran r) b) }) ≡ step_of j.sessions x
  own_step r = by (is_none x.live.parent)
    where
      by : (q : Bool) → (if q then (session_at (answered_sessions j.sessions (after_run x.live r) x.live.parent) b.session).calls else (work_or b (item_at work_id (works_ran r) b)).came.last_call)
          ≡ (if q then (session_at j.sessions b.session).calls else x.work.came.last_call)
      by true = answered_calls j.sessions (after_run x.live r) x.live.parent b.session
      by false = ap (λ (w : Work). w.came.last_call) (own_work r)

  -- its runs are told with one that was accepted
  module _ (book : List Entry) (y : Seen) (run : Run) (step : ℕ) (later : y.taken ≤ step) (at : step ≡ step_of j.sessions x) (marks : x.work.marks ≡ (work_at j b).marks)
      (so : RunsAre y.runs y.taken (sets_at j.owns b) (work_at j b).marks.notes) where
    before : RunsAre y.runs y.taken (sets_at j.owns b) x.work.marks.notes
    before = subst (λ m. RunsAre y.runs y.taken (sets_at j.owns b) m.notes) (sym marks) so

    marked : (r : StmtOutcome) → Says run.statement run.table (view_by book run.branch y.read_at (own_of (Some y)) run.table.name) r
        → RunsAre (runs_with (is_accepted (Some (answer_of_run r))) book step y (Some run)) step (sets_at (sets_ran r) b) (marks_after x.work (step_of j.sessions x) t r).notes
    marked (Refuses e) says = runs_higher y.runs y.taken step (sets_at j.owns b) x.work.marks.notes later before
    marked (Reads rows keys) says =
        reads_more y.runs y.taken (sets_at j.owns b) x.work.marks.notes before (ran_by book step y.read_at (own_of (Some y)) run) later (run_note (step_of j.sessions x) t 0 keys x.work.calls) says.0 says.1 refl
    marked (Writes d cs keys undo) says =
        let set = set_over (view j b t.name) cs in
        let put : sets_at (sets_ran (Writes d cs keys undo)) b ≡ sets_at j.owns b ++ set ∷ [] = ap sets_of (put_found own_id j.owns (record { branch = b; sets = sets_at j.owns b ++ set ∷ [] })) in
        subst (λ sets. RunsAre (y.runs ++ ran_by book step y.read_at (own_of (Some y)) run ∷ []) step sets (marks_after x.work (step_of j.sessions x) t (Writes d cs keys undo)).notes) (sym put)
        (writes_more y.runs y.taken (sets_at j.owns b) x.work.marks.notes before (ran_by book step y.read_at (own_of (Some y)) run) later (run_note (step_of j.sessions x) t 1 keys x.work.calls) set says.0 says.1 refl (sym at))

    pub own_runs : (r : StmtOutcome) → Says run.statement run.table (view_by book run.branch y.read_at (own_of (Some y)) run.table.name) r
        → RunsAre (runs_with (is_accepted (Some (answer_of_run r))) book step y (Some run)) step (sets_at (sets_ran r) b) (work_or b (item_at work_id (works_ran r) b)).marks.notes
    own_runs r says =
        subst (λ (w : Work). RunsAre (runs_with (is_accepted (Some (answer_of_run r))) book step y (Some run)) step (sets_at (sets_ran r) b) w.marks.notes) (sym (own_work r)) (marked r says)
