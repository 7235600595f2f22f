-- A call that comes to a branch is run, answered again, or ignored.
use Rattle.std.proofs.Common.{◌≡◌, ℕ, ◌+◌, ◌<◌, ◌^◌, List, [], Option, None, Some, refl, sym, ap, subst, ◌∙◌}
use Rattle.tran_ids.specs.declared.branch.BranchId.{BranchId}
use Rattle.tran_ids.specs.Listed.{item_at, put_item}
use Rattle.tran_ids.proofs.ListedLemmas.{item_is, put_found}
use Rattle.row_store.specs.Own.{view_of}
use Rattle.row_store.specs.Pending.{changes_of}
use Rattle.row_store.specs.Store.{sets_at}
use Rattle.stmt_run.specs.Run.{locks_after, ran_over}
use Rattle.session_tree.specs.Tree.{count}
use Rattle.session_tree.specs.Live.{next_edge}
use Rattle.node_rules.specs.Data.{Place, Live, Stmt, Table, Keyed, Answer, Task, Admit}
use Rattle.node_rules.specs.Data.dones
use Rattle.node_rules.specs.declared.work.Errand.TheVariants as errands
use Rattle.node_rules.specs.Data.tasks
use Rattle.node_rules.specs.declared.work.Work.{Work}
use Rattle.node_rules.specs.Data.admits
use Rattle.node_rules.specs.Data.answers
use Rattle.node_rules.specs.Data.kinds
use Rattle.node_rules.specs.Names.{Way, Runs_here, Over, Through, Nowhere_to, passed_on, way_of}
use Rattle.node_rules.specs.NodeState.{NodeState, Branch, TurnDraft as DraftByRules, nothing, saying, post, live_id, branch_at, with_branch}
use Rattle.node_rules.specs.Marks.{branch_back, next_back, node_back}
use Rattle.node_rules.specs.Calls.{admit, advised_by, answered, answered_sessions, answer_ends, answer_says, backs_to, branch_ran, call_pends, exec_by, goes, next_call, nobody_at, on_exec, opens_through, runs_here, says_again, takes_call, task_at, waits_for_opened, with_answer}
use Rattle.node_rules.specs.Statement.{StmtOutcome, answer_of_run, ground_of, node_after_run, owns_after, ran, read_by, reads_at, reads_too_old, rows_read}
use Rattle.node_state.specs.Changed.{change_item, with_item}
use Rattle.node_state.specs.Works.{change_work, with_call_taken, work_of}
use Rattle.node_drafts.specs.declared.draft.TurnDraft.{TurnDraft}
use Rattle.node_drafts.specs.Gives.{GivesDraft}
use Rattle.node_calls.specs.Handled.{at_live}
use Rattle.node_calls.proofs.BranchLaws.{branch_here, calls_changed, changed_twice, found_changed, somebody, still_there, work_branch}
use Rattle.node_calls.proofs.OpenedLaws.{calls_again, calls_twice}

-- a statement is answered the same where its branch was put in its place before
pub answered_twice : (k : NodeState) (x y : Branch) (a : Answer) → x.live.me ≡ y.live.me → x.work.branch ≡ y.work.branch → answered (with_branch k x) y a ≡ answered k y a
answered_twice k x y a me mine =
    ap (λ q. record { after = record q { sessions = answered_sessions k.sessions y.live y.live.parent }; wrote = None; says = answer_says y a y.live.parent; ended = answer_ends y.live a y.live.parent })
    (changed_twice k x (with_answer y a) me mine)

-- and so it waits the same for a link
opens_again : (k : NodeState) (x : Branch) (node : ℕ) (link : List ℕ) (s : Stmt) (given : ℕ) → opens_through (with_branch k x) x node link s given ≡ opens_through k x node link s given
opens_again k x node link s given =
    ap (λ q. record { after = record q { sessions = call_pends k.sessions x.live }; wrote = None; says = post x.live.me (nobody_at node) (kinds.Open (next_edge x.live) x.live.root (x.live.depth + 1) x.live.read_at); ended = [] })
    (changed_twice k x (waits_for_opened x link s given) refl refl)

-- ---- a run where its branch was put in its place before

module _ (p : Place) (k : NodeState) (x : Branch) (s : Stmt) (t : Table) where
  -- what the branch sees, and what its statement does, where it reads at this SCN
  abbrev view_at : Option ℕ → List Keyed
  view_at scn = view_of (rows_read k scn) (changes_of (sets_at k.owns x.live.me)) t.name

  abbrev ran_at : Option ℕ → StmtOutcome
  ran_at scn = ran_over (record (ground_of p k x.live.me t) { view = view_at scn; too_old = reads_too_old k scn }) s t

  abbrev runs_at : Option ℕ → DraftByRules
  runs_at scn =
      answered (record (with_branch k x) { owns = owns_after k.owns x.live.me (view_at scn) (ran_at scn); locks = locks_after k.locks x.live.me t (ran_at scn) }) (branch_ran k.sessions x t (ran_at scn))
      (answer_of_run (ran_at scn))

  -- it reads at the same SCN
  pub runs_again : reads_at (with_branch k x) x.live.me ≡ reads_at k x.live.me → runs_here p (with_branch k x) x s t ≡ runs_here p k x s t
  unfolding ran
  runs_again same =
      ap runs_at same
      ∙ answered_twice (node_after_run k x.live.me t (ran p k x.live.me s t)) x (branch_ran k.sessions x t (ran p k x.live.me s t)) (answer_of_run (ran p k x.live.me s t)) refl refl

-- and goes the same way
goes_again : (p : Place) (k : NodeState) (x : Branch) (s : Stmt) (given : ℕ) (way : Way) → reads_at (with_branch k x) x.live.me ≡ reads_at k x.live.me → goes p (with_branch k x) x s given way ≡ goes p k x s given way
goes_again p k x s given (Runs_here t) same = runs_again p k x s t same
goes_again p k x s given (Nowhere_to r) same = answered_twice k x x (answers.Refused r) refl refl
goes_again p k x s given (Over i table) same = calls_again k x i (errands.Statement (passed_on s table) given)
goes_again p k x s given (Through node link table) same = opens_again k x node link (passed_on s table) given

-- so it goes back
backs_again : (k : NodeState) (x y : Branch) (step : ℕ) (next : Option ℕ) → x.live.me ≡ y.live.me → x.work.branch ≡ y.work.branch → backs_to (with_branch k x) y step next ≡ backs_to k y step next
backs_again k x y step None me mine = answered_twice k x y (answers.Did dones.RolledBack 0) me mine
backs_again k x y step (Some i) me mine = calls_twice k x y i (errands.GoBack step) me mine

task_again : (p : Place) (k : NodeState) (x : Branch) (task : Task) → reads_at (with_branch k x) x.live.me ≡ reads_at k x.live.me → task_at p (with_branch k x) x task ≡ task_at p k x task
task_again p k x (tasks.Run given advice s) same = goes_again p k x s given (way_of p k.stored.durable x.live given s) same
task_again p k x (tasks.GoBack keep) same = backs_again (node_back k x keep) x (branch_back k x keep) keep (next_back (branch_back k x keep).work keep 1) refl refl

-- each edge has the same next call number after a call is taken
pub numbers_taken : (call : ℕ) (ws : List Work) (b : BranchId) → ((i : ℕ) → next_call (work_of ws b) i < 2 ^ 32) → (i : ℕ) → next_call (work_of (change_work (with_call_taken call) ws b) b) i < 2 ^ 32
numbers_taken call ws b low i = subst (λ (w : Work). next_call w i < 2 ^ 32) (sym (calls_changed (with_call_taken call) (λ w. refl) ws b)) (low i)

-- a branch with the advice that came reads at the same SCN
advised_reads : (l : Live) (task : Task) → (advised_by l task).read_at ≡ l.read_at
advised_reads l (tasks.Run given advice s) = refl
advised_reads l (tasks.GoBack keep) = refl

advised_me : (l : Live) (task : Task) → (advised_by l task).me ≡ l.me
advised_me l (tasks.Run given advice s) = refl
advised_me l (tasks.GoBack keep) = refl

-- and tells as many branches
pub advised_count : (l : Live) (task : Task) → count (advised_by l task) ≡ count l
advised_count l (tasks.Run given advice s) = refl
advised_count l (tasks.GoBack keep) = refl

pub advised_stays : (task : Task) (l : Live) → (advised_by l task).me ≡ l.me
advised_stays task l = advised_me l task

-- going back brings no advice
pub not_advised : (ls : List Live) (b : BranchId) (task : Task) (keep : ℕ) → task ≡ tasks.GoBack keep → ls ≡ change_item live_id (λ live. advised_by live task) ls b
not_advised ls b task keep back = sym (ap (λ t. change_item live_id (λ live. advised_by live t) ls b) back ∙ still_there live_id ls b (item_at live_id ls b) refl)

module _ (p : Place) (k : NodeState) (b : BranchId) (l : Live) (is : item_at live_id k.lives b ≡ Some l) (from : BranchId) (call : ℕ) (task : Task) where
  by_number : (a : Admit) → admit (work_of k.works b).came call ≡ a → at_live k (λ x. on_exec p k x from call task) (branch_at k b) ≡ exec_by p k (branch_here k b l) from call task a
  by_number a at = somebody k b l (λ x. on_exec p k x from call task) is ∙ ap (exec_by p k (branch_here k b l) from call task) at

  -- a call of before, or one that is not answered yet
  pub ignored_so : (draft : TurnDraft) → admit (work_of k.works b).came call ≡ admits.Ignore → GivesDraft (nothing k) k draft → GivesDraft (at_live k (λ x. on_exec p k x from call task) (branch_at k b)) k draft
  ignored_so draft at does = subst (λ d. GivesDraft d k draft) (sym (by_number admits.Ignore at)) does

  -- the last one, answered before
  pub again_so : (draft : TurnDraft) → admit (work_of k.works b).came call ≡ admits.Again → GivesDraft (saying k (says_again (branch_here k b l) from (work_of k.works b).came.reply)) k draft
      → GivesDraft (at_live k (λ x. on_exec p k x from call task) (branch_at k b)) k draft
  again_so draft at does = subst (λ d. GivesDraft d k draft) (sym (by_number admits.Again at)) does

  -- a first one
  pub run_so : (lives : List Live) (works : List Work) (after : NodeState) (draft : TurnDraft) → admit (work_of k.works b).came call ≡ admits.Run
      → lives ≡ change_item live_id (λ live. advised_by live task) k.lives b → works ≡ change_work (with_call_taken call) k.works b
      → GivesDraft (at_live (record k { lives = lives; works = works }) (λ x. task_at p (record k { lives = lives; works = works }) x task) (branch_at (record k { lives = lives; works = works }) b)) after draft
      → GivesDraft (at_live k (λ x. on_exec p k x from call task) (branch_at k b)) after draft
  run_so lives works after draft at is_lives is_works does =
      let m : NodeState = record k { lives = lives; works = works } in
      let x : Branch = takes_call (branch_here k b l) call task in
      let put : m ≡ with_branch k x =
      ap (λ ls. record k { lives = ls; works = works }) (is_lives ∙ ap (with_item live_id (λ live. advised_by live task) k.lives) is)
      ∙ ap (λ ws. record k { lives = put_item live_id k.lives x.live; works = ws }) is_works in
      let me : x.live.me ≡ b = advised_me l task ∙ item_is live_id k.lives b l is in
      let there : item_at live_id (put_item live_id k.lives x.live) x.live.me ≡ Some x.live = put_found live_id k.lives x.live in
      let before : item_at live_id k.lives x.live.me ≡ Some l = ap (item_at live_id k.lives) me ∙ is in
      let reads : reads_at (with_branch k x) x.live.me ≡ reads_at k x.live.me = ap read_by there ∙ advised_reads l task ∙ sym (ap read_by before) in
      let code : at_live m (λ y. task_at p m y task) (branch_at m b) ≡ task_at p k x task =
      ap (λ q. at_live q (λ y. task_at p q y task) (branch_at q b)) put
      ∙ ap (at_live (with_branch k x) (λ y. task_at p (with_branch k x) y task)) (found_changed k b x me (work_branch k.works b ∙ sym me))
      ∙ task_again p k x task reads in
      subst (λ d. GivesDraft d after draft) (code ∙ sym (by_number admits.Run at)) does
