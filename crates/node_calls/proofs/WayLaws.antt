-- A statement at a live branch: it runs here, is refused, or goes on.
use Rattle.std.proofs.Common.{◌≡◌, ◌||◌, ◌<◌, ℕ, Bool, true, false, if◌then◌else◌, List, [], Option, None, Some, Result, IfOk, IfSome, refl, sym, ap, subst, ◌∙◌, arith}
use Rattle.std.specs.Prelude.{nat_le}
use Rattle.std.proofs.lemmas.Bool.Decides.{nat_tests}
use Rattle.dtx_values.specs.Limits.{depth_limit}
use Rattle.tran_ids.specs.declared.branch.BranchId.{BranchId}
use Rattle.tran_ids.specs.Listed.{item_at, put_item}
use Rattle.tran_ids.proofs.ListedLemmas.{item_is, put_found}
use Rattle.session_tree.specs.Live.{edge_by_link}
use Rattle.node_rules.specs.Data.{Place, Durable, Live, Table, Stmt, Answer, Refusal}
use Rattle.node_rules.specs.declared.work.Errand.TheVariants as errands
use Rattle.node_rules.specs.declared.work.Work.{Work}
use Rattle.node_rules.specs.Data.answers
use Rattle.node_rules.specs.Refusals.{ora, dtx}
use Rattle.node_rules.specs.Names.{Named, A_table, Behind, Unknown, Way, Runs_here, Over, Through, Nowhere_to, named_by, passed_on, ref_of, target_of, way_edge, way_named, way_of, way_target}
use Rattle.node_rules.specs.NodeState.{NodeState, Branch, TurnDraft as DraftByRules, live_id, branch_at, with_branch}
use Rattle.node_rules.specs.Calls.{answered, branch_ran, calls_over, goes, opens_through, statement_at}
use Rattle.node_rules.specs.Marks.{keys_of_table, marks_after, step_of}
use Rattle.node_rules.specs.Statement.{StmtOutcome, Refuses, Reads, Writes, answer_of_run, makes_changes, node_after_run, owns_after, ran, view}
use Rattle.stmt_run.specs.Run.{locks_after}
use Rattle.node_state.specs.Changed.{change_item, with_item}
use Rattle.node_state.specs.Lives.{changed_by}
use Rattle.node_state.specs.Works.{run_noted, work_of}
use Rattle.node_drafts.specs.declared.draft.TurnDraft.{TurnDraft}
use Rattle.node_drafts.specs.Gives.{GivesDraft}
use Rattle.node_calls.specs.Handled.{at_live, works_after_run}
use Rattle.node_calls.proofs.BranchLaws.{branch_here, found_changed, somebody, work_branch}
use Rattle.node_calls.proofs.CallLaws.{answered_twice}
use Rattle.node_calls.proofs.ReplyLaws.{answered_again}
use Rattle.node_rules.proofs.WayLemmas.{way_by_name}

-- ---- a run that is noted

-- the branch with its note is answered
noted_is : (n : NodeState) (b : BranchId) (y : Live) (f : Work → Work) → ((w : Work) → (f w).branch ≡ w.branch) → (a : Answer) → y.me ≡ b
    → at_live (with_branch n (record { live = y; work = f (work_of n.works b) })) (λ x. answered (with_branch n (record { live = y; work = f (work_of n.works b) })) x a)
    (branch_at (with_branch n (record { live = y; work = f (work_of n.works b) })) b)
    ≡ answered n (record { live = y; work = f (work_of n.works b) }) a
noted_is n b y f stays a me =
    let z : Branch = record { live = y; work = f (work_of n.works b) } in
    let mine : z.work.branch ≡ z.live.me = stays (work_of n.works b) ∙ work_branch n.works b ∙ sym me in
    ap (at_live (with_branch n z) (λ x. answered (with_branch n z) x a)) (found_changed n b z me mine) ∙ answered_twice n z z a refl refl

-- so is one whose run left no note
unnoted_is : (n : NodeState) (b : BranchId) (y : Live) (a : Answer) → y.me ≡ b
    → at_live (record n { lives = put_item live_id n.lives y }) (λ x. answered (record n { lives = put_item live_id n.lives y }) x a) (branch_at (record n { lives = put_item live_id n.lives y }) b)
    ≡ answered n (record { live = y; work = work_of n.works b }) a
unnoted_is n b y a me =
    let there : item_at live_id (put_item live_id n.lives y) b ≡ Some y = subst (λ c. item_at live_id (put_item live_id n.lives y) c ≡ Some y) me (put_found live_id n.lives y) in
    somebody (record n { lives = put_item live_id n.lives y }) b y (λ x. answered (record n { lives = put_item live_id n.lives y }) x a) there ∙ answered_again n y (work_of n.works b) a

code_is : (n : NodeState) (b : BranchId) (y : Live) (step : ℕ) (t : Table) (r : StmtOutcome) (a : Answer) → y.me ≡ b
    → at_live (record n { lives = put_item live_id n.lives y; works = works_after_run n.works b step t r })
    (λ x. answered (record n { lives = put_item live_id n.lives y; works = works_after_run n.works b step t r }) x a)
    (branch_at (record n { lives = put_item live_id n.lives y; works = works_after_run n.works b step t r }) b)
    ≡ answered n (record { live = y; work = record (work_of n.works b) { marks = marks_after (work_of n.works b) step t r } }) a
code_is n b y step t (Refuses refusal) a me = unnoted_is n b y a me
code_is n b y step t (Reads rows keys) a me = noted_is n b y (run_noted step 0 (keys_of_table t.name keys)) (λ w. refl) a me
code_is n b y step t (Writes d cs keys undo) a me = noted_is n b y (run_noted step 1 (keys_of_table t.name keys)) (λ w. refl) a me

module _ (p : Place) (k : NodeState) (b : BranchId) (l : Live) (is : item_at live_id k.lives b ≡ Some l) (s : Stmt) (given : ℕ) where
  by_way : (way : Way) → way_of p k.stored.durable l given s ≡ way → at_live k (λ x. statement_at p k x s given) (branch_at k b) ≡ goes p k (branch_here k b l) s given way
  by_way way at = somebody k b l (λ x. statement_at p k x s given) is ∙ ap (goes p k (branch_here k b l) s given) at

  goes_so : {E : Type 0} (way : Way) (f : Branch → DraftByRules) (after : NodeState) (result : Result TurnDraft E) → way_of p k.stored.durable l given s ≡ way → goes p k (branch_here k b l) s given way ≡ f (branch_here k b l)
      → IfOk result (λ draft. GivesDraft (at_live k f (branch_at k b)) after draft) → IfOk result (λ draft. GivesDraft (at_live k (λ x. statement_at p k x s given) (branch_at k b)) after draft)
  goes_so way f after result at same does = subst (λ d. IfOk result (λ draft. GivesDraft d after draft)) (somebody k b l f is ∙ sym (by_way way at ∙ same)) does

  -- it is refused
  pub refused_so : {E : Type 0} (r : Refusal) (after : NodeState) (result : Result TurnDraft E) → way_of p k.stored.durable l given s ≡ Nowhere_to r
      → IfOk result (λ draft. GivesDraft (at_live k (λ x. answered k x (answers.Refused r)) (branch_at k b)) after draft) → IfOk result (λ draft. GivesDraft (at_live k (λ x. statement_at p k x s given) (branch_at k b)) after draft)
  refused_so r after result at does = goes_so (Nowhere_to r) (λ x. answered k x (answers.Refused r)) after result at refl does

  -- it goes to a child
  pub over_so : {E : Type 0} (i : ℕ) (table : List ℕ) (passed : Stmt) (after : NodeState) (result : Result TurnDraft E) → way_of p k.stored.durable l given s ≡ Over i table → passed ≡ passed_on s table
      → IfOk result (λ draft. GivesDraft (at_live k (λ x. calls_over k x i (errands.Statement passed given)) (branch_at k b)) after draft) → IfOk result (λ draft. GivesDraft (at_live k (λ x. statement_at p k x s given) (branch_at k b)) after draft)
  over_so i table passed after result at same does =
      goes_so (Over i table) (λ x. calls_over k x i (errands.Statement passed given)) after result at (ap (λ t. calls_over k (branch_here k b l) i (errands.Statement t given)) (sym same)) does

  -- it opens a link
  pub through_so : {E : Type 0} (node : ℕ) (link table to : List ℕ) (passed : Stmt) (after : NodeState) (result : Result TurnDraft E) → way_of p k.stored.durable l given s ≡ Through node link table → passed ≡ passed_on s table → to ≡ link
      → IfOk result (λ draft. GivesDraft (at_live k (λ x. opens_through k x node to passed given) (branch_at k b)) after draft) → IfOk result (λ draft. GivesDraft (at_live k (λ x. statement_at p k x s given) (branch_at k b)) after draft)
  through_so node link table to passed after result at same is_link does =
      goes_so (Through node link table) (λ x. opens_through k x node to passed given) after result at
      (ap (λ t. opens_through k (branch_here k b l) node link t given) (sym same) ∙ ap (λ n. opens_through k (branch_here k b l) node n passed given) (sym is_link)) does

  -- it runs here
  pub ran_so : {E : Type 0} (t : Table) (r : StmtOutcome) (step : ℕ) (m after : NodeState) (result : Result TurnDraft E) → way_of p k.stored.durable l given s ≡ Runs_here t → r ≡ ran p k b s t
      → step ≡ step_of k.sessions (branch_here k b l)
      → m ≡ record k { owns = owns_after k.owns b (view k b t.name) r; locks = locks_after k.locks b t r; lives = change_item live_id (changed_by (makes_changes r)) k.lives b; works = works_after_run k.works b step t r }
      → IfOk result (λ draft. GivesDraft (at_live m (λ x. answered m x (answer_of_run r)) (branch_at m b)) after draft) → IfOk result (λ draft. GivesDraft (at_live k (λ x. statement_at p k x s given) (branch_at k b)) after draft)
  ran_so t r step m after result at is_r is_step is_m does =
      let n : NodeState = node_after_run k b t r in
      let y : Live = changed_by (makes_changes r) l in
      let here : ℕ = step_of k.sessions (branch_here k b l) in
      let me : l.me ≡ b = item_is live_id k.lives b l is in
      let put : m ≡ record n { lives = put_item live_id k.lives y; works = works_after_run k.works b here t r } =
      is_m ∙ ap (λ o. record n { lives = with_item live_id (changed_by (makes_changes r)) k.lives o; works = works_after_run k.works b step t r }) is
      ∙ ap (λ i. record n { lives = put_item live_id k.lives y; works = works_after_run k.works b i t r }) is_step in
      let code : at_live m (λ x. answered m x (answer_of_run r)) (branch_at m b) ≡ answered n (branch_ran k.sessions (branch_here k b l) t r) (answer_of_run r) =
      ap (λ q. at_live q (λ x. answered q x (answer_of_run r)) (branch_at q b)) put
      ∙ code_is n b y here t r (answer_of_run r) me in
      let rules : at_live k (λ x. statement_at p k x s given) (branch_at k b) ≡ answered n (branch_ran k.sessions (branch_here k b l) t r) (answer_of_run r) =
      by_way (Runs_here t) at
      ∙ ap (λ c. answered (node_after_run k c t (ran p k c s t)) (branch_ran k.sessions (branch_here k b l) t (ran p k c s t)) (answer_of_run (ran p k c s t))) me
      ∙ ap (λ q. answered (node_after_run k b t q) (branch_ran k.sessions (branch_here k b l) t q) (answer_of_run q)) (sym is_r) in
      subst (λ d. IfOk result (λ draft. GivesDraft d after draft)) (code ∙ sym rules) does

-- ---- a link that is used for the first time

module _ (p : Place) (d : Durable) (l : Live) (given : ℕ) (node : ℕ) (link table : List ℕ) where
  new_deep : (n : ℕ) (to name : List ℕ) (deep full many : Bool) → nat_le depth_limit l.depth ≡ deep
      → (if deep || full then Nowhere_to (dtx 2 []) else (if many then Nowhere_to (ora 2020 []) else Through n to name)) ≡ Through node link table → l.depth < depth_limit
  new_deep n to name true full many at is = absurd cc
  new_deep n to name false true many at is = absurd cc
  new_deep n to name false false true at is = absurd cc
  new_deep n to name false false false at is = grind (arith, nat_tests, at)

  edge_deep : (n : ℕ) (to name : List ℕ) (o : Option ℕ) → way_edge p l given n to name o ≡ Through node link table → l.depth < depth_limit
  edge_deep n to name (Some i) is = absurd cc
  edge_deep n to name None is = new_deep n to name _ _ _ refl is

  target_deep : (to name : List ℕ) (o : Option ℕ) → way_target p l given to name o ≡ Through node link table → l.depth < depth_limit
  target_deep to name None is = absurd cc
  target_deep to name (Some n) is = edge_deep n to name (edge_by_link l to) is

  named_deep : (named : Named) → way_named p d l given named ≡ Through node link table → l.depth < depth_limit
  named_deep Unknown is = absurd cc
  named_deep (A_table t) is = absurd cc
  named_deep (Behind to name) is = target_deep to name (target_of p d to) is

  -- the branch is not the deepest that a tree may have
  pub way_deep : (s : Stmt) → way_of p d l given s ≡ Through node link table → l.depth < depth_limit
  way_deep s is = named_deep (named_by d (ref_of s)) (way_by_name p d l given s (Through node link table) tt is)

-- so it has room for a child that is deeper
pub depth_there : (ls : List Live) (b : BranchId) (l : Live) → item_at live_id ls b ≡ Some l → l.depth < depth_limit → IfSome (item_at live_id ls b) (λ x. x.depth < depth_limit)
depth_there ls b l is deep = subst (λ o. IfSome o (λ x. x.depth < depth_limit)) (sym is) deep
