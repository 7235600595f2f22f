-- What a turn makes of the greatest call number that a live branch took: an Exec that came to the branch raises it, and nothing else does.
use Rattle.std.proofs.Common.{◌≡◌, ℕ, ◌⊎◌, ◌==◌, ◌&&◌, Bool, true, false, if◌then◌else◌, List, max, is_some, Option, Some, None, inl, inr, refl, sym, ap, subst, ◌∙◌, arith}
use Rattle.std.specs.Prelude.{nat_lt}
use Rattle.std.proofs.lemmas.Bool.Decides.{nat_tests}
use Rattle.tran_ids.proofs.BranchLemmas.{equal_from_same}
use Rattle.tran_ids.proofs.ListedLemmas.{put_found, put_leaves, drop_gone, drop_leaves}
use Rattle.commit_forget.specs.declared.next.Next.TheVariants as nexts
use Rattle.node_rules.specs.Data.{Stmt, Admit, BranchId, Live, Act, Place, Input, Task}
use Rattle.node_rules.specs.declared.work.Work.{Work}
use Rattle.node_rules.specs.Data.acts
use Rattle.node_rules.specs.Data.admits
use Rattle.node_rules.specs.Data.kinds
use Rattle.node_rules.specs.Words.{same, item_at, put_item, drop_item}
use Rattle.node_rules.specs.Inputs.{Came}
use Rattle.node_rules.specs.Names.{Way, Runs_here, Over, Through, Nowhere_to, way_of}
use Rattle.node_rules.specs.NodeState.{NodeState, Branch, TurnDraft, live_id, work_id, work_or, live_at, work_at, with_work, branch_at}
use Rattle.node_rules.specs.Prepare.{act_turn}
use Rattle.node_rules.specs.Calls.{admit, takes_call, goes, exec_by, on_exec, backs_to, task_at}
use Rattle.node_rules.proofs.LiveLemmas.{work_is}
use Rattle.node_rules.proofs.Steps as steps
use Rattle.node_rules.proofs.Steps.{Asked, Step, Calls_back, Goes_to}
use Rattle.node_rules.specs.Data.tasks
use Rattle.node_rules.specs.Marks.{next_back, branch_back, node_back}

-- the greatest call number that a branch took
abbrev pub last_in : List Work → BranchId → ℕ
last_in ws b = (work_or b (item_at work_id ws b)).came.last_call

abbrev pub last_of : NodeState → BranchId → ℕ
last_of k b = last_in k.works b

-- ---- the calls of a branch

put_calls : (ws : List Work) (w : Work) (b : BranchId) → (w.branch ≡ b → w.came.last_call ≡ last_in ws b) → last_in (put_item work_id ws w) b ≡ last_in ws b
put_calls ws w b so = by (same w.branch b) refl
  where
    by : (q : Bool) → same w.branch b ≡ q → last_in (put_item work_id ws w) b ≡ last_in ws b
    by true here =
        let one : w.branch ≡ b = equal_from_same w.branch b here in
        ap (λ o. (work_or b o).came.last_call) (subst (λ c. item_at work_id (put_item work_id ws w) c ≡ Some w) one (put_found work_id ws w)) ∙ so one
    by false other = ap (λ o. (work_or b o).came.last_call) (put_leaves work_id ws w b other)

left_calls : (ls : List Live) (ws : List Work) (c b : BranchId) (l : Live) → item_at live_id (drop_item live_id ls c) b ≡ Some l → last_in (drop_item work_id ws c) b ≡ last_in ws b
left_calls ls ws c b l live = by (same c b) refl
  where
    by : (q : Bool) → same c b ≡ q → last_in (drop_item work_id ws c) b ≡ last_in ws b
    by true here =
        let one : c ≡ b = equal_from_same c b here in
        let gone : item_at live_id (drop_item live_id ls c) b ≡ None = subst (λ x. item_at live_id (drop_item live_id ls c) x ≡ None) one (drop_gone live_id ls c) in
        absurd (cc (gone, live))
    by false other = ap (λ o. (work_or b o).came.last_call) (drop_leaves work_id ws c b other)

-- the calls of a branch that is found are its own
pub found_calls : (k : NodeState) (x : Branch) → branch_at k x.live.me ≡ Some x → x.work.came.last_call ≡ last_of k x.live.me
found_calls k x found = by (live_at k x.live.me) refl found
  where
    by : (o : Option Live) → live_at k x.live.me ≡ o → with_work k o ≡ Some x → x.work.came.last_call ≡ last_of k x.live.me
    by None is found = absurd cc
    by (Some l) is found =
        let one : record { live = l; work = work_at k l.me } ≡ x = (let it : Some (record { live = l; work = work_at k l.me }) ≡ Some x = found in cc) in
        sym (ap (λ (y : Branch). y.work.came.last_call) one) ∙ ap (last_of k) (ap (λ (y : Branch). y.live.me) one)

-- ---- a turn in which no Exec comes to the branch

module _ (p : Place) (input : Input) (b : BranchId) (not_to : (from : BranchId) (call : ℕ) (task : Task) → Came input from b (kinds.Exec call task) → ⊥) where
  -- the number that its branch took stays where the branch was asked by a call
  asked_calls : (k : NodeState) {x : Branch} {s : Stmt} {given : ℕ} → Asked k input x s given → x.work.branch ≡ b → x.work.came.last_call ≡ last_of k b
  asked_calls k (steps.By_call n x s call rows has code found may) me = found_calls k x found ∙ ap (last_of k) (sym (work_is k x.live.me x found) ∙ me)
  asked_calls k (steps.By_exec x from call given advice s came found runs) me =
      let mine : x.live.me ≡ b = sym (work_is k x.live.me x found) ∙ me in
      absurd (not_to from call (tasks.Run given advice s) (subst (λ c. Came input from c (kinds.Exec call (tasks.Run given advice s))) mine came))

  found_same : (k : NodeState) (x : Branch) → branch_at k x.live.me ≡ Some x → x.work.branch ≡ b → x.work.came.last_call ≡ last_of k b
  found_same k x found me = found_calls k x found ∙ ap (last_of k) (sym (work_is k x.live.me x found) ∙ me)

  goes_calls : (k : NodeState) {x : Branch} {step : ℕ} → Goes_to k input x step → x.work.branch ≡ b → x.work.came.last_call ≡ last_of k b
  goes_calls k (steps.By_rollback_to n x name step call has code found set) me = found_same k x found me
  goes_calls k (steps.By_back x from call keep came found runs) me =
      let mine : x.live.me ≡ b = sym (work_is k x.live.me x found) ∙ me in
      absurd (not_to from call (tasks.GoBack keep) (subst (λ c. Came input from c (kinds.Exec call (tasks.GoBack keep))) mine came))

  calling_calls : (k : NodeState) {x : Branch} {step from : ℕ} → Calls_back k input x step from → x.work.branch ≡ b → x.work.came.last_call ≡ last_of k b
  calling_calls k (steps.Has_gone j x step goes is) me = goes_calls j goes me ∙ ap (λ (i : NodeState). last_of i b) (sym is)
  calling_calls k (steps.Has_heard x weight count a i e g step answered going errand done) me = found_same k x answered.live me

  -- a branch goes back, whichever child it calls first
  back_calls : (k : NodeState) (x : Branch) (step : ℕ) → Goes_to k input x step → (next : Option ℕ) → last_of (backs_to (node_back k x step) (branch_back k x step) step next).after b ≡ last_of k b
  back_calls k x step goes None = put_calls k.works _ b (goes_calls k goes)
  back_calls k x step goes (Some i) = put_calls k.works _ b (goes_calls k goes)

  act_calls : (k : NodeState) (l : Live) (q : Bool) (a : Act) (y : Live) → live_at (act_turn k l q a).after b ≡ Some y → last_of (act_turn k l q a).after b ≡ last_of k b
  act_calls k l q acts.Rest y live = refl
  act_calls k l q acts.AskDown y live = refl
  act_calls k l q acts.SayReady y live = refl
  act_calls k l q _ y live = left_calls k.lives k.works l.me b y live

  pub calls_on : {k : NodeState} {d : TurnDraft} → Step p input k d → (y : Live) → live_at d.after b ≡ Some y → last_of d.after b ≡ last_of k b
  calls_on (steps.Begins n s read_at call begins range none step) y live = calls_on step y live
  calls_on (steps.Counts_call n s call counts step) y live = calls_on step y live
  calls_on (steps.Goes_back {k = k} x step goes next) y live = back_calls k x step goes (next_back (branch_back k x step).work step 1)
  calls_on (steps.Pends n l given call has found code writer step) y live = calls_on step y live
  calls_on (steps.Lets_reads_go l comment q found begins step) y live = calls_on step y live
  calls_on (steps.Counts_ack s from kept came counts step) y live = calls_on step y live
  calls_on (steps.Runs {k = k} x s given t asked way) y live = put_calls k.works _ b (asked_calls k asked)
  calls_on (steps.Goes_nowhere {k = k} x s given r asked way) y live = put_calls k.works _ b (asked_calls k asked)
  calls_on (steps.Calls {k = k} x s given i table asked way) y live = put_calls k.works _ b (asked_calls k asked)
  calls_on (steps.Opens {k = k} x s given node link table asked way) y live = put_calls k.works _ b (asked_calls k asked)
  calls_on (steps.Goes_on {k = k} x from strength g link opened) y live = put_calls k.works _ b (found_same k x opened.live)
  calls_on (steps.Hears_reply {k = k} x weight count a i e answered) y live = put_calls k.works _ b (found_same k x answered.live)
  calls_on (steps.Backs {k = k} x step from i calls next) y live = put_calls k.works _ b (calling_calls k calls)
  calls_on (steps.Is_back {k = k} x step from calls none) y live = put_calls k.works _ b (calling_calls k calls)
  calls_on (steps.Acts {k = k} l q a why) y live = act_calls k l q a y live
  calls_on (steps.Drops_told {k = k} l found drops) y live = left_calls k.lives k.works l.me b y live
  calls_on (steps.Drops_asked {k = k} l from found came parent) y live = left_calls k.lives k.works l.me b y live
  calls_on (steps.Does s from nexts.Rest kept why) y live = refl
  calls_on (steps.Leaves {k = k} n s d x call ends has found) y live = left_calls k.lives k.works x.live.me b y live
  calls_on (steps.Sets_savepoint {k = k} n x name call has code found) y live = put_calls k.works _ b (found_same k x found)
  calls_on (steps.Gives_up {k = k} n x gives has calls found) y live = put_calls k.works _ b (found_same k x found)
  calls_on (steps.Gives_up_commit {k = k} n c (Some l) gives has calls found) y live = left_calls k.lives k.works l.me b y live
  calls_on _ y live = refl

-- ---- an Exec that comes to its branch

not_above : (a c : ℕ) → nat_lt a c ≡ false → max a c ≡ a
not_above a c is = grind (arith, nat_tests, is)

above : (a c : ℕ) → nat_lt a c ≡ true → max a c ≡ c
above a c is = grind (arith, nat_tests, is)

module _ (p : Place) (k : NodeState) (x : Branch) (found : branch_at k x.live.me ≡ Some x) (from : BranchId) (call : ℕ) (task : Task) where
  took : (w : Work) → w.branch ≡ x.live.me → last_in (put_item work_id k.works w) x.live.me ≡ w.came.last_call
  took w me = ap (λ o. (work_or x.live.me o).came.last_call) (subst (λ c. item_at work_id (put_item work_id k.works w) c ≡ Some w) me (put_found work_id k.works w))

  goes_took : (s : Stmt) (given : ℕ) (way : Way) → last_of (goes p k (takes_call x call task) s given way).after x.live.me ≡ call
  goes_took s given (Runs_here t) = took _ (work_is k x.live.me x found)
  goes_took s given (Nowhere_to r) = took _ (work_is k x.live.me x found)
  goes_took s given (Over i table) = took _ (work_is k x.live.me x found)
  goes_took s given (Through node link table) = took _ (work_is k x.live.me x found)

  backs_took : (step : ℕ) (next : Option ℕ) → last_of (backs_to (node_back k (takes_call x call task) step) (branch_back k (takes_call x call task) step) step next).after x.live.me ≡ call
  backs_took step None = took _ (work_is k x.live.me x found)
  backs_took step (Some i) = took _ (work_is k x.live.me x found)

module _ (p : Place) (k : NodeState) (x : Branch) (found : branch_at k x.live.me ≡ Some x) (from : BranchId) (call : ℕ) where
  task_took : (task : Task) → last_of (task_at p k (takes_call x call task) task).after x.live.me ≡ call
  task_took (tasks.Run given advice s) =
      goes_took p k x found from call (tasks.Run given advice s) s given (way_of p k.stored.durable (takes_call x call (tasks.Run given advice s)).live given s)
  task_took (tasks.GoBack keep) =
      backs_took p k x found from call (tasks.GoBack keep) keep (next_back (branch_back k (takes_call x call (tasks.GoBack keep)) keep).work keep 1)

  pub exec_took : (task : Task) → last_of (on_exec p k x from call task).after x.live.me ≡ max (last_of k x.live.me) call
  unfolding admit
  exec_took task = subst (λ n. last_of (on_exec p k x from call task).after x.live.me ≡ max n call) (found_calls k x found) (by (nat_lt x.work.came.last_call call) refl)
    where
      ignored : (a : Admit) → (a ≡ admits.Again) ⊎ (a ≡ admits.Ignore) → last_of (exec_by p k x from call task a).after x.live.me ≡ x.work.came.last_call
      ignored admits.Again is = sym (found_calls k x found)
      ignored admits.Ignore is = sym (found_calls k x found)
      ignored admits.Run (inl is) = absurd cc
      ignored admits.Run (inr is) = absurd cc

      either : (q : Bool) → ((if q then admits.Again else admits.Ignore) ≡ admits.Again) ⊎ ((if q then admits.Again else admits.Ignore) ≡ admits.Ignore)
      either true = inl refl
      either false = inr refl

      by : (q : Bool) → nat_lt x.work.came.last_call call ≡ q
          → last_of (exec_by p k x from call task (if q then admits.Run else (if (call == x.work.came.last_call) && is_some x.work.came.reply then admits.Again else admits.Ignore))).after x.live.me ≡ max x.work.came.last_call call
      by true is = task_took task ∙ sym (above x.work.came.last_call call is)
      by false is = ignored _ (either ((call == x.work.came.last_call) && is_some x.work.came.reply)) ∙ sym (not_above x.work.came.last_call call is)
