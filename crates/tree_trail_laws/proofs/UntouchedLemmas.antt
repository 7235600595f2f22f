-- A live branch to which nothing comes stays as it was.
use Rattle.std.proofs.Common.{◌≡◌, ℕ, Bool, true, false, List, [], ◌∷◌, ◌++◌, Option, Some, refl, sym, subst, ◌∙◌}
use Rattle.tran_ids.proofs.BranchLemmas.{equal_from_same}
use Rattle.tran_ids.proofs.ListedLemmas.{item_is, put_leaves, drop_leaves}
use Rattle.commit_forget.specs.declared.next.Next.TheVariants as nexts
use Rattle.session_tree.specs.Live.{new_edge, fresh_live}
use Rattle.node_rules.specs.Data.{Stmt, BranchId, Kind, Live, Act, Place, Input, Done}
use Rattle.node_rules.specs.Data.acts
use Rattle.node_rules.specs.Data.kinds
use Rattle.node_rules.specs.declared.session.PendingCall.TheVariants as pending
use Rattle.node_rules.specs.Words.{same, is_item_of, item_at, put_item, drop_item}
use Rattle.node_rules.specs.Data.inputs
use Rattle.node_rules.specs.Data.stmts
use Rattle.node_rules.specs.Inputs.{Came, IsCall}
use Rattle.node_rules.specs.NodeState.{NodeState, Branch, TurnDraft, live_id, live_at}
use Rattle.node_rules.specs.Statement.{ran, after_run}
use Rattle.node_rules.specs.Calls.{next_child, strength_of, with_edge, hears_reply}
use Rattle.node_rules.specs.Client.{new_root, fresh_root}
use Rattle.node_rules.specs.Prepare.{ready, act_turn}
use Rattle.node_rules.proofs.Steps as steps
use Rattle.node_rules.proofs.Steps.{HasRoot, Step, Asked, Collects, Acting, Drops, IsOfRows, Calls_back, Goes_to, EndsAtOnce}
use Rattle.run_base_laws.proofs.RootLemmas.{SessionsFit, pends_so, begun_so, counted_so, back_so}
use Rattle.tree_trail_laws.proofs.PlanLemmas.{find_more}
use Rattle.node_rules.specs.Data.tasks
use Rattle.node_rules.specs.Marks.{node_back}

-- A call of a session that concerns its root, or that is given up.
pub data Concerns_root (input : Input) (n : ℕ) : Type 0 where
  Of_rows : (s : Stmt) → IsCall input n s → IsOfRows s → Concerns_root input n
  Is_savepoint : (name : List ℕ) → IsCall input n (stmts.Savepoint name) → Concerns_root input n
  Is_back_to : (name : List ℕ) → IsCall input n (stmts.RollbackTo name) → Concerns_root input n
  Is_commit : (given : Option (List ℕ)) → IsCall input n (stmts.Commit given) → Concerns_root input n
  Is_rollback : IsCall input n stmts.Rollback → Concerns_root input n
  Gives_up : input ≡ inputs.GiveUp n → Concerns_root input n

-- a call that ends a root at once concerns it
ends_concerns : {input : Input} {n : ℕ} {s : Stmt} {d : Done} {code read_at : Option ℕ} → IsCall input n s → EndsAtOnce code read_at s d → Concerns_root input n
ends_concerns call steps.By_rollback_call = Is_rollback call
ends_concerns call (steps.By_reading comment scn none reads) = Is_commit comment call

module _ (p : Place) (input : Input) (b : BranchId) (not_to : (from : BranchId) (kind : Kind) → Came input from b kind → ⊥) (z : Live)
    (not_root : (k : NodeState) → SessionsFit k → live_at k b ≡ Some z → (n : ℕ) → Concerns_root input n → HasRoot k n b → ⊥) where
  -- no message came to it
  came_not : (c : BranchId) → c ≡ b → (from : BranchId) (kind : Kind) → Came input from c kind → ⊥
  came_not c me from kind came = not_to from kind (subst (λ x. Came input from x kind) me came)

  module _ (k : NodeState) (ss : SessionsFit k) (live : live_at k b ≡ Some z) where
    -- nor is it the transaction of a session whose call came
    root_not : (n : ℕ) (c : BranchId) → Concerns_root input n → HasRoot k n c → c ≡ b → ⊥
    root_not n c concerns has me = not_root k ss live n concerns (subst (HasRoot k n) me has)

    asked_not : {x : Branch} {s : Stmt} {given : ℕ} → Asked k input x s given → x.live.me ≡ b → ⊥
    asked_not (steps.By_call n x s call rows has code found may) me = root_not n x.live.me (Of_rows s call rows) has me
    asked_not (steps.By_exec x from call given advice s came found runs) me = came_not x.live.me me from (kinds.Exec call (tasks.Run given advice s)) came

    goes_not : {x : Branch} {step : ℕ} → Goes_to k input x step → x.live.me ≡ b → ⊥
    goes_not (steps.By_rollback_to n x name step call has code found set) me = root_not n x.live.me (Is_back_to name call) has me
    goes_not (steps.By_back x from call keep came found runs) me = came_not x.live.me me from (kinds.Exec call (tasks.GoBack keep)) came

    collects_not : {comment : List ℕ} {q : Bool} (l : Live) → Collects k input l comment q → l.me ≡ b → ⊥
    collects_not l (steps.By_commit n given call has code writer is) me = root_not n l.me (Is_commit given call) has me
    collects_not {comment = comment} l (steps.By_prepare from q came working) me = came_not l.me me from (kinds.Prepare q comment) came

    acting_not : {l : Live} {q : Bool} {a : Act} → Acting k input l q a → l.me ≡ b → ⊥
    acting_not (steps.Asks_down l comment q e es found begins has) me = collects_not l begins me
    acting_not (steps.Has_no_children l comment q a found begins none collected) me = collects_not l begins me
    acting_not (steps.Hears_abort l from q found answers) me = came_not l.me me from answers.kind answers.came
    acting_not (steps.Waits_on l from v q found answers other some) me = came_not l.me me from answers.kind answers.came
    acting_not (steps.Hears_last l from v q a found answers other all collected) me = came_not l.me me from answers.kind answers.came
    acting_not (steps.At_point l from a found came is pointed) me = came_not l.me me from kinds.CommitPoint came

    drops_not : (l : Live) → Drops input l → l.me ≡ b → ⊥
    drops_not l (steps.By_rollback from came) me = came_not l.me me from kinds.Rollback came
    drops_not l (steps.By_parent from came parent) me = came_not l.me me from kinds.RolledBack came

    put : (y : Live) → (y.me ≡ b → ⊥) → item_at live_id (put_item live_id k.lives y) b ≡ Some z
    put y other = by (same y.me b) refl
      where
        by : (q : Bool) → same y.me b ≡ q → item_at live_id (put_item live_id k.lives y) b ≡ Some z
        by true here = absurd (other (equal_from_same y.me b here))
        by false is = put_leaves live_id k.lives y b is ∙ live

    left : (c : BranchId) → (c ≡ b → ⊥) → item_at live_id (drop_item live_id k.lives c) b ≡ Some z
    left c other = by (same c b) refl
      where
        by : (q : Bool) → same c b ≡ q → item_at live_id (drop_item live_id k.lives c) b ≡ Some z
        by true here = absurd (other (equal_from_same c b here))
        by false is = drop_leaves live_id k.lives c b is ∙ live

    more : (y : Live) → item_at live_id (k.lives ++ y ∷ []) b ≡ Some z
    more y = find_more (is_item_of live_id b) k.lives (y ∷ []) z live

    act_leaves : (l : Live) (q : Bool) (a : Act) → (l.me ≡ b → ⊥) → live_at (act_turn k l q a).after b ≡ Some z
    act_leaves l q acts.Rest other = put l other
    act_leaves l q acts.AskDown other = put l other
    act_leaves l q acts.SayReady other = put (ready l) other
    act_leaves l q _ other = left l.me other

  -- nor does it call children to go back
  calling_not : (k : NodeState) → SessionsFit k → live_at k b ≡ Some z → {x : Branch} {step from : ℕ} → Calls_back k input x step from → x.live.me ≡ b → ⊥
  calling_not k ss live (steps.Has_gone j x step goes is) me =
      let fits : SessionsFit (node_back j x step) = subst SessionsFit is ss in
      goes_not j (record { roots = fits.roots; above = fits.above }) (subst (λ i. live_at i b ≡ Some z) is live) goes me
  calling_not k ss live (steps.Has_heard x weight count a i e g step answered going errand done) me = came_not x.live.me me answered.from (kinds.Reply answered.call weight count a) answered.came

  pub stays_on : {k : NodeState} {d : TurnDraft} → Step p input k d → SessionsFit k → live_at k b ≡ Some z → live_at d.after b ≡ Some z
  stays_on (steps.Begins {k = k} n s read_at call begins range none step) ss live = stays_on step (begun_so k ss p n read_at) (more k ss live (fresh_root p k (new_root p k n) read_at))
  stays_on (steps.Counts_call {k = k} n s call counts step) ss live = stays_on step (counted_so k ss n) live
  stays_on (steps.Goes_back {k = k} x step goes next) ss live = stays_on next (back_so k ss x step) live
  stays_on (steps.Pends {k = k} n l given call has found code writer step) ss live = stays_on step (pends_so k ss n pending.Commit) live
  stays_on (steps.Lets_reads_go l comment q found begins step) ss live = stays_on step (record { roots = ss.roots; above = ss.above }) live
  stays_on (steps.Counts_ack s from kept came counts step) ss live = stays_on step (record { roots = ss.roots; above = ss.above }) live
  stays_on (steps.Runs {k = k} x s given t ask way) ss live = put k ss live (after_run x.live (ran p k x.live.me s t)) (asked_not k ss live ask)
  stays_on (steps.Goes_nowhere {k = k} x s given r ask way) ss live = put k ss live x.live (asked_not k ss live ask)
  stays_on (steps.Calls {k = k} x s given i table ask way) ss live = put k ss live x.live (asked_not k ss live ask)
  stays_on (steps.Opens {k = k} x s given node link table ask way) ss live = put k ss live x.live (asked_not k ss live ask)
  stays_on (steps.Goes_on {k = k} x from strength g link opened) ss live =
      put k ss live (with_edge x (new_edge from link strength)).live (λ me. came_not x.live.me me from (kinds.Opened opened.edge strength) opened.came)
  stays_on (steps.Hears_reply {k = k} x weight count a i e answered) ss live =
      put k ss live (hears_reply x i weight count e).live (λ me. came_not x.live.me me answered.from (kinds.Reply answered.call weight count a) answered.came)
  stays_on (steps.Backs {k = k} x step from i calls next) ss live = put k ss live x.live (calling_not k ss live calls)
  stays_on (steps.Is_back {k = k} x step from calls none) ss live = put k ss live x.live (calling_not k ss live calls)
  stays_on (steps.Opens_branch {k = k} to parent edge root depth read_at came new) ss live = more k ss live (fresh_live (next_child p k) root (Some parent) depth (strength_of p k) read_at)
  stays_on (steps.Acts {k = k} l q a why) ss live = act_leaves k ss live l q a (acting_not k ss live why)
  stays_on (steps.Drops_told {k = k} l found drops) ss live = left k ss live l.me (drops_not k ss live l drops)
  stays_on (steps.Drops_asked {k = k} l from found came parent) ss live = left k ss live l.me (λ me. came_not l.me me from kinds.Ask came)
  stays_on (steps.Does s from nexts.Rest kept why) ss live = live
  stays_on (steps.Leaves {k = k} n s d x call ends has found) ss live = left k ss live x.live.me (root_not k ss live n x.live.me (ends_concerns call ends) has)
  stays_on (steps.Sets_savepoint {k = k} n x name call has code found) ss live = put k ss live x.live (root_not k ss live n x.live.me (Is_savepoint name call) has)
  stays_on (steps.Gives_up {k = k} n x gives has calls found) ss live = put k ss live x.live (root_not k ss live n x.live.me (Gives_up gives) has)
  stays_on (steps.Gives_up_commit {k = k} n c (Some l) gives has calls found) ss live = left k ss live l.me (λ me. root_not k ss live n c (Gives_up gives) has (sym (item_is live_id k.lives c l found) ∙ me))
  stays_on _ ss live = live
