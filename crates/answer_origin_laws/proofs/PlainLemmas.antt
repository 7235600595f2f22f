-- A turn on anything but an Exec and a Reply leaves the calls that came to branches below roots, and says no Reply.
use Rattle.std.proofs.Common.{◌≡◌, ◌≢◌, ℕ, ◌+◌, Bool, List, map, length, Option, Some, None, refl, sym, ap, subst}
use Rattle.tran_ids.proofs.ListedLemmas.{item_is}
use Rattle.commit_forget.specs.declared.next.Next.TheVariants as nexts
use Rattle.session_tree.specs.Live.{children_of, peer_of, new_edge, fresh_live}
use Rattle.session_tree.specs.Tree.{step as step_from}
use Rattle.node_rules.specs.Data.{Stmt, Answer, Task, BranchId, Live, Act, Place, Input, Post}
use Rattle.node_rules.specs.declared.work.Errand.{Errand}
use Rattle.node_rules.specs.declared.work.Errand.TheVariants as errands
use Rattle.node_rules.specs.declared.work.Work.{Work}
use Rattle.node_rules.specs.Data.acts
use Rattle.node_rules.specs.Data.answers
use Rattle.node_rules.specs.Data.dones
use Rattle.node_rules.specs.Data.tasks
use Rattle.node_rules.specs.Data.kinds
use Rattle.node_rules.specs.declared.session.PendingCall.TheVariants as pending
use Rattle.node_rules.specs.declared.session.Session.{Session}
use Rattle.node_rules.specs.Words.{item_at, put_item, drop_item}
use Rattle.node_rules.specs.Inputs.{Came}
use Rattle.node_rules.specs.NodeState.{NodeState, Branch, TurnDraft, live_id, work_id, work_or, branch_at, to_one, to_each}
use Rattle.node_rules.specs.LiveBranches.{works_of, EachLive}
use Rattle.node_rules.specs.Names.{passed_on}
use Rattle.node_rules.specs.Statement.{ran, after_run, answer_of_run}
use Rattle.node_rules.specs.Marks.{node_back}
use Rattle.node_rules.specs.Calls.{branch_ran, less_room, answer_says, exec_to, next_child, strength_of, with_edge, with_answer, called, waits_for_opened}
use Rattle.node_rules.specs.Client.{new_root, fresh_root, marked, gives_up}
use Rattle.node_rules.specs.Commit.{beyond}
use Rattle.node_rules.specs.Prepare.{path_of, site_neighbors, ready, act_turn}
use Rattle.node_rules.specs.Recovery.{kept_told}
use Rattle.node_rules.proofs.LiveLemmas.{each_put, each_changed, each_left, each_begun, branch_parts, work_is}
use Rattle.node_rules.proofs.StandLemmas.{live_so}
use Rattle.node_rules.proofs.StepLemmas.{acting_so}
use Rattle.node_rules.proofs.Steps as steps
use Rattle.node_rules.proofs.Steps.{Step, Asked, Goes_to, Calls_back, Acting, Says}
use Rattle.run_rules.specs.Births.{Born}
use Rattle.run_base_laws.proofs.KindSayLemmas.{OfDecisions, AllSay, one_says, each_says, prepares_say, told_says, passes_say, askings_say}
use Rattle.run_rules.proofs.ListLemmas.{all_append}
use Rattle.run_base_laws.proofs.NeighborLemmas.{News}
use Rattle.run_base_laws.proofs.NeighborStepLemmas.{begun_news, counted_news, back_news, pends_news, lets_news, acked_news}
use Rattle.run_base_laws.proofs.RootLemmas.{SessionsFit, root_alone, begun_so, counted_so, back_so, pends_so}
use Rattle.answer_origin_laws.proofs.TaleLemmas.{IsMute}

mute_decisions : OfDecisions IsMute
mute_decisions = record { committed = λ n. refl; rolled_back = refl; rollback = refl; in_doubt = refl; ack = refl; forgotten = refl; ask = refl }

pub exec_mute : (ss : List Session) (x : Branch) (i : ℕ) (errand : Errand) (o : Option BranchId) → AllSay IsMute (exec_to ss x i errand o)
exec_mute ss x i errand None = tt
exec_mute ss x i errand (Some peer) = (refl, tt)

module _ (k0 : NodeState) (p : Place) (input : Input) (no_exec : (from to : BranchId) (call : ℕ) (task : Task) → Came input from to (kinds.Exec call task) → ⊥)
    (no_reply : (from to : BranchId) (call : ℕ) (weight : Option ℕ) (count : ℕ) (a : Answer) → Came input from to (kinds.Reply call weight count a) → ⊥) where
  -- a branch below a root has the calls that it had
  abbrev pub Was : Live → Work → Type 0
  Was l w = l.parent ≢ None → w.came ≡ (works_of k0.works l.me).came

  -- one that begins had none
  abbrev pub HadNone : Born → Type 0
  HadNone x = item_at work_id k0.works x.me ≡ None

  abbrev pub Leaves : TurnDraft → Type 0
  Leaves d = EachLive Was d.after.lives d.after.works × AllSay IsMute d.says

  module _ (k : NodeState) (now : EachLive Was k.lives k.works) where
    branch_was : (x : Branch) → branch_at k x.live.me ≡ Some x → Was x.live x.work
    branch_was x live = let parts = branch_parts k x.live.me x live in subst (Was x.live) (sym parts.1) (now.each x.live.me x.live parts.0)

    put : (l : Live) (w : Work) → w.branch ≡ l.me → Was l w → EachLive Was (put_item live_id k.lives l) (put_item work_id k.works w)
    put l w mine is = each_put Was Was k.lives k.works now l w mine is (λ y v live other was. was)

    changed : (l : Live) → Was l (works_of k.works l.me) → EachLive Was (put_item live_id k.lives l) k.works
    changed l is = each_changed Was Was k.lives k.works now l is (λ y v live other was. was)

    left : (b : BranchId) → EachLive Was (drop_item live_id k.lives b) (drop_item work_id k.works b)
    left b = each_left Was Was k.lives k.works now b (λ y v live other was. was)

    rolls : (l : Live) → AllSay IsMute (to_each l.me kinds.Rollback (children_of l))
    rolls l = each_says IsMute l.me kinds.Rollback (children_of l) refl

    acting : {l : Live} {q : Bool} {a : Act} → Acting k input l q a → Was l (works_of k.works l.me)
    acting why = acting_so (λ l. Was l (works_of k.works l.me)) (λ l comment q is. is) (λ l from v is. is) (λ b l found. subst (λ c. Was l (works_of k.works c)) (sym (item_me b l found)) (now.each b l found)) why
      where
        item_me : (b : BranchId) (l : Live) → item_at live_id k.lives b ≡ Some l → l.me ≡ b
        item_me b l found = item_is live_id k.lives b l found

    acts_leave : (l : Live) (q : Bool) (a : Act) → Was l (works_of k.works l.me) → Leaves (act_turn k l q a)
    acts_leave l q acts.Rest is = (changed l is, tt)
    acts_leave l q acts.AskDown is = (changed l is, prepares_say IsMute (λ b comment. refl) l.me l.comment (path_of q (step_from l)) 1 l.edges)
    acts_leave l q acts.SayReady is = (changed (ready l) is, one_says IsMute l.me kinds.Ready l.parent refl)
    acts_leave l q acts.SayReadOnly is = (left l.me, one_says IsMute l.me kinds.ReadOnly l.parent refl)
    acts_leave l q acts.Seal is = (left l.me, one_says IsMute l.me kinds.Prepared l.parent refl)
    acts_leave l q (acts.SealAndPass i) is = (left l.me, one_says IsMute l.me kinds.CommitPoint (peer_of l i) refl)
    acts_leave l q acts.Decide is = (left l.me, each_says IsMute l.me (kinds.Committed (k.clock + 1)) (site_neighbors l) refl)
    acts_leave l q acts.Finish is = (left l.me, tt)
    acts_leave l q acts.Abandon is = (left l.me, all_append (λ x. IsMute x.kind) (to_one l.me kinds.Abort l.parent) _ (one_says IsMute l.me kinds.Abort l.parent refl) (rolls l))

    says_mute : {says : List Post} → Says k input says → AllSay IsMute says
    says_mute (steps.Gone_replies to from call task came gone) = absurd (no_exec from to call task came)
    says_mute (steps.Replies_again x to call task t came live last kept) = absurd (no_exec to x.live.me call task came)
    says_mute (steps.Tells s from came kept) = (told_says IsMute mute_decisions (kept_told s from), tt)
    says_mute (steps.Recovers reco) = askings_say IsMute mute_decisions k
    says_mute (steps.Gone_aborts to from q comment came gone) = (refl, tt)
    says_mute (steps.Gone_rolls_back to from came gone) = (refl, tt)
    says_mute (steps.Gone_acks to from n came gone) = (refl, tt)
    says_mute (steps.Gone_forgets to from came gone) = (refl, tt)
    says_mute (steps.Opened_again to parent edge root depth read_at o came found) = (refl, tt)
    says_mute (steps.Prepared_again s from q comment came kept again) = (refl, tt)
    says_mute (steps.Knows_commit s from n came kept knows) = (refl, tt)
    says_mute (steps.Knows_rollback s from came kept knows) = (refl, tt)
    says_mute (steps.Is_in_doubt l from came live other) = (refl, tt)

    -- a statement comes to a root
    asked_root : {x : Branch} {s : Stmt} {given : ℕ} → SessionsFit k → Asked k input x s given → (x.live.parent ≡ None) × (x.work.branch ≡ x.live.me)
    asked_root ss (steps.By_call n x s call rows has code live may) = (root_alone k ss n x.live.me has x.live (live_so k x.live.me x live), work_is k x.live.me x live)
    asked_root ss (steps.By_exec x from call given advice s came live runs) = absurd (no_exec from x.live.me call (tasks.Run given advice s) came)

    -- so does what takes a branch back
    goes_root : {x : Branch} {step : ℕ} → SessionsFit k → Goes_to k input x step → (x.live.parent ≡ None) × (x.work.branch ≡ x.live.me)
    goes_root ss (steps.By_rollback_to n x name step call has code live set) = (root_alone k ss n x.live.me has x.live (live_so k x.live.me x live), work_is k x.live.me x live)
    goes_root ss (steps.By_back x from call keep came live runs) = absurd (no_exec from x.live.me call (tasks.GoBack keep) came)

    -- a root's answer goes to its client
    root_mute : (x : Branch) (a : Answer) (o : Option BranchId) → o ≡ None → AllSay IsMute (answer_says x a o)
    root_mute x a None none = tt
    root_mute x a (Some parent) none = absurd cc

  -- a branch whose children are to go back is a root
  calling_root : {k : NodeState} {x : Branch} {step from : ℕ} → SessionsFit k → EachLive Was k.lives k.works → Calls_back k input x step from → (x.live.parent ≡ None) × (x.work.branch ≡ x.live.me)
  calling_root ss now (steps.Has_gone j x step goes is) =
      let back : SessionsFit (node_back j x step) = subst SessionsFit is ss in
      goes_root j (subst (λ i. EachLive Was i.lives i.works) is now) (record { roots = back.roots; above = back.above }) goes
  calling_root ss now (steps.Has_heard x weight count a i e g step answered going errand plain) = absurd (no_reply answered.from x.live.me answered.call weight count a answered.came)

  -- ---- every step

  pub plain_on : {k : NodeState} {d : TurnDraft} → Step p input k d → SessionsFit k → News HadNone p input k → EachLive Was k.lives k.works → Leaves d
  plain_on (steps.Begins {k = k} n s read_at call begins range none step) ss news now =
      plain_on step (begun_so k ss p n read_at) (begun_news HadNone p input k n read_at news) (each_begun Was Was k.lives k.works now (fresh_root p k (new_root p k n) read_at) (λ below. absurd (below refl)) (λ y v live any is. is))
  plain_on (steps.Counts_call {k = k} n s call counts step) ss news now = plain_on step (counted_so k ss n) (counted_news HadNone p input k n news) now
  plain_on (steps.Goes_back {k = k} x step goes next) ss news now = plain_on next (back_so k ss x step) (back_news HadNone p input k x step news) now
  plain_on (steps.Pends {k = k} n l given call has live code writer step) ss news now = plain_on step (pends_so k ss n pending.Commit) (pends_news HadNone p input k n given call news) now
  plain_on (steps.Lets_reads_go {k = k} l comment q live begins step) ss news now = plain_on step (record { roots = ss.roots; above = ss.above }) (lets_news HadNone p input k l.me news) now
  plain_on (steps.Counts_ack {k = k} s from kept came counts step) ss news now = plain_on step (record { roots = ss.roots; above = ss.above }) (acked_news HadNone p input k _ news) now
  plain_on (steps.Sends {k = k} posts why) ss news now = (now, says_mute k now why)
  plain_on (steps.Runs {k = k} x s given t ask way) ss news now =
      let root = asked_root k now ss ask in (
        put k now (after_run x.live (ran p k x.live.me s t)) (with_answer (branch_ran k.sessions x t (ran p k x.live.me s t)) (answer_of_run (ran p k x.live.me s t))).work root.1 (λ below. absurd (below root.0)),
        root_mute k now (branch_ran k.sessions x t (ran p k x.live.me s t)) (answer_of_run (ran p k x.live.me s t)) x.live.parent root.0,
      )
  plain_on (steps.Goes_nowhere {k = k} x s given r ask way) ss news now =
      let root = asked_root k now ss ask in (put k now x.live (with_answer x _).work root.1 (λ below. absurd (below root.0)), root_mute k now x (answers.Refused r) x.live.parent root.0)
  plain_on (steps.Calls {k = k} x s given i table ask way) ss news now =
      let root = asked_root k now ss ask in (put k now x.live (called k.sessions x i (errands.Statement (passed_on s table) given)).work root.1 (λ below. absurd (below root.0)), exec_mute k.sessions x i (errands.Statement (passed_on s table) given) (peer_of x.live i))
  plain_on (steps.Opens {k = k} x s given node link table ask way) ss news now =
      let root = asked_root k now ss ask in (put k now x.live (waits_for_opened x link (passed_on s table) given).work root.1 (λ below. absurd (below root.0)), (refl, tt))
  plain_on (steps.Goes_on {k = k} x from strength g link opened) ss news now =
      let y : Branch = with_edge x (new_edge from link strength) in (
        put k now y.live (called k.sessions y (length x.live.edges + 1) (less_room g.errand)).work (work_is k x.live.me x opened.live) (branch_was k now x opened.live),
        exec_mute k.sessions y (length x.live.edges + 1) (less_room g.errand) (peer_of y.live (length x.live.edges + 1)),
      )
  plain_on (steps.Hears_reply {k = k} x weight count a i e answered) ss news now = absurd (no_reply answered.from x.live.me answered.call weight count a answered.came)
  plain_on (steps.Backs {k = k} x step from i calls next) ss news now =
      let root = calling_root ss now calls in (put k now x.live (called k.sessions x i (errands.GoBack step)).work root.1 (λ below. absurd (below root.0)), exec_mute k.sessions x i (errands.GoBack step) (peer_of x.live i))
  plain_on (steps.Is_back {k = k} x step from calls none) ss news now =
      let root = calling_root ss now calls in (put k now x.live (with_answer x _).work root.1 (λ below. absurd (below root.0)), root_mute k now x (answers.Did dones.RolledBack 0) x.live.parent root.0)
  plain_on (steps.Opens_branch {k = k} to parent edge root depth read_at came new) ss news now = (
    each_begun Was Was k.lives k.works now (fresh_live (next_child p k) root (Some parent) depth (strength_of p k) read_at)
        (λ below. sym (ap (λ o. (work_or (next_child p k) o).came) (news.child to parent edge root depth read_at came new))) (λ y v live any is. is),
    (refl, tt),
  )
  plain_on (steps.Acts {k = k} l q a why) ss news now = acts_leave k now l q a (acting k now why)
  plain_on (steps.Drops_told {k = k} l live drops) ss news now = (left k now l.me, rolls k now l)
  plain_on (steps.Drops_asked {k = k} l from live came parent) ss news now = (left k now l.me, (refl, rolls k now l))
  plain_on (steps.Does {k = k} s from (nexts.End d) kept why) ss news now = (now, passes_say IsMute mute_decisions s d)
  plain_on (steps.Does {k = k} s from (nexts.Meet d mixed) kept why) ss news now = (now, passes_say IsMute mute_decisions s d)
  plain_on (steps.Does {k = k} s from nexts.AckToward kept why) ss news now = (now, one_says IsMute s.me kinds.Ack s.toward refl)
  plain_on (steps.Does {k = k} s from nexts.Forget kept why) ss news now = (now, each_says IsMute s.me kinds.Forgotten (map (λ b. b.branch) (beyond s)) refl)
  plain_on (steps.Does {k = k} s from nexts.SayForgotten kept why) ss news now = (now, (refl, tt))
  plain_on (steps.Does {k = k} s from nexts.SayAck kept why) ss news now = (now, (refl, tt))
  plain_on (steps.Leaves {k = k} n s d x call ends has live) ss news now = (left k now x.live.me, rolls k now x.live)
  plain_on (steps.Sets_savepoint {k = k} n x name call has code live) ss news now = (put k now x.live (marked k.sessions x name).work (work_is k x.live.me x live) (branch_was k now x live), tt)
  plain_on (steps.Gives_up {k = k} n x gives has calls live) ss news now = (put k now x.live (gives_up x).work (work_is k x.live.me x live) (branch_was k now x live), tt)
  plain_on (steps.Gives_up_commit {k = k} n b (Some l) gives has calls live) ss news now = (left k now l.me, rolls k now l)
  plain_on {k = k} _ ss news now = (now, tt)
