-- Each step of a node leaves the children, the weights and the changes of a live branch that rests.
use Rattle.std.proofs.Common.{◌≡◌, ℕ, ◌+◌, ◌<◌, ◌≤◌, List, [], ◌∷◌, ◌++◌, map, length, Option, Some, None, refl, sym, ap, subst, ◌∙◌, arith}
use Rattle.tran_ids.proofs.ListedLemmas.{item_is}
use Rattle.commit_forget.specs.declared.next.Next.TheVariants as nexts
use Rattle.session_tree.specs.Live.{children_of, new_edge, fresh_live}
use Rattle.node_rules.specs.Data.{BranchId, Live, Act, Post, Stmt, Vote, Place, Input, Task}
use Rattle.node_rules.specs.Data.acts
use Rattle.node_rules.specs.Data.admits
use Rattle.node_rules.specs.Data.kinds
use Rattle.node_rules.specs.Data.tasks
use Rattle.node_rules.specs.declared.work.Errand.TheVariants as errands
use Rattle.node_rules.specs.declared.session.PendingCall.TheVariants as pending
use Rattle.node_rules.specs.declared.work.Work.{Work}
use Rattle.node_rules.specs.declared.work.Going.{Going}
use Rattle.node_rules.specs.Words.{item_at, put_item, drop_item}
use Rattle.node_rules.specs.NodeState.{NodeState, Branch, TurnDraft, live_id, work_id, branch_at}
use Rattle.node_rules.specs.Names.{passed_on}
use Rattle.node_rules.specs.Statement.{ran, answer_of_run}
use Rattle.node_rules.specs.Calls.{with_answer, called, next_child, strength_of, with_edge, waits_for_opened, hears_reply, branch_ran, less_room, admit}
use Rattle.node_rules.specs.Client.{new_root, fresh_root, gives_up, marked}
use Rattle.node_rules.specs.Marks.{node_back, branch_back}
use Rattle.node_rules.specs.Inputs.{Came}
use Rattle.node_rules.specs.Prepare.{ready, collecting, with_comment, voted, act_turn}
use Rattle.node_rules.proofs.Steps as steps
use Rattle.node_rules.proofs.Steps.{Step, Asked, Acting, Goes_to, Calls_back, HasRoot}
use Rattle.node_rules.proofs.StandLemmas.{live_so}
use Rattle.node_rules.proofs.StepLemmas.{acting_so}
use Rattle.node_rules.specs.LiveBranches.{EachLive, works_of}
use Rattle.node_rules.proofs.LiveLemmas.{each_put, each_changed, each_left, each_begun, branch_parts, work_is}
use Rattle.run_rules.specs.Births.{Born}
use Rattle.run_base_laws.specs.InTurnLaws.{newest_exec}
use Rattle.run_base_laws.proofs.RootLemmas.{SessionsFit, root_alone, pends_so, begun_so, counted_so, back_so}
use Rattle.run_base_laws.proofs.RestStepLemmas.{going_of}
use Rattle.run_base_laws.proofs.NeighborLemmas.{News}
use Rattle.run_base_laws.proofs.NeighborStepLemmas.{begun_news, pends_news, lets_news, acked_news, counted_news, back_news}
use Rattle.run_base_laws.proofs.InTurnLemmas as turns
use Rattle.run_base_laws.proofs.InTurnStepLemmas as drafts
use Rattle.run_branch_laws.proofs.StillLemmas.{collected, heard_vote}
use Rattle.link_session.proofs.OnceLemmas.{run_is_new}
use Rattle.tree_laws.specs.RestLaws.{Rests}

-- A branch that rested as the turn began, and now.
pub record Kept_still (z : Live) (v : Work) (l : Live) (w : Work) : Type 0 where
  pub peers : children_of l ≡ children_of z
  pub weights : map (λ e. e.weight) l.edges ≡ map (λ e. e.weight) z.edges
  pub changed : l.changed ≡ z.changed
  pub parent : l.parent ≡ z.parent
  pub waits : w.going ≡ None
  pub last : w.came.last_call ≡ v.came.last_call

module _ (k0 : NodeState) (said : List Post) where
  -- A live branch stands still where it rested as the turn began.
  abbrev pub Calm : Live → Work → Type 0
  Calm l w = (z : Live) → item_at live_id k0.lives l.me ≡ Some z → Rests said z.me z.parent (works_of k0.works l.me) → Kept_still z (works_of k0.works l.me) l w

  abbrev pub Calms : NodeState → Type 0
  Calms k = EachLive Calm k.lives k.works

  -- a branch that begins was not live
  abbrev pub NotThere : Born → Type 0
  NotThere x = item_at live_id k0.lives x.me ≡ None

  collects_calm : (l : Live) (comment : List ℕ) (site_below : _) (w : Work) → Calm l w → Calm (collecting (with_comment l comment) site_below) w
  collects_calm l comment site_below w is z found rests =
      let was : Kept_still z (works_of k0.works l.me) l w = is z found rests in
      record {
        peers = collected (λ e. e.peer) (λ e. refl) l.edges ∙ was.peers;
        weights = collected (λ e. e.weight) (λ e. refl) l.edges ∙ was.weights;
        changed = was.changed;
        parent = was.parent;
        waits = was.waits;
        last = was.last;
      }

  voted_calm : (l : Live) (from : BranchId) (v : Vote) (w : Work) → Calm l w → Calm (voted l from v) w
  voted_calm l from v w is z found rests =
      let was : Kept_still z (works_of k0.works l.me) l w = is z found rests in
      record {
        peers = heard_vote (λ e. e.peer) from v (λ e. refl) l.edges ∙ was.peers;
        weights = heard_vote (λ e. e.weight) from v (λ e. refl) l.edges ∙ was.weights;
        changed = was.changed;
        parent = was.parent;
        waits = was.waits;
        last = was.last;
      }

  ready_calm : (l : Live) (w : Work) → Calm l w → Calm (ready l) w
  ready_calm l w is z found rests =
      let was : Kept_still z (works_of k0.works l.me) l w = is z found rests in
      record { peers = was.peers; weights = was.weights; changed = was.changed; parent = was.parent; waits = was.waits; last = was.last }

  module _ (k : NodeState) (now : Calms k) where
    -- a branch that cannot rest may change
    put : (l y : Live) (w : Work) → w.branch ≡ y.me → item_at live_id k.lives l.me ≡ Some l → y.me ≡ l.me
        → ((z : Live) → Rests said z.me z.parent (works_of k0.works l.me) → z.me ≡ l.me → Kept_still z (works_of k0.works l.me) l (works_of k.works l.me) → ⊥)
        → EachLive Calm (put_item live_id k.lives y) (put_item work_id k.works w)
    put l y w mine live me busy =
        each_put Calm Calm k.lives k.works now y w mine
        (λ z found rests. (let at : item_at live_id k0.lives l.me ≡ Some z = subst (λ b. item_at live_id k0.lives b ≡ Some z) me found in
        let still : Rests said z.me z.parent (works_of k0.works l.me) = subst (λ b. Rests said z.me z.parent (works_of k0.works b)) me rests in
        absurd (busy z still (item_is live_id k0.lives l.me z at) (now.each l.me l live z at still)))) (λ z v there other so. so)

    stays : (l : Live) → Calm l (works_of k.works l.me) → EachLive Calm (put_item live_id k.lives l) k.works
    stays l is = each_changed Calm Calm k.lives k.works now l is (λ z v there other so. so)

    left : (b : BranchId) → EachLive Calm (drop_item live_id k.lives b) (drop_item work_id k.works b)
    left b = each_left Calm Calm k.lives k.works now b (λ z v there other so. so)

    begun : (l : Live) → item_at live_id k0.lives l.me ≡ None → EachLive Calm (k.lives ++ l ∷ []) k.works
    begun l none = each_begun Calm Calm k.lives k.works now l (λ z found rests. absurd (cc (found, none))) (λ z v there any so. so)

    acting : {input : Input} {l : Live} {site_below : _} {a : Act} → Acting k input l site_below a → Calm l (works_of k.works l.me)
    acting why =
        acting_so (λ l. Calm l (works_of k.works l.me)) (λ l comment site_below is. collects_calm l comment site_below (works_of k.works l.me) is) (λ l from v is. voted_calm l from v (works_of k.works l.me) is)
        (λ b l found. subst (λ m. Calm l (works_of k.works m)) (sym (item_is live_id k.lives b l found)) (now.each b l found)) why

    acts_leave : (l : Live) (site_below : _) (a : Act) → Calm l (works_of k.works l.me) → Calms (act_turn k l site_below a).after
    acts_leave l site_below acts.Rest is = stays l is
    acts_leave l site_below acts.AskDown is = stays l is
    acts_leave l site_below acts.SayReady is = stays (ready l) (ready_calm l (works_of k.works l.me) is)
    acts_leave l site_below _ is = left l.me

  module _ (E : BranchId → Option ℕ) (A : BranchId → Option BranchId) (G Here : BranchId → Type 0) (input : Input) (received : turns.Received E A G Here input said) (p : Place) (place : (b : BranchId) → b.node ≡ p.number → Here b) where
    abbrev Nodes : NodeState → Type 0
    Nodes k = EachLive (turns.Begun E A G Here input said) k.lives k.works

    -- branches that begin are new
    abbrev pub NewThere : Born → Type 0
    NewThere x = drafts.NewBorn E A G Here input said received x × NotThere x

    -- a branch that does not rest
    abbrev Busy : NodeState → Branch → Type 0
    Busy k x = (l : Live) × (item_at live_id k.lives l.me ≡ Some l) × (x.live.me ≡ l.me) × (x.work.branch ≡ x.live.me)
        × ((z : Live) → Rests said z.me z.parent (works_of k0.works l.me) → z.me ≡ l.me → Kept_still z (works_of k0.works l.me) l (works_of k.works l.me) → ⊥)

    module _ (k : NodeState) (ss : SessionsFit k) (nodes : Nodes k) where
      -- a root does not rest
      root_busy : (n : ℕ) (x : Branch) → HasRoot k n x.live.me → branch_at k x.live.me ≡ Some x → Busy k x
      root_busy n x has live = (
        x.live,
        (branch_parts k x.live.me x live).0,
        refl,
        work_is k x.live.me x live,
        (λ z rests me is. (let none : x.live.parent ≡ None = root_alone k ss n x.live.me has x.live (live_so k x.live.me x live) in
            let above : x.live.parent ≡ Some rests.above = is.parent ∙ rests.is_parent in
            absurd (cc (none, above)))),
      )

      -- nor does one that takes a call
      taker_busy : (x : Branch) (from : BranchId) (call : ℕ) (task : Task) → Came input from x.live.me (kinds.Exec call task) → branch_at k x.live.me ≡ Some x → admit x.work.came call ≡ admits.Run → Busy k x
      taker_busy x from call task came live runs = (
        x.live,
        (branch_parts k x.live.me x live).0,
        refl,
        work_is k x.live.me x live,
        (λ z rests me is. (let parts = branch_parts k x.live.me x live in
            let said_so = received.exec from x.live.me call task came in
            let parent : x.live.parent ≡ Some from = (nodes.each x.live.me x.live parts.0).above from said_so.0 in
            let above : x.live.parent ≡ Some rests.above = is.parent ∙ rests.is_parent in
            let both : Some from ≡ Some rests.above = sym parent ∙ above in
            let same_so : from ≡ rests.above = cc in
            let made : call ≤ newest_exec said rests.above z.me = subst (λ b. call ≤ newest_exec said rests.above b) (sym me) (subst (λ b. call ≤ newest_exec said b x.live.me) same_so said_so.1) in
            let new : x.work.came.last_call < call = run_is_new x.work.came call runs in
            let taken : x.work.came.last_call ≡ (works_of k0.works x.live.me).came.last_call = ap (λ (w : Work). w.came.last_call) parts.1 ∙ is.last in
            absurd (omega (arith, made, new, taken, rests.last)))),
      )

      -- nor does one that a statement comes to
      asked_busy : {x : Branch} {s : Stmt} {given : ℕ} → Asked k input x s given → Busy k x
      asked_busy (steps.By_call n x s call rows has code live may) = root_busy n x has live
      asked_busy (steps.By_exec x from call given advice s came live runs) = taker_busy x from call (tasks.Run given advice s) came live runs

      -- nor does one that goes back
      goes_busy : {x : Branch} {step : ℕ} → Goes_to k input x step → Busy k x
      goes_busy (steps.By_rollback_to n x name step call has code live set) = root_busy n x has live
      goes_busy (steps.By_back x from call keep came live runs) = taker_busy x from call (tasks.GoBack keep) came live runs

    -- nor does one that waits
    waits_busy : (k : NodeState) (x : Branch) (g : Going) → branch_at k x.live.me ≡ Some x → x.work.going ≡ Some g → (z : Live) → Rests said z.me z.parent (works_of k0.works x.live.me) → z.me ≡ x.live.me
        → Kept_still z (works_of k0.works x.live.me) x.live (works_of k.works x.live.me) → ⊥
    waits_busy k x g live going z rests me is = let none : x.work.going ≡ None = ap (λ (w : Work). w.going) (branch_parts k x.live.me x live).1 ∙ is.waits in absurd (cc (none, going))

    asked_put : (k : NodeState) (ss : SessionsFit k) (nodes : Nodes k) → Calms k → {x : Branch} {s : _} {given : ℕ} → Asked k input x s given → (y : Live) (w : Work) → (x.work.branch ≡ x.live.me → w.branch ≡ y.me) → y.me ≡ x.live.me
        → EachLive Calm (put_item live_id k.lives y) (put_item work_id k.works w)
    asked_put k ss nodes now asked y w mine me = let there = asked_busy k ss nodes asked in put k now there.0 y w (mine there.3) there.1 (me ∙ there.2) there.4

    -- nor does one whose children are to go back
    calling_busy : (k : NodeState) → SessionsFit k → Nodes k → {x : Branch} {step from : ℕ} → Calls_back k input x step from → Busy k x
    calling_busy k ss nodes (steps.Has_gone j x step goes is) =
        let fits : SessionsFit (node_back j x step) = subst SessionsFit is ss in
        let busy : Busy j x = goes_busy j (record { roots = fits.roots; above = fits.above }) (subst Nodes is nodes) goes in
        subst (λ i. Busy i (branch_back j x step)) (sym is) busy
    calling_busy k ss nodes (steps.Has_heard x weight count a i e g step answered going errand done) =
        (x.live, (branch_parts k x.live.me x answered.live).0, refl, work_is k x.live.me x answered.live, waits_busy k x g answered.live going)

    calling_put : (k : NodeState) (ss : SessionsFit k) (nodes : Nodes k) → Calms k → {x : Branch} {step from : ℕ} → Calls_back k input x step from → (y : Live) (w : Work) → (x.work.branch ≡ x.live.me → w.branch ≡ y.me) → y.me ≡ x.live.me
        → EachLive Calm (put_item live_id k.lives y) (put_item work_id k.works w)
    calling_put k ss nodes now calling y w mine me = let there = calling_busy k ss nodes calling in put k now there.0 y w (mine there.3) there.1 (me ∙ there.2) there.4

    pub calms_on : {k : NodeState} {d : TurnDraft} → Step p input k d → SessionsFit k → News NewThere p input k → Nodes k → Calms k → Calms d.after
    calms_on (steps.Begins {k = k} n s read_at call begins range none step) ss news nodes now =
        let root = news.root n s read_at call begins none in
        calms_on step (begun_so k ss p n read_at) (begun_news NewThere p input k n read_at news) (drafts.begins_so E A G Here input said received k nodes (fresh_root p k (new_root p k n) read_at) refl (place (new_root p k n) refl) root.0)
        (begun k now (fresh_root p k (new_root p k n) read_at) root.1)
    calms_on (steps.Counts_call {k = k} n s call counts step) ss news nodes now = calms_on step (counted_so k ss n) (counted_news NewThere p input k n news) nodes now
    calms_on (steps.Goes_back {k = k} x step goes next) ss news nodes now = calms_on next (back_so k ss x step) (back_news NewThere p input k x step news) nodes now
    calms_on (steps.Pends {k = k} n l given call has live code writer step) ss news nodes now = calms_on step (pends_so k ss n pending.Commit) (pends_news NewThere p input k n given call news) nodes now
    calms_on (steps.Lets_reads_go {k = k} l comment site_below live begins step) ss news nodes now = calms_on step (record { roots = ss.roots; above = ss.above }) (lets_news NewThere p input k l.me news) nodes now
    calms_on (steps.Counts_ack {k = k} s from kept came counts step) ss news nodes now = calms_on step (record { roots = ss.roots; above = ss.above }) (acked_news NewThere p input k _ news) nodes now
    calms_on (steps.Runs {k = k} x s given t asked way) ss news nodes now =
        let y : Branch = branch_ran k.sessions x t (ran p k x.live.me s t) in asked_put k ss nodes now asked y.live (with_answer y (answer_of_run (ran p k x.live.me s t))).work (λ mine. mine) refl
    calms_on (steps.Goes_nowhere {k = k} x s given r asked way) ss news nodes now = asked_put k ss nodes now asked x.live _ (λ mine. mine) refl
    calms_on (steps.Calls {k = k} x s given i table asked way) ss news nodes now = asked_put k ss nodes now asked x.live (called k.sessions x i (errands.Statement (passed_on s table) given)).work (λ mine. mine) refl
    calms_on (steps.Opens {k = k} x s given node link table asked way) ss news nodes now = asked_put k ss nodes now asked x.live (waits_for_opened x link (passed_on s table) given).work (λ mine. mine) refl
    calms_on (steps.Goes_on {k = k} x from strength g link opened) ss news nodes now =
        put k now x.live (with_edge x (new_edge from link strength)).live (called k.sessions (with_edge x (new_edge from link strength)) (length x.live.edges + 1) (less_room g.errand)).work (work_is k x.live.me x opened.live)
        (branch_parts k x.live.me x opened.live).0 refl (waits_busy k x g opened.live opened.going)
    calms_on (steps.Hears_reply {k = k} x weight count a i e answered) ss news nodes now =
        let g = going_of x answered.from answered.call i e answered.waits in
        put k now x.live (hears_reply x i weight count e).live _ (work_is k x.live.me x answered.live) (branch_parts k x.live.me x answered.live).0 refl (waits_busy k x g.0 answered.live g.1)
    calms_on (steps.Backs {k = k} x step from i calling next) ss news nodes now = calling_put k ss nodes now calling x.live (called k.sessions x i (errands.GoBack step)).work (λ mine. mine) refl
    calms_on (steps.Is_back {k = k} x step from calling none) ss news nodes now = calling_put k ss nodes now calling x.live _ (λ mine. mine) refl
    calms_on (steps.Opens_branch {k = k} to parent edge root depth read_at came new) ss news nodes now = begun k now (fresh_live (next_child p k) root (Some parent) depth (strength_of p k) read_at) (news.child to parent edge root depth read_at came new).1
    calms_on (steps.Acts {k = k} l site_below a why) ss news nodes now = acts_leave k now l site_below a (acting k now why)
    calms_on (steps.Drops_told {k = k} l live drops) ss news nodes now = left k now l.me
    calms_on (steps.Drops_asked {k = k} l from live came parent) ss news nodes now = left k now l.me
    calms_on (steps.Does s from nexts.Rest kept why) ss news nodes now = now
    calms_on (steps.Leaves {k = k} n s d x call ends has live) ss news nodes now = left k now x.live.me
    calms_on (steps.Sets_savepoint {k = k} n x name call has code live) ss news nodes now =
        let there = root_busy k ss nodes n x has live in put k now there.0 x.live (marked k.sessions x name).work there.3 there.1 there.2 there.4
    calms_on (steps.Gives_up {k = k} n x gives has calls live) ss news nodes now =
        put k now x.live x.live (gives_up x).work (work_is k x.live.me x live) (branch_parts k x.live.me x live).0 refl
        (λ z rests me is. (let none : x.live.parent ≡ None = root_alone k ss n x.live.me has x.live (live_so k x.live.me x live) in
        let above : x.live.parent ≡ Some rests.above = is.parent ∙ rests.is_parent in
        absurd (cc (none, above))))
    calms_on (steps.Gives_up_commit {k = k} n b (Some l) gives has calls live) ss news nodes now = left k now l.me
    calms_on _ ss news nodes now = now
