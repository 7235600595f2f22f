-- Each step of a node leaves the children, the weights, the changes and the calls of a live branch that is not working.
use Rattle.std.proofs.Common.{◌≡◌, ◌≢◌, ℕ, ◌+◌, Bool, List, [], ◌∷◌, ◌++◌, map, length, Option, Some, None, refl, sym, subst, ◌∙◌}
use Rattle.std.proofs.lemmas.Bool.{cond_both}
use Rattle.tran_ids.proofs.ListedLemmas.{item_is}
use Rattle.commit_forget.specs.declared.next.Next.TheVariants as nexts
use Rattle.session_tree.specs.Live.{new_edge, fresh_live}
use Rattle.node_rules.specs.Data.{BranchId, Edge, Live, Act, Post, Vote, Place, Input}
use Rattle.node_rules.specs.Data.acts
use Rattle.node_rules.specs.Data.phases
use Rattle.node_rules.specs.declared.session.PendingCall.TheVariants as pending
use Rattle.node_rules.specs.declared.work.Work.{Work}
use Rattle.node_rules.specs.Words.{item_at, put_item, drop_item}
use Rattle.node_rules.specs.NodeState.{NodeState, Branch, TurnDraft, live_id, work_id}
use Rattle.node_rules.specs.Names.{passed_on}
use Rattle.node_rules.specs.Statement.{ran, answer_of_run}
use Rattle.node_rules.specs.Calls.{with_answer, called, next_child, strength_of, with_edge, waits_for_opened, hears_reply, branch_ran, less_room}
use Rattle.node_rules.specs.Client.{new_root, fresh_root, gives_up, marked}
use Rattle.node_rules.specs.Prepare.{with_prepare_sent, has_voted, answers_first, ready, collecting, with_comment, voted, act_turn}
use Rattle.node_rules.proofs.Steps as steps
use Rattle.node_rules.proofs.Steps.{Step, Asked, Acting, Goes_to, Calls_back}
use Rattle.run_rules.specs.Births.{Born}
use Rattle.run_base_laws.specs.FreezeLaws.{StandsStill}
use Rattle.run_rules.proofs.ListLemmas.{map_after}
use Rattle.node_rules.proofs.StepLemmas.{acting_so}
use Rattle.node_rules.specs.LiveBranches.{EachLive, works_of}
use Rattle.node_rules.proofs.LiveLemmas.{each_put, each_changed, each_left, each_begun, branch_parts, work_is}
use Rattle.node_rules.specs.declared.work.Errand.TheVariants as errands
use Rattle.node_rules.specs.Data.stmts
use Rattle.run_base_laws.proofs.RootLemmas.{SessionsFit, pends_so, begun_so, counted_so, back_so}
use Rattle.run_base_laws.proofs.RestStepLemmas.{going_of}
use Rattle.run_base_laws.proofs.NeighborLemmas.{News}
use Rattle.run_base_laws.proofs.NeighborStepLemmas.{begun_news, pends_news, lets_news, acked_news, counted_news, back_news}
use Rattle.run_base_laws.proofs.InTurnLemmas as turns
use Rattle.run_base_laws.proofs.InTurnStepLemmas as drafts
use Rattle.run_branch_laws.proofs.FreezeStepLemmas as frost

-- what a change of edges leaves of each, it leaves of all
pub collected : {X : Type 0} (f : Edge → X) → ((e : Edge) → f (with_prepare_sent e) ≡ f e) → (es : List Edge) → map f (map with_prepare_sent es) ≡ map f es
collected f each es = map_after f with_prepare_sent f each es

pub heard_vote : {X : Type 0} (f : Edge → X) (from : BranchId) (v : Vote) → ((e : Edge) → f (record e { vote = v }) ≡ f e) → (es : List Edge) → map f (map (has_voted from v) es) ≡ map f es
heard_vote f from v each es = map_after f (has_voted from v) f (λ e. cond_both (answers_first from e) (record e { vote = v }) e (λ y. f y ≡ f e) (λ here. each e) (λ other. refl)) es

module _ (k0 : NodeState) where
  -- a branch with its calls
  abbrev pub pair : Live → Work → Branch
  pair l w = record { live = l; work = w }

  -- A live branch stands still where it was not working as the turn began.
  abbrev pub Still : Live → Work → Type 0
  Still l w = (z : Live) → item_at live_id k0.lives l.me ≡ Some z → z.phase ≢ phases.Working → StandsStill (pair z (works_of k0.works l.me)) (pair l w)

  abbrev pub Stills : NodeState → Type 0
  Stills k = EachLive Still k.lives k.works

  -- a branch that begins was not live
  abbrev pub NotThere : Born → Type 0
  NotThere x = item_at live_id k0.lives x.me ≡ None

  collects_still : (l : Live) (comment : List ℕ) (site_below : Bool) (w : Work) → Still l w → Still (collecting (with_comment l comment) site_below) w
  collects_still l comment site_below w is z found other =
      let was : StandsStill (pair z (works_of k0.works l.me)) (pair l w) = is z found other in
      record {
        peers = collected (λ e. e.peer) (λ e. refl) l.edges ∙ was.peers;
        weights = collected (λ e. e.weight) (λ e. refl) l.edges ∙ was.weights;
        counts = collected (λ e. e.count) (λ e. refl) l.edges ∙ was.counts;
        changed = was.changed;
        calls = was.calls;
        last = was.last;
        phase = λ working. absurd cc;
      }

  voted_still : (l : Live) (from : BranchId) (v : Vote) (w : Work) → Still l w → Still (voted l from v) w
  voted_still l from v w is z found other =
      let was : StandsStill (pair z (works_of k0.works l.me)) (pair l w) = is z found other in
      record {
        peers = heard_vote (λ e. e.peer) from v (λ e. refl) l.edges ∙ was.peers;
        weights = heard_vote (λ e. e.weight) from v (λ e. refl) l.edges ∙ was.weights;
        counts = heard_vote (λ e. e.count) from v (λ e. refl) l.edges ∙ was.counts;
        changed = was.changed;
        calls = was.calls;
        last = was.last;
        phase = was.phase;
      }

  ready_still : (l : Live) (w : Work) → Still l w → Still (ready l) w
  ready_still l w is z found other =
      let was : StandsStill (pair z (works_of k0.works l.me)) (pair l w) = is z found other in
      record { peers = was.peers; weights = was.weights; counts = was.counts; changed = was.changed; calls = was.calls; last = was.last; phase = λ working. absurd cc }

  module _ (k : NodeState) (now : Stills k) where
    -- a branch that is working was so as the turn began
    works_still : (l : Live) (v : Work) (y : Live) (w : Work) → item_at live_id k.lives l.me ≡ Some l → l.phase ≡ phases.Working → y.me ≡ l.me → Still y w
    works_still l v y w live working me z found other =
        let was : StandsStill (pair z (works_of k0.works l.me)) (pair l (works_of k.works l.me)) = now.each l.me l live z (subst (λ b. item_at live_id k0.lives b ≡ Some z) me found) other in
        absurd (was.phase working)

    put : (l y : Live) (w : Work) → w.branch ≡ y.me → item_at live_id k.lives l.me ≡ Some l → l.phase ≡ phases.Working → y.me ≡ l.me → EachLive Still (put_item live_id k.lives y) (put_item work_id k.works w)
    put l y w mine live working me = each_put Still Still k.lives k.works now y w mine (works_still l w y w live working me) (λ z v there other so. so)

    stays : (l : Live) → Still l (works_of k.works l.me) → EachLive Still (put_item live_id k.lives l) k.works
    stays l is = each_changed Still Still k.lives k.works now l is (λ z v there other so. so)

    left : (b : BranchId) → EachLive Still (drop_item live_id k.lives b) (drop_item work_id k.works b)
    left b = each_left Still Still k.lives k.works now b (λ z v there other so. so)

    begun : (l : Live) → item_at live_id k0.lives l.me ≡ None → EachLive Still (k.lives ++ l ∷ []) k.works
    begun l none = each_begun Still Still k.lives k.works now l (λ z found other. absurd (cc (found, none))) (λ z v there any so. so)

    acting : {input : Input} {l : Live} {site_below : Bool} {a : Act} → Acting k input l site_below a → Still l (works_of k.works l.me)
    acting why =
        acting_so (λ l. Still l (works_of k.works l.me)) (λ l comment site_below is. collects_still l comment site_below (works_of k.works l.me) is) (λ l from v is. voted_still l from v (works_of k.works l.me) is)
        (λ b l found. subst (λ m. Still l (works_of k.works m)) (sym (item_is live_id k.lives b l found)) (now.each b l found)) why

    acts_leave : (l : Live) (site_below : Bool) (a : Act) → Still l (works_of k.works l.me) → Stills (act_turn k l site_below a).after
    acts_leave l site_below acts.Rest is = stays l is
    acts_leave l site_below acts.AskDown is = stays l is
    acts_leave l site_below acts.SayReady is = stays (ready l) (ready_still l (works_of k.works l.me) is)
    acts_leave l site_below _ is = left l.me

  module _ (E : BranchId → Option ℕ) (A : BranchId → Option BranchId) (G Here : BranchId → Type 0) (input : Input) (said : List Post) (received : turns.Received E A G Here input said) (prepared : frost.Prepared E A G Here input said received) (p : Place)
      (place : (b : BranchId) → b.node ≡ p.number → Here b) where
    -- branches that begin are new
    abbrev pub NewThere : Born → Type 0
    NewThere x = frost.Unasking E A G Here input said received x × NotThere x

    -- the branch of a statement was there
    asked_found : (k : NodeState) {x : Branch} {s : _} {given : ℕ} → Asked k input x s given → (z : Live) × (item_at live_id k.lives z.me ≡ Some z) × (z.phase ≡ x.live.phase) × (x.live.me ≡ z.me)
    asked_found k (steps.By_call n x s call rows has code live may) = (x.live, (branch_parts k x.live.me x live).0, refl, refl)
    asked_found k (steps.By_exec x from call given advice s came live runs) = (x.live, (branch_parts k x.live.me x live).0, refl, refl)

    asked_put : (k : NodeState) (ss : SessionsFit k) (nodes : EachLive (turns.Begun E A G Here input said) k.lives k.works) (ice : frost.Ices E A G Here input said received k) → Stills k → {x : Branch} {s : _} {given : ℕ} → Asked k input x s given
        → (y : Live) (w : Work) → w.branch ≡ y.me → y.me ≡ x.live.me → EachLive Still (put_item live_id k.lives y) (put_item work_id k.works w)
    asked_put k ss nodes ice now asked y w mine me =
        let there = asked_found k asked in put k now there.0 y w mine there.1 (there.2 ∙ frost.asked_works E A G Here input said received prepared k ss nodes ice asked) (me ∙ there.3)

    -- and so was one whose children are to go back
    goes_found : (k : NodeState) {x : Branch} {step : ℕ} → Goes_to k input x step → (z : Live) × (item_at live_id k.lives z.me ≡ Some z) × (z.phase ≡ x.live.phase) × (x.live.me ≡ z.me)
    goes_found k (steps.By_rollback_to n x name step call has code live set) = (x.live, (branch_parts k x.live.me x live).0, refl, refl)
    goes_found k (steps.By_back x from call keep came live runs) = (x.live, (branch_parts k x.live.me x live).0, refl, refl)

    calling_found : (k : NodeState) {x : Branch} {step from : ℕ} → Calls_back k input x step from → (z : Live) × (item_at live_id k.lives z.me ≡ Some z) × (z.phase ≡ x.live.phase) × (x.live.me ≡ z.me)
    calling_found k (steps.Has_gone j x step goes is) =
        subst (λ i. (z : Live) × (item_at live_id i.lives z.me ≡ Some z) × (z.phase ≡ x.live.phase) × (x.live.me ≡ z.me)) (sym is) (goes_found j goes)
    calling_found k (steps.Has_heard x weight count a i e g step answered going errand done) = (x.live, (branch_parts k x.live.me x answered.live).0, refl, refl)

    calling_put : (k : NodeState) (ss : SessionsFit k) (nodes : EachLive (turns.Begun E A G Here input said) k.lives k.works) (ice : frost.Ices E A G Here input said received k) → Stills k → {x : Branch} {step from : ℕ} → Calls_back k input x step from
        → (w : Work) → w.branch ≡ x.live.me → EachLive Still (put_item live_id k.lives x.live) (put_item work_id k.works w)
    calling_put k ss nodes ice now {x = x} calls w mine =
        let there = calling_found k calls in put k now there.0 x.live w mine there.1 (there.2 ∙ frost.calling_working E A G Here input said received prepared k ss nodes ice calls) there.3

    pub stills_on : {k : NodeState} {d : TurnDraft} → Step p input k d → SessionsFit k → News NewThere p input k → EachLive (turns.Begun E A G Here input said) k.lives k.works → frost.Ices E A G Here input said received k → Stills k → Stills d.after
    stills_on (steps.Begins {k = k} n s read_at call begins range none step) ss news nodes ice now =
        let root = news.root n s read_at call begins none in
        stills_on step (begun_so k ss p n read_at) (begun_news NewThere p input k n read_at news)
        (drafts.begins_so E A G Here input said received k nodes (fresh_root p k (new_root p k n) read_at) refl (place (new_root p k n) refl) root.0.0)
        (frost.begins_ice E A G Here input said received prepared k ice (fresh_root p k (new_root p k n) read_at) refl root.0.1) (begun k now (fresh_root p k (new_root p k n) read_at) root.1)
    stills_on (steps.Counts_call {k = k} n s call counts step) ss news nodes ice now = stills_on step (counted_so k ss n) (counted_news NewThere p input k n news) nodes ice now
    stills_on (steps.Goes_back {k = k} x step goes next) ss news nodes ice now = stills_on next (back_so k ss x step) (back_news NewThere p input k x step news) nodes ice now
    stills_on (steps.Pends {k = k} n l given call has live code writer step) ss news nodes ice now = stills_on step (pends_so k ss n pending.Commit) (pends_news NewThere p input k n given call news) nodes ice now
    stills_on (steps.Lets_reads_go {k = k} l comment site_below live begins step) ss news nodes ice now = stills_on step (record { roots = ss.roots; above = ss.above }) (lets_news NewThere p input k l.me news) nodes ice now
    stills_on (steps.Counts_ack {k = k} s from kept came counts step) ss news nodes ice now = stills_on step (record { roots = ss.roots; above = ss.above }) (acked_news NewThere p input k _ news) nodes ice now
    stills_on (steps.Runs {k = k} x s given t asked way) ss news nodes ice now =
        let y : Branch = branch_ran k.sessions x t (ran p k x.live.me s t) in asked_put k ss nodes ice now asked y.live (with_answer y (answer_of_run (ran p k x.live.me s t))).work (drafts.asked_mine E A G Here input said received k asked) refl
    stills_on (steps.Goes_nowhere {k = k} x s given r asked way) ss news nodes ice now = asked_put k ss nodes ice now asked x.live _ (drafts.asked_mine E A G Here input said received k asked) refl
    stills_on (steps.Calls {k = k} x s given i table asked way) ss news nodes ice now = asked_put k ss nodes ice now asked x.live (called k.sessions x i (errands.Statement (passed_on s table) given)).work (drafts.asked_mine E A G Here input said received k asked) refl
    stills_on (steps.Opens {k = k} x s given node link table asked way) ss news nodes ice now = asked_put k ss nodes ice now asked x.live (waits_for_opened x link (passed_on s table) given).work (drafts.asked_mine E A G Here input said received k asked) refl
    stills_on (steps.Goes_on {k = k} x from strength g link opened) ss news nodes ice now =
        put k now x.live (with_edge x (new_edge from link strength)).live (called k.sessions (with_edge x (new_edge from link strength)) (length x.live.edges + 1) (less_room g.errand)).work (work_is k x.live.me x opened.live) (branch_parts k x.live.me x opened.live).0
        (frost.waits_working E A G Here input said received prepared k ss nodes ice x g opened.live opened.going) refl
    stills_on (steps.Hears_reply {k = k} x weight count a i e answered) ss news nodes ice now =
        let g = going_of x answered.from answered.call i e answered.waits in
        put k now x.live (hears_reply x i weight count e).live _ (work_is k x.live.me x answered.live) (branch_parts k x.live.me x answered.live).0
        (frost.waits_working E A G Here input said received prepared k ss nodes ice x g.0 answered.live g.1) refl
    stills_on (steps.Backs {k = k} x step from i calls next) ss news nodes ice now =
        calling_put k ss nodes ice now calls (called k.sessions x i (errands.GoBack step)).work (drafts.calling_mine E A G Here input said received k calls)
    stills_on (steps.Is_back {k = k} x step from calls none) ss news nodes ice now = calling_put k ss nodes ice now calls _ (drafts.calling_mine E A G Here input said received k calls)
    stills_on (steps.Opens_branch {k = k} to parent edge root depth read_at came new) ss news nodes ice now = begun k now (fresh_live (next_child p k) root (Some parent) depth (strength_of p k) read_at) (news.child to parent edge root depth read_at came new).1
    stills_on (steps.Acts {k = k} l site_below a why) ss news nodes ice now = acts_leave k now l site_below a (acting k now why)
    stills_on (steps.Drops_told {k = k} l live drops) ss news nodes ice now = left k now l.me
    stills_on (steps.Drops_asked {k = k} l from live came parent) ss news nodes ice now = left k now l.me
    stills_on (steps.Does s from nexts.Rest kept why) ss news nodes ice now = now
    stills_on (steps.Leaves {k = k} n s d x call ends has live) ss news nodes ice now = left k now x.live.me
    stills_on (steps.Sets_savepoint {k = k} n x name call has code live) ss news nodes ice now =
        put k now x.live x.live (marked k.sessions x name).work (work_is k x.live.me x live) (branch_parts k x.live.me x live).0
        (frost.calls_working E A G Here input said received prepared k ss nodes ice n x (stmts.Savepoint name) call has live) refl
    stills_on (steps.Gives_up {k = k} n x gives has calls live) ss news nodes ice now =
        let parts = branch_parts k x.live.me x live in
        each_put Still Still k.lives k.works now x.live (gives_up x).work (work_is k x.live.me x live)
        (λ z found other. (let was : StandsStill (pair z (works_of k0.works x.live.me)) (pair x.live x.work) = subst (Still x.live) (sym parts.1) (now.each x.live.me x.live parts.0) z found other in
        record { peers = was.peers; weights = was.weights; counts = was.counts; changed = was.changed; calls = was.calls; last = was.last; phase = was.phase }))
        (λ z v there other so. so)
    stills_on (steps.Gives_up_commit {k = k} n b (Some l) gives has calls live) ss news nodes ice now = left k now l.me
    stills_on _ ss news nodes ice now = now
