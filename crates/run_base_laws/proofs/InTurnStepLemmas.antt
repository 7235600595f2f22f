-- Each step of a node leaves the calls of its live branches in turn, and makes none before the last was answered.
use Rattle.std.proofs.Common.{◌≡◌, ◌≢◌, ℕ, ◌+◌, ◌≤◌, ◌&&◌, Bool, true, false, if◌then◌else◌, List, [], ◌∷◌, ◌++◌, map, length, is_none, unwrap_or, Option, Some, None, inl, inr, refl, sym, ap, subst, ◌∙◌, arith}
use Rattle.std.proofs.lemmas.Bool.{cond_both}
use Rattle.tran_ids.proofs.BranchLemmas.{equal_from_same}
use Rattle.tran_ids.proofs.ListedLemmas.{item_is, put_found}
use Rattle.commit_forget.specs.declared.next.Next.TheVariants as nexts
use Rattle.session_tree.specs.Live.{children_of, peer_of, new_edge, next_edge, fresh_live}
use Rattle.session_tree.specs.Tree.{step as step_from}
use Rattle.node_rules.specs.Data.{Stmt, Answer, BranchId, Edge, Kind, Live, Act, Post, ReplyFields, Vote, Place, Input}
use Rattle.node_rules.specs.declared.work.Errand.{Errand}
use Rattle.node_rules.specs.Data.acts
use Rattle.node_rules.specs.Data.answers
use Rattle.node_rules.specs.Data.kinds
use Rattle.node_rules.specs.declared.session.Session.{Session}
use Rattle.node_rules.specs.declared.session.PendingCall.{PendingCall}
use Rattle.node_rules.specs.declared.session.PendingCall.TheVariants as pending
use Rattle.node_rules.specs.declared.work.Work.{Work}
use Rattle.node_rules.specs.declared.work.Going.{Going}
use Rattle.node_rules.specs.Words.{same, numbered, item_at, put_item, drop_item}
use Rattle.node_rules.specs.Refusals.{dtx}
use Rattle.node_rules.specs.NodeState.{NodeState, Branch, TurnDraft, live_id, work_id, live_at, branch_at, post, to_one, with_work, no_work, kept_row_at, work_or}
use Rattle.node_rules.specs.Sessions.{fresh_session, session_at, with_call, needs_rollback}
use Rattle.node_rules.specs.Names.{passed_on}
use Rattle.node_rules.specs.Statement.{ran}
use Rattle.node_rules.specs.Calls.{call_pends, next_child, strength_of, with_edge, waits_for_opened, hears_reply, replies, nobody_at, branch_ran, called, calls_over, less_room}
use Rattle.node_rules.specs.Client.{new_root, fresh_root, gives_up, marked}
use Rattle.node_rules.specs.Prepare.{path_of, site_neighbors, with_prepare_sent, has_voted, answers_first, ready, act_turn}
use Rattle.node_rules.specs.Commit.{beyond}
use Rattle.node_rules.specs.Recovery.{kept_told}
use Rattle.node_rules.specs.Turn.{live_or, status_of, Is_gone}
use Rattle.node_rules.proofs.Steps as steps
use Rattle.node_rules.proofs.Steps.{Step, Asked, Acting, Says, Goes_to, Calls_back}
use Rattle.node_rules.proofs.StandLemmas.{live_so, session_set, call_set}
use Rattle.run_rules.specs.Births.{Born}
use Rattle.run_base_laws.specs.InTurnLaws.{newest_reply}
use Rattle.run_rules.proofs.ListLemmas.{all_append, map_after}
use Rattle.node_rules.proofs.StepLemmas.{acting_so}
use Rattle.node_rules.specs.LiveBranches.{EachLive, works_of}
use Rattle.node_rules.proofs.LiveLemmas.{each_changed, each_begun, branch_parts, work_is}
use Rattle.node_rules.specs.Data.tasks
use Rattle.node_rules.specs.declared.work.Errand.TheVariants as errands
use Rattle.node_rules.specs.Marks.{step_of, marks_after}
use Rattle.run_base_laws.proofs.RootLemmas.{SessionsFit, session_or_before, root_alone, pends_so, begun_so, counted_so, back_so}
use Rattle.run_base_laws.proofs.NeighborLemmas.{News}
use Rattle.run_base_laws.proofs.NeighborStepLemmas.{begun_news, pends_news, lets_news, acked_news, counted_news, back_news}
use Rattle.run_base_laws.proofs.KindSayLemmas.{AllSay, one_says, each_says, prepares_say, told_says, passes_say, askings_say}
use Rattle.run_base_laws.proofs.CallTurnLemmas.{Silent, silent_none, one_exec, one_reply, if_zero, silent_other, silent_kind, answered_more, again_in_turn, opens_in_turn, gives_up_in_turn, marked_free, marked_in_turn}
use Rattle.run_base_laws.proofs.InTurnLemmas as turns
use Rattle.run_base_laws.proofs.InTurnEdgeLemmas.{opened_free, opened_first, heard_free, calling_free}
use Rattle.run_base_laws.proofs.InTurnLemmas.{IsDumb, dumb_decisions, dumb_silent, peer}

-- a gone branch is not live
gone_by : (k : NodeState) (b : BranchId) (o : Option Live) → live_at k b ≡ o → live_or (with_work k o) (kept_row_at k b) ≡ Is_gone → o ≡ None
gone_by k b None is gone = refl
gone_by k b (Some l) is gone = absurd cc

gone_none : (k : NodeState) (b : BranchId) → status_of k b ≡ Is_gone → live_at k b ≡ None
unfolding status_of
gone_none k b gone = gone_by k b (live_at k b) refl gone

-- the Reply of a gone branch, and a Reply once more
abbrev pub refused_kind : ℕ → Kind
refused_kind call = kinds.Reply call None 1 (answers.Refused (dtx 8 []))

abbrev pub again_kind : Branch → ReplyFields → Kind
again_kind x t = kinds.Reply x.work.came.last_call t.weight t.count t.result

-- one that answered waits for nothing
rest_by : (o : Option Going) (r : Option ReplyFields) (t : ReplyFields) → r ≡ Some t → (o ≢ None → r ≡ None) → o ≡ None
rest_by None r t is answered = refl
rest_by (Some g) r t is answered = let none : r ≡ None = answered (λ no. absurd cc) in absurd (cc (is, none))

-- a session's code
call_code : (ss : List Session) (n m : ℕ) (c : PendingCall) → (session_at (with_call ss n c) m).code ≡ (session_at ss m).code
call_code ss n m c = elim (session_or_before ss n m (record (session_at ss n) { call = c })) [
  | inl still ↦ ap (λ s. s.code) still
  | inr new ↦ ap (λ s. s.code) new.1 ∙ ap (λ i. (session_at ss i).code) new.0
]

pends_code : (ss : List Session) (l : Live) (m : ℕ) → (session_at (call_pends ss l) m).code ≡ (session_at ss m).code
pends_code ss l m = cond_both (is_none l.parent) (with_call ss l.me.session pending.Statement) ss (λ xs. (session_at xs m).code ≡ (session_at ss m).code) (λ root. call_code ss l.me.session m pending.Statement) (λ below. refl)

code_at : (ss : List Session) (n code : ℕ) (b : BranchId) (o : Option Session) → numbered ss n ≡ o → (unwrap_or o fresh_session).root ≡ Some b → session_at (needs_rollback ss n code) n ≡ record (session_at ss n) { code = Some code }
code_at ss n code b None is has = absurd cc
code_at ss n code b (Some s) is has = session_set ss n s (record (session_at ss n) { code = Some code }) is

-- a root that is given up needs a rollback
given_code : (ss : List Session) (n code : ℕ) (b : BranchId) → (session_at ss n).root ≡ Some b → (session_at (needs_rollback (with_call ss n pending.NoCall) n code) n).code ≡ None → ⊥
given_code ss n code b has none =
    let free : List Session = with_call ss n pending.NoCall in
    let root : (session_at free n).root ≡ Some b = ap (λ s. s.root) (call_set ss n b pending.NoCall has) ∙ has in
    let set : (session_at (needs_rollback free n code) n).code ≡ Some code = ap (λ s. s.code) (code_at free n code b (numbered free n) refl root) in
    absurd (cc (set, none))

module _ (E : BranchId → Option ℕ) (A : BranchId → Option BranchId) (G Here : BranchId → Type 0) (input : Input) (said : List Post) (received : turns.Received E A G Here input said) where
  abbrev Begun : Live → Work → Type 0
  Begun = turns.Begun E A G Here input said

  abbrev Done : List Post → Live → Work → Type 0
  Done = turns.Done E A G Here input said

  abbrev FreeOf : Branch → Type 0
  FreeOf = turns.FreeOf E A G Here input said

  abbrev Nodes : NodeState → Type 0
  Nodes k = EachLive Begun k.lives k.works

  -- a branch of which nothing is known begins
  abbrev pub NewBorn : Born → Type 0
  NewBorn x = turns.IsNew E A G Here input said x.me

  -- ---- messages alone

  module _ (k : NodeState) (now : Nodes k) where
    still : (says : List Post) → ((b : BranchId) (y : Live) → live_at k b ≡ Some y → Silent y.me says) → EachLive (Done says) k.lives k.works
    still says silent = turns.still E A G Here input said received k now says silent

    quiet : (says : List Post) → AllSay IsDumb says → EachLive (Done says) k.lives k.works × turns.Sends E A G Here input said says
    quiet says dumb = (still says (λ b y live. dumb_silent y.me says dumb), turns.dumbly E A G Here input said received k now says dumb)

    -- the Reply of a gone branch
    gone_says : (to from : BranchId) (call : ℕ) (weight : Option ℕ) (count : ℕ) (a : Answer) → live_at k to ≡ None
        → EachLive (Done (post to from (kinds.Reply call weight count a))) k.lives k.works
    gone_says to from call weight count a none = still (post to from (kinds.Reply call weight count a)) (λ b y live. silent_other to from y.me _ (other b y live (same to y.me) refl))
      where
        other : (b : BranchId) (y : Live) → live_at k b ≡ Some y → (q : Bool) → same to y.me ≡ q → q ≡ false
        other b y live false is = refl
        other b y live true is =
            let here : to ≡ b = equal_from_same to y.me is ∙ item_is live_id k.lives b y live in
            let found : live_at k to ≡ Some y = subst (λ c. live_at k c ≡ Some y) (sym here) live in
            absurd (cc (found, none))

    -- the last Reply of a branch, once more
    again_says : (x : Branch) (to : BranchId) (t : ReplyFields) → branch_at k x.live.me ≡ Some x → x.work.came.reply ≡ Some t → EachLive (Done (replies x to t)) k.lives k.works
    again_says x to t found kept = record { there = now.there; each = λ b l live. by b l live (same x.live.me b) refl }
      where
        parts : (live_at k x.live.me ≡ Some x.live) × (x.work ≡ works_of k.works x.live.me)
        parts = branch_parts k x.live.me x found

        reply_low : (q : Bool) → newest_reply (replies x to t) x.live.me ≡ (if q then x.work.came.last_call else 0) → newest_reply (replies x to t) x.live.me ≤ x.work.came.last_call
        reply_low true is = omega (arith, is)
        reply_low false is = omega (arith, is)

        mine : Done (replies x to t) x.live x.work
        mine =
            let was : Begun x.live x.work = turns.branch_begun E A G Here input said received k now x found in
            again_in_turn (turns.Goes E A G Here input said x.live) said (replies x to t) x.live.me x.live.parent (children_of x.live) x.work (rest_by x.work.going x.work.came.reply t kept was.turn.answered)
            (λ c. one_exec x.live.me to x.live.me c (again_kind x t) ∙ if_zero (same x.live.me x.live.me && same to c) 0 refl) (reply_low (same x.live.me x.live.me) (one_reply x.live.me to x.live.me (again_kind x t))) was.turn

        by : (b : BranchId) (l : Live) → live_at k b ≡ Some l → (q : Bool) → same x.live.me b ≡ q → Done (replies x to t) l (works_of k.works b)
        by b l live true is =
            let me : x.live.me ≡ b = equal_from_same x.live.me b is in
            let it : Some x.live ≡ Some l = sym parts.0 ∙ (ap (λ c. live_at k c) me ∙ live) in
            let here : x.live ≡ l = cc in
            subst (λ c. Done (replies x to t) l (works_of k.works c)) me (subst (λ y. Done (replies x to t) y (works_of k.works x.live.me)) here (subst (λ w. Done (replies x to t) x.live w) parts.1 mine))
        by b l live false is =
            turns.others_stay E A G Here input said received k now (replies x to t) l (works_of k.works b)
            (silent_other x.live.me to l.me _ (subst (λ c. same x.live.me c ≡ false) (sym (item_is live_id k.lives b l live)) is)) (now.each b l live)

    says_so : {says : List Post} → Says k input says → EachLive (Done says) k.lives k.works × turns.Sends E A G Here input said says
    says_so (steps.Gone_replies to from call task came gone) = (
      gone_says to from call None 1 (answers.Refused (dtx 8 [])) (gone_none k to gone),
      (answered_more said (post to from (refused_kind call)) (λ a b. one_exec to from a b (refused_kind call) ∙ if_zero (same to a && same from b) 0 refl) received.all, (λ b not. silent_other to from b _ (turns.elsewhere E A G Here input said to b (received.here from to (kinds.Exec call task) came) not))),
    )
    says_so (steps.Replies_again x to call task t came live last kept) = (
      again_says x to t live kept,
      (answered_more said (replies x to t) (λ a b. one_exec x.live.me to a b (again_kind x t) ∙ if_zero (same x.live.me a && same to b) 0 refl) received.all, (λ b not. silent_other x.live.me to b _ (turns.elsewhere E A G Here input said x.live.me b (received.here to x.live.me (kinds.Exec call task) came) not))),
    )
    says_so (steps.Tells s from came kept) = quiet _ (told_says IsDumb dumb_decisions (kept_told s from), tt)
    says_so (steps.Recovers reco) = quiet _ (askings_say IsDumb dumb_decisions k)
    says_so (steps.Gone_aborts to from site_below comment came gone) = quiet _ ((refl, refl), tt)
    says_so (steps.Gone_rolls_back to from came gone) = quiet _ ((refl, refl), tt)
    says_so (steps.Gone_acks to from n came gone) = quiet _ ((refl, refl), tt)
    says_so (steps.Gone_forgets to from came gone) = quiet _ ((refl, refl), tt)
    says_so (steps.Opened_again to parent edge root depth read_at o came found) = quiet _ ((refl, refl), tt)
    says_so (steps.Prepared_again s from site_below comment came kept again) = quiet _ ((refl, refl), tt)
    says_so (steps.Knows_commit s from n came kept knows) = quiet _ ((refl, refl), tt)
    says_so (steps.Knows_rollback s from came kept knows) = quiet _ ((refl, refl), tt)
    says_so (steps.Is_in_doubt l from came live other) = quiet _ ((refl, refl), tt)

    -- ---- acts of the prepare phase

    collected_peers : (es : List Edge) → map peer (map with_prepare_sent es) ≡ map peer es
    collected_peers es = map_after peer with_prepare_sent peer (λ e. refl) es

    voted_peers : (from : BranchId) (v : Vote) (es : List Edge) → map peer (map (has_voted from v) es) ≡ map peer es
    voted_peers from v es = map_after peer (has_voted from v) peer (λ e. cond_both (answers_first from e) (record e { vote = v }) e (λ y. y.peer ≡ e.peer) (λ here. refl) (λ other. refl)) es

    pub acting_begun : {l : Live} {site_below : Bool} {a : Act} → Acting k input l site_below a → Begun l (works_of k.works l.me)
    acting_begun why =
        acting_so (λ l. Begun l (works_of k.works l.me))
        (λ l comment site_below is. subst (λ ps. turns.BegunSo E A G Here input said l.me l.parent ps (works_of k.works l.me)) (sym (collected_peers l.edges)) is)
        (λ l from v is. subst (λ ps. turns.BegunSo E A G Here input said l.me l.parent ps (works_of k.works l.me)) (sym (voted_peers from v l.edges)) is)
        (λ b l found. subst (λ m. Begun l (works_of k.works m)) (sym (item_is live_id k.lives b l found)) (now.each b l found)) why

    acts_stays : (l : Live) (says : List Post) → AllSay IsDumb says → Begun l (works_of k.works l.me) → EachLive (Done says) (put_item live_id k.lives l) k.works
    acts_stays l says dumb was =
        each_changed Begun (Done says) k.lives k.works now l (turns.others_stay E A G Here input said received k now says l (works_of k.works l.me) (dumb_silent l.me says dumb) was)
        (λ y v live other so. turns.others_stay E A G Here input said received k now says y v (dumb_silent y.me says dumb) so)

    dumbly : (says : List Post) → AllSay IsDumb says → turns.Sends E A G Here input said says
    dumbly says dumb = turns.dumbly E A G Here input said received k now says dumb

    goes_away : (b : BranchId) (says : List Post) → AllSay IsDumb says → EachLive (Done says) (drop_item live_id k.lives b) (drop_item work_id k.works b) × turns.Sends E A G Here input said says
    goes_away b says dumb = (turns.left E A G Here input said received k now says b dumb, dumbly says dumb)

    acts_so : (l : Live) (site_below : Bool) (a : Act) → Begun l (works_of k.works l.me) → turns.Leaves E A G Here input said (act_turn k l site_below a)
    acts_so l site_below acts.Rest was = (acts_stays l [] tt was, dumbly [] tt)
    acts_so l site_below acts.AskDown was =
        let dumb = prepares_say IsDumb (λ q c. (refl, refl)) l.me l.comment (path_of site_below (step_from l)) 1 l.edges in (acts_stays l _ dumb was, dumbly _ dumb)
    acts_so l site_below acts.SayReady was = let dumb = one_says IsDumb l.me kinds.Ready l.parent (refl, refl) in (acts_stays (ready l) _ dumb was, dumbly _ dumb)
    acts_so l site_below acts.SayReadOnly was = goes_away l.me _ (one_says IsDumb l.me kinds.ReadOnly l.parent (refl, refl))
    acts_so l site_below acts.Seal was = goes_away l.me _ (one_says IsDumb l.me kinds.Prepared l.parent (refl, refl))
    acts_so l site_below (acts.SealAndPass i) was = goes_away l.me _ (one_says IsDumb l.me kinds.CommitPoint (peer_of l i) (refl, refl))
    acts_so l site_below acts.Decide was = goes_away l.me _ (each_says IsDumb l.me (kinds.Committed (k.clock + 1)) (site_neighbors l) (refl, refl))
    acts_so l site_below acts.Finish was = goes_away l.me [] tt
    acts_so l site_below acts.Abandon was =
        goes_away l.me _ (all_append (λ x. IsDumb x.kind) (to_one l.me kinds.Abort l.parent) _ (one_says IsDumb l.me kinds.Abort l.parent (refl, refl)) (each_says IsDumb l.me kinds.Rollback (children_of l) (refl, refl)))

  -- ---- every step

  -- a branch may go on where it stays live and its session needs no rollback
  pub record Granted (d : TurnDraft) : Type 0 where
    pub grants : (b : BranchId) (l : Live) → item_at live_id d.after.lives b ≡ Some l → l.parent ≡ None → (session_at d.after.sessions b.session).code ≡ None → G b
    pub sees : (b : BranchId) → G b → (session_at d.after.sessions b.session).code ≡ None
    pub waits : (b : BranchId) (l : Live) → item_at live_id d.after.lives b ≡ Some l → l.parent ≡ None → (works_of d.after.works b).going ≢ None → (session_at d.after.sessions b.session).code ≡ None

  -- so does a root that waits for a child
  pub waits_goes : (k : NodeState) (x : Branch) (i : ℕ) (e : Errand) → x.work.branch ≡ x.live.me → Granted (calls_over k x i e) → turns.Goes E A G Here input said x.live
  waits_goes k x i e mine granted none =
      let there : item_at live_id (put_item live_id k.lives x.live) x.live.me ≡ Some x.live = put_found live_id k.lives x.live in
      let w : Work = (called k.sessions x i e).work in
      let its : works_of (put_item work_id k.works w) x.live.me ≡ w = ap (work_or x.live.me) (subst (λ b. item_at work_id (put_item work_id k.works w) b ≡ Some w) mine (put_found work_id k.works w)) in
      granted.grants x.live.me x.live there none (granted.waits x.live.me x.live there none (subst (λ (v : Work). v.going ≢ None) (sym its) (λ rests. absurd cc)))

  -- one that was asked goes on
  asked_goes : (k : NodeState) → SessionsFit k → Nodes k → {x : Branch} {s : Stmt} {given : ℕ} → Asked k input x s given → (x.live.parent ≡ None → (session_at k.sessions x.live.me.session).code ≡ None → G x.live.me) → turns.Goes E A G Here input said x.live
  asked_goes k ss now (steps.By_call n x s call rows has code live reads) may none = may none (subst (λ m. (session_at k.sessions m).code ≡ None) (sym (ss.roots.each n x.live.me has)) code)
  asked_goes k ss now (steps.By_exec x from call given advice s came live runs) may none =
      let was : Begun x.live x.work = turns.branch_begun E A G Here input said received k now x live in
      let parent : x.live.parent ≡ Some from = was.above from (received.exec from x.live.me call (tasks.Run given advice s) came).0 in
      absurd (cc (parent, none))

  pub asked_mine : (k : NodeState) {x : Branch} {s : Stmt} {given : ℕ} → Asked k input x s given → x.work.branch ≡ x.live.me
  asked_mine k (steps.By_call n x s call rows has code live may) = work_is k x.live.me x live
  asked_mine k (steps.By_exec x from call given advice s came live runs) = work_is k x.live.me x live

  -- of a branch that goes back, and of one whose children are to go back
  pub goes_mine : (k : NodeState) {x : Branch} {step : ℕ} → Goes_to k input x step → x.work.branch ≡ x.live.me
  goes_mine k (steps.By_rollback_to n x name step call has code live set) = work_is k x.live.me x live
  goes_mine k (steps.By_back x from call keep came live runs) = work_is k x.live.me x live

  pub calling_mine : (k : NodeState) {x : Branch} {step from : ℕ} → Calls_back k input x step from → x.work.branch ≡ x.live.me
  calling_mine k (steps.Has_gone j x step goes is) = goes_mine j goes
  calling_mine k (steps.Has_heard x weight count a i e g step answered going errand done) = work_is k x.live.me x answered.live

  branch_here : (k : NodeState) → Nodes k → (x : Branch) → branch_at k x.live.me ≡ Some x → Here x.live.me
  branch_here k now x live = (turns.branch_begun E A G Here input said received k now x live).here

  asked_here : (k : NodeState) → Nodes k → {x : Branch} {s : Stmt} {given : ℕ} → Asked k input x s given → Here x.live.me
  asked_here k now (steps.By_call n x s call rows has code live may) = branch_here k now x live
  asked_here k now (steps.By_exec x from call given advice s came live runs) = branch_here k now x live

  goes_here : (k : NodeState) → Nodes k → {x : Branch} {step : ℕ} → Goes_to k input x step → Here x.live.me
  goes_here k now (steps.By_rollback_to n x name step call has code live set) = branch_here k now x live
  goes_here k now (steps.By_back x from call keep came live runs) = branch_here k now x live

  calling_here : (k : NodeState) → Nodes k → {x : Branch} {step from : ℕ} → Calls_back k input x step from → Here x.live.me
  calling_here k now (steps.Has_gone j x step goes is) = goes_here j (subst Nodes is now) goes
  calling_here k now (steps.Has_heard x weight count a i e g step answered going errand done) = branch_here k now x answered.live

  pub begins_so : (k : NodeState) → Nodes k → (l : Live) → l.edges ≡ [] → Here l.me → turns.IsNew E A G Here input said l.me → EachLive Begun (k.lives ++ l ∷ []) k.works
  begins_so k now l edges here new =
      each_begun Begun Begun k.lives k.works now l (record {
        turn = turns.begun_fresh E A G Here input said l (no_work l.me) edges refl refl refl refl new.0;
        kids = λ i c at. absurd (turns.none_at E A G Here input said i c (subst (λ es. numbered (map peer es) i ≡ Some c) edges at));
        above = λ p at. absurd (cc (at, new.1));
        idle = λ none s call. refl;
        here = here;
      }) (λ y v live any so. so)

  module _ (p : Place) (place : (b : BranchId) → b.node ≡ p.number → Here b) where
    pub turns_on : {k : NodeState} {d : TurnDraft} → Step p input k d → Granted d → SessionsFit k → News NewBorn p input k → Nodes k → turns.Leaves E A G Here input said d
    turns_on (steps.Begins {k = k} n s read_at call begins range none step) granted ss news now =
        turns_on step granted (begun_so k ss p n read_at) (begun_news NewBorn p input k n read_at news)
        (begins_so k now (fresh_root p k (new_root p k n) read_at) refl (place (new_root p k n) refl) (news.root n s read_at call begins none))
    turns_on (steps.Counts_call {k = k} n s call counts step) granted ss news now = turns_on step granted (counted_so k ss n) (counted_news NewBorn p input k n news) now
    turns_on (steps.Goes_back {k = k} x step goes next) granted ss news now = turns_on next granted (back_so k ss x step) (back_news NewBorn p input k x step news) now
    turns_on (steps.Pends {k = k} n l given call has live code writer step) granted ss news now = turns_on step granted (pends_so k ss n pending.Commit) (pends_news NewBorn p input k n given call news) now
    turns_on (steps.Lets_reads_go {k = k} l comment site_below live begins step) granted ss news now =
        turns_on step granted (record { roots = ss.roots; above = ss.above }) (lets_news NewBorn p input k l.me news) now
    turns_on (steps.Counts_ack {k = k} s from kept came counts step) granted ss news now =
        turns_on step granted (record { roots = ss.roots; above = ss.above }) (acked_news NewBorn p input k _ news) now
    turns_on (steps.Sends {k = k} says why) granted ss news now = says_so k now why
    turns_on (steps.Runs {k = k} x s given t asked way) granted ss news now =
        turns.answers_so E A G Here input said received k now (branch_ran k.sessions x t (ran p k x.live.me s t)) _ (asked_mine k asked) (asked_here k now asked)
        (marked_free E (turns.Goes E A G Here input said x.live) said x.live.me x.live.parent (children_of x.live) x.work (marks_after x.work (step_of k.sessions x) t (ran p k x.live.me s t))
        (turns.asked_free E A G Here input said received k ss now asked))
    turns_on (steps.Goes_nowhere {k = k} x s given r asked way) granted ss news now =
        turns.answers_so E A G Here input said received k now x _ (asked_mine k asked) (asked_here k now asked) (turns.asked_free E A G Here input said received k ss now asked)
    turns_on (steps.Calls {k = k} x s given i table asked way) granted ss news now =
        let free : FreeOf x = turns.asked_free E A G Here input said received k ss now asked in
        let goes : turns.Goes E A G Here input said x.live = asked_goes k ss now asked (λ root none. granted.grants x.live.me x.live (put_found live_id k.lives x.live) root (pends_code k.sessions x.live x.live.me.session ∙ none)) in
        turns.calls_so E A G Here input said received k now x i (errands.Statement (passed_on s table) given) k.sessions (asked_mine k asked) (asked_here k now asked) free (λ c at. free.heard goes i c at)
    turns_on (steps.Opens {k = k} x s given node link table asked way) granted ss news now =
        let says : List Post = post x.live.me (nobody_at node) (kinds.Open (next_edge x.live) x.live.root (x.live.depth + 1) x.live.read_at) in (
          turns.changed E A G Here input said received k now says x.live (waits_for_opened x link (passed_on s table) given).work (asked_mine k asked)
              (opens_in_turn (turns.Goes E A G Here input said x.live) said says x.live.me x.live.parent (children_of x.live) E x.work (turns.asked_free E A G Here input said received k ss now asked) _ (silent_kind x.live.me (nobody_at node) x.live.me _ refl refl))
              (λ b other. silent_kind x.live.me (nobody_at node) b _ refl refl),
          dumbly k now says ((refl, refl), tt),
        )
    turns_on (steps.Goes_on {k = k} x from strength g link opened) granted ss news now =
        turns.calls_so E A G Here input said received k now (with_edge x (new_edge from link strength)) (length x.live.edges + 1) (less_room g.errand) k.sessions (work_is k x.live.me x opened.live) (branch_here k now x opened.live)
        (opened_free E A G Here input said received k now x from strength g link opened) (λ c at. opened_first E A G Here input said received k now x from strength g link opened c)
    turns_on (steps.Hears_reply {k = k} x weight count a i e answered) granted ss news now =
        turns.answers_so E A G Here input said received k now (hears_reply x i weight count e) _ (work_is k x.live.me x answered.live) (branch_here k now x answered.live) (heard_free E A G Here input said received k now x weight count a i e answered)
    turns_on (steps.Backs {k = k} x step from i calls next) granted ss news now =
        let free : FreeOf x = calling_free E A G Here input said received k ss now calls in
        turns.calls_so E A G Here input said received k now x i (errands.GoBack step) k.sessions (calling_mine k calls) (calling_here k now calls) free
        (λ c at. free.heard (waits_goes k x i (errands.GoBack step) (calling_mine k calls) granted) i c at)
    turns_on (steps.Is_back {k = k} x step from calls none) granted ss news now =
        turns.answers_so E A G Here input said received k now x _ (calling_mine k calls) (calling_here k now calls) (calling_free E A G Here input said received k ss now calls)
    turns_on (steps.Opens_branch {k = k} to parent edge root depth read_at came new) granted ss news now =
        let says : List Post = post (next_child p k) parent (kinds.Opened edge (strength_of p k)) in (
          each_begun Begun (Done says) k.lives k.works now (fresh_live (next_child p k) root (Some parent) depth (strength_of p k) read_at)
              (turns.others_stay E A G Here input said received k now says (fresh_live (next_child p k) root (Some parent) depth (strength_of p k) read_at) (no_work (next_child p k)) (silent_kind (next_child p k) parent (next_child p k) _ refl refl) (record {
                turn = turns.begun_fresh E A G Here input said (fresh_live (next_child p k) root (Some parent) depth (strength_of p k) read_at) (no_work (next_child p k)) refl refl refl refl refl (news.child to parent edge root depth read_at came new).0;
                kids = λ i c at. absurd (turns.none_at E A G Here input said i c at);
                above = λ q at. (let none : A (next_child p k) ≡ None = (news.child to parent edge root depth read_at came new).1 in absurd (cc (at, none)));
                idle = λ none s call. refl;
                here = place (next_child p k) refl;
              }))
              (λ y v live any so. turns.others_stay E A G Here input said received k now says y v (silent_kind (next_child p k) parent y.me _ refl refl) so),
          dumbly k now says ((refl, refl), tt),
        )
    turns_on (steps.Acts {k = k} l site_below a why) granted ss news now = acts_so k now l site_below a (acting_begun k now why)
    turns_on (steps.Drops_told {k = k} l live drops) granted ss news now = goes_away k now l.me _ (each_says IsDumb l.me kinds.Rollback (children_of l) (refl, refl))
    turns_on (steps.Drops_asked {k = k} l from live came parent) granted ss news now = goes_away k now l.me _ ((refl, refl), each_says IsDumb l.me kinds.Rollback (children_of l) (refl, refl))
    turns_on (steps.Does {k = k} s from (nexts.End d) kept why) granted ss news now = quiet k now _ (passes_say IsDumb dumb_decisions s d)
    turns_on (steps.Does {k = k} s from (nexts.Meet d mixed) kept why) granted ss news now = quiet k now _ (passes_say IsDumb dumb_decisions s d)
    turns_on (steps.Does {k = k} s from nexts.AckToward kept why) granted ss news now = quiet k now _ (one_says IsDumb s.me kinds.Ack s.toward (refl, refl))
    turns_on (steps.Does {k = k} s from nexts.Forget kept why) granted ss news now = quiet k now _ (each_says IsDumb s.me kinds.Forgotten (map (λ b. b.branch) (beyond s)) (refl, refl))
    turns_on (steps.Does {k = k} s from nexts.SayForgotten kept why) granted ss news now = quiet k now _ ((refl, refl), tt)
    turns_on (steps.Does {k = k} s from nexts.SayAck kept why) granted ss news now = quiet k now _ ((refl, refl), tt)
    turns_on (steps.Leaves {k = k} n s d x call ends has live) granted ss news now = goes_away k now x.live.me _ (each_says IsDumb x.live.me kinds.Rollback (children_of x.live) (refl, refl))
    turns_on (steps.Sets_savepoint {k = k} n x name call has code live) granted ss news now =
        let was : Begun x.live x.work = turns.branch_begun E A G Here input said received k now x live in (
          turns.changed E A G Here input said received k now [] x.live (marked k.sessions x name).work (work_is k x.live.me x live)
              (marked_in_turn (turns.Goes E A G Here input said x.live) (said ++ []) x.live.me x.live.parent (children_of x.live) x.work (marked k.sessions x name).work.marks
              (turns.others_stay E A G Here input said received k now [] x.live x.work (silent_none x.live.me) was)) (λ b other. silent_none b),
          dumbly k now [] tt,
        )
    turns_on (steps.Gives_up {k = k} n x gives has calls live) granted ss news now =
        let was : Begun x.live x.work = turns.branch_begun E A G Here input said received k now x live in
        let refused : G x.live.me → ⊥ = λ goes. given_code k.sessions n _ x.live.me has (subst (λ m. (session_at (needs_rollback (with_call k.sessions n pending.NoCall) n (dtx 3 []).code) m).code ≡ None) (ss.roots.each n x.live.me has) (granted.sees x.live.me goes)) in
        let none : x.live.parent ≡ None = root_alone k ss n x.live.me has x.live (live_so k x.live.me x live) in (
          turns.changed E A G Here input said received k now [] x.live (gives_up x).work (work_is k x.live.me x live)
              (gives_up_in_turn (turns.Goes E A G Here input said x.live) said x.live.me x.live.parent (children_of x.live) x.work (λ goes. refused (goes none)) was.turn) (λ b other. silent_none b),
          dumbly k now [] tt,
        )
    turns_on (steps.Gives_up_commit {k = k} n b (Some l) gives has calls live) granted ss news now = goes_away k now l.me _ (each_says IsDumb l.me kinds.Rollback (children_of l) (refl, refl))
    turns_on {k = k} _ granted ss news now = quiet k now [] tt
