-- Each step of a node leaves it true that live branches hold the weights that their children's Replies told.
use Rattle.std.proofs.Common.{◌≡◌, ◌≢◌, ℕ, ◌+◌, ◌<◌, ◌≤◌, Bool, true, false, List, [], ◌∷◌, ◌++◌, map, length, Option, Some, None, inl, inr, refl, sym, subst, ◌∙◌, arith}
use Rattle.tran_ids.proofs.ListedLemmas.{item_is, put_found}
use Rattle.link_session.proofs.OnceLemmas.{run_is_new}
use Rattle.commit_forget.specs.declared.next.Next.TheVariants as nexts
use Rattle.session_tree.specs.Live.{children_of, peer_of, new_edge, next_edge, fresh_live}
use Rattle.session_tree.specs.Tree.{step as step_from}
use Rattle.node_rules.specs.Data.{Stmt, Answer, BranchId, Edge, Live, Act, Post, Place, Input, Task}
use Rattle.node_rules.specs.Data.acts
use Rattle.node_rules.specs.Data.admits
use Rattle.node_rules.specs.Data.kinds
use Rattle.node_rules.specs.Data.phases
use Rattle.node_rules.specs.Data.stmts
use Rattle.node_rules.specs.Data.tasks
use Rattle.node_rules.specs.declared.work.Errand.{Errand}
use Rattle.node_rules.specs.declared.work.Errand.TheVariants as errands
use Rattle.node_rules.specs.declared.session.Session.{Session}
use Rattle.node_rules.specs.declared.session.PendingCall.TheVariants as pending
use Rattle.node_rules.specs.declared.work.Work.{Work}
use Rattle.node_rules.specs.Words.{same, numbered, put_item, drop_item}
use Rattle.node_rules.specs.Refusals.{dtx}
use Rattle.node_rules.specs.Inputs.{Came, IsCall}
use Rattle.node_rules.specs.NodeState.{NodeState, Branch, TurnDraft, live_id, work_id, live_at, branch_at, post, to_one, to_each, no_work}
use Rattle.node_rules.specs.Sessions.{session_at, with_call, needs_rollback}
use Rattle.node_rules.specs.Names.{passed_on}
use Rattle.node_rules.specs.Statement.{ran}
use Rattle.node_rules.specs.Calls.{with_answer, answer_says, called, exec_to, next_child, strength_of, with_edge, waits_for_opened, hears_reply, nobody_at, branch_ran, less_room, admit}
use Rattle.node_rules.specs.Client.{new_root, fresh_root, gives_up, marked}
use Rattle.node_rules.specs.Marks.{node_back}
use Rattle.node_rules.specs.Prepare.{path_of, prepares, site_neighbors, ready, collecting, with_comment, act_turn}
use Rattle.node_rules.specs.Commit.{beyond}
use Rattle.node_rules.specs.Recovery.{kept_told}
use Rattle.node_rules.proofs.Steps as steps
use Rattle.node_rules.proofs.Steps.{Step, Asked, Acting, Collects, Says, Goes_to, Calls_back, Is_answered}
use Rattle.node_rules.proofs.StandLemmas.{live_so}
use Rattle.node_rules.proofs.StepLemmas.{acting_so}
use Rattle.node_rules.specs.LiveBranches.{EachLive, works_of}
use Rattle.node_rules.proofs.LiveLemmas.{each_put, each_changed, each_left, each_begun, each_same, branch_parts, work_is}
use Rattle.run_base_laws.specs.InTurnLaws.{newest_exec, newest_reply, call_at}
use Rattle.run_base_laws.specs.FreezeLaws.{was_asked}
use Rattle.run_rules.proofs.ListLemmas.{all_append}
use Rattle.run_base_laws.proofs.RootLemmas.{SessionsFit, root_alone, pends_so, begun_so, counted_so, back_so}
use Rattle.run_base_laws.proofs.NeighborLemmas.{News, reply_is}
use Rattle.run_base_laws.proofs.NeighborStepLemmas.{begun_news, pends_news, lets_news, acked_news, counted_news, back_news}
use Rattle.run_base_laws.proofs.KindSayLemmas.{AllSay, one_says, each_says, told_says, passes_say, askings_say}
use Rattle.run_base_laws.proofs.InTurnLemmas as turns
use Rattle.run_base_laws.proofs.InTurnLemmas.{length_peers, reply_for, none_waits}
use Rattle.run_base_laws.proofs.InTurnStepLemmas as drafts
use Rattle.run_branch_laws.proofs.FreezeLemmas.{no_ask, IsPlain, plain_decisions, plain_asks, prepares_ask}
use Rattle.run_branch_laws.proofs.FreezeStepLemmas as frost
use Rattle.tree_laws.specs.WeightLaws.{ToldWeight, HoldsWeights}
use Rattle.tree_laws.proofs.WeightStepLemmas.{told_more}
use Rattle.tree_laws.proofs.HoldLemmas.{EdgeTells, none_here, some_going, given_code, holding_more, working_holding, asking_holding, collected_holding, voted_holding, called_holding, opened_told, heard_told}
use Rattle.tree_laws.proofs.AskStepLemmas.{answer_plain, exec_plain}

rolled : (l : Live) → AllSay IsPlain (to_each l.me kinds.Rollback (children_of l))
rolled l = each_says IsPlain l.me kinds.Rollback (children_of l) refl

module _ (E : BranchId → Option ℕ) (A : BranchId → Option BranchId) (G Here : BranchId → Type 0) (input : Input) (said : List Post) (received : turns.Received E A G Here input said) (prepared : frost.Prepared E A G Here input said received) where
  -- the branches and what is known of them as a turn begins
  abbrev Begun : Live → Work → Type 0
  Begun = turns.Begun E A G Here input said

  abbrev Nodes : NodeState → Type 0
  Nodes k = EachLive Begun k.lives k.works

  abbrev Ices : NodeState → Type 0
  Ices k = frost.Ices E A G Here input said received k

  abbrev Goes : Live → Type 0
  Goes l = l.parent ≡ None → G l.me

  abbrev pub Old : Live → Work → Type 0
  Old l w = HoldsWeights said (Goes l) l.me l.edges w

  abbrev pub Olds : NodeState → Type 0
  Olds k = EachLive Old k.lives k.works

  abbrev pub Then : List Post → Live → Work → Type 0
  Then says l w = HoldsWeights (said ++ says) (Goes l) l.me l.edges w

  -- what a step leaves
  abbrev pub Leaves : TurnDraft → Type 0
  Leaves d = EachLive (Then d.says) d.after.lives d.after.works

  -- a branch that asked nobody, and whose children told their weights, but for the one over this edge
  abbrev Unasked : Branch → Type 0
  Unasked x = (c : BranchId) → was_asked said x.live.me c ≡ false

  abbrev Told : Branch → Type 0
  Told x = Goes x.live → (j : ℕ) (e : Edge) → numbered x.live.edges j ≡ Some e → EdgeTells said x.work j e

  abbrev ToldBut : ℕ → Branch → Type 0
  ToldBut i x = Goes x.live → (j : ℕ) (e : Edge) → i ≢ j → numbered x.live.edges j ≡ Some e → EdgeTells said x.work j e

  -- a branch that begins
  fresh_holding : (says : List Post) (l : Live) (w : Work) → l.edges ≡ [] → HoldsWeights says (Goes l) l.me l.edges w
  fresh_holding says l w none = record {
    held = λ goes i e at. absurd (none_here i e (subst (λ (es : List Edge). numbered es i ≡ Some e) none at));
    asked = λ i e at. absurd (none_here i e (subst (λ (es : List Edge). numbered es i ≡ Some e) none at));
  }

  -- ---- what becomes of the branches

  module _ (k : NodeState) (now : Olds k) where
    stay : (says : List Post) → AllSay IsPlain says → (y : Live) (v : Work) → Old y v → Then says y v
    stay says plain y v is = holding_more said says (Goes y) y.me y.edges v (λ c. plain_asks y.me c says plain) is

    quiet : (says : List Post) → AllSay IsPlain says → EachLive (Then says) k.lives k.works
    quiet says plain = each_same Old (Then says) k.lives k.works now (λ y v live any is. stay says plain y v is)

    left : (b : BranchId) (says : List Post) → AllSay IsPlain says → EachLive (Then says) (drop_item live_id k.lives b) (drop_item work_id k.works b)
    left b says plain = each_left Old (Then says) k.lives k.works now b (λ y v live other is. stay says plain y v is)

    put : (says : List Post) (l : Live) (w : Work) → w.branch ≡ l.me → AllSay IsPlain says → Then says l w → EachLive (Then says) (put_item live_id k.lives l) (put_item work_id k.works w)
    put says l w mine plain is = each_put Old (Then says) k.lives k.works now l w mine is (λ y v live other so. stay says plain y v so)

    begun : (says : List Post) → AllSay IsPlain says → (l : Live) → l.edges ≡ [] → EachLive (Then says) (k.lives ++ l ∷ []) k.works
    begun says plain l none = each_begun Old (Then says) k.lives k.works now l (fresh_holding (said ++ says) l (no_work l.me) none) (λ y v live any is. stay says plain y v is)

    -- ---- statements

    answers : (x : Branch) (a : Answer) → x.work.branch ≡ x.live.me → Unasked x → Told x → EachLive (Then (answer_says x a x.live.parent)) (put_item live_id k.lives x.live) (put_item work_id k.works (with_answer x a).work)
    answers x a mine unasked told =
        let says : List Post = answer_says x a x.live.parent in
        put says x.live (with_answer x a).work mine (answer_plain x a x.live.parent)
        (working_holding said says (Goes x.live) x.live.me x.live.edges (with_answer x a).work unasked (λ c. plain_asks x.live.me c says (answer_plain x a x.live.parent))
        (λ goes j e at. inr (told_more said says e.peer (call_at x.work j) e.weight (told goes j e at))))

    calls : (ss : List Session) (x : Branch) (i : ℕ) (e : Errand) → x.work.branch ≡ x.live.me → Unasked x → ToldBut i x
        → EachLive (Then (exec_to ss x i e (peer_of x.live i))) (put_item live_id k.lives x.live) (put_item work_id k.works (called ss x i e).work)
    calls ss x i e mine unasked told =
        let says : List Post = exec_to ss x i e (peer_of x.live i) in
        let plain = exec_plain ss x i e (peer_of x.live i) in
        put says x.live (called ss x i e).work mine plain
        (working_holding said says (Goes x.live) x.live.me x.live.edges (called ss x i e).work unasked (λ c. plain_asks x.live.me c says plain) (called_holding said (Goes x.live) x ss says i e told))

    module _ (ss : SessionsFit k) (nodes : Nodes k) (ice : Ices k) where
      found_old : (x : Branch) → branch_at k x.live.me ≡ Some x → Old x.live x.work
      found_old x found = let parts = branch_parts k x.live.me x found in subst (Old x.live) (sym parts.1) (now.each x.live.me x.live parts.0)

      unasked_so : (x : Branch) → branch_at k x.live.me ≡ Some x → x.live.phase ≡ phases.Working → Unasked x
      unasked_so x found working c = (ice.each x.live.me x.live (live_so k x.live.me x found)).frozen.working working c

      -- one that waits for nothing
      told_free : (x : Branch) → branch_at k x.live.me ≡ Some x → x.work.going ≡ None → Told x
      told_free x found none goes j e at = elim ((found_old x found).held goes j e at) [ inl waits ↦ absurd (none_waits j x.work.going none waits) | inr told ↦ told ]

      exec_free : (x : Branch) (from : BranchId) (call : ℕ) → branch_at k x.live.me ≡ Some x → x.work.came.last_call < call → A x.live.me ≡ Some from → call ≤ newest_exec said from x.live.me → x.work.going ≡ None
      exec_free x from call found new child made =
          let was : Begun x.live x.work = turns.branch_begun E A G Here input said received k nodes x found in
          let parent : x.live.parent ≡ Some from = was.above from child in
          let answered : call ≤ newest_reply said x.live.me + 1 = omega (arith, made, received.all from x.live.me) in
          let told : newest_reply said x.live.me ≤ x.work.came.last_call = was.turn.takes.told in
          let last : newest_reply said x.live.me ≡ x.work.came.last_call = omega (arith, new, answered, told) in
          was.turn.takes.rests (λ none. absurd (cc (parent, none))) last

      -- the root of a session that calls, and a branch that takes a call, wait for nothing
      root_told : (n : ℕ) (x : Branch) (s : Stmt) → IsCall input n s → (session_at k.sessions n).root ≡ Some x.live.me → branch_at k x.live.me ≡ Some x → Told x
      root_told n x s call has live =
          let was : Begun x.live x.work = turns.branch_begun E A G Here input said received k nodes x live in
          let none : x.live.parent ≡ None = root_alone k ss n x.live.me has x.live (live_so k x.live.me x live) in
          let free : x.work.going ≡ None = was.idle none s (subst (λ m. IsCall input m s) (sym (ss.roots.each n x.live.me has)) call) in
          told_free x live free

      taker_told : (x : Branch) (from : BranchId) (call : ℕ) (task : Task) → Came input from x.live.me (kinds.Exec call task) → branch_at k x.live.me ≡ Some x → admit x.work.came call ≡ admits.Run → Told x
      taker_told x from call task came live runs =
          let so = received.exec from x.live.me call task came in
          let free : x.work.going ≡ None = exec_free x from call live (run_is_new x.work.came call runs) so.0 so.1 in
          told_free x live free

      asked_told : {x : Branch} {s : Stmt} {given : ℕ} → Asked k input x s given → Unasked x × Told x
      asked_told (steps.By_call n x s call rows has code live may) =
          (unasked_so x live (frost.asked_works E A G Here input said received prepared k ss nodes ice (steps.By_call n x s call rows has code live may)), root_told n x s call has live)
      asked_told (steps.By_exec x from call given advice s came live runs) =
          (unasked_so x live (frost.asked_works E A G Here input said received prepared k ss nodes ice (steps.By_exec x from call given advice s came live runs)), taker_told x from call (tasks.Run given advice s) came live runs)

      goes_told : {x : Branch} {step : ℕ} → Goes_to k input x step → Unasked x × Told x
      goes_told (steps.By_rollback_to n x name step call has code live set) =
          (unasked_so x live (frost.goes_working E A G Here input said received prepared k ss nodes ice (steps.By_rollback_to n x name step call has code live set)), root_told n x (stmts.RollbackTo name) call has live)
      goes_told (steps.By_back x from call keep came live runs) =
          (unasked_so x live (frost.goes_working E A G Here input said received prepared k ss nodes ice (steps.By_back x from call keep came live runs)), taker_told x from call (tasks.GoBack keep) came live runs)

      -- ---- acts

      acting_old : {l : Live} {b : Bool} {a : Act} → Acting k input l b a → Old l (works_of k.works l.me)
      acting_old why =
          acting_so (λ l. Old l (works_of k.works l.me))
          (λ l comment b is. collected_holding said (Goes l) l.me l.edges (works_of k.works l.me) is)
          (λ l from v is. voted_holding said (Goes l) l.me l.edges (works_of k.works l.me) from v is)
          (λ b l found. subst (λ m. Old l (works_of k.works m)) (sym (item_is live_id k.lives b l found)) (now.each b l found)) why

      stays : (l : Live) (says : List Post) → AllSay IsPlain says → Old l (works_of k.works l.me) → EachLive (Then says) (put_item live_id k.lives l) k.works
      stays l says plain is = each_changed Old (Then says) k.lives k.works now l (stay says plain l (works_of k.works l.me) is) (λ y v live other so. stay says plain y v so)

      -- a branch that begins its collect waits for nothing, and goes on
      collects_rests : {comment : List ℕ} {b : Bool} (l : Live) → live_at k l.me ≡ Some l → (l.parent ≡ None → (session_at k.sessions l.me.session).code ≡ None → G l.me) → Collects k input l comment b → ((works_of k.works l.me).going ≡ None) × Goes l
      collects_rests l live may (steps.By_commit n given call has free writer is) =
          let none : l.parent ≡ None = root_alone k ss n l.me has l live in
          let at : l.me.session ≡ n = ss.roots.each n l.me has in (
            (nodes.each l.me l live).idle none (stmts.Commit given) (subst (λ m. IsCall input m (stmts.Commit given)) (sym at) call),
            (λ root. may root (subst (λ m. (session_at k.sessions m).code ≡ None) (sym at) free)),
          )
      collects_rests {comment = comment} l live may (steps.By_prepare from b came working) =
          let was : Begun l (works_of k.works l.me) = nodes.each l.me l live in
          let so = prepared.came from l.me b comment came in
          let parent : l.parent ≡ Some from = was.above from so.0 in
          let low : newest_exec said from l.me ≤ newest_reply said l.me = prepared.all from l.me so.1 in
          let last : newest_reply said l.me ≡ (works_of k.works l.me).came.last_call = omega (arith, low, was.turn.takes.taken from parent, was.turn.takes.told) in
          (was.turn.takes.rests (λ none. absurd (cc (parent, none))) last, (λ none. absurd (cc (parent, none))))

      asks_no_other : (l : Live) (comment : List ℕ) (path : Option ℕ) (b c : BranchId) → same l.me b ≡ false → was_asked (prepares l.me comment path 1 l.edges) b c ≡ false
      asks_no_other l comment path b c other = by (was_asked (prepares l.me comment path 1 l.edges) b c) refl
        where
          by : (q : Bool) → was_asked (prepares l.me comment path 1 l.edges) b c ≡ q → q ≡ false
          by false is = refl
          by true is = let here : same l.me b ≡ true = (prepares_ask l.me comment path 1 l.edges b c is).0 in absurd (cc (here, other))

      asks_down : {l : Live} {b : Bool} → Acting k input l b acts.AskDown → (l.parent ≡ None → (session_at k.sessions l.me.session).code ≡ None → G l.me) → Leaves (act_turn k l b acts.AskDown)
      asks_down (steps.Asks_down l comment b e es live begins has) may =
          let y : Live = collecting (with_comment l comment) b in
          let says : List Post = prepares y.me y.comment (path_of b (step_from y)) 1 y.edges in
          let rest = collects_rests l live may begins in
          each_changed Old (Then says) k.lives k.works now y
          (asking_holding said says (Goes l) l.me y.edges (works_of k.works l.me) rest.0 rest.1 (collected_holding said (Goes l) l.me l.edges (works_of k.works l.me) (now.each l.me l live)))
          (λ z v there other is. holding_more said says (Goes z) z.me z.edges v (λ c. asks_no_other y y.comment (path_of b (step_from y)) z.me c other) is)
      asks_down (steps.Has_no_children l comment b _ live begins none collected) may = absurd (no_ask collected)
      asks_down (steps.Hears_last l from v b _ live answers other all collected) may = absurd (no_ask collected)
      asks_down (steps.At_point l from _ live came is pointed) may = elim pointed [ ]

      acts_hold : {l : Live} {b : Bool} (a : Act) → Acting k input l b a → drafts.Granted E A G Here input said received (act_turn k l b a) → Leaves (act_turn k l b a)
      acts_hold {l = l} acts.Rest why granted = stays l [] tt (acting_old why)
      acts_hold {l = l} acts.AskDown why granted = asks_down why (λ none code. granted.grants l.me l (put_found live_id k.lives l) none code)
      acts_hold {l = l} acts.SayReady why granted = stays (ready l) _ (one_says IsPlain l.me kinds.Ready l.parent refl) (acting_old why)
      acts_hold {l = l} acts.SayReadOnly why granted = left l.me _ (one_says IsPlain l.me kinds.ReadOnly l.parent refl)
      acts_hold {l = l} acts.Seal why granted = left l.me _ (one_says IsPlain l.me kinds.Prepared l.parent refl)
      acts_hold {l = l} (acts.SealAndPass i) why granted = left l.me _ (one_says IsPlain l.me kinds.CommitPoint (peer_of l i) refl)
      acts_hold {l = l} acts.Decide why granted = left l.me _ (each_says IsPlain l.me (kinds.Committed (k.clock + 1)) (site_neighbors l) refl)
      acts_hold {l = l} acts.Finish why granted = left l.me [] tt
      acts_hold {l = l} acts.Abandon why granted = left l.me _ (all_append (λ x. IsPlain x.kind) (to_one l.me kinds.Abort l.parent) _ (one_says IsPlain l.me kinds.Abort l.parent refl) (rolled l))

  -- ---- every step

  says_plain : {k : NodeState} {says : List Post} → Says k input says → AllSay IsPlain says
  says_plain (steps.Gone_replies to from call task came gone) = (refl, tt)
  says_plain (steps.Replies_again x to call task t came live last kept) = (refl, tt)
  says_plain (steps.Tells s from came kept) = (told_says IsPlain plain_decisions (kept_told s from), tt)
  says_plain {k = k} (steps.Recovers reco) = askings_say IsPlain plain_decisions k
  says_plain (steps.Gone_aborts to from b comment came gone) = (refl, tt)
  says_plain (steps.Gone_rolls_back to from came gone) = (refl, tt)
  says_plain (steps.Gone_acks to from n came gone) = (refl, tt)
  says_plain (steps.Gone_forgets to from came gone) = (refl, tt)
  says_plain (steps.Opened_again to parent edge root depth read_at o came found) = (refl, tt)
  says_plain (steps.Prepared_again s from b comment came kept again) = (refl, tt)
  says_plain (steps.Knows_commit s from n came kept knows) = (refl, tt)
  says_plain (steps.Knows_rollback s from came kept knows) = (refl, tt)
  says_plain (steps.Is_in_doubt l from came live other) = (refl, tt)

  -- a Reply that came tells a weight
  abbrev pub Weighed : Type 0
  Weighed = (from to : BranchId) (call : ℕ) (weight : Option ℕ) (count : ℕ) (a : Answer) → Came input from to (kinds.Reply call weight count a) → ToldWeight said from call weight

  module _ (weighed : Weighed) (p : Place) (place : (b : BranchId) → b.node ≡ p.number → Here b) where
    -- a branch that hears a Reply, and one whose children are to go back
    answered_told : (k : NodeState) → Olds k → SessionsFit k → Nodes k → Ices k → (x : Branch) (weight : Option ℕ) (count : ℕ) (a : Answer) (i : ℕ) (e : Edge) → Is_answered k input x weight count a i e
        → Unasked x × Told (hears_reply x i weight count e)
    answered_told k now ss nodes ice x weight count a i e answered =
        let over = reply_for x answered.from answered.call i e answered.waits in
        let going = some_going i x.work.going over.0 in
        let working = frost.waits_working E A G Here input said received prepared k ss nodes ice x going.0 answered.live going.1 in (
          unasked_so k now ss nodes ice x answered.live working,
          heard_told said (Goes x.live) x i weight count e answered.from answered.call (reply_is x answered.from answered.call i e answered.waits) over.0 (weighed answered.from x.live.me answered.call weight count a answered.came) over.1 over.2 (found_old k now ss nodes ice x answered.live).held,
        )

    calling_told : (k : NodeState) → Olds k → SessionsFit k → Nodes k → Ices k → {x : Branch} {step from : ℕ} → Calls_back k input x step from → Unasked x × Told x
    calling_told k now ss nodes ice (steps.Has_gone j x step goes is) =
        let fits : SessionsFit (node_back j x step) = subst SessionsFit is ss in
        let told = goes_told j (subst Olds is now) (record { roots = fits.roots; above = fits.above }) (subst Nodes is nodes) (subst Ices is ice) goes in (told.0, told.1)
    calling_told k now ss nodes ice (steps.Has_heard x weight count a i e g step answered going errand done) = answered_told k now ss nodes ice x weight count a i e answered

    pub holds_on : {k : NodeState} {d : TurnDraft} → Step p input k d → drafts.Granted E A G Here input said received d → SessionsFit k → News (frost.Unasking E A G Here input said received) p input k → Nodes k → Ices k → Olds k → Leaves d
    holds_on (steps.Begins {k = k} n s read_at call begins range none step) granted ss news nodes ice now =
        let root = news.root n s read_at call begins none in
        holds_on step granted (begun_so k ss p n read_at) (begun_news (frost.Unasking E A G Here input said received) p input k n read_at news)
        (drafts.begins_so E A G Here input said received k nodes (fresh_root p k (new_root p k n) read_at) refl (place (new_root p k n) refl) root.0)
        (frost.begins_ice E A G Here input said received prepared k ice (fresh_root p k (new_root p k n) read_at) refl root.1)
        (each_begun Old Old k.lives k.works now (fresh_root p k (new_root p k n) read_at) (fresh_holding said (fresh_root p k (new_root p k n) read_at) (no_work (new_root p k n)) refl) (λ y v live any is. is))
    holds_on (steps.Counts_call {k = k} n s call counts step) granted ss news nodes ice now = holds_on step granted (counted_so k ss n) (counted_news (frost.Unasking E A G Here input said received) p input k n news) nodes ice now
    holds_on (steps.Goes_back {k = k} x step goes next) granted ss news nodes ice now = holds_on next granted (back_so k ss x step) (back_news (frost.Unasking E A G Here input said received) p input k x step news) nodes ice now
    holds_on (steps.Pends {k = k} n l given call has live code writer step) granted ss news nodes ice now = holds_on step granted (pends_so k ss n pending.Commit) (pends_news (frost.Unasking E A G Here input said received) p input k n given call news) nodes ice now
    holds_on (steps.Lets_reads_go {k = k} l comment b live begins step) granted ss news nodes ice now = holds_on step granted (record { roots = ss.roots; above = ss.above }) (lets_news (frost.Unasking E A G Here input said received) p input k l.me news) nodes ice now
    holds_on (steps.Counts_ack {k = k} s from kept came counts step) granted ss news nodes ice now = holds_on step granted (record { roots = ss.roots; above = ss.above }) (acked_news (frost.Unasking E A G Here input said received) p input k _ news) nodes ice now
    holds_on (steps.Sends {k = k} posts why) granted ss news nodes ice now = quiet k now posts (says_plain why)
    holds_on (steps.Runs {k = k} x s given t asked way) granted ss news nodes ice now =
        let free = asked_told k now ss nodes ice asked in
        answers k now (branch_ran k.sessions x t (ran p k x.live.me s t)) _ (drafts.asked_mine E A G Here input said received k asked) free.0 free.1
    holds_on (steps.Goes_nowhere {k = k} x s given r asked way) granted ss news nodes ice now =
        let free = asked_told k now ss nodes ice asked in answers k now x _ (drafts.asked_mine E A G Here input said received k asked) free.0 free.1
    holds_on (steps.Calls {k = k} x s given i table asked way) granted ss news nodes ice now =
        let free = asked_told k now ss nodes ice asked in
        calls k now k.sessions x i (errands.Statement (passed_on s table) given) (drafts.asked_mine E A G Here input said received k asked) free.0 (λ goes j e other at. free.1 goes j e at)
    holds_on (steps.Opens {k = k} x s given node link table asked way) granted ss news nodes ice now =
        let free = asked_told k now ss nodes ice asked in
        let says : List Post = post x.live.me (nobody_at node) (kinds.Open (next_edge x.live) x.live.root (x.live.depth + 1) x.live.read_at) in
        put k now says x.live (waits_for_opened x link (passed_on s table) given).work (drafts.asked_mine E A G Here input said received k asked) (refl, tt)
        (working_holding said says (Goes x.live) x.live.me x.live.edges (waits_for_opened x link (passed_on s table) given).work free.0 (λ c. plain_asks x.live.me c says (refl, tt))
        (λ goes j e at. inr (told_more said says e.peer (call_at x.work j) e.weight (free.1 goes j e at))))
    holds_on (steps.Goes_on {k = k} x from strength g link opened) granted ss news nodes ice now =
        let was : Begun x.live x.work = turns.branch_begun E A G Here input said received k nodes x opened.live in
        let working = frost.waits_working E A G Here input said received prepared k ss nodes ice x g opened.live opened.going in
        calls k now k.sessions (with_edge x (new_edge from link strength)) (length x.live.edges + 1) (less_room g.errand) (work_is k x.live.me x opened.live) (unasked_so k now ss nodes ice x opened.live working)
        (opened_told said (Goes x.live) x (new_edge from link strength) g link opened.going opened.waits (was.turn.makes.numbers ∙ length_peers x.live.edges) (found_old k now ss nodes ice x opened.live).held)
    holds_on (steps.Hears_reply {k = k} x weight count a i e answered) granted ss news nodes ice now =
        let told = answered_told k now ss nodes ice x weight count a i e answered in
        answers k now (hears_reply x i weight count e) _ (work_is k x.live.me x answered.live) told.0 told.1
    holds_on (steps.Backs {k = k} x step from i calling next) granted ss news nodes ice now =
        let told = calling_told k now ss nodes ice calling in
        calls k now k.sessions x i (errands.GoBack step) (drafts.calling_mine E A G Here input said received k calling) told.0 (λ goes j e other at. told.1 goes j e at)
    holds_on (steps.Is_back {k = k} x step from calling none) granted ss news nodes ice now =
        let told = calling_told k now ss nodes ice calling in answers k now x _ (drafts.calling_mine E A G Here input said received k calling) told.0 told.1
    holds_on (steps.Opens_branch {k = k} to parent edge root depth read_at came new) granted ss news nodes ice now =
        begun k now (post (next_child p k) parent (kinds.Opened edge (strength_of p k))) (refl, tt) (fresh_live (next_child p k) root (Some parent) depth (strength_of p k) read_at) refl
    holds_on (steps.Acts {k = k} l b a why) granted ss news nodes ice now = acts_hold k now ss nodes ice a why granted
    holds_on (steps.Drops_told {k = k} l live drops) granted ss news nodes ice now = left k now l.me _ (rolled l)
    holds_on (steps.Drops_asked {k = k} l from live came parent) granted ss news nodes ice now = left k now l.me _ (refl, rolled l)
    holds_on (steps.Does {k = k} s from (nexts.End d) kept why) granted ss news nodes ice now = quiet k now _ (passes_say IsPlain plain_decisions s d)
    holds_on (steps.Does {k = k} s from (nexts.Meet d mixed) kept why) granted ss news nodes ice now = quiet k now _ (passes_say IsPlain plain_decisions s d)
    holds_on (steps.Does {k = k} s from nexts.AckToward kept why) granted ss news nodes ice now = quiet k now _ (one_says IsPlain s.me kinds.Ack s.toward refl)
    holds_on (steps.Does {k = k} s from nexts.Forget kept why) granted ss news nodes ice now = quiet k now _ (each_says IsPlain s.me kinds.Forgotten (map (λ b. b.branch) (beyond s)) refl)
    holds_on (steps.Does {k = k} s from nexts.SayForgotten kept why) granted ss news nodes ice now = quiet k now _ (refl, tt)
    holds_on (steps.Does {k = k} s from nexts.SayAck kept why) granted ss news nodes ice now = quiet k now _ (refl, tt)
    holds_on (steps.Leaves {k = k} n s d x call ends has live) granted ss news nodes ice now = left k now x.live.me _ (rolled x.live)
    holds_on (steps.Sets_savepoint {k = k} n x name call has code live) granted ss news nodes ice now =
        let was : Then [] x.live x.work = stay k now [] tt x.live x.work (found_old k now ss nodes ice x live) in
        put k now [] x.live (marked k.sessions x name).work (work_is k x.live.me x live) tt (record { held = was.held; asked = was.asked })
    holds_on (steps.Gives_up {k = k} n x gives has calls live) granted ss news nodes ice now =
        let was : Old x.live x.work = found_old k now ss nodes ice x live in
        let none : x.live.parent ≡ None = root_alone k ss n x.live.me has x.live (live_so k x.live.me x live) in
        let refused : G x.live.me → ⊥ = λ goes. given_code k.sessions n _ x.live.me has (subst (λ m. (session_at (needs_rollback (with_call k.sessions n pending.NoCall) n (dtx 3 []).code) m).code ≡ None) (ss.roots.each n x.live.me has) (granted.sees x.live.me goes)) in
        put k now [] x.live (gives_up x).work (work_is k x.live.me x live) tt
        (record { held = λ goes i e at. absurd (refused (goes none)); asked = (stay k now [] tt x.live x.work was).asked })
    holds_on (steps.Gives_up_commit {k = k} n b (Some l) gives has calls live) granted ss news nodes ice now = left k now l.me _ (rolled l)
    holds_on {k = k} _ granted ss news nodes ice now = quiet k now [] tt
