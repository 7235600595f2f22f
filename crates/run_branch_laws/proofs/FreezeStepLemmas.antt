-- Each step of a node leaves working branches that asked nobody, and others that were asked: only working branches call.
use Rattle.std.proofs.Common.{◌∷◌, ◌≡◌, ◌≢◌, ℕ, suc, ◌+◌, ◌<◌, ◌≤◌, ◌&&◌, ◌⊎◌, Bool, true, false, List, [], ◌++◌, map, length, Option, Some, None, inl, inr, refl, sym, subst, ◌∙◌, arith}
use Rattle.tran_ids.proofs.BranchLemmas.{equal_from_same}
use Rattle.tran_ids.proofs.ListedLemmas.{item_is, put_found}
use Rattle.link_session.proofs.OnceLemmas.{run_is_new}
use Rattle.commit_forget.specs.declared.next.Next.TheVariants as nexts
use Rattle.session_tree.specs.Live.{children_of, peer_of, new_edge, next_edge, fresh_live}
use Rattle.session_tree.specs.Tree.{step as step_from}
use Rattle.node_rules.specs.Data.{Stmt, Answer, BranchId, Live, Act, Post, Place, Input, Task}
use Rattle.node_rules.specs.declared.work.Errand.{Errand}
use Rattle.node_rules.specs.Data.acts
use Rattle.node_rules.specs.Data.kinds
use Rattle.node_rules.specs.Data.phases
use Rattle.node_rules.specs.Data.stmts
use Rattle.node_rules.specs.declared.session.Session.{Session}
use Rattle.node_rules.specs.declared.session.PendingCall.TheVariants as pending
use Rattle.node_rules.specs.declared.work.Work.{Work}
use Rattle.node_rules.specs.declared.work.Going.{Going}
use Rattle.node_rules.specs.Words.{same, numbered, item_at, put_item, drop_item}
use Rattle.node_rules.specs.Inputs.{Came, IsCall}
use Rattle.node_rules.specs.NodeState.{NodeState, Branch, TurnDraft, live_id, work_id, live_at, branch_at, post, to_one, to_each, no_work}
use Rattle.node_rules.specs.Sessions.{session_at}
use Rattle.node_rules.specs.Names.{passed_on}
use Rattle.node_rules.specs.Statement.{ran}
use Rattle.node_rules.specs.Calls.{with_answer, answer_says, called, exec_to, next_child, strength_of, with_edge, waits_for_opened, hears_reply, nobody_at, branch_ran, less_room, admit}
use Rattle.node_rules.specs.Client.{new_root, fresh_root, gives_up, marked}
use Rattle.node_rules.specs.Prepare.{path_of, prepares, site_neighbors, with_prepare_sent, ready, act_turn}
use Rattle.node_rules.specs.Commit.{beyond}
use Rattle.node_rules.specs.Recovery.{kept_told}
use Rattle.node_rules.proofs.Steps as steps
use Rattle.node_rules.proofs.Steps.{Step, Asked, Acting, Collects, Says, Goes_to, Calls_back}
use Rattle.node_rules.proofs.StandLemmas.{live_so}
use Rattle.run_rules.specs.Births.{Born}
use Rattle.run_base_laws.specs.InTurnLaws.{newest_exec, newest_reply, call_at}
use Rattle.run_base_laws.specs.FreezeLaws.{was_asked}
use Rattle.run_branch_laws.specs.WalkLaws.{OneWay}
use Rattle.run_rules.proofs.ListLemmas.{all_append, map_after}
use Rattle.node_rules.proofs.StepLemmas.{acting_live}
use Rattle.node_rules.specs.LiveBranches.{EachLive, works_of}
use Rattle.node_rules.proofs.LiveLemmas.{each_put, each_changed, each_left, each_begun, each_same, branch_parts, work_is}
use Rattle.node_rules.specs.declared.work.Errand.TheVariants as errands
use Rattle.node_rules.specs.Data.tasks
use Rattle.node_rules.specs.Data.admits
use Rattle.node_rules.specs.Marks.{node_back}
use Rattle.run_base_laws.proofs.RootLemmas.{SessionsFit, root_alone, pends_so, begun_so, counted_so, back_so}
use Rattle.run_base_laws.proofs.NeighborLemmas.{News}
use Rattle.run_base_laws.proofs.NeighborStepLemmas.{begun_news, pends_news, lets_news, acked_news, counted_news, back_news}
use Rattle.run_base_laws.proofs.KindSayLemmas.{AllSay, one_says, each_says, prepares_say, told_says, passes_say, askings_say}
use Rattle.run_base_laws.proofs.CallTurnLemmas.{one_exec, if_zero, silent_other, exec_more, reply_more}
use Rattle.run_base_laws.proofs.InTurnLemmas as turns
use Rattle.run_base_laws.proofs.InTurnLemmas.{IsDumb, dumb_decisions, dumb_execs, peer, none_waits}
use Rattle.run_base_laws.proofs.InTurnStepLemmas as drafts
use Rattle.run_branch_laws.proofs.WalkLemmas.{plain_way, asks_way, unasked_below, unasked_above}
use Rattle.run_branch_laws.proofs.FreezeLemmas.{acting_phase, no_ask, IsPlain, plain_decisions, plain_asks, prepares_ask, asked_split, AskedAnswered, asked_answered, Frozen, stays_frozen, asked_frozen, working_or}

module _ (E : BranchId → Option ℕ) (A : BranchId → Option BranchId) (G Here : BranchId → Type 0) (input : Input) (said : List Post) (received : turns.Received E A G Here input said) where
  abbrev Begun : Live → Work → Type 0
  Begun = turns.Begun E A G Here input said

  abbrev Nodes : NodeState → Type 0
  Nodes k = EachLive Begun k.lives k.works

  -- What is known of a live branch as a turn begins.
  pub record Ice (l : Live) (w : Work) : Type 0 where
    pub frozen : Frozen said l
    pub calls : l.parent ≡ None → (s : Stmt) → IsCall input l.me.session s → l.phase ≡ phases.Working
    pub goes : l.parent ≡ None → w.going ≢ None → l.phase ≡ phases.Working

  abbrev pub Ices : NodeState → Type 0
  Ices k = EachLive Ice k.lives k.works

  abbrev pub Then : List Post → Live → Work → Type 0
  Then says l w = Frozen (said ++ says) l

  -- What is known of a Prepare that came, and of all that were sent.
  pub record Prepared : Type 0 where
    pub came : (from to : BranchId) (site_below : Bool) (comment : List ℕ) → Came input from to (kinds.Prepare site_below comment) → (A to ≡ Some from) × (was_asked said from to ≡ true)
    pub all : AskedAnswered said
    pub one : OneWay said

  -- a branch that asked nobody begins
  abbrev pub Unasking : Born → Type 0
  Unasking x = drafts.NewBorn E A G Here input said received x × ((c : BranchId) → was_asked said x.me c ≡ false)

  -- messages leave it so, and ask in the name of branches that are here
  abbrev pub Asks : List Post → Type 0
  Asks says = AskedAnswered (said ++ says) × ((b c : BranchId) → (Here b → ⊥) → was_asked says b c ≡ false) × OneWay (said ++ says)

  -- what a step leaves
  abbrev pub Freezes : TurnDraft → Type 0
  Freezes d = EachLive (Then d.says) d.after.lives d.after.works × Asks d.says

  module _ (prepared : Prepared) where
    -- one that its parent asked has no call left, and waits for nothing
    rests_asked : (l : Live) (w : Work) (q : BranchId) → Begun l w → l.parent ≡ Some q → was_asked said q l.me ≡ true → w.going ≡ None
    rests_asked l w q was above asked =
        let low : newest_exec said q l.me ≤ newest_reply said l.me = prepared.all q l.me asked in
        let last : newest_reply said l.me ≡ w.came.last_call = omega (arith, low, was.turn.takes.taken q above, was.turn.takes.told) in
        was.turn.takes.rests (λ none. absurd (cc (above, none))) last

    module _ (k : NodeState) (ss : SessionsFit k) (now : Nodes k) (ice : Ices k) where
      found_begun : (x : Branch) → branch_at k x.live.me ≡ Some x → Begun x.live x.work
      found_begun x live = turns.branch_begun E A G Here input said received k now x live

      found_ice : (x : Branch) → branch_at k x.live.me ≡ Some x → Ice x.live x.work
      found_ice x found = let parts = branch_parts k x.live.me x found in subst (Ice x.live) (sym parts.1) (ice.each x.live.me x.live parts.0)

      live_begun : (l : Live) → live_at k l.me ≡ Some l → Begun l (works_of k.works l.me)
      live_begun l live = now.each l.me l live

      live_ice : (l : Live) → live_at k l.me ≡ Some l → Ice l (works_of k.works l.me)
      live_ice l live = ice.each l.me l live

      -- a root is working where its session calls
      pub calls_working : (n : ℕ) (x : Branch) (s : Stmt) → IsCall input n s → (session_at k.sessions n).root ≡ Some x.live.me → branch_at k x.live.me ≡ Some x → x.live.phase ≡ phases.Working
      calls_working n x s call has live =
          (found_ice x live).calls (root_alone k ss n x.live.me has x.live (live_so k x.live.me x live)) s (subst (λ m. IsCall input m s) (sym (ss.roots.each n x.live.me has)) call)

      -- and a branch where it takes a call
      takes_working : (x : Branch) (from : BranchId) (call : ℕ) (task : Task) → Came input from x.live.me (kinds.Exec call task) → branch_at k x.live.me ≡ Some x → admit x.work.came call ≡ admits.Run → x.live.phase ≡ phases.Working
      takes_working x from call task came live runs = elim (working_or x.live.phase) [
        | inl working ↦ working
        | inr other ↦ (let was : Begun x.live x.work = found_begun x live in
            let said_so = received.exec from x.live.me call task came in
            let parent : x.live.parent ≡ Some from = was.above from said_so.0 in
            let low : newest_exec said from x.live.me ≤ newest_reply said x.live.me = prepared.all from x.live.me ((found_ice x live).frozen.asked other from parent) in
            let new : x.work.came.last_call < call = run_is_new x.work.came call runs in
            absurd (omega (arith, new, said_so.1, low, was.turn.takes.told)))
      ]

      -- only a working branch is asked for a statement
      pub asked_works : {x : Branch} {s : Stmt} {given : ℕ} → Asked k input x s given → x.live.phase ≡ phases.Working
      asked_works (steps.By_call n x s call rows has code live may) = calls_working n x s call has live
      asked_works (steps.By_exec x from call given advice s came live runs) = takes_working x from call (tasks.Run given advice s) came live runs

      -- and only a working branch goes back
      pub goes_working : {x : Branch} {step : ℕ} → Goes_to k input x step → x.live.phase ≡ phases.Working
      goes_working (steps.By_rollback_to n x name step call has code live set) = calls_working n x (stmts.RollbackTo name) call has live
      goes_working (steps.By_back x from call keep came live runs) = takes_working x from call (tasks.GoBack keep) came live runs

      goes_frozen : {x : Branch} {step : ℕ} → Goes_to k input x step → Frozen said x.live
      goes_frozen (steps.By_rollback_to n x name step call has code live set) = (found_ice x live).frozen
      goes_frozen (steps.By_back x from call keep came live runs) = (found_ice x live).frozen

      asked_frozen_so : {x : Branch} {s : Stmt} {given : ℕ} → Asked k input x s given → Frozen said x.live
      asked_frozen_so (steps.By_call n x s call rows has code live may) = (found_ice x live).frozen
      asked_frozen_so (steps.By_exec x from call given advice s came live runs) = (found_ice x live).frozen

      -- only a working branch waits
      pub waits_working : (x : Branch) (g : Going) → branch_at k x.live.me ≡ Some x → x.work.going ≡ Some g → x.live.phase ≡ phases.Working
      waits_working x g live going = by x.live.parent refl
        where
          by : (o : Option BranchId) → x.live.parent ≡ o → x.live.phase ≡ phases.Working
          by None none = (found_ice x live).goes none (λ no. absurd (cc (no, going)))
          by (Some q) above = elim (working_or x.live.phase) [
            | inl working ↦ working
            | inr other ↦ (let rests : x.work.going ≡ None = rests_asked x.live x.work q (found_begun x live) above ((found_ice x live).frozen.asked other q above) in absurd (cc (rests, going)))
          ]

      -- ---- what becomes of the others

      stay : (says : List Post) → AllSay IsPlain says → (y : Live) (v : Work) → Ice y v → Then says y v
      stay says plain y v is = stays_frozen said says y.me y.parent y.phase (λ c. plain_asks y.me c says plain) is.frozen

      plain_so : (says : List Post) → AllSay IsPlain says → ((p c : BranchId) → (newest_exec says p c ≡ 0) ⊎ (was_asked said p c ≡ false)) → Asks says
      plain_so says plain execs = (asked_answered said says plain execs prepared.all, (λ b c not. plain_asks b c says plain), plain_way said says plain prepared.one)

      plain_dumb : (says : List Post) → AllSay IsPlain says → AllSay IsDumb says → Asks says
      plain_dumb says plain dumb = plain_so says plain (λ p c. inl (dumb_execs p c says dumb))

      quiet : (says : List Post) → AllSay IsPlain says → AllSay IsDumb says → EachLive (Then says) k.lives k.works × Asks says
      quiet says plain dumb = (each_same Ice (Then says) k.lives k.works ice (λ y v live any is. stay says plain y v is), plain_dumb says plain dumb)

      -- Replies call nobody
      replies_freeze : (says : List Post) → AllSay IsPlain says → ((p c : BranchId) → newest_exec says p c ≡ 0) → EachLive (Then says) k.lives k.works × Asks says
      replies_freeze says plain none = (each_same Ice (Then says) k.lives k.works ice (λ y v live any is. stay says plain y v is), plain_so says plain (λ p c. inl (none p c)))

      left : (b : BranchId) (says : List Post) → AllSay IsPlain says → AllSay IsDumb says → EachLive (Then says) (drop_item live_id k.lives b) (drop_item work_id k.works b) × Asks says
      left b says plain dumb = (each_left Ice (Then says) k.lives k.works ice b (λ y v live other is. stay says plain y v is), plain_dumb says plain dumb)

      -- a branch that goes on with its statement
      put : (says : List Post) (l : Live) (w : Work) → w.branch ≡ l.me → AllSay IsPlain says → ((p c : BranchId) → (newest_exec says p c ≡ 0) ⊎ (was_asked said p c ≡ false)) → Frozen said l
          → EachLive (Then says) (put_item live_id k.lives l) (put_item work_id k.works w) × Asks says
      put says l w mine plain execs frozen = (
        each_put Ice (Then says) k.lives k.works ice l w mine (stays_frozen said says l.me l.parent l.phase (λ c. plain_asks l.me c says plain) frozen) (λ y v live other is. stay says plain y v is),
        plain_so says plain execs,
      )

      answer_plain : (x : Branch) (a : Answer) (o : Option BranchId) → AllSay IsPlain (answer_says x a o)
      answer_plain x a None = tt
      answer_plain x a (Some parent) = (refl, tt)

      answer_execs : (x : Branch) (a : Answer) (o : Option BranchId) (p c : BranchId) → newest_exec (answer_says x a o) p c ≡ 0
      answer_execs x a None p c = refl
      answer_execs x a (Some parent) p c = one_exec x.live.me parent p c (turns.reply_kind E A G Here input said received k now x a) ∙ if_zero (same x.live.me p && same parent c) 0 refl

      answers : (x : Branch) (a : Answer) → x.work.branch ≡ x.live.me → Frozen said x.live
          → EachLive (Then (answer_says x a x.live.parent)) (put_item live_id k.lives x.live) (put_item work_id k.works (with_answer x a).work) × Asks (answer_says x a x.live.parent)
      answers x a mine frozen = put (answer_says x a x.live.parent) x.live (with_answer x a).work mine (answer_plain x a x.live.parent) (λ p c. inl (answer_execs x a x.live.parent p c)) frozen

      exec_plain : (ss : List Session) (x : Branch) (i : ℕ) (e : Errand) (o : Option BranchId) → AllSay IsPlain (exec_to ss x i e o)
      exec_plain ss x i e None = tt
      exec_plain ss x i e (Some c) = (refl, tt)

      exec_other : (ss : List Session) (x : Branch) (i : ℕ) (e : Errand) (o : Option BranchId) (p c : BranchId) → same x.live.me p ≡ false → newest_exec (exec_to ss x i e o) p c ≡ 0
      exec_other ss x i e None p c other = refl
      exec_other ss x i e (Some d) p c other = (silent_other x.live.me d p (turns.exec_kind E A G Here input said received k now ss x i e) other).calls c

      calls : (x : Branch) (i : ℕ) (e : Errand) (ss : List Session) → x.work.branch ≡ x.live.me → Frozen said x.live → x.live.phase ≡ phases.Working
          → EachLive (Then (exec_to ss x i e (peer_of x.live i))) (put_item live_id k.lives x.live) (put_item work_id k.works (called ss x i e).work) × Asks (exec_to ss x i e (peer_of x.live i))
      calls x i e ss mine frozen working =
          put (exec_to ss x i e (peer_of x.live i)) x.live (called ss x i e).work mine (exec_plain ss x i e (peer_of x.live i)) (λ p c. by p c (same x.live.me p) refl) frozen
        where
          by : (p c : BranchId) (q : Bool) → same x.live.me p ≡ q → (newest_exec (exec_to ss x i e (peer_of x.live i)) p c ≡ 0) ⊎ (was_asked said p c ≡ false)
          by p c true is = inr (subst (λ b. was_asked said b c ≡ false) (equal_from_same x.live.me p is) (frozen.working working c))
          by p c false is = inl (exec_other ss x i e (peer_of x.live i) p c is)

      -- ---- acts of the prepare phase

      -- a branch that begins its collect below a root was asked by its parent
      collects_asked : {comment : List ℕ} {site_below : Bool} (l : Live) → live_at k l.me ≡ Some l → Collects k input l comment site_below → (q : BranchId) → l.parent ≡ Some q → was_asked said q l.me ≡ true
      collects_asked l live (steps.By_commit n given call has free writer is) q above = let none : l.parent ≡ None = root_alone k ss n l.me has l live in absurd (cc (none, above))
      collects_asked {comment = comment} l live (steps.By_prepare from site_below came working) q above =
          let so = prepared.came from l.me site_below comment came in
          let parent : l.parent ≡ Some from = (live_begun l live).above from so.0 in
          let it : Some from ≡ Some q = sym parent ∙ above in
          let here : from ≡ q = cc in
          subst (λ b. was_asked said b l.me ≡ true) here so.1

      acting_asked : {l : Live} {site_below : Bool} {a : Act} → Acting k input l site_below a → (q : BranchId) → l.parent ≡ Some q → was_asked said q l.me ≡ true
      acting_asked (steps.Asks_down l comment site_below e es live begins has) = collects_asked l live begins
      acting_asked (steps.Has_no_children l comment site_below a live begins none collected) = collects_asked l live begins
      acting_asked (steps.Hears_abort l from site_below live answers) = (live_ice l live).frozen.asked (λ is. (let at : l.phase ≡ phases.Collecting site_below = answers.collecting in absurd (cc (at, is))))
      acting_asked (steps.Waits_on l from v site_below live answers other some) = (live_ice l live).frozen.asked (λ is. (let at : l.phase ≡ phases.Collecting site_below = answers.collecting in absurd (cc (at, is))))
      acting_asked (steps.Hears_last l from v site_below a live answers other all collected) = (live_ice l live).frozen.asked (λ is. (let at : l.phase ≡ phases.Collecting site_below = answers.collecting in absurd (cc (at, is))))
      acting_asked (steps.At_point l from a live came ready pointed) = (live_ice l live).frozen.asked (λ is. absurd (cc (ready, is)))

      -- a branch that begins its collect has its children's Replies
      module _ (l : Live) (live : live_at k l.me ≡ Some l) (may : l.parent ≡ None → (session_at k.sessions l.me.session).code ≡ None → G l.me) where
        collects_rests : {comment : List ℕ} {site_below : Bool} → Collects k input l comment site_below → ((works_of k.works l.me).going ≡ None) × turns.Goes E A G Here input said l
        collects_rests (steps.By_commit n given call has free writer is) =
            let none : l.parent ≡ None = root_alone k ss n l.me has l live in
            let at : l.me.session ≡ n = ss.roots.each n l.me has in (
              (live_begun l live).idle none (stmts.Commit given) (subst (λ m. IsCall input m (stmts.Commit given)) (sym at) call),
              (λ root. may root (subst (λ m. (session_at k.sessions m).code ≡ None) (sym at) free)),
            )
        collects_rests {comment = comment} (steps.By_prepare from site_below came working) =
            let so = prepared.came from l.me site_below comment came in
            let parent : l.parent ≡ Some from = (live_begun l live).above from so.0 in
            (rests_asked l (works_of k.works l.me) from (live_begun l live) parent so.1, (λ none. absurd (cc (parent, none))))

        kids_answered : {comment : List ℕ} {site_below : Bool} → Collects k input l comment site_below → (i : ℕ) (c : BranchId) → numbered (children_of l) i ≡ Some c → newest_exec said l.me c ≤ newest_reply said c
        kids_answered begins i c at =
            let rest = collects_rests begins in
            let was : Begun l (works_of k.works l.me) = live_begun l live in
            elim (was.turn.makes.heard rest.1 i c at) [
              | inl waits ↦ absurd (none_waits i (works_of k.works l.me).going rest.0 waits)
              | inr heard ↦ (let made : newest_exec said l.me c ≡ call_at (works_of k.works l.me) i = was.turn.makes.made i c at in let it : newest_exec said l.me c ≤ newest_reply said c = omega (arith, made, heard) in it)
            ]

      acting_here : {l : Live} {site_below : Bool} {a : Act} → Acting k input l site_below a → Here l.me
      acting_here why = let live = acting_live why in subst Here (item_is live_id k.lives _ live.0 live.1) (now.each _ live.0 live.1).here

      stays_put : (l : Live) (says : List Post) → AllSay IsPlain says → AllSay IsDumb says → Frozen (said ++ says) l → EachLive (Then says) (put_item live_id k.lives l) k.works × Asks says
      stays_put l says plain dumb frozen = (each_changed Ice (Then says) k.lives k.works ice l frozen (λ y v live other is. stay says plain y v is), plain_dumb says plain dumb)

      -- a branch asks its children once
      asks_first : {l : Live} {site_below : Bool} → Acting k input l site_below acts.AskDown → (c : BranchId) → was_asked said l.me c ≡ false
      asks_first (steps.Asks_down l comment site_below e es live (steps.By_commit n given call has free writer is) has_edges) c =
          (live_ice l live).frozen.working ((live_ice l live).calls (root_alone k ss n l.me has l live) (stmts.Commit given) (subst (λ m. IsCall input m (stmts.Commit given)) (sym (ss.roots.each n l.me has)) call)) c
      asks_first (steps.Asks_down l comment site_below e es live (steps.By_prepare from _ came working) has_edges) c = (live_ice l live).frozen.working working c
      asks_first (steps.Has_no_children l comment site_below _ live begins none collected) c = absurd (no_ask collected)
      asks_first (steps.Hears_last l from v site_below _ live heard other all collected) c = absurd (no_ask collected)
      asks_first (steps.At_point l from _ live came phase pointed) c = elim pointed [ ]

      module _ {l : Live} {site_below : Bool} (why : Acting k input l site_below acts.AskDown) (grants : (item_at live_id (put_item live_id k.lives l) l.me ≡ Some l) → l.parent ≡ None → (session_at k.sessions l.me.session).code ≡ None → G l.me) (here : Here l.me) where
        abbrev says : List Post
        says = prepares l.me l.comment (path_of site_below (step_from l)) 1 l.edges

        asks_no_other : (b c : BranchId) → same l.me b ≡ false → was_asked says b c ≡ false
        asks_no_other b c other = by (was_asked says b c) refl
          where
            by : (q : Bool) → was_asked says b c ≡ q → q ≡ false
            by false is = refl
            by true is = let here : same l.me b ≡ true = (prepares_ask l.me l.comment (path_of site_below (step_from l)) 1 l.edges b c is).0 in absurd (cc (here, other))

        kids_of_why : (i : ℕ) (c : BranchId) → numbered (children_of l) i ≡ Some c → newest_exec said l.me c ≤ newest_reply said c
        kids_of_why = by why (λ root code. grants (put_found live_id k.lives l) root code)
          where
            by : {y : Live} {q : Bool} → Acting k input y q acts.AskDown → (y.parent ≡ None → (session_at k.sessions y.me.session).code ≡ None → G y.me) → (i : ℕ) (c : BranchId) → numbered (children_of y) i ≡ Some c → newest_exec said y.me c ≤ newest_reply said c
            by (steps.Asks_down y comment site_below e es live begins has) may i c at = kids_answered y live may begins i c (subst (λ ps. numbered ps i ≡ Some c) (map_after peer with_prepare_sent peer (λ e. refl) y.edges) at)
            by (steps.Has_no_children y comment site_below _ live begins none collected) may i c at = absurd (no_ask collected)
            by (steps.Hears_last y from v site_below _ live answers other all collected) may i c at = absurd (no_ask collected)
            by (steps.At_point y from _ live came ready pointed) may i c at = elim pointed [ ]

        asks_down : EachLive (Then says) (put_item live_id k.lives l) k.works × Asks says
        asks_down = (
          each_changed Ice (Then says) k.lives k.works ice l (asked_frozen said says l.me l.parent l.phase (acting_phase why) (acting_asked why))
              (λ y v live other is. stays_frozen said says y.me y.parent y.phase (λ c. asks_no_other y.me c other) is.frozen),
          (
            (λ p c is. elim (asked_split said says p c is) [
              | inl old ↦ (let before : newest_exec said p c ≤ newest_reply said c = prepared.all p c old in
                  let none : newest_exec says p c ≡ 0 = dumb_execs p c says (prepares_say IsDumb (λ q comment. (refl, refl)) l.me l.comment (path_of site_below (step_from l)) 1 l.edges) in
                  omega (arith, before, none, exec_more said says p c, reply_more said says c))
              | inr new ↦ (let there = prepares_ask l.me l.comment (path_of site_below (step_from l)) 1 l.edges p c new in
                  let before : newest_exec said p c ≤ newest_reply said c = subst (λ b. newest_exec said b c ≤ newest_reply said c) (equal_from_same l.me p there.0) (kids_of_why (suc there.1.0) c there.1.1) in
                  let none : newest_exec says p c ≡ 0 = dumb_execs p c says (prepares_say IsDumb (λ q comment. (refl, refl)) l.me l.comment (path_of site_below (step_from l)) 1 l.edges) in
                  omega (arith, before, none, exec_more said says p c, reply_more said says c))
            ]),
            (λ b c not. asks_no_other b c (turns.elsewhere E A G Here input said l.me b here not)),
            asks_way l.me l.comment (path_of site_below (step_from l)) E l.edges (drafts.acting_begun E A G Here input said received k now why).kids said (λ c. unasked_below said l.me c (asks_first why c)) (λ c. unasked_above said l.me c (asks_first why c)) prepared.one,
          ),
        )

    -- a branch whose children are to go back is working
    pub calling_working : (k : NodeState) → SessionsFit k → Nodes k → Ices k → {x : Branch} {step from : ℕ} → Calls_back k input x step from → x.live.phase ≡ phases.Working
    calling_working k ss now ice (steps.Has_gone j x step goes is) =
        let fits : SessionsFit (node_back j x step) = subst SessionsFit is ss in goes_working j (record { roots = fits.roots; above = fits.above }) (subst Nodes is now) (subst Ices is ice) goes
    calling_working k ss now ice (steps.Has_heard x weight count a i e g step answered going errand done) = waits_working k ss now ice x g answered.live going

    calling_frozen : (k : NodeState) → SessionsFit k → Nodes k → Ices k → {x : Branch} {step from : ℕ} → Calls_back k input x step from → Frozen said x.live
    calling_frozen k ss now ice (steps.Has_gone j x step goes is) =
        let fits : SessionsFit (node_back j x step) = subst SessionsFit is ss in goes_frozen j (record { roots = fits.roots; above = fits.above }) (subst Nodes is now) (subst Ices is ice) goes
    calling_frozen k ss now ice (steps.Has_heard x weight count a i e g step answered going errand done) = (found_ice k ss now ice x answered.live).frozen

    -- ---- every step

    says_freeze : (k : NodeState) (ss : SessionsFit k) (now : Nodes k) (ice : Ices k) {says : List Post} → Says k input says → EachLive (Then says) k.lives k.works × Asks says
    says_freeze k ss now ice (steps.Gone_replies to from call task came gone) = replies_freeze k ss now ice _ (refl, tt) (λ p c. one_exec to from p c (drafts.refused_kind call) ∙ if_zero (same to p && same from c) 0 refl)
    says_freeze k ss now ice (steps.Replies_again x to call task t came live last kept) =
        replies_freeze k ss now ice _ (refl, tt) (λ p c. one_exec x.live.me to p c (drafts.again_kind x t) ∙ if_zero (same x.live.me p && same to c) 0 refl)
    says_freeze k ss now ice (steps.Tells s from came kept) = quiet k ss now ice _ (told_says IsPlain plain_decisions (kept_told s from), tt) (told_says IsDumb dumb_decisions (kept_told s from), tt)
    says_freeze k ss now ice (steps.Recovers reco) = quiet k ss now ice _ (askings_say IsPlain plain_decisions k) (askings_say IsDumb dumb_decisions k)
    says_freeze k ss now ice (steps.Gone_aborts to from site_below comment came gone) = quiet k ss now ice _ (refl, tt) ((refl, refl), tt)
    says_freeze k ss now ice (steps.Gone_rolls_back to from came gone) = quiet k ss now ice _ (refl, tt) ((refl, refl), tt)
    says_freeze k ss now ice (steps.Gone_acks to from n came gone) = quiet k ss now ice _ (refl, tt) ((refl, refl), tt)
    says_freeze k ss now ice (steps.Gone_forgets to from came gone) = quiet k ss now ice _ (refl, tt) ((refl, refl), tt)
    says_freeze k ss now ice (steps.Opened_again to parent edge root depth read_at o came found) = quiet k ss now ice _ (refl, tt) ((refl, refl), tt)
    says_freeze k ss now ice (steps.Prepared_again s from site_below comment came kept again) = quiet k ss now ice _ (refl, tt) ((refl, refl), tt)
    says_freeze k ss now ice (steps.Knows_commit s from n came kept knows) = quiet k ss now ice _ (refl, tt) ((refl, refl), tt)
    says_freeze k ss now ice (steps.Knows_rollback s from came kept knows) = quiet k ss now ice _ (refl, tt) ((refl, refl), tt)
    says_freeze k ss now ice (steps.Is_in_doubt l from came live other) = quiet k ss now ice _ (refl, tt) ((refl, refl), tt)

    acts_freeze : (k : NodeState) (ss : SessionsFit k) (now : Nodes k) (ice : Ices k) {l : Live} {site_below : Bool} (a : Act) → Acting k input l site_below a → drafts.Granted E A G Here input said received (act_turn k l site_below a) → Freezes (act_turn k l site_below a)
    acts_freeze k ss now ice {l = l} acts.Rest why granted = stays_put k ss now ice l [] tt tt (asked_frozen said [] l.me l.parent l.phase (acting_phase why) (acting_asked k ss now ice why))
    acts_freeze k ss now ice {l = l} acts.AskDown why granted = asks_down k ss now ice why (λ found none code. granted.grants l.me l found none code) (acting_here k ss now ice why)
    acts_freeze k ss now ice {l = l} acts.SayReady why granted =
        stays_put k ss now ice (ready l) _ (one_says IsPlain l.me kinds.Ready l.parent refl) (one_says IsDumb l.me kinds.Ready l.parent (refl, refl))
        (asked_frozen said (to_one l.me kinds.Ready l.parent) l.me l.parent phases.Ready (λ is. absurd cc) (acting_asked k ss now ice why))
    acts_freeze k ss now ice {l = l} acts.SayReadOnly why granted = left k ss now ice l.me _ (one_says IsPlain l.me kinds.ReadOnly l.parent refl) (one_says IsDumb l.me kinds.ReadOnly l.parent (refl, refl))
    acts_freeze k ss now ice {l = l} acts.Seal why granted = left k ss now ice l.me _ (one_says IsPlain l.me kinds.Prepared l.parent refl) (one_says IsDumb l.me kinds.Prepared l.parent (refl, refl))
    acts_freeze k ss now ice {l = l} (acts.SealAndPass i) why granted = left k ss now ice l.me _ (one_says IsPlain l.me kinds.CommitPoint (peer_of l i) refl) (one_says IsDumb l.me kinds.CommitPoint (peer_of l i) (refl, refl))
    acts_freeze k ss now ice {l = l} acts.Decide why granted =
        left k ss now ice l.me _ (each_says IsPlain l.me (kinds.Committed (k.clock + 1)) (site_neighbors l) refl) (each_says IsDumb l.me (kinds.Committed (k.clock + 1)) (site_neighbors l) (refl, refl))
    acts_freeze k ss now ice {l = l} acts.Finish why granted = left k ss now ice l.me [] tt tt
    acts_freeze k ss now ice {l = l} acts.Abandon why granted =
        left k ss now ice l.me _ (all_append (λ x. IsPlain x.kind) (to_one l.me kinds.Abort l.parent) _ (one_says IsPlain l.me kinds.Abort l.parent refl) (each_says IsPlain l.me kinds.Rollback (children_of l) refl))
        (all_append (λ x. IsDumb x.kind) (to_one l.me kinds.Abort l.parent) _ (one_says IsDumb l.me kinds.Abort l.parent (refl, refl)) (each_says IsDumb l.me kinds.Rollback (children_of l) (refl, refl)))

    -- a branch that begins
    pub begun_ice : (l : Live) (w : Work) → l.phase ≡ phases.Working → w.going ≡ None → ((c : BranchId) → was_asked said l.me c ≡ false) → Ice l w
    begun_ice l w working none unasked = record {
      frozen = record { working = λ is. unasked; asked = λ other. absurd (other working) };
      calls = λ root s call. working;
      goes = λ root waits. absurd (waits none);
    }

    -- with the others
    pub begins_ice : (k : NodeState) → Ices k → (l : Live) → l.phase ≡ phases.Working → ((c : BranchId) → was_asked said l.me c ≡ false) → EachLive Ice (k.lives ++ l ∷ []) k.works
    begins_ice k ice l working unasked = each_begun Ice Ice k.lives k.works ice l (begun_ice l (no_work l.me) working refl unasked) (λ y v live any is. is)

    rolled : (l : Live) → AllSay IsPlain (to_each l.me kinds.Rollback (children_of l)) × AllSay IsDumb (to_each l.me kinds.Rollback (children_of l))
    rolled l = (each_says IsPlain l.me kinds.Rollback (children_of l) refl, each_says IsDumb l.me kinds.Rollback (children_of l) (refl, refl))

    module _ (p : Place) (place : (b : BranchId) → b.node ≡ p.number → Here b) where
      pub freezes_on : {k : NodeState} {d : TurnDraft} → Step p input k d → drafts.Granted E A G Here input said received d → SessionsFit k → News Unasking p input k → Nodes k → Ices k → Freezes d
      freezes_on (steps.Begins {k = k} n s read_at call begins range none step) granted ss news now ice =
          let root = news.root n s read_at call begins none in
          freezes_on step granted (begun_so k ss p n read_at) (begun_news Unasking p input k n read_at news)
          (drafts.begins_so E A G Here input said received k now (fresh_root p k (new_root p k n) read_at) refl (place (new_root p k n) refl) root.0)
          (each_begun Ice Ice k.lives k.works ice (fresh_root p k (new_root p k n) read_at) (begun_ice _ (no_work (new_root p k n)) refl refl root.1) (λ y v live any is. is))
      freezes_on (steps.Counts_call {k = k} n s call counts step) granted ss news now ice = freezes_on step granted (counted_so k ss n) (counted_news Unasking p input k n news) now ice
      freezes_on (steps.Goes_back {k = k} x step goes next) granted ss news now ice = freezes_on next granted (back_so k ss x step) (back_news Unasking p input k x step news) now ice
      freezes_on (steps.Pends {k = k} n l given call has live code writer step) granted ss news now ice = freezes_on step granted (pends_so k ss n pending.Commit) (pends_news Unasking p input k n given call news) now ice
      freezes_on (steps.Lets_reads_go {k = k} l comment site_below live begins step) granted ss news now ice = freezes_on step granted (record { roots = ss.roots; above = ss.above }) (lets_news Unasking p input k l.me news) now ice
      freezes_on (steps.Counts_ack {k = k} s from kept came counts step) granted ss news now ice = freezes_on step granted (record { roots = ss.roots; above = ss.above }) (acked_news Unasking p input k _ news) now ice
      freezes_on (steps.Sends {k = k} posts why) granted ss news now ice = says_freeze k ss now ice why
      freezes_on (steps.Runs {k = k} x s given t asked way) granted ss news now ice =
          answers k ss now ice (branch_ran k.sessions x t (ran p k x.live.me s t)) _ (drafts.asked_mine E A G Here input said received k asked) (asked_frozen_so k ss now ice asked)
      freezes_on (steps.Goes_nowhere {k = k} x s given r asked way) granted ss news now ice = answers k ss now ice x _ (drafts.asked_mine E A G Here input said received k asked) (asked_frozen_so k ss now ice asked)
      freezes_on (steps.Calls {k = k} x s given i table asked way) granted ss news now ice =
          calls k ss now ice x i (errands.Statement (passed_on s table) given) k.sessions (drafts.asked_mine E A G Here input said received k asked) (asked_frozen_so k ss now ice asked) (asked_works k ss now ice asked)
      freezes_on (steps.Opens {k = k} x s given node link table asked way) granted ss news now ice =
          let says : List Post = post x.live.me (nobody_at node) (kinds.Open (next_edge x.live) x.live.root (x.live.depth + 1) x.live.read_at) in
          put k ss now ice says x.live (waits_for_opened x link (passed_on s table) given).work (drafts.asked_mine E A G Here input said received k asked) (refl, tt) (λ p c. inl (dumb_execs p c says ((refl, refl), tt))) (asked_frozen_so k ss now ice asked)
      freezes_on (steps.Goes_on {k = k} x from strength g link opened) granted ss news now ice =
          calls k ss now ice (with_edge x (new_edge from link strength)) (length x.live.edges + 1) (less_room g.errand) k.sessions (work_is k x.live.me x opened.live)
          (found_ice k ss now ice x opened.live).frozen (waits_working k ss now ice x g opened.live opened.going)
      freezes_on (steps.Hears_reply {k = k} x weight count a i e answered) granted ss news now ice =
          answers k ss now ice (hears_reply x i weight count e) _ (work_is k x.live.me x answered.live) (found_ice k ss now ice x answered.live).frozen
      freezes_on (steps.Backs {k = k} x step from i calling next) granted ss news now ice =
          calls k ss now ice x i (errands.GoBack step) k.sessions (drafts.calling_mine E A G Here input said received k calling) (calling_frozen k ss now ice calling) (calling_working k ss now ice calling)
      freezes_on (steps.Is_back {k = k} x step from calling none) granted ss news now ice =
          answers k ss now ice x _ (drafts.calling_mine E A G Here input said received k calling) (calling_frozen k ss now ice calling)
      freezes_on (steps.Opens_branch {k = k} to parent edge root depth read_at came new) granted ss news now ice =
          let says : List Post = post (next_child p k) parent (kinds.Opened edge (strength_of p k)) in
          let l : Live = fresh_live (next_child p k) root (Some parent) depth (strength_of p k) read_at in (
            each_begun Ice (Then says) k.lives k.works ice l (stay k ss now ice says (refl, tt) l (no_work (next_child p k)) (begun_ice l (no_work (next_child p k)) refl refl (news.child to parent edge root depth read_at came new).1))
                (λ y v live any is. stay k ss now ice says (refl, tt) y v is),
            plain_dumb k ss now ice says (refl, tt) ((refl, refl), tt),
          )
      freezes_on (steps.Acts {k = k} l site_below a why) granted ss news now ice = acts_freeze k ss now ice a why granted
      freezes_on (steps.Drops_told {k = k} l live drops) granted ss news now ice = left k ss now ice l.me _ (rolled l).0 (rolled l).1
      freezes_on (steps.Drops_asked {k = k} l from live came parent) granted ss news now ice = left k ss now ice l.me _ (refl, (rolled l).0) ((refl, refl), (rolled l).1)
      freezes_on (steps.Does {k = k} s from (nexts.End d) kept why) granted ss news now ice = quiet k ss now ice _ (passes_say IsPlain plain_decisions s d) (passes_say IsDumb dumb_decisions s d)
      freezes_on (steps.Does {k = k} s from (nexts.Meet d mixed) kept why) granted ss news now ice = quiet k ss now ice _ (passes_say IsPlain plain_decisions s d) (passes_say IsDumb dumb_decisions s d)
      freezes_on (steps.Does {k = k} s from nexts.AckToward kept why) granted ss news now ice = quiet k ss now ice _ (one_says IsPlain s.me kinds.Ack s.toward refl) (one_says IsDumb s.me kinds.Ack s.toward (refl, refl))
      freezes_on (steps.Does {k = k} s from nexts.Forget kept why) granted ss news now ice =
          quiet k ss now ice _ (each_says IsPlain s.me kinds.Forgotten (map (λ b. b.branch) (beyond s)) refl) (each_says IsDumb s.me kinds.Forgotten (map (λ b. b.branch) (beyond s)) (refl, refl))
      freezes_on (steps.Does {k = k} s from nexts.SayForgotten kept why) granted ss news now ice = quiet k ss now ice _ (refl, tt) ((refl, refl), tt)
      freezes_on (steps.Does {k = k} s from nexts.SayAck kept why) granted ss news now ice = quiet k ss now ice _ (refl, tt) ((refl, refl), tt)
      freezes_on (steps.Leaves {k = k} n s d x call ends has live) granted ss news now ice = left k ss now ice x.live.me _ (rolled x.live).0 (rolled x.live).1
      freezes_on (steps.Sets_savepoint {k = k} n x name call has code live) granted ss news now ice =
          put k ss now ice [] x.live (marked k.sessions x name).work (work_is k x.live.me x live) tt (λ p c. inl refl) (found_ice k ss now ice x live).frozen
      freezes_on (steps.Gives_up {k = k} n x gives has calls live) granted ss news now ice =
          put k ss now ice [] x.live (gives_up x).work (work_is k x.live.me x live) tt (λ p c. inl refl) (found_ice k ss now ice x live).frozen
      freezes_on (steps.Gives_up_commit {k = k} n b (Some l) gives has calls live) granted ss news now ice = left k ss now ice l.me _ (rolled l).0 (rolled l).1
      freezes_on {k = k} _ granted ss news now ice = quiet k ss now ice [] tt tt
