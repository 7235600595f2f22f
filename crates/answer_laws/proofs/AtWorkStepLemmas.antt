-- Each step of a node leaves its live branches at work on what they sent down last.
use Rattle.std.proofs.Common.{Option, ◌≤◌, ◌≡◌, ℕ, suc, ◌+◌, Bool, List, [], ◌∷◌, ◌++◌, map, length, Some, None, inl, inr, refl, sym, ap, subst, ◌∙◌, arith}
use Rattle.std.proofs.lemmas.Bool.{cond_both}
use Rattle.std.proofs.lemmas.List.{length-append}
use Rattle.tran_ids.proofs.ListedLemmas.{item_is}
use Rattle.commit_forget.specs.declared.next.Next.TheVariants as nexts
use Rattle.session_tree.specs.Live.{children_of, peer_of, fresh_live, new_edge, edge_at}
use Rattle.session_tree.specs.Tree.{step as step_from}
use Rattle.node_rules.specs.Data.{Act, Answer, BranchId, Edge, Input, Live, Place, Post, Stmt, Vote}
use Rattle.node_rules.specs.declared.work.Going.{Going}
use Rattle.node_rules.specs.declared.work.Errand.TheVariants as errands
use Rattle.node_rules.specs.declared.session.Session.{Session}
use Rattle.node_rules.specs.Data.acts
use Rattle.node_rules.specs.Data.answers
use Rattle.node_rules.specs.Data.dones
use Rattle.node_rules.specs.Data.inputs
use Rattle.node_rules.specs.Data.kinds
use Rattle.node_rules.specs.declared.session.PendingCall.TheVariants as pending
use Rattle.node_rules.specs.Data.stmts
use Rattle.node_rules.specs.Words.{numbered, set_numbered, put_item, drop_item}
use Rattle.node_rules.specs.Inputs.{IsCall, IsSession}
use Rattle.node_rules.specs.Refusals.{dtx}
use Rattle.node_rules.specs.NodeState.{NodeState, Branch, TurnDraft, live_id, work_id, post, to_one, to_each}
use Rattle.node_rules.specs.LiveBranches.{works_of}
use Rattle.node_rules.specs.Sessions.{session_at, with_call, needs_rollback, no_transaction}
use Rattle.node_rules.specs.Statement.{ran, answer_of_run}
use Rattle.node_rules.specs.Names.{passed_on}
use Rattle.node_rules.specs.Calls.{branch_ran, calls_over, less_room, heard_sessions, heard_answer, hears_reply, next_child, strength_of, with_edge}
use Rattle.node_rules.specs.Client.{new_root, fresh_root, begun_by, counted, marked, gives_up}
use Rattle.node_rules.specs.Commit.{beyond}
use Rattle.node_rules.specs.Prepare.{path_of, site_neighbors, has_voted, with_prepare_sent, ready, answers_first, act_turn, is_alone}
use Rattle.node_rules.proofs.LiveLemmas.{each_begun, each_put, each_same, branch_parts, work_is}
use Rattle.node_rules.proofs.StandLemmas.{call_set, session_set}
use Rattle.node_rules.proofs.StepLemmas.{acting_so}
use Rattle.node_rules.proofs.Steps as steps
use Rattle.node_rules.proofs.Steps.{Step, Acting, Asked, Goes_to, Calls_back}
use Rattle.run_rules.proofs.AtNodeLemmas.{item_there}
use Rattle.run_rules.proofs.ListLemmas.{all_append, map_after}
use Rattle.run_base_laws.proofs.InTurnLemmas.{peer, numbered_last}
use Rattle.run_base_laws.proofs.KindSayLemmas.{AllSay, one_says, each_says, prepares_say, passes_say}
use Rattle.run_base_laws.proofs.RootLemmas.{SessionsFit, session_or_before, counted_session, begun_so, counted_so, back_so, pends_so}
use Rattle.run_base_laws.proofs.BeginLemmas.{MayBegin, may_begin}
use Rattle.tran_ids.proofs.NumberedLemmas.{set_length}
use Rattle.run_ready_laws.proofs.CallEndLemmas.{heard_root}
use Rattle.answer_origin_laws.proofs.LineLemmas.{goes_over}
use Rattle.answer_laws.proofs.AtWorkLemmas.{IsSentLast, IsAtWork, IsPlaced, sent_more, edge_there, back_there, NoneMore, set_none_more, ended_none_more, ended_if_none_more, decided_none_more, abandoned_none_more, heard_none_more, AllAtWork, Left, DownFrom, level_from, calm, left, changed, rests, begins as begins_below, branch_placed, answered_left, opens_left, calls_left, calls_from}
use Rattle.answer_laws.proofs.SentDownLemmas.{IsLevel, level_decisions, answer_level, says_level}

rolls : (l : Live) → AllSay IsLevel (to_each l.me kinds.Rollback (children_of l))
rolls l = each_says IsLevel l.me kinds.Rollback (children_of l) refl

collected_peers : (es : List Edge) → map peer (map with_prepare_sent es) ≡ map peer es
collected_peers es = map_after peer with_prepare_sent peer (λ e. refl) es

voted_peers : (from : BranchId) (v : Vote) (es : List Edge) → map peer (map (has_voted from v) es) ≡ map peer es
voted_peers from v es = map_after peer (has_voted from v) peer (λ e. cond_both (answers_first from e) (record e { vote = v }) e (λ y. y.peer ≡ e.peer) (λ here. refl) (λ other. refl)) es

module _ (p : Place) (input : Input) (said : List Post) where
  -- as a turn begins
  abbrev pub AtWork : NodeState → Type 0
  AtWork k = AllAtWork p.number said k.sessions k.lives k.works

  -- and what its draft leaves
  abbrev pub Leaves : TurnDraft → Type 0
  Leaves d = Left p.number said d.says d.after.sessions d.after.lives d.after.works × DownFrom p.number said d.says

  -- a statement that may begin a transaction comes to a session without a call
  abbrev pub IsFree : NodeState → Type 0
  IsFree k = (n : ℕ) (s : Stmt) → IsCall input n s → MayBegin s → (session_at k.sessions n).call ≡ pending.NoCall

  module _ (k : NodeState) (now : AtWork k) where
    calmly : (says : List Post) → AllSay IsLevel says → (zs : List Session) → NoneMore k.sessions zs → Left p.number said says zs k.lives k.works × DownFrom p.number said says
    calmly says level zs fewer = (calm p.number said k now says level zs fewer, level_from p.number said says level)

    same : NoneMore k.sessions k.sessions
    same m is = is

    -- ---- acts of the prepare phase

    acting_work : {l : Live} {q : Bool} {a : Act} → Acting k input l q a → IsAtWork said k.sessions l (works_of k.works l.me)
    acting_work why =
        acting_so (λ l. IsAtWork said k.sessions l (works_of k.works l.me))
        (λ l comment q is. record { sent = λ g going. subst (λ ps. IsSentLast said l.me ps (works_of k.works l.me) g.errand g.waits) (sym (collected_peers l.edges)) (is.sent g going); works = is.works })
        (λ l from v is. record { sent = λ g going. subst (λ ps. IsSentLast said l.me ps (works_of k.works l.me) g.errand g.waits) (sym (voted_peers from v l.edges)) (is.sent g going); works = is.works })
        (λ b l found. subst (λ c. IsAtWork said k.sessions l (works_of k.works c)) (sym (item_is live_id k.lives b l found)) (now.each b l found).1) why

    goes : (says : List Post) → AllSay IsLevel says → (zs : List Session) → NoneMore k.sessions zs → (l : Live) → Left p.number said says zs (drop_item live_id k.lives l.me) (drop_item work_id k.works l.me) × DownFrom p.number said says
    goes says level zs fewer l = (left p.number said k now says level zs fewer l.me, level_from p.number said says level)

    stays : (says : List Post) → AllSay IsLevel says → (l : Live) → IsAtWork said k.sessions l (works_of k.works l.me) → Left p.number said says k.sessions (put_item live_id k.lives l) k.works × DownFrom p.number said says
    stays says level l is = (changed p.number said k now says level k.sessions same l is, level_from p.number said says level)

    acts_leave : (l : Live) (q : Bool) (a : Act) → IsAtWork said k.sessions l (works_of k.works l.me) → Leaves (act_turn k l q a)
    acts_leave l q acts.Rest is = stays [] tt l is
    acts_leave l q acts.AskDown is = stays _ (prepares_say IsLevel (λ b comment. refl) l.me l.comment (path_of q (step_from l)) 1 l.edges) l is
    acts_leave l q acts.SayReady is = stays _ (one_says IsLevel l.me kinds.Ready l.parent refl) (ready l) (record { sent = is.sent; works = is.works })
    acts_leave l q acts.SayReadOnly is = goes _ (one_says IsLevel l.me kinds.ReadOnly l.parent refl) k.sessions same l
    acts_leave l q acts.Seal is = goes _ (one_says IsLevel l.me kinds.Prepared l.parent refl) k.sessions same l
    acts_leave l q (acts.SealAndPass i) is = goes _ (one_says IsLevel l.me kinds.CommitPoint (peer_of l i) refl) k.sessions same l
    acts_leave l q acts.Decide is = goes _ (each_says IsLevel l.me (kinds.Committed (k.clock + 1)) (site_neighbors l) refl) _ (ended_if_none_more k.sessions (is_alone l) l.me) l
    acts_leave l q acts.Finish is = goes [] tt _ (ended_none_more k.sessions l.me) l
    acts_leave l q acts.Abandon is = goes _ (all_append (λ x. IsLevel x.kind) (to_one l.me kinds.Abort l.parent) _ (one_says IsLevel l.me kinds.Abort l.parent refl) (rolls l)) _ (abandoned_none_more k.sessions l l.parent) l

    -- ---- statements

    asked_placed : {x : Branch} {s : Stmt} {given : ℕ} → Asked k input x s given → (x.work.branch ≡ x.live.me) × IsPlaced p.number k.sessions x.live x.work
    asked_placed (steps.By_call n x s call rows has code live may) = (work_is k x.live.me x live, branch_placed p.number said k now x live)
    asked_placed (steps.By_exec x from call given advice s came live runs) =
        (let is = branch_placed p.number said k now x live in (work_is k x.live.me x live, record { root = is.root; node_is = is.node_is; numbers = is.numbers }))

    -- a branch that goes back
    goes_placed : {x : Branch} {step : ℕ} → Goes_to k input x step → (x.work.branch ≡ x.live.me) × IsPlaced p.number k.sessions x.live x.work
    goes_placed (steps.By_rollback_to n x name _ call has code live set) = (work_is k x.live.me x live, branch_placed p.number said k now x live)
    goes_placed (steps.By_back x from call keep came live runs) =
        (let is = branch_placed p.number said k now x live in (work_is k x.live.me x live, record { root = is.root; node_is = is.node_is; numbers = is.numbers }))

    -- one that heard that a child went back
    heard_placed : (x : Branch) (weight : Option ℕ) (count : ℕ) (a : Answer) (i : ℕ) (e : Edge) → steps.Is_answered k input x weight count a i e
        → (x.work.branch ≡ x.live.me) × IsPlaced p.number k.sessions (hears_reply x i weight count e).live x.work
    heard_placed x weight count a i e answered =
        (let is = branch_placed p.number said k now x answered.live in (
          work_is k x.live.me x answered.live,
          record { root = is.root; node_is = is.node_is; numbers = is.numbers ∙ sym (set_length x.live.edges i (record e { weight = weight; count = count })) },
        ))

    -- the calls of a session's transaction are counted
    counts : (n : ℕ) → AtWork (counted k n)
    counts n =
        each_same _ _ k.lives k.works now (λ y v live any was. (
          record { root = λ root. ap (λ z. z.root) (counted_session k.sessions n y.me.session (session_at k.sessions n).root).1 ∙ was.0.root root; node_is = was.0.node_is; numbers = was.0.numbers },
          record { sent = was.1.sent; works = λ root pends. was.1.works root (ap (λ z. z.call) (sym (counted_session k.sessions n y.me.session (session_at k.sessions n).root).1) ∙ pends) },
        ))

    -- a root begins
    begins : SessionsFit k → (n : ℕ) (read_at : Option ℕ) → IsSession n → (session_at k.sessions n).root ≡ None → (session_at k.sessions n).call ≡ pending.NoCall → AtWork (begun_by p k n read_at None)
    begins fit n read_at range none free =
        let s : Session = record (session_at k.sessions n) { seq = (new_root p k n).seq; root = Some (new_root p k n); calls = 0 } in
        let there = item_there k.sessions n range.0 (omega (arith, range.1, fit.roots.many)) in
        let set : session_at (set_numbered k.sessions n s) n ≡ s = session_set k.sessions n there.0 s there.1 in
        each_begun _ _ k.lives k.works now (fresh_root p k (new_root p k n) read_at) (
          record { root = λ root. ap (λ z. z.root) set; node_is = refl; numbers = refl },
          record { sent = λ g going. absurd cc; works = λ root pends. absurd (let is : (session_at k.sessions n).call ≡ pending.Statement = ap (λ z. z.call) (sym set) ∙ pends in cc (is, free)) },
        )
        (λ y v live any was. (
          record {
            root = λ root. elim (session_or_before k.sessions n y.me.session s) [
              | inl still ↦ ap (λ z. z.root) still ∙ was.0.root root
              | inr new ↦ absurd (let has : (session_at k.sessions n).root ≡ Some y.me = subst (λ i. (session_at k.sessions i).root ≡ Some y.me) (sym new.0) (was.0.root root) in cc (has, none))
            ];
            node_is = was.0.node_is;
            numbers = was.0.numbers;
          },
          record { sent = was.1.sent; works = λ root pends. was.1.works root (set_none_more k.sessions n s (λ is. is) y.me.session pends) },
        ))

    -- COMMIT pends
    pends : (n : ℕ) → AtWork (record k { sessions = with_call k.sessions n pending.Commit })
    pends n =
        let s : Session = record (session_at k.sessions n) { call = pending.Commit } in
        each_same _ _ k.lives k.works now (λ y v live any was. (
          record {
            root = λ root. elim (session_or_before k.sessions n y.me.session s) [
              | inl still ↦ ap (λ z. z.root) still ∙ was.0.root root
              | inr new ↦ ap (λ z. z.root) new.1 ∙ subst (λ i. (session_at k.sessions i).root ≡ Some y.me) (sym new.0) (was.0.root root)
            ];
            node_is = was.0.node_is;
            numbers = was.0.numbers;
          },
          record { sent = was.1.sent; works = λ root waits. was.1.works root (set_none_more k.sessions n s (λ is. absurd cc) y.me.session waits) },
        ))

    -- an Opened comes, and the statement goes on over the new edge
    goes_on : (x : Branch) (from : BranchId) (strength : ℕ) (g : Going) (link : List ℕ) → steps.Is_opened k input x from strength g link
        → Leaves (calls_over k (with_edge x (new_edge from link strength)) (length x.live.edges + 1) (less_room g.errand))
    goes_on x from strength g link opened =
        let y : Branch = with_edge x (new_edge from link strength) in
        let i : ℕ = length x.live.edges + 1 in
        let is = branch_placed p.number said k now x opened.live in
        let placed : IsPlaced p.number k.sessions y.live y.work = record {
          root = is.root;
          node_is = is.node_is;
          numbers = length-append x.work.calls (0 ∷ []) ∙ (ap (λ n. n + 1) is.numbers ∙ sym (length-append x.live.edges (new_edge from link strength ∷ [])));
        } in
        let last : edge_at y.live i ≡ Some (new_edge from link strength) = subst (λ n. numbered y.live.edges n ≡ Some (new_edge from link strength)) (let it : suc (length x.live.edges) ≡ i = omega arith in it) (numbered_last x.live.edges (new_edge from link strength)) in (
          calls_left p.number said k now y (work_is k x.live.me x opened.live) placed i (less_room g.errand) (new_edge from link strength) last,
          calls_from p.number said k now y (work_is k x.live.me x opened.live) placed i (less_room g.errand) (new_edge from link strength) last,
        )

  -- ---- a branch whose children are to go back

  -- What is known of it, and that it calls the children from a number on.
  record Calling (k : NodeState) (x : Branch) (from : ℕ) : Type 0 where
    mine : x.work.branch ≡ x.live.me
    placed : IsPlaced p.number k.sessions x.live x.work
    some : 1 ≤ from

  calling_so : {k : NodeState} → AtWork k → {x : Branch} {step from : ℕ} → Calls_back k input x step from → Calling k x from
  calling_so {k = k} now (steps.Has_gone j x step goes is) =
      let so = goes_placed j (subst AtWork is now) goes in record {
        mine = so.0;
        placed = record { root = λ root. ap (λ (i : NodeState). (session_at i.sessions x.live.me.session).root) is ∙ so.1.root root; node_is = so.1.node_is; numbers = so.1.numbers };
        some = omega arith;
      }
  calling_so {k = k} now (steps.Has_heard x weight count a i e g step answered going errand plain) = let so = heard_placed k now x weight count a i e answered in record { mine = so.0; placed = so.1; some = omega arith }

  -- ---- every step

  pub works_on : {k : NodeState} {d : TurnDraft} → Step p input k d → SessionsFit k → IsFree k → AtWork k → Leaves d
  works_on (steps.Begins {k = k} n s read_at call begins_it range none step) fit free now =
      works_on step (begun_so k fit p n read_at)
      (λ m q is its_begin. elim (session_or_before k.sessions n m (record (session_at k.sessions n) { seq = (new_root p k n).seq; root = Some (new_root p k n); calls = 0 })) [
        | inl still ↦ ap (λ z. z.call) still ∙ free m q is its_begin
        | inr new ↦ ap (λ z. z.call) new.1 ∙ free n s call (may_begin begins_it)
      ]) (begins k now fit n read_at range none (free n s call (may_begin begins_it)))
  works_on (steps.Counts_call {k = k} n s call counted_so_far step) fit free now =
      works_on step (counted_so k fit n) (λ m q is begins_it. ap (λ z. z.call) (counted_session k.sessions n m (session_at k.sessions n).root).1 ∙ free m q is begins_it) (counts k now n)
  works_on (steps.Goes_back {k = k} x step goes_it next) fit free now = works_on next (back_so k fit x step) free now
  works_on (steps.Pends {k = k} n l given call has live code writer step) fit free now =
      works_on step (pends_so k fit n pending.Commit) (λ m q is begins_it. absurd (let both : inputs.Call n (Some (stmts.Commit given)) ≡ inputs.Call m (Some q) = sym call ∙ is in let one : q ≡ stmts.Commit given = cc in subst MayBegin one begins_it)) (pends k now n)
  works_on (steps.Lets_reads_go l comment q live begins_it step) fit free now = works_on step (record { roots = fit.roots; above = fit.above }) free now
  works_on (steps.Counts_ack s from kept came counts step) fit free now = works_on step (record { roots = fit.roots; above = fit.above }) free now
  works_on (steps.Sends {k = k} posts why) fit free now = calmly k now posts (says_level why) k.sessions (λ m is. is)
  works_on (steps.Runs {k = k} x s given t asked way) fit free now =
      let z : Branch = branch_ran k.sessions x t (ran p k x.live.me s t) in
      let is = asked_placed k now asked in (
        answered_left p.number said k now k.sessions (λ m it. it) z (answer_of_run (ran p k x.live.me s t)) is.0 is.1.root,
        level_from p.number said _ (answer_level z (answer_of_run (ran p k x.live.me s t)) x.live.parent),
      )
  works_on (steps.Goes_nowhere {k = k} x s given r asked way) fit free now =
      let is = asked_placed k now asked in (answered_left p.number said k now k.sessions (λ m it. it) x (answers.Refused r) is.0 is.1.root, level_from p.number said _ (answer_level x (answers.Refused r) x.live.parent))
  works_on (steps.Calls {k = k} x s given i table asked way) fit free now =
      let is = asked_placed k now asked in
      let over = goes_over p k.stored.durable x.live given s i table way in
      let e = edge_there x.live over.link i over.edge in
      (calls_left p.number said k now x is.0 is.1 i (errands.Statement (passed_on s table) given) e.0 e.1, calls_from p.number said k now x is.0 is.1 i (errands.Statement (passed_on s table) given) e.0 e.1)
  works_on (steps.Opens {k = k} x s given node link table asked way) fit free now =
      let is = asked_placed k now asked in (opens_left p.number said k now x is.0 is.1 node link (passed_on s table) given, ((λ down. is.1.node_is), tt))
  works_on (steps.Goes_on {k = k} x from strength g link opened) fit free now = goes_on k now x from strength g link opened
  works_on (steps.Hears_reply {k = k} x weight count a i e answered) fit free now =
      let y : Branch = hears_reply x i weight count e in
      let is = branch_placed p.number said k now x answered.live in (
        answered_left p.number said k now (heard_sessions k.sessions y.live a) (heard_none_more k.sessions y.live a) y (heard_answer y.live e.link a) (work_is k x.live.me x answered.live) (λ root. heard_root k.sessions y.live a (is.root root)),
        level_from p.number said _ (answer_level y (heard_answer y.live e.link a) x.live.parent),
      )
  works_on (steps.Backs {k = k} x step from i calls next) fit free now =
      let so = calling_so now calls in
      let e = back_there x.work x.live step from i so.placed.numbers so.some next in
      (calls_left p.number said k now x so.mine so.placed i (errands.GoBack step) e.0 e.1, calls_from p.number said k now x so.mine so.placed i (errands.GoBack step) e.0 e.1)
  works_on (steps.Is_back {k = k} x step from calls none) fit free now =
      let so = calling_so now calls in
      (answered_left p.number said k now k.sessions (λ m it. it) x (answers.Did dones.RolledBack 0) so.mine so.placed.root, level_from p.number said _ (answer_level x (answers.Did dones.RolledBack 0) x.live.parent))
  works_on (steps.Opens_branch {k = k} to parent edge root depth read_at came new) fit free now =
      let l : Live = fresh_live (next_child p k) root (Some parent) depth (strength_of p k) read_at in
      let says : List Post = post (next_child p k) parent (kinds.Opened edge (strength_of p k)) in
      (begins_below p.number said k now says (refl, tt) k.sessions (λ m is. is) l (λ none. absurd cc), level_from p.number said says (refl, tt))
  works_on (steps.Acts {k = k} l q a why) fit free now = acts_leave k now l q a (acting_work k now why)
  works_on (steps.Drops_told {k = k} l live drops) fit free now = goes k now _ (rolls l) k.sessions (λ m is. is) l
  works_on (steps.Drops_asked {k = k} l from live came parent) fit free now = goes k now (post l.me from kinds.RolledBack ++ to_each l.me kinds.Rollback (children_of l)) (refl, rolls l) k.sessions (λ m is. is) l
  works_on (steps.Does {k = k} s from (nexts.End d) kept why) fit free now = calmly k now _ (passes_say IsLevel level_decisions s d) _ (decided_none_more k.sessions s.me d)
  works_on (steps.Does {k = k} s from (nexts.Meet d mixed) kept why) fit free now = calmly k now _ (passes_say IsLevel level_decisions s d) _ (decided_none_more k.sessions s.me d)
  works_on (steps.Does {k = k} s from nexts.AckToward kept why) fit free now = calmly k now _ (one_says IsLevel s.me kinds.Ack s.toward refl) k.sessions (λ m is. is)
  works_on (steps.Does {k = k} s from nexts.Forget kept why) fit free now = calmly k now _ (each_says IsLevel s.me kinds.Forgotten (map (λ b. b.branch) (beyond s)) refl) _ (ended_none_more k.sessions s.me)
  works_on (steps.Does {k = k} s from nexts.SayForgotten kept why) fit free now = calmly k now (post s.me from kinds.Forgotten) (refl, tt) k.sessions (λ m is. is)
  works_on (steps.Does {k = k} s from nexts.SayAck kept why) fit free now = calmly k now (post s.me from kinds.Ack) (refl, tt) k.sessions (λ m is. is)
  works_on (steps.Does {k = k} s from nexts.Rest kept why) fit free now = calmly k now [] tt k.sessions (λ m is. is)
  works_on (steps.Forces_given {k = k} n id m b call named) fit free now = calmly k now [] tt _ (ended_none_more k.sessions b)
  works_on (steps.Forces_commit {k = k} n id b call named) fit free now = calmly k now [] tt _ (ended_none_more k.sessions b)
  works_on (steps.Forces_rollback {k = k} n id b call named) fit free now = calmly k now [] tt _ (ended_none_more k.sessions b)
  works_on (steps.Leaves {k = k} n s d x call ends has live) fit free now = goes k now _ (rolls x.live) _ (set_none_more k.sessions n (no_transaction (session_at k.sessions n)) (λ is. absurd cc)) x.live
  works_on (steps.Sets_read_only {k = k} n call) fit free now = calmly k now [] tt k.sessions (λ m is. is)
  works_on (steps.Sets_savepoint {k = k} n x name call has code live) fit free now =
      let parts = branch_parts k x.live.me x live in
      let was : IsAtWork said k.sessions x.live x.work = subst (IsAtWork said k.sessions x.live) (sym parts.1) (now.each x.live.me x.live parts.0).1 in (
        each_put _ _ k.lives k.works now x.live (marked k.sessions x name).work (work_is k x.live.me x live)
            (record { sent = λ g going. sent_more said [] x.live.me (children_of x.live) (marked k.sessions x name).work tt g.errand g.waits (was.sent g going); works = was.works })
            (λ y v live other is. record { sent = λ g going. sent_more said [] y.me (children_of y) v tt g.errand g.waits (is.1.sent g going); works = is.1.works }),
        tt,
      )
  works_on (steps.Images {k = k} checkpoint) fit free now = calmly k now [] tt k.sessions (λ m is. is)
  works_on (steps.Gives_up {k = k} n x gives has calls live) fit free now =
      let freed : List Session = with_call k.sessions n pending.NoCall in
      let noted : Session = record (session_at freed n) { code = Some (dtx 3 []).code } in
      let none : (session_at freed n).call ≡ pending.NoCall = ap (λ z. z.call) (call_set k.sessions n x.live.me pending.NoCall has) in
      let still_none : (session_at (needs_rollback freed n (dtx 3 []).code) n).call ≡ pending.NoCall = elim (session_or_before freed n n noted) [ inl same_one ↦ ap (λ z. z.call) same_one ∙ none | inr new ↦ ap (λ z. z.call) new.1 ∙ none ] in
      let fewer : NoneMore k.sessions (needs_rollback freed n (dtx 3 []).code)
      = λ m is. set_none_more k.sessions n (record (session_at k.sessions n) { call = pending.NoCall }) (λ no. absurd cc) m (set_none_more freed n noted (λ it. it) m is) in (
        rests p.number said k now [] tt (needs_rollback freed n (dtx 3 []).code) fewer x.live (gives_up x).work (work_is k x.live.me x live) refl
            (λ root. subst (λ i. (session_at (needs_rollback freed n (dtx 3 []).code) i).call ≡ pending.NoCall) (sym (fit.roots.each n x.live.me has)) still_none),
        tt,
      )
  works_on (steps.Gives_up_commit {k = k} n b (Some l) gives has calls live) fit free now = goes k now _ (rolls l) _ (ended_none_more k.sessions l.me) l
  works_on (steps.Gives_up_commit {k = k} n b None gives has calls live) fit free now = calmly k now [] tt _ (ended_none_more k.sessions b)
  works_on (steps.Advises {k = k} n a call) fit free now = calmly k now [] tt _ (set_none_more k.sessions n (record (session_at k.sessions n) { advice = a }) (λ is. is))
  works_on (steps.Rests {k = k}) fit free now = calmly k now [] tt k.sessions (λ m is. is)
  works_on (steps.Refuses {k = k} n s r is) fit free now = calmly k now [] tt k.sessions (λ m it. it)
  works_on (steps.Completes_at_once {k = k} n s d call completes none) fit free now = calmly k now [] tt k.sessions (λ m is. is)
  works_on (steps.Makes_record {k = k} n s r d call makes) fit free now = calmly k now [] tt k.sessions (λ m is. is)
  works_on (steps.Hides {k = k} n mixed id s call found) fit free now = calmly k now [] tt k.sessions (λ m is. is)
