-- The link that a root waits for is the one that the name of its statement's table stands for: each step of a node leaves it so.
use Rattle.std.proofs.Common.{◌≡◌, ℕ, suc, ◌+◌, Bool, List, length, Some, None, refl, sym, ap, subst, ◌∙◌, arith}
use Rattle.std.proofs.lemmas.Bool.{cond_both}
use Rattle.tran_ids.proofs.ListedLemmas.{item_is}
use Rattle.commit_forget.specs.declared.next.Next.TheVariants as nexts
use Rattle.session_tree.specs.Live.{edge_at, new_edge}
use Rattle.node_rules.specs.Data.{Act, BranchId, Durable, Edge, Input, Live, Place, Stmt}
use Rattle.node_rules.specs.Data.stmts
use Rattle.node_rules.specs.Data.tasks
use Rattle.node_rules.specs.declared.work.Errand.{Errand}
use Rattle.node_rules.specs.declared.work.Errand.TheVariants as errands
use Rattle.node_rules.specs.Data.acts
use Rattle.node_rules.specs.declared.work.Going.{Going}
use Rattle.node_rules.specs.declared.work.Waits.{Waits}
use Rattle.node_rules.specs.declared.work.Waits.TheVariants as waiting
use Rattle.node_rules.specs.declared.work.Work.{Work}
use Rattle.node_rules.specs.Words.{numbered, put_item, drop_item}
use Rattle.node_rules.specs.Inputs.{IsCall}
use Rattle.node_rules.specs.LiveBranches.{EachLive, works_of}
use Rattle.node_rules.specs.Names.{Behind, named_by, passed_on, ref_of}
use Rattle.node_rules.specs.NodeState.{NodeState, Branch, TurnDraft, live_id, work_id, branch_at}
use Rattle.node_rules.specs.Calls.{called, less_room, with_edge, waits_for_opened}
use Rattle.node_rules.specs.Client.{begun_by, counted, fresh_root, marked, new_root}
use Rattle.node_rules.specs.Prepare.{act_turn, answers_first, collecting, has_voted, ready, voted, with_comment, with_prepare_sent}
use Rattle.node_rules.proofs.LiveLemmas.{each_begun, each_changed, each_left, each_put, branch_parts, work_is}
use Rattle.node_rules.proofs.StandLemmas.{live_so}
use Rattle.node_rules.proofs.StepLemmas.{acting_so}
use Rattle.node_rules.proofs.Steps as steps
use Rattle.node_rules.specs.Marks.{node_back}
use Rattle.node_rules.proofs.Steps.{Step, Acting, Asked, Goes_to, Calls_back}
use Rattle.run_base_laws.proofs.InTurnLemmas.{numbered_last}
use Rattle.run_base_laws.proofs.RootLemmas.{SessionsFit, begun_so, counted_so, back_so, pends_so}
use Rattle.node_rules.specs.declared.session.PendingCall.TheVariants as pending
use Rattle.answer_origin_laws.proofs.ExecLemmas.{ExecsBelow}
use Rattle.answer_origin_laws.proofs.LineKeepLemmas.{AlikeEdges, mapped_alike}
use Rattle.answer_origin_laws.proofs.LineLemmas.{edge_link, goes_over, goes_through}
use Rattle.answer_origin_laws.proofs.NameLemmas.{OneCatalog, same_names}
use Rattle.answer_laws.proofs.WhyEndsLemmas.{no_exec}

module _ (D : Durable) (Asks : ℕ → Stmt → Type 0) where
  -- a link is that of a statement that a session asked
  abbrev pub IsLinkOf : ℕ → List ℕ → Type 0
  IsLinkOf session link = (s : Stmt) × Asks session s × (table : List ℕ) × (named_by D (ref_of s) ≡ Behind link table)

  -- a session asked to go back
  abbrev pub AsksBack : ℕ → Type 0
  AsksBack session = (name : List ℕ) × Asks session (stmts.RollbackTo name)

  -- so it is of what a root waits for
  abbrev pub WaitsOver : Live → Errand → Waits → Type 0
  WaitsOver l (errands.Statement s given) (waiting.ForReply i) = (e : Edge) → edge_at l i ≡ Some e → IsLinkOf l.me.session e.link
  WaitsOver l (errands.Statement s given) (waiting.ForOpened link) = IsLinkOf l.me.session link
  WaitsOver l (errands.GoBack step) waits = AsksBack l.me.session

  abbrev pub IsLinked : Live → Work → Type 0
  IsLinked l w = l.parent ≡ None → (g : Going) → w.going ≡ Some g → WaitsOver l g.errand g.waits

  -- edges over the same links
  alike_waits : (l z : Live) → z.me.session ≡ l.me.session → AlikeEdges l.edges z.edges → (errand : Errand) (waits : Waits) → WaitsOver l errand waits → WaitsOver z errand waits
  alike_waits l z me alike (errands.Statement s given) (waiting.ForReply i) is = λ e at. (let old = alike.1 i e at in subst (λ n. IsLinkOf n e.link) (sym me) (subst (IsLinkOf l.me.session) (sym old.3) (is old.0 old.1)))
  alike_waits l z me alike (errands.Statement s given) (waiting.ForOpened link) is = subst (λ n. IsLinkOf n link) (sym me) is
  alike_waits l z me alike (errands.GoBack step) waits is = subst AsksBack (sym me) is

  -- what waited for a link waits for its child
  opened_over : (l z : Live) → z.me.session ≡ l.me.session → (i : ℕ) (link : List ℕ) → ((e : Edge) → edge_at z i ≡ Some e → e.link ≡ link) → (errand : Errand) → WaitsOver l errand (waiting.ForOpened link) → WaitsOver z (less_room errand) (waiting.ForReply i)
  opened_over l z me i link its (errands.Statement s given) was = λ e at. subst (λ n. IsLinkOf n e.link) (sym me) (subst (IsLinkOf l.me.session) (sym (its e at)) was)
  opened_over l z me i link its (errands.GoBack step) was = subst AsksBack (sym me) was

  module _ (p : Place) (input : Input) (asked : (n : ℕ) (s : Stmt) → IsCall input n s → Asks n s) where
    abbrev pub Linked : NodeState → Type 0
    Linked k = EachLive IsLinked k.lives k.works

    module _ (k : NodeState) (now : Linked k) where
      gone : (b : BranchId) → EachLive IsLinked (drop_item live_id k.lives b) (drop_item work_id k.works b)
      gone b = each_left IsLinked IsLinked k.lives k.works now b (λ y v live other is. is)

      stays : (l : Live) → IsLinked l (works_of k.works l.me) → EachLive IsLinked (put_item live_id k.lives l) k.works
      stays l is = each_changed IsLinked IsLinked k.lives k.works now l is (λ y v live other was. was)

      rests : (l : Live) (w : Work) → w.branch ≡ l.me → w.going ≡ None → EachLive IsLinked (put_item live_id k.lives l) (put_item work_id k.works w)
      rests l w mine none = each_put IsLinked IsLinked k.lives k.works now l w mine (λ root g going. absurd (cc (going, none))) (λ y v live other was. was)

      waits : (l : Live) (w : Work) (g : Going) → w.branch ≡ l.me → w.going ≡ Some g → (l.parent ≡ None → WaitsOver l g.errand g.waits) → EachLive IsLinked (put_item live_id k.lives l) (put_item work_id k.works w)
      waits l w g mine going over =
          each_put IsLinked IsLinked k.lives k.works now l w mine
          (λ root h at. (let both : Some g ≡ Some h = sym going ∙ at in let one : g ≡ h = cc in subst (λ (y : Going). WaitsOver l y.errand y.waits) one (over root))) (λ y v live other was. was)

      -- ---- acts of the prepare phase

      acting_linked : {l : Live} {q : Bool} {a : Act} → Acting k input l q a → IsLinked l (works_of k.works l.me)
      acting_linked why =
          acting_so (λ l. IsLinked l (works_of k.works l.me))
          (λ l comment q is root g going. alike_waits l (collecting (with_comment l comment) q) refl (mapped_alike with_prepare_sent (λ e. refl) (λ e. refl) l.edges) g.errand g.waits (is root g going))
          (λ l from v is root g going. alike_waits l (voted l from v) refl
          (mapped_alike (has_voted from v) (λ e. cond_both (answers_first from e) (record e { vote = v }) e (λ y. y.peer ≡ e.peer) (λ here. refl) (λ other. refl)) (λ e. cond_both (answers_first from e) (record e { vote = v }) e (λ y. y.link ≡ e.link) (λ here. refl) (λ other. refl)) l.edges)
          g.errand g.waits (is root g going))
          (λ b l found. subst (λ c. IsLinked l (works_of k.works c)) (sym (item_is live_id k.lives b l found)) (now.each b l found)) why

      acts_linked : (l : Live) (q : Bool) (a : Act) → IsLinked l (works_of k.works l.me) → Linked (act_turn k l q a).after
      acts_linked l q acts.Rest is = stays l is
      acts_linked l q acts.AskDown is = stays l is
      acts_linked l q acts.SayReady is = stays (ready l) (λ root g going. alike_waits l (ready l) refl (refl, (λ i d at. (d, at, refl, refl))) g.errand g.waits (is root g going))
      acts_linked l q acts.SayReadOnly is = gone l.me
      acts_linked l q acts.Seal is = gone l.me
      acts_linked l q (acts.SealAndPass i) is = gone l.me
      acts_linked l q acts.Decide is = gone l.me
      acts_linked l q acts.Finish is = gone l.me
      acts_linked l q acts.Abandon is = gone l.me

      -- ---- statements

      module _ (fit : SessionsFit k) (below : ExecsBelow input k) (cat : OneCatalog k.stored.durable D) where
        asked_mine : {x : Branch} {s : Stmt} {given : ℕ} → Asked k input x s given → x.work.branch ≡ x.live.me
        asked_mine (steps.By_call n x s call rows has code live may) = work_is k x.live.me x live
        asked_mine (steps.By_exec x from call given advice s came live runs) = work_is k x.live.me x live

        asked_asks : {x : Branch} {s : Stmt} {given : ℕ} → Asked k input x s given → x.live.parent ≡ None → Asks x.live.me.session s
        asked_asks (steps.By_call n x s call rows has code live may) root = subst (λ m. Asks m s) (sym (fit.roots.each n x.live.me has)) (asked n s call)
        asked_asks (steps.By_exec x from call given advice s came live runs) root = absurd (below from x.live.me call (tasks.Run given advice s) came x.live (live_so k x.live.me x live) root)

        -- so does ROLLBACK TO
        goes_asks : {x : Branch} {step : ℕ} → Goes_to k input x step → x.live.parent ≡ None → AsksBack x.live.me.session
        goes_asks (steps.By_rollback_to n x name _ call has code live set) root = (name, subst (λ m. Asks m (stmts.RollbackTo name)) (sym (fit.roots.each n x.live.me has)) (asked n (stmts.RollbackTo name) call))
        goes_asks (steps.By_back x from call keep came live runs) root = absurd (below from x.live.me call (tasks.GoBack keep) came x.live (live_so k x.live.me x live) root)

        goes_mine : {x : Branch} {step : ℕ} → Goes_to k input x step → x.work.branch ≡ x.live.me
        goes_mine (steps.By_rollback_to n x name _ call has code live set) = work_is k x.live.me x live
        goes_mine (steps.By_back x from call keep came live runs) = work_is k x.live.me x live

        link_named : (s : Stmt) (link table : List ℕ) → named_by k.stored.durable (ref_of s) ≡ Behind link table → named_by D (ref_of s) ≡ Behind link table
        link_named s link table is = sym (same_names k.stored.durable D cat (ref_of s)) ∙ is

        branch_linked : (x : Branch) → branch_at k x.live.me ≡ Some x → IsLinked x.live x.work
        branch_linked x found = (let parts = branch_parts k x.live.me x found in subst (IsLinked x.live) (sym parts.1) (now.each x.live.me x.live parts.0))

    -- ---- a branch whose children are to go back

    calling_back : {k : NodeState} → Linked k → SessionsFit k → ExecsBelow input k → OneCatalog k.stored.durable D → {x : Branch} {step from : ℕ} → Calls_back k input x step from
        → (x.work.branch ≡ x.live.me) × (x.live.parent ≡ None → AsksBack x.live.me.session)
    calling_back {k = k} now fit below cat (steps.Has_gone j x step goes is) =
        let back : SessionsFit (node_back j x step) = subst SessionsFit is fit in
        let fits : SessionsFit j = record { roots = back.roots; above = back.above } in
        let lows : ExecsBelow input j = subst (ExecsBelow input) is below in
        let one : OneCatalog j.stored.durable D = subst (λ (i : NodeState). OneCatalog i.stored.durable D) is cat in
        (goes_mine j (subst Linked is now) fits lows one goes, goes_asks j (subst Linked is now) fits lows one goes)
    calling_back {k = k} now fit below cat (steps.Has_heard x weight count a i e g step answered going errand plain) = (
      work_is k x.live.me x answered.live,
      (λ root. subst (λ r. WaitsOver x.live r g.waits) errand (branch_linked k now fit below cat x answered.live root g going)),
    )

    -- ---- every step

    pub linked_on : {k : NodeState} {d : TurnDraft} → Step p input k d → SessionsFit k → ExecsBelow input k → OneCatalog k.stored.durable D → Linked k → Linked d.after
    linked_on (steps.Begins {k = k} n s read_at call begins range none step) fit below cat now =
        linked_on step (begun_so k fit p n read_at) (no_exec (begun_by p k n read_at None) call) cat (each_begun IsLinked IsLinked k.lives k.works now (fresh_root p k (new_root p k n) read_at) (λ root g going. absurd cc) (λ y v live any is. is))
    linked_on (steps.Counts_call {k = k} n s call counts step) fit below cat now = linked_on step (counted_so k fit n) (no_exec (counted k n) call) cat now
    linked_on (steps.Goes_back {k = k} x step goes next) fit below cat now = linked_on next (back_so k fit x step) below cat now
    linked_on (steps.Pends {k = k} n l given call has live code writer step) fit below cat now = linked_on step (pends_so k fit n pending.Commit) below cat now
    linked_on (steps.Lets_reads_go l comment q live begins step) fit below cat now = linked_on step (record { roots = fit.roots; above = fit.above }) below cat now
    linked_on (steps.Counts_ack s from kept came counts step) fit below cat now =
        linked_on step (record { roots = fit.roots; above = fit.above }) below (record { tables = cat.tables; links = cat.links; synonyms = cat.synonyms }) now
    linked_on (steps.Runs {k = k} x s given table ask way) fit below cat now = rests k now _ _ (asked_mine k now fit below cat ask) refl
    linked_on (steps.Goes_nowhere {k = k} x s given r ask way) fit below cat now = rests k now x.live _ (asked_mine k now fit below cat ask) refl
    linked_on (steps.Calls {k = k} x s given i table ask way) fit below cat now =
        let over = goes_over p k.stored.durable x.live given s i table way in
        waits k now x.live (called k.sessions x i (errands.Statement (passed_on s table) given)).work _ (asked_mine k now fit below cat ask) refl
        (λ root e at. (s, asked_asks k now fit below cat ask root, table, link_named k now fit below cat s e.link table (over.named ∙ ap (λ link. Behind link table) (sym (edge_link x.live over.link i e over.edge at)))))
    linked_on (steps.Opens {k = k} x s given node link table ask way) fit below cat now =
        waits k now x.live (waits_for_opened x link (passed_on s table) given).work _ (asked_mine k now fit below cat ask) refl
        (λ root. (s, asked_asks k now fit below cat ask root, table, link_named k now fit below cat s link table (goes_through p k.stored.durable x.live given s node link table way).0))
    linked_on (steps.Goes_on {k = k} x from strength g link opened) fit below cat now =
        let y : Branch = with_edge x (new_edge from link strength) in
        let i : ℕ = length x.live.edges + 1 in
        let last : edge_at y.live i ≡ Some (new_edge from link strength) = subst (λ n. numbered y.live.edges n ≡ Some (new_edge from link strength)) (let it : suc (length x.live.edges) ≡ i = omega arith in it) (numbered_last x.live.edges (new_edge from link strength)) in
        waits k now y.live (called k.sessions y i (less_room g.errand)).work _ (work_is k x.live.me x opened.live) refl
        (λ root. opened_over x.live y.live refl i link
        (λ e at. (let both : Some (new_edge from link strength) ≡ Some e = sym last ∙ at in let one : new_edge from link strength ≡ e = cc in ap (λ (z : Edge). z.link) (sym one))) g.errand
        (subst (WaitsOver x.live g.errand) opened.waits (branch_linked k now fit below cat x opened.live root g opened.going)))
    linked_on (steps.Hears_reply {k = k} x weight count a i e answered) fit below cat now = rests k now _ _ (work_is k x.live.me x answered.live) refl
    linked_on (steps.Backs {k = k} x step from i calls next) fit below cat now = let so = calling_back now fit below cat calls in waits k now x.live (called k.sessions x i (errands.GoBack step)).work _ so.0 refl so.1
    linked_on (steps.Is_back {k = k} x step from calls none) fit below cat now = rests k now x.live _ (calling_back now fit below cat calls).0 refl
    linked_on (steps.Opens_branch {k = k} to parent edge root depth read_at came new) fit below cat now = each_begun IsLinked IsLinked k.lives k.works now _ (λ none g going. absurd cc) (λ y v live any is. is)
    linked_on (steps.Acts {k = k} l q a why) fit below cat now = acts_linked k now l q a (acting_linked k now why)
    linked_on (steps.Drops_told {k = k} l live drops) fit below cat now = gone k now l.me
    linked_on (steps.Drops_asked {k = k} l from live came parent) fit below cat now = gone k now l.me
    linked_on (steps.Does s from (nexts.End d) kept why) fit below cat now = now
    linked_on (steps.Does s from (nexts.Meet d mixed) kept why) fit below cat now = now
    linked_on (steps.Does s from nexts.AckToward kept why) fit below cat now = now
    linked_on (steps.Does s from nexts.Forget kept why) fit below cat now = now
    linked_on (steps.Does s from nexts.SayForgotten kept why) fit below cat now = now
    linked_on (steps.Does s from nexts.SayAck kept why) fit below cat now = now
    linked_on (steps.Does s from nexts.Rest kept why) fit below cat now = now
    linked_on (steps.Leaves {k = k} n s d x call ends has live) fit below cat now = gone k now x.live.me
    linked_on (steps.Sets_savepoint {k = k} n x name call has code live) fit below cat now =
        each_put IsLinked IsLinked k.lives k.works now x.live (marked k.sessions x name).work (work_is k x.live.me x live) (branch_linked k now fit below cat x live) (λ y v found other was. was)
    linked_on (steps.Gives_up {k = k} n x gives has calls live) fit below cat now = rests k now x.live _ (work_is k x.live.me x live) refl
    linked_on (steps.Gives_up_commit {k = k} n b (Some l) gives has calls live) fit below cat now = gone k now l.me
    linked_on (steps.Gives_up_commit n b None gives has calls live) fit below cat now = now
    linked_on _ fit below cat now = now
