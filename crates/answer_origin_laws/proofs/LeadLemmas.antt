-- In every lawful run each Reply that is no refusal comes from a run that its call led to.
use Rattle.std.proofs.Common.{◌≡◌, ◌≢◌, ℕ, ◌+◌, ◌≤◌, ◌⊎◌, Bool, true, false, List, [], ◌∷◌, ◌++◌, length, option_map, Option, Some, None, inl, inr, refl, sym, ap, subst, ◌∙◌, append-nil, arith}
use Rattle.std.specs.Prelude.{nat_le}
use Rattle.std.specs.List.{AllByRecursion}
use Rattle.std.proofs.lemmas.Bool.Decides.{nat_tests}
use Rattle.redo_record.specs.Durable.{durable}
use Rattle.session_tree.specs.Live.{children_of, edge_at}
use Rattle.node_rules.specs.Data.{Answer, Advice, BranchId, Edge, Live, Post, Stmt, Task, Input}
use Rattle.node_rules.specs.Data.inputs
use Rattle.node_rules.specs.Data.kinds
use Rattle.node_rules.specs.Data.stmts
use Rattle.node_rules.specs.Data.tasks
use Rattle.node_rules.specs.declared.work.Errand.{Errand}
use Rattle.node_rules.specs.declared.work.Errand.TheVariants as errands
use Rattle.node_rules.specs.declared.work.Waits.TheVariants as waiting
use Rattle.node_rules.specs.declared.work.Going.{Going}
use Rattle.node_rules.specs.declared.work.Work.{Work}
use Rattle.node_rules.specs.Words.{numbered, item_at}
use Rattle.node_rules.specs.Inputs.{Came, IsCall, IsSession}
use Rattle.node_rules.specs.NodeState.{NodeState, Branch, live_id}
use Rattle.node_rules.specs.LiveBranches.{works_of}
use Rattle.node_rules.specs.Names.{A_table, named_by, ref_of, passed_on, target_of}
use Rattle.node_rules.specs.Turn.{heard}
use Rattle.node_rules.proofs.LiveLemmas.{branch_parts}
use Rattle.node_rules.proofs.Steps.{Is_answered, IsOfRows}
use Rattle.run_base_laws.specs.BirthLaws.{Began, IsChild, LiveIs, GoesSo}
use Rattle.run_rules.specs.Branches.{Run, origin_at}
use Rattle.run_rules.specs.Data.{Turn, Happening}
use Rattle.run_rules.specs.Data.happenings
use Rattle.run_rules.specs.Facts.{first_facts, place_at, node_at, records_at}
use Rattle.run_base_laws.specs.InTurnLaws.{packet_post, said_in, exec_number, newest_exec, WaitsFor, call_at, NeedsNoRollback}
use Rattle.run_rules.specs.Lawful.{History, IsLawfulRun, facts_at}
use Rattle.run_claims.specs.Places.{LeadsTo, Runs_here, Passes, catalog_at}
use Rattle.run_base_laws.proofs.BirthRunLemmas.{messages_are_of_neighbors, nodes_name_the_born}
use Rattle.run_base_laws.proofs.InTurnLemmas.{peer, reply_for}
use Rattle.run_base_laws.proofs.InTurnLemmas as turns
use Rattle.run_base_laws.proofs.InTurnRunLemmas.{came_here}
use Rattle.run_base_laws.proofs.KidLemmas.{parent_of, above_of, child_parent, child_of}
use Rattle.run_rules.proofs.ListLemmas.{all_map}
use Rattle.run_base_laws.proofs.NeighborLemmas.{reply_is}
use Rattle.run_base_laws.proofs.NodeLemmas.{kept_alone}
use Rattle.run_base_laws.proofs.OwnLemmas.{all_found}
use Rattle.run_base_laws.proofs.RestStepLemmas.{going_of}
use Rattle.run_base_laws.proofs.RootLemmas.{SessionsFit, sessions_keep}
use Rattle.tree_laws.proofs.FitLemmas.{said_all}
use Rattle.tree_laws.proofs.PrefixLemmas.{f_at, facts_join}
use Rattle.tree_laws.proofs.TimeLemmas.{Part, may_of}
use Rattle.tree_trail_laws.proofs.CallLemmas.{call_free}
use Rattle.tree_trail_laws.specs.ChildLaws.{trail_at}
use Rattle.tree_trail_laws.proofs.MomentLemmas.{tr_at}
use Rattle.answer_origin_laws.specs.LeadLaws.{NoCallSince, AnsweredBy, CallAnsweredBy, IsRollbackTo, RepliesLeadToRuns, KeptAnswersLeadToRuns}
use Rattle.answer_origin_laws.specs.ReplyLaws.{WentBack}
use Rattle.answer_origin_laws.proofs.CatalogLemmas.{Extends, catalog, catalog_on}
use Rattle.answer_origin_laws.proofs.GivenLemmas.{GivenAt, CalledAt, LastIn, GivenLast, CalledLast, last_soon}
use Rattle.answer_origin_laws.proofs.LineLemmas.{stmt_of_task, SentSo, ErrandSo, Line}
use Rattle.answer_origin_laws.proofs.LineRunLemmas.{stand_last}
use Rattle.answer_origin_laws.proofs.NoCallLemmas.{no_call_since}
use Rattle.answer_origin_laws.proofs.NumberLemmas.{numbered_map, all_numbered}
use Rattle.answer_origin_laws.proofs.OpenSentLemmas.{numbered_more}
use Rattle.answer_origin_laws.proofs.PartLemmas.{split_at, longer}
use Rattle.answer_origin_laws.proofs.PastLemmas.{all_before, reply_before}
use Rattle.answer_origin_laws.proofs.ReplyStandLemmas.{happens_at, prefix, moment_at, ran_there, holds_at}
use Rattle.answer_origin_laws.proofs.ReplyTurnLemmas.{RunsSo, PassesSo, Backed, BacksSo, AnswerSo, Holds}
use Rattle.answer_origin_laws.proofs.TaleLemmas.{IsOfStatement, IsOfBack}
use Rattle.answer_origin_laws.proofs.SentLemmas.{came_sent, exec_in}
use Rattle.tree_laws.proofs.AtTurn.{at_turn}
use Rattle.tree_trail_laws.proofs.TopCountLemmas.{rows_so as of_rows}

module _ (t : History) (whole : IsLawfulRun t) where
  abbrev pub Ans : BranchId → ℕ → Answer → Run → Type 0
  Ans b call a r = AnsweredBy t b call a r

  -- the catalog at a happening
  catalog_here : (hs : List Happening) (h : Happening) (rest : List Happening) → hs ++ h ∷ rest ≡ t.trace → (n : ℕ) → catalog_at t (length hs) n ≡ catalog t whole hs n
  catalog_here hs h rest is n = ap (λ xs. durable (records_at (f_at t xs) n)) (prefix t hs h rest is)

  said_grows : (hs mid : List Happening) → (more : List Post) × (said_in (f_at t (hs ++ mid)) ≡ said_in (f_at t hs) ++ more)
  said_grows hs mid = let later = said_all t.places t.commands (f_at t hs) mid in (later.0, ap said_in (facts_join t.places t.commands (first_facts t.places) hs mid) ∙ later.1)

  -- ---- a run that answers at once

  runs_so : RunsSo t whole Ans
  runs_so hs u rest is from call given advice st a r came statement moment named run answer good =
      let here : length hs ≡ r.moment = sym (moment ∙ moment_at t hs) in
      let may = may_of t whole hs (happenings.Turn u) rest is in
      let node : r.branch.node ≡ u.node = came_here (f_at t hs) may.0 u.node u.input u.took may.1.comes from r.branch (kinds.Exec call (tasks.Run given advice st)) came in
      let catalog_is : catalog_at t r.moment r.branch.node ≡ catalog t whole hs u.node = ap (λ i. catalog_at t i r.branch.node) (sym here) ∙ (catalog_here hs (happenings.Turn u) rest is r.branch.node ∙ ap (catalog t whole hs) node) in
      let table : named_by (catalog_at t r.moment r.branch.node) (ref_of r.statement) ≡ A_table r.table = ap (λ d. named_by d (ref_of r.statement)) catalog_is ∙ (ap (λ s. named_by (catalog t whole hs u.node) (ref_of s)) statement ∙ named) in
      record {
        ran = ran_there t hs u rest is r a moment run answer;
        moment = length hs;
        turn = u;
        there = happens_at t hs (happenings.Turn u) rest is;
        from = from;
        given = given;
        advice = advice;
        statement = st;
        came = came;
        before = omega (arith, here);
        leads = subst (LeadsTo t r r.branch) statement (Runs_here table);
      }

  -- ---- a Reply that is heard

  module _ (hs : List Happening) (u : Turn) (rest : List Happening) (is : hs ++ happenings.Turn u ∷ rest ≡ t.trace) (k : NodeState) (up : node_at (f_at t hs) u.node ≡ Some k)
      (x : Branch) (weight : Option ℕ) (count : ℕ) (a : Answer) (i : ℕ) (e : Edge) (h : Is_answered (heard k u.input) u.input x weight count a i e) where
    open at_turn t whole hs u rest is use {part as part0, s as s0, lawful as lawful0, bs as bs0}

    abbrev me : BranchId
    me = x.live.me

    found : item_at live_id k.lives me ≡ Some x.live
    found = by u.input (branch_parts (heard k u.input) me x h.live).0
      where
        by : (input : Input) → item_at live_id (heard k input).lives me ≡ Some x.live → item_at live_id k.lives me ≡ Some x.live
        by (inputs.Message m) at = at
        by (inputs.Call s c) at = at
        by (inputs.GiveUp s) at = at
        by inputs.Reco at = at
        by inputs.Checkpoint at = at

    work : x.work ≡ works_of k.works me
    work = (branch_parts (heard k u.input) me x h.live).1 ∙ by u.input
      where
        by : (input : Input) → works_of (heard k input).works me ≡ works_of k.works me
        by (inputs.Message m) = refl
        by (inputs.Call s c) = refl
        by (inputs.GiveUp s) = refl
        by inputs.Reco = refl
        by inputs.Checkpoint = refl

    pub g : (y : Going) × (x.work.going ≡ Some y)
    g = going_of x h.from h.call i e h.waits

    over : WaitsFor i x.work.going × (e.peer ≡ h.from) × (call_at x.work i ≡ h.call)
    over = reply_for x h.from h.call i e h.waits

    waits_is : g.0.waits ≡ waiting.ForReply i
    waits_is = subst (WaitsFor i) g.1 over.0

    at_edge : edge_at x.live i ≡ Some e
    at_edge = reply_is x h.from h.call i e h.waits

    abbrev IsSent : Option Stmt → Type 0
    IsSent o = SentSo (place_at t.places u.node) (catalog t whole hs u.node) (GivenLast t whole hs) (CalledLast t whole hs) (said_in (f_at t hs)) me e.peer (call_at x.work i) o

    abbrev IsErrand : Errand → Type 0
    IsErrand r = ErrandSo (place_at t.places u.node) (catalog t whole hs u.node) (GivenLast t whole hs) (CalledLast t whole hs) (said_in (f_at t hs)) me x.live.edges x.work r (waiting.ForReply i)

    line : Line (place_at t.places u.node) (catalog t whole hs u.node) (GivenLast t whole hs) (CalledLast t whole hs) (said_in (f_at t hs)) (NeedsNoRollback k x.live) me x.live.edges x.work
    line = subst (λ (w : Work). Line (place_at t.places u.node) (catalog t whole hs u.node) (GivenLast t whole hs) (CalledLast t whole hs) (said_in (f_at t hs)) (NeedsNoRollback k x.live) me x.live.edges w) (sym work) ((stand_last t whole hs part0 u.node k up).each me x.live found)

    -- what the branch was given, and what it waits for
    errand_so : IsErrand g.0.errand
    errand_so = subst (ErrandSo (place_at t.places u.node) (catalog t whole hs u.node) (GivenLast t whole hs) (CalledLast t whole hs) (said_in (f_at t hs)) me x.live.edges x.work g.0.errand) waits_is (line.waits g.0 g.1)

    -- what is under way is that
    one_going : (y : Going) → x.work.going ≡ Some y → g.0.errand ≡ y.errand
    one_going y going = let both : Some g.0 ≡ Some y = sym g.1 ∙ going in let one : g.0 ≡ y = cc in ap (λ (z : Going). z.errand) one

    lives : LiveIs (Began bs0) x.live
    lives = all_found (LiveIs (Began bs0)) live_id k.lives me x.live (nodes_name_the_born s0 lawful0 u.node k up).0 found

    child : numbered (children_of x.live) i ≡ Some e.peer
    child = turns.numbered_map x.live.edges i ∙ ap (option_map peer) at_edge

    all_go : AllByRecursion (λ (y : Post). GoesSo (Began bs0) y.from y.to y.kind) (said_in (f_at t hs))
    all_go = all_map (λ (y : Post). GoesSo (Began bs0) y.from y.to y.kind) packet_post (f_at t hs).net.packets (messages_are_of_neighbors s0 lawful0)

    -- ---- an Exec that came to a branch before now

    module _ (b : BranchId) (call : ℕ) (task : Task) (turn : Turn) (sender : BranchId) (came : Came turn.input sender b (kinds.Exec call task)) where
      -- as a message
      pub record Sent (ps : List Happening) : Type 0 where
        pub number : ℕ
        pub post : Post
        pub at : numbered (said_in (f_at t ps)) number ≡ Some post
        pub from : post.from ≡ sender
        pub kind : post.kind ≡ kinds.Exec call task
        pub to : post.to ≡ b

      sent_then : (ms later : List Happening) → ms ++ happenings.Turn turn ∷ later ≡ t.trace → Sent ms
      sent_then ms later there =
          let may = may_of t whole ms (happenings.Turn turn) later there in
          let sent = came_sent (f_at t ms) may.0 turn.node turn.input turn.took may.1.comes sender b (kinds.Exec call task) came in
          record { number = sent.0.number; post = sent.2; at = sent.3; from = sent.4; kind = sent.5; to = sent.6 }

      sent_later : (ps mid : List Happening) → Sent ps → Sent (ps ++ mid)
      sent_later ps mid s =
          let more = said_grows ps mid in
          record { number = s.number; post = s.post; at = subst (λ xs. numbered xs s.number ≡ Some s.post) (sym more.1) (numbered_more (said_in (f_at t ps)) more.0 s.number s.post s.at); from = s.from; kind = s.kind; to = s.to }

      sent_by : (ms later : List Happening) → ms ++ happenings.Turn turn ∷ later ≡ t.trace → length ms ≤ length hs → Sent hs
      sent_by ms later there earlier =
          let between = longer ms hs (happenings.Turn turn ∷ later) (happenings.Turn u ∷ rest) (there ∙ sym is) earlier in
          subst Sent (sym between.1) (sent_later ms between.0 (sent_then ms later there))

      -- it came from the parent
      parent_is : Sent hs → parent_of bs0 b ≡ Some sender
      parent_is s =
          let goes : GoesSo (Began bs0) s.post.from s.post.to s.post.kind = all_numbered (λ (y : Post). GoesSo (Began bs0) y.from y.to y.kind) (said_in (f_at t hs)) s.number s.post all_go s.at in
          let below_it : IsChild (Began bs0) s.post.to s.post.from = subst (GoesSo (Began bs0) s.post.from s.post.to) s.kind goes in
          subst (λ c. parent_of bs0 c ≡ Some sender) s.to (subst (λ c. parent_of bs0 s.post.to ≡ Some c) s.from (child_parent bs0 s.post.to s.post.from below_it))

    -- one of this number came to the child
    module _ (task : Task) (turn : Turn) (from : BranchId) (came : Came turn.input from h.from (kinds.Exec h.call task)) (ms later : List Happening) (there : ms ++ happenings.Turn turn ∷ later ≡ t.trace) (earlier : length ms ≤ length hs) where
      sent_now : Sent h.from h.call task turn from came hs
      sent_now = sent_by h.from h.call task turn from came ms later there earlier

      -- from this branch
      from_me : from ≡ me
      from_me =
          let one : parent_of bs0 h.from ≡ Some from = parent_is h.from h.call task turn from came sent_now in
          let two : parent_of bs0 h.from ≡ Some me = subst (λ b. parent_of bs0 b ≡ Some me) over.1 (child_of bs0 x.live lives i e.peer child) in
          let both : Some from ≡ Some me = sym one ∙ two in
          let here : from ≡ me = cc in
          here

      -- with what the branch passed on
      brings_it : (o : Option Stmt) → IsSent o → stmt_of_task task ≡ o
      brings_it o sent =
          all_numbered (λ (y : Post). y.from ≡ me → y.to ≡ e.peer → (call : ℕ) (task : Task) → y.kind ≡ kinds.Exec call task → call ≡ call_at x.work i → stmt_of_task task ≡ o) (said_in (f_at t hs)) sent_now.number sent_now.post sent sent_now.at
          (sent_now.from ∙ from_me) (sent_now.to ∙ sym over.1) h.call task sent_now.kind (sym over.2)

    -- ---- where the branch stands

    -- a branch below a root is given statements, and taken back, by Execs alone
    below_none : x.live.parent ≢ None → (before : List Happening) (w : Turn) (later : List Happening) → before ++ happenings.Turn w ∷ later ≡ t.trace → (s : Stmt) → IsCall w.input me.session s → ⊥
    below_none below before w later there s call =
        let high : 65 ≤ me.session = all_found (λ (l : Live). l.parent ≢ None → 65 ≤ l.me.session) live_id k.lives me x.live (kept_alone SessionsFit sessions_keep s0 lawful0 u.node k up).above found below in
        let may = may_of t whole before (happenings.Turn w) later there in
        let low : IsSession me.session = (call_free (f_at t before) may.0 w.node w.input w.took me.session (Some s) call may.1.comes).0 in
        absurd (omega (arith, low.1, high))

    -- a root by calls of its session alone
    root_none : x.live.parent ≡ None → (before : List Happening) (w : Turn) (later : List Happening) → before ++ happenings.Turn w ∷ later ≡ t.trace → length before ≤ length hs → (from : BranchId) (call : ℕ) (task : Task) → Came w.input from me (kinds.Exec call task) → ⊥
    root_none top before w later there soon from call task came =
        let parent : parent_of bs0 me ≡ Some from = parent_is me call task w from came (sent_by me call task w from came before later there soon) in
        let some : x.live.parent ≡ Some from = above_of bs0 x.live lives from parent in
        absurd (cc (some, top))

    -- no call of its session came after what it was given
    last_call : (call : ℕ) (o : Option Stmt) (gave : GivenAt t whole me call o) → LastIn t whole hs me call o gave → NoCallSince t me.node me.session (length gave.before) (length hs)
    last_call call o gave last =
        no_call_since t me.node me.session gave.before (happenings.Turn gave.turn) last.later hs u rest last.since is last.quiet
        (λ here s call. (let reply : inputs.Call me.session s ≡ inputs.Message _ = sym call ∙ h.came.is in absurd cc))

    -- ---- it calls its children back

    module _ (y : Going) (going : x.work.going ≡ Some y) (back : IsOfBack y.errand) where
      given_back : GivenLast t whole hs me x.work.came.last_call None
      given_back = by y.errand back (subst IsErrand (one_going y going) errand_so)
        where
          by : (r : Errand) → IsOfBack r → IsErrand r → GivenLast t whole hs me x.work.came.last_call None
          by (errands.Statement goes given) none it = absurd none
          by (errands.GoBack step) right it = it.0

      abbrev gave_back : GivenAt t whole me x.work.came.last_call None
      gave_back = given_back.0

      soon_back : length gave_back.before + 1 ≤ length hs
      soon_back = last_soon t whole hs me x.work.came.last_call None gave_back given_back.1

      -- below a root it was called back itself
      called_back : x.live.parent ≢ None → Backed t whole Ans (tr_at t hs).moment me x.work.came.last_call
      called_back below = elim gave_back.how [
        | inl came ↦ (record { moment = length gave_back.before; turn = gave_back.turn; there = happens_at t gave_back.before (happenings.Turn gave_back.turn) gave_back.rest gave_back.is; from = came.0; keep = came.1; came = came.2 }, omega (arith, soon_back, moment_at t hs))
        | inr call ↦ absurd (below_none below gave_back.before gave_back.turn gave_back.rest gave_back.is (stmts.RollbackTo call.0) call.1)
      ]

      -- a root goes back on RO(place_at t.places u.node) (catalog t whole hs u.node) (GivenLast t whole hs) (CalledLast t whole hs)BACK TO
      pub root_back : x.live.parent ≡ None → IsRollbackTo t (length hs) me.node me.session
      root_back top =
          let to : (name : List ℕ) × IsCall gave_back.turn.input me.session (stmts.RollbackTo name) × (gave_back.turn.node ≡ me.node) = elim gave_back.how [
            | inl came ↦ absurd (root_none top gave_back.before gave_back.turn gave_back.rest gave_back.is (omega (arith, soon_back)) came.0 x.work.came.last_call (tasks.GoBack came.1) came.2)
            | inr call ↦ call
          ] in
          record {
            moment = length gave_back.before;
            turn = gave_back.turn;
            there = happens_at t gave_back.before (happenings.Turn gave_back.turn) gave_back.rest gave_back.is;
            name = to.0;
            came = to.1;
            here = to.2;
            soon = omega (arith, soon_back);
            last = last_call x.work.came.last_call None gave_back given_back.1;
          }

    -- ---- it waits for a statement

    -- its child was not called back
    pub called_on : (y : Going) → x.work.going ≡ Some y → IsOfStatement y.errand → Backed t whole Ans (tr_at t hs).moment h.from h.call → ⊥
    called_on y going statement backed = by y.errand statement (subst IsErrand (one_going y going) errand_so)
      where
        cut_there : (ms : List Happening) × (later : List Happening) × (ms ++ happenings.Turn backed.0.turn ∷ later ≡ t.trace) × (length ms ≡ backed.0.moment)
        cut_there = split_at t.trace backed.0.moment (happenings.Turn backed.0.turn) backed.0.there

        by : (r : Errand) → IsOfStatement r → IsErrand r → ⊥
        by (errands.Statement goes given) right it =
            let sent : IsSent (Some goes) = (it.2 e at_edge).1 in
            let none : None ≡ Some goes = brings_it (tasks.GoBack backed.0.keep) backed.0.turn backed.0.from backed.0.came cut_there.0 cut_there.1 cut_there.2 (omega (arith, cut_there.3, backed.1, moment_at t hs)) (Some goes) sent in
            absurd cc
        by (errands.GoBack step) none it = absurd none

    -- ---- an answer that comes from a run

    module _ (r : Run) (n : ℕ) (told : origin_at (tr_at t hs) n ≡ Some r) (ans : AnsweredBy t h.from h.call a r) where
      -- the call came to the child before now
      cut_there : (ms : List Happening) × (later : List Happening) × (ms ++ happenings.Turn ans.turn ∷ later ≡ t.trace) × (length ms ≡ ans.moment)
      cut_there = split_at t.trace ans.moment (happenings.Turn ans.turn) ans.there

      abbrev ms : List Happening
      ms = cut_there.0

      earlier : length ms ≤ length hs
      earlier = omega (arith, cut_there.3, ans.before, reply_before (tr_at t hs) (all_before t hs) n r told, moment_at t hs)

      abbrev run : Task
      run = tasks.Run ans.given ans.advice ans.statement

      abbrev SentAt : List Happening → Type 0
      SentAt = Sent h.from h.call run ans.turn ans.from ans.came

      from_here : ans.from ≡ me
      from_here = from_me run ans.turn ans.from ans.came ms cut_there.1 cut_there.2 earlier

      -- with the statement that was passed on
      brings_statement : (o : Option Stmt) → IsSent o → Some ans.statement ≡ o
      brings_statement o sent = brings_it run ans.turn ans.from ans.came ms cut_there.1 cut_there.2 earlier o sent

      sent_from : (ps : List Happening) (s : SentAt ps) → exec_number s.post.kind ≤ newest_exec (said_in (f_at t ps)) me e.peer
      sent_from ps s = exec_in (said_in (f_at t ps)) s.number s.post s.at me e.peer (s.from ∙ from_here) (s.to ∙ sym over.1)

      sent_number : (ps : List Happening) (s : SentAt ps) → exec_number s.post.kind ≡ h.call
      sent_number ps s = ap exec_number s.kind

      -- what the branch waits for
      pub record Waited : Type 0 where
        pub goes : Stmt
        pub statement : Stmt
        pub called : CalledAt t whole me e.peer (call_at x.work i) x.work.came.last_call statement goes
        pub last : LastIn t whole hs me x.work.came.last_call (Some statement) called.given
        pub sent : IsSent (Some goes)

      pub waited : Waited
      waited = by g.0.errand errand_so
        where
          by : (errand : Errand) → IsErrand errand → Waited
          by (errands.Statement goes given) it = let so = it.2 e at_edge in record { goes = goes; statement = it.0; called = so.0.0; last = so.0.1; sent = so.1 }
          by (errands.GoBack step) it = absurd (let some : Some ans.statement ≡ None = brings_statement None (it.1 e at_edge) in cc some)

      passed : ans.statement ≡ passed_on waited.statement waited.called.table
      passed = let some : Some ans.statement ≡ Some waited.goes = brings_statement (Some waited.goes) waited.sent in let one : ans.statement ≡ waited.goes = cc in one ∙ waited.called.passes

      -- which was sent after the name of its table was looked up
      looked_up : length waited.called.before ≤ length ms
      looked_up = by (nat_le (length waited.called.before) (length ms)) refl
        where
          by : (q : Bool) → nat_le (length waited.called.before) (length ms) ≡ q → length waited.called.before ≤ length ms
          by true low = grind (arith, nat_tests, low)
          by false high =
              let less : length ms ≤ length waited.called.before = grind (arith, nat_tests, high) in
              let more = longer ms waited.called.before (happenings.Turn ans.turn ∷ cut_there.1) waited.called.part.rest (cut_there.2 ∙ sym waited.called.part.is) less in
              let sent : SentAt waited.called.before = subst SentAt (sym more.1) (sent_later h.from h.call run ans.turn ans.from ans.came ms more.0 (sent_then h.from h.call run ans.turn ans.from ans.came ms cut_there.1 cut_there.2)) in
              let newest : exec_number sent.post.kind ≤ newest_exec (said_in (f_at t waited.called.before)) me e.peer = sent_from waited.called.before sent in
              let number : exec_number sent.post.kind ≡ h.call = sent_number waited.called.before sent in
              absurd (omega (arith, newest, number, over.2, waited.called.unmade))

      grows : (m : ℕ) → Extends (catalog t whole waited.called.before m) (catalog t whole ms m)
      grows m =
          let more = longer waited.called.before ms waited.called.part.rest (happenings.Turn ans.turn ∷ cut_there.1) (waited.called.part.is ∙ sym cut_there.2) looked_up in
          subst (λ ps. Extends (catalog t whole waited.called.before m) (catalog t whole ps m)) (sym more.1)
          (catalog_on t whole m waited.called.before more.0 (record { rest = happenings.Turn ans.turn ∷ cut_there.1; is = ap (λ ps. ps ++ happenings.Turn ans.turn ∷ cut_there.1) (sym more.1) ∙ cut_there.2 }))

      catalog_then : catalog_at t ans.moment me.node ≡ catalog t whole ms me.node
      catalog_then = ap (λ j. catalog_at t j me.node) (sym cut_there.3) ∙ catalog_here ms (happenings.Turn ans.turn) cut_there.1 cut_there.2 me.node

      leads_on : LeadsTo t r me waited.statement
      leads_on =
          Passes me h.from waited.statement ans.moment h.call ans.given ans.advice waited.called.link waited.called.table ans.turn ans.there ans.before
          (subst (λ b. Came ans.turn.input b h.from (kinds.Exec h.call (tasks.Run ans.given ans.advice (passed_on waited.statement waited.called.table)))) from_here (subst (λ s. Came ans.turn.input ans.from h.from (kinds.Exec h.call (tasks.Run ans.given ans.advice s))) passed ans.came))
          (ap (λ d. named_by d (ref_of waited.statement)) catalog_then ∙ (grows me.node).names (ref_of waited.statement) waited.called.link waited.called.table waited.called.named)
          (ap (λ d. target_of (place_at t.places me.node) d waited.called.link) catalog_then
          ∙ ((grows me.node).leads (place_at t.places me.node) waited.called.link e.peer.node waited.called.leads ∙ ap (λ (b : BranchId). Some b.node) over.1))
          (subst (LeadsTo t r h.from) passed ans.leads)

      -- ---- the call of the branch itself

      abbrev pub gave : GivenAt t whole me x.work.came.last_call (Some waited.statement)
      gave = waited.called.given

      pub gave_first : length gave.before ≤ r.moment
      gave_first = omega (arith, waited.called.since, looked_up, cut_there.3, ans.before)

      gave_soon : length gave.before ≤ length hs
      gave_soon = omega (arith, waited.called.since, looked_up, earlier)

      -- a branch below a root
      pub heard_so : x.live.parent ≢ None → AnsweredBy t me x.work.came.last_call a r
      heard_so below =
          let exec : (from : BranchId) × (given : ℕ) × (advice : Option Advice) × Came gave.turn.input from me (kinds.Exec x.work.came.last_call (tasks.Run given advice waited.statement)) = elim gave.how [
            | inl came ↦ came
            | inr call ↦ absurd (below_none below gave.before gave.turn gave.rest gave.is waited.statement call.0)
          ] in
          record {
            ran = ans.ran;
            moment = length gave.before;
            turn = gave.turn;
            there = happens_at t gave.before (happenings.Turn gave.turn) gave.rest gave.is;
            from = exec.0;
            given = exec.1;
            advice = exec.2;
            statement = waited.statement;
            came = exec.3;
            before = gave_first;
            leads = leads_on;
          }

      -- a root
      pub root_heard : x.live.parent ≡ None → CallAnsweredBy t (length hs) me.node me.session me a r
      root_heard top =
          let call : IsCall gave.turn.input me.session waited.statement × IsOfRows waited.statement × (gave.turn.node ≡ me.node) = elim gave.how [
            | inl came ↦ absurd (root_none top gave.before gave.turn gave.rest gave.is gave_soon came.0 x.work.came.last_call (tasks.Run came.1 came.2 waited.statement) came.3)
            | inr call ↦ call
          ] in
          record {
            ran = ans.ran;
            moment = length gave.before;
            turn = gave.turn;
            there = happens_at t gave.before (happenings.Turn gave.turn) gave.rest gave.is;
            statement = waited.statement;
            came = call.0;
            rows = of_rows waited.statement call.1;
            here = call.2;
            before = gave_first;
            is_root = (refl, refl);
            soon = gave_soon;
            last = last_call x.work.came.last_call (Some waited.statement) gave waited.last;
            leads = leads_on;
          }

  passes_so : PassesSo t whole Ans
  passes_so hs u rest is k up x weight count a i e h below r n told ans = heard_so hs u rest is k up x weight count a i e h r n told ans below

  backs_so : BacksSo t whole Ans
  backs_so = record {
    comes = λ hs u rest is from b call keep came. (record { moment = length hs; turn = u; there = happens_at t hs (happenings.Turn u) rest is; from = from; keep = keep; came = came }, omega (arith, moment_at t hs));
    calls = λ hs u rest is k up x weight count a i e h below g going back. called_back hs u rest is k up x weight count a i e h g going back below;
    statement = λ hs u rest is k up x weight count a i e h g going statement backed. called_on hs u rest is k up x weight count a i e h g going statement backed;
  }

  pub answers_at : (hs : List Happening) → Part t whole hs → Holds t whole Ans hs
  answers_at hs part = holds_at t whole Ans runs_so passes_so backs_so hs part

  pub run_answers : Holds t whole Ans t.trace
  run_answers = holds_at t whole Ans runs_so passes_so backs_so t.trace (record { rest = []; is = append-nil t.trace })

-- an answer without the moments
pub answer_is : (t : History) (whole : IsLawfulRun t) (o : Option Run) (n : ℕ) (b : BranchId) (call : ℕ) (a : Answer) → AnswerSo t whole (Ans t whole) o n b call a → ((r : Run) × (o ≡ Some r) × AnsweredBy t b call a r) ⊎ WentBack t b call a
answer_is t whole o n b call a (inl ran) = inl ran
answer_is t whole o n b call a (inr back) = inr (back.0, back.1.0)

pub replies_lead_to_runs : RepliesLeadToRuns
replies_lead_to_runs t lawful number x at call weight count a reply good =
    answer_is t lawful (origin_at (trail_at t) number) (trail_at t).moment x.msg.from call a
    ((run_answers t lawful).replies number (packet_post x) (numbered_map packet_post (facts_at t).net.packets number ∙ ap (option_map packet_post) at) call weight count a reply good)

pub kept_answers_lead_to_runs : KeptAnswersLeadToRuns
kept_answers_lead_to_runs t lawful n k up l live below s seen rf is good =
    answer_is t lawful s.answer (trail_at t).moment l.me (works_of k.works l.me).came.last_call rf.result (((run_answers t lawful).calls n k up l live below s seen).kept rf is good)
