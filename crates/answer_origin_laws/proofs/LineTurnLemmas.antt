-- What is known as a turn of a lawful run begins, and so what it leaves of the live branches of its node: each that waits leads where its
-- statement was sent.
use Rattle.std.proofs.Common.{◌≡◌, ◌≢◌, ℕ, ◌+◌, ◌<◌, ◌≤◌, true, List, [], ◌∷◌, ◌++◌, length, Option, Some, None, inl, inr, refl, sym, ap, subst, ◌∙◌, arith}
use Rattle.std.specs.Prelude.{IfSome}
use Rattle.std.specs.List.{AllByRecursion}
use Rattle.std.proofs.lemmas.List.{length-append}
use Rattle.tran_ids.proofs.ListedLemmas.{item_is}
use Rattle.node_rules.specs.Data.{BranchId, Durable, Live, Post, Stmt}
use Rattle.node_rules.specs.Data.kinds
use Rattle.node_rules.specs.Data.stmts
use Rattle.node_rules.specs.declared.session.PendingCall.TheVariants as pending
use Rattle.node_rules.specs.declared.work.Going.{Going}
use Rattle.node_rules.specs.declared.work.Work.{Work}
use Rattle.node_rules.specs.Inputs.{IsCall, IsSession}
use Rattle.session_tree.specs.Live.{children_of}
use Rattle.node_rules.specs.NodeState.{NodeState, Branch, live_id, live_at}
use Rattle.node_rules.specs.LiveBranches.{EachLive}
use Rattle.node_rules.specs.Names.{Behind, named_by, ref_of, passed_on, target_of}
use Rattle.node_rules.specs.Sessions.{session_at}
use Rattle.node_rules.specs.Turn.{turn_of, heard}
use Rattle.node_rules.proofs.LiveLemmas.{each_same}
use Rattle.node_rules.proofs.Steps as steps
use Rattle.node_rules.proofs.Steps.{Step, Asked, Goes_to}
use Rattle.node_rules.proofs.HeardLemmas.{sessions_heard}
use Rattle.run_rules.specs.Births.{Born, born_at}
use Rattle.run_base_laws.specs.BirthLaws.{Began, LiveIs, GoesSo}
use Rattle.run_rules.specs.Data.{Turn, Happening}
use Rattle.run_rules.specs.Data.happenings
use Rattle.run_rules.specs.Facts.{Facts, place_at, node_at, records_at}
use Rattle.run_base_laws.specs.InTurnLaws.{packet_post, said_in, newest_exec, NeedsNoRollback}
use Rattle.run_rules.specs.Lawful.{Comes, History, IsLawfulRun}
use Rattle.run_base_laws.specs.RunEvents.{events_of}
use Rattle.run_base_laws.proofs.BirthLemmas.{news_of}
use Rattle.run_base_laws.proofs.BirthRunLemmas.{StandBorn, run_births, messages_are_of_neighbors, nodes_name_the_born}
use Rattle.run_base_laws.proofs.BirthsStandLemmas.{all_unborn}
use Rattle.run_base_laws.proofs.CodeLemmas.{AllNeed, codes_on}
use Rattle.run_base_laws.proofs.CallTurnLemmas.{in_turn_goes}
use Rattle.run_base_laws.proofs.EventsStandLemmas.{node_so, owned_so, ids_name_their_node}
use Rattle.run_base_laws.proofs.InTurnLemmas as turns
use Rattle.run_base_laws.proofs.InTurnRunLemmas as calls
use Rattle.run_base_laws.proofs.InTurnRunLemmas.{CallsOf, NodeCalls, CallsStand, each_both, heard_calls, run_calls}
use Rattle.run_base_laws.proofs.InTurnStepLemmas.{Granted}
use Rattle.run_base_laws.proofs.KidLemmas.{edge_of, parent_in, parent_of, kids_of, above_of}
use Rattle.run_base_laws.proofs.LawfulLemmas.{serves}
use Rattle.run_rules.proofs.ListLemmas.{all_weaker, all_map}
use Rattle.run_base_laws.proofs.NeighborLemmas.{News}
use Rattle.run_base_laws.proofs.OwnLemmas.{all_found}
use Rattle.run_base_laws.proofs.RestLemmas.{RootIs, live_root, free_waits}
use Rattle.run_base_laws.proofs.RestRunLemmas.{NodeRests, heard_rests, free_by, RootsStand, turned, run_roots}
use Rattle.run_base_laws.proofs.RootLemmas.{SessionsFit}
use Rattle.run_base_laws.proofs.SaidPostLemmas.{unborn_silent}
use Rattle.run_base_laws.proofs.StoredLemmas.{records_are_kept}
use Rattle.tree_laws.proofs.PrefixLemmas.{f_at}
use Rattle.tree_trail_laws.proofs.CallLemmas.{call_free}
use Rattle.answer_origin_laws.proofs.CatalogLemmas.{extends_same, catalog, catalog_on}
use Rattle.answer_origin_laws.proofs.GivenLemmas.{GivenLast, CalledLast, last_soon, still_known}
use Rattle.answer_origin_laws.proofs.LineGrowLemmas.{line_grows}
use Rattle.answer_origin_laws.proofs.LineLemmas.{is_calling, OpensLow, Line}
use Rattle.answer_origin_laws.proofs.LineBranchLemmas.{LineOf, Lines, Fresh, Known, LeavesSo}
use Rattle.answer_origin_laws.proofs.LineStepLemmas.{lines_on}
use Rattle.answer_origin_laws.proofs.NameLemmas.{OneCatalog, catalog_kept}
use Rattle.answer_origin_laws.proofs.NoCallLemmas.{IsNoCall}
use Rattle.answer_origin_laws.proofs.OpenSentLemmas.{opened_sent}
use Rattle.answer_origin_laws.proofs.TurnTaleLemmas as tales
use Rattle.tree_laws.proofs.AtTurn.{at_turn}

module _ (t : History) (whole : IsLawfulRun t) where
  -- the live branches of a node
  abbrev pub LinesOf : List Happening → ℕ → Durable → List Post → NodeState → Type 0
  LinesOf hs n D said k = EachLive (λ l w. Line (place_at t.places n) D (GivenLast t whole hs) (CalledLast t whole hs) said (NeedsNoRollback k l) l.me l.edges w) k.lives k.works

  abbrev pub LinesAt : List Happening → Facts → Type 0
  LinesAt hs f = (n : ℕ) (k : NodeState) → node_at f n ≡ Some k → LinesOf hs n (catalog t whole hs n) (said_in f) k

  abbrev pub BranchStatus : List Happening → Type 0
  BranchStatus hs = LinesAt hs (f_at t hs)

  -- ---- a turn

  module _ (hs : List Happening) (u : Turn) (rest : List Happening) (is : hs ++ happenings.Turn u ∷ rest ≡ t.trace) (now : BranchStatus hs) where
    open at_turn t whole hs u rest is use {after as hs1, part as part0, part_after as part1, s as s0, lawful as lawful0, f as f0, g as f1, may, k, p, d, said, bs as bs0}

    abbrev D0 : Durable
    D0 = catalog t whole hs u.node

    stand : StandBorn t.places t.commands t.of_a_script.each f0 (events_of s0) bs0
    stand = run_births s0 lawful0

    roots : RootsStand t.places t.commands t.of_a_script.each f0
    roots = run_roots s0 lawful0

    stands : CallsStand f0
    stands = run_calls s0 lawful0

    number : p.number ≡ u.node
    number = tales.number t whole hs u rest is

    abbrev Here : BranchId → Type 0
    Here = calls.Here t.places t.commands t.of_a_script.each f0 (events_of s0) bs0 stand roots stands u k may.1

    abbrev May : BranchId → Type 0
    May = calls.May t.places t.commands t.of_a_script.each f0 (events_of s0) bs0 stand roots stands u k may.1

    rests : NodeRests k
    rests = subst (λ o. IfSome o NodeRests) may.1.up (roots u.node)

    rests_after : NodeRests d.after
    unfolding turn_of
    rests_after = turned t.places t.commands t.of_a_script.each f0 (events_of s0) bs0 stand roots u k may.1

    step : Step p u.input (heard k u.input) d
    step = (serves t.places f0 u k may.1).step

    codes : AllNeed k.sessions d.after.sessions
    codes = subst (λ ss. AllNeed ss d.after.sessions) (sessions_heard k u.input) (codes_on p u.input step)

    -- a root that may go on after the turn needed no rollback before it
    goes_before : (b : BranchId) (l : Live) → live_at k b ≡ Some l → (l.parent ≡ None → May l.me) → NeedsNoRollback k l
    goes_before b l live goes none =
        let may_go : May l.me = goes none in
        let before : (session_at k.sessions l.me.session).root ≡ Some l.me = (live_root k rests.1 b l live none).root in
        let me : may_go.0.me ≡ l.me = item_is live_id d.after.lives l.me may_go.0 may_go.1 in
        let after : (session_at d.after.sessions l.me.session).root ≡ Some l.me
        = subst (λ c. (session_at d.after.sessions c.session).root ≡ Some c) me (live_root d.after rests_after.1 l.me may_go.0 may_go.1 may_go.2).root in
        codes l.me.session l.me before after may_go.3

    abbrev Begun : Live → Work → Type 0
    Begun = turns.Begun (edge_of bs0) (parent_of bs0) May Here u.input said

    begun : EachLive Begun (heard k u.input).lives (heard k u.input).works
    begun =
        heard_calls Begun k u.input
        (each_same (λ l w. CallsOf said k l w × RootIs k.sessions l w) Begun k.lives k.works
        (each_both (CallsOf said k) (RootIs k.sessions) k.lives k.works (subst (λ o. IfSome o (NodeCalls said)) may.1.up (stands.nodes u.node)) rests.1)
        (λ y v live any was. record {
          turn = in_turn_goes (NeedsNoRollback k y) (y.parent ≡ None → May y.me) said y.me y.parent (children_of y) v (goes_before y.me y live) was.0;
          kids = kids_of bs0 y (all_found (LiveIs (Began bs0)) live_id k.lives y.me y (nodes_name_the_born s0 lawful0 u.node k may.1.up).0 live);
          above = above_of bs0 y (all_found (LiveIs (Began bs0)) live_id k.lives y.me y (nodes_name_the_born s0 lawful0 u.node k may.1.up).0 live);
          idle = λ none s call. (free_waits (session_at k.sessions y.me.session).call y.phase v.going (was.1 none).waits (free_by f0 k u.node y.me.session (Some s) u.took (subst (λ i. Comes f0 k u.node i u.took) call may.1.comes))).1;
          here = all_found (λ l. l.me.node ≡ u.node) live_id k.lives y.me y (ids_name_their_node s0 lawful0 u.node k may.1.up).lives live ∙ sym number;
        }))

    -- no call comes to the session of a branch that waits
    uncalled : (y : Live) (v : Work) (g : Going) → live_at k y.me ≡ Some y → RootIs k.sessions y v → v.going ≡ Some g → IsNoCall y.me.node y.me.session (happenings.Turn u)
    uncalled y v g live root going here s call = by y.parent refl
      where
        free : IsSession y.me.session × ((session_at k.sessions y.me.session).call ≡ pending.NoCall)
        free = call_free f0 k u.node u.input u.took y.me.session s call may.1.comes

        by : (o : Option BranchId) → y.parent ≡ o → ⊥
        by None none = let rest_is : v.going ≡ None = (free_waits (session_at k.sessions y.me.session).call y.phase v.going (root none).waits free.1).1 in absurd (cc (rest_is, going))
        by (Some b) above =
            let high : 65 ≤ y.me.session = all_found (λ (l : Live). l.parent ≢ None → 65 ≤ l.me.session) live_id k.lives y.me y rests.0.above live (λ none. (let both : None ≡ Some b = sym none ∙ above in absurd cc)) in
            absurd (omega (arith, high, free.0.1))

    abbrev R : Type 0
    R = turns.Received (edge_of bs0) (parent_of bs0) May Here u.input said

    received : R
    received = calls.received t.places t.commands t.of_a_script.each f0 (events_of s0) bs0 stand roots stands u k may.1

    granted : Granted (edge_of bs0) (parent_of bs0) May Here u.input said received d
    unfolding received
    granted = calls.granted t.places t.commands t.of_a_script.each f0 (events_of s0) bs0 stand roots stands u k may.1

    -- a branch that has not begun sent no Open
    unopened : (b : BranchId) → born_at bs0 b ≡ None → OpensLow p D0 (GivenLast t whole hs1) (CalledLast t whole hs1) said b 0
    unopened b none =
        all_map (λ (x : Post). x.from ≡ b → (edge : ℕ) (root : BranchId) (depth : ℕ) (read_at : Option ℕ) → x.kind ≡ kinds.Open edge root depth read_at → edge ≤ 0) packet_post f0.net.packets
        (all_weaker _ _ (λ x goes from edge root depth read_at kind.
        (let opens : GoesSo (Began bs0) x.msg.from x.msg.to (kinds.Open edge root depth read_at) = subst (GoesSo (Began bs0) x.msg.from x.msg.to) kind goes in
        let at : born_at bs0 b ≡ Some opens.0 = subst (λ c. born_at bs0 c ≡ Some opens.0) (opens.2 ∙ from) opens.1 in
        absurd (cc (at, none)))) f0.net.packets (messages_are_of_neighbors s0 lawful0))

    news : News (Fresh (edge_of bs0) (parent_of bs0) May Here u.input said received p D0 (GivenLast t whole hs1) (CalledLast t whole hs1)) p u.input (heard k u.input)
    news =
        news_of _ p k u.input
        (all_weaker (λ (y : Born). born_at bs0 y.me ≡ None) _ (λ y none. ((unborn_silent bs0 stand.1.trees y.me none f0.net.packets stand.1.said, ap parent_in none), unopened y.me none)) _
        (all_unborn t.places t.commands t.of_a_script.each f0 (events_of s0) bs0 u k stand.0.1 stand.0.0.even (node_so t.places t.commands t.of_a_script.each f0 (events_of s0) stand.0)
        (owned_so t.places t.commands t.of_a_script.each f0 (events_of s0) stand.0) may.1 number stand.1))

    given_so : {j : NodeState} {x : Branch} {s : Stmt} {given : ℕ} → SessionsFit j → Here x.live.me → Asked j u.input x s given → GivenLast t whole hs1 x.live.me x.work.came.last_call (Some s)
    given_so ss here (steps.By_call n x s call rows has code live may) = (
      record { before = hs; turn = u; rest = rest; is = is; how = inr (subst (λ m. IsCall u.input m s) (sym (ss.roots.each n x.live.me has)) call, rows, sym (here ∙ number)) },
      record { later = []; since = refl; quiet = tt },
    )
    given_so ss here (steps.By_exec x from call given advice s came live runs) = (record { before = hs; turn = u; rest = rest; is = is; how = inl (from, given, advice, came) }, record { later = []; since = refl; quiet = tt })

    backs_so : {j : NodeState} {x : Branch} {step : ℕ} → SessionsFit j → Here x.live.me → Goes_to j u.input x step → GivenLast t whole hs1 x.live.me x.work.came.last_call None
    backs_so ss here (steps.By_rollback_to n x name _ call has code live set) = (
      record { before = hs; turn = u; rest = rest; is = is; how = inr (name, subst (λ m. IsCall u.input m (stmts.RollbackTo name)) (sym (ss.roots.each n x.live.me has)) call, sym (here ∙ number)) },
      record { later = []; since = refl; quiet = tt },
    )
    backs_so ss here (steps.By_back x from call keep came live runs) = (record { before = hs; turn = u; rest = rest; is = is; how = inl (from, keep, came) }, record { later = []; since = refl; quiet = tt })

    calls_so : (me c : BranchId) (n last : ℕ) (s : Stmt) (link table : List ℕ) → Here me → GivenLast t whole hs1 me last (Some s) → named_by D0 (ref_of s) ≡ Behind link table → target_of p D0 link ≡ Some c.node → newest_exec said me c < n
        → CalledLast t whole hs1 me c n last s (passed_on s table)
    calls_so me c n last s link table here gave named leads unmade =
        let at : u.node ≡ me.node = sym (here ∙ number) in (
          record {
            given = gave.0;
            before = hs;
            part = part0;
            since = (let it : length hs1 ≡ length hs + 1 = length-append hs (happenings.Turn u ∷ []) in omega (arith, it, last_soon t whole hs1 me last (Some s) gave.0 gave.1));
            link = link;
            table = table;
            named = subst (λ m. named_by (catalog t whole hs m) (ref_of s) ≡ Behind link table) at named;
            leads = subst (λ m. target_of (place_at t.places m) (catalog t whole hs m) link ≡ Some c.node) at leads;
            unmade = unmade;
            passes = refl;
          },
          gave.1,
        )

    known : Known (edge_of bs0) (parent_of bs0) May Here u.input said received p D0 (GivenLast t whole hs1) (CalledLast t whole hs1)
    known = record {
      given = given_so;
      backs = backs_so;
      calls = calls_so;
      opened = λ from to edge strength came. (let o = opened_sent t whole hs u rest is from to edge strength came in (o.number, o.sent, o.at, o.from, o.root, o.depth, o.read_at, o.kind, o.to));
    }

    cat : OneCatalog (heard k u.input).stored.durable D0
    cat = subst (λ s. OneCatalog s.durable D0) (sym (tales.heard_stored t whole hs u rest is u.input)) (catalog_kept k (records_at f0 u.node) (records_are_kept s0 lawful0 u.node k may.1.up))

    abbrev Before : Live → Work → Type 0
    Before l w = Line p D0 (GivenLast t whole hs) (CalledLast t whole hs) said (NeedsNoRollback k l) l.me l.edges w

    -- as the turn begins
    lines0 : Lines (edge_of bs0) (parent_of bs0) May Here u.input said received p D0 (GivenLast t whole hs1) (CalledLast t whole hs1) said (heard k u.input)
    lines0 =
        heard_calls (LineOf (edge_of bs0) (parent_of bs0) May Here u.input said received p D0 (GivenLast t whole hs1) (CalledLast t whole hs1) said) k u.input
        (each_same (λ l w. Before l w × RootIs k.sessions l w) (LineOf (edge_of bs0) (parent_of bs0) May Here u.input said received p D0 (GivenLast t whole hs1) (CalledLast t whole hs1) said) k.lives k.works
        (each_both Before (RootIs k.sessions) k.lives k.works (now u.node k may.1.up) rests.1)
        (λ y v live any was. line_grows p D0 D0 (extends_same D0) (GivenLast t whole hs) (GivenLast t whole hs1) (CalledLast t whole hs) (CalledLast t whole hs1) said (NeedsNoRollback k y) (y.parent ≡ None → May y.me) (goes_before y.me y live) y.me y.edges v
        (λ g going. still_known t whole hs (happenings.Turn u) y.me (uncalled y v g live was.1 going)) was.0))

    lines1 : LeavesSo (edge_of bs0) (parent_of bs0) May Here u.input said received p D0 (GivenLast t whole hs1) (CalledLast t whole hs1) d.after.lives d.after.works d.says
    lines1 = lines_on (edge_of bs0) (parent_of bs0) May Here u.input said received p D0 (GivenLast t whole hs1) (CalledLast t whole hs1) known (λ b at. at) step granted (heard_rests k u.input rests).0 news cat begun lines0

    -- and so do the branches that it leaves
    pub lines_after : LinesOf hs1 u.node (catalog t whole hs1 u.node) (said ++ d.says) d.after
    unfolding turn_of
    lines_after =
        each_same (LineOf (edge_of bs0) (parent_of bs0) May Here u.input said received p D0 (GivenLast t whole hs1) (CalledLast t whole hs1) (said ++ d.says)) _ d.after.lives d.after.works lines1.0
        (λ y v live any was. line_grows p D0 (catalog t whole hs1 u.node) (catalog_on t whole u.node hs (happenings.Turn u ∷ []) part1) (GivenLast t whole hs1) (GivenLast t whole hs1) (CalledLast t whole hs1) (CalledLast t whole hs1) (said ++ d.says)
        (y.parent ≡ None → May y.me) (NeedsNoRollback d.after y) (λ goes none. (y, live, none, goes none)) y.me y.edges v (λ g going. record { given = λ call o it. it; called = λ c n call s goes it. it }) was)

    -- whose calls are sent by branches of its node
    pub calls_here : AllByRecursion (λ (x : Post). is_calling x.kind ≡ true → x.from.node ≡ p.number) d.says
    calls_here = lines1.1
