-- In every lawful run a branch sent the Open of an edge once at most, and a branch that has left sends none.
use Rattle.std.proofs.Common.{◌≡◌, ◌≢◌, ℕ, ◌+◌, ◌<◌, ◌≤◌, ◌⊎◌, Bool, true, false, List, [], ◌∷◌, ◌++◌, map, length, Some, None, inl, inr, refl, sym, ap, subst, ◌∙◌, arith, append-nil}
use Rattle.std.specs.List.{AllByRecursion}
use Rattle.agreement.specs.Events.{exit}
use Rattle.tran_ids.proofs.ListedLemmas.{item_is}
use Rattle.node_rules.specs.Data.{BranchId, Kind, Live, Post, Stmt, Input, Task}
use Rattle.node_rules.specs.Data.admits
use Rattle.node_rules.specs.Data.inputs
use Rattle.node_rules.specs.Data.kinds
use Rattle.node_rules.specs.Calls.{admit}
use Rattle.node_rules.specs.Client.{new_root}
use Rattle.node_rules.specs.Inputs.{Came, IsCall}
use Rattle.node_rules.specs.NodeState.{NodeState, Branch, TurnDraft, live_id, live_at, branch_at, work_at, with_work}
use Rattle.node_rules.specs.declared.work.Work.{Work}
use Rattle.node_rules.specs.Sessions.{session_at}
use Rattle.node_rules.specs.Turn.{turn_of, draft_of, heard}
use Rattle.node_rules.proofs.StandLemmas.{live_so}
use Rattle.node_rules.proofs.Steps as steps
use Rattle.node_rules.proofs.Steps.{HasRoot}
use Rattle.run_rules.specs.Births.{born_at}
use Rattle.run_base_laws.specs.BirthLaws.{Began, GoesSo, IsChild}
use Rattle.run_base_laws.specs.CallLaws.{ComesAtRest}
use Rattle.run_rules.specs.Data.{Turn, Happening}
use Rattle.run_rules.specs.Data.happenings
use Rattle.run_rules.specs.Facts.{Facts, first_facts, place_at, node_at, kept_after, facts_after, facts_of}
use Rattle.run_base_laws.specs.InTurnLaws.{post_of, packet_post, said_in, NeedsNoRollback, exec_number, newest_exec, newest_reply}
use Rattle.run_rules.specs.Lawful.{IsOwed, MayHappen, MayTurn, History, IsLawfulRun}
use Rattle.run_base_laws.specs.NodeLaws.{EachFactFrom}
use Rattle.run_rules.proofs.AtNodeLemmas.{turn_here}
use Rattle.run_base_laws.proofs.BirthLemmas.{news_of}
use Rattle.run_base_laws.proofs.BirthRunLemmas.{StandBorn, run_births, messages_are_of_neighbors, nodes_name_the_born}
use Rattle.run_base_laws.proofs.BirthsStandLemmas.{all_unborn, came_so}
use Rattle.run_base_laws.proofs.EventsStandLemmas.{node_so, owned_so, nodes_are_as_events}
use Rattle.run_base_laws.proofs.InTurnRunLemmas.{branches_call_in_turn, calls_are_answered}
use Rattle.run_base_laws.proofs.LawfulLemmas.{serves}
use Rattle.run_rules.proofs.ListLemmas.{all_weaker, all_map}
use Rattle.run_base_laws.proofs.NeighborLemmas.{News}
use Rattle.run_base_laws.proofs.OwnLemmas.{all_found}
use Rattle.run_base_laws.proofs.RestRunLemmas.{asked_parent, calls_come_at_rest}
use Rattle.run_base_laws.proofs.RootLemmas.{roots_are_of_sessions}
use Rattle.run_base_laws.proofs.SaidPostLemmas.{execs_are_low, posts_back, posts_of, said_after}
use Rattle.run_base_laws.proofs.TurnEventLemmas.{number_is}
use Rattle.tree_laws.proofs.PrefixLemmas.{so_far, f_at, e_at, one_on}
use Rattle.tree_laws.proofs.TimeLemmas.{Part, part_on, part_lawful, may_of, fact_at, keep_on}
use Rattle.answer_origin_laws.proofs.CatalogLemmas.{catalog}
use Rattle.answer_origin_laws.proofs.LineLemmas.{more}
use Rattle.answer_origin_laws.proofs.LineRunLemmas.{GivenBy, CalledAt, stand_at}
use Rattle.commit_leave_laws.specs.StrayLaws.{count_opens, OpensAreSentOnce}
use Rattle.commit_leave_laws.proofs.OpenLemmas.{IsNoOpen, count_more, plain_none, low_none, silent_none, one_counts, one_other}
use Rattle.commit_leave_laws.proofs.OpenStepLemmas.{FindsNext, BeginsNext, OpensNext, OpensOne, opens_on}
use Rattle.tree_laws.proofs.AtTurn.{at_turn}
use Rattle.tree_laws.proofs.AtPart.{at_part}
use Rattle.run_base_laws.proofs.BeginLemmas.{MayBegin, may_begin}
use Rattle.node_rules.specs.Data.tasks

-- a call that is run is above the last
runs_above : (w : _) (call : ℕ) → admit w call ≡ admits.Run → w.last_call < call
unfolding admit
runs_above w call is = grind (arith, is)

-- a client's statement came that may begin a transaction
abbrev pub IsBeginCall : Input → Type 0
IsBeginCall input = (n : ℕ) × (st : Stmt) × IsCall input n st × MayBegin st

module _ (t : History) (whole : IsLawfulRun t) where
  module _ (hs : List Happening) (part : Part t whole hs) where
    open at_part t hs use {f, s}

    lawful : IsLawfulRun s
    lawful = part_lawful t whole hs part

    -- a live branch that waits for nothing, and may go on, opened no edge above its last
    pub opened_low : (n : ℕ) (k : NodeState) → node_at f n ≡ Some k → (l : Live) → live_at k l.me ≡ Some l → NeedsNoRollback k l → (work_at k l.me).going ≡ None → (i : ℕ) → length l.edges < i → count_opens (said_in f) l.me i ≡ 0
    opened_low n k up l live goes rests i above =
        let line = (stand_at t whole hs part n k up).each l.me l live in
        let none : more (place_at t.places n) (catalog t whole hs n) (GivenBy t whole hs) (CalledAt t whole) (work_at k l.me).going ≡ 0 = ap (more (place_at t.places n) (catalog t whole hs n) (GivenBy t whole hs) (CalledAt t whole)) rests in
        low_none (said_in f) l.me (length l.edges + more (place_at t.places n) (catalog t whole hs n) (GivenBy t whole hs) (CalledAt t whole) (work_at k l.me).going) i (line.opens goes) (omega (arith, none, above))

  -- ---- a turn

  module _ (hs : List Happening) (u : Turn) (rest : List Happening) (is : hs ++ happenings.Turn u ∷ rest ≡ t.trace) (k : NodeState) (may : MayTurn t.places (f_at t hs) u k) where
    open at_turn t whole hs u rest is use {f as f0, s as s0, part as part0, lawful as lawful0, said, bs, p}

    abbrev d : TurnDraft
    d = draft_of p k u.input

    -- a client's statement came, or the branch is a child
    abbrev pub Why : BranchId → Type 0
    Why b = IsBeginCall u.input ⊎ ((q : BranchId) × IsChild (Began bs) b q)

    abbrev Q : BranchId → ℕ → Type 0
    Q b i = (count_opens said b i ≡ 0) × (1 ≤ i) × Why b

    branch_heard : (input : Input) (b : BranchId) → branch_at (heard k input) b ≡ branch_at k b
    branch_heard (inputs.Message m) b = refl
    branch_heard (inputs.Call n st) b = refl
    branch_heard (inputs.GiveUp n) b = refl
    branch_heard inputs.Reco b = refl
    branch_heard inputs.Checkpoint b = refl

    -- an Exec that is run finds its branch at rest
    exec_rests : (x : Branch) → branch_at k x.live.me ≡ Some x → (from : BranchId) (call : ℕ) (task : Task) → Came u.input from x.live.me (kinds.Exec call task) → admit x.work.came call ≡ admits.Run
        → (x.live.parent ≢ None) × (x.work.going ≡ None) × IsChild (Began bs) x.live.me from
    exec_rests x found from call task came runs =
        let kind : Kind = kinds.Exec call task in
        let child : IsChild (Began bs) x.live.me from = came_so (GoesSo (Began bs)) f0 (messages_are_of_neighbors s0 lawful0) k u.node u.input u.took may.comes from x.live.me kind came in
        let below : x.live.parent ≢ None = asked_parent bs k (nodes_name_the_born s0 lawful0 u.node k may.up) from x.live.me child x.live (live_so k x.live.me x found) in
        let newest : call ≤ newest_exec said from x.live.me = came_so (λ a b c. exec_number c ≤ newest_exec said a b) f0 (execs_are_low f0) k u.node u.input u.took may.comes from x.live.me kind came in
        let answered : newest_exec said from x.live.me ≤ newest_reply said x.live.me + 1 = calls_are_answered s0 lawful0 from x.live.me in
        let takes = (branches_call_in_turn s0 lawful0 u.node k may.up x found).0 in
        let told : newest_reply said x.live.me ≤ x.work.came.last_call = takes.told in
        let above : x.work.came.last_call < call = runs_above x.work.came call runs in
        (below, takes.rests below (omega (arith, newest, answered, told, above)), child)

    next_of : (x : Branch) → branch_at k x.live.me ≡ Some x → NeedsNoRollback k x.live → x.work.going ≡ None → Why x.live.me → Q x.live.me (length x.live.edges + 1)
    next_of x found goes rests why =
        let live : live_at k x.live.me ≡ Some x.live = live_so k x.live.me x found in
        let both : Some (record { live = x.live; work = work_at k x.live.me }) ≡ Some x = sym (ap (with_work k) live) ∙ found in
        let same_work : work_at k x.live.me ≡ x.work = ap (λ (y : Branch). y.work) (let it : record { live = x.live; work = work_at k x.live.me } ≡ x = cc in it) in
        (opened_low hs part0 u.node k may.up x.live live goes (ap (λ (w : Work). w.going) same_work ∙ rests) (length x.live.edges + 1) (omega arith), omega arith, why)

    rest_at : ComesAtRest t.places f0 (happenings.Turn u)
    rest_at = fact_at t.places t.commands (ComesAtRest t.places) (first_facts t.places) hs (happenings.Turn u) rest (subst (EachFactFrom (ComesAtRest t.places) t.places t.commands (first_facts t.places)) (sym is) (calls_come_at_rest t whole))

    finds : FindsNext Q p u.input (heard k u.input)
    finds x st given (steps.By_call n y sy call rows has code live allowed) =
        let same : heard k u.input ≡ k = ap (heard k) call in
        let root : HasRoot k n y.live.me = subst (λ (j : NodeState). HasRoot j n y.live.me) same has in
        let found : branch_at k y.live.me ≡ Some y = subst (λ (j : NodeState). branch_at j y.live.me ≡ Some y) same live in
        let none : (session_at k.sessions n).code ≡ None = subst (λ (j : NodeState). (session_at j.sessions n).code ≡ None) same code in
        let own : y.live.me.session ≡ n = (roots_are_of_sessions s0 lawful0 u.node k may.up n y.live.me root).0 in
        let begins : steps.BeginsBy k.clock sy None = steps.By_rows sy rows in
        next_of y found (λ top. ap (λ i. (session_at k.sessions i).code) own ∙ none) (rest_at k may.up n (Some sy) call y root found).1 (inl (n, sy, call, may_begin begins))
    finds x st given (steps.By_exec y from call room advice sy came live runs) =
        let found : branch_at k y.live.me ≡ Some y = sym (branch_heard u.input y.live.me) ∙ live in
        let rests = exec_rests y found from call (tasks.Run room advice sy) came runs in
        next_of y found (λ top. absurd (rests.0 top)) rests.1 (inr (from, rests.2))

    -- a branch that has not begun sent no Open
    unopened : (b : BranchId) → born_at bs b ≡ None → AllByRecursion (λ (x : Post). x.from ≡ b → IsNoOpen x.kind) said
    unopened b none = all_map (λ (x : Post). x.from ≡ b → IsNoOpen x.kind) packet_post f0.net.packets (all_weaker _ _ (λ x goes from. by x.msg.from x.msg.to x.msg.kind goes from) f0.net.packets (messages_are_of_neighbors s0 lawful0))
      where
        by : (from to : BranchId) (kind : Kind) → GoesSo (Began bs) from to kind → from ≡ b → IsNoOpen kind
        by sender to (kinds.Open edge root depth read_at) goes from =
            absurd (let at : born_at bs b ≡ Some goes.0 = subst (λ c. born_at bs c ≡ Some goes.0) (goes.2 ∙ from) goes.1 in cc (at, none))
        by sender to _ goes from = tt

    stand : StandBorn t.places t.commands t.of_a_script.each f0 (e_at t hs) bs
    stand = run_births s0 lawful0

    news : News (λ y. born_at bs y.me ≡ None) p u.input (heard k u.input)
    news =
        news_of (λ y. born_at bs y.me ≡ None) p k u.input
        (all_unborn t.places t.commands t.of_a_script.each f0 (e_at t hs) bs u k stand.0.1 stand.0.0.even (node_so t.places t.commands t.of_a_script.each f0 (e_at t hs) stand.0)
        (owned_so t.places t.commands t.of_a_script.each f0 (e_at t hs) stand.0) may (number_is t.places t.commands t.of_a_script.each f0 u.node k stand.0.1.many may.up) stand.1)

    begins : BeginsNext Q p u.input (heard k u.input)
    begins n st read_at call by none i =
        (silent_none said (new_root p (heard k u.input) n) (i + 1) (unopened (new_root p (heard k u.input) n) (news.root n st read_at call by none)), omega arith, inl (n, st, call, may_begin by))

    opens : OpensNext Q p u.input d
    opens = opens_on Q p u.input (serves t.places f0 u k may).step finds begins

    -- what the turn says, unless it was cut
    posts_are : IsOwed p k u.input u.wrote u.sent false → posts_of (happenings.Turn u) ≡ d.says
    unfolding turn_of
    posts_are owed = ap (λ xs. map post_of xs) owed.1 ∙ posts_back d.after.clock d.says

    posts_cut : IsOwed p k u.input u.wrote u.sent true → posts_of (happenings.Turn u) ≡ []
    posts_cut owed = ap (λ xs. map post_of xs) owed.1

    -- an edge is opened for the first time
    pub adds : (b : BranchId) (i : ℕ) → (count_opens (posts_of (happenings.Turn u)) b i ≡ 0) ⊎ (Q b i × (count_opens (posts_of (happenings.Turn u)) b i ≤ 1) × (exit (e_at t (hs ++ happenings.Turn u ∷ [])) b ≡ None))
    unfolding turn_of
    adds b i = by u.cut refl may.owed
      where
        by : (cut : Bool) → u.cut ≡ cut → IsOwed p k u.input u.wrote u.sent cut → (count_opens (posts_of (happenings.Turn u)) b i ≡ 0) ⊎ (Q b i × (count_opens (posts_of (happenings.Turn u)) b i ≤ 1) × (exit (e_at t (hs ++ happenings.Turn u ∷ [])) b ≡ None))
        by true cut owed = inl (ap (λ xs. count_opens xs b i) (posts_cut owed))
        by false cut owed = elim opens [
          | inl plain ↦ inl (ap (λ xs. count_opens xs b i) (posts_are owed) ∙ plain_none d.says b i plain)
          | inr one ↦ elim (one_other one.me one.to one.number one.root one.depth one.read_at b i) [
            | inl other ↦ inl (ap (λ xs. count_opens xs b i) (posts_are owed ∙ one.is) ∙ other)
            | inr it ↦ inr (
              subst (λ c. Q c i) it.0 (subst (Q one.me) it.1 one.so),
              subst (λ xs. count_opens xs b i ≤ 1) (sym (posts_are owed ∙ one.is)) (one_counts (record { from = one.me; to = one.to; kind = kinds.Open one.number one.root one.depth one.read_at }) b i),
              subst (λ c. exit (e_at t (hs ++ happenings.Turn u ∷ [])) c ≡ None) it.0 (lives one cut),
            )
          ]
        ]
          where
            lives : (one : OpensOne Q p u.input d) → u.cut ≡ false → exit (e_at t (hs ++ happenings.Turn u ∷ [])) one.me ≡ None
            lives one whole_turn =
                let after : List Happening = hs ++ happenings.Turn u ∷ [] in
                let lawful_z : IsLawfulRun (so_far t after) = part_lawful t whole after (part_on t whole hs (happenings.Turn u) rest is) in
                let me : one.live.me ≡ one.me = item_is live_id d.after.lives one.me one.live one.found in
                subst (λ c. exit (e_at t after) c ≡ None) me
                (all_found (λ (l : Live). exit (e_at t after) l.me ≡ None) live_id d.after.lives one.me one.live (nodes_are_as_events (so_far t after) lawful_z u.node d.after (up whole_turn)).0 one.found)
              where
                up : u.cut ≡ false → node_at (f_at t (hs ++ happenings.Turn u ∷ [])) u.node ≡ Some d.after
                up uncut =
                    let here : node_at (facts_after t.places t.commands f0 (happenings.Turn u)) u.node ≡ Some d.after = (turn_here t.places t.commands f0 stand.0.0.even u k may.up).0 ∙ ap (λ q. kept_after q (Some (turn_of p k u.input))) uncut in
                    subst (λ (g : Facts). node_at g u.node ≡ Some d.after) (sym (one_on t hs (happenings.Turn u))) here

  -- ---- every happening

  module _ (hs : List Happening) (h : Happening) (rest : List Happening) (is : hs ++ h ∷ rest ≡ t.trace) where
    -- an edge is opened for the first time, by a branch that is live then
    pub adds_any : (b : BranchId) (i : ℕ) → (count_opens (posts_of h) b i ≡ 0) ⊎ ((count_opens (said_in (f_at t hs)) b i ≡ 0) × (1 ≤ i) × (count_opens (posts_of h) b i ≤ 1) × (exit (e_at t (hs ++ h ∷ [])) b ≡ None))
    adds_any b i = by h refl
      where
        by : (y : Happening) → h ≡ y → (count_opens (posts_of h) b i ≡ 0) ⊎ ((count_opens (said_in (f_at t hs)) b i ≡ 0) × (1 ≤ i) × (count_opens (posts_of h) b i ≤ 1) × (exit (e_at t (hs ++ h ∷ [])) b ≡ None))
        by (happenings.Turn u) turn =
            let all : hs ++ happenings.Turn u ∷ rest ≡ t.trace = subst (λ y. hs ++ y ∷ rest ≡ t.trace) turn is in
            let may : MayHappen t.places t.commands (f_at t hs) (happenings.Turn u) = may_of t whole hs (happenings.Turn u) rest all in
            subst (λ y. (count_opens (posts_of y) b i ≡ 0) ⊎ ((count_opens (said_in (f_at t hs)) b i ≡ 0) × (1 ≤ i) × (count_opens (posts_of y) b i ≤ 1) × (exit (e_at t (hs ++ y ∷ [])) b ≡ None))) (sym turn)
            (elim (adds hs u rest all may.0 may.1 b i) [ inl none ↦ inl none | inr new ↦ inr (new.0.0, new.0.1, new.1, new.2) ])
        by (happenings.Stopped m) it = inl (ap (λ y. count_opens (posts_of y) b i) it)
        by (happenings.Started m boot) it = inl (ap (λ y. count_opens (posts_of y) b i) it)
        by (happenings.Begun m) it = inl (ap (λ y. count_opens (posts_of y) b i) it)
        by (happenings.Cut m n) it = inl (ap (λ y. count_opens (posts_of y) b i) it)
        by (happenings.Join m n) it = inl (ap (λ y. count_opens (posts_of y) b i) it)
        by (happenings.Lost m) it = inl (ap (λ y. count_opens (posts_of y) b i) it)

    pub count_on : (b : BranchId) (i : ℕ) → count_opens (said_in (f_at t (hs ++ h ∷ []))) b i ≡ count_opens (said_in (f_at t hs)) b i + count_opens (posts_of h) b i
    count_on b i =
        let said_now : said_in (f_at t (hs ++ h ∷ [])) ≡ said_in (f_at t hs) ++ posts_of h = ap said_in (one_on t hs h) ∙ said_after t.places t.commands (f_at t hs) h in
        ap (λ xs. count_opens xs b i) said_now ∙ count_more (said_in (f_at t hs)) (posts_of h) b i

  abbrev Once : List Happening → Type 0
  Once hs = (b : BranchId) (i : ℕ) → (count_opens (said_in (f_at t hs)) b i ≤ 1) × (count_opens (said_in (f_at t hs)) b 0 ≡ 0)

  once_on : (hs : List Happening) (h : Happening) (rest : List Happening) → hs ++ h ∷ rest ≡ t.trace → Once hs → Once (hs ++ h ∷ [])
  once_on hs h rest is now b i = (low, zero_none)
    where
      low : count_opens (said_in (f_at t (hs ++ h ∷ []))) b i ≤ 1
      low =
          let all = count_on hs h rest is b i in
          let was : count_opens (said_in (f_at t hs)) b i ≤ 1 = (now b i).0 in
          elim (adds_any hs h rest is b i) [ inl none ↦ omega (arith, all, was, none) | inr new ↦ (let none = new.0 in let one = new.2 in omega (arith, all, none, one)) ]

      zero_none : count_opens (said_in (f_at t (hs ++ h ∷ []))) b 0 ≡ 0
      zero_none =
          let all = count_on hs h rest is b 0 in
          let was : count_opens (said_in (f_at t hs)) b 0 ≡ 0 = (now b 0).1 in
          elim (adds_any hs h rest is b 0) [ inl none ↦ omega (arith, all, was, none) | inr new ↦ (let above = new.1 in absurd (omega (arith, above))) ]

  first_once : Once []
  unfolding facts_of
  first_once b i = (omega arith, refl)

  pub opens_once : Once t.trace
  opens_once = keep_on t whole Once once_on [] t.trace (record { rest = []; is = append-nil t.trace }) first_once

pub opens_are_sent_once : OpensAreSentOnce
opens_are_sent_once t whole p i = opens_once t whole p i
