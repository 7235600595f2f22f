-- In every lawful run floors that stand at a moment stand later, where no root was taken back below its own meanwhile.
use Rattle.std.proofs.Common.{◌≡◌, ◌≤◌, ◌<◌, ◌-◌, ℕ, Bool, true, false, List, [], ◌∷◌, ◌++◌, length, map, option_map, take, drop, Option, Some, None, inl, inr, refl, sym, ap, subst, ◌∙◌, arith, append-nil}
use Rattle.std.specs.List.{AllByRecursion}
use Rattle.std.proofs.lemmas.Bool.{cases_eq}
use Rattle.tran_ids.proofs.ListedLemmas.{item_is}
use Rattle.tran_ids.proofs.NumberedLemmas.{set_or_before}
use Rattle.node_rules.specs.Data.{BranchId, Live, Place, Post, Task}
use Rattle.node_rules.specs.Data.kinds
use Rattle.node_rules.specs.Data.stmts
use Rattle.node_rules.specs.Data.tasks
use Rattle.node_rules.specs.declared.session.Session.{Session}
use Rattle.node_rules.specs.declared.work.Work.{Work}
use Rattle.node_rules.specs.Inputs.{Came, IsCall}
use Rattle.node_rules.specs.Client.{back_call, back_by, back_to_savepoint, counted, root_at, root_by}
use Rattle.node_rules.specs.Calls.{goes_back}
use Rattle.node_rules.specs.LiveBranches.{EachLive, works_of}
use Rattle.node_rules.specs.Marks.{savepoint_at}
use Rattle.node_rules.specs.NodeState.{NodeState, Branch, TurnDraft, live_id, live_at, branch_at, with_work, work_at}
use Rattle.node_rules.specs.Sessions.{session_at}
use Rattle.node_rules.specs.Turn.{draft_of, heard, output_of, turn_of, start_of}
use Rattle.node_rules.specs.Words.{numbered, set_numbered}
use Rattle.node_rules.proofs.LiveLemmas.{branch_parts, none_live, work_is}
use Rattle.node_rules.proofs.StandLemmas.{live_so}
use Rattle.node_rules.proofs.Steps.{Step, HasRoot}
use Rattle.run_rules.specs.Births.{Born, born_at, births_of, births_by}
use Rattle.run_rules.specs.Data.{Turn, Happening}
use Rattle.run_rules.specs.Data.happenings
use Rattle.run_rules.specs.Facts.{Facts, flat, node_at, place_at, outcome_at, served, facts_after, kept_after, with_boot}
use Rattle.run_rules.specs.Lawful.{MayHappen, IsOwed, History, IsLawfulRun}
use Rattle.run_rules.specs.Runs.{answered_by, is_refused}
use Rattle.run_rules.specs.Trail.{step_back}
use Rattle.run_rules.specs.Data.{Packet}
use Rattle.tree_trail_laws.proofs.MomentLemmas.{tr_at}
use Rattle.tree_trail_laws.proofs.SeenLemmas.{brings}
use Rattle.run_rules.proofs.AtNodeLemmas.{turn_here, turn_elsewhere}
use Rattle.run_rules.proofs.ListLemmas.{all_weaker, all_append}
use Rattle.run_base_laws.specs.BirthLaws.{Began, IsChild, IsChildAt, GoesSo, LiveIs}
use Rattle.run_base_laws.specs.InTurnLaws.{post_of, packet_post, said_in}
use Rattle.run_base_laws.specs.RunEvents.{events_of}
use Rattle.run_base_laws.proofs.BirthLemmas.{news_of}
use Rattle.run_base_laws.proofs.BirthRunLemmas.{StandBorn, run_births, messages_are_of_neighbors, nodes_name_the_born}
use Rattle.run_base_laws.proofs.BirthsStandLemmas.{came_so, all_unborn}
use Rattle.run_base_laws.proofs.EventsStandLemmas.{node_so, owned_so}
use Rattle.run_base_laws.proofs.InTurnRunLemmas.{heard_calls}
use Rattle.run_base_laws.proofs.LawfulLemmas.{serves}
use Rattle.run_base_laws.proofs.NeighborLemmas.{News}
use Rattle.run_base_laws.proofs.NodeLemmas.{kept_alone}
use Rattle.run_base_laws.proofs.OwnLemmas.{all_found}
use Rattle.run_base_laws.proofs.RootLemmas.{counted_session, roots_are_of_sessions}
use Rattle.run_base_laws.proofs.SaidPostLemmas.{posts_back, posts_of, said_after}
use Rattle.run_base_laws.proofs.TurnEventLemmas.{number_is}
use Rattle.tree_laws.proofs.PrefixLemmas.{so_far, f_at, one_on}
use Rattle.tree_laws.proofs.TimeLemmas.{Part, part_of, part_lawful, may_of, keep_on, born_end}
use Rattle.tree_trail_laws.proofs.CallLemmas.{call_free}
use Rattle.tree_trail_laws.proofs.SpecialTurnLemmas.{went_back}
use Rattle.tree_trail_laws.proofs.TopBirthLemmas.{born_more}
use Rattle.tree_trail_laws.proofs.TopTurnLemmas.{seen_roots}
use Rattle.answer_origin_laws.proofs.ReplyStandLemmas.{happens_at}
use Rattle.back_laws.specs.BackLaws.{StaysAbove}
use Rattle.back_laws.specs.Floors.{parent_then, parent_in, edge_in, KeepsFloor, BackAbove, FloorsHold}
use Rattle.back_laws.proofs.GoesLemmas as going
use Rattle.back_laws.proofs.KeepLemmas as floors
use Rattle.back_laws.proofs.NoteLemmas as notes
use Rattle.back_laws.proofs.StayLemmas.{back_is, between, length_last, take_length, take_parts, tops}

pub unmapped : (P : Post → Type 0) (xs : List Packet) → AllByRecursion P (map packet_post xs) → AllByRecursion (λ x. P (packet_post x)) xs
unmapped P [] all = tt
unmapped P (x ∷ xs) all = (all.0, unmapped P xs all.1)

module _ (t : History) (whole : IsLawfulRun t) (floor : BranchId → ℕ) (moment now : ℕ) (above : (b : BranchId) → parent_in t b ≡ None → StaysAbove t moment now b (floor b)) where
  abbrev P : Live → Work → Type 0
  P = floors.P floor (parent_in t) (edge_in t)

  abbrev Nodes : NodeState → Type 0
  Nodes k = EachLive P k.lives k.works

  abbrev HasNone : BranchId → Type 0
  HasNone b = (floor b ≡ 0) × ((c : BranchId) → parent_in t c ≡ Some b → floor c ≡ 0)

  abbrev AllAbove : List Post → Type 0
  AllAbove ms = AllByRecursion (λ m. BackAbove floor m.to m.kind) ms

  -- What stands after some happenings.
  pub record Holds (hs : List Happening) (f : Facts) : Type 0 where
    pub nodes : (n : ℕ) (k : NodeState) → node_at f n ≡ Some k → Nodes k
    pub said : AllAbove (said_in f)
    pub fresh : (b : BranchId) → born_at (births_of (so_far t hs)) b ≡ None → HasNone b

  -- a branch that began so far began so
  parent_is : (hs : List Happening) → Part t whole hs → (c b : BranchId) → IsChild (Began (births_of (so_far t hs))) c b → parent_in t c ≡ Some b
  parent_is hs part c b is = (let at = born_end t whole hs part is.0 is.1 in ap parent_then (subst (λ a. born_at (births_of t) a ≡ Some is.0) is.2 at) ∙ is.3)

  edge_is : (hs : List Happening) → Part t whole hs → (c b : BranchId) (i : ℕ) → IsChildAt (Began (births_of (so_far t hs))) c b i → edge_in t c ≡ Some i
  edge_is hs part c b i is = (let at = born_end t whole hs part is.0 is.1 in ap (option_map (λ (x : Born). x.edge)) (subst (λ a. born_at (births_of t) a ≡ Some is.0) is.2 at) ∙ ap Some is.4)

  fresh_on : (hs : List Happening) (h : Happening) (rest : List Happening) → hs ++ h ∷ rest ≡ t.trace → ((b : BranchId) → born_at (births_of (so_far t hs)) b ≡ None → HasNone b) → (b : BranchId) → born_at (births_of (so_far t (hs ++ h ∷ []))) b ≡ None → HasNone b
  fresh_on hs h rest is fresh b none = by (born_at (births_of (so_far t hs)) b) refl
    where
      by : (o : Option Born) → born_at (births_of (so_far t hs)) b ≡ o → HasNone b
      by None is_none = fresh b is_none
      by (Some x) some =
          let me : x.me ≡ b = born_me x some in
          let more = born_more t whole hs h rest is b (x, subst (λ c. born_at (births_of (so_far t hs)) c ≡ Some x) (sym me) some, me) in
          let at : born_at (births_of (so_far t (hs ++ h ∷ []))) b ≡ Some more.0 = subst (λ c. born_at (births_of (so_far t (hs ++ h ∷ []))) c ≡ Some more.0) more.2 more.1 in
          absurd (cc (at, none))
        where
          born_me : (x : Born) → born_at (births_of (so_far t hs)) b ≡ Some x → x.me ≡ b
          born_me x at = item_is (λ (y : Born). y.me) (births_of (so_far t hs)) b x at

  -- ---- a turn

  module _ (hs : List Happening) (u : Turn) (rest : List Happening) (is : hs ++ happenings.Turn u ∷ rest ≡ t.trace) (late : moment ≤ length hs) (soon : length hs < now) (holds : Holds hs (f_at t hs)) where
    abbrev f : Facts
    f = f_at t hs

    abbrev s0 : History
    s0 = so_far t hs

    abbrev part : Part t whole hs
    part = part_of t whole hs (happenings.Turn u) rest is

    abbrev may : MayHappen t.places t.commands f (happenings.Turn u)
    may = may_of t whole hs (happenings.Turn u) rest is

    abbrev k : NodeState
    k = may.0

    abbrev p : Place
    p = place_at t.places u.node

    abbrev d : TurnDraft
    d = draft_of p may.0 u.input

    lawful0 : IsLawfulRun s0
    lawful0 = part_lawful t whole hs part

    stand : StandBorn t.places t.commands t.of_a_script.each f (events_of s0) (births_of s0)
    stand = run_births s0 lawful0

    step : Step p u.input (heard k u.input) d
    step = (serves t.places f u k may.1).step

    news : News (floors.IsFresh floor (parent_in t) (edge_in t)) p u.input (heard k u.input)
    news =
        news_of (floors.IsFresh floor (parent_in t) (edge_in t)) p k u.input
        (all_weaker (λ (y : Born). born_at (births_of s0) y.me ≡ None) (λ y. HasNone y.me) (λ y none. holds.fresh y.me none) (births_by p k u.input)
        (all_unborn t.places t.commands t.of_a_script.each f (events_of s0) (births_of s0) u k stand.0.1 stand.0.0.even (node_so t.places t.commands t.of_a_script.each f (events_of s0) stand.0)
        (owned_so t.places t.commands t.of_a_script.each f (events_of s0) stand.0) may.1 (number_is t.places t.commands t.of_a_script.each f u.node k stand.0.1.many may.1.up) stand.1))

    backs : (from to : BranchId) (call keep : ℕ) → Came u.input from to (kinds.Exec call (tasks.GoBack keep)) → floor to < call → floor to ≤ keep
    backs from to call keep came =
        came_so (λ a b kind. BackAbove floor b kind) f (unmapped (λ m. BackAbove floor m.to m.kind) f.net.packets holds.said) k u.node u.input u.took may.1.comes from to (kinds.Exec call (tasks.GoBack keep)) came

    execs : (from to : BranchId) (call : ℕ) (task : Task) → Came u.input from to (kinds.Exec call task) → parent_in t to ≡ Some from
    execs from to call task came = parent_is hs part to from (came_so (GoesSo (Began (births_of s0))) f (messages_are_of_neighbors s0 lawful0) k u.node u.input u.took may.1.comes from to (kinds.Exec call task) came)

    opens : (from to : BranchId) (e strength : ℕ) → Came u.input from to (kinds.Opened e strength) → (parent_in t from ≡ Some to) × (edge_in t from ≡ Some e)
    opens from to e strength came =
        let child = came_so (GoesSo (Began (births_of s0))) f (messages_are_of_neighbors s0 lawful0) k u.node u.input u.took may.1.comes from to (kinds.Opened e strength) came in
        (parent_is hs part from to (child.0, child.1, child.2, child.3), edge_is hs part from to e child)

    -- a root that goes back in a turn that is not cut is not below its floor
    tops_at : u.cut ≡ false → (n : ℕ) (x : Branch) (name : List ℕ) (j : ℕ) → IsCall u.input n (stmts.RollbackTo name) → HasRoot k n x.live.me → (session_at k.sessions n).code ≡ None → branch_at k x.live.me ≡ Some x
        → savepoint_at x.work.marks name ≡ Some j → floor x.live.me ≤ j
    unfolding turn_of
    tops_at uncut n x name j call has code found saved =
        above x.live.me rootless (length hs) u late soon (happens_at t hs (happenings.Turn u) rest is) j (back_is t whole hs u rest is x.live.me ∙ goes)
      where
        rootless : parent_in t x.live.me ≡ None
        rootless =
            let l_live : live_at k x.live.me ≡ Some x.live = live_so k x.live.me x found in
            let born : LiveIs (Began (births_of s0)) x.live = all_found (LiveIs (Began (births_of s0))) live_id k.lives x.live.me x.live (nodes_name_the_born s0 lawful0 u.node k may.1.up).0 l_live in
            ap parent_then (subst (λ a. born_at (births_of t) a ≡ Some born.born) born.is_me (born_end t whole hs part born.born born.began)) ∙ (born.is_parent ∙ (roots_are_of_sessions s0 lawful0 u.node k may.1.up n x.live.me has).1 x.live l_live)

        has_it : HasRoot (counted k n) n x.live.me
        has_it = ap (λ (y : Session). y.root) (counted_session k.sessions n n (session_at k.sessions n).root).1 ∙ has

        no_code : (session_at (counted k n).sessions n).code ≡ None
        no_code = ap (λ (y : Session). y.code) (counted_session k.sessions n n (session_at k.sessions n).root).1 ∙ code

        draft : back_call (counted k n) n name ≡ goes_back (counted k n) x j
        draft =
            ap (λ c. back_by (counted k n) n name c (root_at (counted k n) n)) no_code
            ∙ (ap (λ o. back_by (counted k n) n name None (root_by (counted k n) o)) has_it ∙ (ap (λ o. back_by (counted k n) n name None o) found ∙ ap (back_to_savepoint (counted k n) n name x) saved))

        accepted : is_refused (answered_by (outcome_at t.places f u)) ≡ false
        accepted =
            ap (λ o. is_refused (answered_by (served p u.input o))) may.1.up
            ∙ (ap (λ i. is_refused (answered_by (Some (output_of (draft_of p k i))))) call
            ∙ (ap (λ e. is_refused (answered_by (Some (output_of e)))) draft ∙ (went_back (counted k n) x j (work_is k x.live.me x found)).done))

        goes : step_back x.live.me (brings t.places f (tr_at t hs) u).back ≡ Some j
        goes =
            let free = call_free f k u.node u.input u.took n (Some (stmts.RollbackTo name)) call may.1.comes in
            let it = going.at_root t whole hs u rest is n name call uncut accepted k may.1.up (seen_roots t whole hs part (tops t whole hs part) u.node k may.1.up n free.0 free.1) x j has_it found saved in
            ap (λ b. step_back b (brings t.places f (tr_at t hs) u).back) (sym it.1) ∙ (it.0.goes ∙ ap Some it.2)

    tops_heard : u.cut ≡ false → floors.TopsAt floor (parent_in t) (edge_in t) p u.input backs execs opens (heard k u.input)
    tops_heard uncut n x name j call has code found saved = tops_at uncut n x name j call (subst (λ i. HasRoot i n x.live.me) same_node has) (subst (λ (i : NodeState). (session_at i.sessions n).code ≡ None) same_node code) (subst (λ i. branch_at i x.live.me ≡ Some x) same_node found) saved
      where
        same_node : heard k u.input ≡ k
        same_node = ap (heard k) call

    -- the node after it, and what it says
    left : u.cut ≡ false → Nodes d.after × AllAbove d.says
    left uncut = floors.keeps_on floor (parent_in t) (edge_in t) p u.input backs execs opens step news (tops_heard uncut) (heard_calls P k u.input (holds.nodes u.node k may.1.up))

    turn_holds : Holds (hs ++ happenings.Turn u ∷ []) (facts_after t.places t.commands f (happenings.Turn u))
    unfolding turn_of
    turn_holds = record { nodes = nodes; said = by_cut u.cut refl may.1.owed; fresh = fresh_on hs (happenings.Turn u) rest is holds.fresh }
      where
        here : node_at (facts_after t.places t.commands f (happenings.Turn u)) u.node ≡ kept_after u.cut (Some (turn_of p k u.input))
        here = (turn_here t.places t.commands f stand.0.0.even u k may.1.up).0

        own : (cut : Bool) → u.cut ≡ cut → (j : NodeState) → node_at (facts_after t.places t.commands f (happenings.Turn u)) u.node ≡ Some j → Nodes j
        own true cut j up = (let none : node_at (facts_after t.places t.commands f (happenings.Turn u)) u.node ≡ None = here ∙ ap (λ c. kept_after c (Some (turn_of p k u.input))) cut in absurd (cc (none, up)))
        own false cut j up =
            let after : node_at (facts_after t.places t.commands f (happenings.Turn u)) u.node ≡ Some d.after = here ∙ ap (λ c. kept_after c (Some (turn_of p k u.input))) cut in
            let both : Some d.after ≡ Some j = sym after ∙ up in
            let one : d.after ≡ j = cc in
            subst Nodes one (left cut).0

        nodes : (n : ℕ) (j : NodeState) → node_at (facts_after t.places t.commands f (happenings.Turn u)) n ≡ Some j → Nodes j
        nodes n j up = elim (cases_eq u.node n) [
          | inl at ↦ own u.cut refl j (subst (λ m. node_at (facts_after t.places t.commands f (happenings.Turn u)) m ≡ Some j) (sym at) up)
          | inr other ↦ holds.nodes n j (sym (turn_elsewhere t.places t.commands f stand.0.0.even u n other).0 ∙ up)
        ]

        by_cut : (cut : Bool) → u.cut ≡ cut → IsOwed p k u.input u.wrote u.sent cut → AllAbove (said_in (facts_after t.places t.commands f (happenings.Turn u)))
        by_cut false cut owed =
            let sent : said_in (facts_after t.places t.commands f (happenings.Turn u)) ≡ said_in f ++ d.says
            = said_after t.places t.commands f (happenings.Turn u) ∙ ap (λ xs. said_in f ++ xs) (ap (λ xs. map post_of xs) owed.1 ∙ posts_back d.after.clock d.says) in
            subst AllAbove (sym sent) (all_append (λ (m : Post). BackAbove floor m.to m.kind) (said_in f) d.says holds.said (left cut).1)
        by_cut true cut owed =
            let sent : said_in (facts_after t.places t.commands f (happenings.Turn u)) ≡ said_in f = said_after t.places t.commands f (happenings.Turn u) ∙ (ap (λ xs. said_in f ++ map post_of xs) owed.1 ∙ append-nil (said_in f)) in
            subst AllAbove (sym sent) holds.said

  -- ---- other happenings

  quiet_holds : (hs : List Happening) (h : Happening) (rest : List Happening) → hs ++ h ∷ rest ≡ t.trace → posts_of h ≡ [] → Holds hs (f_at t hs) → ((n : ℕ) (j : NodeState) → node_at (facts_after t.places t.commands (f_at t hs) h) n ≡ Some j → Nodes j)
      → Holds (hs ++ h ∷ []) (facts_after t.places t.commands (f_at t hs) h)
  quiet_holds hs h rest is none holds nodes = record {
    nodes = nodes;
    said = subst AllAbove (sym (said_after t.places t.commands (f_at t hs) h ∙ (ap (λ xs. said_in (f_at t hs) ++ xs) none ∙ append-nil (said_in (f_at t hs))))) holds.said;
    fresh = fresh_on hs h rest is holds.fresh;
  }

  set_node : (hs : List Happening) → Holds hs (f_at t hs) → (n m : ℕ) (o : Option NodeState) → ((j : NodeState) → o ≡ Some j → Nodes j) → (j : NodeState) → flat (numbered (set_numbered (f_at t hs).nodes n o) m) ≡ Some j → Nodes j
  set_node hs holds n m o new j up = elim (set_or_before (f_at t hs).nodes n m o) [
    | inl before ↦ holds.nodes m j (sym (ap flat before) ∙ up)
    | inr set ↦ new j (sym (ap flat set.1) ∙ up)
  ]

  happens : (hs : List Happening) (h : Happening) (rest : List Happening) → hs ++ h ∷ rest ≡ t.trace → moment ≤ length hs → length hs < now → Holds hs (f_at t hs) → Holds (hs ++ h ∷ []) (facts_after t.places t.commands (f_at t hs) h)
  unfolding facts_after start_of
  happens hs (happenings.Turn u) rest is late soon holds = turn_holds hs u rest is late soon holds
  happens hs (happenings.Stopped n) rest is late soon holds = quiet_holds hs (happenings.Stopped n) rest is refl holds (λ m j up. set_node hs holds n m None (λ i none. absurd cc) j up)
  happens hs (happenings.Started n boot) rest is late soon holds =
      quiet_holds hs (happenings.Started n boot) rest is refl holds
      (λ m j up. set_node hs holds n m (Some (start_of (with_boot (f_at t hs) n boot))) (λ i some. (let one : start_of (with_boot (f_at t hs) n boot) ≡ i = cc in subst Nodes one (none_live P))) j up)
  happens hs (happenings.Begun c) rest is late soon holds = quiet_holds hs (happenings.Begun c) rest is refl holds (λ m j up. holds.nodes m j up)
  happens hs (happenings.Cut x y) rest is late soon holds = quiet_holds hs (happenings.Cut x y) rest is refl holds (λ m j up. holds.nodes m j up)
  happens hs (happenings.Join x y) rest is late soon holds = quiet_holds hs (happenings.Join x y) rest is refl holds (λ m j up. holds.nodes m j up)
  happens hs (happenings.Lost x) rest is late soon holds = quiet_holds hs (happenings.Lost x) rest is refl holds (λ m j up. holds.nodes m j up)

  abbrev HoldsFrom : List Happening → Type 0
  HoldsFrom hs = (moment ≤ length hs) × (length hs ≤ now → Holds hs (f_at t hs))

  holds_on : (hs : List Happening) (h : Happening) (rest : List Happening) → hs ++ h ∷ rest ≡ t.trace → HoldsFrom hs → HoldsFrom (hs ++ h ∷ [])
  holds_on hs h rest is from =
      let late = from.0 in
      let more = length_last hs h in
      (omega (arith, late, more), λ low. subst (Holds (hs ++ h ∷ [])) (sym (one_on t hs h)) (happens hs h rest is from.0 (omega (arith, low, more)) (from.1 (omega (arith, low, more)))))

  pub holds_at : (hs mid : List Happening) → Part t whole (hs ++ mid) → HoldsFrom hs → HoldsFrom (hs ++ mid)
  holds_at hs mid part from = keep_on t whole HoldsFrom holds_on hs mid part from

pub floors_hold : FloorsHold
floors_hold t whole moment now low end floor fresh stands above =
    let hs : List Happening = take moment t.trace in
    let mid : List Happening = take (now - moment) (drop moment t.trace) in
    let all : hs ++ mid ≡ take now t.trace = between moment now t.trace low in
    let part : Part t whole (hs ++ mid) = record { rest = drop now t.trace; is = ap (λ xs. xs ++ drop now t.trace) all ∙ take_parts now t.trace } in
    let part0 : Part t whole hs = record { rest = drop moment t.trace; is = take_parts moment t.trace } in
    let long : length hs ≡ moment = take_length moment t.trace (omega (arith, low, end)) in
    let size : length (hs ++ mid) ≡ now = ap length all ∙ take_length now t.trace end in
    let first : Holds t whole floor moment now above hs (f_at t hs) = record {
      nodes = λ n k up. (let fits = kept_alone notes.Nodes notes.notes_keep (so_far t hs) (part_lawful t whole hs part0) n k up in record {
        there = fits.there;
        each = λ b l found. (let me : l.me ≡ b = item_is live_id k.lives b l found in
            let at : branch_at k l.me ≡ Some (record { live = l; work = work_at k l.me }) = ap (with_work k) (subst (λ c. live_at k c ≡ Some l) (sym me) found) in
            (fits.each b l found, subst (λ c. KeepsFloor floor (parent_in t) (edge_in t) l (works_of k.works c)) me (stands.nodes n k up (record { live = l; work = work_at k l.me }) at)));
      });
      said = stands.said;
      fresh = fresh;
    } in
    let after = holds_at t whole floor moment now above hs mid part (omega (arith, long), (λ early. first)) in
    let last = subst (λ xs. Holds t whole floor moment now above xs (f_at t xs)) all (after.1 (omega (arith, size))) in
    record {
      nodes = λ n k up x found. (let parts = branch_parts k x.live.me x found in subst (λ (w : Work). KeepsFloor floor (parent_in t) (edge_in t) x.live w) (sym parts.1) ((last.nodes n k up).each x.live.me x.live parts.0).1);
      said = last.said;
    }
