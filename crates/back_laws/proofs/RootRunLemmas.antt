-- What the root of a savepoint noted of its calls up to the SAVEPOINT stays as it is, while the savepoint stands.
use Rattle.std.proofs.Common.{◌≡◌, ◌≤◌, ◌<◌, ℕ, Bool, true, false, List, [], ◌∷◌, ◌++◌, length, drop, Option, Some, None, inl, inr, refl, sym, ap, subst, ◌∙◌, arith, append-nil, if◌then◌else◌, ◌+◌, unwrap_or, replicate, slice_get, zero, suc, is_none}
use Rattle.std.proofs.lemmas.Bool.{cases_eq}
use Rattle.tran_ids.proofs.ListedLemmas.{item_is}
use Rattle.tran_ids.proofs.NumberedLemmas.{set_or_before}
use Rattle.node_rules.specs.Data.{BranchId, Live, Place, Note, Input, Savepoint, Stmt, Task}
use Rattle.node_rules.specs.Data.kinds
use Rattle.node_rules.specs.Inputs.{Came, IsSession, IsCall}
use Rattle.node_rules.specs.NodeState.{NodeState, TurnDraft, live_id, live_at, work_at, Branch, branch_at}
use Rattle.node_rules.specs.Turn.{draft_of, heard, turn_of, start_of, output_of}
use Rattle.node_rules.specs.Words.{numbered, set_numbered}
use Rattle.node_rules.proofs.LiveLemmas.{none_live, work_is}
use Rattle.node_rules.proofs.Steps.{Step, HasRoot}
use Rattle.run_rules.specs.Births.{Born, born_at, births_of, births_by}
use Rattle.run_rules.specs.Data.{Turn, Happening}
use Rattle.run_rules.specs.Data.happenings
use Rattle.run_rules.specs.Facts.{Facts, flat, node_at, place_at, facts_after, kept_after, with_boot, outcome_at, served}
use Rattle.run_rules.specs.Lawful.{MayHappen, History, IsLawfulRun, facts_at}
use Rattle.tree_trail_laws.proofs.MomentLemmas.{tr_at}
use Rattle.run_rules.proofs.AtNodeLemmas.{turn_here, turn_elsewhere}
use Rattle.run_rules.proofs.ListLemmas.{all_weaker}
use Rattle.run_base_laws.specs.RunEvents.{events_of}
use Rattle.run_base_laws.proofs.BirthLemmas.{news_of}
use Rattle.run_base_laws.proofs.BirthRunLemmas.{StandBorn, run_births, messages_are_of_neighbors}
use Rattle.run_base_laws.proofs.BirthsStandLemmas.{came_so, all_unborn}
use Rattle.run_base_laws.proofs.EventsStandLemmas.{node_so, owned_so}
use Rattle.run_base_laws.proofs.LawfulLemmas.{serves}
use Rattle.run_base_laws.proofs.NeighborLemmas.{News}
use Rattle.run_base_laws.proofs.NodeLemmas.{kept_alone}
use Rattle.run_base_laws.proofs.RootLemmas.{SessionsFit, sessions_keep, counted_session, roots_are_of_sessions}
use Rattle.run_base_laws.proofs.TurnEventLemmas.{number_is}
use Rattle.tree_laws.proofs.PrefixLemmas.{so_far, f_at, one_on}
use Rattle.tree_laws.proofs.TimeLemmas.{Part, part_of, part_lawful, may_of, keep_on}
use Rattle.tree_trail_laws.proofs.TopBirthLemmas.{born_more}
use Rattle.back_laws.specs.BackLaws.{StandsSince, StaysAbove, goes_back_to}
use Rattle.back_laws.specs.Floors.{parent_in}
use Rattle.back_laws.proofs.StayLemmas.{length_last, take_length, take_parts, back_is, tops}
use Rattle.back_laws.proofs.RootFixedLemmas as fixed
use Rattle.back_laws.proofs.HoldLemmas as hold
use Rattle.back_laws.specs.LiveTree.{noted_by, noted_in, NotesHold}
use Rattle.tree_laws.specs.DecideLaws.{live_in, live_of}
use Rattle.run_rules.specs.Branches.{Seen, seen_at, is_among}
use Rattle.run_rules.specs.Each.{trail_upto}
use Rattle.node_rules.specs.Data.inputs
use Rattle.node_rules.specs.Sessions.{fresh_session, session_at}
use Rattle.tree_trail_laws.proofs.CallLemmas.{call_free}
use Rattle.back_laws.proofs.FixedRunLemmas.{heard_fit, held_still}
use Rattle.node_rules.specs.Data.stmts
use Rattle.node_rules.specs.declared.session.Session.{Session}
use Rattle.node_rules.specs.Client.{back_call, back_by, back_to_savepoint, counted, root_at, root_by}
use Rattle.node_rules.specs.Calls.{goes_back}
use Rattle.node_rules.specs.Marks.{savepoint_at}
use Rattle.run_rules.specs.Runs.{answered_by, is_refused}
use Rattle.run_rules.specs.Trail.{step_back}
use Rattle.tree_trail_laws.proofs.SeenLemmas.{brings}
use Rattle.run_base_laws.specs.BirthLaws.{Began, GoesSo}
use Rattle.tree_trail_laws.proofs.SpecialTurnLemmas.{went_back}
use Rattle.tree_trail_laws.proofs.TopTurnLemmas.{seen_roots}
use Rattle.answer_origin_laws.proofs.ReplyStandLemmas.{happens_at}
use Rattle.back_laws.proofs.GoesLemmas as going
use Rattle.back_laws.proofs.EarlyLemmas as early
use Rattle.back_laws.proofs.GoesLemmas.{works}
use Rattle.run_base_laws.proofs.RestRunLemmas.{roots_wait}

-- a node that starts has no transactions
fresh_slice : (m i : ℕ) → (unwrap_or (slice_get (replicate m fresh_session) i) fresh_session).root ≡ None
fresh_slice zero i = refl
fresh_slice (suc m) zero = refl
fresh_slice (suc m) (suc i) = fresh_slice m i

fresh_none : (n : ℕ) → (session_at (replicate 64 fresh_session) n).root ≡ None
fresh_none zero = refl
fresh_none (suc i) = fresh_slice 64 i

module _ (t : History) (whole : IsLawfulRun t) (moment now : ℕ) (root : BranchId) (floor : ℕ) (N : List Note) (rootless : parent_in t root ≡ None) (above : StaysAbove t moment now root floor) where
  abbrev T : BranchId → ℕ
  T b = floor

  abbrev Ns : BranchId → List Note
  Ns b = N

  abbrev D : BranchId → Type 0
  D b = b ≡ root

  abbrev Nodes : NodeState → Type 0
  Nodes k = fixed.Nodes T Ns D k

  -- What stands after some happenings.
  pub record Holds (hs : List Happening) (f : Facts) : Type 0 where
    pub node : (k : NodeState) → node_at f root.node ≡ Some k → Nodes k
    pub born : (b : BranchId) → D b → born_at (births_of (so_far t hs)) b ≡ None → ⊥

  born_on : (hs : List Happening) (h : Happening) (rest : List Happening) → hs ++ h ∷ rest ≡ t.trace → ((b : BranchId) → D b → born_at (births_of (so_far t hs)) b ≡ None → ⊥) → (b : BranchId) → D b → born_at (births_of (so_far t (hs ++ h ∷ []))) b ≡ None → ⊥
  born_on hs h rest is born b d none = by (born_at (births_of (so_far t hs)) b) refl
    where
      by : (o : Option Born) → born_at (births_of (so_far t hs)) b ≡ o → ⊥
      by None is_none = born b d is_none
      by (Some x) some =
          let me : x.me ≡ b = item_is (λ (y : Born). y.me) (births_of (so_far t hs)) b x some in
          let more = born_more t whole hs h rest is b (x, subst (λ c. born_at (births_of (so_far t hs)) c ≡ Some x) (sym me) some, me) in
          let at : born_at (births_of (so_far t (hs ++ h ∷ []))) b ≡ Some more.0 = subst (λ c. born_at (births_of (so_far t (hs ++ h ∷ []))) c ≡ Some more.0) more.2 more.1 in
          absurd (cc (at, none))

  -- ---- a turn

  module _ (hs : List Happening) (u : Turn) (rest : List Happening) (is : hs ++ happenings.Turn u ∷ rest ≡ t.trace) (late : moment ≤ length hs) (soon : length hs < now) (holds : Holds hs (f_at t hs)) where
    abbrev f : Facts
    f = f_at t hs

    abbrev s0 : History
    s0 = so_far t hs

    abbrev part : Part t whole hs
    part = part_of t whole hs (happenings.Turn u) rest is

    abbrev may : MayHappen t.places t.commands f (happenings.Turn u)
    may = may_of t whole hs (happenings.Turn u) rest is

    abbrev k : NodeState
    k = may.0

    abbrev p : Place
    p = place_at t.places u.node

    abbrev d : TurnDraft
    d = draft_of p may.0 u.input

    lawful0 : IsLawfulRun s0
    lawful0 = part_lawful t whole hs part

    stand : StandBorn t.places t.commands t.of_a_script.each f (events_of s0) (births_of s0)
    stand = run_births s0 lawful0

    step : Step p u.input (heard k u.input) d
    step = (serves t.places f u k may.1).step

    news : News (fixed.IsFresh T Ns D) p u.input (heard k u.input)
    news =
        news_of (fixed.IsFresh T Ns D) p k u.input
        (all_weaker (λ (y : Born). born_at (births_of s0) y.me ≡ None) (λ y. D y.me → ⊥) (λ y none has. holds.born y.me has none) (births_by p k u.input)
        (all_unborn t.places t.commands t.of_a_script.each f (events_of s0) (births_of s0) u k stand.0.1 stand.0.0.even (node_so t.places t.commands t.of_a_script.each f (events_of s0) stand.0)
        (owned_so t.places t.commands t.of_a_script.each f (events_of s0) stand.0) may.1 (number_is t.places t.commands t.of_a_script.each f u.node k stand.0.1.many may.1.up) stand.1))

    execs : (from to : BranchId) (call : ℕ) (task : Task) → Came u.input from to (kinds.Exec call task) → D to → ⊥
    execs from to call task came me =
        let parent : parent_in t to ≡ Some from = hold.child_began t whole hs part to from (came_so (GoesSo (Began (births_of s0))) f (messages_are_of_neighbors s0 lawful0) k u.node u.input u.took may.1.comes from to (kinds.Exec call task) came) in
        let none : parent_in t to ≡ None = ap (parent_in t) me ∙ rootless in
        absurd (cc (parent, none))

    range : (n : ℕ) (s : Stmt) → IsCall u.input n s → IsSession n
    range n s call = (call_free f k u.node u.input u.took n (Some s) call may.1.comes).0

    -- a root that goes back in a turn that is not cut is not below its floor
    tops_at : u.cut ≡ false → (n : ℕ) (x : Branch) (name : List ℕ) (j : ℕ) → IsCall u.input n (stmts.RollbackTo name) → HasRoot k n x.live.me → (session_at k.sessions n).code ≡ None → branch_at k x.live.me ≡ Some x
        → savepoint_at x.work.marks name ≡ Some j → D x.live.me → floor ≤ j
    unfolding turn_of
    tops_at uncut n x name j call has code found saved me =
        above (length hs) u late soon (happens_at t hs (happenings.Turn u) rest is) j (subst (λ c. goes_back_to t (length hs) u c ≡ Some j) me (back_is t whole hs u rest is x.live.me ∙ goes))
      where
        has_it : HasRoot (counted k n) n x.live.me
        has_it = ap (λ (y : Session). y.root) (counted_session k.sessions n n (session_at k.sessions n).root).1 ∙ has

        no_code : (session_at (counted k n).sessions n).code ≡ None
        no_code = ap (λ (y : Session). y.code) (counted_session k.sessions n n (session_at k.sessions n).root).1 ∙ code

        draft : back_call (counted k n) n name ≡ goes_back (counted k n) x j
        draft =
            ap (λ c. back_by (counted k n) n name c (root_at (counted k n) n)) no_code
            ∙ (ap (λ o. back_by (counted k n) n name None (root_by (counted k n) o)) has_it ∙ (ap (λ o. back_by (counted k n) n name None o) found ∙ ap (back_to_savepoint (counted k n) n name x) saved))

        accepted : is_refused (answered_by (outcome_at t.places f u)) ≡ false
        accepted =
            ap (λ o. is_refused (answered_by (served p u.input o))) may.1.up
            ∙ (ap (λ i. is_refused (answered_by (Some (output_of (draft_of p k i))))) call
            ∙ (ap (λ e. is_refused (answered_by (Some (output_of e)))) draft ∙ (went_back (counted k n) x j (work_is k x.live.me x found)).done))

        goes : step_back x.live.me (brings t.places f (tr_at t hs) u).back ≡ Some j
        goes =
            let free = call_free f k u.node u.input u.took n (Some (stmts.RollbackTo name)) call may.1.comes in
            let it = going.at_root t whole hs u rest is n name call uncut accepted k may.1.up (seen_roots t whole hs part (tops t whole hs part) u.node k may.1.up n free.0 free.1) x j has_it found saved in
            ap (λ b. step_back b (brings t.places f (tr_at t hs) u).back) (sym it.1) ∙ (it.0.goes ∙ ap Some it.2)

    tops_heard : u.cut ≡ false → fixed.TopsAt T Ns D p u.input execs (heard k u.input)
    tops_heard uncut n x name j call has code found saved me = tops_at uncut n x name j call (subst (λ i. HasRoot i n x.live.me) same_node has) (subst (λ (i : NodeState). (session_at i.sessions n).code ≡ None) same_node code) (subst (λ i. branch_at i x.live.me ≡ Some x) same_node found) saved me
      where
        same_node : heard k u.input ≡ k
        same_node = ap (heard k) call

    heard_nodes : (input : Input) → Nodes k → Nodes (heard k input)
    heard_nodes (inputs.Message m) now = now
    heard_nodes (inputs.Call n s) now = now
    heard_nodes (inputs.GiveUp n) now = now
    heard_nodes inputs.Reco now = now
    heard_nodes inputs.Checkpoint now = now

    -- the node after it
    left : u.node ≡ root.node → u.cut ≡ false → Nodes d.after
    left here uncut = fixed.turn_on T Ns D p u.input execs k range step (record {
      new = news;
      fit = heard_fit k u.input (kept_alone SessionsFit sessions_keep s0 lawful0 u.node k may.1.up);
      tops = tops_heard uncut;
      now = heard_nodes u.input (holds.node k (ap (node_at f) (sym here) ∙ may.1.up));
    })

    turn_holds : Holds (hs ++ happenings.Turn u ∷ []) (facts_after t.places t.commands f (happenings.Turn u))
    unfolding turn_of
    turn_holds = record { node = nodes; born = born_on hs (happenings.Turn u) rest is holds.born }
      where
        here : node_at (facts_after t.places t.commands f (happenings.Turn u)) u.node ≡ kept_after u.cut (Some (turn_of p k u.input))
        here = (turn_here t.places t.commands f stand.0.0.even u k may.1.up).0

        own : u.node ≡ root.node → (cut : Bool) → u.cut ≡ cut → (j : NodeState) → node_at (facts_after t.places t.commands f (happenings.Turn u)) u.node ≡ Some j → Nodes j
        own at true cut j up = (let none : node_at (facts_after t.places t.commands f (happenings.Turn u)) u.node ≡ None = here ∙ ap (λ c. kept_after c (Some (turn_of p k u.input))) cut in absurd (cc (none, up)))
        own at false cut j up =
            let after : node_at (facts_after t.places t.commands f (happenings.Turn u)) u.node ≡ Some d.after = here ∙ ap (λ c. kept_after c (Some (turn_of p k u.input))) cut in
            let both : Some d.after ≡ Some j = sym after ∙ up in
            let one : d.after ≡ j = cc in
            subst Nodes one (left at cut)

        nodes : (j : NodeState) → node_at (facts_after t.places t.commands f (happenings.Turn u)) root.node ≡ Some j → Nodes j
        nodes j up = elim (cases_eq u.node root.node) [
          | inl at ↦ own at u.cut refl j (subst (λ m. node_at (facts_after t.places t.commands f (happenings.Turn u)) m ≡ Some j) (sym at) up)
          | inr other ↦ holds.node j (sym (turn_elsewhere t.places t.commands f stand.0.0.even u root.node other).0 ∙ up)
        ]

  -- ---- other happenings

  set_node : (hs : List Happening) → Holds hs (f_at t hs) → (n : ℕ) (o : Option NodeState) → ((j : NodeState) → o ≡ Some j → Nodes j) → (j : NodeState) → flat (numbered (set_numbered (f_at t hs).nodes n o) root.node) ≡ Some j → Nodes j
  set_node hs holds n o new j up = elim (set_or_before (f_at t hs).nodes n root.node o) [
    | inl before ↦ holds.node j (sym (ap flat before) ∙ up)
    | inr set ↦ new j (sym (ap flat set.1) ∙ up)
  ]

  happens : (hs : List Happening) (h : Happening) (rest : List Happening) → hs ++ h ∷ rest ≡ t.trace → moment ≤ length hs → length hs < now → Holds hs (f_at t hs) → Holds (hs ++ h ∷ []) (facts_after t.places t.commands (f_at t hs) h)
  unfolding facts_after start_of
  happens hs (happenings.Turn u) rest is late soon holds = turn_holds hs u rest is late soon holds
  happens hs (happenings.Stopped n) rest is late soon holds = record { node = λ j up. set_node hs holds n None (λ i none. absurd cc) j up; born = born_on hs (happenings.Stopped n) rest is holds.born }
  happens hs (happenings.Started n boot) rest is late soon holds = record {
    node = λ j up. set_node hs holds n (Some (start_of (with_boot (f_at t hs) n boot)))
        (λ i some. (let one : start_of (with_boot (f_at t hs) n boot) ≡ i = cc in subst Nodes one (none_live _, λ m b me has. absurd (let no_root = fresh_none m in cc (has, no_root))))) j up;
    born = born_on hs (happenings.Started n boot) rest is holds.born;
  }
  happens hs (happenings.Begun c) rest is late soon holds = record { node = λ j up. holds.node j up; born = born_on hs (happenings.Begun c) rest is holds.born }
  happens hs (happenings.Cut x y) rest is late soon holds = record { node = λ j up. holds.node j up; born = born_on hs (happenings.Cut x y) rest is holds.born }
  happens hs (happenings.Join x y) rest is late soon holds = record { node = λ j up. holds.node j up; born = born_on hs (happenings.Join x y) rest is holds.born }
  happens hs (happenings.Lost x) rest is late soon holds = record { node = λ j up. holds.node j up; born = born_on hs (happenings.Lost x) rest is holds.born }

  abbrev HoldsFrom : List Happening → Type 0
  HoldsFrom hs = (moment ≤ length hs) × (length hs ≤ now → Holds hs (f_at t hs))

  holds_on : (hs : List Happening) (h : Happening) (rest : List Happening) → hs ++ h ∷ rest ≡ t.trace → HoldsFrom hs → HoldsFrom (hs ++ h ∷ [])
  holds_on hs h rest is from =
      let late = from.0 in
      let more = length_last hs h in
      (omega (arith, late, more), λ low. subst (Holds (hs ++ h ∷ [])) (sym (one_on t hs h)) (happens hs h rest is from.0 (omega (arith, low, more)) (from.1 (omega (arith, low, more)))))

  pub holds_at : (hs mid : List Happening) → Part t whole (hs ++ mid) → HoldsFrom hs → HoldsFrom (hs ++ mid)
  holds_at hs mid part from = keep_on t whole HoldsFrom holds_on hs mid part from

-- ---- the root of a savepoint

module _ (t : History) (whole : IsLawfulRun t) (s : Seen) (v : Savepoint) (since : StandsSince t s v) (b : BranchId) (is : is_among b (hold.tree t whole s v since) ≡ true) where
  abbrev hs1 : List Happening
  hs1 = hold.hs1 t whole s v since

  abbrev f1 : Facts
  f1 = f_at t hs1

  abbrev part1 : Part t whole hs1
  part1 = hold.here1 t whole s v since

  lawful1 : IsLawfulRun (so_far t hs1)
  lawful1 = part_lawful t whole hs1 part1

  abbrev first_moment : ℕ
  first_moment = since.last.moment + 1

  abbrev its_notes : List Note
  its_notes = noted_in f1 s.me v.step

  low1 : first_moment ≤ length t.trace
  low1 = let low = since.last.before in omega (arith, low)

  long1 : length hs1 ≡ first_moment
  long1 = take_length first_moment t.trace low1

  top1 : parent_in t s.me ≡ None
  top1 = hold.rootless t whole s v since b is

  abbrev Stands : List Happening → Facts → Type 0
  Stands hs f = Holds t whole first_moment (length t.trace) s.me v.step its_notes top1 since.above hs f

  module _ (k : NodeState) (up : node_at f1 s.me.node ≡ Some k) where
    first_held : (c : BranchId) (l : Live) → live_at k c ≡ Some l → l.me ≡ s.me → fixed.Held (λ d. v.step) (λ d. its_notes) (λ d. d ≡ s.me) (session_at k.sessions l.me.session).calls l.me (work_at k c)
    first_held c l found me =
        let its : l.me ≡ c = item_is live_id k.lives c l found in
        let same : s.me ≡ c = sym me ∙ its in
        let live : live_in f1 s.me ≡ Some l = ap (λ o. live_of o s.me) up ∙ subst (λ d. live_at k d ≡ Some l) (sym same) found in
        let rests : (work_at k s.me).going ≡ None = subst (λ d. (work_at k d).going ≡ None) me ((hold.root_rests t whole s v since l live).1 k up).0 in
        let held : fixed.Held (λ d. v.step) (λ d. its_notes) (λ d. d ≡ s.me) (session_at k.sessions l.me.session).calls l.me (work_at k s.me) = record {
          notes = ap (λ o. noted_by o s.me v.step) (sym up);
          calm = λ high. rests;
          err = λ g going step errand. absurd (cc (going, rests));
        } in
        subst (λ d. fixed.Held (λ e. v.step) (λ e. its_notes) (λ e. e ≡ s.me) (session_at k.sessions l.me.session).calls l.me (work_at k d)) same held

    first_low : fixed.Low (λ d. v.step) (λ d. its_notes) (λ d. d ≡ s.me) k.sessions
    first_low n c me has =
        let root = hold.root_live t whole s v since b is in
        let l : Live = root.0 in
        let u = hold.up_of t whole hs1 part1 s.me l root.1 in
        let both : Some u.k ≡ Some k = sym u.up ∙ up in
        let one : u.k ≡ k = cc in
        let told = works t whole hs1 part1 s.me.node u.k u.up l (subst (λ d. live_at u.k d ≡ Some l) (sym u.me) u.at) in
        let seen : Some told.0 ≡ Some since.last.began = sym told.1 ∙ (ap (seen_at (tr_at t hs1)) u.me ∙ since.last.its) in
        let same : told.0 ≡ since.last.began = cc in
        let taken : told.0.taken ≡ v.step = ap (λ (y : Seen). y.taken) same ∙ since.step in
        let step : told.0.taken ≡ (session_at u.k.sessions l.me.session).calls = told.2.taken ∙ ap (λ o. if is_none o then (session_at u.k.sessions l.me.session).calls else (work_at u.k l.me).came.last_call) (hold.root_rests t whole s v since l root.1).0 in
        let number : l.me.session ≡ n = ap (λ (d : BranchId). d.session) (u.me ∙ sym me) ∙ (roots_are_of_sessions (so_far t hs1) lawful1 s.me.node k up n c has).0 in
        let calls : v.step ≡ (session_at k.sessions n).calls = sym taken ∙ (step ∙ (ap (λ (j : NodeState). (session_at j.sessions l.me.session).calls) one ∙ ap (λ m. (session_at k.sessions m).calls) number)) in
        subst (λ m. v.step ≤ m) calls (omega arith)

    first_nodes : fixed.Nodes (λ d. v.step) (λ d. its_notes) (λ d. d ≡ s.me) k
    first_nodes =
        let fits = (kept_alone early.Both early.steps_keep (so_far t hs1) lawful1 s.me.node k up).1 in
        (record { there = fits.there; each = λ c l found. (λ top. (fits.each c l found).1 top, λ top. first_held c l found top.0) }, first_low)

  first : Stands hs1 f1
  first = record {
    node = first_nodes;
    born = λ c me none. (let root = hold.root_live t whole s v since b is in hold.is_born t whole hs1 part1 s.me root.0 root.1 (subst (λ d. born_at (births_of (so_far t hs1)) d ≡ None) me none));
  }

  last : Stands t.trace (f_at t t.trace)
  last =
      let all : hs1 ++ drop first_moment t.trace ≡ t.trace = take_parts first_moment t.trace in
      let part : Part t whole (hs1 ++ drop first_moment t.trace) = record { rest = []; is = append-nil (hs1 ++ drop first_moment t.trace) ∙ all } in
      let size : length (hs1 ++ drop first_moment t.trace) ≡ length t.trace = ap length all in
      let long = long1 in
      let after = holds_at t whole first_moment (length t.trace) s.me v.step its_notes top1 since.above hs1 (drop first_moment t.trace) part (omega (arith, long), λ early. first) in
      subst (λ xs. Stands xs (f_at t xs)) all (after.1 (omega (arith, size)))

  here : Part t whole t.trace
  here = record { rest = []; is = append-nil t.trace }

  root_still : (l : Live) → live_in (facts_at t) s.me ≡ Some l → l.parent ≡ None → noted_in (facts_at t) s.me v.step ≡ its_notes
  root_still l live top =
      let u = hold.up_of t whole t.trace here s.me l live in
      let its = roots_wait t whole s.me.node u.k u.up (record { live = l; work = work_at u.k l.me }) u.mine top in
      let held = ((last.node u.k u.up).0.each s.me l u.at).1 (u.me, top, its.root) in
      ap (λ o. noted_by o s.me v.step) u.up ∙ held.notes

  still : (old : Seen) → seen_at (trail_upto t first_moment) b ≡ Some old → (l : Live) → live_in (facts_at t) b ≡ Some l → noted_in (facts_at t) b old.taken ≡ noted_in f1 b old.taken
  still old its l live = by l.parent refl
    where
      by : (o : Option BranchId) → l.parent ≡ o → noted_in (facts_at t) b old.taken ≡ noted_in f1 b old.taken
      by (Some p) some = held_still t whole s v since b is old its l live (λ none. absurd (cc (some, none)))
      by None top = elim (hold.spots t whole s v since b is).way [
        | inl me ↦ (let both : Some old ≡ Some since.last.began = sym its ∙ (ap (seen_at (tr_at t hs1)) me ∙ since.last.its) in
            let one : old ≡ since.last.began = cc in
            let taken : old.taken ≡ v.step = ap (λ (y : Seen). y.taken) one ∙ since.step in
            subst (λ n. noted_in (facts_at t) b n ≡ noted_in f1 b n) (sym taken) (subst (λ d. noted_in (facts_at t) d v.step ≡ noted_in f1 d v.step) (sym me) (root_still l (ap (live_in (facts_at t)) (sym me) ∙ live) top)))
        | inr below ↦ absurd (let parent = (hold.kid_of t whole hs1 part1 below.parent below.live below.number b below.at below.there).parent in
            let none : parent_in t b ≡ None = hold.parent_is t whole t.trace here b l live ∙ top in cc (parent, none))
      ]

pub notes_hold : NotesHold
notes_hold t whole s v since b is old its l live = still t whole s v since b is old its l live
