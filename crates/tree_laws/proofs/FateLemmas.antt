-- What becomes of a live branch in a happening of a lawful run: it stays live with the tree below it as it was, or it leaves.
use Rattle.std.proofs.Common.{◌≡◌, ◌≢◌, ℕ, ◌||◌, Bool, true, false, if◌then◌else◌, List, [], ◌∷◌, ◌++◌, map, length, Option, Some, None, inl, inr, refl, sym, ap, subst, subst₂, ◌∙◌}
use Rattle.tran_ids.proofs.ListedLemmas.{item_is}
use Rattle.agreement.specs.Events.{Event, Exit, Sealed, Decided, Quiet, Dropped, exit}
use Rattle.node_rules.specs.Data.{BranchId, Live}
use Rattle.node_rules.specs.Data.phases
use Rattle.node_rules.specs.Words.{same, item_at}
use Rattle.node_rules.specs.NodeState.{NodeState, Branch, live_id, live_at, branch_at, work_at, with_work}
use Rattle.node_rules.specs.Turn.{turn_of}
use Rattle.node_rules.proofs.StandLemmas.{live_so}
use Rattle.run_rules.specs.Data.{Turn, Happening}
use Rattle.run_rules.specs.Data.happenings
use Rattle.run_rules.specs.Facts.{Facts, first_facts, place_at, node_at, kept_after, facts_after}
use Rattle.run_rules.specs.Lawful.{MayHappen, History, IsLawfulRun}
use Rattle.run_rules.specs.Branches.{is_among}
use Rattle.run_rules.specs.Births.{births_of, born_at}
use Rattle.run_base_laws.specs.BirthLaws.{Began, LiveIs}
use Rattle.run_base_laws.specs.InTurnLaws.{said_in}
use Rattle.run_base_laws.specs.FreezeLaws.{LeavesStill, StandsStill}
use Rattle.run_base_laws.specs.NodeLaws.{EachFactFrom}
use Rattle.run_base_laws.specs.RunEvents.{lives_at, with_happening, events_after}
use Rattle.run_rules.proofs.AtNodeLemmas.{turn_elsewhere, turn_here}
use Rattle.run_base_laws.proofs.BirthRunLemmas.{born_are_live_or_left, nodes_name_the_born}
use Rattle.run_base_laws.proofs.EventsStandLemmas.{run_stands, nodes_are_as_events, ids_name_their_node}
use Rattle.run_branch_laws.proofs.FreezeLemmas.{working_or}
use Rattle.run_base_laws.proofs.LaterLemmas.{exit_made, stop_added}
use Rattle.run_base_laws.proofs.NodesStandLemmas.{some_or_none}
use Rattle.run_base_laws.proofs.OwnLemmas.{all_found}
use Rattle.run_branch_laws.proofs.StillRunLemmas.{trees_stand_still}
use Rattle.run_base_laws.proofs.TurnEventLemmas.{cases_nat}
use Rattle.tree_laws.proofs.PrefixLemmas.{so_far, f_at, e_at, one_on, more_on, lawful_on}
use Rattle.tree_laws.proofs.BackLemmas.{node_back as back_before}
use Rattle.tree_laws.proofs.SealLemmas.{later_unsealed}
use Rattle.tree_laws.proofs.SiteLemmas.{later_undecided}
use Rattle.tree_laws.specs.RestLaws.{Rests, SameTree, LeavesAtRest}
use Rattle.tree_laws.specs.LeaveLaws.{LeavesSo, LeftSo}
use Rattle.tree_laws.proofs.LeaveLemmas.{all_quiet, was_there}
use Rattle.tree_laws.proofs.RestRunLemmas.{resting_stand_still}
use Rattle.tree_laws.proofs.TimeLemmas.{Part, part_of, part_lawful, may_of, fact_at, born_end}
use Rattle.tree_laws.proofs.AtPart.{at_part}

-- who is among the live branches is found there
pub among_found : (ls : List Live) (b : BranchId) → is_among b (map live_id ls) ≡ true → (l : Live) × (item_at live_id ls b ≡ Some l)
among_found [] b is = absurd cc
among_found (x ∷ ls) b is = by (same x.me b) refl is (among_found ls b)
  where
    by : (q : Bool) → same x.me b ≡ q → (q || is_among b (map live_id ls)) ≡ true → (is_among b (map live_id ls) ≡ true → (l : Live) × (item_at live_id ls b ≡ Some l)) → (l : Live) × ((if q then Some x else item_at live_id ls b) ≡ Some l)
    by true here found rest = (x, refl)
    by false here found rest = rest found

-- a stop drops
stop_drops : (f g : Facts) (n : ℕ) (t : List Event) (b : BranchId) (z : Exit) → exit t b ≡ None → exit (with_happening f g (happenings.Stopped n) t) b ≡ Some z → z ≡ Dropped
stop_drops f g n t b (Sealed m) none is = elim (exit_made b (Sealed m) (stop_added f g n t) is) [ inl old ↦ absurd (cc (old, none)) | inr made ↦ absurd (later_unsealed b m made.0 made.1 made.2) ]
stop_drops f g n t b (Decided m) none is = elim (exit_made b (Decided m) (stop_added f g n t) is) [ inl old ↦ absurd (cc (old, none)) | inr made ↦ absurd (later_undecided b m made.0 made.1 made.2) ]
stop_drops f g n t b Quiet none is = elim (all_quiet [] [] (lives_at (node_at f n)) b t is) [ inl old ↦ absurd (cc (old, none)) | inr said ↦ absurd cc ]
stop_drops f g n t b Dropped none is = refl

module _ (t : History) where
  -- A branch that was live stays so, or leaves.
  pub data Fate (hs : List Happening) (h : Happening) (y : Branch) : Type 0 where
    Stays : (k : NodeState) (z : Branch) → node_at (f_at t (hs ++ h ∷ [])) y.live.me.node ≡ Some k → branch_at k z.live.me ≡ Some z → z.live.me ≡ y.live.me → SameTree y z → Fate hs h y
    Leaves : (x : Exit) → exit (e_at t (hs ++ h ∷ [])) y.live.me ≡ Some x → (x ≢ Dropped → LeavesSo (said_in (f_at t hs)) y.live x) → Fate hs h y

  module _ (hs : List Happening) (h : Happening) (lawful : IsLawfulRun (so_far t hs)) (may : MayHappen t.places t.commands (f_at t hs) h) (k : NodeState) (y : Branch) (up : node_at (f_at t hs) y.live.me.node ≡ Some k) (found : branch_at k y.live.me ≡ Some y) where
    open at_part t hs use {s, f, e}

    abbrev z : History
    z = so_far t (hs ++ h ∷ [])

    abbrev g : Facts
    g = facts_after t.places t.commands f h

    abbrev b : BranchId
    b = y.live.me

    lawful_z : IsLawfulRun z
    lawful_z = lawful_on t.places t.commands (first_facts t.places) hs h lawful may

    live : live_at k b ≡ Some y.live
    live = live_so k b y found

    none : exit e b ≡ None
    none = all_found (λ (l : Live). exit e l.me ≡ None) live_id k.lives b y.live (nodes_are_as_events s lawful b.node k up).0 live

    born : born_at (births_of z) b ≢ None
    born is =
        let placed : LiveIs (Began (births_of s)) y.live = all_found (LiveIs (Began (births_of s))) live_id k.lives b y.live (nodes_name_the_born s lawful b.node k up).0 live in
        let later : Began (births_of z) placed.born = born_end z lawful_z hs (record { rest = h ∷ []; is = refl }) placed.born placed.began in
        let at : born_at (births_of z) b ≡ Some placed.born = subst (λ c. born_at (births_of z) c ≡ Some placed.born) placed.is_me later in
        absurd (cc (at, is))

    same_so : SameTree y y
    same_so = record { peers = refl; weights = refl; changed = refl }

    -- it is found at its node
    found_after : (j : NodeState) → node_at (f_at t (hs ++ h ∷ [])) b.node ≡ Some j → (l : Live) → live_at j b ≡ Some l → ((w : Branch) → branch_at j w.live.me ≡ Some w → w.live.me ≡ b → SameTree y w) → Fate hs h y
    found_after j there l at still =
        let me : l.me ≡ b = item_is live_id j.lives b l at in
        let w : Branch = record { live = l; work = work_at j l.me } in
        let is : branch_at j l.me ≡ Some w = ap (with_work j) (subst (λ c. live_at j c ≡ Some l) (sym me) at) in
        Stays j w there is me (still w is me)

    -- one of a node that is as it was
    as_before : (j : NodeState) → node_at f b.node ≡ Some j → (w : Branch) → branch_at j w.live.me ≡ Some w → w.live.me ≡ b → SameTree y w
    as_before j there w is me =
        let one : Some j ≡ Some k = sym there ∙ up in
        let it : j ≡ k = cc in
        let at : branch_at k b ≡ Some w = subst₂ (λ i c. branch_at i c ≡ Some w) it me is in
        let two : Some w ≡ Some y = sym at ∙ found in
        let here : w ≡ y = cc in
        subst (SameTree y) (sym here) same_so

  module _ (hs : List Happening) (u : Turn) (lawful : IsLawfulRun (so_far t hs)) (may : MayHappen t.places t.commands (f_at t hs) (happenings.Turn u)) (k : NodeState) (y : Branch) (up : node_at (f_at t hs) y.live.me.node ≡ Some k) (found : branch_at k y.live.me ≡ Some y) where
    abbrev f0 : Facts
    f0 = f_at t hs

    abbrev g0 : Facts
    g0 = facts_after t.places t.commands f0 (happenings.Turn u)

    abbrev c : BranchId
    c = y.live.me

    even : length f0.nodes ≡ length f0.records
    even = (run_stands (so_far t hs) lawful).0.even

    -- what the turn leaves of it at its own node, while it is working
    abbrev pub Calmly : Type 0
    Calmly = y.live.phase ≡ phases.Working → (w : Branch) → branch_at (turn_of (place_at t.places u.node) k u.input).after w.live.me ≡ Some w → w.live.me ≡ c → u.node ≡ c.node → SameTree y w

    -- one that rests
    turn_calm : (y.live.phase ≡ phases.Working → Rests (said_in (f_at t hs)) y.live.me y.live.parent y.work) → LeavesAtRest t.places f0 (happenings.Turn u) → Calmly
    turn_calm rests calm working w is me here = calm k (subst (λ i. node_at f0 i ≡ Some k) (sym here) up) y w found (rests working) me is

    -- the turn's own node
    turn_still : u.node ≡ c.node → LeavesStill t.places f0 (happenings.Turn u) → Calmly → (w : Branch) → branch_at (turn_of (place_at t.places u.node) may.0 u.input).after w.live.me ≡ Some w → w.live.me ≡ c → SameTree y w
    turn_still here still calm w is me =
        let at : node_at f0 u.node ≡ Some k = subst (λ i. node_at f0 i ≡ Some k) (sym here) up in
        let it : Some may.0 ≡ Some k = sym may.1.up ∙ at in
        let mine : may.0 ≡ k = cc in
        let there : branch_at (turn_of (place_at t.places u.node) k u.input).after w.live.me ≡ Some w = subst (λ (i : NodeState). branch_at (turn_of (place_at t.places u.node) i u.input).after w.live.me ≡ Some w) mine is in
        elim (working_or y.live.phase) [
          | inl working ↦ calm working w there me here
          | inr other ↦ (let so : StandsStill y w = still k at y w found other me there in record { peers = so.peers; weights = so.weights; changed = so.changed })
        ]

    pub turn_lives : LeavesStill t.places f0 (happenings.Turn u) → Calmly → (j : NodeState) → node_at g0 c.node ≡ Some j → (w : Branch) → branch_at j w.live.me ≡ Some w → w.live.me ≡ c → SameTree y w
    turn_lives still calm j there w is me = elim (cases_nat u.node c.node) [
      | inr other ↦ as_before hs (happenings.Turn u) lawful may k y up found j (sym (turn_elsewhere t.places t.commands f0 even u c.node other).0 ∙ there) w is me
      | inl here ↦ by here u.cut refl
    ]
      where
        at : (cut : Bool) → kept_after cut (Some (turn_of (place_at t.places u.node) may.0 u.input)) ≡ Some j → u.node ≡ c.node → SameTree y w
        at true gone here = absurd cc
        at false some here =
            let it : (turn_of (place_at t.places u.node) may.0 u.input).after ≡ j = cc in
            turn_still here still calm w (subst (λ i. branch_at i w.live.me ≡ Some w) (sym it) is) me

        by : u.node ≡ c.node → (cut : Bool) → u.cut ≡ cut → SameTree y w
        by here cut is_cut =
            let left : node_at g0 u.node ≡ kept_after cut (Some (turn_of (place_at t.places u.node) may.0 u.input))
            = (turn_here t.places t.commands f0 even u may.0 may.1.up).0 ∙ ap (λ q. kept_after q (Some (turn_of (place_at t.places u.node) may.0 u.input))) is_cut in
            at cut (sym left ∙ subst (λ i. node_at g0 i ≡ Some j) (sym here) there) here

    -- who left in it
    pub turn_left : (x : Exit) → exit (events_after t.places t.commands f0 (happenings.Turn u) (e_at t hs)) c ≡ Some x → x ≢ Dropped → LeavesSo (said_in f0) y.live x
    turn_left x is other =
        let clean : exit (e_at t hs) c ≡ None = none hs (happenings.Turn u) lawful may k y up found in
        let left : LeftSo may.0 u.input (said_in f0) c x = was_there t hs lawful u may.0 may.1 c clean x other is in
        let own : left.live.me.node ≡ u.node = all_found (λ (l : Live). l.me.node ≡ u.node) live_id may.0.lives left.live.me left.live (ids_name_their_node (so_far t hs) lawful u.node may.0 may.1.up).lives left.found in
        let node : u.node ≡ c.node = sym own ∙ ap (λ i. i.node) left.is_me in
        let at : node_at f0 u.node ≡ Some k = subst (λ i. node_at f0 i ≡ Some k) (sym node) up in
        let it : Some may.0 ≡ Some k = sym may.1.up ∙ at in
        let mine : may.0 ≡ k = cc in
        let there : live_at k c ≡ Some left.live = subst₂ (λ (i : NodeState) d. live_at i d ≡ Some left.live) mine left.is_me left.found in
        let two : Some left.live ≡ Some y.live = sym there ∙ live_so k c y found in
        let same_live : left.live ≡ y.live = cc in
        subst (λ l. LeavesSo (said_in f0) l x) same_live left.leaves

  module _ (hs : List Happening) where
    abbrev f1 : Facts
    f1 = f_at t hs

    -- a live branch after a happening that is no turn was at its node before
    pub node_back : (h : Happening) → ((u : Turn) → h ≢ happenings.Turn u) → (n : ℕ) (j : NodeState) → node_at (facts_after t.places t.commands f1 h) n ≡ Some j → (w : Branch) → branch_at j w.live.me ≡ Some w → node_at f1 n ≡ Some j
    node_back h not n j up w is = back_before t hs h not n j up w is

    -- nobody leaves in one but by a stop
    pub drops_alone : (h : Happening) → ((u : Turn) → h ≢ happenings.Turn u) → (b : BranchId) (x : Exit) → exit (e_at t hs) b ≡ None → exit (events_after t.places t.commands f1 h (e_at t hs)) b ≡ Some x → x ≡ Dropped
    drops_alone (happenings.Turn u) not b x none is = absurd (not u refl)
    drops_alone (happenings.Stopped m) not b x none is = stop_drops f1 (facts_after t.places t.commands f1 (happenings.Stopped m)) m (e_at t hs) b x none is
    drops_alone (happenings.Started m boot) not b x none is = absurd (cc (none, is))
    drops_alone (happenings.Begun c) not b x none is = absurd (cc (none, is))
    drops_alone (happenings.Cut m n) not b x none is = absurd (cc (none, is))
    drops_alone (happenings.Join m n) not b x none is = absurd (cc (none, is))
    drops_alone (happenings.Lost k) not b x none is = absurd (cc (none, is))

  module _ (hs : List Happening) (lawful : IsLawfulRun (so_far t hs)) where
    -- what is so of it where it is live afterwards, and where it has left
    pub fate_by : (h : Happening) (may : MayHappen t.places t.commands (f_at t hs) h) (k : NodeState) (y : Branch) (up : node_at (f_at t hs) y.live.me.node ≡ Some k) (found : branch_at k y.live.me ≡ Some y)
        → ((j : NodeState) → node_at (facts_after t.places t.commands (f_at t hs) h) y.live.me.node ≡ Some j → (w : Branch) → branch_at j w.live.me ≡ Some w → w.live.me ≡ y.live.me → SameTree y w)
        → ((x : Exit) → exit (events_after t.places t.commands (f_at t hs) h (e_at t hs)) y.live.me ≡ Some x → x ≢ Dropped → LeavesSo (said_in (f_at t hs)) y.live x) → Fate hs h y
    fate_by h may k y up found lives leaves =
        elim (born_are_live_or_left (so_far t (hs ++ h ∷ [])) (lawful_z hs h lawful may k y up found) y.live.me (born hs h lawful may k y up found)) [
          | inl left ↦ elim (some_or_none (exit (e_at t (hs ++ h ∷ [])) y.live.me)) [
            | inl some ↦ Leaves some.0 some.1 (λ other. leaves some.0 (subst (λ x. exit x y.live.me ≡ Some some.0) (more_on t hs h) some.1) other)
            | inr none_is ↦ absurd (left none_is)
          ]
          | inr among ↦ at (node_at (f_at t (hs ++ h ∷ [])) y.live.me.node) refl among
        ]
      where
        at : (o : Option NodeState) → node_at (f_at t (hs ++ h ∷ [])) y.live.me.node ≡ o → is_among y.live.me (lives_at o) ≡ true → Fate hs h y
        at None is among = absurd cc
        at (Some j) is among =
            let l = among_found j.lives y.live.me among in
            found_after hs h lawful may k y up found j is l.0 l.1 (λ w it me. lives j (subst (λ x. node_at x y.live.me.node ≡ Some j) (one_on t hs h) is) w it me)

    -- a happening that is no turn
    fate_apart : (h : Happening) → ((u : Turn) → h ≢ happenings.Turn u) → MayHappen t.places t.commands (f_at t hs) h → (k : NodeState) (y : Branch) → node_at (f_at t hs) y.live.me.node ≡ Some k → branch_at k y.live.me ≡ Some y
        → (y.live.phase ≡ phases.Working → Rests (said_in (f_at t hs)) y.live.me y.live.parent y.work) → Fate hs h y
    fate_apart h not may k y up found rests =
        fate_by h may k y up found (λ j there w is me. as_before hs h lawful may k y up found j (node_back hs h not y.live.me.node j there w is) w is me)
        (λ x is other. absurd (other (drops_alone hs h not y.live.me x (none hs h lawful may k y up found) is)))

    -- each happening
    pub fate : (h : Happening) → ((u : Turn) → h ≡ happenings.Turn u → LeavesStill t.places (f_at t hs) h × LeavesAtRest t.places (f_at t hs) h) → MayHappen t.places t.commands (f_at t hs) h → (k : NodeState) (y : Branch)
        → node_at (f_at t hs) y.live.me.node ≡ Some k → branch_at k y.live.me ≡ Some y → (y.live.phase ≡ phases.Working → Rests (said_in (f_at t hs)) y.live.me y.live.parent y.work) → Fate hs h y
    fate (happenings.Turn u) still may k y up found rests =
        let so = still u refl in
        fate_by (happenings.Turn u) may k y up found (turn_lives hs u lawful may k y up found so.0 (turn_calm hs u lawful may k y up found rests so.1)) (turn_left hs u lawful may k y up found)
    fate (happenings.Stopped m) still may k y up found rests = fate_apart (happenings.Stopped m) (λ u is. absurd cc) may k y up found rests
    fate (happenings.Started m boot) still may k y up found rests = fate_apart (happenings.Started m boot) (λ u is. absurd cc) may k y up found rests
    fate (happenings.Begun x) still may k y up found rests = fate_apart (happenings.Begun x) (λ u is. absurd cc) may k y up found rests
    fate (happenings.Cut a b) still may k y up found rests = fate_apart (happenings.Cut a b) (λ u is. absurd cc) may k y up found rests
    fate (happenings.Join a b) still may k y up found rests = fate_apart (happenings.Join a b) (λ u is. absurd cc) may k y up found rests
    fate (happenings.Lost n) still may k y up found rests = fate_apart (happenings.Lost n) (λ u is. absurd cc) may k y up found rests

-- of each happening of a lawful run
pub fate_of : (t : History) (whole : IsLawfulRun t) (hs : List Happening) (h : Happening) (rest : List Happening) → hs ++ h ∷ rest ≡ t.trace → (k : NodeState) (y : Branch) → node_at (f_at t hs) y.live.me.node ≡ Some k → branch_at k y.live.me ≡ Some y
    → (y.live.phase ≡ phases.Working → Rests (said_in (f_at t hs)) y.live.me y.live.parent y.work) → Fate t hs h y
fate_of t whole hs h rest is k y up found rests =
    let part : Part t whole hs = part_of t whole hs h rest is in
    fate t hs (part_lawful t whole hs part) h
    (λ u turn. (
      fact_at t.places t.commands (LeavesStill t.places) (first_facts t.places) hs h rest (subst (EachFactFrom (LeavesStill t.places) t.places t.commands (first_facts t.places)) (sym is) (trees_stand_still t whole)),
      fact_at t.places t.commands (LeavesAtRest t.places) (first_facts t.places) hs h rest (subst (EachFactFrom (LeavesAtRest t.places) t.places t.commands (first_facts t.places)) (sym is) (resting_stand_still t whole)),
    )) (may_of t whole hs h rest is) k y up found rests
