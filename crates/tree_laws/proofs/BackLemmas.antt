-- A live branch that has asked a child was live before the last happening too, with the same children and weights.
use Rattle.std.proofs.Common.{◌≡◌, ◌≢◌, ℕ, ◌||◌, ◌⊎◌, Bool, true, false, if◌then◌else◌, List, [], ◌∷◌, ◌++◌, map, length, Option, Some, None, inl, inr, refl, sym, ap, subst, ◌∙◌}
use Rattle.tran_ids.proofs.ListedLemmas.{item_is}
use Rattle.tran_ids.proofs.NumberedLemmas.{set_or_before}
use Rattle.session_tree.specs.Live.{children_of}
use Rattle.node_rules.specs.Data.{BranchId, Edge, Live, Post, RedoRecord}
use Rattle.node_rules.specs.Data.phases
use Rattle.node_rules.specs.Words.{same, numbered, set_numbered, item_at}
use Rattle.node_rules.specs.NodeState.{NodeState, Branch, live_id, live_at, branch_at, work_at, with_work}
use Rattle.node_rules.specs.Turn.{turn_of, start_of}
use Rattle.node_rules.proofs.StandLemmas.{live_so}
use Rattle.node_rules.specs.LiveBranches.{EachLive}
use Rattle.node_rules.proofs.LiveLemmas.{none_live}
use Rattle.agreement.specs.Events.{Event, exit}
use Rattle.run_rules.specs.Data.{Turn, Happening}
use Rattle.run_rules.specs.Data.happenings
use Rattle.run_rules.specs.Facts.{Facts, first_facts, place_at, flat, node_at, kept_after, with_boot, facts_after}
use Rattle.run_rules.specs.Lawful.{MayHappen, History, IsLawfulRun}
use Rattle.run_rules.specs.Branches.{is_among}
use Rattle.run_base_laws.specs.RunEvents.{lives_at, events_after, events_of}
use Rattle.run_rules.specs.Births.{births_of, born_at}
use Rattle.run_base_laws.specs.FreezeLaws.{was_asked, StandsStill, LeavesStill}
use Rattle.run_base_laws.specs.InTurnLaws.{said_in}
use Rattle.run_rules.proofs.AtNodeLemmas.{turn_elsewhere, turn_here}
use Rattle.run_base_laws.proofs.BirthLemmas.{turn_left}
use Rattle.run_base_laws.proofs.BirthRunLemmas.{born_are_live_or_left}
use Rattle.run_base_laws.proofs.EventsStandLemmas.{run_stands, nodes_are_as_events, ids_name_their_node}
use Rattle.run_branch_laws.proofs.FreezeRunLemmas.{asked_stand_still}
use Rattle.run_base_laws.proofs.OwnLemmas.{all_found}
use Rattle.run_base_laws.proofs.TurnEventLemmas.{cases_nat}
use Rattle.tree_laws.proofs.AskRunLemmas.{askers_were_asked}
use Rattle.tree_laws.proofs.PrefixLemmas.{so_far, f_at, e_at, one_on, more_on, lawful_on}

-- who is among the live branches is found there
among_found : (ls : List Live) (b : BranchId) → is_among b (map live_id ls) ≡ true → (l : Live) × (item_at live_id ls b ≡ Some l)
among_found [] b is = absurd cc
among_found (x ∷ ls) b is = by (same x.me b) refl is (among_found ls b)
  where
    by : (q : Bool) → same x.me b ≡ q → (q || is_among b (map live_id ls)) ≡ true → (is_among b (map live_id ls) ≡ true → (l : Live) × (item_at live_id ls b ≡ Some l)) → (l : Live) × ((if q then Some x else item_at live_id ls b) ≡ Some l)
    by true here found rest = (x, refl)
    by false here found rest = rest found

module _ (t : History) (before : List Happening) (h : Happening) (lawful : IsLawfulRun (so_far t before)) (may : MayHappen t.places t.commands (f_at t before) h) where
  abbrev pub s : History
  s = so_far t before

  abbrev pub z : History
  z = so_far t (before ++ h ∷ [])

  pub lawful_z : IsLawfulRun z
  lawful_z = lawful_on t.places t.commands (first_facts t.places) before h lawful may

  abbrev pub f : Facts
  f = f_at t before

  abbrev pub e : List Event
  e = e_at t before

  abbrev pub g : Facts
  g = facts_after t.places t.commands f h

  abbrev pub after : List Event
  after = events_after t.places t.commands f h e

  abbrev pub said : List Post
  said = said_in f

  -- The branch as it was before.
  pub record Back (n : ℕ) (y : Branch) : Type 0 where
    pub kept : NodeState
    pub up : node_at f n ≡ Some kept
    pub branch : Branch
    pub found : branch_at kept branch.live.me ≡ Some branch
    pub is_me : branch.live.me ≡ y.live.me
    pub peers : children_of y.live ≡ children_of branch.live
    pub weights : map (λ (c : Edge). c.weight) y.live.edges ≡ map (λ (c : Edge). c.weight) branch.live.edges

  -- it asked, so it is not working
  busy : (n : ℕ) (k : NodeState) → node_at f n ≡ Some k → (x : Branch) → branch_at k x.live.me ≡ Some x → (c : BranchId) → was_asked said x.live.me c ≡ true → x.live.phase ≢ phases.Working
  busy n k up x found c asked working = let no : was_asked said x.live.me c ≡ false = (asked_stand_still s lawful n k up x found).0 working c in absurd (cc (asked, no))

  same_back : (n : ℕ) (k : NodeState) → node_at f n ≡ Some k → (y : Branch) → branch_at k y.live.me ≡ Some y → Back n y
  same_back n k up y found = record { kept = k; up = up; branch = y; found = found; is_me = refl; peers = refl; weights = refl }

  -- a live branch of a node after the happening has no exit, and names the node
  stays_live : (n : ℕ) (j : NodeState) → node_at g n ≡ Some j → (y : Branch) → branch_at j y.live.me ≡ Some y → (exit after y.live.me ≡ None) × (y.live.me.node ≡ n)
  stays_live n j up y found =
      let at : node_at (f_at t (before ++ h ∷ [])) n ≡ Some j = subst (λ x. node_at x n ≡ Some j) (sym (one_on t before h)) up in
      let live : item_at live_id j.lives y.live.me ≡ Some y.live = live_so j y.live.me y found in (
        subst (λ x. exit x y.live.me ≡ None) (more_on t before h) (all_found (λ l. exit (events_of z) l.me ≡ None) live_id j.lives y.live.me y.live (nodes_are_as_events z lawful_z n j at).0 live),
        all_found (λ l. l.me.node ≡ n) live_id j.lives y.live.me y.live (ids_name_their_node z lawful_z n j at).lives live,
      )

module _ (t : History) (before : List Happening) (u : Turn) (lawful : IsLawfulRun (so_far t before)) (may : MayHappen t.places t.commands (f_at t before) (happenings.Turn u)) where
  abbrev f0 : Facts
  f0 = f_at t before

  abbrev BackAt : ℕ → Branch → Type 0
  BackAt = Back t before (happenings.Turn u) lawful may

  -- at the node of the turn
  turn_back : LeavesStill t.places f0 (happenings.Turn u) → (y : Branch) → branch_at (turn_of (place_at t.places u.node) may.0 u.input).after y.live.me ≡ Some y → node_at (facts_after t.places t.commands f0 (happenings.Turn u)) u.node ≡ Some (turn_of (place_at t.places u.node) may.0 u.input).after
      → (c : BranchId) → was_asked (said_in f0) y.live.me c ≡ true → BackAt u.node y
  turn_back still y found there c asked =
      let k : NodeState = may.0 in
      let stays = stays_live t before (happenings.Turn u) lawful may u.node (turn_of (place_at t.places u.node) may.0 u.input).after there y found in
      let asker = askers_were_asked (so_far t before) lawful y.live.me c asked in
      let began : born_at (births_of (so_far t before)) y.live.me ≡ Some asker.0 = subst (λ b. born_at (births_of (so_far t before)) b ≡ Some asker.0) asker.2 asker.1 in
      let among : is_among y.live.me (lives_at (node_at f0 y.live.me.node)) ≡ true
      = elim (born_are_live_or_left (so_far t before) lawful y.live.me (λ none. absurd (cc (began, none)))) [
        | inl left ↦ absurd (turn_left y.live.me f0 (facts_after t.places t.commands f0 (happenings.Turn u)) u (e_at t before) left stays.0)
        | inr here ↦ here
      ] in
      let at : node_at f0 y.live.me.node ≡ Some k = ap (node_at f0) stays.1 ∙ may.1.up in
      let old = among_found k.lives y.live.me (subst (λ o. is_among y.live.me (lives_at o) ≡ true) at among) in
      let l : Live = old.0 in
      let me : l.me ≡ y.live.me = item_is live_id k.lives y.live.me l old.1 in
      let x : Branch = record { live = l; work = work_at k l.me } in
      let live : live_at k l.me ≡ Some l = subst (λ b. live_at k b ≡ Some l) (sym me) old.1 in
      let was : branch_at k l.me ≡ Some x = ap (with_work k) live in
      let same_so : StandsStill x y = still k may.1.up x y was (busy t before (happenings.Turn u) lawful may u.node k may.1.up x was c (subst (λ b. was_asked (said_in f0) b c ≡ true) (sym me) asked)) (sym me) found in
      record { kept = k; up = may.1.up; branch = x; found = was; is_me = me; peers = same_so.peers; weights = same_so.weights }

  abbrev g0 : Facts
  g0 = facts_after t.places t.commands f0 (happenings.Turn u)

  even : length f0.nodes ≡ length f0.records
  even = (run_stands (so_far t before) lawful).0.even

  pub turn_back_at : LeavesStill t.places f0 (happenings.Turn u) → (n : ℕ) (j : NodeState) → node_at g0 n ≡ Some j → (y : Branch) → branch_at j y.live.me ≡ Some y → (c : BranchId) → was_asked (said_in f0) y.live.me c ≡ true → BackAt n y
  turn_back_at still n j up y found c asked = elim (cases_nat n u.node) [
    | inl at ↦ subst (λ i. BackAt i y) (sym at) (here (subst (λ i. node_at g0 i ≡ Some j) at up) u.cut refl)
    | inr other ↦ same_back t before (happenings.Turn u) lawful may n j (sym (turn_elsewhere t.places t.commands f0 even u n (λ is. other (sym is))).0 ∙ up) y found
  ]
    where
      here : node_at g0 u.node ≡ Some j → (cut : Bool) → u.cut ≡ cut → BackAt u.node y
      here there true is =
          let down : node_at g0 u.node ≡ None = (turn_here t.places t.commands f0 even u may.0 may.1.up).0 ∙ ap (λ q. kept_after q (Some (turn_of (place_at t.places u.node) may.0 u.input))) is in
          absurd (cc (down, there))
      here there false is =
          let left : node_at g0 u.node ≡ Some (turn_of (place_at t.places u.node) may.0 u.input).after
          = (turn_here t.places t.commands f0 even u may.0 may.1.up).0 ∙ ap (λ q. kept_after q (Some (turn_of (place_at t.places u.node) may.0 u.input))) is in
          let it : (turn_of (place_at t.places u.node) may.0 u.input).after ≡ j = (let both : Some (turn_of (place_at t.places u.node) may.0 u.input).after ≡ Some j = sym left ∙ there in cc) in
          turn_back still y (subst (λ k. branch_at k y.live.me ≡ Some y) (sym it) found) left c asked

module _ (t : History) (before : List Happening) where
  abbrev f1 : Facts
  f1 = f_at t before

  -- ---- other happenings

  -- no branch is live at a node that has just started
  start_none : (zs : List RedoRecord) → EachLive (λ l w. ⊥) (start_of zs).lives (start_of zs).works
  unfolding start_of
  start_none zs = none_live _

  start_empty : (zs : List RedoRecord) (y : Branch) → branch_at (start_of zs) y.live.me ≡ Some y → ⊥
  start_empty zs y found = (start_none zs).each y.live.me y.live (live_so (start_of zs) y.live.me y found)

  set_back : (m n : ℕ) (o : Option NodeState) (j : NodeState) → flat (numbered (set_numbered f1.nodes m o) n) ≡ Some j → (node_at f1 n ≡ Some j) ⊎ (o ≡ Some j)
  set_back m n o j up = elim (set_or_before f1.nodes m n o) [ inl still ↦ inl (ap flat (sym still) ∙ up) | inr set ↦ inr (ap flat (sym set.1) ∙ up) ]

  -- a live branch after a happening that is no turn was at its node before
  pub node_back : (h : Happening) → ((u : Turn) → h ≢ happenings.Turn u) → (n : ℕ) (j : NodeState) → node_at (facts_after t.places t.commands f1 h) n ≡ Some j → (w : Branch) → branch_at j w.live.me ≡ Some w → node_at f1 n ≡ Some j
  unfolding facts_after
  node_back (happenings.Turn u) not n j up w is = absurd (not u refl)
  node_back (happenings.Stopped m) not n j up w is = elim (set_back m n None j up) [ inl old ↦ old | inr none ↦ absurd cc ]
  node_back (happenings.Started m boot) not n j up w is = elim (set_back m n (Some (start_of (with_boot f1 m boot))) j up) [
    | inl old ↦ old
    | inr new ↦ absurd (start_empty (with_boot f1 m boot) w (let it : start_of (with_boot f1 m boot) ≡ j = cc in subst (λ k. branch_at k w.live.me ≡ Some w) (sym it) is))
  ]
  node_back (happenings.Begun x) not n j up w is = up
  node_back (happenings.Cut a b) not n j up w is = up
  node_back (happenings.Join a b) not n j up w is = up
  node_back (happenings.Lost k) not n j up w is = up

  -- each happening
  pub back : (h : Happening) (lawful : IsLawfulRun (so_far t before)) (may : MayHappen t.places t.commands f1 h) → LeavesStill t.places f1 h → (n : ℕ) (j : NodeState) → node_at (facts_after t.places t.commands f1 h) n ≡ Some j
      → (y : Branch) → branch_at j y.live.me ≡ Some y → (c : BranchId) → was_asked (said_in f1) y.live.me c ≡ true → Back t before h lawful may n y
  back (happenings.Turn u) lawful may still n j up y found c asked = turn_back_at t before u lawful may still n j up y found c asked
  back (happenings.Stopped m) lawful may still n j up y found c asked = same_back t before (happenings.Stopped m) lawful may n j (node_back (happenings.Stopped m) (λ u is. absurd cc) n j up y found) y found
  back (happenings.Started m boot) lawful may still n j up y found c asked = same_back t before (happenings.Started m boot) lawful may n j (node_back (happenings.Started m boot) (λ u is. absurd cc) n j up y found) y found
  back (happenings.Begun x) lawful may still n j up y found c asked = same_back t before (happenings.Begun x) lawful may n j (node_back (happenings.Begun x) (λ u is. absurd cc) n j up y found) y found
  back (happenings.Cut a b) lawful may still n j up y found c asked = same_back t before (happenings.Cut a b) lawful may n j (node_back (happenings.Cut a b) (λ u is. absurd cc) n j up y found) y found
  back (happenings.Join a b) lawful may still n j up y found c asked = same_back t before (happenings.Join a b) lawful may n j (node_back (happenings.Join a b) (λ u is. absurd cc) n j up y found) y found
  back (happenings.Lost k) lawful may still n j up y found c asked = same_back t before (happenings.Lost k) lawful may n j (node_back (happenings.Lost k) (λ u is. absurd cc) n j up y found) y found
