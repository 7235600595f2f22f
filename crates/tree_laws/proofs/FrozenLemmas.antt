-- A branch of the tree of a root, from a moment at which the root rests on: as long as it is live it is as it was then, and once it has left
-- it has asked all children that it had then.
use Rattle.std.proofs.Common.{◌≡◌, ◌≢◌, ℕ, true, false, List, [], ◌∷◌, ◌++◌, map, option_map, Option, Some, None, inl, inr, refl, sym, ap, subst, ◌∙◌}
use Rattle.session_tree.specs.Live.{children_of}
use Rattle.session_tree.specs.Tree.{place_of_greatest, weight_by, walk_by, weight, step}
use Rattle.agreement.specs.Events.{Exit, Sealed, Decided, Quiet, Dropped, exit}
use Rattle.node_rules.specs.Data.{BranchId, Edge, Live, Phase}
use Rattle.node_rules.specs.Data.phases
use Rattle.session_tree.specs.declared.act.Walk.{Walk}
use Rattle.session_tree.specs.declared.act.Walk.TheVariants as walks
use Rattle.node_rules.specs.Words.{numbered}
use Rattle.node_rules.specs.NodeState.{NodeState, Branch, branch_at}
use Rattle.node_rules.proofs.StandLemmas.{live_so}
use Rattle.run_rules.specs.Data.{Happening}
use Rattle.run_rules.specs.Facts.{node_at}
use Rattle.run_rules.specs.Lawful.{History, IsLawfulRun, facts_at}
use Rattle.run_base_laws.specs.InTurnLaws.{said_in, NeedsNoRollback}
use Rattle.run_base_laws.specs.FreezeLaws.{was_asked}
use Rattle.run_base_laws.specs.RunEvents.{events_of}
use Rattle.run_rules.specs.Trail.{is_prepare}
use Rattle.run_branch_laws.specs.WalkLaws.{is_below, was_sent}
use Rattle.run_rules.specs.Births.{births_of}
use Rattle.run_base_laws.proofs.BirthRunLemmas.{run_births}
use Rattle.run_base_laws.proofs.RestRunLemmas.{run_roots}
use Rattle.run_base_laws.proofs.InTurnRunLemmas.{run_calls}
use Rattle.run_base_laws.proofs.SaidPostLemmas.{posts_of, said_after}
use Rattle.tree_laws.specs.AskLaws.{path_on}
use Rattle.tree_laws.proofs.AskLemmas.{sent_split, sent_wider, below_asks}
use Rattle.tree_laws.proofs.LeftLemmas.{asks_live}
use Rattle.run_branch_laws.proofs.FreezeLemmas.{working_or}
use Rattle.run_branch_laws.proofs.FreezeRunLemmas.{asked_stand_still, prepare_finds_rest, run_freezes}
use Rattle.run_base_laws.proofs.InTurnLemmas.{numbered_map}
use Rattle.tree_laws.proofs.AskRunLemmas.{edges_asked, paths_are_told, run_asks}
use Rattle.tree_laws.proofs.PrefixLemmas.{so_far, f_at, e_at, one_on, more_on}
use Rattle.tree_laws.specs.LeaveLaws.{EndsAs, LeavesSo}
use Rattle.tree_laws.specs.RestLaws.{Rests, SameTree}
use Rattle.tree_laws.specs.WeighLaws.{BeganWith, ChildRests}
use Rattle.tree_laws.proofs.FateLemmas.{Fate, Stays, Leaves, fate_of}
use Rattle.tree_laws.proofs.StrengthLemmas.{same_start, lives_have_strength}
use Rattle.tree_laws.proofs.TimeLemmas.{Part, part_lawful, may_of, exit_end, sent_end, born_end}
use Rattle.tree_laws.proofs.WeighLemmas.{children_weigh, child_parent}
use Rattle.tree_laws.proofs.AtTurn.{at_happening}

-- ---- the same tree

pub same_weight : (x y : Live) → y.changed ≡ x.changed → y.strength ≡ x.strength → map (λ e. e.weight) y.edges ≡ map (λ e. e.weight) x.edges → weight y ≡ weight x
unfolding weight
same_weight x y changed strong weights =
    ap (λ q. weight_by q y.strength (place_of_greatest 1 (map (λ (e : Edge). e.weight) y.edges) None)) changed ∙
    (ap (λ s. weight_by x.changed s (place_of_greatest 1 (map (λ (e : Edge). e.weight) y.edges) None)) strong ∙ ap (λ ws. weight_by x.changed x.strength (place_of_greatest 1 ws None)) weights)

pub same_step : (x y : Live) → y.changed ≡ x.changed → y.strength ≡ x.strength → map (λ e. e.weight) y.edges ≡ map (λ e. e.weight) x.edges → step y ≡ step x
unfolding step
same_step x y changed strong weights =
    ap (λ q. walk_by q y.strength (place_of_greatest 1 (map (λ (e : Edge). e.weight) y.edges) None)) changed ∙
    (ap (λ s. walk_by x.changed s (place_of_greatest 1 (map (λ (e : Edge). e.weight) y.edges) None)) strong ∙ ap (λ ws. walk_by x.changed x.strength (place_of_greatest 1 ws None)) weights)

ends_same : (x y : Live) (z : Exit) → y.changed ≡ x.changed → y.strength ≡ x.strength → map (λ e. e.weight) y.edges ≡ map (λ e. e.weight) x.edges → EndsAs y z → EndsAs x z
ends_same x y (Decided n) changed strong weights is = sym (same_step x y changed strong weights) ∙ is
ends_same x y Quiet changed strong weights is = sym (same_weight x y changed strong weights) ∙ is
ends_same x y (Sealed n) changed strong weights is = tt
ends_same x y Dropped changed strong weights is = tt

trans_same : (x y z : Branch) → SameTree x y → SameTree y z → SameTree x z
trans_same x y z one two = record { peers = two.peers ∙ one.peers; weights = two.weights ∙ one.weights; changed = two.changed ∙ one.changed }

-- the edge to a child
pub edge_to : (es : List Edge) (i : ℕ) (c : BranchId) → numbered (map (λ (e : Edge). e.peer) es) i ≡ Some c → (e : Edge) × (numbered es i ≡ Some e) × (e.peer ≡ c)
edge_to es i c at = by (numbered es i) refl (sym (numbered_map es i) ∙ at)
  where
    by : (o : Option Edge) → numbered es i ≡ o → option_map (λ (e : Edge). e.peer) o ≡ Some c → (e : Edge) × (numbered es i ≡ Some e) × (e.peer ≡ c)
    by None is some = absurd cc
    by (Some e) is some = (e, is, (let it : Some e.peer ≡ Some c = some in cc))

-- a branch told the child to which its step leads
pub path_down : (phase : Phase) (w : Walk) (i : ℕ) → path_on phase w ≡ Some i → w ≡ walks.Down i
path_down phases.Working w i is = absurd cc
path_down (phases.Collecting false) w i is = absurd cc
path_down (phases.Collecting true) walks.Here i is = absurd cc
path_down (phases.Collecting true) walks.Nowhere i is = absurd cc
path_down (phases.Collecting true) (walks.Down j) i is = (let it : Some j ≡ Some i = is in ap walks.Down (let same : j ≡ i = cc in same))
path_down phases.Ready walks.Here i is = absurd cc
path_down phases.Ready walks.Nowhere i is = absurd cc
path_down phases.Ready (walks.Down j) i is = (let it : Some j ≡ Some i = is in ap walks.Down (let same : j ≡ i = cc in same))

-- the step of a branch leads to this child
abbrev pub PointsTo : Live → BranchId → Type 0
PointsTo l c = (i : ℕ) × (step l ≡ walks.Down i) × (numbered (children_of l) i ≡ Some c)

module _ (t : History) (whole : IsLawfulRun t) where
  -- A branch that was live once is live with the same tree, or it has left and asked its children.
  pub data State (x : Branch) (hs : List Happening) : Type 0 where
    Here : (k : NodeState) (y : Branch) → node_at (f_at t hs) x.live.me.node ≡ Some k → branch_at k y.live.me ≡ Some y → y.live.me ≡ x.live.me → SameTree x y → State x hs
    Left : (z : Exit) → exit (e_at t hs) x.live.me ≡ Some z → ((i : ℕ) (c : BranchId) → numbered (children_of x.live) i ≡ Some c → was_asked (said_in (f_at t hs)) x.live.me c ≡ true) → EndsAs x.live z
        → ((c : BranchId) → was_sent is_below (said_in (f_at t hs)) x.live.me c ≡ true → PointsTo x.live c) → State x hs

  -- what is known of a branch found at its node
  pub record Found (hs : List Happening) (x : Branch) : Type 0 where
    pub kept : NodeState
    pub up : node_at (f_at t hs) x.live.me.node ≡ Some kept
    pub found : branch_at kept x.live.me ≡ Some x

  -- it began with its strength
  pub strength_at : (hs : List Happening) → Part t whole hs → (x : Branch) → Found hs x → BeganWith (births_of t) x.live.me x.live.strength x.live.read_at
  strength_at hs part x is =
      let so = lives_have_strength (so_far t hs) (part_lawful t whole hs part) x.live.me.node is.kept is.up x is.found in
      record { born = so.born; began = born_end t whole hs part so.born so.began; is_me = so.is_me; is_strength = so.is_strength; is_read_at = so.is_read_at }

  -- so it has the same at each moment
  pub same_strength : (x y : Branch) → y.live.me ≡ x.live.me → BeganWith (births_of t) x.live.me x.live.strength x.live.read_at → BeganWith (births_of t) y.live.me y.live.strength y.live.read_at → y.live.strength ≡ x.live.strength
  same_strength x y me one two =
      same_start (births_of t) x.live.me y.live.strength x.live.strength y.live.read_at x.live.read_at (subst (λ b. BeganWith (births_of t) b y.live.strength y.live.read_at) me two) one

  module _ (x : Branch) (strong : BeganWith (births_of t) x.live.me x.live.strength x.live.read_at) (good : (z : Exit) → exit (events_of t) x.live.me ≡ Some z → z ≢ Dropped) where
    module _ (hs : List Happening) (h : Happening) (rest : List Happening) (is : hs ++ h ∷ rest ≡ t.trace) where
      open at_happening t whole hs h rest is use {after, s_after as z, part, part_after as later, lawful_after as lawful_z}

      first_part : Part z lawful_z hs
      first_part = record { rest = h ∷ []; is = refl }

      asked_on : (p c : BranchId) → was_asked (said_in (f_at t hs)) p c ≡ true → was_asked (said_in (f_at t after)) p c ≡ true
      asked_on p c asked = sent_end z lawful_z hs first_part is_prepare p c asked

      -- one that has left tells nobody any more
      silent_on : exit (e_at t after) x.live.me ≢ None → (c : BranchId) → was_sent is_below (said_in (f_at t after)) x.live.me c ≡ true → was_sent is_below (said_in (f_at t hs)) x.live.me c ≡ true
      silent_on left c sent =
          let s : History = so_far t hs in
          let lawful : IsLawfulRun s = part_lawful t whole hs part in
          let says : said_in (f_at t after) ≡ said_in (f_at t hs) ++ posts_of h = ap said_in (one_on t hs h) ∙ said_after t.places t.commands (f_at t hs) h in
          elim (sent_split is_below (said_in (f_at t hs)) (posts_of h) x.live.me c (subst (λ xs. was_sent is_below xs x.live.me c ≡ true) says sent)) [
            | inl old ↦ old
            | inr new ↦ absurd (left (subst (λ e. exit e x.live.me ≡ None) (sym (more_on t hs h))
                (asks_live t.places t.commands t.of_a_script.each is_below below_asks (f_at t hs) (e_at t hs) (births_of s) (run_births s lawful) (run_roots s lawful) (run_calls s lawful) (run_freezes s lawful) (run_asks s lawful) h (may_of t whole hs h rest is) x.live.me c new)))
          ]

      -- a live one told the child to which its step leads
      told_down : (k : NodeState) (y : Branch) → node_at (f_at t hs) y.live.me.node ≡ Some k → branch_at k y.live.me ≡ Some y → (c : BranchId) → was_sent is_below (said_in (f_at t hs)) y.live.me c ≡ true → PointsTo y.live c
      told_down k y up found c sent =
          let s : History = so_far t hs in
          let lawful : IsLawfulRun s = part_lawful t whole hs part in
          elim (working_or y.live.phase) [
            | inl working ↦ (let no : was_asked (said_in (f_at t hs)) y.live.me c ≡ false = (asked_stand_still s lawful y.live.me.node k up y found).0 working c in
                let yes : was_asked (said_in (f_at t hs)) y.live.me c ≡ true = sent_wider is_below is_prepare below_asks (said_in (f_at t hs)) y.live.me c sent in
                absurd (cc (yes, no)))
            | inr other ↦ (let told = (paths_are_told s lawful y.live.me.node k up y.live (live_so k y.live.me y found) other).0 c sent in (told.0, path_down y.live.phase (step y.live) told.0 told.1, told.2))
          ]

      -- by what becomes of it
      pub state_by : (y : Branch) → y.live.me ≡ x.live.me → SameTree x y → Found hs y → Fate t hs h y → State x after
      state_by y me same here (Stays j w up found me_w still) = Here j w (subst (λ b. node_at (f_at t after) b.node ≡ Some j) me up) found (me_w ∙ me) (trans_same x y w same still)
      state_by y me same here (Leaves w left leaves) =
          let gone : exit (e_at t after) x.live.me ≡ Some w = subst (λ b. exit (e_at t after) b ≡ Some w) me left in
          let so : LeavesSo (said_in (f_at t hs)) y.live w = leaves (good w (exit_end t whole after later x.live.me w gone)) in
          let strengths : y.live.strength ≡ x.live.strength = same_strength x y me strong (strength_at hs part y here) in
          Left w gone (λ i c at. asked_on x.live.me c (subst (λ b. was_asked (said_in (f_at t hs)) b c ≡ true) me (so.kids i c (subst (λ bs. numbered bs i ≡ Some c) (sym same.peers) at))))
          (ends_same x.live y.live w same.changed strengths same.weights so.ends)
          (λ c sent. (let down = told_down here.kept y here.up here.found c (subst (λ b. was_sent is_below (said_in (f_at t hs)) b c ≡ true) (sym me) (silent_on (λ none. absurd (cc (gone, none))) c sent)) in
          (down.0, sym (same_step x.live y.live same.changed strengths same.weights) ∙ down.1, subst (λ bs. numbered bs down.0 ≡ Some c) same.peers down.2)))

      -- one that has left
      pub state_left : (w : Exit) → exit (e_at t hs) x.live.me ≡ Some w → ((i : ℕ) (c : BranchId) → numbered (children_of x.live) i ≡ Some c → was_asked (said_in (f_at t hs)) x.live.me c ≡ true) → EndsAs x.live w
          → ((c : BranchId) → was_sent is_below (said_in (f_at t hs)) x.live.me c ≡ true → PointsTo x.live c) → State x after
      state_left w left kids ends told =
          let later_left : exit (e_at t after) x.live.me ≡ Some w = exit_end z lawful_z hs first_part x.live.me w left in
          Left w later_left (λ i c at. asked_on x.live.me c (kids i c at)) ends (λ c sent. told c (silent_on (λ none. absurd (cc (later_left, none))) c sent))

      pub state_on : ((k : NodeState) (y : Branch) → node_at (f_at t hs) x.live.me.node ≡ Some k → branch_at k y.live.me ≡ Some y → y.live.me ≡ x.live.me → y.live.phase ≡ phases.Working → Rests (said_in (f_at t hs)) y.live.me y.live.parent y.work)
          → State x hs → State x after
      state_on rests (Left w left kids ends told) = state_left w left kids ends told
      state_on rests (Here k y up found me same) =
          let there : node_at (f_at t hs) y.live.me.node ≡ Some k = subst (λ b. node_at (f_at t hs) b.node ≡ Some k) (sym me) up in
          state_by y me same (record { kept = k; up = there; found = found }) (fate_of t whole hs h rest is k y there found (rests k y up found me))

  -- ---- the tree of a root that rests

  module _ (hs0 : List Happening) (part0 : Part t whole hs0) where
    -- a later moment
    abbrev pub Since : List Happening → Type 0
    Since hs = (mid : List Happening) × (hs0 ++ mid ≡ hs)

    -- A branch of the tree, from that moment on.
    pub record Member (r : BranchId) (x : Branch) : Type 0 where
      pub here : Found hs0 x
      pub working : x.live.phase ≡ phases.Working
      pub goes : NeedsNoRollback here.kept x.live
      pub waits : x.work.going ≡ None
      pub root : x.live.root ≡ r
      pub asks : (i : ℕ) (c : BranchId) → numbered (children_of x.live) i ≡ Some c → was_asked (said_in (facts_at t)) x.live.me c ≡ true
      pub state : (hs : List Happening) → Since hs → Part t whole hs → State x hs
      pub calm : (hs : List Happening) → Since hs → Part t whole hs → (k : NodeState) (y : Branch) → node_at (f_at t hs) x.live.me.node ≡ Some k → branch_at k y.live.me ≡ Some y → y.live.me ≡ x.live.me → y.live.phase ≡ phases.Working
          → NeedsNoRollback k y.live × (y.work.going ≡ None)

    module _ (r : BranchId) (x : Branch) (member : Member r x) (i : ℕ) (c : BranchId) (at : numbered (children_of x.live) i ≡ Some c) where
      -- a live child rests while it is working
      module _ (hs : List Happening) (since : Since hs) (part : Part t whole hs) (k : NodeState) (y : Branch) (up : node_at (f_at t hs) c.node ≡ Some k) (found : branch_at k y.live.me ≡ Some y) (me : y.live.me ≡ c) where
        abbrev s : History
        s = so_far t hs

        lawful : IsLawfulRun s
        lawful = part_lawful t whole hs part

        asked_rests : was_asked (said_in (f_at t hs)) x.live.me c ≡ true → Rests (said_in (f_at t hs)) y.live.me y.live.parent y.work
        asked_rests asked =
            let so = prepare_finds_rest s lawful x.live.me c.node k up y found (subst (λ b. was_asked (said_in (f_at t hs)) x.live.me b ≡ true) (sym me) asked) in
            record { above = x.live.me; is_parent = so.0; waits = so.1; last = so.2 }

        by_state : State x hs → Rests (said_in (f_at t hs)) y.live.me y.live.parent y.work
        by_state (Left z left kids ends told) = asked_rests (kids i c at)
        by_state (Here j w up_w found_w me_w same) = elim (working_or w.live.phase) [
          | inr other ↦ asked_rests (subst (λ b. was_asked (said_in (f_at t hs)) b c ≡ true) me_w ((edges_asked s lawful x.live.me.node j up_w w.live (live_so j w.live.me w found_w) other).0 i c (subst (λ bs. numbered bs i ≡ Some c) (sym same.peers) at)))
          | inl working ↦ (let calm = member.calm hs since part j w up_w found_w me_w working in
              let edge = edge_to w.live.edges i c (subst (λ bs. numbered bs i ≡ Some c) (sym same.peers) at) in
              let so : ChildRests s w edge.0 y = children_weigh s lawful x.live.me.node j up_w w found_w calm.0 calm.1 i edge.0 edge.1 c.node k up y found (me ∙ sym edge.2) in
              let parent : y.live.parent ≡ Some w.live.me = child_parent s lawful x.live.me.node j up_w w found_w i c (subst (λ bs. numbered bs i ≡ Some c) (sym same.peers) at) c.node k up y found me in
              record { above = w.live.me; is_parent = parent; waits = so.waits; last = so.last })
        ]

        pub kid_rests : Rests (said_in (f_at t hs)) y.live.me y.live.parent y.work
        kid_rests = by_state (member.state hs since part)
