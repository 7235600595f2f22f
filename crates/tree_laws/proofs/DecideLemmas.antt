-- In every lawful run, where a branch decided, the walk from its root ended there when the COMMIT came.
use Rattle.std.proofs.Common.{◌≡◌, ◌≢◌, ℕ, zero, suc, ◌≤◌, ◌⊎◌, Bool, true, false, List, [], ◌∷◌, ◌++◌, Option, Some, None, inl, inr, refl, sym, ap, subst, subst₂, ◌∙◌, append-nil, arith}
use Rattle.std.proofs.lemmas.List.{append_assoc}
use Rattle.std.specs.List.{list_any}
use Rattle.agreement.specs.Events.{Exit, Decided, Dropped, exit}
use Rattle.session_tree.specs.Live.{children_of}
use Rattle.node_rules.specs.Data.{BranchId, Edge, Live, Phase, Input}
use Rattle.node_rules.specs.Data.phases
use Rattle.node_rules.specs.Words.{numbered}
use Rattle.node_rules.specs.NodeState.{NodeState, Branch, live_id, live_at, branch_at}
use Rattle.node_rules.specs.Turn.{turn_of, draft_of}
use Rattle.node_rules.proofs.Steps.{HasRoot}
use Rattle.node_rules.proofs.StandLemmas.{live_so}
use Rattle.prepare_phase.specs.Acts.{is_awaited}
use Rattle.tree_laws.proofs.VoterLemmas.{mapped_at}
use Rattle.run_rules.specs.Data.{Happening}
use Rattle.run_rules.specs.Data.happenings
use Rattle.run_rules.specs.Facts.{first_facts, place_at, node_at, kept_after, facts_after}
use Rattle.run_rules.specs.Lawful.{MayHappen, History, IsLawfulRun, facts_at}
use Rattle.run_rules.specs.Births.{Born, births_of}
use Rattle.run_base_laws.specs.BirthLaws.{Began, LiveIs}
use Rattle.run_base_laws.specs.FreezeLaws.{was_asked, LeavesStill}
use Rattle.run_base_laws.specs.InTurnLaws.{said_in, NeedsNoRollback}
use Rattle.run_base_laws.specs.NodeLaws.{EachFactFrom}
use Rattle.run_branch_laws.specs.PhaseLaws.{PhaseFits}
use Rattle.run_base_laws.specs.RunEvents.{events_of}
use Rattle.run_rules.specs.Trail.{is_prepare}
use Rattle.run_rules.proofs.AtNodeLemmas.{turn_here}
use Rattle.run_base_laws.proofs.EventsStandLemmas.{run_stands, nodes_are_as_events}
use Rattle.run_branch_laws.proofs.FreezeRunLemmas.{asked_stand_still}
use Rattle.run_base_laws.proofs.OwnLemmas.{all_found}
use Rattle.run_branch_laws.proofs.PhaseLemmas.{phases_fit}
use Rattle.run_branch_laws.proofs.StillRunLemmas.{trees_stand_still}
use Rattle.tree_laws.specs.Forests.{asked_by, walk_from, deepest}
use Rattle.tree_laws.proofs.AskRunLemmas.{edges_asked}
use Rattle.tree_laws.proofs.ForestLemmas as trees
use Rattle.tree_laws.proofs.SettleRunLemmas.{known}
use Rattle.tree_laws.proofs.PrefixLemmas.{so_far, f_at, e_at, one_on}
use Rattle.tree_laws.specs.DecideLaws.{WalksTo, DecidedSo, DecisionsFollowWalks}
use Rattle.tree_laws.specs.RestLaws.{SameTree}
use Rattle.tree_laws.proofs.CommitLemmas.{commit_leaves}
use Rattle.tree_laws.proofs.CoverLemmas.{at_site, leaves_well, asked_well}
use Rattle.tree_laws.proofs.FateLemmas.{fate_by, turn_lives, turn_left}
use Rattle.tree_laws.proofs.FindLemmas.{WasFound, commit_found}
use Rattle.tree_laws.proofs.FrozenLemmas.{State, Here, Left, Found, strength_at, state_by, state_on, Member}
use Rattle.tree_laws.proofs.HeardLemmas.{left_were_asked}
use Rattle.tree_laws.proofs.MemberLemmas.{IsIn}
use Rattle.tree_laws.proofs.SeenLemmas.{Low, site_seen, plan_covers}
use Rattle.dtx_values.specs.Limits.{depth_limit}
use Rattle.tree_laws.proofs.TimeLemmas.{Part, part_lawful, part_of, part_on, may_of, fact_at, exit_end, sent_end, born_end, keep_on}
use Rattle.tree_laws.proofs.WeighLemmas.{placed_of}
use Rattle.tree_laws.proofs.CommitTreeLemmas.{LeavesWell, walks_down, in_it, covers_it}

-- ---- the root

-- the same list before is the same list behind
pub cancel : {A : Type 0} (xs ys zs : List A) → xs ++ ys ≡ xs ++ zs → ys ≡ zs
cancel [] ys zs is = is
cancel (x ∷ xs) ys zs is = cancel xs ys zs (let it : x ∷ (xs ++ ys) ≡ x ∷ (xs ++ zs) = is in cc)

first_is : {A : Type 0} (x y : A) (xs ys : List A) → x ∷ xs ≡ y ∷ ys → x ≡ y
first_is x y xs ys is = cc

some_edge : (es : List Edge) (f : Edge → Bool) → list_any f es ≡ true → (e : Edge) × (numbered es 1 ≡ Some e)
some_edge [] f is = absurd cc
some_edge (e ∷ es) f is = (e, refl)

module _ (t : History) (whole : IsLawfulRun t) (r : BranchId) (found : WasFound t whole r t.trace) (well : (z : Exit) → exit (events_of t) r ≡ Some z → z ≢ Dropped)
    (ends : State t whole found.commit.branch t.trace → (i : ℕ) (c : BranchId) → numbered (children_of found.commit.branch.live) i ≡ Some c → was_asked (said_in (facts_at t)) found.commit.branch.live.me c ≡ true)
    (top : (x : Born) × Began (births_of t) x × (x.me ≡ r) × (x.parent ≡ None) × (x.root ≡ r)) where
  open found use {before as hs0, turn as u, commit as at}

  abbrev h : Happening
  h = happenings.Turn u

  abbrev hs1 : List Happening
  hs1 = hs0 ++ h ∷ []

  abbrev part0 : Part t whole hs0
  part0 = record { rest = h ∷ found.later; is = found.is }

  part1 : Part t whole hs1
  part1 = part_on t whole hs0 h found.later found.is

  lawful0 : IsLawfulRun (so_far t hs0)
  lawful0 = part_lawful t whole hs0 part0

  abbrev x : Branch
  x = at.branch

  abbrev k : NodeState
  k = at.kept

  up : node_at (f_at t hs0) x.live.me.node ≡ Some k
  up = subst (λ b. node_at (f_at t hs0) b.node ≡ Some k) (sym at.is_me) at.up

  abbrev here : Found t whole hs0 x
  here = record { kept = k; up = up; found = at.found }

  may : MayHappen t.places t.commands (f_at t hs0) h
  may = may_of t whole hs0 h found.later found.is

  good : (z : Exit) → exit (events_of t) x.live.me ≡ Some z → z ≢ Dropped
  good z is = well z (subst (λ b. exit (events_of t) b ≡ Some z) at.is_me is)

  -- what the COMMIT leaves of it
  asked_so : (w : Branch) → branch_at (turn_of (place_at t.places u.node) k u.input).after w.live.me ≡ Some w → w.live.me ≡ x.live.me → SameTree x w × (w.live.phase ≢ phases.Working)
  unfolding turn_of
  asked_so w is me =
      let live : live_at (draft_of (place_at t.places u.node) k u.input).after x.live.me ≡ Some w.live = subst (λ b. live_at (draft_of (place_at t.places u.node) k u.input).after b ≡ Some w.live) me (live_so (draft_of (place_at t.places u.node) k u.input).after w.live.me w is) in
      let so = commit_leaves (place_at t.places u.node) k at.session at.given x (subst (λ b. HasRoot k at.session b) (sym at.is_me) at.root) at.found at.code at.writes w.live
      (subst (λ (i : Input). live_at (draft_of (place_at t.places u.node) k i).after x.live.me ≡ Some w.live) at.call live) in
      (record { peers = so.0; weights = so.1; changed = so.2 }, so.3)

  still : LeavesStill t.places (f_at t hs0) h
  still = fact_at t.places t.commands (LeavesStill t.places) (first_facts t.places) hs0 h found.later (subst (EachFactFrom (LeavesStill t.places) t.places t.commands (first_facts t.places)) (sym found.is) (trees_stand_still t whole))

  state1 : State t whole x hs1
  state1 =
      state_by t whole x (strength_at t whole hs0 part0 x here) good hs0 h found.later found.is x refl (record { peers = refl; weights = refl; changed = refl }) here
      (fate_by t hs0 lawful0 h may k x up at.found (turn_lives t hs0 u lawful0 may k x up at.found still (λ working w is me node. (asked_so w is me).0)) (turn_left t hs0 u lawful0 may k x up at.found))

  -- where it is live then it has asked a child
  busy1 : (j : NodeState) (w : Branch) → node_at (f_at t hs1) x.live.me.node ≡ Some j → branch_at j w.live.me ≡ Some w → w.live.me ≡ x.live.me → w.live.phase ≢ phases.Working
  busy1 j w there is me =
      let own : node_at (facts_after t.places t.commands (f_at t hs0) h) u.node ≡ Some j
      = subst (λ i. node_at (facts_after t.places t.commands (f_at t hs0) h) i ≡ Some j) (ap (λ (b : BranchId). b.node) at.is_me ∙ sym at.node) (subst (λ y. node_at y x.live.me.node ≡ Some j) (one_on t hs0 h) there) in
      let left : node_at (facts_after t.places t.commands (f_at t hs0) h) u.node ≡ kept_after u.cut (Some (turn_of (place_at t.places u.node) may.0 u.input)) = (turn_here t.places t.commands (f_at t hs0) (run_stands (so_far t hs0) lawful0).0.even u may.0 may.1.up).0 in
      let at_u : node_at (f_at t hs0) u.node ≡ Some k = subst (λ i. node_at (f_at t hs0) i ≡ Some k) (sym at.node) at.up in
      let it : Some may.0 ≡ Some k = sym may.1.up ∙ at_u in
      let mine : may.0 ≡ k = cc in
      by u.cut (sym left ∙ own) mine
    where
      by : (cut : Bool) → kept_after cut (Some (turn_of (place_at t.places u.node) may.0 u.input)) ≡ Some j → may.0 ≡ k → w.live.phase ≢ phases.Working
      by true none mine = absurd cc
      by false some mine =
          let it : (turn_of (place_at t.places u.node) may.0 u.input).after ≡ j = cc in
          (asked_so w (subst (λ (i : NodeState). branch_at (turn_of (place_at t.places u.node) i u.input).after w.live.me ≡ Some w) mine (subst (λ i. branch_at i w.live.me ≡ Some w) (sym it) is)) me).1

  no_parent : (j : NodeState) (w : Branch) → node_at (f_at t hs1) x.live.me.node ≡ Some j → branch_at j w.live.me ≡ Some w → w.live.me ≡ x.live.me → w.live.parent ≡ None
  no_parent j w there is me =
      let its : LiveIs (Began (births_of (so_far t hs1))) w.live = placed_of (so_far t hs1) (part_lawful t whole hs1 part1) x.live.me.node j there w is in
      let one : its.born ≡ top.0 = trees.same_born (births_of t) (said_in (facts_at t)) (known t whole) its.born top.0 (born_end t whole hs1 part1 its.born its.began) top.1 (its.is_me ∙ (me ∙ (at.is_me ∙ sym top.2))) in
      sym its.is_parent ∙ (ap (λ (y : Born). y.parent) one ∙ top.3)

  asked1 : (j : NodeState) (w : Branch) → node_at (f_at t hs1) x.live.me.node ≡ Some j → branch_at j w.live.me ≡ Some w → w.live.me ≡ x.live.me → (c : BranchId) × (was_asked (said_in (f_at t hs1)) x.live.me c ≡ true)
  asked1 j w there is me =
      let s : History = so_far t hs1 in
      let lawful : IsLawfulRun s = part_lawful t whole hs1 part1 in
      let other : w.live.phase ≢ phases.Working = busy1 j w there is me in
      let live : live_at j w.live.me ≡ Some w.live = live_so j w.live.me w is in
      let fits : PhaseFits w.live.parent w.live.edges w.live.phase = all_found (λ l. PhaseFits l.parent l.edges l.phase) live_id j.lives w.live.me w.live (phases_fit s lawful x.live.me.node j there) live in
      let edge = first_edge w.live.phase w.live.parent w.live.edges other (no_parent j w there is me) fits in
      (edge.0.peer, subst (λ b. was_asked (said_in (f_at t hs1)) b edge.0.peer ≡ true) me ((edges_asked s lawful x.live.me.node j there w.live live other).0 1 edge.0.peer (mapped_at (λ (e : Edge). e.peer) w.live.edges 1 edge.0 edge.1)))
    where
      first_edge : (phase : Phase) (parent : Option BranchId) (es : List Edge) → phase ≢ phases.Working → parent ≡ None → PhaseFits parent es phase → (e : Edge) × (numbered es 1 ≡ Some e)
      first_edge phases.Working parent es other none fits = absurd (other refl)
      first_edge (phases.Collecting b) parent es other none fits = some_edge es (λ e. is_awaited e.vote) fits.1
      first_edge phases.Ready parent es other none fits = absurd (fits.2 none)

  -- it is as its birth
  placed0 : LiveIs (Began (births_of (so_far t hs0))) x.live
  placed0 = placed_of (so_far t hs0) lawful0 x.live.me.node k up x at.found

  born_same : (y : Born) → Began (births_of t) y → y.me ≡ r → y ≡ top.0
  born_same y began me = trees.same_born (births_of t) (said_in (facts_at t)) (known t whole) y top.0 began top.1 (me ∙ sym top.2)

  root_so : x.live.root ≡ r
  root_so = sym placed0.is_root ∙ (ap (λ (y : Born). y.root) (born_same placed0.born (born_end t whole hs0 part0 placed0.born placed0.began) (placed0.is_me ∙ at.is_me)) ∙ top.4)

  -- ---- from then on

  abbrev Since1 : List Happening → Type 0
  Since1 hs = (mid : List Happening) × (hs1 ++ mid ≡ hs)

  -- it has left, or it has asked a child
  abbrev Busy : List Happening → Type 0
  Busy hs = ((z : Exit) × (exit (e_at t hs) x.live.me ≡ Some z)) ⊎ ((c : BranchId) × (was_asked (said_in (f_at t hs)) x.live.me c ≡ true))

  not_working : (hs : List Happening) → Part t whole hs → Busy hs → (j : NodeState) (y : Branch) → node_at (f_at t hs) x.live.me.node ≡ Some j → branch_at j y.live.me ≡ Some y → y.live.me ≡ x.live.me → y.live.phase ≡ phases.Working → ⊥
  not_working hs part (inl left) j y there is me working =
      let none : exit (e_at t hs) y.live.me ≡ None = all_found (λ (l : Live). exit (e_at t hs) l.me ≡ None) live_id j.lives y.live.me y.live (nodes_are_as_events (so_far t hs) (part_lawful t whole hs part) x.live.me.node j there).0 (live_so j y.live.me y is) in
      let some : exit (e_at t hs) y.live.me ≡ Some left.0 = subst (λ b. exit (e_at t hs) b ≡ Some left.0) (sym me) left.1 in
      absurd (cc (none, some))
  not_working hs part (inr asks) j y there is me working =
      let no : was_asked (said_in (f_at t hs)) y.live.me asks.0 ≡ false = (asked_stand_still (so_far t hs) (part_lawful t whole hs part) x.live.me.node j there y is).0 working asks.0 in
      let yes : was_asked (said_in (f_at t hs)) y.live.me asks.0 ≡ true = subst (λ b. was_asked (said_in (f_at t hs)) b asks.0 ≡ true) (sym me) asks.1 in
      absurd (cc (yes, no))

  abbrev Lasts : List Happening → Type 0
  Lasts hs = Since1 hs × (Busy hs × State t whole x hs)

  busy_first : State t whole x hs1 → Busy hs1
  busy_first (Left z left kids ends told) = inl (z, left)
  busy_first (Here j w there is me same) = inr (asked1 j w there is me)

  busy_on : (hs : List Happening) (y : Happening) (rest : List Happening) → hs ++ y ∷ rest ≡ t.trace → Busy hs → Busy (hs ++ y ∷ [])
  busy_on hs y rest is (inl left) = inl (left.0, exit_end (so_far t (hs ++ y ∷ [])) (part_lawful t whole (hs ++ y ∷ []) (part_on t whole hs y rest is)) hs (record { rest = y ∷ []; is = refl }) x.live.me left.0 left.1)
  busy_on hs y rest is (inr asks) =
      inr (asks.0, sent_end (so_far t (hs ++ y ∷ [])) (part_lawful t whole (hs ++ y ∷ []) (part_on t whole hs y rest is)) hs (record { rest = y ∷ []; is = refl }) is_prepare x.live.me asks.0 asks.1)

  lasts_on : (hs : List Happening) (y : Happening) (rest : List Happening) → hs ++ y ∷ rest ≡ t.trace → Lasts hs → Lasts (hs ++ y ∷ [])
  lasts_on hs y rest is now = (
    (now.0.0 ++ y ∷ [], sym (append_assoc hs1 now.0.0 (y ∷ [])) ∙ ap (λ xs. xs ++ y ∷ []) now.0.1),
    (
      busy_on hs y rest is now.1.0,
      state_on t whole x (strength_at t whole hs0 part0 x here) good hs y rest is (λ j w there is_w me working. absurd (not_working hs (part_of t whole hs y rest is) now.1.0 j w there is_w me working)) now.1.1,
    ),
  )

  lasts : (mid : List Happening) → Part t whole (hs1 ++ mid) → Lasts (hs1 ++ mid)
  lasts mid part = keep_on t whole Lasts lasts_on hs1 mid part (([], append-nil hs1), (busy_first state1, state1))

  -- what is known of it at a moment
  abbrev Moment : List Happening → Type 0
  Moment hs = State t whole x hs
      × ((j : NodeState) (y : Branch) → node_at (f_at t hs) x.live.me.node ≡ Some j → branch_at j y.live.me ≡ Some y → y.live.me ≡ x.live.me → y.live.phase ≡ phases.Working → NeedsNoRollback j y.live × (y.work.going ≡ None))

  first_moment : Moment hs0
  first_moment = (
    Here k x up at.found refl (record { peers = refl; weights = refl; changed = refl }),
    (λ j y there is me working. (let both : Some j ≡ Some k = sym there ∙ up in
        let it : j ≡ k = cc in
        let two : Some y ≡ Some x = sym (subst₂ (λ i c. branch_at i c ≡ Some y) it me is) ∙ at.found in
        let same : y ≡ x = cc in
        subst₂ (λ (i : NodeState) (z : Branch). NeedsNoRollback i z.live × (z.work.going ≡ None)) (sym it) (sym same) (at.goes, at.waits))),
  )

  later_moment : (mid : List Happening) → Part t whole (hs1 ++ mid) → Moment (hs1 ++ mid)
  later_moment mid part =
      let now = lasts mid part in
      (now.1.1, (λ j y there is me working. absurd (not_working (hs1 ++ mid) part now.1.0 j y there is me working)))

  moment : (hs mid : List Happening) → hs0 ++ mid ≡ hs → Part t whole hs → Moment hs
  moment hs [] is part = subst Moment (sym (append-nil hs0) ∙ is) first_moment
  moment hs (y ∷ mid) is part =
      let all : hs0 ++ (y ∷ (mid ++ part.rest)) ≡ hs0 ++ (h ∷ found.later) = sym (append_assoc hs0 (y ∷ mid) part.rest) ∙ (ap (λ xs. xs ++ part.rest) is ∙ (part.is ∙ sym found.is)) in
      let it : y ≡ h = first_is y h (mid ++ part.rest) found.later (cancel hs0 (y ∷ (mid ++ part.rest)) (h ∷ found.later) all) in
      let so : hs1 ++ mid ≡ hs = append_assoc hs0 (h ∷ []) mid ∙ (ap (λ z. hs0 ++ z ∷ mid) (sym it) ∙ is) in
      subst Moment so (later_moment mid (record { rest = part.rest; is = ap (λ xs. xs ++ part.rest) so ∙ part.is }))

  pub root_member : Member t whole hs0 part0 r x
  root_member = record {
    here = here;
    working = at.working;
    goes = at.goes;
    waits = at.waits;
    root = root_so;
    asks = ends (moment t.trace part0.rest part0.is (record { rest = []; is = append-nil t.trace })).0;
    state = λ hs since part. (moment hs since.0 since.1 part).0;
    calm = λ hs since part. (moment hs since.0 since.1 part).1;
  }

-- ---- every run

-- the root of a tree began
module _ (t : History) (whole : IsLawfulRun t) where
  abbrev pub IsTop : BranchId → Type 0
  IsTop r = (y : Born) × Began (births_of t) y × (y.me ≡ r) × (y.parent ≡ None) × (y.root ≡ r)

  top_by : (n : ℕ) (x : Born) → Began (births_of t) x → x.depth ≤ n → IsTop x.root
  top_by zero x began low = (let high : 1 ≤ x.depth = trees.high (births_of t) (said_in (facts_at t)) (known t whole) x began in absurd (omega (arith, low, high)))
  top_by (suc n) x began low = by x.parent refl (λ z its less. top_by n z its less)
    where
      by : (o : Option BranchId) → x.parent ≡ o → ((z : Born) → Began (births_of t) z → z.depth ≤ n → IsTop z.root) → IsTop x.root
      by None none above_it = (let stands = trees.stands_so (births_of t) (said_in (facts_at t)) (known t whole) x None began none in (x, began, sym stands.0, none, refl))
      by (Some q) above above_it =
          let up = trees.below_of (births_of t) (said_in (facts_at t)) (known t whole) x q began above in
          subst IsTop up.is_root (above_it up.up up.began (omega (arith, low, up.deeper)))

  module _ (b : BranchId) (n : ℕ) (decided : exit (events_of t) b ≡ Some (Decided n)) where
    pub heard : (y : Born) × Began (births_of t) y × (y.me ≡ b)
    heard = (let it = left_were_asked t whole b (Decided n) decided (λ is. absurd cc) in (it.0, it.1, it.2))

    abbrev pub r : BranchId
    r = heard.0.root

    pub inside : IsIn (births_of t) r b
    inside = (heard.0, heard.1, heard.2, refl)

    pub top : IsTop r
    top = top_by heard.0.depth heard.0 heard.1 (omega arith)

    pub root_leaves : (z : Exit) × (exit (events_of t) r ≡ Some z) × (z ≢ Dropped)
    root_leaves =
        let so = leaves_well t whole b n decided r inside top.0 top.1 top.4 (subst (λ o. asked_by (said_in (facts_at t)) top.0.me o ≡ true) (sym top.3) refl) in
        (so.0, subst (λ c. exit (events_of t) c ≡ Some so.0) top.2 so.1, so.2)

    root_good : (z : Exit) → exit (events_of t) r ≡ Some z → z ≢ Dropped
    root_good z is dropped = (let both : Some root_leaves.0 ≡ Some z = sym root_leaves.1 ∙ is in let same : root_leaves.0 ≡ z = cc in root_leaves.2 (same ∙ dropped))

    pub found : WasFound t whole r t.trace
    found = commit_found t whole r (top.0, top.1, top.2, top.3) root_good root_leaves.0 root_leaves.1

    abbrev pub part_found : Part t whole found.before
    part_found = record { rest = happenings.Turn found.turn ∷ found.later; is = found.is }

    -- at the end the root has left, and has asked its children
    root_asks : State t whole found.commit.branch t.trace → (i : ℕ) (c : BranchId) → numbered (children_of found.commit.branch.live) i ≡ Some c → was_asked (said_in (facts_at t)) found.commit.branch.live.me c ≡ true
    root_asks (Left z left kids ends told) i c at = kids i c at
    root_asks (Here k y up is me same) i c at =
        let none : exit (events_of t) y.live.me ≡ None = all_found (λ (l : Live). exit (events_of t) l.me ≡ None) live_id k.lives y.live.me y.live (nodes_are_as_events t whole found.commit.branch.live.me.node k up).0 (live_so k y.live.me y is) in
        let some : exit (events_of t) y.live.me ≡ Some root_leaves.0 = subst (λ c. exit (events_of t) c ≡ Some root_leaves.0) (sym (me ∙ found.commit.is_me)) root_leaves.1 in
        absurd (cc (none, some))

    pub member : Member t whole found.before part_found r found.commit.branch
    member = root_member t whole r found root_good root_asks top

    pub well : LeavesWell t whole found.before part_found r found.commit.branch.live.me
    well = (root_leaves.0, subst (λ c. exit (events_of t) c ≡ Some root_leaves.0) (sym found.commit.is_me) root_leaves.1, root_leaves.2)

    site : walk_from (said_in (facts_at t)) (deepest (births_of t)) r ≡ b
    site = sym (trees.site_is (births_of t) (said_in (facts_at t)) (known t whole) heard.0 b heard.1 heard.2) ∙ sym (at_site t whole b n decided r inside)

    -- a root is not above any depth
    pub high : 1 ≤ found.commit.branch.live.depth
    high =
        let its : LiveIs (Began (births_of (so_far t found.before))) found.commit.branch.live
        = placed_of (so_far t found.before) (part_lawful t whole found.before part_found) found.commit.branch.live.me.node member.here.kept member.here.up found.commit.branch member.here.found in
        subst (λ d. 1 ≤ d) its.is_depth (trees.high (births_of t) (said_in (facts_at t)) (known t whole) its.born (born_end t whole found.before part_found its.born its.began))

    first_depth : found.commit.branch.live.depth ≡ 1
    first_depth =
        let its : LiveIs (Began (births_of (so_far t found.before))) found.commit.branch.live
        = placed_of (so_far t found.before) (part_lawful t whole found.before part_found) found.commit.branch.live.me.node member.here.kept member.here.up found.commit.branch member.here.found in
        let one : its.born ≡ top.0
        = trees.same_born (births_of t) (said_in (facts_at t)) (known t whole) its.born top.0 (born_end t whole found.before part_found its.born its.began) top.1 (its.is_me ∙ (found.commit.is_me ∙ sym top.2)) in
        let stands = trees.stands_so (births_of t) (said_in (facts_at t)) (known t whole) top.0 None top.1 top.3 in
        sym its.is_depth ∙ (ap (λ (y : Born). y.depth) one ∙ stands.1)

    pub root_low : Low t whole found.before part_found r (asked_well t whole b n decided r inside) r
    root_low = record { branch = found.commit.branch; is_me = found.commit.is_me; member = member; low = subst (λ d. d ≤ depth_limit) (sym first_depth) (let one : 1 ≤ 8 = omega arith in one) }

    walk_down : WalksTo (f_at t found.before) r b
    walk_down = walks_down t whole found.before part_found r b n decided inside (deepest (births_of t)) found.commit.branch member well r found.commit.is_me site

    pub follows : DecidedSo t b
    follows = record {
      before = found.before;
      turn = found.turn;
      later = found.later;
      is = found.is;
      root = r;
      session = found.commit.session;
      given = found.commit.given;
      call = found.commit.call;
      kept = found.commit.kept;
      up = subst (λ i. node_at (f_at t found.before) i ≡ Some found.commit.kept) (sym found.commit.node) found.commit.up;
      has = found.commit.root;
      accepted = found.commit.code;
      writes = λ l live. (let both : Some found.commit.branch.live ≡ Some l = sym (subst (λ b. live_at found.commit.kept b ≡ Some found.commit.branch.live) found.commit.is_me (live_so found.commit.kept found.commit.branch.live.me found.commit.branch found.commit.found)) ∙ live in
          let it : found.commit.branch.live ≡ l = cc in
          sym (ap (λ (y : Live). y.read_at) it) ∙ found.commit.writes);
      walk = walk_down;
      planned = λ tr sees. (
        site_seen t whole found.before part_found r (asked_well t whole b n decided r inside) tr sees root_low found.commit.branch member found.commit.is_me high b walk_down,
        plan_covers t whole found.before part_found r (asked_well t whole b n decided r inside) tr sees root_low b
            (λ c tree. covers_it t whole found.before part_found r b n decided inside c (in_it t whole found.before part_found r b n decided inside found.commit.branch member root_leaves found.commit.is_me c tree)) found.commit.branch member found.commit.is_me,
      );
      covers = λ c tree. covers_it t whole found.before part_found r b n decided inside c (in_it t whole found.before part_found r b n decided inside found.commit.branch member root_leaves found.commit.is_me c tree);
    }

pub decisions_follow_walks : DecisionsFollowWalks
decisions_follow_walks t lawful b n decided = follows t lawful b n decided
