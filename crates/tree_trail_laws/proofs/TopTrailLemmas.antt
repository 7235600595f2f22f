-- What a turn tells of a root: that it lives on where no record, no message and no call ends it and its collect is not complete, that it is as it was
-- where nothing comes to it, and that its COMMIT is not accepted where none came.
use Rattle.std.proofs.Common.{◌≡◌, ◌≢◌, ℕ, ◌==◌, ◌||◌, ◌&&◌, ◌⊎◌, not, Bool, true, false, if◌then◌else◌, find, is_none, List, [], ◌∷◌, ◌++◌, map, Option, Some, None, inl, inr, refl, sym, ap, subst, ◌∙◌, is_some}
use Rattle.std.specs.List.{list_any, list_all}
use Rattle.std.proofs.lemmas.Bool.{and_parts, and_left, and_right, or_cases, not-true, eqb-true}
use Rattle.tran_ids.proofs.BranchLemmas.{equal_from_same}
use Rattle.prepare_phase.specs.Acts.{is_awaited}
use Rattle.session_tree.specs.Live.{children_of}
use Rattle.agreement.specs.Events.{Exit, Quiet, Dropped}
use Rattle.node_rules.specs.Data.{Answer, BranchId, Edge, Live, Msg, Phase, Input, Place}
use Rattle.node_rules.specs.Data.inputs
use Rattle.node_rules.specs.Data.phases
use Rattle.node_rules.specs.Data.stmts
use Rattle.node_rules.specs.Inputs.{IsCall}
use Rattle.node_rules.specs.Words.{same}
use Rattle.run_rules.specs.Branches.{Seen, Trail, CommitPlan, is_among, is_live, is_live_at, is_root_of, is_plan_of, all_voted, seen_at, plan_at}
use Rattle.run_rules.specs.Data.{Turn}
use Rattle.run_rules.specs.Data.happenings
use Rattle.run_rules.specs.Facts.{Facts, outcome_at}
use Rattle.run_branch_laws.specs.PhaseLaws.{PhaseFits}
use Rattle.run_rules.specs.Runs.{answered_by, is_refused}
use Rattle.run_rules.specs.Tree.{plan}
use Rattle.run_rules.specs.Trail.{is_vote, is_abort, is_first_vote, voted_after, commits, begins_collect, recorded_exit, is_quiet, kind_drops, input_drops, has_no_site, ends_siteless, whole_exit, exit_by, exit_after, with_turn, planned_by, called_root, trail_after}
use Rattle.tree_trail_laws.specs.LowerLaws.{AreVoted, IsTracedLive}
use Rattle.tree_trail_laws.proofs.SeenLemmas.{begun, planned, brings, turned, seen_begun}
use Rattle.tree_trail_laws.proofs.UntouchedLemmas.{Concerns_root, Is_commit, Is_rollback, Gives_up}

-- a child that is awaited has not voted
awaited_out : (vs : List BranchId) (es : List Edge) → AreVoted vs es → list_any (λ e. is_awaited e.vote) es ≡ true → list_all (λ c. is_among c vs) (map (λ (e : Edge). e.peer) es) ≡ false
awaited_out vs [] all some = absurd cc
awaited_out vs (e ∷ es) all some = elim (or_cases (is_awaited e.vote) (list_any (λ (x : Edge). is_awaited x.vote) es) some) [
  | inl here ↦ and_left (is_among e.peer vs) (list_all (λ c. is_among c vs) (map (λ (x : Edge). x.peer) es)) (all.0 ∙ ap not here)
  | inr later ↦ and_right (is_among e.peer vs) (list_all (λ c. is_among c vs) (map (λ (x : Edge). x.peer) es)) (awaited_out vs es all.1 later)
]

-- a root that collects waits for an answer
root_waits : (parent : Option BranchId) (es : List Edge) (phase : Phase) → parent ≡ None → phase ≢ phases.Working → PhaseFits parent es phase → list_any (λ e. is_awaited e.vote) es ≡ true
root_waits parent es phases.Working top busy fits = absurd (busy refl)
root_waits parent es (phases.Collecting b) top busy fits = fits.1
root_waits parent es phases.Ready top busy fits = absurd (fits.2 top)

pub or_not : (q : Bool) → (q || false) ≡ q
or_not true = refl
or_not false = refl

pub phase_cases : (phase : Phase) → (phase ≡ phases.Working) ⊎ (phase ≢ phases.Working)
phase_cases phases.Working = inl refl
phase_cases (phases.Collecting b) = inr (λ is. absurd cc)
phase_cases phases.Ready = inr (λ is. absurd cc)

module _ (places : List Place) (f : Facts) (tr : Trail) (u : Turn) where
  abbrev tr1 : Trail
  tr1 = trail_after places f tr (happenings.Turn u)

  abbrev answer : Option Answer
  answer = answered_by (outcome_at places f u)

  -- ---- a root that lives on

  module _ (l : Live) (top : l.parent ≡ None) (fits : PhaseFits l.parent l.edges l.phase) (unwritten : recorded_exit l.me u.wrote ≡ None) (unquiet : list_any (is_quiet l.me) u.sent ≡ false) (s : Seen) (me : s.me ≡ l.me) where
    abbrev t1 : Seen
    t1 = turned places f tr u s

    module _ (at : seen_at (begun places f tr u) l.me ≡ Some s) (live : s.exit ≡ None) (parent : s.parent ≡ None) (kids : t1.children ≡ children_of l) (reads : s.read_at ≡ l.read_at) (drops : input_drops u.node answer s u.input ≡ false)
        (working : l.phase ≡ phases.Working → (t1.collects ≡ false) × (t1.voted ≡ [])) (collects : l.phase ≢ phases.Working → (t1.collects ≡ true) × AreVoted t1.voted l.edges) where
      abbrev pl : Trail
      pl = planned places f tr u

      abbrev new : Seen
      new = with_turn f.book u (outcome_at places f u) (brings places f tr u) s

      not_complete : (new.collects && (all_voted new && has_no_site (plan_at pl s.me))) ≡ false
      not_complete = elim (phase_cases l.phase) [
        | inl is ↦ and_left new.collects (all_voted new && has_no_site (plan_at pl s.me)) (working is).0
        | inr busy ↦ and_right new.collects (all_voted new && has_no_site (plan_at pl s.me)) (and_left (all_voted new) (has_no_site (plan_at pl s.me))
            (ap (list_all (λ c. is_among c new.voted)) kids ∙ awaited_out new.voted l.edges (collects busy).1 (root_waits l.parent l.edges l.phase top busy fits)))
      ]

      whole : whole_exit pl u answer s new ≡ None
      whole =
          ap (λ q. if q then Some Quiet else (if input_drops u.node answer s u.input || ends_siteless pl new then Some Dropped else None)) (subst (λ b. list_any (is_quiet b) u.sent ≡ false) (sym me) unquiet)
          ∙ (ap (λ q. if q || ends_siteless pl new then Some Dropped else None) drops ∙ ap (λ q. if q then Some Dropped else None) (and_right (is_none s.parent) _ not_complete))

      lives : t1.exit ≡ None
      lives = ap (exit_after pl u answer s new) live ∙ (ap (exit_by pl u answer s new) (subst (λ b. recorded_exit b u.wrote ≡ None) (sym me) unwritten) ∙ by u.cut (whole_exit pl u answer s new) whole)
        where
          by : (cut : Bool) (w : Option Exit) → w ≡ None → (if cut then None else w) ≡ None
          by true w is = refl
          by false w is = is

      pub told_so : (s : Seen) × (seen_at tr1 l.me ≡ Some s) × IsTracedLive l s
      told_so = (t1, seen_begun places f tr u l.me s at, record { live = lives; parent = parent ∙ sym top; children = kids; read_at = reads; working = working; collects = collects })

  -- ---- one to which nothing comes

  module _ (s : Seen) (not_to : (m : Msg) → u.input ≡ inputs.Message m → same m.to s.me ≡ false) (not_root : (session : ℕ) → Concerns_root u.input session → is_root_of u.node session s ≡ false) where
    first_not : (m : Msg) → same m.to s.me ≡ false → is_first_vote s m ≡ false
    first_not m other = and_left (same m.to s.me && is_vote m.kind) ((is_live s && s.collects) && (is_among m.from s.children && not (is_among m.from s.voted))) (and_left (same m.to s.me) (is_vote m.kind) other)

    voted_by : (input : Input) → u.input ≡ input → voted_after s input ≡ s.voted
    voted_by (inputs.Message m) came = ap (λ q. if q then s.voted ++ m.from ∷ [] else s.voted) (first_not m (not_to m came))
    voted_by _ came = refl

    begins_by : (a : Option Answer) (input : Input) → u.input ≡ input → begins_collect u.node a s input ≡ false
    begins_by a (inputs.Message m) came = and_left (same m.to s.me) _ (not_to m came)
    begins_by a (inputs.Call session (Some (stmts.Commit comment))) came = and_right (is_none s.read_at) _ (and_left (is_root_of u.node session s) _ (not_root session (Is_commit comment came)))
    begins_by a (inputs.Call session (Some _)) came = and_right (is_none s.read_at) false refl
    begins_by a (inputs.Call session None) came = and_right (is_none s.read_at) false refl
    begins_by a _ came = and_right (is_none s.read_at) false refl

    drops_by : (input : Input) → u.input ≡ input → input_drops u.node answer s input ≡ false
    drops_by (inputs.Message m) came =
        ap (λ q. q || (is_first_vote s m && is_abort m.kind)) (and_left (same m.to s.me) (kind_drops s m.from m.kind) (not_to m came)) ∙ and_left (is_first_vote s m) (is_abort m.kind) (first_not m (not_to m came))
    drops_by (inputs.Call session (Some stmts.Rollback)) came = not_root session (Is_rollback came)
    drops_by (inputs.Call session (Some (stmts.Commit comment))) came = and_right (is_some s.read_at) _ (and_left (is_root_of u.node session s) _ (not_root session (Is_commit comment came)))
    drops_by (inputs.Call session (Some _)) came = refl
    drops_by (inputs.Call session None) came = refl
    drops_by (inputs.GiveUp session) came = and_left (is_root_of u.node session s) s.collects (not_root session (Gives_up came))
    drops_by inputs.Reco came = refl
    drops_by inputs.Checkpoint came = refl

    pub none_drops : input_drops u.node answer s u.input ≡ false
    none_drops = drops_by u.input refl

    pub same_voted : (turned places f tr u s).voted ≡ s.voted
    same_voted = voted_by u.input refl

    pub same_collects : (turned places f tr u s).collects ≡ s.collects
    same_collects = ap (λ q. s.collects || q) (begins_by (brings places f tr u).answer u.input refl) ∙ or_not s.collects

  -- ---- plans

  module _ (b : BranchId) (refused : (session : ℕ) (given : Option (List ℕ)) → IsCall u.input session (stmts.Commit given) → b.node ≡ u.node → b.session ≡ session → is_refused answer ≡ true) where
    -- no plan of this branch
    abbrev Other : List CommitPlan → Type 0
    Other ps = find (is_plan_of b) ps ≡ None

    commits_not : (s : Seen) (session : ℕ) (given : Option (List ℕ)) → IsCall u.input session (stmts.Commit given) → commits u.node answer s (inputs.Call session (Some (stmts.Commit given))) ≡ true → same s.me b ≡ false
    commits_not s session given call is = by (same s.me b) refl
      where
        by : (q : Bool) → same s.me b ≡ q → q ≡ false
        by false other = refl
        by true here =
            let parts = and_parts (is_root_of u.node session s) (not (is_refused answer)) (and_parts (is_none s.read_at) _ is).1 in
            let more = and_parts (is_live_at u.node s) (is_none s.parent && (s.me.session == session)) parts.0 in
            let root = (and_parts (is_none s.parent) (s.me.session == session) more.1).1 in
            let here_at : b.node ≡ u.node = sym (ap (λ (c : BranchId). c.node) (equal_from_same s.me b here)) ∙ eqb-true s.me.node u.node (and_parts (s.me.node == u.node) (is_live s) more.0).0 in
            let at : b.session ≡ session = sym (ap (λ (c : BranchId). c.session) (equal_from_same s.me b here)) ∙ eqb-true s.me.session session root in
            let yes : is_refused answer ≡ true = refused session given call here_at at in
            let no : is_refused answer ≡ false = not-true (is_refused answer) parts.1 in
            absurd (cc (yes, no))

    one_plan : (s : Seen) (session : ℕ) (given : Option (List ℕ)) → IsCall u.input session (stmts.Commit given) → (q : Bool) → commits u.node answer s (inputs.Call session (Some (stmts.Commit given))) ≡ q
        → Other (if q then plan places (begun places f tr u) s.me ∷ [] else [])
    unfolding plan
    one_plan s session given call false is = refl
    one_plan s session given call true is = ap (λ q. if q then Some (plan places (begun places f tr u) s.me) else None) (commits_not s session given call is)

    none_by : (q : Bool) (ps : List CommitPlan) → Other (if q && false then ps else [])
    none_by true ps = refl
    none_by false ps = refl

    by_root : (input : Input) → u.input ≡ input → (o : Option Seen) → Other (planned_by places (begun places f tr u) u.node answer input o)
    by_root input came None = refl
    by_root (inputs.Call session (Some (stmts.Commit given))) came (Some s) = one_plan s session given came (commits u.node answer s (inputs.Call session (Some (stmts.Commit given)))) refl
    by_root (inputs.Call session (Some _)) came (Some s) = none_by (is_none s.read_at) _
    by_root (inputs.Call session None) came (Some s) = none_by (is_none s.read_at) _
    by_root (inputs.Message m) came (Some s) = none_by (is_none s.read_at) _
    by_root (inputs.GiveUp session) came (Some s) = none_by (is_none s.read_at) _
    by_root inputs.Reco came (Some s) = none_by (is_none s.read_at) _
    by_root inputs.Checkpoint came (Some s) = none_by (is_none s.read_at) _

    none_more : (ps qs : List CommitPlan) → Other ps → Other qs → Other (ps ++ qs)
    none_more [] qs one two = two
    none_more (x ∷ ps) qs one two = by (is_plan_of b x) one (λ rest. none_more ps qs rest two)
      where
        by : (q : Bool) → (if q then Some x else find (is_plan_of b) ps) ≡ None → (find (is_plan_of b) ps ≡ None → find (is_plan_of b) (ps ++ qs) ≡ None) → (if q then Some x else find (is_plan_of b) (ps ++ qs)) ≡ None
        by true none rest = absurd cc
        by false none rest = rest none

    pub none_planned : plan_at tr b ≡ None → plan_at tr1 b ≡ None
    unfolding trail_after
    none_planned none = none_more tr.plans (planned_by places (begun places f tr u) u.node answer u.input (called_root (begun places f tr u) u.node u.input)) none (by_root u.input refl (called_root (begun places f tr u) u.node u.input))
