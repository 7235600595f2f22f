-- What is told of the live branch that a message comes to is what its node makes of it, where the branch lives on.
use Rattle.std.proofs.Common.{◌≡◌, ◌≢◌, ℕ, ◌||◌, ◌&&◌, ◌⊎◌, not, Bool, true, false, true≢false, if◌then◌else◌, is_none, List, [], ◌∷◌, ◌++◌, map, Option, Some, None, inl, inr, refl, sym, ap, subst, ◌∙◌}
use Rattle.std.specs.List.{list_any}
use Rattle.std.proofs.lemmas.Bool.{and_parts, and_from, and_left, and_right, or_cases, or_left, or_right, not-true}
use Rattle.tran_ids.proofs.BranchLemmas.{equal_from_same, same_from_equal}
use Rattle.session_tree.specs.Live.{is_branch}
use Rattle.node_rules.specs.Data.{BranchId, Edge, Kind, Live, Phase, Vote, Msg, Opening, Place}
use Rattle.link_session.specs.Opens.{opening_of}
use Rattle.node_rules.specs.Data.inputs
use Rattle.node_rules.specs.Data.kinds
use Rattle.node_rules.specs.Data.phases
use Rattle.node_rules.specs.Data.votes
use Rattle.node_rules.specs.Words.{same, is_item_of}
use Rattle.node_rules.specs.NodeState.{NodeState, Branch, live_id, live_at, branch_at, kept_row_at, nothing}
use Rattle.node_rules.specs.Calls.{open_by}
use Rattle.node_rules.specs.Prepare.{is_awaited, answers_first, on_answer, drops}
use Rattle.node_rules.specs.Turn.{Is_live, live_or, status_of, kind_turn}
use Rattle.node_rules.proofs.StandLemmas.{live_so}
use Rattle.run_rules.specs.Branches.{Seen, is_among, is_live}
use Rattle.run_branch_laws.specs.PhaseLaws.{PhaseFits}
use Rattle.run_rules.specs.Trail.{is_vote, is_abort, is_first_vote, voted_after, is_prepare, kind_drops, message_drops}
use Rattle.run_branch_laws.proofs.FreezeLemmas.{working_or}
use Rattle.tree_trail_laws.specs.LowerLaws.{AreVoted, IsTracedLive}
use Rattle.tree_trail_laws.proofs.HearLemmas.{first_among, Alike, same_alike, IsBusy, kept_alike, gone, execs, openeds, hears_replies, points, asks, asks_gone, prepares_working, prepares_busy, answers_first_so, answers_not}
use Rattle.tree_trail_laws.proofs.PlanLemmas.{find_more}

-- a child that has not answered is awaited
awaited_first : (vs : List BranchId) (from : BranchId) (es : List Edge) → AreVoted vs es → is_among from (map (λ (e : Edge). e.peer) es) ≡ true → is_among from vs ≡ false → list_any (answers_first from) es ≡ true
awaited_first vs from [] all there none = absurd cc
awaited_first vs from (e ∷ es) all there none = elim (or_cases (same e.peer from) (is_among from (map (λ (x : Edge). x.peer) es)) there) [
  | inl here ↦ (let mine : is_among e.peer vs ≡ false = subst (λ c. is_among c vs ≡ false) (sym (equal_from_same e.peer from here)) none in
      let waits : not (is_awaited e.vote) ≡ false = sym all.0 ∙ mine in
      or_left (answers_first from e) (list_any (answers_first from) es) (and_from (same e.peer from) (is_awaited e.vote) here (not_no (is_awaited e.vote) waits)))
  | inr later ↦ or_right (answers_first from e) (list_any (answers_first from) es) (awaited_first vs from es all.1 later none)
]
  where
    not_no : (q : Bool) → not q ≡ false → q ≡ true
    not_no true is = refl
    not_no false is = absurd cc

-- whether the collect of a branch begins with a message
abbrev pub begins_by : Seen → Msg → Bool
begins_by s m = same m.to s.me && (is_live s && is_prepare m.kind)

-- What is told of it after the message, and that it is not dropped.
pub record Heard (s : Seen) (m : Msg) (l : Live) : Type 0 where
  pub drops : message_drops s m ≡ false
  pub working : l.phase ≡ phases.Working → ((s.collects || begins_by s m) ≡ false) × (voted_after s (inputs.Message m) ≡ [])
  pub collects : l.phase ≢ phases.Working → ((s.collects || begins_by s m) ≡ true) × AreVoted (voted_after s (inputs.Message m)) l.edges

-- no child's first answer comes
module _ (s : Seen) (m : Msg) (z l : Live) (told : IsTracedLive z s) (no_vote : is_first_vote s m ≡ false) where
  votes_stay : voted_after s (inputs.Message m) ≡ s.voted
  votes_stay = ap (λ q. if q then s.voted ++ m.from ∷ [] else s.voted) no_vote

  none_dropped : (same m.to s.me && kind_drops s m.from m.kind) ≡ false → message_drops s m ≡ false
  none_dropped not_so = ap (λ q. q || (is_first_vote s m && is_abort m.kind)) not_so ∙ ap (λ q. q && is_abort m.kind) no_vote

  pub alike_heard : (begins_by s m ≡ false) ⊎ (z.phase ≢ phases.Working) → (same m.to s.me && kind_drops s m.from m.kind) ≡ false → Alike z l → Heard s m l
  alike_heard begins not_so alike = record {
    drops = none_dropped not_so;
    working = λ working. (let was = told.working (sym alike.phase ∙ working) in (
      elim begins [
        | inl none ↦ ap (λ q. q || begins_by s m) was.0 ∙ none
        | inr busy ↦ absurd (busy (sym alike.phase ∙ working))
      ],
      votes_stay ∙ was.1,
    ));
    collects = λ busy. (let busy_z : z.phase ≢ phases.Working = (λ working. busy (alike.phase ∙ working)) in let was = told.collects busy_z in (
      or_left s.collects (begins_by s m) was.0,
      subst (λ vs. AreVoted vs l.edges) (sym votes_stay) (alike.votes busy_z s.voted was.1),
    ));
  }

module _ (p : Place) (k : NodeState) (x : Branch) (found : branch_at k x.live.me ≡ Some x) (rests : x.live.phase ≢ phases.Working → x.work.going ≡ None) (fits : PhaseFits x.live.parent x.live.edges x.live.phase)
    (s : Seen) (me : s.me ≡ x.live.me) (told : IsTracedLive x.live s) (l : Live) where
  abbrev z : Live
  z = x.live

  abbrev msg : BranchId → ℕ → Kind → Msg
  msg from scn kind = record { from = from; to = z.me; scn = scn; kind = kind }

  mine : same z.me s.me ≡ true
  mine = same_from_equal z.me s.me (sym me)

  not_first : (from : BranchId) (scn : ℕ) (kind : Kind) → is_vote kind ≡ false → is_first_vote s (msg from scn kind) ≡ false
  not_first from scn kind not_so = and_left (same z.me s.me && is_vote kind) _ (and_right (same z.me s.me) (is_vote kind) not_so)

  not_begun : (from : BranchId) (scn : ℕ) (kind : Kind) → is_prepare kind ≡ false → begins_by s (msg from scn kind) ≡ false
  not_begun from scn kind not_so = and_right (same z.me s.me) (is_live s && is_prepare kind) (and_right (is_live s) (is_prepare kind) not_so)

  -- a message that teaches nothing
  plain : (from : BranchId) (scn : ℕ) (kind : Kind) → is_vote kind ≡ false → is_prepare kind ≡ false → kind_drops s from kind ≡ false → Alike z l → Heard s (msg from scn kind) l
  plain from scn kind no_vote no_prepare no_drop alike =
      alike_heard s (msg from scn kind) z l told (not_first from scn kind no_vote) (inl (not_begun from scn kind no_prepare)) (and_right (same z.me s.me) (kind_drops s from kind) no_drop) alike

  opens : (from : BranchId) (edge : ℕ) (root : BranchId) (depth : ℕ) (read_at : Option ℕ) (o : Option Opening) → live_at (open_by p k from edge root depth read_at o).after z.me ≡ Some l → Alike z l
  opens from edge root depth read_at (Some o) is = kept_alike p k x found l is
  opens from edge root depth read_at None is =
      let at : live_at (open_by p k from edge root depth read_at None).after z.me ≡ Some z = find_more (is_item_of live_id z.me) k.lives _ z (live_so k z.me x found) in
      let both : Some z ≡ Some l = sym at ∙ is in
      same_alike z l (let it : l ≡ z = cc in it)

  -- ---- answers to Prepare

  module _ (from : BranchId) (scn : ℕ) (kind : Kind) (v : Vote) (vote : is_vote kind ≡ true) (heard : is_awaited v ≡ false) (no_drop : kind_drops s from kind ≡ false) (no_prepare : is_prepare kind ≡ false)
      (abort : v ≢ votes.Abort → is_abort kind ≡ false) (is : live_at (on_answer k z from v).after z.me ≡ Some l) where
    abbrev m : Msg
    m = msg from scn kind

    first_told : (b : Bool) → z.phase ≡ phases.Collecting b → list_any (answers_first from) z.edges ≡ true → is_first_vote s m ≡ true
    first_told b phase first =
        let busy : z.phase ≢ phases.Working = (λ working. absurd (cc (phase, working))) in
        let was = told.collects busy in
        let there = first_among s.voted from z.edges was.1 first in
        and_from (same z.me s.me && is_vote kind) _ (and_from (same z.me s.me) (is_vote kind) mine vote)
        (and_from (is_live s && s.collects) _ (and_from (is_live s) s.collects (ap is_none told.live) was.0)
        (and_from (is_among from s.children) (not (is_among from s.voted)) (ap (is_among from) told.children ∙ there.0) (ap not there.1)))

    heard_first : (b : Bool) → z.phase ≡ phases.Collecting b → list_any (answers_first from) z.edges ≡ true → Heard s m l
    heard_first b phase first =
        let busy : z.phase ≢ phases.Working = (λ working. absurd (cc (phase, working))) in
        let so = answers_first_so p k x found from v b phase first heard l is in
        let one : is_first_vote s m ≡ true = first_told b phase first in
        let votes : voted_after s (inputs.Message m) ≡ s.voted ++ from ∷ [] = ap (λ q. if q then s.voted ++ from ∷ [] else s.voted) one in
        record {
          drops = ap (λ q. q || (is_first_vote s m && is_abort kind)) (and_right (same z.me s.me) (kind_drops s from kind) no_drop) ∙ and_right (is_first_vote s m) (is_abort kind) (abort so.0);
          working = λ working. absurd (so.1 working);
          collects = λ other. (or_left s.collects (begins_by s m) (told.collects busy).0, subst (λ vs. AreVoted vs l.edges) (sym votes) (so.2 s.voted (told.collects busy).1));
        }

    -- the node hears it where it is told
    heard_by : (phase : Phase) → z.phase ≡ phase → list_any (answers_first from) z.edges ≡ true → phase ≢ phases.Working → (b : Bool) × (phase ≡ phases.Collecting b)
    heard_by phases.Working at first busy = absurd (busy refl)
    heard_by (phases.Collecting b) at first busy = (b, refl)
    heard_by phases.Ready at first busy =
        let none = subst (PhaseFits z.parent z.edges) at fits in absurd (none_first z.edges none.1 first)
      where
        none_first : (es : List Edge) → list_any (λ (e : Edge). is_awaited e.vote) es ≡ false → list_any (answers_first from) es ≡ true → ⊥
        none_first [] none some = absurd cc
        none_first (e ∷ es) none some = elim (or_cases (answers_first from e) (list_any (answers_first from) es) some) [
          | inl here ↦ true≢false (sym (or_left (is_awaited e.vote) (list_any (λ (y : Edge). is_awaited y.vote) es) (and_parts (same e.peer from) (is_awaited e.vote) here).1) ∙ none)
          | inr later ↦ none_first es (rest (is_awaited e.vote) none) later
        ]
          where
            rest : (q : Bool) → (q || list_any (λ (y : Edge). is_awaited y.vote) es) ≡ false → list_any (λ (y : Edge). is_awaited y.vote) es ≡ false
            rest true not_so = absurd cc
            rest false not_so = not_so

    told_first : is_first_vote s m ≡ true → (b : Bool) × (z.phase ≡ phases.Collecting b) × (list_any (answers_first from) z.edges ≡ true)
    told_first first =
        let parts = and_parts (same z.me s.me && is_vote kind) _ first in
        let more = and_parts (is_live s && s.collects) _ parts.1 in
        let collects : s.collects ≡ true = (and_parts (is_live s) s.collects more.0).1 in
        let busy : z.phase ≢ phases.Working = (λ working. true≢false (sym collects ∙ (told.working working).0)) in
        let kids = and_parts (is_among from s.children) (not (is_among from s.voted)) more.1 in
        let some : list_any (answers_first from) z.edges ≡ true
        = awaited_first s.voted from z.edges (told.collects busy).1 (sym (ap (is_among from) told.children) ∙ kids.0) (not-true (is_among from s.voted) kids.1) in
        let at = heard_by z.phase refl some busy in
        (at.0, at.1, some)

    pub answered : Heard s m l
    answered = by (is_first_vote s m) refl
      where
        by : (q : Bool) → is_first_vote s m ≡ q → Heard s m l
        by true first = (let at = told_first first in heard_first at.0 at.1 at.2)
        by false none =
            alike_heard s m z l told none (inl (not_begun from scn kind no_prepare)) (and_right (same z.me s.me) (kind_drops s from kind) no_drop)
            (answers_not p k x found from v (λ some b at. true≢false (sym (first_told b at some) ∙ none)) l is)

  -- ---- each message

  abbrev After : BranchId → Kind → Type 0
  After from kind = live_at (kind_turn p k from z.me kind (Is_live x)).after z.me ≡ Some l

  rolls_by : (from : BranchId) (scn : ℕ) (q : Bool) → is_branch from z.parent ≡ q → live_at (if q then drops k z [] else nothing k).after z.me ≡ Some l → Heard s (msg from scn kinds.RolledBack) l
  rolls_by from scn true up is = absurd (gone p k x found [] l is)
  rolls_by from scn false other is = plain from scn kinds.RolledBack refl refl (ap (is_branch from) told.parent ∙ other) (kept_alike p k x found l is)

  asks_by : (from : BranchId) (scn : ℕ) (q : Bool) → is_branch from z.parent ≡ q → After from kinds.Ask → Heard s (msg from scn kinds.Ask) l
  asks_by from scn true up is = absurd (asks_gone p k x found from up l is)
  asks_by from scn false other is = plain from scn kinds.Ask refl refl (ap (is_branch from) told.parent ∙ other) (asks p k x found from other l is)

  prepared_by : (from : BranchId) (scn : ℕ) (b : Bool) (comment : List ℕ) → After from (kinds.Prepare b comment) → Heard s (msg from scn (kinds.Prepare b comment)) l
  prepared_by from scn b comment is = elim (working_or z.phase) [
    | inl working ↦ (let busy : IsBusy [] l = prepares_working p k x found comment b working l is in
        let was = told.working working in
        let m : Msg = msg from scn (kinds.Prepare b comment) in
        let none : is_first_vote s m ≡ false = not_first from scn (kinds.Prepare b comment) refl in
        let votes : voted_after s (inputs.Message m) ≡ [] = ap (λ q. if q then s.voted ++ from ∷ [] else s.voted) none ∙ was.1 in
        record {
          drops = ap (λ q. q || (is_first_vote s m && false)) (and_right (same z.me s.me) false refl) ∙ and_right (is_first_vote s m) false refl;
          working = λ at. absurd (busy.0 at);
          collects = λ other. (or_right s.collects (begins_by s m) (and_from (same z.me s.me) (is_live s && true) mine (and_from (is_live s) true (ap is_none told.live) refl)), subst (λ vs. AreVoted vs l.edges) (sym votes) busy.1);
        })
    | inr busy ↦ alike_heard s (msg from scn (kinds.Prepare b comment)) z l told (not_first from scn (kinds.Prepare b comment) refl) (inr busy) (and_right (same z.me s.me) false refl) (prepares_busy p k x found comment b busy l is)
  ]

  by_kind : (from : BranchId) (scn : ℕ) (kind : Kind) → After from kind → Heard s (msg from scn kind) l
  by_kind from scn (kinds.Open edge root depth read_at) is = plain from scn (kinds.Open edge root depth read_at) refl refl refl (opens from edge root depth read_at (opening_of k.opens from edge) is)
  by_kind from scn (kinds.Opened edge strength) is = plain from scn (kinds.Opened edge strength) refl refl refl (openeds p k x found rests from edge strength l is)
  by_kind from scn (kinds.Exec call task) is = plain from scn (kinds.Exec call task) refl refl refl (execs p k x found from call task l is)
  by_kind from scn (kinds.Reply call weight count a) is = plain from scn (kinds.Reply call weight count a) refl refl refl (hears_replies p k x found rests from call weight count a l is)
  by_kind from scn (kinds.Prepare b comment) is = prepared_by from scn b comment is
  by_kind from scn kinds.Prepared is = answered from scn kinds.Prepared votes.Prepared refl refl refl refl (λ other. refl) is
  by_kind from scn kinds.ReadOnly is = answered from scn kinds.ReadOnly votes.ReadOnly refl refl refl refl (λ other. refl) is
  by_kind from scn kinds.Ready is = answered from scn kinds.Ready votes.Ready refl refl refl refl (λ other. refl) is
  by_kind from scn kinds.Abort is = answered from scn kinds.Abort votes.Abort refl refl refl refl (λ other. absurd (other refl)) is
  by_kind from scn kinds.CommitPoint is = plain from scn kinds.CommitPoint refl refl refl (points p k x found l is)
  by_kind from scn (kinds.Committed n) is = plain from scn (kinds.Committed n) refl refl refl (kept_alike p k x found l is)
  by_kind from scn kinds.RolledBack is = rolls_by from scn (is_branch from z.parent) refl is
  by_kind from scn kinds.InDoubt is = plain from scn kinds.InDoubt refl refl refl (kept_alike p k x found l is)
  by_kind from scn kinds.Ack is = plain from scn kinds.Ack refl refl refl (kept_alike p k x found l is)
  by_kind from scn kinds.Forgotten is = plain from scn kinds.Forgotten refl refl refl (kept_alike p k x found l is)
  by_kind from scn kinds.Rollback is = absurd (gone p k x found [] l is)
  by_kind from scn kinds.Ask is = asks_by from scn (is_branch from z.parent) refl is

  -- what stands at the node
  stands : status_of k z.me ≡ Is_live x
  unfolding status_of
  stands = ap (λ o. live_or o (kept_row_at k z.me)) found

  pub heard_so : (from : BranchId) (scn : ℕ) (kind : Kind) → live_at (kind_turn p k from z.me kind (status_of k z.me)).after z.me ≡ Some l → Heard s (msg from scn kind) l
  heard_so from scn kind is = by_kind from scn kind (subst (λ st. live_at (kind_turn p k from z.me kind st).after z.me ≡ Some l) stands is)
