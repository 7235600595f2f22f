-- Where the happenings tell of live branches what their nodes keep, a branch seals and decides on what is told to have come to it.
use Rattle.std.proofs.Common.{◌≡◌, ◌≢◌, ℕ, ◌⊎◌, ◌||◌, ◌&&◌, not, Bool, true, false, if◌then◌else◌, is_none, unwrap_or, List, [], ◌∷◌, ◌++◌, map, Option, Some, None, inl, inr, refl, sym, ap, subst, ◌∙◌}
use Rattle.std.specs.Prelude.{IfSome}
use Rattle.std.specs.List.{AllByRecursion, list_any, list_all}
use Rattle.std.proofs.lemmas.Bool.{and_parts, and_from, or_cases, or_left, or_right, not-true}
use Rattle.std.proofs.lemmas.List.Folds.{list_any-append}
use Rattle.tran_ids.proofs.BranchLemmas.{equal_from_same, same_from_equal}
use Rattle.tran_ids.proofs.ListedLemmas.{item_is}
use Rattle.session_tree.specs.Live.{children_of as kept_children}
use Rattle.node_rules.specs.Data.{BranchId, Edge, Vote, Live, Msg, RedoRecord, Input}
use Rattle.node_rules.specs.Data.phases
use Rattle.node_rules.specs.Data.records
use Rattle.node_rules.specs.Data.stmts
use Rattle.node_rules.specs.Words.{same, item_at}
use Rattle.node_rules.specs.NodeState.{NodeState, live_id, live_at}
use Rattle.node_rules.specs.Prepare.{is_awaited, answers_first, has_voted, voted}
use Rattle.node_rules.specs.Sessions.{session_at}
use Rattle.node_rules.specs.Turn.{draft_of}
use Rattle.run_rules.specs.Branches.{Seen, Trail, seen_id, seen_at, children_of, children_at, is_among, is_live, all_voted, root_at}
use Rattle.run_rules.specs.Data.{Turn, Happening}
use Rattle.run_rules.specs.Data.happenings
use Rattle.run_rules.specs.Each.{AtEach}
use Rattle.run_rules.specs.Facts.{first_facts, place_at, node_at}
use Rattle.run_claims.specs.Knowledge.{IsLastVote, IsPrepareToLeaf, IsCommitPoint, IsCommitOfLeaf}
use Rattle.run_rules.specs.Lawful.{MayTurn, History, IsLawfulRun}
use Rattle.run_base_laws.specs.NodeLaws.{EachFactFrom}
use Rattle.run_branch_laws.specs.PhaseLaws.{IsUnasked, PhaseFits}
use Rattle.run_rules.specs.Trail.{is_vote, is_first_vote, voted_after, trail_after}
use Rattle.run_rules.specs.Tree.{parent_of}
use Rattle.run_base_laws.proofs.LawfulLemmas.{serves, turn_of_node}
use Rattle.run_base_laws.proofs.OwnLemmas.{all_found}
use Rattle.run_branch_laws.proofs.PhaseLemmas.{phases_fit}
use Rattle.tree_laws.proofs.PrefixLemmas.{so_far, f_at}
use Rattle.book_laws.specs.LeaveLaws.{IsLastAnswer, IsPointed, IsCommit, SealsOn, DecidesOn, LeavesOn, LeavesDuly}
use Rattle.book_laws.proofs.LeaveLemmas.{branches_leave_duly}
use Rattle.tree_laws.proofs.CommitLemmas.{Ends_record, Commits_root, commit_writes}
use Rattle.tree_laws.proofs.TimeLemmas.{part_lawful, may_of, fact_at}
use Rattle.tree_trail_laws.specs.LowerLaws.{AreVoted, IsTracedLive}
use Rattle.tree_trail_laws.specs.SeenLaws.{LeavesOnWhatCame, LeavesKnowing, SeenIsEnoughToLeave}
use Rattle.tree_trail_laws.proofs.FullLemmas.{Sees, SeesAll, full}
use Rattle.tree_trail_laws.proofs.CallLemmas.{call_free, seen_root}
use Rattle.tree_trail_laws.proofs.HearLemmas.{first_among}
use Rattle.tree_trail_laws.proofs.MomentLemmas.{tr_at, at_moment, by_moment}
use Rattle.tree_laws.proofs.AtTurn.{at_turn}
use Rattle.tree_trail_laws.proofs.AtTrail.{at_trail}

-- ---- answers

-- none is awaited where none was asked
none_awaited : (from : BranchId) (es : List Edge) → AllByRecursion IsUnasked es → list_any (answers_first from) es ≡ true → ⊥
none_awaited from [] all some = absurd cc
none_awaited from (e ∷ es) all some = elim (or_cases (answers_first from e) (list_any (answers_first from) es) some) [
  | inl here ↦ (let awaited : is_awaited e.vote ≡ true = (and_parts (same e.peer from) (is_awaited e.vote) here).1 in
      let none : is_awaited e.vote ≡ false = ap is_awaited all.0 in
      absurd (cc (awaited, none)))
  | inr later ↦ none_awaited from es all.1 later
]

-- the vote of a child behind the others
among_last : (votes : List BranchId) (from c : BranchId) → (is_among c votes || same from c) ≡ true → is_among c (votes ++ from ∷ []) ≡ true
among_last votes from c is = list_any-append (λ d. same d c) votes (from ∷ []) ∙ by (same from c) is
  where
    by : (q : Bool) → (is_among c votes || q) ≡ true → (is_among c votes || (q || false)) ≡ true
    by true is = is
    by false is = is

-- all have answered with the last one
all_with_last : (votes : List BranchId) (from : BranchId) (v : Vote) (es : List Edge) → AreVoted votes es → list_any (λ e. is_awaited e.vote) (map (has_voted from v) es) ≡ false
    → list_all (λ c. is_among c (votes ++ from ∷ [])) (map (λ (e : Edge). e.peer) es) ≡ true
all_with_last votes from v [] all none = refl
all_with_last votes from v (e ∷ es) all none =
    and_from (is_among e.peer (votes ++ from ∷ [])) _ (by (answers_first from e) refl) (all_with_last votes from v es all.1 (rest (is_awaited (has_voted from v e).vote) none))
  where
    rest : (q : Bool) → (q || list_any (λ e. is_awaited e.vote) (map (has_voted from v) es)) ≡ false → list_any (λ e. is_awaited e.vote) (map (has_voted from v) es) ≡ false
    rest true is = absurd cc
    rest false is = is

    head : (q : Bool) → (q || list_any (λ e. is_awaited e.vote) (map (has_voted from v) es)) ≡ false → q ≡ false
    head true is = is
    head false is = refl

    by : (q : Bool) → answers_first from e ≡ q → is_among e.peer (votes ++ from ∷ []) ≡ true
    by true here =
        let me : e.peer ≡ from = equal_from_same e.peer from (and_parts (same e.peer from) (is_awaited e.vote) here).0 in
        among_last votes from e.peer (or_right (is_among e.peer votes) (same from e.peer) (same_from_equal from e.peer (sym me)))
    by false other =
        let none_here : is_awaited (if answers_first from e then record e { vote = v } else e).vote ≡ false = head (is_awaited (has_voted from v e).vote) none in
        let not_awaited : is_awaited e.vote ≡ false = subst (λ q. is_awaited (if q then record e { vote = v } else e).vote ≡ false) other none_here in
        among_last votes from e.peer (or_left (is_among e.peer votes) (same from e.peer) (all.0 ∙ ap not not_awaited))

-- ---- on what a branch leaves

module _ (tr : Trail) (l : Live) (s : Seen) (seen : seen_at tr l.me ≡ Some s) (fits : IsTracedLive l s) (phase : PhaseFits l.parent l.edges l.phase) (input : Input) where
  not_working : (from : BranchId) → list_any (answers_first from) l.edges ≡ true → l.phase ≢ phases.Working
  not_working from first working = none_awaited from l.edges (subst (PhaseFits l.parent l.edges) working phase) first

  last_vote : IsLastAnswer l input → IsLastVote tr l.me input
  last_vote last =
      let from : BranchId = last.0 in
      let m : Msg = record { from = from; to = l.me; scn = last.3.scn; kind = last.1 } in
      let busy : l.phase ≢ phases.Working = not_working from last.5 in
      let there = first_among s.voted from l.edges (fits.collects busy).1 last.5 in
      let me : same l.me s.me ≡ true = same_from_equal l.me s.me (sym (item_is seen_id tr.seen l.me s seen)) in
      let first : is_first_vote s m ≡ true = and_from (same l.me s.me && is_vote last.1) _ (and_from (same l.me s.me) (is_vote last.1) me last.4)
      (and_from (is_live s && s.collects) _ (and_from (is_live s) s.collects (ap is_none fits.live) (fits.collects busy).0)
      (and_from (is_among from s.children) (not (is_among from s.voted)) (ap (is_among from) fits.children ∙ there.0) (ap not there.1))) in
      let votes : voted_after s input ≡ s.voted ++ from ∷ [] = ap (voted_after s) last.3.is ∙ ap (λ q. if q then s.voted ++ from ∷ [] else s.voted) first in
      let all : all_voted (record s { voted = voted_after s input }) ≡ true = ap (λ vs. list_all (λ c. is_among c vs) s.children) votes
      ∙ (ap (λ cs. list_all (λ c. is_among c (s.voted ++ from ∷ [])) cs) fits.children
      ∙ all_with_last s.voted from last.2 l.edges (fits.collects busy).1 (not-true (list_any (λ (e : Edge). is_awaited e.vote) (voted l from last.2).edges) last.6)) in
      (s, m, record { seen = seen; came = last.3.is; first = first }, all)

  no_children : l.edges ≡ [] → children_at tr l.me ≡ []
  no_children none = ap children_of seen ∙ (fits.children ∙ ap (map (λ (e : Edge). e.peer)) none)

  pub pointed : IsPointed l input → IsCommitPoint tr l.me input
  pointed point = (point.0, point.1, ap parent_of seen ∙ (fits.parent ∙ point.2))

  pub seals : SealsOn l input → IsLastVote tr l.me input ⊎ (IsPrepareToLeaf tr l.me input ⊎ IsCommitPoint tr l.me input)
  seals (inl last) = inl (last_vote last)
  seals (inr (inl prepare)) = inr (inl (prepare.0, no_children prepare.1))
  seals (inr (inr point)) = inr (inr (pointed point))

  pub decides : (n : ℕ) → (IsCommit input → l.edges ≡ [] → IsCommitOfLeaf tr n l.me input) → DecidesOn l input
      → IsCommitPoint tr l.me input ⊎ ((parent_of (seen_at tr l.me) ≡ None) × (IsLastVote tr l.me input ⊎ IsCommitOfLeaf tr n l.me input))
  decides n leaf (inl point) = inl (pointed point)
  decides n leaf (inr (root, inl last)) = inr (ap parent_of seen ∙ (fits.parent ∙ root), inl (last_vote last))
  decides n leaf (inr (root, inr commit)) = inr (ap parent_of seen ∙ (fits.parent ∙ root), inr (leaf commit.0 commit.1))

-- ---- every run

module _ (t : History) (whole : IsLawfulRun t) (sees : SeesAll t) where
  module _ (hs : List Happening) (u : Turn) (rest : List Happening) (is : hs ++ happenings.Turn u ∷ rest ≡ t.trace) (k : NodeState) (up : node_at (f_at t hs) u.node ≡ Some k) where
    open at_turn t whole hs u rest is use {f as f0}
    open at_trail t hs u use {tr as tr0}

    saw : Sees f0 tr0
    saw = at_moment t (λ places f tr h. Sees f tr) sees hs (happenings.Turn u) rest is

    may : MayTurn t.places f0 u k
    may = turn_of_node t.places f0 u k t.commands (may_of t whole hs (happenings.Turn u) rest is) up

    leaves : IfSome u.wrote (LeavesOn k.lives u.input)
    leaves =
        let all : LeavesDuly f0 (happenings.Turn u) = fact_at t.places t.commands LeavesDuly (first_facts t.places) hs (happenings.Turn u) rest
        (subst (EachFactFrom LeavesDuly t.places t.commands (first_facts t.places)) (sym is) (branches_leave_duly t whole)) in
        all k up

    phase_of : (b : BranchId) (l : Live) → item_at live_id k.lives b ≡ Some l → PhaseFits l.parent l.edges l.phase
    phase_of b l live = all_found (λ l. PhaseFits l.parent l.edges l.phase) live_id k.lives b l (phases_fit (so_far t hs) (part_lawful t whole hs (record { rest = happenings.Turn u ∷ rest; is = is })) u.node k up) live

    -- the record that was written is the one that the turn writes
    written : (r : RedoRecord) → u.wrote ≡ Some r → (draft_of (place_at t.places u.node) k u.input).wrote ≡ Some r
    written r wrote = elim (serves t.places f0 u k may).wrote [ inl none ↦ absurd (cc (none, wrote)) | inr new ↦ sym new ∙ wrote ]

    leaf : (b : BranchId) (l : Live) → item_at live_id k.lives b ≡ Some l → l.me ≡ b → (s : Seen) → seen_at tr0 b ≡ Some s → s.children ≡ kept_children l → Ends_record b (draft_of (place_at t.places u.node) k u.input).wrote
        → IsCommit u.input → l.edges ≡ [] → IsCommitOfLeaf tr0 u.node b u.input
    leaf b l live me s seen kids ends commit none =
        let free = call_free f0 k u.node u.input u.took commit.0 (Some (stmts.Commit commit.1)) commit.2 may.comes in
        let root : Commits_root k commit.0 (unwrap_or commit.1 []) b = commit_writes (place_at t.places u.node) k commit.0 commit.1 b (subst (λ i. Ends_record b (draft_of (place_at t.places u.node) k i).wrote) commit.2 ends) in
        let has : (session_at k.sessions commit.0).root ≡ Some b = root.3 ∙ ap Some root.2 in
        let top = seen_root tr0 k (root_at tr0 u.node commit.0) (session_at k.sessions commit.0).root b has (saw.roots u.node k up commit.0 free.0 free.1) in
        let both : Some top.0 ≡ Some s = sym top.4 ∙ seen in
        let one : top.0 ≡ s = cc in
        (commit.0, commit.1, top.0, commit.2, top.1, top.2, ap (λ (x : Seen). x.children) one ∙ (kids ∙ ap (map (λ (e : Edge). e.peer)) none))

    abbrev LeavesSo : Option RedoRecord → Type 0
    LeavesSo w = IfSome w (LeavesOnWhatCame (place_at t.places u.node) f0 tr0 (trail_after t.places f0 tr0 (happenings.Turn u)) k u.node u.input)

    seals_so : (b : BranchId) (l : Live) → item_at live_id k.lives b ≡ Some l → SealsOn l u.input → IsLastVote tr0 b u.input ⊎ (IsPrepareToLeaf tr0 b u.input ⊎ IsCommitPoint tr0 b u.input)
    seals_so b l live on =
        let me : l.me ≡ b = item_is live_id k.lives b l live in
        let it = saw.lives u.node k up l (subst (λ c. live_at k c ≡ Some l) (sym me) live) in
        subst (λ c. IsLastVote tr0 c u.input ⊎ (IsPrepareToLeaf tr0 c u.input ⊎ IsCommitPoint tr0 c u.input)) me (seals tr0 l it.0 it.1 it.2.told (phase_of b l live) u.input on)

    decides_so : (b : BranchId) (l : Live) → item_at live_id k.lives b ≡ Some l → Ends_record b (draft_of (place_at t.places u.node) k u.input).wrote → DecidesOn l u.input
        → IsCommitPoint tr0 b u.input ⊎ ((parent_of (seen_at tr0 b) ≡ None) × (IsLastVote tr0 b u.input ⊎ IsCommitOfLeaf tr0 u.node b u.input))
    decides_so b l live ends on =
        let me : l.me ≡ b = item_is live_id k.lives b l live in
        let found : live_at k l.me ≡ Some l = subst (λ c. live_at k c ≡ Some l) (sym me) live in
        let it = saw.lives u.node k up l found in
        subst (λ c. IsCommitPoint tr0 c u.input ⊎ ((parent_of (seen_at tr0 c) ≡ None) × (IsLastVote tr0 c u.input ⊎ IsCommitOfLeaf tr0 u.node c u.input))) me
        (decides tr0 l it.0 it.1 it.2.told (phase_of b l live) u.input u.node
        (leaf l.me l found refl it.0 it.1 it.2.told.children (subst (λ c. Ends_record c (draft_of (place_at t.places u.node) k u.input).wrote) (sym me) ends)) on)

    by_record : (w : Option RedoRecord) → u.wrote ≡ w → IfSome w (LeavesOn k.lives u.input) → LeavesSo w
    by_record None wrote on = tt
    by_record (Some (records.Sealed r)) wrote on = seals_so r.me on.0 on.1 on.2
    by_record (Some (records.Decided r)) wrote on = decides_so r.me on.0 on.1 (subst (Ends_record r.me) (sym (written (records.Decided r) wrote)) (inr refl)) on.2
    by_record (Some _) wrote on = tt

    pub turn_leaves : LeavesSo u.wrote
    turn_leaves = by_record u.wrote refl leaves

  leaves_at : (hs : List Happening) (h : Happening) (rest : List Happening) → hs ++ h ∷ rest ≡ t.trace → LeavesKnowing t.places (f_at t hs) (tr_at t hs) h
  leaves_at hs (happenings.Turn u) rest is = λ k up. turn_leaves hs u rest is k up
  leaves_at hs _ rest is = tt

  pub leave_each : AtEach LeavesKnowing t
  leave_each = by_moment t LeavesKnowing leaves_at

pub seen_is_enough_to_leave : SeenIsEnoughToLeave
seen_is_enough_to_leave t lawful sees = leave_each t lawful (full t lawful sees)
