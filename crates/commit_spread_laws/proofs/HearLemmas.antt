-- In every lawful run a sealed branch to which toward told a commit has learned it, or its node has stopped since.
use Rattle.std.proofs.Common.{◌≡◌, ◌≢◌, ℕ, Bool, true, false, if◌then◌else◌, List, [], ◌∷◌, Option, Some, None, inl, inr, refl, sym, ap, subst, ◌∙◌, append-nil}
use Rattle.std.specs.Prelude.{◌⊎◌}
use Rattle.std.proofs.lemmas.List.{append_assoc}
use Rattle.tran_ids.proofs.BranchLemmas.{same_from_equal}
use Rattle.tran_ids.proofs.ListedLemmas.{item_is}
use Rattle.commit_forget.specs.declared.next.Next.TheVariants as nexts
use Rattle.session_tree.specs.Live.{is_branch}
use Rattle.agreement.specs.Events.{Forest, Event, Exit, Sealed, Decided, Quiet, Learn, Send_commit, exit, learned, Has, Knows, site_of}
use Rattle.agreement.proofs.AgreementLaws.{covered, undecided_from_rollback}
use Rattle.agreement.proofs.Invariant.{Inv}
use Rattle.agreement.proofs.WholeTree.{site_root}
use Rattle.node_rules.specs.Data.{BranchId, Decision, Kind, Live, Msg, KeptRow, State, Input}
use Rattle.node_rules.specs.Data.decisions
use Rattle.node_rules.specs.Data.inputs
use Rattle.node_rules.specs.Data.kinds
use Rattle.node_rules.specs.Data.states
use Rattle.node_rules.specs.Inputs.{Came}
use Rattle.node_rules.specs.NodeState.{NodeState, TurnDraft, live_id, kept_row_id, live_at, kept_row_at}
use Rattle.node_rules.specs.Commit.{next_on_decision, decision_at, first_decision, next_turn}
use Rattle.node_rules.specs.Turn.{BranchStatus, Is_live, Is_kept, Is_gone, turn_of, heard, draft_of, committed_turn, kind_turn, status_of}
use Rattle.node_rules.proofs.StandLemmas.{StandsSo, stands_so, live_so}
use Rattle.run_base_laws.specs.EventRows.{RowIs, IsKnown, IsForcedAs, IsGoneForGood}
use Rattle.run_rules.specs.Facts.{node_at, facts_after}
use Rattle.run_rules.specs.Lawful.{IsOwed, MayHappen, History, IsLawfulRun, facts_at}
use Rattle.run_base_laws.specs.RunEvents.{with_event, wrote_event, with_record, events_after, events_of}
use Rattle.run_base_laws.proofs.EventsStandLemmas.{run_stands, nodes_are_as_events}
use Rattle.run_branch_laws.proofs.GoneLemmas.{gone_are_done}
use Rattle.run_base_laws.proofs.LaterLemmas.{learned_later, turn_added}
use Rattle.run_rules.proofs.ListLemmas.{all_weaker}
use Rattle.run_base_laws.proofs.OwnLemmas.{all_found}
use Rattle.run_base_laws.proofs.RowEventLemmas.{learned_now}
use Rattle.run_base_laws.proofs.SaidLemmas.{came_said}
use Rattle.tree_laws.specs.Forests.{forest_of}
use Rattle.tree_laws.proofs.AckForestLemmas.{gone_before}
use Rattle.tree_laws.proofs.PrefixLemmas.{so_far, e_at, more_on}
use Rattle.tree_laws.proofs.TimeLemmas.{Part, part_lawful, may_of, exit_end}
use Rattle.commit_laws.specs.DeliveryLaws.{CameInTurn}
use Rattle.commit_laws.specs.WaitLaws.{NodeHasStopped}
use Rattle.commit_laws.proofs.CameLemmas.{deliveries_came}
use Rattle.commit_laws.proofs.StopLemmas.{stopped_end, cut_stops}
use Rattle.commit_spread_laws.specs.HearLaws.{HasHeard, CommitsAreHeard, RowHasHeard, RowsHaveHeard}
use Rattle.tree_laws.proofs.FitRowLemmas.{RowFits, rows_fit}
use Rattle.tree_laws.proofs.MoreLemmas.{forest, inv_end, added_end, lawful_at, inv_at}
use Rattle.tree_laws.proofs.AtTurn.{at_turn}

-- ---- a row that hears a commit

module _ (s : KeptRow) (y : BranchId) (n : ℕ) (toward : s.toward ≡ Some y) (none : s.decision ≡ None) where
  next_is : next_on_decision s y (decisions.Commit n) ≡ first_decision s.state (decisions.Commit n)
  unfolding next_on_decision
  next_is =
      let here : is_branch y s.toward ≡ true = ap (is_branch y) toward ∙ same_from_equal y y refl in
      ap (λ q. if q then decision_at s (decisions.Commit n) s.decision else nexts.Rest) here ∙ ap (decision_at s (decisions.Commit n)) none

-- the record of a turn says that a branch learned this commit
abbrev WritesLearn : ℕ → TurnDraft → BranchId → ℕ → Type 0
WritesLearn node d b n = (mixed : Option Bool) × (wrote_event node d.wrote ≡ Some (Learn b (decisions.Commit n) mixed))

-- a row that knows no decision writes it
first_writes : (e : List Event) (k : NodeState) (s : KeptRow) (y : BranchId) (n node : ℕ) (state : State) → IsForcedAs e s.me state None → WritesLearn node (next_turn k s y (first_decision state (decisions.Commit n))) s.me n
first_writes e k s y n node states.Sealed force = (None, refl)
first_writes e k s y n node states.Committed force = absurd (force refl)
first_writes e k s y n node (states.ForcedCommit m) force = (Some false, refl)
first_writes e k s y n node states.ForcedRollback force = (Some true, refl)

same_decided : (o : Option Exit) (m n : ℕ) → o ≡ Some (Decided m) → o ≡ Some (Decided n) → m ≡ n
same_decided o m n one two = let both : Some (Decided m) ≡ Some (Decided n) = sym one ∙ two in cc

-- ---- every run

module _ (t : History) (whole : IsLawfulRun t) (m : Msg) (came : CameInTurn t.trace m) (n : ℕ) (is : m.kind ≡ kinds.Committed n) (next : (forest_of t).toward m.to ≡ m.from) (scn : ℕ) (sealed : exit (events_of t) m.to ≡ Some (Sealed scn)) where
  abbrev p : Forest
  p = forest_of t

  open came use {before as hs, turn as u}
  open m use {to as b, from as y}
  open at_turn t whole came.before came.turn came.later came.is use {h, s as s0, f, e, part, part_after as part_z, lawful, p as place, after}

  abbrev Heard : Type 0
  Heard = (learned (events_of t) b ≡ Some (decisions.Commit n)) ⊎ NodeHasStopped (facts_at t) b

  pub may : MayHappen t.places t.commands f h
  may = may_of t whole hs h came.later came.is

  abbrev k : NodeState
  k = may.0

  abbrev input : Input
  input = inputs.Message m

  abbrev k0 : NodeState
  k0 = heard k input

  abbrev d : TurnDraft
  d = draft_of place k input

  up : node_at f b.node ≡ Some k
  up = subst (λ i. node_at f i ≡ Some k) came.here may.1.up

  end : Inv p (events_of t)
  end = inv_end t whole

  member : p.member b ≡ true
  member = (end.sealed_in b scn sealed).0

  not_site : b ≢ site_of p b
  not_site = (end.sealed_in b scn sealed).1

  -- ---- the transaction is decided, and the branch has been sealed

  came_it : Came u.input y b (kinds.Committed n)
  came_it = subst (Came u.input y b) is (record { scn = m.scn; is = came.input })

  told : Has (Send_commit y b n) e
  told = came_said f e (run_stands s0 lawful).2 k u.node u.input u.took may.1.comes y b (kinds.Committed n) came_it

  decided : exit e (site_of p b) ≡ Some (Decided n)
  decided =
      let one : p.root y ≡ p.root b = ap p.root (sym next) ∙ (forest t whole).of_one b member not_site in
      subst (λ r. exit e (p.site r) ≡ Some (Decided n)) one ((inv_at t whole hs part).commits y b n told)

  was_sealed : (j : ℕ) × (exit e b ≡ Some (Sealed j))
  was_sealed = elim (covered p e b n (forest t whole) (lawful_at t whole hs part) decided member) [
    | inl site ↦ absurd (not_site site)
    | inr covered_so ↦ elim covered_so.2 [
      | inl it ↦ (it.0, it.1)
      | inr quiet ↦ (let gone : exit (events_of t) b ≡ Some Quiet = exit_end t whole hs part b Quiet quiet in absurd (cc (gone, sealed)))
    ]
  ]

  -- what it had learned by then is that commit
  commit_is : (j : ℕ) → learned e b ≡ Some (decisions.Commit j) → Heard
  commit_is j learnt =
      let same : j ≡ n = same_decided (exit e (site_of p b)) j n ((inv_at t whole hs part).learned_commit b j learnt) decided in
      inl (learned_later b (decisions.Commit n) (added_end t whole hs part) (subst (λ i. learned e b ≡ Some (decisions.Commit i)) same learnt))

  learned_is : (o : Decision) → learned e b ≡ Some o → Heard
  learned_is (decisions.Commit j) learnt = commit_is j learnt
  learned_is decisions.Rollback learnt = absurd (undecided_from_rollback p (forest t whole) e (lawful_at t whole hs part) b (site_of p b) n learnt (site_root p (forest t whole) b member) decided)

  knows_is : (c : BranchId) (j : ℕ) → c ≡ b → Knows e c j → Heard
  knows_is c j me (inl at) = (let mine : exit e b ≡ Some (Decided j) = subst (λ i. exit e i ≡ Some (Decided j)) me at in let other = was_sealed.1 in absurd (cc (mine, other)))
  knows_is c j me (inr learnt) = commit_is j (subst (λ i. learned e i ≡ Some (decisions.Commit j)) me learnt)

  -- ---- what its node knows of it

  not_live : (l : Live) → live_at k b ≡ Some l → ⊥
  not_live l live =
      let none : exit e l.me ≡ None = all_found (λ (x : Live). exit e x.me ≡ None) live_id k.lives b l (nodes_are_as_events s0 lawful u.node k may.1.up).0 live in
      let mine : exit e b ≡ None = subst (λ i. exit e i ≡ None) (item_is live_id k.lives b l live) none in
      let left = was_sealed.1 in
      absurd (cc (mine, left))

  gone_heard : status_of k0 b ≡ Is_gone → Heard
  gone_heard gone = by (gone_are_done s0 lawful b k up (gone_before k input b gone) was_sealed.0 was_sealed.1)
    where
      by : IsGoneForGood e b → Heard
      by (inl rolled) = learned_is decisions.Rollback rolled
      by (inr forgot) = (let knows = ((inv_at t whole hs part).forgets b forgot).0 in knows_is b knows.0 refl knows.1)

  -- the record of the turn says that it learned it
  module _ (c : BranchId) (me : c ≡ b) (none : learned e c ≡ None) (writes : WritesLearn u.node d c n) where
    cut_heard : u.cut ≡ true → Heard
    cut_heard cut =
        let there : exit (e_at t after) b ≢ None = (λ gone. (let left = left_after in absurd (cc (left, gone)))) in
        inr (stopped_end t whole b after came.later (append_assoc hs (h ∷ []) came.later ∙ came.is) there (cut_stops t whole b hs h came.later came.is u refl k may.1.up came.here cut))
      where
        left_after : exit (e_at t after) b ≡ Some (Sealed was_sealed.0)
        left_after = exit_end (so_far t after) (part_lawful t whole after part_z) hs (record { rest = h ∷ []; is = refl }) b (Sealed was_sealed.0) was_sealed.1

    whole_heard : u.wrote ≡ d.wrote → Heard
    whole_heard owed =
        let wrote : wrote_event u.node u.wrote ≡ Some (Learn c (decisions.Commit n) writes.0) = ap (wrote_event u.node) owed ∙ writes.1 in
        let now : learned (Learn c (decisions.Commit n) writes.0 ∷ e) b ≡ Some (decisions.Commit n) = learned_now e c b (decisions.Commit n) writes.0 none (sym me) in
        let recorded : learned (with_record u e) b ≡ Some (decisions.Commit n) = subst (λ o. learned (with_event o e) b ≡ Some (decisions.Commit n)) (sym wrote) now in
        let turned : learned (events_after t.places t.commands f h e) b ≡ Some (decisions.Commit n) = learned_later b (decisions.Commit n) (turn_added f (facts_after t.places t.commands f h) u e) recorded in
        inl (learned_later b (decisions.Commit n) (added_end t whole after part_z) (subst (λ x. learned x b ≡ Some (decisions.Commit n)) (sym (more_on t hs h)) turned))

    by_cut : (cut : Bool) → u.cut ≡ cut → IsOwed place k u.input u.wrote u.sent cut → Heard
    unfolding turn_of
    by_cut true cut owed = cut_heard cut
    by_cut false cut owed = whole_heard (owed.0 ∙ ap (λ (i : Input). (draft_of place k i).wrote) came.input)

  module _ (s : KeptRow) (me : s.me ≡ b) (kept : kept_row_at k0 s.me ≡ Some s) (stands : status_of k0 b ≡ Is_kept s) where
    row : RowIs e s
    row = all_found (RowIs e) kept_row_id k.stored.durable.kept s.me s (nodes_are_as_events s0 lawful u.node k may.1.up).1 kept

    toward : s.toward ≡ Some y
    toward = by (all_found (λ (x : KeptRow). RowFits p x.me x.toward) kept_row_id k.stored.durable.kept s.me s (rows_fit t whole hs part u.node k may.1.up) kept)
      where
        by : RowFits p s.me s.toward → s.toward ≡ Some y
        by (inl way) = way.0 ∙ ap Some (ap p.toward me ∙ next)
        by (inr none) = absurd (not_site (subst (λ c. c ≡ site_of p c) me none.1))

    draft_is : s.decision ≡ None → d ≡ next_turn k0 s y (first_decision s.state (decisions.Commit n))
    draft_is none =
        ap (λ (x : Kind). kind_turn place k0 y b x (status_of k0 b)) is
        ∙ (ap (λ (x : BranchStatus). committed_turn k0 y b n x) stands ∙ ap (λ x. next_turn k0 s y x) (next_is s y n toward none))

    unknown_heard : s.decision ≡ None → IsKnown e s None → IsForcedAs e s.me s.state None → Heard
    unknown_heard none known force =
        let writes : WritesLearn u.node d s.me n = subst (λ x. WritesLearn u.node x s.me n) (sym (draft_is none)) (first_writes e k0 s y n u.node s.state force) in
        by_cut s.me me known.1 writes u.cut refl may.1.owed

    kept_heard : Heard
    kept_heard = by s.decision refl row.known row.force
      where
        by : (o : Option Decision) → s.decision ≡ o → IsKnown e s o → IsForcedAs e s.me s.state o → Heard
        by None none known force = unknown_heard none known force
        by (Some (decisions.Commit j)) some known force = knows_is s.me j me known
        by (Some decisions.Rollback) some known force = learned_is decisions.Rollback (subst (λ i. learned e i ≡ Some decisions.Rollback) me known)

  pub commit_heard : Heard
  commit_heard = by (status_of k0 b) refl (stands_so k0 b)
    where
      by : (x : BranchStatus) → status_of k0 b ≡ x → StandsSo k0 b x → Heard
      by (Is_live x) at so = absurd (not_live x.live (subst (λ i. live_at k0 i ≡ Some x.live) so.0 (live_so k0 x.live.me x so.1)))
      by (Is_kept s) at so = kept_heard s so.0 so.1 at
      by Is_gone at so = gone_heard at

-- ---- each message

kind_heard : (t : History) (whole : IsLawfulRun t) (m : Msg) → CameInTurn t.trace m → (kind : Kind) → m.kind ≡ kind → HasHeard t m.from m.to kind
kind_heard t whole m came (kinds.Committed n) is = λ next scn sealed. commit_heard t whole m came n is next scn sealed
kind_heard t whole m came _ is = tt

pub commits_are_heard : CommitsAreHeard
commits_are_heard t whole = all_weaker _ _ (λ x so fate. kind_heard t whole x.msg (so fate) x.msg.kind refl) (facts_at t).net.packets (deliveries_came t whole)

-- ---- rows

row_heard : (t : History) (whole : IsLawfulRun t) (from to : BranchId) (kind : Kind) → HasHeard t from to kind → RowHasHeard t from to kind
row_heard t whole from to (kinds.Committed n) heard_so =
    λ k s up at toward. (
    let rows = (nodes_are_as_events t whole to.node k up).1 in
    let row : RowIs (events_of t) s = all_found (RowIs (events_of t)) kept_row_id k.stored.durable.kept to s rows at in
    let me : s.me ≡ to = item_is kept_row_id k.stored.durable.kept to s at in
    let fits : RowFits (forest_of t) s.me s.toward = all_found (λ (x : KeptRow). RowFits (forest_of t) x.me x.toward) kept_row_id k.stored.durable.kept to s (rows_fit t whole t.trace (at_end t whole) to.node k up) at in
    by k s me toward fits s.decision refl row.known)
  where
    at_end : (t : History) (whole : IsLawfulRun t) → Part t whole t.trace
    at_end t whole = record { rest = []; is = append-nil t.trace }

    next_of : (s : KeptRow) → s.me ≡ to → s.toward ≡ Some from → RowFits (forest_of t) s.me s.toward → (forest_of t).toward to ≡ from
    next_of s me toward (inl way) = (let both : Some ((forest_of t).toward s.me) ≡ Some from = sym way.0 ∙ toward in let one : (forest_of t).toward s.me ≡ from = cc in ap (forest_of t).toward (sym me) ∙ one)
    next_of s me toward (inr none) = (let no = none.0 in absurd (cc (no, toward)))

    by : (k : NodeState) (s : KeptRow) → s.me ≡ to → s.toward ≡ Some from → RowFits (forest_of t) s.me s.toward → (o : Option Decision) → s.decision ≡ o → IsKnown (events_of t) s o → (s.decision ≢ None) ⊎ NodeHasStopped (facts_at t) to
    by k s me toward fits (Some o) some known = inl (λ none. absurd (cc (some, none)))
    by k s me toward fits None none known = elim (heard_so (next_of s me toward fits) s.scn (subst (λ i. exit (events_of t) i ≡ Some (Sealed s.scn)) me known.0)) [
      | inl learnt ↦ (let unlearnt : learned (events_of t) to ≡ None = subst (λ i. learned (events_of t) i ≡ None) me known.1 in absurd (cc (learnt, unlearnt)))
      | inr stopped ↦ inr stopped
    ]
row_heard t whole from to _ heard_so = tt

pub rows_have_heard : RowsHaveHeard
rows_have_heard t whole = all_weaker _ _ (λ x so fate. row_heard t whole x.msg.from x.msg.to x.msg.kind (so fate)) (facts_at t).net.packets (commits_are_heard t whole)
