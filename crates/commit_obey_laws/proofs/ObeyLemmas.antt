-- In every lawful run a sealed branch takes the decision that comes from toward.
use Rattle.std.proofs.Common.{◌≡◌, ℕ, Bool, true, false, if◌then◌else◌, List, [], ◌∷◌, ◌++◌, Option, Some, None, inl, inr, refl, sym, ap, subst, subst₂, ◌∙◌}
use Rattle.std.proofs.lemmas.List.{append_assoc}
use Rattle.tran_ids.proofs.BranchLemmas.{same_from_equal}
use Rattle.tran_ids.proofs.ListedLemmas.{item_is}
use Rattle.commit_forget.specs.declared.next.Next.TheVariants as nexts
use Rattle.session_tree.specs.Live.{is_branch}
use Rattle.agreement.specs.Events.{Forest, Event, Sealed, exit, learned, forced, Knows, site_of}
use Rattle.agreement.specs.Outcomes.{differ}
use Rattle.node_rules.specs.Data.{BranchId, Decision, Kind, Live, Msg, Place, KeptRow, State, Input}
use Rattle.node_rules.specs.Data.decisions
use Rattle.node_rules.specs.Data.inputs
use Rattle.node_rules.specs.Data.kinds
use Rattle.node_rules.specs.Data.states
use Rattle.node_rules.specs.Data.records
use Rattle.node_rules.specs.Inputs.{Brings, Commit_came, Rollback_came, Rolled_back_came}
use Rattle.node_rules.specs.NodeState.{NodeState, TurnDraft, live_id, kept_row_id, live_at, kept_row_at}
use Rattle.node_rules.specs.Commit.{next_on_decision, decision_at, first_decision, next_turn, on_decision, is_mixed}
use Rattle.node_rules.specs.Turn.{BranchStatus, Is_live, Is_kept, Is_gone, turn_of, heard, draft_of, kind_turn, status_of}
use Rattle.node_rules.proofs.StandLemmas.{StandsSo, stands_so, live_so}
use Rattle.run_rules.specs.Data.{Turn, Happening, Took}
use Rattle.run_rules.specs.Data.happenings
use Rattle.run_base_laws.specs.EventLaws.{AtEachEvent, EachEventFrom}
use Rattle.run_base_laws.specs.EventRows.{RowIs, IsKnown, IsForcedAs, IsGoneForGood}
use Rattle.run_rules.specs.Facts.{Facts, node_at, facts_of}
use Rattle.run_rules.specs.BranchRecords.{toward_at}
use Rattle.run_rules.specs.Lawful.{IsOwed, Comes, History, IsLawfulRun}
use Rattle.run_base_laws.specs.RunEvents.{events_from}
use Rattle.run_base_laws.proofs.EventsStandLemmas.{nodes_are_as_events}
use Rattle.run_branch_laws.proofs.GoneLemmas.{gone_are_done}
use Rattle.run_base_laws.proofs.OwnLemmas.{all_found}
use Rattle.tree_laws.specs.Forests.{forest_of}
use Rattle.tree_laws.proofs.AckForestLemmas.{gone_before}
use Rattle.tree_laws.proofs.PrefixLemmas.{f_at, e_at, one_on, more_on}
use Rattle.tree_laws.proofs.FitRowLemmas.{RowFits, toward_of_forest, rows_fit}
use Rattle.tree_laws.proofs.MoreLemmas.{inv_at}
use Rattle.commit_obey_laws.specs.ObeyLaws.{taken_as, Obeys, DecisionsAreObeyed}
use Rattle.commit_obey_laws.proofs.SealStandLemmas.{toward_sealed}
use Rattle.tree_laws.proofs.AtTurn.{at_turn}

-- ---- a message that brings a decision

-- it is one message, and a kept branch does about it what it does about the decision
record BroughtBy (input : Input) (from to : BranchId) (d : Decision) : Type 0 where
  scn : ℕ
  kind : Kind
  is : input ≡ inputs.Message (record { from = from; to = to; scn = scn; kind = kind })
  draft : (p : Place) (k : NodeState) (s : KeptRow) → kind_turn p k from to kind (Is_kept s) ≡ on_decision k s from d

brought_by : {input : Input} {from to : BranchId} {d : Decision} → Brings input from to d → BroughtBy input from to d
brought_by (Commit_came n came) = record { scn = came.scn; kind = kinds.Committed n; is = came.is; draft = λ p k s. refl }
brought_by (Rollback_came came) = record { scn = came.scn; kind = kinds.Rollback; is = came.is; draft = λ p k s. refl }
brought_by (Rolled_back_came came) = record { scn = came.scn; kind = kinds.RolledBack; is = came.is; draft = λ p k s. refl }

-- it came to its receiver's node
came_here : (f : Facts) (k : NodeState) (node : ℕ) (m : Msg) (took : Option Took) → Comes f k node (inputs.Message m) took → m.to.node ≡ node
came_here f k node m (Some t) comes = comes.1.here
came_here f k node m None comes = absurd comes

-- ---- a row that takes a decision

module _ (s : KeptRow) (y : BranchId) (d : Decision) (toward : s.toward ≡ Some y) (none : s.decision ≡ None) where
  next_is : next_on_decision s y d ≡ first_decision s.state d
  unfolding next_on_decision
  next_is =
      let here : is_branch y s.toward ≡ true = ap (is_branch y) toward ∙ same_from_equal y y refl in
      ap (λ q. if q then decision_at s d s.decision else nexts.Rest) here ∙ ap (decision_at s d) none

-- a forced commit, and a forced rollback
commit_marked : (n : ℕ) (d : Decision) → is_mixed (states.ForcedCommit n) d ≡ differ (decisions.Commit n) d
commit_marked n (decisions.Commit m) = refl
commit_marked n decisions.Rollback = refl

rollback_marked : (d : Decision) → is_mixed states.ForcedRollback d ≡ differ decisions.Rollback d
rollback_marked (decisions.Commit m) = refl
rollback_marked decisions.Rollback = refl

first_wrote : (e : List Event) (k : NodeState) (s : KeptRow) (y : BranchId) (d : Decision) (state : State) → IsForcedAs e s.me state None
    → (next_turn k s y (first_decision state d)).wrote ≡ Some (taken_as (forced e s.me) s.me d)
first_wrote e k s y d states.Sealed force = ap (λ o. Some (taken_as o s.me d)) (sym force.0)
first_wrote e k s y d states.Committed force = absurd (force refl)
first_wrote e k s y d (states.ForcedCommit n) force = ap (λ q. Some (records.Met s.me d q)) (commit_marked n d) ∙ ap (λ o. Some (taken_as o s.me d)) (sym force)
first_wrote e k s y d states.ForcedRollback force = ap (λ q. Some (records.Met s.me d q)) (rollback_marked d) ∙ ap (λ o. Some (taken_as o s.me d)) (sym force)

-- ---- every run

module _ (t : History) (whole : IsLawfulRun t) (hs : List Happening) (u : Turn) (rest : List Happening) (is : hs ++ happenings.Turn u ∷ rest ≡ t.trace) where
  abbrev p : Forest
  p = forest_of t

  open at_turn t whole hs u rest is use {s as s0, f, e, part, lawful, may, k, p as place}

  module _ (uncut : u.cut ≡ false) (b from : BranchId) (d : Decision) (scn : ℕ) (named : toward_at f b ≡ Some from) (brings : Brings u.input from b d)
      (sealed : exit e b ≡ Some (Sealed scn)) (unlearned : learned e b ≡ None) where
    brought : BroughtBy u.input from b d
    brought = brought_by brings

    abbrev m : Msg
    m = record { from = from; to = b; scn = brought.scn; kind = brought.kind }

    abbrev input : Input
    input = inputs.Message m

    abbrev k0 : NodeState
    k0 = heard k input

    abbrev d0 : TurnDraft
    d0 = draft_of place k input

    abbrev Takes : Type 0
    Takes = u.wrote ≡ Some (taken_as (forced e b) b d)

    here : b.node ≡ u.node
    here = came_here f k u.node m u.took (subst (λ i. Comes f k u.node i u.took) brought.is may.1.comes)

    up : node_at f b.node ≡ Some k
    up = subst (λ i. node_at f i ≡ Some k) (sym here) may.1.up

    -- the turn writes what the draft does
    wrote_by : (cut : Bool) → cut ≡ false → IsOwed place k u.input u.wrote u.sent cut → u.wrote ≡ d0.wrote
    unfolding turn_of
    wrote_by true is owed = absurd cc
    wrote_by false is owed = owed.0 ∙ ap (λ (i : Input). (draft_of place k i).wrote) brought.is

    owes : u.wrote ≡ d0.wrote
    owes = wrote_by u.cut uncut may.1.owed

    not_live : (l : Live) → live_at k b ≡ Some l → ⊥
    not_live l live =
        let none : exit e l.me ≡ None = all_found (λ (x : Live). exit e x.me ≡ None) live_id k.lives b l (nodes_are_as_events s0 lawful u.node k may.1.up).0 live in
        let mine : exit e b ≡ None = subst (λ i. exit e i ≡ None) (item_is live_id k.lives b l live) none in
        absurd (cc (mine, sealed))

    no_commit : (j : ℕ) → Knows e b j → ⊥
    no_commit j (inl at) = absurd (cc (at, sealed))
    no_commit j (inr learnt) = absurd (cc (learnt, unlearned))

    not_done : IsGoneForGood e b → ⊥
    not_done (inl rolled) = absurd (cc (rolled, unlearned))
    not_done (inr forgot) = (let knows = ((inv_at t whole hs part).forgets b forgot).0 in no_commit knows.0 knows.1)

    not_gone : status_of k0 b ≡ Is_gone → ⊥
    not_gone gone = not_done (gone_are_done s0 lawful b k up (gone_before k input b gone) scn sealed)

    module _ (s : KeptRow) (me : s.me ≡ b) (kept : kept_row_at k0 s.me ≡ Some s) (stands : status_of k0 b ≡ Is_kept s) where
      row : RowIs e s
      row = all_found (RowIs e) kept_row_id k.stored.durable.kept s.me s (nodes_are_as_events s0 lawful u.node k may.1.up).1 kept

      toward : s.toward ≡ Some from
      toward = by (all_found (λ (x : KeptRow). RowFits p x.me x.toward) kept_row_id k.stored.durable.kept s.me s (rows_fit t whole hs part u.node k may.1.up) kept)
        where
          by : RowFits p s.me s.toward → s.toward ≡ Some from
          by (inl way) = way.0 ∙ ap Some (ap p.toward me ∙ toward_of_forest t whole hs part b from named)
          by (inr none) = absurd (((inv_at t whole hs part).sealed_in b scn sealed).1 (subst (λ c. c ≡ site_of p c) me none.1))

      undecided : (o : Option Decision) → s.decision ≡ o → IsKnown e s o → s.decision ≡ None
      undecided None is known = is
      undecided (Some (decisions.Commit j)) is known = absurd (no_commit j (subst (λ i. Knows e i j) me known))
      undecided (Some decisions.Rollback) is known = (let mine : learned e b ≡ Some decisions.Rollback = subst (λ i. learned e i ≡ Some decisions.Rollback) me known in absurd (cc (mine, unlearned)))

      none : s.decision ≡ None
      none = undecided s.decision refl row.known

      takes_kept : Takes
      takes_kept =
          let draft : d0 ≡ next_turn k0 s from (first_decision s.state d)
          = ap (λ (x : BranchStatus). kind_turn place k0 from b brought.kind x) stands ∙ (brought.draft place k0 s ∙ ap (λ x. next_turn k0 s from x) (next_is s from d toward none)) in
          let wrote : d0.wrote ≡ Some (taken_as (forced e s.me) s.me d)
          = ap (λ (x : TurnDraft). x.wrote) draft ∙ first_wrote e k0 s from d s.state (subst (IsForcedAs e s.me s.state) none row.force) in
          owes ∙ subst (λ c. d0.wrote ≡ Some (taken_as (forced e c) c d)) me wrote

    takes : Takes
    takes = by (status_of k0 b) refl (stands_so k0 b)
      where
        by : (x : BranchStatus) → status_of k0 b ≡ x → StandsSo k0 b x → Takes
        by (Is_live x) at so = absurd (not_live x.live (subst (λ i. live_at k0 i ≡ Some x.live) so.0 (live_so k0 x.live.me x so.1)))
        by (Is_kept s) at so = takes_kept s so.0 so.1 at
        by Is_gone at so = absurd (not_gone at)

  pub obeys : Obeys f e (happenings.Turn u)
  obeys uncut b d heard_so unlearned = (let sealed = toward_sealed t whole hs part b heard_so.0 heard_so.1 in takes uncut b heard_so.0 d sealed.0 heard_so.1 heard_so.2 sealed.1 unlearned)

-- ---- each happening

module _ (t : History) (whole : IsLawfulRun t) where
  obeys_one : (hs : List Happening) (h : Happening) (rest : List Happening) → hs ++ h ∷ rest ≡ t.trace → Obeys (f_at t hs) (e_at t hs) h
  obeys_one hs (happenings.Turn u) rest is = obeys t whole hs u rest is
  obeys_one hs _ rest is = tt

  obeys_from : (hs rest : List Happening) → hs ++ rest ≡ t.trace → EachEventFrom Obeys t.places t.commands (f_at t hs) (e_at t hs) rest
  obeys_from hs [] is = tt
  obeys_from hs (h ∷ rest) is = (
    obeys_one hs h rest is,
    subst₂ (λ f e. EachEventFrom Obeys t.places t.commands f e rest) (one_on t hs h) (more_on t hs h) (obeys_from (hs ++ h ∷ []) rest (append_assoc hs (h ∷ []) rest ∙ is)),
  )

  each_obeys : AtEachEvent Obeys t
  unfolding facts_of events_from
  each_obeys = obeys_from [] t.trace refl

pub decisions_are_obeyed : DecisionsAreObeyed
decisions_are_obeyed t whole = each_obeys t whole
