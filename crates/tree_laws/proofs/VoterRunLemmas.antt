-- In every lawful run a child that voted off the walk has a weight at its parent: the edge had one when the child became sealed, and the
-- parent, which asked it, stands still.
use Rattle.std.proofs.Common.{◌≡◌, ◌≢◌, ℕ, ◌⊎◌, Bool, true, false, List, [], ◌∷◌, ◌++◌, Some, None, inl, inr, refl, sym, ap, subst, subst₂, ◌∙◌}
use Rattle.node_rules.specs.Data.{BranchId, Edge, Live, Post}
use Rattle.node_rules.specs.Words.{numbered}
use Rattle.node_rules.specs.NodeState.{NodeState, Branch, live_at, branch_at, work_at, with_work}
use Rattle.agreement.specs.Events.{Event, Sealed, exit}
use Rattle.run_rules.specs.Data.{Happening}
use Rattle.run_rules.specs.Data.happenings
use Rattle.run_rules.specs.Facts.{Facts, first_facts, node_at, facts_after, facts_of}
use Rattle.run_rules.specs.Lawful.{MayHappen, IsLawful, History, IsLawfulRun}
use Rattle.run_base_laws.specs.RunEvents.{events_after, events_from}
use Rattle.run_base_laws.specs.EventLaws.{EachEventFrom}
use Rattle.run_rules.specs.Births.{Born, births_from, births_of}
use Rattle.run_base_laws.specs.BirthLaws.{Began}
use Rattle.run_base_laws.specs.FreezeLaws.{was_asked, LeavesStill}
use Rattle.run_base_laws.specs.InTurnLaws.{said_in}
use Rattle.run_rules.specs.Trail.{is_prepare}
use Rattle.run_branch_laws.specs.WalkLaws.{is_below, is_above, was_sent}
use Rattle.run_branch_laws.proofs.FreezeRunLemmas.{walks_are_one}
use Rattle.run_rules.proofs.ListLemmas.{all_weaker}
use Rattle.run_base_laws.proofs.LaterLemmas.{exit_made, turn_added, stop_added}
use Rattle.run_base_laws.proofs.SaidPostLemmas.{posts_of, said_after}
use Rattle.run_branch_laws.proofs.StillRunLemmas.{trees_stand_still}
use Rattle.run_branch_laws.proofs.VoteLemmas.{votes_are_of_sealed}
use Rattle.tree_laws.specs.AskLaws.{HeardAbove}
use Rattle.tree_laws.specs.RecordLaws.{WritesAsTold}
use Rattle.tree_laws.specs.WeightLaws.{EdgeWeighs, LiveWeighs, NodesWeigh, VotersHaveWeights}
use Rattle.tree_laws.proofs.AskLemmas.{sent_more, sent_wider, tells_asks}
use Rattle.tree_laws.proofs.AskRunLemmas.{down_more}
use Rattle.tree_laws.proofs.BackLemmas.{Back, back, lawful_z}
use Rattle.tree_laws.proofs.FitLemmas.{began_all}
use Rattle.tree_laws.proofs.FoundLemmas.{lives_found}
use Rattle.tree_laws.proofs.ForestLemmas as trees
use Rattle.tree_laws.proofs.ForestRunLemmas.{run_known}
use Rattle.tree_laws.proofs.PrefixLemmas.{so_far, f_at, e_at, one_on, more_on, births_join, fact_each, both_each}
use Rattle.tree_laws.proofs.RecordRunLemmas.{records_are_as_told}
use Rattle.run_branch_laws.proofs.KeptRowLemmas.{wrote_seal}
use Rattle.tree_laws.proofs.SealLemmas.{later_unsealed}
use Rattle.tree_laws.proofs.VoterLemmas.{mapped_at, edge_at_both, all_numbered, SealedHeard, SealedWeigh, SealsNow, seals_now, sealing_heard, sealing_weighs}
use Rattle.tree_laws.proofs.WeightLemmas.{asked_way}
use Rattle.tree_laws.proofs.AtPart.{at_part}

module _ (t : History) (before : List Happening) (lawful : IsLawfulRun (so_far t before)) where
  open at_part t before use {f, e, said, bs}

  -- a branch becomes sealed now
  abbrev NewSeal : (h : Happening) → MayHappen t.places t.commands f h → BranchId → Type 0
  NewSeal (happenings.Turn u) may c = SealsNow t before lawful u may.0 may.1 c
  NewSeal _ may c = ⊥

  new_heard : (h : Happening) (may : MayHappen t.places t.commands f h) (c : BranchId) → NewSeal h may c → HeardAbove is_prepare bs said c
  new_heard (happenings.Turn u) may c new = sealing_heard t before lawful u may.0 may.1 c new
  new_heard _ may c new = absurd new

  new_weighs : (h : Happening) (may : MayHappen t.places t.commands f h) (c : BranchId) → NewSeal h may c → (n : ℕ) (j : NodeState) → node_at f n ≡ Some j → (x : Branch) → branch_at j x.live.me ≡ Some x → (i : ℕ) (y : Edge) → numbered x.live.edges i ≡ Some y
      → y.peer ≡ c → was_sent is_above said x.live.me c ≡ true → y.weight ≢ None
  new_weighs (happenings.Turn u) may c new = sealing_weighs t before lawful u may.0 may.1 c new
  new_weighs _ may c new = absurd new

  -- a seal is old or new
  sealed_by : (h : Happening) (may : MayHappen t.places t.commands f h) → WritesAsTold t.places f h → (c : BranchId) (m : ℕ) → exit (events_after t.places t.commands f h e) c ≡ Some (Sealed m) → (exit e c ≡ Some (Sealed m)) ⊎ NewSeal h may c
  sealed_by (happenings.Turn u) may leads c m is = elim (exit_made c (Sealed m) (turn_added f (facts_after t.places t.commands f (happenings.Turn u)) u e) is) [
    | inl old ↦ elim (wrote_seal u.node e u.wrote c m old) [ inl first ↦ inl first | inr new ↦ inr (seals_now t before lawful u may.0 may.1 c leads new) ]
    | inr made ↦ absurd (later_unsealed c m made.0 made.1 made.2)
  ]
  sealed_by (happenings.Stopped n) may leads c m is = elim (exit_made c (Sealed m) (stop_added f (facts_after t.places t.commands f (happenings.Stopped n)) n e) is) [
    | inl old ↦ inl old
    | inr made ↦ absurd (later_unsealed c m made.0 made.1 made.2)
  ]
  sealed_by (happenings.Started n boot) may leads c m is = inl is
  sealed_by (happenings.Begun x) may leads c m is = inl is
  sealed_by (happenings.Cut a b) may leads c m is = inl is
  sealed_by (happenings.Join a b) may leads c m is = inl is
  sealed_by (happenings.Lost k) may leads c m is = inl is

  -- so each child that voted off the walk has a weight
  weighs_here : (h : Happening) → SealedWeigh f e → NodesWeigh f e h
  weighs_here h weigh n k up = all_weaker (λ l. live_at k l.me ≡ Some l) (LiveWeighs e said) each k.lives (lives_found (so_far t before) lawful n k up)
    where
      each : (l : Live) → live_at k l.me ≡ Some l → LiveWeighs e said l
      each l live =
          let x : Branch = record { live = l; work = work_at k l.me } in
          let found : branch_at k l.me ≡ Some x = ap (with_work k) live in
          all_numbered (EdgeWeighs e said l.me) l.edges (λ i y at j has above. (let sealed = votes_are_of_sealed (so_far t before) lawful y.peer j has in weigh n k up x found i y at sealed.0 sealed.1 above))

  -- ---- one happening more

  module _ (h : Happening) (may : MayHappen t.places t.commands f h) (still : LeavesStill t.places f h) (leads : WritesAsTold t.places f h) (heard : SealedHeard e bs said) (weigh : SealedWeigh f e) where
    abbrev z : History
    z = so_far t (before ++ h ∷ [])

    abbrev all : List Post
    all = said_in (f_at t (before ++ h ∷ []))

    known : trees.Known (births_of z) all
    known = run_known z (lawful_z t before h lawful may)

    said_more : all ≡ said ++ posts_of h
    said_more = ap said_in (one_on t before h) ∙ said_after t.places t.commands f h

    wider : (x : Born) → Began bs x → Began (births_of z) x
    wider x began = subst (λ xs. Began xs x) (sym (births_join t.places t.commands (first_facts t.places) before (h ∷ []) [])) (began_all t.places t.commands f (h ∷ []) bs x began)

    heard_before : (c : BranchId) (m : ℕ) → exit (events_after t.places t.commands f h e) c ≡ Some (Sealed m) → HeardAbove is_prepare bs said c
    heard_before c m is = elim (sealed_by h may leads c m is) [ inl old ↦ heard c m old | inr new ↦ new_heard h may c new ]

    heard_on : SealedHeard (e_at t (before ++ h ∷ [])) (births_of z) all
    heard_on c m is =
        subst (λ xs. HeardAbove is_prepare (births_of z) xs c) (sym said_more)
        (down_more is_prepare bs (births_of z) said (posts_of h) c wider (heard_before c m (subst (λ r. exit r c ≡ Some (Sealed m)) (more_on t before h) is)))

    -- its parent asked it before, off the walk
    asked_before : (p c : BranchId) (m : ℕ) → exit (events_after t.places t.commands f h e) c ≡ Some (Sealed m) → was_sent is_above all p c ≡ true → was_asked said p c ≡ true
    asked_before p c m is above =
        let told = heard_before c m is in
        let child = known.child p c (sent_wider is_above is_prepare (tells_asks false) all p c above) in
        let it : told.0 ≡ child.0 = trees.same_born (births_of z) all known told.0 child.0 (wider told.0 told.1) child.1 (told.2 ∙ sym child.2) in
        told.3 p (ap (λ (b : Born). b.parent) it ∙ child.3)

    above_before : (p c : BranchId) → was_asked said p c ≡ true → was_sent is_above all p c ≡ true → was_sent is_above said p c ≡ true
    above_before p c asked above = by (was_sent is_below said p c) refl
      where
        by : (q : Bool) → was_sent is_below said p c ≡ q → was_sent is_above said p c ≡ true
        by false off = asked_way said p c asked off
        by true on =
            let told : was_sent is_below all p c ≡ true = subst (λ xs. was_sent is_below xs p c ≡ true) (sym said_more) (sent_more is_below said (posts_of h) p c on) in
            let no : was_sent is_above all p c ≡ false = (walks_are_one z (lawful_z t before h lawful may) p c told).0 in
            absurd (cc (above, no))

    weigh_on : SealedWeigh (f_at t (before ++ h ∷ [])) (e_at t (before ++ h ∷ []))
    weigh_on n j up y found i c at m is above none =
        let left : exit (events_after t.places t.commands f h e) c.peer ≡ Some (Sealed m) = subst (λ r. exit r c.peer ≡ Some (Sealed m)) (more_on t before h) is in
        let asked : was_asked said y.live.me c.peer ≡ true = asked_before y.live.me c.peer m left above in
        let b : Back t before h lawful may n y = back t before h lawful may still n j (subst (λ x. node_at x n ≡ Some j) (one_on t before h) up) y found c.peer asked in
        let old = edge_at_both b.branch.live.edges i c.peer c.weight
        (subst (λ ps. numbered ps i ≡ Some c.peer) b.peers (mapped_at (λ (o : Edge). o.peer) y.live.edges i c at))
        (subst (λ ws. numbered ws i ≡ Some c.weight) b.weights (mapped_at (λ (o : Edge). o.weight) y.live.edges i c at)) in
        let off : was_sent is_above said b.branch.live.me c.peer ≡ true = subst (λ p. was_sent is_above said p c.peer ≡ true) (sym b.is_me) (above_before y.live.me c.peer asked above) in
        elim (sealed_by h may leads c.peer m left) [
          | inl first ↦ weigh n b.kept b.up b.branch b.found i old.0 old.1 m (subst (λ p. exit e p ≡ Some (Sealed m)) (sym old.2) first) (subst (λ p. was_sent is_above said b.branch.live.me p ≡ true) (sym old.2) off) (old.3 ∙ none)
          | inr new ↦ new_weighs h may c.peer new n b.kept b.up b.branch b.found i old.0 old.1 old.2 off (old.3 ∙ none)
        ]

-- ---- every run

module _ (t : History) where
  abbrev Law : Facts → List Event → Happening → Type 0
  Law f e h = LeavesStill t.places f h × WritesAsTold t.places f h

  weigh_from : (before rest : List Happening) → IsLawfulRun (so_far t before) → IsLawful t.places t.commands (f_at t before) rest → EachEventFrom Law t.places t.commands (f_at t before) (e_at t before) rest
      → SealedHeard (e_at t before) (births_of (so_far t before)) (said_in (f_at t before)) → SealedWeigh (f_at t before) (e_at t before) → EachEventFrom NodesWeigh t.places t.commands (f_at t before) (e_at t before) rest
  unfolding IsLawful
  weigh_from before [] lawful more laws heard weigh = tt
  weigh_from before (h ∷ rest) lawful more laws heard weigh = (
    weighs_here t before lawful h weigh,
    subst₂ (λ f e. EachEventFrom NodesWeigh t.places t.commands f e rest) (one_on t before h) (more_on t before h)
        (weigh_from (before ++ h ∷ []) rest (lawful_z t before h lawful more.0) (subst (λ f. IsLawful t.places t.commands f rest) (sym (one_on t before h)) more.1)
        (subst₂ (λ f e. EachEventFrom Law t.places t.commands f e rest) (sym (one_on t before h)) (sym (more_on t before h)) laws.1)
        (heard_on t before lawful h more.0 laws.0.0 laws.0.1 heard weigh) (weigh_on t before lawful h more.0 laws.0.0 laws.0.1 heard weigh)),
  )

  weigh_each : IsLawfulRun t → EachEventFrom NodesWeigh t.places t.commands (first_facts t.places) [] t.trace
  unfolding facts_of events_from births_from IsLawful
  weigh_each lawful =
      weigh_from [] t.trace tt lawful
      (both_each t.places t.commands _ _ (first_facts t.places) [] t.trace (fact_each t.places t.commands (LeavesStill t.places) (first_facts t.places) [] t.trace (trees_stand_still t lawful))
      (fact_each t.places t.commands (WritesAsTold t.places) (first_facts t.places) [] t.trace (records_are_as_told t lawful)))
      (λ c m is. absurd cc) (λ n k up x found i y at m is above. absurd cc)

pub voters_weigh : VotersHaveWeights
voters_weigh t lawful = weigh_each t lawful
