-- In every lawful run a live branch that was told that the walk to the commit point site comes there has a weight: the one
-- by which its parent took that step.
use Rattle.std.proofs.Common.{◌≡◌, ◌≢◌, ℕ, ◌≤◌, Bool, true, false, List, [], ◌∷◌, ◌++◌, map, Option, Some, None, inl, inr, refl, sym, ap, subst, subst₂, ◌∙◌, append-nil}
use Rattle.tran_ids.proofs.ListedLemmas.{item_is}
use Rattle.session_tree.specs.Tree.{best_child, place_of_greatest, weight, weight_by, step}
use Rattle.agreement.specs.Events.{exit}
use Rattle.node_rules.specs.Data.{BranchId, Edge, Live}
use Rattle.node_rules.specs.Data.phases
use Rattle.node_rules.specs.NodeState.{NodeState, Branch, live_id, live_at, branch_at, work_at, with_work}
use Rattle.node_rules.proofs.StandLemmas.{live_so}
use Rattle.run_rules.specs.Births.{Born, births_of, born_at}
use Rattle.run_base_laws.specs.BirthLaws.{Began, IsChild}
use Rattle.run_rules.specs.Branches.{is_among}
use Rattle.run_rules.specs.Data.{Happening}
use Rattle.run_rules.specs.Data.happenings
use Rattle.run_rules.specs.Facts.{node_at}
use Rattle.run_base_laws.specs.FreezeLaws.{was_asked}
use Rattle.run_base_laws.specs.InTurnLaws.{said_in, newest_exec, call_at}
use Rattle.run_rules.specs.Lawful.{History, IsLawfulRun, facts_at}
use Rattle.run_base_laws.specs.RunEvents.{lives_at, events_of}
use Rattle.run_rules.specs.Trail.{is_prepare}
use Rattle.run_branch_laws.specs.WalkLaws.{is_below, was_sent}
use Rattle.run_base_laws.proofs.BirthRunLemmas.{born_are_live_or_left, run_births}
use Rattle.run_base_laws.proofs.EventsStandLemmas.{nodes_are_as_events, ids_name_their_node}
use Rattle.run_branch_laws.proofs.FreezeRunLemmas.{asked_stand_still, prepare_finds_rest, run_freezes}
use Rattle.run_base_laws.proofs.InTurnRunLemmas.{branches_call_in_turn, run_calls}
use Rattle.run_base_laws.proofs.NodesStandLemmas.{some_or_none}
use Rattle.run_base_laws.proofs.OwnLemmas.{all_found}
use Rattle.run_base_laws.proofs.RestRunLemmas.{run_roots}
use Rattle.tree_laws.specs.WeightLaws.{ToldWeight}
use Rattle.tree_laws.proofs.AskLemmas.{sent_wider, below_asks}
use Rattle.tree_laws.proofs.AskRunLemmas.{paths_are_told, run_asks}
use Rattle.tree_laws.proofs.ForestLemmas as trees
use Rattle.tree_laws.proofs.ForestRunLemmas.{run_known}
use Rattle.tree_laws.proofs.LeftLemmas.{asks_live}
use Rattle.tree_laws.proofs.PrefixLemmas.{so_far, f_at, e_at, more_on}
use Rattle.tree_laws.proofs.StepWeightLemmas.{down_weighs}
use Rattle.tree_laws.proofs.WeightRunLemmas.{replies_tell_weights, edges_hold_weights}
use Rattle.tree_laws.specs.RestLaws.{Rests, SameTree}
use Rattle.tree_laws.proofs.CalledLemmas.{edges_were_called}
use Rattle.tree_laws.proofs.FateLemmas.{Fate, Stays, Leaves, among_found, fate_of}
use Rattle.tree_laws.proofs.FrozenLemmas.{edge_to, path_down}
use Rattle.tree_laws.proofs.TimeLemmas.{Part, part_on, part_of, part_lawful, may_of, exit_end, sent_end, keep_on}
use Rattle.commit_point_laws.specs.PointLaws.{WalksFindWeights}
use Rattle.commit_point_laws.proofs.MomentLemmas.{SentIn, sent_in, sent_there}
use Rattle.tree_laws.proofs.AtTurn.{at_happening}

-- ---- weights

unweighed_by : (changed : Bool) (s r : ℕ) (o : Option (ℕ × ℕ)) → weight_by changed s o ≡ None → weight_by changed r o ≡ None
unweighed_by true s r o is = absurd cc
unweighed_by false s r o is = is

-- a branch has no weight by its changes and its children, whatever its strength is
none_weighs : (x y : Live) → y.changed ≡ x.changed → map (λ (e : Edge). e.weight) y.edges ≡ map (λ (e : Edge). e.weight) x.edges → weight y ≡ None → weight x ≡ None
unfolding weight
none_weighs x y changed weights is =
    unweighed_by x.changed y.strength x.strength (best_child x)
    (ap (λ q. weight_by q y.strength (best_child x)) (sym changed) ∙ (ap (λ ws. weight_by y.changed y.strength (place_of_greatest 1 ws None)) (sym weights) ∙ is))

-- ---- at one moment

module _ (t : History) (whole : IsLawfulRun t) where
  -- A branch that began, and has not left, is live at its node.
  pub record Lives (b : BranchId) : Type 0 where
    pub kept : NodeState
    pub up : node_at (facts_at t) b.node ≡ Some kept
    pub branch : Branch
    pub found : branch_at kept branch.live.me ≡ Some branch
    pub is_me : branch.live.me ≡ b

  pub lives_still : (b : BranchId) → born_at (births_of t) b ≢ None → exit (events_of t) b ≡ None → Lives b
  lives_still b born none = elim (born_are_live_or_left t whole b born) [
    | inl left ↦ absurd (left none)
    | inr among ↦ by (node_at (facts_at t) b.node) refl among
  ]
    where
      by : (o : Option NodeState) → node_at (facts_at t) b.node ≡ o → is_among b (lives_at o) ≡ true → Lives b
      by None up is = absurd cc
      by (Some k) up is =
          let l = among_found k.lives b is in
          let me : l.0.me ≡ b = item_is live_id k.lives b l.0 l.1 in
          record { kept = k; up = up; branch = record { live = l.0; work = work_at k l.0.me }; found = ap (with_work k) (subst (λ i. live_at k i ≡ Some l.0) (sym me) l.1); is_me = me }

  -- a branch that was told so weighs what its parent holds of it
  pub told_weighs : (n : ℕ) (k : NodeState) → node_at (facts_at t) n ≡ Some k → (x : Branch) → branch_at k x.live.me ≡ Some x
      → (m : ℕ) (j : NodeState) → node_at (facts_at t) m ≡ Some j → (y : Branch) → branch_at j y.live.me ≡ Some y → was_sent is_below (said_in (facts_at t)) x.live.me y.live.me ≡ true → weight y.live ≢ None
  told_weighs n k up x found m j there y live sent none =
      let said = said_in (facts_at t) in
      let asked : was_asked said x.live.me y.live.me ≡ true = sent_wider is_below is_prepare below_asks said x.live.me y.live.me sent in
      let busy : x.live.phase ≢ phases.Working = (λ working. (let no : was_asked said x.live.me y.live.me ≡ false = (asked_stand_still t whole n k up x found).0 working y.live.me in absurd (cc (asked, no)))) in
      let told = (paths_are_told t whole n k up x.live (live_so k x.live.me x found) busy).0 y.live.me sent in
      let i : ℕ = told.0 in
      let edge = edge_to x.live.edges i y.live.me told.2 in
      let e : Edge = edge.0 in
      let weighs : e.weight ≢ None = down_weighs x.live i e (path_down x.live.phase (step x.live) i told.1) edge.1 in
      let held : ToldWeight said e.peer (call_at x.work i) e.weight = (edges_hold_weights t whole n k up x found).asked i e edge.1 (subst (λ b. was_asked said x.live.me b ≡ true) (sym edge.2) asked) in
      let rest = prepare_finds_rest t whole x.live.me m j there y live asked in
      let made : newest_exec said x.live.me y.live.me ≡ call_at x.work i = (branches_call_in_turn t whole n k up x found).1.made i y.live.me told.2 in
      let last : call_at x.work i ≡ y.work.came.last_call = sym made ∙ rest.2 in
      let one : 1 ≤ y.work.came.last_call = subst (λ c. 1 ≤ c) last (edges_were_called t whole n k up x found i e edge.1) in
      let tells : ToldWeight said y.live.me y.work.came.last_call e.weight = subst₂ (λ b c. ToldWeight said b c e.weight) edge.2 last held in
      let below : y.live.parent ≢ None = (λ top. (let above = rest.0 in absurd (cc (above, top)))) in
      let same : e.weight ≡ weight y.live = (replies_tell_weights t whole m j there y live).told below one rest.1 e.weight tells in
      weighs (same ∙ none)

-- ---- from then on

module _ (t : History) (whole : IsLawfulRun t) (q c : BranchId) (it : SentIn t whole is_below q c) where
  abbrev h0 : Happening
  h0 = happenings.Turn it.turn

  abbrev after0 : List Happening
  after0 = it.before ++ h0 ∷ []

  part0 : Part t whole after0
  part0 = part_on t whole it.before h0 it.later it.is

  -- it was told so, and has a weight where it is live
  abbrev WeighsAt : List Happening → Type 0
  WeighsAt hs = (was_sent is_below (said_in (f_at t hs)) q c ≡ true)
      × ((j : NodeState) (y : Branch) → node_at (f_at t hs) c.node ≡ Some j → branch_at j y.live.me ≡ Some y → y.live.me ≡ c → weight y.live ≢ None)

  -- its birth
  born_told : (hs : List Happening) → IsLawfulRun (so_far t hs) → was_sent is_below (said_in (f_at t hs)) q c ≡ true → born_at (births_of (so_far t hs)) c ≢ None
  born_told hs lawful sent none =
      let child : IsChild (Began (births_of (so_far t hs))) c q = trees.told_child (births_of (so_far t hs)) (said_in (f_at t hs)) (run_known (so_far t hs) lawful) q c sent in
      let at : born_at (births_of (so_far t hs)) c ≡ Some child.0 = subst (λ b. born_at (births_of (so_far t hs)) b ≡ Some child.0) child.2 child.1 in
      absurd (cc (at, none))

  module _ (hs : List Happening) (h : Happening) (rest : List Happening) (is : hs ++ h ∷ rest ≡ t.trace) (now : WeighsAt hs) where
    open at_happening t whole hs h rest is use {after, lawful, lawful_after as lawful_z}

    sent_then : was_sent is_below (said_in (f_at t after)) q c ≡ true
    sent_then = sent_end (so_far t after) lawful_z hs (record { rest = h ∷ []; is = refl }) is_below q c now.0

    module _ (j : NodeState) (y : Branch) (up : node_at (f_at t after) c.node ≡ Some j) (found : branch_at j y.live.me ≡ Some y) (me : y.live.me ≡ c) where
      none_after : exit (e_at t after) c ≡ None
      none_after =
          subst (λ b. exit (e_at t after) b ≡ None) me
          (all_found (λ (l : Live). exit (e_at t after) l.me ≡ None) live_id j.lives y.live.me y.live (nodes_are_as_events (so_far t after) lawful_z c.node j up).0 (live_so j y.live.me y found))

      none_before : exit (e_at t hs) c ≡ None
      none_before = elim (some_or_none (exit (e_at t hs) c)) [
        | inr none_is ↦ none_is
        | inl left ↦ (let later : exit (e_at t after) c ≡ Some left.0 = exit_end (so_far t after) lawful_z hs (record { rest = h ∷ []; is = refl }) c left.0 left.1 in
            let still = none_after in
            absurd (cc (later, still)))
      ]

      was : Lives (so_far t hs) lawful c
      was = lives_still (so_far t hs) lawful c (born_told hs lawful now.0) none_before

      abbrev x : Branch
      x = was.branch

      there : node_at (f_at t hs) x.live.me.node ≡ Some was.kept
      there = subst (λ b. node_at (f_at t hs) b.node ≡ Some was.kept) (sym was.is_me) was.up

      weighed : weight x.live ≢ None
      weighed = now.1 was.kept x was.up was.found was.is_me

      rests : Rests (said_in (f_at t hs)) x.live.me x.live.parent x.work
      rests =
          let asked : was_asked (said_in (f_at t hs)) q x.live.me ≡ true = sent_wider is_below is_prepare below_asks (said_in (f_at t hs)) q x.live.me (subst (λ b. was_sent is_below (said_in (f_at t hs)) q b ≡ true) (sym was.is_me) now.0) in
          let so = prepare_finds_rest (so_far t hs) lawful q x.live.me.node was.kept there x was.found asked in
          record { above = q; is_parent = so.0; waits = so.1; last = so.2 }

      by_fate : Fate t hs h x → weight y.live ≢ None
      by_fate (Leaves z left leaves) none =
          let gone : exit (e_at t after) c ≡ Some z = subst (λ b. exit (e_at t after) b ≡ Some z) was.is_me left in
          let still = none_after in
          absurd (cc (gone, still))
      by_fate (Stays i w up_w found_w me_w same) none =
          let own : node_at (f_at t after) c.node ≡ Some i = subst (λ b. node_at (f_at t after) b.node ≡ Some i) was.is_me up_w in
          let one : Some i ≡ Some j = sym own ∙ up in
          let kept : i ≡ j = cc in
          let mine : w.live.me ≡ y.live.me = me_w ∙ (was.is_me ∙ sym me) in
          let at : branch_at j y.live.me ≡ Some w = subst₂ (λ (k : NodeState) b. branch_at k b ≡ Some w) kept mine found_w in
          let two : Some w ≡ Some y = sym at ∙ found in
          let it_is : w ≡ y = cc in
          let still : SameTree x y = subst (SameTree x) it_is same in
          weighed (none_weighs x.live y.live still.changed still.weights none)

      still_weighs : weight y.live ≢ None
      still_weighs = by_fate (fate_of t whole hs h rest is was.kept x there was.found (λ working. rests))

    weighs_on : WeighsAt after
    weighs_on = (sent_then, still_weighs)

  -- ---- when it was told so

  lawful0 : IsLawfulRun (so_far t after0)
  lawful0 = part_lawful t whole after0 part0

  lawful_b : IsLawfulRun (so_far t it.before)
  lawful_b = part_lawful t whole it.before (part_of t whole it.before h0 it.later it.is)

  teller_lives : exit (e_at t after0) q ≡ None
  teller_lives =
      subst (λ e. exit e q ≡ None) (sym (more_on t it.before h0))
      (asks_live t.places t.commands t.of_a_script.each is_below below_asks (f_at t it.before) (e_at t it.before) (births_of (so_far t it.before)) (run_births (so_far t it.before) lawful_b) (run_roots (so_far t it.before) lawful_b)
      (run_calls (so_far t it.before) lawful_b) (run_freezes (so_far t it.before) lawful_b) (run_asks (so_far t it.before) lawful_b) h0 (may_of t whole it.before h0 it.later it.is) q c it.says)

  module _ (sent : was_sent is_below (said_in (f_at t after0)) q c ≡ true) where
    abbrev bs : List Born
    bs = births_of (so_far t after0)

    teller_born : born_at bs q ≢ None
    teller_born none =
        let child : IsChild (Began bs) c q = trees.told_child bs (said_in (f_at t after0)) (run_known (so_far t after0) lawful0) q c sent in
        let above = trees.below_of bs (said_in (f_at t after0)) (run_known (so_far t after0) lawful0) child.0 q child.1 child.3 in
        let at : born_at bs q ≡ Some above.up = subst (λ b. born_at bs b ≡ Some above.up) above.is_me above.began in
        absurd (cc (at, none))

    teller : Lives (so_far t after0) lawful0 q
    teller = lives_still (so_far t after0) lawful0 q teller_born teller_lives

    first_weighs : WeighsAt after0
    first_weighs = (
      sent,
      (λ j y up found me.
          told_weighs (so_far t after0) lawful0 q.node teller.kept teller.up teller.branch teller.found c.node j up y found
          (subst₂ (λ a b. was_sent is_below (said_in (f_at t after0)) a b ≡ true) (sym teller.is_me) (sym me) sent)),
    )

    pub end_weighs : WeighsAt t.trace
    end_weighs = subst WeighsAt part0.is (keep_on t whole WeighsAt weighs_on after0 part0.rest (record { rest = []; is = append-nil (after0 ++ part0.rest) ∙ part0.is }) first_weighs)

pub walks_find_weights : WalksFindWeights
walks_find_weights t whole n k up l live q sent =
    let it : SentIn t whole is_below q l.me = sent_in t whole is_below q l.me sent in
    let own : l.me.node ≡ n = all_found (λ (x : Live). x.me.node ≡ n) live_id k.lives l.me l (ids_name_their_node t whole n k up).lives live in
    let x : Branch = record { live = l; work = work_at k l.me } in
    (end_weighs t whole q l.me it (sent_there t whole is_below q l.me it)).1 k x (subst (λ i. node_at (facts_at t) i ≡ Some k) (sym own) up) (ap (with_work k) live) refl
