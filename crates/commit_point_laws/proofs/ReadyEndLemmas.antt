-- In every lawful run no branch of an undisturbed COMMIT is Ready when nothing is in flight: its parent would be Ready too, or
-- has passed CommitPoint on to it.
use Rattle.std.proofs.Common.{◌≡◌, ◌≢◌, ℕ, zero, suc, ◌+◌, ◌≤◌, true, false, Option, Some, None, inl, inr, refl, sym, ap, subst, ◌∙◌, arith}
use Rattle.std.specs.Prelude.{◌⊎◌}
use Rattle.agreement.specs.Events.{Exit, Sealed, Decided, Quiet, Dropped, exit, site_of}
use Rattle.node_rules.specs.Data.{BranchId, Live, Phase}
use Rattle.node_rules.specs.Data.phases
use Rattle.node_rules.specs.NodeState.{NodeState, Branch, live_id, live_at}
use Rattle.node_rules.proofs.StandLemmas.{live_so}
use Rattle.run_rules.specs.Births.{Born, born_at}
use Rattle.run_base_laws.specs.BirthLaws.{Began, LiveIs}
use Rattle.run_rules.specs.Facts.{node_at}
use Rattle.run_base_laws.specs.FreezeLaws.{was_asked}
use Rattle.run_rules.specs.Lawful.{History, IsLawfulRun}
use Rattle.run_branch_laws.specs.PhaseLaws.{PhaseFits}
use Rattle.run_rules.specs.Trail.{is_prepare}
use Rattle.run_branch_laws.specs.WalkLaws.{is_below, was_sent}
use Rattle.run_base_laws.proofs.BirthRunLemmas.{nodes_name_the_born}
use Rattle.run_base_laws.proofs.EventsStandLemmas.{ids_name_their_node}
use Rattle.run_branch_laws.proofs.FreezeRunLemmas.{asked_stand_still}
use Rattle.run_base_laws.proofs.NodesStandLemmas.{some_or_none}
use Rattle.run_base_laws.proofs.OwnLemmas.{all_found}
use Rattle.run_branch_laws.proofs.PhaseLemmas.{phases_fit}
use Rattle.tree_laws.specs.AskLaws.{way_of}
use Rattle.tree_laws.specs.Forests.{comes_to}
use Rattle.tree_laws.proofs.AskLemmas.{sent_wider, below_asks}
use Rattle.tree_laws.proofs.AskRunLemmas.{collects_as_told, walk_goes_on}
use Rattle.tree_laws.proofs.ForestLemmas as trees
use Rattle.tree_laws.proofs.ForestRunLemmas.{run_known}
use Rattle.tree_laws.proofs.LeadLemmas.{leads_so}
use Rattle.commit_laws.specs.StillLaws.{DroppedNone}
use Rattle.run_claims.specs.Undisturbed.{Commit, Undisturbed}
use Rattle.commit_laws.specs.WaitLaws.{AllCame}
use Rattle.commit_laws.proofs.StillLemmas.{all_came, undisturbed_collects_end}
use Rattle.commit_point_laws.specs.EndLaws.{UndisturbedLeaveReady}
use Rattle.commit_point_laws.specs.RootLaws.{FoundNothing}
use Rattle.commit_point_laws.proofs.CalmLemmas.{point_heard}
use Rattle.commit_point_laws.proofs.DroppedRootLemmas.{root_born, root_began, root_me, root_top, root_found}
use Rattle.commit_point_laws.proofs.LeaveLemmas.{quiet_tell_none}
use Rattle.commit_point_laws.proofs.SealedLemmas.{sealed_pass_on}
use Rattle.commit_point_laws.proofs.WeightLemmas.{Lives, lives_still}
use Rattle.tree_laws.proofs.MoreLemmas.{inv_end}
use Rattle.tree_laws.proofs.AtPart.{at_end}

module _ (t : History) (whole : IsLawfulRun t) where
  open at_end t use {f, e, bs, said, forest as p}

  known : trees.Known bs said
  known = run_known t whole

  -- one that told a child that the walk comes there is not the site
  told_not_site : (b c : BranchId) → was_sent is_below said b c ≡ true → b ≢ site_of p b
  told_not_site b c told =
      let from = walk_goes_on t whole b c told in
      (leads_so bs said known from.0 b c from.1 from.2 (inr (comes from.0 from.0.parent refl from.3, told))).not_site
    where
      comes : (x : Born) (o : Option BranchId) → x.parent ≡ o → ((q : BranchId) → x.parent ≡ Some q → was_sent is_below said q b ≡ true) → comes_to said b x.parent ≡ true
      comes x None is told_it = ap (comes_to said b) is
      comes x (Some q) is told_it = ap (comes_to said b) is ∙ told_it q is

  module _ (c : Commit t.places t.commands t.trace) (u : Undisturbed t.places t.commands t.trace c) (below : DroppedNone t c.root) where
    abbrev r : BranchId
    r = c.root

    -- all messages came, and no branch below the root was dropped
    pub all : AllCame t r
    all = all_came t whole c u below

    -- the root, as it began
    abbrev pub rb : Born
    rb = root_born t whole c u all

    root_is : (x : Born) → Began bs x → x.parent ≡ None → x.root ≡ r → x.me ≡ r
    root_is x began none of = sym (trees.stands_so bs said known x None began none).0 ∙ of

    -- it was told nothing by a parent
    pub never_below : (q : BranchId) → was_sent is_below said q r ≡ true → ⊥
    never_below q told =
        let child = trees.told_child bs said known q r told in
        let one : child.0 ≡ rb = trees.same_born bs said known child.0 rb child.1 (root_began t whole c u all) (child.2 ∙ sym (root_me t whole c u all)) in
        let above : child.0.parent ≡ Some q = child.3 in
        let none : child.0.parent ≡ None = ap (λ (x : Born). x.parent) one ∙ root_top t whole c u all in
        absurd (cc (above, none))

    -- a branch of the tree that was dropped is the root, which found no changes
    pub dropped_root : (x : Born) → Began bs x → x.root ≡ r → exit e x.me ≡ Some Dropped → (x.me ≡ r) × FoundNothing said e r
    dropped_root x began of dropped = by x.parent refl
      where
        by : (o : Option BranchId) → x.parent ≡ o → (x.me ≡ r) × FoundNothing said e r
        by (Some q) is = absurd (all.below x began of (λ none. (let some : x.parent ≡ Some q = is in absurd (cc (some, none)))) dropped)
        by None is = (let me : x.me ≡ r = root_is x began is of in (me, root_found t whole c u all (subst (λ i. exit e i ≡ Some Dropped) me dropped)))

    -- A branch of the tree that has not left, as it is live: it works, or it is Ready. One that asked is Ready.
    pub record TreeLives (x : Born) : Type 0 where
      pub kept : NodeState
      pub up : node_at f x.me.node ≡ Some kept
      pub live : Live
      pub found : live_at kept live.me ≡ Some live
      pub is_me : live.me ≡ x.me
      pub deep : live.depth ≡ x.depth
      pub of_root : live.root ≡ r
      pub phase : (live.phase ≡ phases.Working) ⊎ (live.phase ≡ phases.Ready)
      pub asks : (d : BranchId) → was_asked said x.me d ≡ true → live.phase ≡ phases.Ready

    module _ (x : Born) (began : Began bs x) (of : x.root ≡ r) (none : exit e x.me ≡ None) where
      lives : Lives t whole x.me
      lives = lives_still t whole x.me (λ no. (let at : born_at bs x.me ≡ Some x = began in absurd (cc (at, no)))) none

      abbrev y : Branch
      y = lives.branch

      found : live_at lives.kept y.live.me ≡ Some y.live
      found = live_so lives.kept y.live.me y lives.found

      its : LiveIs (Began bs) y.live
      its = all_found (LiveIs (Began bs)) live_id lives.kept.lives y.live.me y.live (nodes_name_the_born t whole x.me.node lives.kept lives.up).0 found

      one : its.born ≡ x
      one = trees.same_born bs said known its.born x its.began began (its.is_me ∙ lives.is_me)

      live_of : y.live.root ≡ r
      live_of = sym its.is_root ∙ (ap (λ (z : Born). z.root) one ∙ of)

      live_deep : y.live.depth ≡ x.depth
      live_deep = sym its.is_depth ∙ ap (λ (z : Born). z.depth) one

      by_phase : (phase : Phase) → y.live.phase ≡ phase → (y.live.phase ≡ phases.Working) ⊎ (y.live.phase ≡ phases.Ready)
      by_phase phases.Working is = inl is
      by_phase (phases.Collecting down) is = absurd (undisturbed_collects_end t whole c u below x.me.node lives.kept lives.up y.live found live_of down is)
      by_phase phases.Ready is = inr is

      asker_ready : (d : BranchId) → was_asked said x.me d ≡ true → y.live.phase ≡ phases.Ready
      asker_ready d asked = elim (by_phase y.live.phase refl) [
        | inl working ↦ (let no : was_asked said y.live.me d ≡ false = (asked_stand_still t whole x.me.node lives.kept lives.up y lives.found).0 working d in
            let yes : was_asked said y.live.me d ≡ true = subst (λ i. was_asked said i d ≡ true) (sym lives.is_me) asked in
            absurd (cc (no, yes)))
        | inr ready ↦ ready
      ]

      pub tree_lives : TreeLives x
      tree_lives = record { kept = lives.kept; up = lives.up; live = y.live; found = found; is_me = lives.is_me; deep = live_deep; of_root = live_of; phase = by_phase y.live.phase refl; asks = asker_ready }

    -- ---- nobody is Ready

    -- no branch of at most this depth is
    abbrev NoneReady : ℕ → Type 0
    NoneReady m = (n : ℕ) (k : NodeState) → node_at f n ≡ Some k → (l : Live) → live_at k l.me ≡ Some l → l.root ≡ r → l.phase ≡ phases.Ready → l.depth ≤ m → ⊥

    module _ (x : Born) (began : Began bs x) (of : x.root ≡ r) (l : Live) (k : NodeState) (up : node_at f l.me.node ≡ Some k) (live : live_at k l.me ≡ Some l) (told : was_sent is_below said x.me l.me ≡ true) where
      -- one that told a live branch that the walk comes there has not left
      teller_stays : (z : Exit) → exit e x.me ≡ Some z → ⊥
      teller_stays Dropped left =
          let root = dropped_root x began of left in
          let yes : was_sent is_below said r l.me ≡ true = subst (λ i. was_sent is_below said i l.me ≡ true) root.0 told in
          let no : was_sent is_below said r l.me ≡ false = root.1.off l.me in
          absurd (cc (yes, no))
      teller_stays Quiet left = quiet_tell_none t whole x.me left l.me told
      teller_stays (Decided n) left = told_not_site x.me l.me told ((inv_end t whole).decided_at x.me n left)
      teller_stays (Sealed n) left = elim (sealed_pass_on t whole x.me n left l.me told) [
        | inl sent ↦ (let none : live_at k l.me ≡ None = point_heard t whole c u all x began of l.me sent k up in absurd (cc (none, live)))
        | inr stopped ↦ all.up x began of stopped
      ]

    ready_step : (m : ℕ) → NoneReady m → NoneReady (suc m)
    ready_step m before n k up l live of ready low = by l.parent refl
      where
        placed : LiveIs (Began bs) l
        placed = all_found (LiveIs (Began bs)) live_id k.lives l.me l (nodes_name_the_born t whole n k up).0 live

        own : l.me.node ≡ n
        own = all_found (λ (x : Live). x.me.node ≡ n) live_id k.lives l.me l (ids_name_their_node t whole n k up).lives live

        fits : PhaseFits l.parent l.edges phases.Ready
        fits = subst (PhaseFits l.parent l.edges) ready (all_found (λ (x : Live). PhaseFits x.parent x.edges x.phase) live_id k.lives l.me l (phases_fit t whole n k up) live)

        by : (o : Option BranchId) → l.parent ≡ o → ⊥
        by None top = fits.2 top
        by (Some q) is =
            let above = trees.below_of bs said known placed.born q placed.began (placed.is_parent ∙ is) in
            let x : Born = above.up in
            let of_x : x.root ≡ r = above.is_root ∙ (placed.is_root ∙ of) in
            let told_q : was_sent is_below said q l.me ≡ true = collects_as_told t whole n k up l live true (ap way_of ready) q is in
            let told : was_sent is_below said x.me l.me ≡ true = subst (λ i. was_sent is_below said i l.me ≡ true) (sym above.is_me) told_q in
            elim (some_or_none (exit e x.me)) [
              | inl left ↦ teller_stays x above.began of_x l k (subst (λ i. node_at f i ≡ Some k) (sym own) up) live told left.0 left.1
              | inr none ↦ (let asked : was_asked said x.me l.me ≡ true = sent_wider is_below is_prepare below_asks said x.me l.me told in
                  let w : TreeLives x = tree_lives x above.began of_x none in
                  let deep : w.live.depth ≡ x.depth = w.deep in
                  let one : x.depth + 1 ≡ placed.born.depth = above.deeper in
                  let its_depth : placed.born.depth ≡ l.depth = placed.is_depth in
                  before x.me.node w.kept w.up w.live w.found w.of_root (w.asks l.me asked) (omega (arith, deep, one, its_depth, low)))
            ]

    none_ready : (m : ℕ) → NoneReady m
    none_ready zero n k up l live of ready low =
        let placed : LiveIs (Began bs) l = all_found (LiveIs (Began bs)) live_id k.lives l.me l (nodes_name_the_born t whole n k up).0 live in
        let high : 1 ≤ placed.born.depth = trees.high bs said known placed.born placed.began in
        let its_depth : placed.born.depth ≡ l.depth = placed.is_depth in
        absurd (omega (arith, high, its_depth, low))
    none_ready (suc m) n k up l live of ready low = ready_step m (none_ready m) n k up l live of ready low

    pub leave_ready : (n : ℕ) (k : NodeState) → node_at f n ≡ Some k → (l : Live) → live_at k l.me ≡ Some l → l.root ≡ r → l.phase ≢ phases.Ready
    leave_ready n k up l live of ready = none_ready l.depth n k up l live of ready (omega arith)

pub undisturbed_leave_ready : UndisturbedLeaveReady
undisturbed_leave_ready t whole c u below n k up l live of = leave_ready t whole c u below n k up l live of
