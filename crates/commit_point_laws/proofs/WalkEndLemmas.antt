-- In every lawful run each sealed branch of an undisturbed COMMIT has on its way to the site one that is sealed or the site,
-- which decided. Where nobody is sealed and nobody decided, nobody had changes.
use Rattle.std.proofs.Common.{◌≡◌, ◌≢◌, ℕ, zero, suc, ◌<◌, ◌≤◌, Bool, true, false, Option, Some, None, inl, inr, refl, sym, ap, subst, ◌∙◌, arith}
use Rattle.std.specs.Prelude.{◌⊎◌}
use Rattle.tran_ids.proofs.BranchLemmas.{equal_from_same, same_from_equal}
use Rattle.agreement.specs.Events.{IsForest, Beyond, Exit, Sealed, Decided, Quiet, Dropped, exit, site_of}
use Rattle.agreement.proofs.Invariant.{Inv}
use Rattle.node_rules.specs.Data.{BranchId}
use Rattle.node_rules.specs.Words.{same}
use Rattle.node_rules.specs.NodeState.{live_at}
use Rattle.run_rules.specs.Births.{Born}
use Rattle.run_rules.specs.Facts.{node_at}
use Rattle.run_base_laws.specs.FreezeLaws.{was_asked}
use Rattle.run_rules.specs.Lawful.{History, IsLawfulRun}
use Rattle.run_branch_laws.specs.WalkLaws.{is_below, was_sent}
use Rattle.run_base_laws.proofs.NodesStandLemmas.{some_or_none}
use Rattle.tree_laws.specs.Forests.{told_below, comes_to}
use Rattle.tree_laws.proofs.BeyondLemmas.{beyond_is}
use Rattle.tree_laws.proofs.ForestLemmas as trees
use Rattle.tree_laws.proofs.ForestLemmas.{told_sent}
use Rattle.tree_laws.proofs.ForestRunLemmas.{run_known, runs_have_forests}
use Rattle.commit_laws.specs.StillLaws.{DroppedNone}
use Rattle.run_claims.specs.Undisturbed.{Commit, Undisturbed}
use Rattle.commit_laws.specs.WaitLaws.{NodeHasStopped, AllCame}
use Rattle.commit_laws.proofs.RootLemmas.{undisturbed_roots_leave}
use Rattle.commit_point_laws.specs.EndLaws.{UndisturbedTowardsLeave, WalkEnd, Has_decided, Has_no_changes, UndisturbedWalksEnd}
use Rattle.commit_point_laws.specs.PointLaws.{is_point, IsNotLive}
use Rattle.commit_point_laws.specs.RootLaws.{FoundNothing}
use Rattle.commit_point_laws.proofs.CalmLemmas.{point_heard}
use Rattle.commit_point_laws.proofs.DroppedRootLemmas.{root_born, root_began, root_me, root_top, root_of, root_found}
use Rattle.commit_point_laws.proofs.LeaveLemmas.{quiet_tell_none}
use Rattle.tree_laws.proofs.MoreLemmas.{inv_end}
use Rattle.commit_point_laws.proofs.ReadyEndLemmas.{all as tree_all, never_below, dropped_root, TreeLives, tree_lives, leave_ready}
use Rattle.commit_point_laws.proofs.SealedLemmas.{sealed_pass_on}
use Rattle.tree_laws.proofs.AtPart.{at_end}

module _ (t : History) (whole : IsLawfulRun t) (c : Commit t.places t.commands t.trace) (u : Undisturbed t.places t.commands t.trace c) (below : DroppedNone t c.root) where
  open at_end t use {f, e, bs, said, forest as p}

  known : trees.Known bs said
  known = run_known t whole

  abbrev r : BranchId
  r = c.root

  all : AllCame t r
  all = tree_all t whole c u below

  -- the root, as it began
  abbrev rb : Born
  rb = root_born t whole c u all

  -- ---- toward the site

  abbrev Towards : BranchId → Type 0
  Towards y = ((m : ℕ) × (exit e y ≡ Some (Sealed m))) ⊎ ((m : ℕ) × (exit e y ≡ Some (Decided m)))

  forest : IsForest p
  forest = runs_have_forests t whole

  i : Inv p e
  i = inv_end t whole

  module _ (b : BranchId) (n : ℕ) (sealed : exit e b ≡ Some (Sealed n)) (of : p.root b ≡ r) where
    abbrev y2 : BranchId
    y2 = p.toward b

    inside : (p.member b ≡ true) × (b ≢ site_of p b)
    inside = i.sealed_in b n sealed

    edge : Beyond p b y2
    edge = record { member = inside.0; not_site = inside.1; next = refl }

    pub toward_root : p.root y2 ≡ r
    toward_root = forest.of_one b inside.0 inside.1 ∙ of

    mine : trees.Member bs said known b
    mine = trees.member_is bs said known b inside.0

    mine_of : mine.born.root ≡ r
    mine_of = sym (trees.root_is bs said known mine.born b mine.began mine.is_me) ∙ of

    its_own : trees.Member bs said known y2
    its_own = trees.member_is bs said known y2 (forest.inward b inside.0 inside.1)

    abbrev x2 : Born
    x2 = its_own.born

    x2_of : x2.root ≡ r
    x2_of = sym (trees.root_is bs said known x2 y2 its_own.began its_own.is_me) ∙ toward_root

    way : ((was_asked said y2 b ≡ true) × (was_sent is_below said y2 b ≡ false)) ⊎ (was_sent is_below said b y2 ≡ true)
    way = beyond_is bs said known b y2 edge

    not_lives : TreeLives t whole c u below x2 → ⊥
    not_lives w = elim way [
      | inl asked ↦ (let asks : was_asked said x2.me b ≡ true = subst (λ j. was_asked said j b ≡ true) (sym its_own.is_me) asked.0 in
          leave_ready t whole c u below x2.me.node w.kept w.up w.live w.found w.of_root (w.asks b asks))
      | inr told ↦ passed told (sealed_pass_on t whole b n sealed y2 told)
    ]
      where
        passed : was_sent is_below said b y2 ≡ true → (was_sent is_point said b y2 ≡ true) ⊎ NodeHasStopped f b → ⊥
        passed told (inr stopped) = all.up mine.born mine.began mine_of (subst (NodeHasStopped f) (sym mine.is_me) stopped)
        passed told (inl sent) =
            let gone : IsNotLive f y2 = point_heard t whole c u all mine.born mine.began mine_of y2 (subst (λ j. was_sent is_point said j y2 ≡ true) (sym mine.is_me) sent) in
            let there : node_at f y2.node ≡ Some w.kept = subst (λ j. node_at f j.node ≡ Some w.kept) its_own.is_me w.up in
            let no : live_at w.kept y2 ≡ None = gone w.kept there in
            let yes : live_at w.kept y2 ≡ Some w.live = subst (λ j. live_at w.kept j ≡ Some w.live) (w.is_me ∙ its_own.is_me) w.found in
            absurd (cc (no, yes))

    not_dropped : exit e x2.me ≡ Some Dropped → ⊥
    not_dropped left =
        let root = dropped_root t whole c u below x2 its_own.began x2_of left in
        let is_root : y2 ≡ r = sym its_own.is_me ∙ root.0 in
        elim way [
          | inl asked ↦ (let quiet : exit e b ≡ Some Quiet = root.1.quiet b (subst (λ j. was_asked said j b ≡ true) is_root asked.0) in absurd (cc (quiet, sealed)))
          | inr told ↦ never_below t whole c u below b (subst (λ j. was_sent is_below said b j ≡ true) is_root told)
        ]

    by_exit : (z : Exit) → exit e x2.me ≡ Some z → Towards y2
    by_exit (Sealed m) left = inl (m, subst (λ j. exit e j ≡ Some (Sealed m)) its_own.is_me left)
    by_exit (Decided m) left = inr (m, subst (λ j. exit e j ≡ Some (Decided m)) its_own.is_me left)
    by_exit Quiet left = (let quiet : exit e b ≡ Some Quiet = i.quiet_covers b y2 edge (subst (λ j. exit e j ≡ Some Quiet) its_own.is_me left) in absurd (cc (quiet, sealed)))
    by_exit Dropped left = absurd (not_dropped left)

    pub toward_left : Towards y2
    toward_left = elim (some_or_none (exit e x2.me)) [
      | inl left ↦ by_exit left.0 left.1
      | inr none ↦ absurd (not_lives (tree_lives t whole c u below x2 its_own.began x2_of none))
    ]

    pub toward_nearer : p.far y2 < p.far b
    toward_nearer = forest.nearer b inside.0 inside.1

  -- ---- the end of the walk

  abbrev HasSite : Type 0
  HasSite = (m : ℕ) × (exit e (p.site r) ≡ Some (Decided m)) × (p.root (p.site r) ≡ r)

  site_decided : (y : BranchId) (m : ℕ) → exit e y ≡ Some (Decided m) → p.root y ≡ r → HasSite
  site_decided y m left of =
      let site : y ≡ p.site r = i.decided_at y m left ∙ ap p.site of in
      (m, subst (λ j. exit e j ≡ Some (Decided m)) site left, subst (λ j. p.root j ≡ r) site of)

  sealed_ends : (m : ℕ) (b : BranchId) (n : ℕ) → exit e b ≡ Some (Sealed n) → p.root b ≡ r → p.far b ≤ m → HasSite
  sealed_ends zero b n sealed of low = (let near : p.far (p.toward b) < p.far b = toward_nearer b n sealed of in absurd (omega (arith, near, low)))
  sealed_ends (suc m) b n sealed of low = elim (toward_left b n sealed of) [
    | inl next ↦ (let near : p.far (p.toward b) < p.far b = toward_nearer b n sealed of in sealed_ends m (p.toward b) next.0 next.1 (toward_root b n sealed of) (omega (arith, near, low)))
    | inr last ↦ site_decided (p.toward b) last.0 last.1 (toward_root b n sealed of)
  ]

  -- a transaction with a seal has a decision, of a branch that is its site
  pub sealed_site : (b : BranchId) (n : ℕ) → exit e b ≡ Some (Sealed n) → p.root b ≡ r → (d : BranchId) × (m : ℕ) × (exit e d ≡ Some (Decided m)) × (p.root d ≡ r)
  sealed_site b n sealed of = (let it = sealed_ends (p.far b) b n sealed of (omega arith) in (p.site r, it.0, it.1, it.2))

  -- that is, the site decided
  pub seals_have_site : (b : BranchId) (n : ℕ) → exit e b ≡ Some (Sealed n) → p.root b ≡ r → (m : ℕ) × (exit e (p.site r) ≡ Some (Decided m))
  seals_have_site b n sealed of = (let it = sealed_ends (p.far b) b n sealed of (omega arith) in (it.0, it.1))

  root_root : p.root r ≡ r
  root_root = trees.root_is bs said known rb r (root_began t whole c u all) (root_me t whole c u all) ∙ root_of t whole c u all

  -- a root that told no child so is the site
  root_site : ((d : BranchId) → was_sent is_below said r d ≡ true → ⊥) → r ≡ p.site r
  root_site none = trees.end_is_site bs said known rb r (root_began t whole c u all) (root_me t whole c u all) (ap (comes_to said r) (root_top t whole c u all)) (by (told_below said r) refl) ∙ ap p.site root_root
    where
      by : (o : Option BranchId) → told_below said r ≡ o → o ≡ None
      by None is = refl
      by (Some d) is = absurd (none d (told_sent said r d is))

  -- ---- a root that found no changes

  module _ (nothing : FoundNothing said e r) where
    at_root : r ≡ p.site r
    at_root = root_site (λ d told. (let no = nothing.off d in absurd (cc (told, no))))

    off_site : (b : BranchId) → p.root b ≡ r → b ≢ r → b ≢ site_of p b
    off_site b of other is = other (is ∙ (ap p.site of ∙ sym at_root))

    by_root : (b : BranchId) → Beyond p b r → exit e b ≡ Some Quiet
    by_root b beyond = elim (beyond_is bs said known b r beyond) [
      | inl asked ↦ nothing.quiet b asked.0
      | inr told ↦ absurd (never_below t whole c u below b told)
    ]

    all_quiet : (m : ℕ) (b : BranchId) → p.member b ≡ true → p.root b ≡ r → b ≢ r → p.far b ≤ m → exit e b ≡ Some Quiet
    all_quiet zero b member of other low = (let near : p.far (p.toward b) < p.far b = forest.nearer b member (off_site b of other) in absurd (omega (arith, near, low)))
    all_quiet (suc m) b member of other low = by (same (p.toward b) r) refl (all_quiet m)
      where
        beyond : Beyond p b (p.toward b)
        beyond = record { member = member; not_site = off_site b of other; next = refl }

        near : p.far (p.toward b) < p.far b
        near = forest.nearer b member (off_site b of other)

        by : (q : Bool) → same (p.toward b) r ≡ q → ((d : BranchId) → p.member d ≡ true → p.root d ≡ r → d ≢ r → p.far d ≤ m → exit e d ≡ Some Quiet) → exit e b ≡ Some Quiet
        by true is further = by_root b (record { member = member; not_site = off_site b of other; next = equal_from_same (p.toward b) r is })
        by false is further =
            i.quiet_covers b (p.toward b) beyond
            (further (p.toward b) (forest.inward b member (off_site b of other)) (forest.of_one b member (off_site b of other) ∙ of) (λ at. (let yes : same (p.toward b) r ≡ true = same_from_equal (p.toward b) r at in absurd (cc (yes, is)))) (omega (arith, near, low)))

  -- ---- the root

  root_by : (z : Exit) → exit e r ≡ Some z → WalkEnd t r
  root_by (Decided m) left = (let it = site_decided r m left root_root in Has_decided it.0 it.1 it.2)
  root_by (Sealed n) left = (let it = sealed_ends (p.far r) r n left root_root (omega arith) in Has_decided it.0 it.1 it.2)
  root_by Quiet left = absurd (i.quiet_not_site r left (root_site (λ d told. quiet_tell_none t whole r left d told) ∙ ap p.site (sym root_root)))
  root_by Dropped left = Has_no_changes left (λ b member of other. all_quiet (root_found t whole c u all left) (p.far b) b member of other (omega arith))

  root_gone : exit e rb.me ≡ None → ⊥
  root_gone none =
      let w : TreeLives t whole c u below rb = tree_lives t whole c u below rb (root_began t whole c u all) (root_of t whole c u all) none in
      let there : node_at f r.node ≡ Some w.kept = subst (λ j. node_at f j.node ≡ Some w.kept) (root_me t whole c u all) w.up in
      let no : live_at w.kept r ≡ None = undisturbed_roots_leave t whole c u below w.kept there in
      let yes : live_at w.kept r ≡ Some w.live = subst (λ j. live_at w.kept j ≡ Some w.live) (w.is_me ∙ root_me t whole c u all) w.found in
      absurd (cc (no, yes))

  pub walk_ends : WalkEnd t r
  walk_ends = elim (some_or_none (exit e rb.me)) [
    | inl left ↦ root_by left.0 (subst (λ j. exit e j ≡ Some left.0) (root_me t whole c u all) left.1)
    | inr none ↦ absurd (root_gone none)
  ]

pub undisturbed_towards_leave : UndisturbedTowardsLeave
undisturbed_towards_leave t whole c u below b n sealed of = toward_left t whole c u below b n sealed of

pub undisturbed_walks_end : UndisturbedWalksEnd
undisturbed_walks_end t whole c u below = walk_ends t whole c u below
