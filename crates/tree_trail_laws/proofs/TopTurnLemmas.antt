-- What is kept of what is told of roots, and that a turn keeps it.
use Rattle.std.proofs.Common.{◌≡◌, ℕ, Bool, true, false, List, [], ◌∷◌, ◌++◌, Some, inl, inr, sym, subst, ◌∙◌, ap, unwrap_or}
use Rattle.std.specs.List.{AllByRecursion}
use Rattle.std.proofs.lemmas.Bool.{cases_eq}
use Rattle.node_rules.specs.NodeState.{NodeState, work_at, with_work}
use Rattle.node_rules.specs.Turn.{draft_of}
use Rattle.run_rules.specs.Branches.{Trail, seen_id, strength_set}
use Rattle.run_rules.specs.Data.{Turn, Happening}
use Rattle.run_rules.specs.Data.happenings
use Rattle.run_rules.specs.Facts.{Facts, place_at, node_at, kept_after}
use Rattle.run_rules.specs.Lawful.{History, IsLawfulRun}
use Rattle.run_base_laws.specs.RunEvents.{events_of}
use Rattle.run_rules.specs.Births.{births_of, born_at, Born}
use Rattle.run_rules.specs.Trail.{trail_after}
use Rattle.run_rules.proofs.AtNodeLemmas.{turn_elsewhere, turn_here}
use Rattle.run_base_laws.proofs.BirthRunLemmas.{run_births, messages_are_of_neighbors, nodes_name_the_born}
use Rattle.run_base_laws.proofs.BirthsStandLemmas.{came_so}
use Rattle.run_base_laws.specs.BirthLaws.{Began, GoesSo}
use Rattle.run_base_laws.proofs.EventsStandLemmas.{run_stands}
use Rattle.run_base_laws.proofs.LawfulLemmas.{serves}
use Rattle.run_base_laws.proofs.RestLemmas.{Before}
use Rattle.run_base_laws.proofs.RestRunLemmas.{NodeRests, run_roots, before_so, asked_parent}
use Rattle.std.specs.Prelude.{IfSome}
use Rattle.node_rules.specs.Data.kinds
use Rattle.node_rules.specs.Turn.{turn_of}
use Rattle.tree_laws.proofs.PrefixLemmas.{f_at, one_on, so_far}
use Rattle.tree_laws.proofs.TimeLemmas.{Part, part_lawful}
use Rattle.tree_trail_laws.specs.SeenLaws.{TracesTops, SeesRoots, TracesStrengths}
use Rattle.tree_trail_laws.proofs.MomentLemmas.{tr_at, trail_one_on}
use Rattle.tree_trail_laws.proofs.TopBackLemmas.{Back, Siteless, back_on}
use Rattle.tree_trail_laws.proofs.TopBirthLemmas.{IsBorn, Counts, Booted, born_on, alone_on, IsStarted, started_on}
use Rattle.tree_trail_laws.proofs.TopCountLemmas.{booted_on, ordered_on, counts_on}
use Rattle.tree_trail_laws.proofs.TopListLemmas.{Alone, Ordered}
use Rattle.tree_trail_laws.proofs.TopNodeLemmas.{RootGoes}
use Rattle.tree_trail_laws.proofs.TopNodeStepLemmas.{Brings, turn_goes}
use Rattle.tree_trail_laws.proofs.TopPlanLemmas.{plans_on}
use Rattle.tree_trail_laws.proofs.TopSeesLemmas.{sees_roots}
use Rattle.tree_trail_laws.proofs.TopHereLemmas.{tops_on}
use Rattle.tree_laws.proofs.AtTurn.{at_turn}
use Rattle.tran_ids.proofs.ListedLemmas.{item_is}
use Rattle.run_base_laws.proofs.OwnLemmas.{all_found}
use Rattle.tree_laws.proofs.StrengthLemmas.{lives_have_strength}
use Rattle.node_rules.specs.Data.{BranchId}

module _ (t : History) (whole : IsLawfulRun t) where
  -- what each happening keeps
  pub record Tops (hs : List Happening) : Type 0 where
    pub tops : TracesTops (f_at t hs) (tr_at t hs)
    pub goes : (n : ℕ) (k : NodeState) → node_at (f_at t hs) n ≡ Some k → RootGoes k.sessions k.lives
    pub counts : Counts t whole (f_at t hs) (tr_at t hs)
    pub booted : AllByRecursion (Booted t whole (f_at t hs)) (tr_at t hs).seen
    pub ordered : AllByRecursion (Ordered (tr_at t hs)) (tr_at t hs).seen
    pub born : AllByRecursion (λ s. IsBorn t whole hs s.me) (tr_at t hs).seen
    pub alone : Alone (tr_at t hs).seen
    pub back : AllByRecursion (Back (f_at t hs)) (tr_at t hs).seen
    pub plans : AllByRecursion (λ x. IsBorn t whole hs x.root) (tr_at t hs).plans
    pub started : AllByRecursion (IsStarted t whole hs) (tr_at t hs).seen

  -- the same of facts and a trail
  pub record TopsSo (hs : List Happening) (f : Facts) (tr : Trail) : Type 0 where
    pub tops : TracesTops f tr
    pub goes : (n : ℕ) (k : NodeState) → node_at f n ≡ Some k → RootGoes k.sessions k.lives
    pub counts : Counts t whole f tr
    pub booted : AllByRecursion (Booted t whole f) tr.seen
    pub ordered : AllByRecursion (Ordered tr) tr.seen
    pub born : AllByRecursion (λ s. IsBorn t whole hs s.me) tr.seen
    pub alone : Alone tr.seen
    pub back : AllByRecursion (Back f) tr.seen
    pub plans : AllByRecursion (λ x. IsBorn t whole hs x.root) tr.plans
    pub started : AllByRecursion (IsStarted t whole hs) tr.seen

  pub tops_so : (hs : List Happening) (f : Facts) (tr : Trail) → f ≡ f_at t hs → tr ≡ tr_at t hs → TopsSo hs f tr → Tops hs
  tops_so hs f tr facts trail so =
      let it : TopsSo hs (f_at t hs) (tr_at t hs) = subst (λ g. TopsSo hs g (tr_at t hs)) facts (subst (TopsSo hs f) trail so) in
      record { tops = it.tops; goes = it.goes; counts = it.counts; booted = it.booted; ordered = it.ordered; born = it.born; alone = it.alone; back = it.back; plans = it.plans; started = it.started }

  pub seen_roots : (hs : List Happening) → Part t whole hs → Tops hs → SeesRoots (f_at t hs) (tr_at t hs)
  seen_roots hs part now = sees_roots t whole hs part now.tops now.alone now.back now.goes

  -- so it is told with the strength that its node keeps
  pub strong_tops : (hs : List Happening) → Part t whole hs → Tops hs → TracesStrengths t.places (f_at t hs) (tr_at t hs)
  strong_tops hs part now n k up l live top =
      let it = now.tops n k up l live top in
      let me : it.0.me ≡ l.me = item_is seen_id (tr_at t hs).seen l.me it.0 it.1 in
      let so = all_found (IsStarted t whole hs) seen_id (tr_at t hs).seen l.me it.0 now.started it.1 (it.2.parent ∙ top) in
      let strong = lives_have_strength (so_far t hs) (part_lawful t whole hs part) n k up (record { live = l; work = work_at k l.me }) (ap (with_work k) live) in
      let there : born_at (births_of (so_far t hs)) l.me ≡ Some so.0 = subst (λ b. born_at (births_of (so_far t hs)) b ≡ Some so.0) (so.2 ∙ me) so.1 in
      let kept : born_at (births_of (so_far t hs)) l.me ≡ Some strong.born = subst (λ b. born_at (births_of (so_far t hs)) b ≡ Some strong.born) strong.is_me strong.began in
      let both : Some so.0 ≡ Some strong.born = sym there ∙ kept in
      let one : so.0 ≡ strong.born = cc in
      ap (λ o. unwrap_or (strength_set o) (place_at t.places l.me.node).strength) it.1
      ∙ (ap (λ (b : BranchId). unwrap_or it.0.strength (place_at t.places b.node).strength) (sym me) ∙ (so.3 ∙ (ap (λ (x : Born). x.strength) one ∙ strong.is_strength)))

  -- ---- a turn

  module _ (hs : List Happening) (u : Turn) (rest : List Happening) (is : hs ++ happenings.Turn u ∷ rest ≡ t.trace) (now : Tops hs) where
    open at_turn t whole hs u rest is use {s as s0, part as part0, lawful as lawful0, f as f0, g as f1, may, k}

    pub sees : SeesRoots f0 (tr_at t hs)
    sees = seen_roots hs part0 now

    before : Before u.input k
    before = before_so t.places t.commands t.of_a_script.each f0 (events_of s0) (births_of s0) (run_births s0 lawful0) (run_roots s0 lawful0) u k may.1

    brings : Brings u.input k
    brings = record {
      free = before.free;
      asked = before.asked;
      prepared = before.prepared;
      rolled = λ from to came. asked_parent (births_of s0) k (nodes_name_the_born s0 lawful0 u.node k may.1.up) from to
          (came_so (GoesSo (Began (births_of s0))) f0 (messages_are_of_neighbors s0 lawful0) k u.node u.input u.took may.1.comes from to kinds.Rollback came);
    }

    rests : NodeRests k
    rests = subst (λ o. IfSome o NodeRests) may.1.up (run_roots s0 lawful0 u.node)

    goes_after : RootGoes (draft_of (place_at t.places u.node) k u.input).after.sessions (draft_of (place_at t.places u.node) k u.input).after.lives
    goes_after = turn_goes (place_at t.places u.node) k u.input (serves t.places f0 u k may.1).step brings rests (now.goes u.node k may.1.up)

    here_after : node_at f1 u.node ≡ kept_after u.cut (Some (turn_of (place_at t.places u.node) k u.input))
    here_after = (turn_here t.places t.commands f0 (run_stands s0 lawful0).0.even u k may.1.up).0

    goes_on : (n : ℕ) (j : NodeState) → node_at f1 n ≡ Some j → RootGoes j.sessions j.lives
    unfolding turn_of
    goes_on n j up = elim (cases_eq u.node n) [
      | inr other ↦ now.goes n j (sym (turn_elsewhere t.places t.commands f0 (run_stands s0 lawful0).0.even u n other).0 ∙ up)
      | inl here ↦ by u.cut (sym here_after ∙ subst (λ m. node_at f1 m ≡ Some j) (sym here) up)
    ]
      where
        by : (cut : Bool) → kept_after cut (Some (turn_of (place_at t.places u.node) k u.input)) ≡ Some j → RootGoes j.sessions j.lives
        by true there = absurd cc
        by false there = (let it : (draft_of (place_at t.places u.node) k u.input).after ≡ j = cc in subst (λ (i : NodeState). RootGoes i.sessions i.lives) it goes_after)

    pub turn_tops : Siteless t whole hs u rest is now.tops sees now.counts now.born now.alone now.goes → Tops (hs ++ happenings.Turn u ∷ [])
    turn_tops siteless =
        tops_so (hs ++ happenings.Turn u ∷ []) f1 (trail_after t.places f0 (tr_at t hs) (happenings.Turn u)) (sym (one_on t hs (happenings.Turn u))) (sym (trail_one_on t hs (happenings.Turn u)))
        (record {
          tops = tops_on t whole hs u rest is now.tops sees now.counts now.born now.plans;
          goes = goes_on;
          counts = counts_on t whole hs u rest is sees now.counts now.born;
          booted = booted_on t whole hs u rest is sees now.counts now.born now.booted;
          ordered = ordered_on t whole hs u rest is sees now.counts now.born now.ordered;
          born = born_on t whole hs u rest is sees now.counts now.born;
          alone = alone_on t whole hs u rest is sees now.counts now.born now.alone;
          back = back_on t whole hs u rest is now.tops sees now.counts now.born now.alone now.goes siteless now.back;
          plans = plans_on t whole hs u rest is (born_on t whole hs u rest is sees now.counts now.born) now.plans;
          started = started_on t whole hs u rest is sees now.counts now.born now.started;
        })
