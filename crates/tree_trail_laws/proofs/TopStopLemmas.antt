-- A node that stops keeps what is told of roots: its live branches are dropped.
use Rattle.std.proofs.Common.{◌≡◌, ◌≢◌, ℕ, ◌==◌, ◌≤◌, ◌&&◌, Bool, true, false, if◌then◌else◌, is_none, List, [], ◌∷◌, ◌++◌, Option, Some, None, inl, inr, refl, sym, ap, subst, ◌∙◌}
use Rattle.std.specs.List.{AllByRecursion}
use Rattle.std.proofs.lemmas.Bool.{and_from, eq-eqb}
use Rattle.tran_ids.proofs.ListedLemmas.{item_is}
use Rattle.node_rules.specs.Data.{BranchId, Live}
use Rattle.node_rules.specs.NodeState.{NodeState, live_id}
use Rattle.run_rules.specs.Branches.{Exit, Dropped, Seen, Trail, seen_id, is_live, is_live_at}
use Rattle.run_rules.specs.Data.{Happening}
use Rattle.run_rules.specs.Data.happenings
use Rattle.run_rules.specs.Facts.{Facts, node_at, records_at, facts_after}
use Rattle.run_rules.specs.Lawful.{MayHappen, MayStop, boots, History, IsLawfulRun}
use Rattle.run_rules.specs.Trail.{begun_in, stopped_by, trail_after}
use Rattle.run_rules.proofs.AtNodeLemmas.{stop_elsewhere}
use Rattle.run_base_laws.proofs.EventsStandLemmas.{run_stands, ids_name_their_node}
use Rattle.run_rules.proofs.ListLemmas.{all_weaker, all_map}
use Rattle.run_base_laws.proofs.OwnLemmas.{all_found}
use Rattle.tree_laws.proofs.PrefixLemmas.{so_far, f_at, one_on}
use Rattle.tree_laws.proofs.TimeLemmas.{Part, part_of, part_lawful, may_of}
use Rattle.tree_trail_laws.specs.SeenLaws.{TracesTops}
use Rattle.tree_trail_laws.proofs.LowerRunLemmas.{stopped_other, not_stopped, stop_still}
use Rattle.tree_trail_laws.proofs.MomentLemmas.{tr_at, trail_one_on}
use Rattle.tree_trail_laws.proofs.SeenLemmas.{item_mapped}
use Rattle.tree_trail_laws.proofs.TopBackLemmas.{IsBack, Back}
use Rattle.tree_trail_laws.proofs.TopBirthLemmas.{IsBorn, Booted, born_more, IsStarted, started_more}
use Rattle.tree_trail_laws.proofs.TopListLemmas.{Alone, alone_map, is_of, count_map, Ordered}
use Rattle.tree_trail_laws.proofs.TopTurnLemmas.{Tops, tops_so}
use Rattle.tree_trail_laws.proofs.SeenLemmas.{stopped_me}

module _ (t : History) (whole : IsLawfulRun t) where
  -- a node stops
  module _ (hs : List Happening) (n : ℕ) (rest : List Happening) (is : hs ++ happenings.Stopped n ∷ rest ≡ t.trace) (now : Tops t whole hs) where
    abbrev f0 : Facts
    f0 = f_at t hs

    abbrev tr0 : Trail
    tr0 = tr_at t hs

    abbrev f1 : Facts
    f1 = facts_after t.places t.commands f0 (happenings.Stopped n)

    abbrev tr1 : Trail
    tr1 = trail_after t.places f0 tr0 (happenings.Stopped n)

    part0 : Part t whole hs
    part0 = part_of t whole hs (happenings.Stopped n) rest is

    lawful0 : IsLawfulRun (so_far t hs)
    lawful0 = part_lawful t whole hs part0

    may : MayHappen t.places t.commands f0 (happenings.Stopped n)
    may = may_of t whole hs (happenings.Stopped n) rest is

    up_before : (m : ℕ) (j : NodeState) → node_at f1 m ≡ Some j → node_at f0 m ≡ Some j
    unfolding facts_after
    up_before m j up = stop_still t whole f0 n m j up

    not_up : (j : NodeState) → node_at f1 n ≡ Some j → ⊥
    unfolding facts_after
    not_up j up = not_stopped t whole f0.nodes n j up

    disks_same : (m : ℕ) → records_at f1 m ≡ records_at f0 m
    unfolding facts_after
    disks_same m = refl

    elsewhere : (m : ℕ) → n ≢ m → node_at f1 m ≡ node_at f0 m
    elsewhere m other = (stop_elsewhere t.places t.commands f0 (run_stands (so_far t hs) lawful0).0.even n m other).0

    stops_none : f1.node_to_stop ≡ None
    unfolding facts_after
    stops_none = refl

    -- one that is told to be live after it is of another node
    left_alone : (s : Seen) → (stopped_by n s).exit ≡ None → (s.exit ≡ None) × (s.me.node ≢ n)
    left_alone s = by (is_live_at n s) refl
      where
        live_of : (o : Option Exit) → o ≡ None → is_live_at n s ≡ false → s.exit ≡ o → s.me.node ≢ n
        live_of o none not at node = (let yes : is_live_at n s ≡ true = and_from (s.me.node == n) (is_live s) (eq-eqb s.me.node n node) (ap is_none (at ∙ none)) in absurd (cc (yes, not)))

        by : (q : Bool) → is_live_at n s ≡ q → (if q then record s { exit = Some Dropped } else s).exit ≡ None → (s.exit ≡ None) × (s.me.node ≢ n)
        by true yes_so none = absurd cc
        by false not none = (none, live_of s.exit none not refl)

    parent_same : (s : Seen) → (stopped_by n s).parent ≡ s.parent
    parent_same s = by (is_live_at n s)
      where
        by : (q : Bool) → (if q then record s { exit = Some Dropped } else s).parent ≡ s.parent
        by true = refl
        by false = refl

    stop_back : (s : Seen) → Back f0 s → Back f1 (stopped_by n s)
    stop_back s so live top =
        let left = left_alone s live in
        subst (IsBack f1) (sym (stopped_me n s)) (moved (so left.0 (sym (parent_same s) ∙ top)) left.1)
      where
        moved : IsBack f0 s.me → s.me.node ≢ n → IsBack f1 s.me
        moved (inl it) other = inl (it.0, it.1, elsewhere s.me.node (λ same_one. other (sym same_one)) ∙ it.2, it.3)
        moved (inr it) other = absurd (may_stop f0.node_to_stop refl may.1)
          where
            may_stop : (o : Option ℕ) → f0.node_to_stop ≡ o → MayStop f0 n o → ⊥
            may_stop None none ok = absurd (let some = it.0 in cc (none, some))
            may_stop (Some m) some ok = (let both : Some m ≡ Some s.me.node = sym some ∙ it.0 in let here : m ≡ s.me.node = cc in other (sym here ∙ ok.1))

    told : TracesTops f1 tr1
    unfolding trail_after
    told m j up l live top =
        let it = now.tops m j (up_before m j up) l live top in
        let own : l.me.node ≡ m = all_found (λ (x : Live). x.me.node ≡ m) live_id j.lives l.me l (ids_name_their_node (so_far t hs) lawful0 m j (up_before m j up)).lives live in
        let me : it.0.me ≡ l.me = item_is seen_id tr0.seen l.me it.0 it.1 in
        let other : it.0.me.node ≢ n = (λ same_one. not_up j (subst (λ i. node_at f1 i ≡ Some j) (sym own ∙ (sym (ap (λ (b : BranchId). b.node) me) ∙ same_one)) up)) in
        (it.0, item_mapped seen_id (stopped_by n) (stopped_me n) tr0.seen l.me it.0 it.1 ∙ ap Some (stopped_other t whole n it.0 other), it.2, it.3)

    -- what is so of each as it was
    mapped : (P : Seen → Type 0) → ((s : Seen) → P s → P (stopped_by n s)) → AllByRecursion P tr0.seen → AllByRecursion P tr1.seen
    unfolding trail_after
    mapped P keeps all = all_map P (stopped_by n) tr0.seen (all_weaker P (λ s. P (stopped_by n s)) keeps tr0.seen all)

    counted : (m boot session : ℕ) → begun_in tr1 m boot session ≡ begun_in tr0 m boot session
    unfolding trail_after
    counted m boot session = count_map (is_of m boot session) (stopped_by n) (λ s. ap (λ (b : BranchId). (b.node == m) && ((b.boot == boot) && (b.session == session))) (stopped_me n s)) tr0.seen

    backs : AllByRecursion (Back f1) tr1.seen
    unfolding trail_after
    backs = all_map (Back f1) (stopped_by n) tr0.seen (all_weaker (Back f0) (λ s. Back f1 (stopped_by n s)) stop_back tr0.seen now.back)

    alones : Alone tr1.seen
    unfolding trail_after
    alones = alone_map (stopped_by n) (stopped_me n) tr0.seen now.alone

    same_plans : tr1.plans ≡ tr0.plans
    unfolding trail_after
    same_plans = refl

    stopped_started : (s : Seen) → IsStarted t whole (hs ++ happenings.Stopped n ∷ []) s → IsStarted t whole (hs ++ happenings.Stopped n ∷ []) (stopped_by n s)
    stopped_started s its = by (is_live_at n s)
      where
        by : (q : Bool) → IsStarted t whole (hs ++ happenings.Stopped n ∷ []) (if q then record s { exit = Some Dropped } else s)
        by true = its
        by false = its

    pub stop_tops : Tops t whole (hs ++ happenings.Stopped n ∷ [])
    stop_tops =
        tops_so t whole (hs ++ happenings.Stopped n ∷ []) f1 tr1 (sym (one_on t hs (happenings.Stopped n))) (sym (trail_one_on t hs (happenings.Stopped n))) (record {
          tops = told;
          goes = λ m j up. now.goes m j (up_before m j up);
          counts = λ m j up session range. ap (λ rs. begun_in tr1 m (boots rs) session) (disks_same m) ∙ (counted m (boots (records_at f0 m)) session ∙ now.counts m j (up_before m j up) session range);
          booted = mapped (Booted t whole f1) (λ s so. subst (λ (b : BranchId). b.session ≤ 64 → b.boot ≤ boots (records_at f1 b.node)) (sym (stopped_me n s)) so)
              (all_weaker (Booted t whole f0) (Booted t whole f1) (λ s so low. subst (λ rs. s.me.boot ≤ boots rs) (sym (disks_same s.me.node)) (so low)) tr0.seen now.booted);
          ordered = mapped (Ordered tr1) (λ s so. subst (λ (b : BranchId). b.session ≤ 64 → b.seq ≤ begun_in tr1 b.node b.boot b.session) (sym (stopped_me n s)) so)
              (all_weaker (Ordered tr0) (Ordered tr1) (λ s so low. subst (λ c. s.me.seq ≤ c) (sym (counted s.me.node s.me.boot s.me.session)) (so low)) tr0.seen now.ordered);
          born = mapped (λ s. IsBorn t whole (hs ++ happenings.Stopped n ∷ []) s.me) (λ s its. subst (IsBorn t whole (hs ++ happenings.Stopped n ∷ [])) (sym (stopped_me n s)) its)
              (all_weaker (λ s. IsBorn t whole hs s.me) (λ s. IsBorn t whole (hs ++ happenings.Stopped n ∷ []) s.me) (λ s its. born_more t whole hs (happenings.Stopped n) rest is s.me its) tr0.seen now.born);
          alone = alones;
          back = backs;
          plans = subst (AllByRecursion (λ x. IsBorn t whole (hs ++ happenings.Stopped n ∷ []) x.root)) (sym same_plans)
              (all_weaker (λ x. IsBorn t whole hs x.root) (λ x. IsBorn t whole (hs ++ happenings.Stopped n ∷ []) x.root) (λ x its. born_more t whole hs (happenings.Stopped n) rest is x.root its) tr0.plans now.plans);
          started = mapped (IsStarted t whole (hs ++ happenings.Stopped n ∷ [])) (λ s its. stopped_started s its)
              (all_weaker (IsStarted t whole hs) (IsStarted t whole (hs ++ happenings.Stopped n ∷ [])) (λ s its. started_more t whole hs (happenings.Stopped n) rest is s its) tr0.seen now.started);
        })
