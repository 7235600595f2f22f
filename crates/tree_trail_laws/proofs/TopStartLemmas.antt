-- A node that starts keeps what is told of roots: it has none, and its sessions are fresh.
use Rattle.std.proofs.Common.{◌≡◌, ◌≢◌, ℕ, zero, suc, ◌+◌, ◌==◌, ◌≤◌, ◌⊎◌, false, filter, length, replicate, slice_get, unwrap_or, List, [], ◌∷◌, ◌++◌, Some, None, inl, inr, refl, sym, ap, subst, ◌∙◌, arith}
use Rattle.std.specs.List.{AllByRecursion}
use Rattle.std.proofs.lemmas.Bool.{and_left, and_right, ne_eqb, cases_eq}
use Rattle.node_rules.specs.Data.{Live, RedoRecord}
use Rattle.node_rules.specs.NodeState.{NodeState, live_at}
use Rattle.node_rules.specs.Sessions.{fresh_session, session_at}
use Rattle.node_rules.specs.Turn.{start_of}
use Rattle.run_rules.specs.Branches.{Seen, Trail}
use Rattle.run_rules.specs.Data.{Happening}
use Rattle.run_rules.specs.Data.happenings
use Rattle.run_rules.specs.Facts.{Facts, node_at, records_at, with_boot, facts_after}
use Rattle.run_rules.specs.Lawful.{MayHappen, boots, History, IsLawfulRun}
use Rattle.run_rules.specs.Trail.{begun_in, trail_after}
use Rattle.run_rules.proofs.AtNodeLemmas.{start_elsewhere, start_here}
use Rattle.run_rules.proofs.BootLemmas.{boots_started}
use Rattle.run_base_laws.proofs.EventsStandLemmas.{run_stands}
use Rattle.run_rules.proofs.ListLemmas.{all_weaker}
use Rattle.tree_laws.proofs.PrefixLemmas.{so_far, f_at, one_on}
use Rattle.tree_laws.proofs.TimeLemmas.{part_of, part_lawful, may_of}
use Rattle.tree_trail_laws.specs.SeenLaws.{TracesTops}
use Rattle.tree_trail_laws.proofs.MomentLemmas.{tr_at, trail_one_on}
use Rattle.tree_trail_laws.proofs.TopBackLemmas.{IsBack, Back}
use Rattle.tree_trail_laws.proofs.TopBirthLemmas.{IsBorn, Counts, Booted, born_more, IsStarted, started_more}
use Rattle.tree_trail_laws.proofs.TopListLemmas.{Alone, is_of, count_none, Ordered}
use Rattle.tree_trail_laws.proofs.TopNodeLemmas.{RootGoes}
use Rattle.tree_trail_laws.proofs.TopTurnLemmas.{Tops, tops_so}

-- a node that starts has fresh sessions
fresh_slice : (m i : ℕ) → unwrap_or (slice_get (replicate m fresh_session) i) fresh_session ≡ fresh_session
fresh_slice zero i = refl
fresh_slice (suc m) zero = refl
fresh_slice (suc m) (suc i) = fresh_slice m i

fresh_at : (n : ℕ) → session_at (replicate 64 fresh_session) n ≡ fresh_session
fresh_at zero = refl
fresh_at (suc i) = fresh_slice 64 i

pub started_session : (rs : List RedoRecord) (n : ℕ) → session_at (start_of rs).sessions n ≡ fresh_session
unfolding start_of
started_session rs n = fresh_at n

start_dead : (rs : List RedoRecord) (l : Live) → live_at (start_of rs) l.me ≡ Some l → ⊥
unfolding start_of
start_dead rs l at = absurd cc

pub started_goes : (rs : List RedoRecord) → RootGoes (start_of rs).sessions (start_of rs).lives
started_goes rs m b root = absurd (let none = ap (λ s. s.root) (started_session rs m) in cc (none, root))

module _ (t : History) (whole : IsLawfulRun t) where
  -- a node starts
  module _ (hs : List Happening) (n boot : ℕ) (rest : List Happening) (is : hs ++ happenings.Started n boot ∷ rest ≡ t.trace) (now : Tops t whole hs) where
    abbrev f0 : Facts
    f0 = f_at t hs

    abbrev tr0 : Trail
    tr0 = tr_at t hs

    abbrev f1 : Facts
    f1 = facts_after t.places t.commands f0 (happenings.Started n boot)

    abbrev tr1 : Trail
    tr1 = trail_after t.places f0 tr0 (happenings.Started n boot)

    lawful0 : IsLawfulRun (so_far t hs)
    lawful0 = part_lawful t whole hs (part_of t whole hs (happenings.Started n boot) rest is)

    may : MayHappen t.places t.commands f0 (happenings.Started n boot)
    may = may_of t whole hs (happenings.Started n boot) rest is

    here : (node_at f1 n ≡ Some (start_of (with_boot f0 n boot))) × (records_at f1 n ≡ with_boot f0 n boot)
    here = start_here t.places t.commands f0 (run_stands (so_far t hs) lawful0).0.even n boot may.there.0 (omega (arith, may.there.1, (run_stands (so_far t hs) lawful0).1.many))

    elsewhere : (m : ℕ) → n ≢ m → (node_at f1 m ≡ node_at f0 m) × (records_at f1 m ≡ records_at f0 m)
    elsewhere m other = start_elsewhere t.places t.commands f0 (run_stands (so_far t hs) lawful0).0.even n boot m other

    -- a node that is up after it was so, or it is this one
    either_up : (m : ℕ) (j : NodeState) → node_at f1 m ≡ Some j → ((n ≢ m) × (node_at f0 m ≡ Some j)) ⊎ ((n ≡ m) × (j ≡ start_of (with_boot f0 n boot)))
    either_up m j up = elim (cases_eq n m) [
      | inr other ↦ inl (other, sym (elsewhere m other).0 ∙ up)
      | inl same_one ↦ (let both : Some (start_of (with_boot f0 n boot)) ≡ Some j = sym here.0 ∙ subst (λ i. node_at f1 i ≡ Some j) (sym same_one) up in let it : start_of (with_boot f0 n boot) ≡ j = cc in inr (same_one, sym it))
    ]

    same_seen : tr1.seen ≡ tr0.seen
    unfolding trail_after
    same_seen = refl

    same_plans : tr1.plans ≡ tr0.plans
    unfolding trail_after
    same_plans = refl

    boots_up : (m : ℕ) → boots (records_at f0 m) ≤ boots (records_at f1 m)
    boots_up m = elim (cases_eq n m) [
      | inr other ↦ subst (λ rs. boots (records_at f0 m) ≤ boots rs) (sym (elsewhere m other).1) (omega arith)
      | inl same_one ↦ (let more : boots (with_boot f0 n boot) ≡ boots (records_at f0 n) + 1 = boots_started (records_at f0 n) boot in
          let at : boots (records_at f1 n) ≡ boots (records_at f0 n) + 1 = ap boots here.1 ∙ more in
          subst (λ i. boots (records_at f0 i) ≤ boots (records_at f1 i)) same_one (omega (arith, at)))
    ]

    -- no root of this start is told yet
    none_yet : (session : ℕ) → session ≤ 64 → AllByRecursion (λ s. is_of n (boots (records_at f1 n)) session s ≡ false) tr0.seen
    none_yet session low = all_weaker (Booted t whole f0) (λ s. is_of n (boots (records_at f1 n)) session s ≡ false) (λ s so. old s so) tr0.seen now.booted
      where
        old : (s : Seen) → Booted t whole f0 s → is_of n (boots (records_at f1 n)) session s ≡ false
        old s so = elim (cases_eq s.me.node n) [
          | inr other ↦ and_left (s.me.node == n) _ (ne_eqb s.me.node n other)
          | inl node ↦ elim (cases_eq s.me.session session) [
            | inr other ↦ and_right (s.me.node == n) _ (and_right (s.me.boot == boots (records_at f1 n)) (s.me.session == session) (ne_eqb s.me.session session other))
            | inl number ↦ (let more : boots (with_boot f0 n boot) ≡ boots (records_at f0 n) + 1 = boots_started (records_at f0 n) boot in
                let at : boots (records_at f1 n) ≡ boots (records_at f0 n) + 1 = ap boots here.1 ∙ more in
                let small : s.me.boot ≤ boots (records_at f0 n) = subst (λ i. s.me.boot ≤ boots (records_at f0 i)) node (so (omega (arith, number, low))) in
                and_right (s.me.node == n) _ (and_left (s.me.boot == boots (records_at f1 n)) (s.me.session == session) (ne_eqb s.me.boot (boots (records_at f1 n)) (λ equal. omega (arith, at, small, equal)))))
          ]
        ]

    start_counts : Counts t whole f1 tr1
    start_counts m j up session range = ap (λ xs. length (filter (is_of m (boots (records_at f1 m)) session) xs)) same_seen ∙ elim (either_up m j up) [
      | inl was ↦ ap (λ rs. begun_in tr0 m (boots rs) session) (elsewhere m was.0).1 ∙ now.counts m j was.1 session range
      | inr new ↦ subst (λ i. begun_in tr0 i (boots (records_at f1 i)) session ≡ (session_at j.sessions session).seq) new.0
          (count_none (is_of n (boots (records_at f1 n)) session) tr0.seen (none_yet session range.1) ∙ sym (ap (λ (i : NodeState). (session_at i.sessions session).seq) new.1 ∙ ap (λ s. s.seq) (started_session (with_boot f0 n boot) session)))
    ]

    start_told : TracesTops f1 tr1
    unfolding trail_after
    start_told m j up l live top = elim (either_up m j up) [
      | inl was ↦ (let it = now.tops m j was.1 l live top in (it.0, it.1, it.2, it.3))
      | inr new ↦ absurd (start_dead (with_boot f0 n boot) l (subst (λ i. live_at i l.me ≡ Some l) new.1 live))
    ]

    start_back : (s : Seen) → Back f0 s → Back f1 s
    start_back s so live top = by (so live top)
      where
        by : IsBack f0 s.me → IsBack f1 s.me
        by (inr it) = absurd (let settled = may.settled.upright in let some = it.0 in cc (settled, some))
        by (inl it) = elim (cases_eq n s.me.node) [
          | inr other ↦ inl (it.0, it.1, (elsewhere s.me.node other).0 ∙ it.2, it.3)
          | inl same_one ↦ absurd (let down : node_at f0 s.me.node ≡ None = subst (λ i. node_at f0 i ≡ None) same_one may.down in let there = it.2 in cc (down, there))
        ]

    pub start_tops : Tops t whole (hs ++ happenings.Started n boot ∷ [])
    start_tops =
        tops_so t whole (hs ++ happenings.Started n boot ∷ []) f1 tr1 (sym (one_on t hs (happenings.Started n boot))) (sym (trail_one_on t hs (happenings.Started n boot))) (record {
          tops = start_told;
          goes = λ m j up. elim (either_up m j up) [ inl was ↦ now.goes m j was.1 | inr new ↦ subst (λ (i : NodeState). RootGoes i.sessions i.lives) (sym new.1) (started_goes (with_boot f0 n boot)) ];
          counts = start_counts;
          booted = subst (AllByRecursion (Booted t whole f1)) (sym same_seen) (all_weaker (Booted t whole f0) (Booted t whole f1) (λ s so low. omega (arith, so low, boots_up s.me.node)) tr0.seen now.booted);
          ordered = subst (AllByRecursion (Ordered tr1)) (sym same_seen)
              (all_weaker (Ordered tr0) (Ordered tr1) (λ s so low. subst (λ xs. s.me.seq ≤ length (filter (is_of s.me.node s.me.boot s.me.session) xs)) (sym same_seen) (so low)) tr0.seen now.ordered);
          born = subst (AllByRecursion (λ s. IsBorn t whole (hs ++ happenings.Started n boot ∷ []) s.me)) (sym same_seen)
              (all_weaker (λ s. IsBorn t whole hs s.me) (λ s. IsBorn t whole (hs ++ happenings.Started n boot ∷ []) s.me) (λ s its. born_more t whole hs (happenings.Started n boot) rest is s.me its) tr0.seen now.born);
          alone = subst Alone (sym same_seen) now.alone;
          back = subst (AllByRecursion (Back f1)) (sym same_seen) (all_weaker (Back f0) (Back f1) start_back tr0.seen now.back);
          plans = subst (AllByRecursion (λ x. IsBorn t whole (hs ++ happenings.Started n boot ∷ []) x.root)) (sym same_plans)
              (all_weaker (λ x. IsBorn t whole hs x.root) (λ x. IsBorn t whole (hs ++ happenings.Started n boot ∷ []) x.root) (λ x its. born_more t whole hs (happenings.Started n boot) rest is x.root its) tr0.plans now.plans);
          started = subst (AllByRecursion (IsStarted t whole (hs ++ happenings.Started n boot ∷ []))) (sym same_seen)
              (all_weaker (IsStarted t whole hs) (IsStarted t whole (hs ++ happenings.Started n boot ∷ [])) (λ s its. started_more t whole hs (happenings.Started n boot) rest is s its) tr0.seen now.started);
        })
