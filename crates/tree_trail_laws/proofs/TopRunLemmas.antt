-- What each happening keeps of what is told of roots, where a root that ends without a site has a plan without one.
use Rattle.std.proofs.Common.{◌≡◌, ℕ, ◌≤◌, filter, length, unwrap_or, List, [], ◌∷◌, ◌++◌, Option, Some, inl, inr, refl, sym, ap, subst, ◌∙◌}
use Rattle.std.specs.List.{AllByRecursion}
use Rattle.node_rules.specs.Data.{BranchId, RedoRecord}
use Rattle.node_rules.specs.Data.records
use Rattle.node_rules.specs.Words.{numbered}
use Rattle.node_rules.specs.NodeState.{NodeState}
use Rattle.node_rules.specs.Sessions.{session_at}
use Rattle.node_rules.specs.Turn.{start_of, made}
use Rattle.run_rules.specs.Branches.{CommitPlan, plan_at, Seen, Trail, seen_at}
use Rattle.run_rules.specs.Data.{Turn, Happening}
use Rattle.run_rules.specs.Data.happenings
use Rattle.run_rules.specs.Facts.{Facts, first_facts, flat, node_at, records_at, facts_after, facts_of}
use Rattle.run_rules.specs.Lawful.{boots, History, IsLawfulRun}
use Rattle.run_rules.specs.Trail.{begun_in, trail_after, trail_of}
use Rattle.run_base_laws.proofs.EventsStandLemmas.{first_node}
use Rattle.run_rules.proofs.ListLemmas.{all_weaker}
use Rattle.tree_laws.proofs.PrefixLemmas.{f_at, one_on}
use Rattle.tree_laws.proofs.TimeLemmas.{part_of}
use Rattle.tree_trail_laws.proofs.MomentLemmas.{tr_at, trail_one_on}
use Rattle.tree_trail_laws.proofs.StartLemmas.{none_made}
use Rattle.tree_trail_laws.proofs.TopBackLemmas.{IsBack, Back, Siteless}
use Rattle.tree_trail_laws.proofs.TopBirthLemmas.{IsBorn, Booted, born_more, IsStarted, started_more}
use Rattle.tree_trail_laws.proofs.TopListLemmas.{Alone, is_of, Ordered}
use Rattle.tree_trail_laws.proofs.TopNodeLemmas.{RootGoes}
use Rattle.tree_trail_laws.proofs.TopTurnLemmas.{Tops, tops_so, seen_roots, turn_tops}
use Rattle.tree_trail_laws.proofs.TopStopLemmas.{stop_tops}
use Rattle.tree_trail_laws.proofs.TopStartLemmas.{started_goes, started_session, start_tops}

module _ (t : History) (whole : IsLawfulRun t) where
  -- ---- other happenings

  -- nothing happens to nodes, disks and branches
  module _ (hs : List Happening) (h : Happening) (rest : List Happening) (is : hs ++ h ∷ rest ≡ t.trace) (now : Tops t whole hs) where
    born_later : (b : BranchId) → IsBorn t whole hs b → IsBorn t whole (hs ++ h ∷ []) b
    born_later b its = born_more t whole hs h rest is b its

    still_tops : (f : Facts) (tr : Trail) → f ≡ f_at t (hs ++ h ∷ []) → tr ≡ tr_at t (hs ++ h ∷ []) → f.nodes ≡ (f_at t hs).nodes → f.records ≡ (f_at t hs).records → f.node_to_stop ≡ (f_at t hs).node_to_stop
        → tr.seen ≡ (tr_at t hs).seen → tr.plans ≡ (tr_at t hs).plans → Tops t whole (hs ++ h ∷ [])
    still_tops f tr facts trail nodes disks stops seen plans =
        let up : (n : ℕ) → node_at f n ≡ node_at (f_at t hs) n = (λ n. ap (λ (xs : List (Option NodeState)). flat (numbered xs n)) nodes) in
        let disk : (n : ℕ) → records_at f n ≡ records_at (f_at t hs) n = (λ n. ap (λ (xs : List (List RedoRecord)). unwrap_or (numbered xs n) []) disks) in
        tops_so t whole (hs ++ h ∷ []) f tr facts trail (record {
          tops = λ n k at l live top. (let it = now.tops n k (sym (up n) ∙ at) l live top in
              (it.0, ap (λ xs. item_of xs l.me) seen ∙ it.1, it.2, (λ working. ap (λ xs. plan_of xs l.me) plans ∙ it.3 working)));
          goes = λ n k at. now.goes n k (sym (up n) ∙ at);
          counts = λ n k at session range.
              ap (λ xs. length (filter (is_of n (boots (records_at f n)) session) xs)) seen ∙ (ap (λ rs. begun_in (tr_at t hs) n (boots rs) session) (disk n) ∙ now.counts n k (sym (up n) ∙ at) session range);
          booted = subst (AllByRecursion (Booted t whole f)) (sym seen) (all_weaker (Booted t whole (f_at t hs)) (Booted t whole f) (λ s so low. subst (λ rs. s.me.boot ≤ boots rs) (sym (disk s.me.node)) (so low)) (tr_at t hs).seen now.booted);
          ordered = subst (AllByRecursion (Ordered tr)) (sym seen) (all_weaker (Ordered (tr_at t hs)) (Ordered tr)
              (λ s so low. subst (λ xs. s.me.seq ≤ length (filter (is_of s.me.node s.me.boot s.me.session) xs)) (sym seen) (so low)) (tr_at t hs).seen now.ordered);
          born = subst (AllByRecursion (λ s. IsBorn t whole (hs ++ h ∷ []) s.me)) (sym seen) (all_weaker (λ s. IsBorn t whole hs s.me) (λ s. IsBorn t whole (hs ++ h ∷ []) s.me) (λ s its. born_later s.me its) (tr_at t hs).seen now.born);
          alone = subst Alone (sym seen) now.alone;
          back = subst (AllByRecursion (Back f)) (sym seen) (all_weaker (Back (f_at t hs)) (Back f) (λ s so live top. back_same f up stops s.me (so live top)) (tr_at t hs).seen now.back);
          plans = subst (AllByRecursion (λ x. IsBorn t whole (hs ++ h ∷ []) x.root)) (sym plans)
              (all_weaker (λ x. IsBorn t whole hs x.root) (λ x. IsBorn t whole (hs ++ h ∷ []) x.root) (λ x its. born_later x.root its) (tr_at t hs).plans now.plans);
          started = subst (AllByRecursion (IsStarted t whole (hs ++ h ∷ []))) (sym seen)
              (all_weaker (IsStarted t whole hs) (IsStarted t whole (hs ++ h ∷ [])) (λ s its. started_more t whole hs h rest is s its) (tr_at t hs).seen now.started);
        })
      where
        item_of : List Seen → BranchId → Option Seen
        item_of xs b = seen_at (record { moment = 0; seen = xs; origins = []; plans = [] }) b

        plan_of : List CommitPlan → BranchId → Option CommitPlan
        plan_of xs b = plan_at (record { moment = 0; seen = []; origins = []; plans = xs }) b

        back_same : (f : Facts) → ((n : ℕ) → node_at f n ≡ node_at (f_at t hs) n) → f.node_to_stop ≡ (f_at t hs).node_to_stop → (b : BranchId) → IsBack (f_at t hs) b → IsBack f b
        back_same f up stops b (inl it) = inl (it.0, it.1, up b.node ∙ it.2, it.3)
        back_same f up stops b (inr it) = inr (stops ∙ it.0, up b.node ∙ it.1)

  -- ---- every happening

  -- a root that ends without a site in a turn has a plan without one
  abbrev pub EndsSiteless : List Happening → Type 0
  EndsSiteless hs = (u : Turn) (rest : List Happening) (is : hs ++ happenings.Turn u ∷ rest ≡ t.trace) (now : Tops t whole hs)
      → Siteless t whole hs u rest is now.tops (seen_roots t whole hs (part_of t whole hs (happenings.Turn u) rest is) now) now.counts now.born now.alone now.goes

  pub tops_go_on : (hs : List Happening) (h : Happening) (rest : List Happening) → hs ++ h ∷ rest ≡ t.trace → EndsSiteless hs → Tops t whole hs → Tops t whole (hs ++ h ∷ [])
  unfolding facts_after trail_after
  tops_go_on hs (happenings.Turn u) rest is siteless now = turn_tops t whole hs u rest is now (siteless u rest is now)
  tops_go_on hs (happenings.Stopped n) rest is siteless now = stop_tops t whole hs n rest is now
  tops_go_on hs (happenings.Started n boot) rest is siteless now = start_tops t whole hs n boot rest is now
  tops_go_on hs (happenings.Begun c) rest is siteless now = still_tops hs (happenings.Begun c) rest is now _ _ (sym (one_on t hs (happenings.Begun c))) (sym (trail_one_on t hs (happenings.Begun c))) refl refl refl refl refl
  tops_go_on hs (happenings.Cut x y) rest is siteless now = still_tops hs (happenings.Cut x y) rest is now _ _ (sym (one_on t hs (happenings.Cut x y))) (sym (trail_one_on t hs (happenings.Cut x y))) refl refl refl refl refl
  tops_go_on hs (happenings.Join x y) rest is siteless now = still_tops hs (happenings.Join x y) rest is now _ _ (sym (one_on t hs (happenings.Join x y))) (sym (trail_one_on t hs (happenings.Join x y))) refl refl refl refl refl
  tops_go_on hs (happenings.Lost x) rest is siteless now = still_tops hs (happenings.Lost x) rest is now _ _ (sym (one_on t hs (happenings.Lost x))) (sym (trail_one_on t hs (happenings.Lost x))) refl refl refl refl refl

  pub first_tops : Tops t whole []
  unfolding start_of facts_of trail_of
  first_tops = record {
    tops = λ n k up l live top. absurd (none_made t.places n k l up live);
    goes = λ n k up. first_goes n k up;
    counts = λ n k up session range. first_count n k up session;
    booted = tt;
    ordered = tt;
    born = tt;
    alone = tt;
    back = tt;
    plans = tt;
    started = tt;
  }
    where
      first_goes : (n : ℕ) (k : NodeState) → node_at (first_facts t.places) n ≡ Some k → RootGoes k.sessions k.lives
      first_goes n =
          first_node (λ o. (k : NodeState) → o ≡ Some k → RootGoes k.sessions k.lives) (λ k none. absurd cc)
          (λ k is. (let it : made ≡ k = cc in subst (λ (i : NodeState). RootGoes i.sessions i.lives) it (started_goes (records.Boot 1 ∷ [])))) t.places n

      first_count : (n : ℕ) (k : NodeState) → node_at (first_facts t.places) n ≡ Some k → (session : ℕ) → 0 ≡ (session_at k.sessions session).seq
      first_count n =
          first_node (λ o. (k : NodeState) → o ≡ Some k → (session : ℕ) → 0 ≡ (session_at k.sessions session).seq) (λ k none. absurd cc)
          (λ k is session. (let it : made ≡ k = cc in subst (λ (i : NodeState). 0 ≡ (session_at i.sessions session).seq) it (sym (ap (λ s. s.seq) (started_session (records.Boot 1 ∷ []) session))))) t.places n
