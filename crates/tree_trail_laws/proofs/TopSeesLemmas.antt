-- Where each live root is told, and each root that is told to be live is so, the transaction of a session that waits for no answer is the one that is told.
use Rattle.std.proofs.Common.{◌≡◌, ℕ, ◌+◌, ◌==◌, ◌≤◌, ◌&&◌, Bool, true, false, if◌then◌else◌, find, is_none, List, [], ◌∷◌, Option, Some, None, inl, inr, refl, sym, ap, subst, ◌∙◌, arith}
use Rattle.std.specs.List.{AllByRecursion}
use Rattle.std.proofs.lemmas.Bool.{and_parts, and_from, eqb-true, eq-eqb}
use Rattle.tran_ids.proofs.ListedLemmas.{item_is}
use Rattle.node_rules.specs.Data.{BranchId, Live}
use Rattle.node_rules.specs.declared.session.PendingCall.TheVariants as pending
use Rattle.node_rules.specs.Words.{same, item_at}
use Rattle.node_rules.specs.NodeState.{NodeState, live_id, live_at, work_at, with_work}
use Rattle.node_rules.specs.Sessions.{session_at}
use Rattle.node_rules.specs.Client.{new_root}
use Rattle.run_rules.specs.Branches.{Seen, Trail, is_live, is_live_at, is_root_of, seen_id, seen_at, root_at}
use Rattle.run_rules.specs.Data.{Happening}
use Rattle.run_rules.specs.Facts.{place_at, node_at, records_at}
use Rattle.run_rules.specs.Lawful.{boots, History, IsLawfulRun}
use Rattle.run_base_laws.specs.RunEvents.{events_of}
use Rattle.run_rules.specs.Trail.{begun_in, next_root}
use Rattle.run_base_laws.proofs.BirthRunLemmas.{run_births}
use Rattle.run_base_laws.proofs.EventsStandLemmas.{node_so, ids_name_their_node}
use Rattle.run_base_laws.proofs.FreshLemmas.{Node}
use Rattle.run_base_laws.proofs.OwnLemmas.{all_found}
use Rattle.run_base_laws.proofs.RestRunLemmas.{roots_wait}
use Rattle.run_base_laws.proofs.RootLemmas.{roots_are_of_sessions}
use Rattle.run_base_laws.proofs.TurnEventLemmas.{all_both, number_is}
use Rattle.tree_laws.proofs.TimeLemmas.{Part, part_lawful}
use Rattle.tree_trail_laws.specs.SeenLaws.{IsSeenRoot, TracesTops, SeesRoots}
use Rattle.tree_trail_laws.specs.TopLaws.{NamesNext}
use Rattle.tree_trail_laws.proofs.LowerRunLemmas.{lower_at}
use Rattle.tree_trail_laws.proofs.MomentLemmas.{tr_at}
use Rattle.tree_trail_laws.proofs.PlanLemmas.{find_passes}
use Rattle.tree_trail_laws.proofs.TopBackLemmas.{IsBack, Back}
use Rattle.tree_trail_laws.proofs.TopBirthLemmas.{Counts}
use Rattle.tree_trail_laws.proofs.TopListLemmas.{Alone, Ordered}
use Rattle.tree_trail_laws.proofs.TopNodeLemmas.{RootGoes}
use Rattle.tree_trail_laws.proofs.TopPlanLemmas.{found_so}
use Rattle.tree_laws.proofs.AtPart.{at_part}

-- where none is found each that is told fails
none_so : (q : Seen → Bool) (xs : List Seen) (b : BranchId) (s : Seen) → find q xs ≡ None → item_at seen_id xs b ≡ Some s → q s ≡ false
none_so q [] b s none at = absurd cc
none_so q (x ∷ xs) b s none at = by (q x) refl none (same x.me b) at (none_so q xs b s)
  where
    by : (here : Bool) → q x ≡ here → (if here then Some x else find q xs) ≡ None → (mine : Bool) → (if mine then Some x else item_at seen_id xs b) ≡ Some s → (find q xs ≡ None → item_at seen_id xs b ≡ Some s → q s ≡ false) → q s ≡ false
    by true here none mine at later = absurd cc
    by false not_so none true at later = (let it : Some x ≡ Some s = at in let same_one : x ≡ s = cc in subst (λ y. q y ≡ false) same_one not_so)
    by false not_so none false at later = later none at

module _ (t : History) (whole : IsLawfulRun t) (hs : List Happening) (part : Part t whole hs) where
  open at_part t hs use {s as s0, f}

  lawful0 : IsLawfulRun s0
  lawful0 = part_lawful t whole hs part

  abbrev tr : Trail
  tr = tr_at t hs

  module _ (tops : TracesTops f tr) (alone : Alone tr.seen) (back : AllByRecursion (Back f) tr.seen) (goes : (n : ℕ) (k : NodeState) → node_at f n ≡ Some k → RootGoes k.sessions k.lives)
      (n : ℕ) (k : NodeState) (up : node_at f n ≡ Some k) (session : ℕ) where
    -- a root that is told to be live is its session's transaction
    told_live : (s : Seen) → root_at tr n session ≡ Some s → ((session_at k.sessions session).root ≡ Some s.me) × (seen_at tr s.me ≡ Some s) × ((l : Live) × (live_at k s.me ≡ Some l))
    told_live s root =
        let passes : is_root_of n session s ≡ true = find_passes (is_root_of n session) tr.seen s root in
        let parts = and_parts (is_live_at n s) (is_none s.parent && (s.me.session == session)) passes in
        let more = and_parts (s.me.node == n) (is_live s) parts.0 in
        let rest = and_parts (is_none s.parent) (s.me.session == session) parts.1 in
        let node : s.me.node ≡ n = eqb-true s.me.node n more.0 in
        let number : s.me.session ≡ session = eqb-true s.me.session session rest.1 in
        let known = found_so (λ x. Back f x × (seen_at tr x.me ≡ Some x)) (is_root_of n session) tr.seen s root (all_both (Back f) (λ x. seen_at tr x.me ≡ Some x) tr.seen back alone) in
        let there = at_node s node (known.0 (none_of s.exit more.1) (none_of s.parent rest.0)) in
        let l : Live = there.0 in
        let me : l.me ≡ s.me = item_is live_id k.lives s.me l there.1 in
        let l_live : live_at k l.me ≡ Some l = subst (λ b. live_at k b ≡ Some l) (sym me) there.1 in
        let top : l.parent ≡ None = is_top s l me l_live known.1 (none_of s.parent rest.0) in
        let its = roots_wait s0 lawful0 n k up (record { live = l; work = work_at k l.me }) (ap (with_work k) l_live) top in
        let at : l.me.session ≡ session = ap (λ (b : BranchId). b.session) me ∙ number in
        (subst (λ i. (session_at k.sessions i).root ≡ Some s.me) at (its.root ∙ ap Some me), known.1, (l, there.1))
      where
        none_of : {A : Type 0} (o : Option A) → is_none o ≡ true → o ≡ None
        none_of None is = refl
        none_of (Some a) is = absurd cc

        at_node : (s : Seen) → s.me.node ≡ n → IsBack f s.me → (l : Live) × (live_at k s.me ≡ Some l)
        at_node s node (inl it) =
            let both : Some it.0 ≡ Some k = sym (subst (λ m. node_at f m ≡ Some it.0) node it.2) ∙ up in
            let same_one : it.0 ≡ k = cc in
            (it.1, subst (λ i. live_at i s.me ≡ Some it.1) same_one it.3)
        at_node s node (inr down) = absurd (let none : node_at f n ≡ None = subst (λ m. node_at f m ≡ None) node down.1 in cc (none, up))

        is_top : (s : Seen) (l : Live) → l.me ≡ s.me → live_at k l.me ≡ Some l → seen_at tr s.me ≡ Some s → s.parent ≡ None → l.parent ≡ None
        is_top s l me l_live at top = by l.parent refl
          where
            by : (o : Option BranchId) → l.parent ≡ o → o ≡ None
            by None is = refl
            by (Some q) above =
                let it = lower_at t whole hs part n k up l l_live (λ none. absurd (cc (above, none))) in
                let both : Some it.0 ≡ Some s = sym it.1 ∙ (ap (seen_at tr) me ∙ at) in
                let one : it.0 ≡ s = cc in
                let has_parent : s.parent ≡ Some q = ap (λ (y : Seen). y.parent) (sym one) ∙ (it.2.parent ∙ above) in
                absurd (cc (has_parent, top))

    -- and a session's transaction is told, where the session waits for no answer
    told_root : (b : BranchId) → (session_at k.sessions session).root ≡ Some b → (session_at k.sessions session).call ≡ pending.NoCall → root_at tr n session ≡ None → ⊥
    told_root b has free none =
        let there = (goes n k up session b has).0 free in
        let l : Live = there.0 in
        let me : l.me ≡ b = item_is live_id k.lives b l there.1 in
        let l_live : live_at k l.me ≡ Some l = subst (λ c. live_at k c ≡ Some l) (sym me) there.1 in
        let its = roots_are_of_sessions s0 lawful0 n k up session b has in
        let top : l.parent ≡ None = its.1 l there.1 in
        let told = tops n k up l l_live top in
        let s_me : told.0.me ≡ l.me = item_is seen_id tr.seen l.me told.0 told.1 in
        let own : l.me.node ≡ n = all_found (λ (x : Live). x.me.node ≡ n) live_id k.lives l.me l (ids_name_their_node s0 lawful0 n k up).lives l_live in
        let yes : is_root_of n session told.0 ≡ true
        = and_from (is_live_at n told.0) (is_none told.0.parent && (told.0.me.session == session)) (and_from (told.0.me.node == n) (is_live told.0) (eq-eqb told.0.me.node n (ap (λ (c : BranchId). c.node) s_me ∙ own)) (ap is_none told.2.live))
        (and_from (is_none told.0.parent) (told.0.me.session == session) (ap is_none (told.2.parent ∙ top)) (eq-eqb told.0.me.session session (ap (λ (c : BranchId). c.session) (s_me ∙ me) ∙ its.0))) in
        let no : is_root_of n session told.0 ≡ false = none_so (is_root_of n session) tr.seen l.me told.0 none told.1 in
        absurd (cc (yes, no))

    sees_one : (session_at k.sessions session).call ≡ pending.NoCall → (o : Option Seen) (r : Option BranchId) → root_at tr n session ≡ o → (session_at k.sessions session).root ≡ r → IsSeenRoot tr k o r
    sees_one free None None root has = tt
    sees_one free None (Some b) root has = told_root b has free root
    sees_one free (Some s) None root has = absurd (let its = (told_live s root).0 in cc (its, has))
    sees_one free (Some s) (Some b) root has =
        let its = told_live s root in
        let both : Some s.me ≡ Some b = sym its.0 ∙ has in
        let me : s.me ≡ b = cc in
        (subst (λ c. seen_at tr c ≡ Some s) me its.1, (its.2.0, subst (λ c. live_at k c ≡ Some its.2.0) me its.2.1))

  pub sees_roots : TracesTops f tr → Alone tr.seen → AllByRecursion (Back f) tr.seen → ((n : ℕ) (k : NodeState) → node_at f n ≡ Some k → RootGoes k.sessions k.lives) → SeesRoots f tr
  sees_roots tops alone back goes n k up session range free = sees_one tops alone back goes n k up session free (root_at tr n session) (session_at k.sessions session).root refl refl

  -- ---- the next root

  pub names_next : Counts t whole f tr → AllByRecursion (Ordered tr) tr.seen → NamesNext t.places f tr
  names_next counts ordered n k up session range none = (next, not_told)
    where
      number : (place_at t.places n).number ≡ n
      number = number_is t.places t.commands t.of_a_script.each f n k (run_births s0 lawful0).0.1.many up

      node : Node (records_at f n) k
      node = node_so t.places t.commands t.of_a_script.each f (events_of s0) (run_births s0 lawful0).0 n k up

      boot : k.stored.durable.boot ≡ boots (records_at f n)
      boot = ap (λ s. s.durable.boot) node.stored ∙ node.boot

      next : next_root f tr n session ≡ new_root (place_at t.places n) k session
      next =
          ap (λ m. record { node = m; boot = boots (records_at f n); session = session; seq = begun_in tr n (boots (records_at f n)) session + 1 }) (sym number) ∙
          (ap (λ m. record { node = (place_at t.places n).number; boot = m; session = session; seq = begun_in tr n (boots (records_at f n)) session + 1 }) (sym boot) ∙
          ap (λ m. record { node = (place_at t.places n).number; boot = k.stored.durable.boot; session = session; seq = m + 1 }) (counts n k up session range))

      not_told : seen_at tr (new_root (place_at t.places n) k session) ≡ None
      not_told = by (seen_at tr (new_root (place_at t.places n) k session)) refl
        where
          by : (o : Option Seen) → seen_at tr (new_root (place_at t.places n) k session) ≡ o → o ≡ None
          by None is = refl
          by (Some s) at =
              let me : s.me ≡ next_root f tr n session = item_is seen_id tr.seen (new_root (place_at t.places n) k session) s at ∙ sym next in
              let its : Ordered tr s = all_found (Ordered tr) seen_id tr.seen (new_root (place_at t.places n) k session) s ordered at in
              let low : begun_in tr n (boots (records_at f n)) session + 1 ≤ begun_in tr n (boots (records_at f n)) session
              = subst (λ (b : BranchId). b.session ≤ 64 → b.seq ≤ begun_in tr b.node b.boot b.session) me its range.1 in
              absurd (omega (arith, low))
