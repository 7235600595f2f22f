-- A statement that begins a transaction does so in a session that has none: its root is live afterwards, working and without children but for
-- those to which it sends Execs, and the session has its number.
use Rattle.std.proofs.Common.{◌≡◌, ℕ, zero, suc, ◌+◌, true, [], Option, Some, None, refl, sym, ap, subst, ◌∙◌, arith, List}
use Rattle.tran_ids.proofs.BranchLemmas.{same_from_equal}
use Rattle.tran_ids.proofs.ListedLemmas.{put_found}
use Rattle.session_tree.specs.Live.{children_of, peer_of, next_edge}
use Rattle.node_rules.specs.Data.{Stmt, BranchId, Live, Place}
use Rattle.node_rules.specs.declared.work.Work.{Work}
use Rattle.node_rules.specs.Data.kinds
use Rattle.node_rules.specs.Data.phases
use Rattle.node_rules.specs.Data.stmts
use Rattle.node_rules.specs.declared.session.Session.{Session}
use Rattle.node_rules.specs.Words.{is_item_of, set_numbered}
use Rattle.node_rules.specs.Inputs.{IsSession}
use Rattle.node_rules.specs.NodeState.{NodeState, Branch, TurnDraft, live_id, live_at, post}
use Rattle.node_rules.specs.Names.{Way, Runs_here, Over, Through, Nowhere_to, way_of, passed_on}
use Rattle.node_rules.specs.Sessions.{session_at, with_root}
use Rattle.node_rules.specs.Statement.{ran, after_run}
use Rattle.node_rules.specs.Calls.{goes, exec_to, nobody_at}
use Rattle.node_rules.specs.Client.{new_root, fresh_root, begun_by, begun, statement_by, statement_call, call_turn, root_at, allowed_at, counted, read_only_by, savepoint_by, savepoint_call}
use Rattle.node_rules.proofs.StandLemmas.{RootSo, live_so, root_so, session_set}
use Rattle.node_rules.proofs.SessionLemmas.{seqs, set_seqs, pends_seqs, answered_seqs, counted_seqs}
use Rattle.run_rules.specs.Runs.{begins_transaction}
use Rattle.run_rules.proofs.AtNodeLemmas.{item_there}
use Rattle.run_base_laws.proofs.RootLemmas.{SessionsFit, counted_session}
use Rattle.tree_trail_laws.proofs.ChildStepLemmas.{called_by, still_calls}
use Rattle.tree_trail_laws.proofs.PlanLemmas.{find_last}
use Rattle.node_rules.specs.declared.work.Errand.TheVariants as errands

-- What such a turn leaves of the root.
pub record Fresh (p : Place) (k : NodeState) (n : ℕ) (d : TurnDraft) : Type 0 where
  pub live : Live
  pub found : live_at d.after (new_root p k n) ≡ Some live
  pub working : live.phase ≡ phases.Working
  pub top : live.parent ≡ None
  pub kids : called_by (new_root p k n) [] d.says ≡ children_of live
  pub next : seqs d.after.sessions ≡ set_numbered (seqs k.sessions) n ((session_at k.sessions n).seq + 1)

module _ (p : Place) (k : NodeState) (n : ℕ) (unused : live_at k (new_root p k n) ≡ None) (fit : SessionsFit k) (range : IsSession n) where
  abbrev b : BranchId
  b = new_root p k n

  abbrev l : Live
  l = fresh_root p k b None

  abbrev k1 : NodeState
  k1 = counted (begun_by p k n None None) n

  found1 : live_at k1 b ≡ Some l
  found1 = find_last (is_item_of live_id b) k.lives l unused (same_from_equal b b refl)

  -- one that reads at an SCN is found too
  found_reading : (scn : ℕ) → live_at (begun_by p k n (Some scn) None) b ≡ Some (fresh_root p k b (Some scn))
  found_reading scn = find_last (is_item_of live_id b) k.lives (fresh_root p k b (Some scn)) unused (same_from_equal b b refl)

  begun_next : seqs (with_root k.sessions n b) ≡ set_numbered (seqs k.sessions) n ((session_at k.sessions n).seq + 1)
  begun_next = set_seqs k.sessions n (record (session_at k.sessions n) { seq = b.seq; root = Some b; calls = 0 })

  next1 : seqs k1.sessions ≡ set_numbered (seqs k.sessions) n ((session_at k.sessions n).seq + 1)
  next1 = counted_seqs (with_root k.sessions n b) n (session_at (with_root k.sessions n b) n).root ∙ begun_next

  -- where nothing is done
  stays : (d : TurnDraft) → d.after ≡ k1 → d.says ≡ [] → Fresh p k n d
  stays d after says = record {
    live = l;
    found = ap (λ (j : NodeState). live_at j b) after ∙ found1;
    working = refl;
    top = refl;
    kids = ap (called_by b []) says;
    next = ap (λ (j : NodeState). seqs j.sessions) after ∙ next1;
  }

  no_peer : (i : ℕ) → peer_of l i ≡ None
  no_peer zero = refl
  no_peer (suc i) = refl

  goes_so : (w : Work) (s : Stmt) (way : Way) → Fresh p k n (goes p k1 (record { live = l; work = w }) s 0 way)
  goes_so w s (Runs_here t) =
      let y : Live = after_run l (ran p k1 b s t) in
      record { live = y; found = put_found live_id k1.lives y; working = refl; top = refl; kids = refl; next = answered_seqs k1.sessions y None ∙ next1 }
  goes_so w s (Nowhere_to r) = record { live = l; found = put_found live_id k1.lives l; working = refl; top = refl; kids = refl; next = answered_seqs k1.sessions l None ∙ next1 }
  goes_so w s (Over i table) = record {
    live = l;
    found = put_found live_id k1.lives l;
    working = refl;
    top = refl;
    kids = ap (λ o. called_by b [] (exec_to k1.sessions (record { live = l; work = w }) i (errands.Statement (passed_on s table) 0) o)) (no_peer i);
    next = pends_seqs k1.sessions l ∙ next1;
  }
  goes_so w s (Through node link table) =
      record { live = l; found = put_found live_id k1.lives l; working = refl; top = refl; kids = still_calls b [] (post b (nobody_at node) (kinds.Open (next_edge l) b 2 None)) (refl, tt); next = pends_seqs k1.sessions l ∙ next1 }

  -- the root of the session
  root1 : (session_at k1.sessions n).root ≡ Some b
  root1 =
      let s : Session = record (session_at k.sessions n) { seq = b.seq; root = Some b; calls = 0 } in
      let there = item_there k.sessions n range.0 (omega (arith, range.1, fit.roots.many)) in
      let at = counted_session (with_root k.sessions n b) n n (session_at (with_root k.sessions n b) n).root in
      ap (λ (x : Session). x.root) at.1 ∙ ap (λ (x : Session). x.root) (session_set k.sessions n there.0 s there.1)

  its_root : (x : Branch) → RootSo k1 n (Some x) → x ≡ record { live = l; work = x.work }
  its_root x so =
      let both : Some x.live.me ≡ Some b = sym so.0 ∙ root1 in
      let me : x.live.me ≡ b = cc in
      let two : Some x.live ≡ Some l = sym (subst (λ c. live_at k1 c ≡ Some x.live) me (live_so k1 x.live.me x so.1)) ∙ found1 in
      let it : x.live ≡ l = cc in
      ap (λ (y : Live). record { live = y; work = x.work }) it

  by_root : (s : Stmt) (code : Option ℕ) (o : Option Branch) → RootSo k1 n o → Fresh p k n (statement_by p k1 n s code o)
  by_root s code None so = stays _ refl refl
  by_root s (Some c) (Some x) so = stays _ refl refl
  by_root s None (Some x) so = subst (λ (y : Branch). Fresh p k n (allowed_at p k1 n y s)) (sym (its_root x so)) (goes_so x.work s (way_of p k1.stored.durable l 0 s))

  -- with a savepoint
  by_mark : (name : List ℕ) (code : Option ℕ) (o : Option Branch) → RootSo k1 n o → Fresh p k n (savepoint_by k1 n name code o)
  by_mark name code None so = stays _ refl refl
  by_mark name (Some c) (Some x) so = stays _ refl refl
  by_mark name None (Some x) so = subst (λ (y : Branch). Fresh p k n (savepoint_by k1 n name None (Some y))) (sym (its_root x so)) (record {
    live = l;
    found = put_found live_id k1.lives l;
    working = refl;
    top = refl;
    kids = refl;
    next = next1;
  })

  module _ (none : (session_at k.sessions n).root ≡ None) where
    called_so : (s : Stmt) → Fresh p k n (statement_call p (begun p k n) n s)
    called_so s = subst (λ o. Fresh p k n (statement_call p (counted (begun_by p k n None o) n) n s)) (sym none) (by_root s (session_at k1.sessions n).code (root_at k1 n) (root_so k1 n))

    marked_so : (name : List ℕ) → Fresh p k n (savepoint_call (begun p k n) n name)
    marked_so name = subst (λ o. Fresh p k n (savepoint_call (counted (begun_by p k n None o) n) n name)) (sym none) (by_mark name (session_at k1.sessions n).code (root_at k1 n) (root_so k1 n))

    reading_so : Fresh p k n (read_only_by p k n (session_at k.sessions n).root)
    reading_so = subst (λ o. Fresh p k n (read_only_by p k n o)) (sym none) (record { live = fresh_root p k b (Some k.clock); found = found_reading k.clock; working = refl; top = refl; kids = refl; next = begun_next })

    pub fresh_so : (s : Stmt) → begins_transaction s ≡ true → Fresh p k n (call_turn p k n s)
    fresh_so (stmts.Insert table columns given) rows = called_so (stmts.Insert table columns given)
    fresh_so (stmts.Update table sets cs) rows = called_so (stmts.Update table sets cs)
    fresh_so (stmts.Delete table cs) rows = called_so (stmts.Delete table cs)
    fresh_so (stmts.Select list table cs for_update) rows = called_so (stmts.Select list table cs for_update)
    fresh_so (stmts.Savepoint name) rows = marked_so name
    fresh_so stmts.SetReadOnly rows = reading_so
    fresh_so _ rows = absurd cc
