-- The turn of an undisturbed COMMIT's call: it is pending from then on, or is answered at once.
use Rattle.std.proofs.Common.{◌≡◌, ◌≢◌, ℕ, true, false, List, [], ◌∷◌, is_none, Some, None, inl, inr, refl, sym, ap, subst, ◌∙◌}
use Rattle.std.proofs.lemmas.Bool.{cond_both}
use Rattle.node_rules.specs.Data.{Act, Edge, Input, Live}
use Rattle.node_rules.specs.Data.acts
use Rattle.node_rules.specs.Data.inputs
use Rattle.node_rules.specs.Data.phases
use Rattle.node_rules.specs.Data.stmts
use Rattle.node_rules.specs.declared.session.PendingCall.TheVariants as pending
use Rattle.node_rules.specs.declared.session.Session.{Session}
use Rattle.node_rules.specs.NodeState.{NodeState, Branch, TurnDraft, live_id, live_at, branch_at, work_at, with_work}
use Rattle.node_rules.specs.Prepare.{act_turn, first_act_by, root_act}
use Rattle.node_rules.specs.Sessions.{session_at, with_call}
use Rattle.node_rules.specs.Words.{is_item_of}
use Rattle.session_tree.specs.Tree.{step}
use Rattle.session_tree.specs.declared.act.Walk.{Walk}
use Rattle.session_tree.specs.declared.act.Walk.TheVariants as walks
use Rattle.run_base_laws.specs.CallLaws.{ComesAtRest, IsRootOf}
use Rattle.run_rules.specs.Data.{Happening}
use Rattle.run_rules.specs.Data.happenings
use Rattle.run_rules.specs.Facts.{Facts, first_facts}
use Rattle.run_rules.specs.Lawful.{History, IsLawfulRun}
use Rattle.run_base_laws.specs.NodeLaws.{EachFactFrom}
use Rattle.run_rules.proofs.ListLemmas.{any_found}
use Rattle.run_base_laws.proofs.RestRunLemmas.{calls_come_at_rest, roots_wait}
use Rattle.run_base_laws.proofs.RootLemmas.{session_or_before}
use Rattle.tree_laws.specs.AskLaws.{way_of}
use Rattle.tree_laws.proofs.PrefixLemmas.{so_far, f_at}
use Rattle.tree_laws.proofs.TimeLemmas.{fact_at}
use Rattle.commit_laws.specs.StillLaws.{AbortsNone}
use Rattle.run_claims.specs.Undisturbed.{Commit, Undisturbed}
use Rattle.commit_leave_laws.proofs.RootActLemmas.{Known, Effect, decides_so, finishes_so, seals_so, still, lasts_put}
use Rattle.commit_leave_laws.proofs.LastLemmas.{is_living}
use Rattle.commit_leave_laws.proofs.SessionLemmas.{answers_of}
use Rattle.commit_leave_laws.proofs.CallLemmas as call
use Rattle.commit_leave_laws.proofs.PendLemmas.{State, Waits, Done}

-- a session's transaction is the same with another call pending
same_roots : (ss : List Session) (m n : ℕ) → (session_at (with_call ss m pending.Commit) n).root ≡ (session_at ss n).root
same_roots ss m n = elim (session_or_before ss m n (record (session_at ss m) { call = pending.Commit })) [
  | inl still ↦ ap (λ (s : Session). s.root) still
  | inr new ↦ ap (λ (s : Session). s.root) new.1 ∙ ap (λ i. (session_at ss i).root) new.0
]

module _ (t : History) (whole : IsLawfulRun t) (c : Commit t.places t.commands t.trace) (u : Undisturbed t.places t.commands t.trace c) (quiet : AbortsNone t c.root) where
  open c use {session as m, root as r, kept as k}

  abbrev f0 : Facts
  f0 = f_at t c.before

  abbrev first : Happening
  first = happenings.Turn c.call

  abbrev lawful0 : IsLawfulRun (so_far t c.before)
  lawful0 = call.lawful0 t whole c

  abbrev found : live_at c.kept c.live.me ≡ Some c.live
  found = call.found t whole c

  abbrev fits : (r.session ≡ m) × ((l : Live) → live_at c.kept r ≡ Some l → l.parent ≡ None)
  fits = call.fits t whole c

  abbrev own : r.session ≡ m
  own = call.own t whole c

  abbrev input : Input
  input = inputs.Call m (Some (stmts.Commit c.comment))

  abbrev pends : List Session
  pends = call.pends t whole c

  abbrev kp : NodeState
  kp = call.kp t whole c

  abbrev l : Live
  l = call.l t whole c

  abbrev root_pends : (session_at pends m).root ≡ Some r
  root_pends = call.root_pends t whole c

  abbrev call_pends : (session_at pends m).call ≡ pending.Commit
  call_pends = call.call_pends t whole c

  abbrev working : (c.live.phase ≡ phases.Working) × ((work_at k c.live.me).going ≡ None)
  working = call.working t whole c

  pub known_call : Known m r own input kp
  known_call = record {
    only = λ b root. (let both : Some r ≡ Some b = sym root_pends ∙ root in let it : r ≡ b = cc in sym it);
    commits = λ root. call_pends;
    roots = λ y live none. roots_so y live none;
    rests = λ x live none mine. rests_so x live none mine;
    below = λ from to call task came. (let it : inputs.Call m (Some (stmts.Commit c.comment)) ≡ inputs.Message _ = came.is in absurd cc);
    top = λ y live. top_so y live;
    calm = λ from kind came. (let it : inputs.Call m (Some (stmts.Commit c.comment)) ≡ inputs.Message _ = came.is in absurd cc);
  }
    where
      branch_so : (y : Live) → live_at k y.me ≡ Some y → branch_at k y.me ≡ Some (record { live = y; work = work_at k y.me })
      branch_so y live = ap (with_work k) live

      fit : (x : Branch) → branch_at k x.live.me ≡ Some x → x.live.parent ≡ None → IsRootOf (session_at k.sessions x.live.me.session) x.live.me x.live.phase x.work.going
      fit x live none = roots_wait (so_far t c.before) lawful0 c.call.node k c.up x live none

      set_root : (n : ℕ) → (session_at pends n).root ≡ (session_at k.sessions n).root
      set_root n = same_roots k.sessions m n

      roots_so : (y : Live) → live_at k y.me ≡ Some y → y.parent ≡ None → (session_at pends y.me.session).root ≡ Some y.me
      roots_so y live none = set_root y.me.session ∙ (fit (record { live = y; work = work_at k y.me }) (branch_so y live) none).root

      rests_so : (x : Branch) → branch_at k x.live.me ≡ Some x → x.live.parent ≡ None → x.live.me.session ≡ m → x.work.going ≡ None
      rests_so x live none mine =
          let root : (session_at k.sessions m).root ≡ Some x.live.me = subst (λ n. (session_at k.sessions n).root ≡ Some x.live.me) mine (fit x live none).root in
          let law : ComesAtRest t.places f0 first
          = fact_at t.places t.commands (ComesAtRest t.places) (first_facts t.places) c.before first c.during (subst (EachFactFrom (ComesAtRest t.places) t.places t.commands (first_facts t.places)) (sym c.is) (calls_come_at_rest t whole)) in
          (law k c.up m (Some (stmts.Commit c.comment)) c.asks x root live).1

      top_so : (y : Live) → live_at k r ≡ Some y → (y.parent ≡ None) × (way_of y.phase ≢ Some false)
      top_so y live =
          let both : Some c.live ≡ Some y = sym c.there ∙ live in
          let it : c.live ≡ y = cc in
          (fits.1 y live, (λ way. (let none : way_of y.phase ≡ None = ap (λ (x : Live). way_of x.phase) (sym it) ∙ ap way_of working.0 in let clash : None ≡ Some false = sym none ∙ way in absurd cc)))

  -- the root acts
  abbrev Of : Act → Type 0
  Of a = Effect m r own input kp (act_turn kp l true a)

  by_walk : (w : Walk) → Of (root_act w)
  by_walk walks.Here = decides_so m r own input kp known_call l c.live found
  by_walk (walks.Down i) = still m r own input kp known_call (act_turn kp l true (acts.SealAndPass i)) refl refl (seals_so m r own input kp known_call l (Some i))
  by_walk walks.Nowhere = finishes_so m r own input kp known_call l c.live found

  by_edges : (es : List Edge) → Of (first_act_by l true es)
  by_edges [] =
      cond_both (is_none l.parent) (root_act (step l)) acts.SayReady Of (λ root. by_walk (step l))
      (λ below. (let top_none : is_none l.parent ≡ true = ap is_none (fits.1 c.live c.there) in absurd (cc (below, top_none))))
  by_edges (e ∷ es) = still m r own input kp known_call (act_turn kp l true acts.AskDown) refl refl (lasts_put m r own input kp known_call l c.live found)

  abbrev done : TurnDraft
  done = call.done t whole c

  acts_so : Effect m r own input kp done
  acts_so = by_edges l.edges

  living : is_living r k.lives ≡ true
  living = any_found (is_item_of live_id r) k.lives c.live c.there

  pub state_first : State t whole c u quiet done.after (answers_of m done.ended)
  state_first = elim acts_so [
    | inl goes_on ↦ Waits (ap (λ (s : Session). s.root) goes_on.0.same ∙ root_pends) (ap (λ (s : Session). s.call) goes_on.0.same ∙ call_pends) (goes_on.1 root_pends (inl living)) goes_on.0.quiet
    | inr ends ↦ Done ends.2 ends.1
  ]
