-- The turn in which Prepare comes leaves no working branch, and the turn in which an answer comes leaves no branch that
-- waits for it.
use Rattle.std.proofs.Common.{◌≡◌, ◌≢◌, ℕ, ◌&&◌, ◌||◌, Bool, true, false, List, [], ◌∷◌, map, Option, Some, None, refl, sym, ap, subst, ◌∙◌}
use Rattle.std.specs.List.{AllByRecursion, list_any}
use Rattle.std.proofs.lemmas.Bool.{cond_both}
use Rattle.tran_ids.proofs.BranchLemmas.{same_from_equal}
use Rattle.tran_ids.proofs.ListedLemmas.{item_is, put_found, drop_gone}
use Rattle.node_rules.specs.Data.{Live, Act, BranchId, Edge, Vote, Phase, KeptRow}
use Rattle.node_rules.specs.Data.acts
use Rattle.node_rules.specs.Data.kinds
use Rattle.node_rules.specs.Data.phases
use Rattle.node_rules.specs.Words.{same}
use Rattle.node_rules.specs.Commit.{is_asked_again}
use Rattle.node_rules.specs.NodeState.{NodeState, live_id, live_at, work_at, with_work, kept_row_at, without_branch, nothing, saying, post}
use Rattle.node_rules.specs.Prepare.{ready, voted, has_voted, answers_first, is_awaited, act_turn, collecting, with_comment, without_read_keys, first_act, prepare_in, answer_in, answer_act}
use Rattle.prepare_phase.specs.Acts.{is_first_answer}
use Rattle.node_rules.specs.Turn.{BranchStatus, Is_live, kept_or_gone, live_or, status_of, prepare_turn, answer_turn}
use Rattle.run_branch_laws.specs.PhaseLaws.{PhaseFits}
use Rattle.run_rules.proofs.ListLemmas.{all_each}
use Rattle.commit_laws.proofs.KeepLemmas.{Has, Served}

-- ---- where a branch stands

pub stand_live : (k : NodeState) (b : BranchId) (l : Live) → live_at k b ≡ Some l → status_of k b ≡ Is_live (record { live = l; work = work_at k l.me })
unfolding status_of
stand_live k b l is = ap (λ o. live_or (with_work k o) (kept_row_at k b)) is

stand_other : (k : NodeState) (b : BranchId) → live_at k b ≡ None → status_of k b ≡ kept_or_gone (kept_row_at k b)
unfolding status_of
stand_other k b is = ap (λ o. live_or (with_work k o) (kept_row_at k b)) is

-- ---- acts

module _ (c : Option BranchId) (k : NodeState) (l : Live) (below : Bool) (so : Served c l) where
  left : (y : Live) → live_at (without_branch k l.me) l.me ≡ Some y → Served c y
  left y live = let none : live_at (without_branch k l.me) l.me ≡ None = drop_gone live_id k.lives l.me in absurd (cc (none, live))

  kept_so : (y : Live) → live_at (act_turn k l below acts.Rest).after l.me ≡ Some y → Served c y
  kept_so y live = (let both : Some l ≡ Some y = sym (put_found live_id k.lives l) ∙ live in let it : l ≡ y = cc in subst (Served c) it so)

  ready_so : (y : Live) → live_at (act_turn k l below acts.SayReady).after l.me ≡ Some y → Served c y
  ready_so y live =
      (let both : Some (ready l) ≡ Some y = sym (put_found live_id k.lives (ready l)) ∙ live in let it : ready l ≡ y = cc in subst (Served c) it (record { busy = λ working. absurd cc; has = so.has }))

  -- an act leaves it so
  pub acted : (a : Act) (y : Live) → live_at (act_turn k l below a).after l.me ≡ Some y → Served c y
  acted acts.Rest y live = kept_so y live
  acted acts.AskDown y live = kept_so y live
  acted acts.SayReady y live = ready_so y live
  acted _ y live = left y live

-- ---- Prepare

pub none_named : (es : List Edge) → AllByRecursion (Has None) es
none_named [] = tt
none_named (e ∷ es) = (tt, none_named es)

module _ (k : NodeState) (from to : BranchId) (below : Bool) (comment : List ℕ) (y : Live) where
  -- one that is not live
  unmoved : (o : Option KeptRow) → (prepare_turn k from to below comment (kept_or_gone o)).after ≡ k
  unmoved None = refl
  unmoved (Some s) = cond_both (is_asked_again s from) (saying k (post s.me from kinds.Prepared)) (nothing k) (λ d. d.after ≡ k) (λ again. refl) (λ other. refl)

  by_phase : (l : Live) → live_at k to ≡ Some l → l.me ≡ to → (phase : Phase) → l.phase ≡ phase → live_at (prepare_in k l below comment phase).after to ≡ Some y → Served None y
  by_phase l found me phases.Working is live =
      let at : live_at (prepare_in k l below comment phases.Working).after l.me ≡ Some y = subst (λ b. live_at (prepare_in k l below comment phases.Working).after b ≡ Some y) (sym me) live in
      acted None (without_read_keys k l.me) (collecting (with_comment l comment) below) below (record { busy = λ working. absurd cc; has = none_named _ }) (first_act (collecting (with_comment l comment) below) below) y at
  by_phase l found me (phases.Collecting site_below) is live =
      let both : Some l ≡ Some y = sym found ∙ live in let it : l ≡ y = cc in
      subst (Served None) it (record { busy = λ working. (let no : phases.Collecting site_below ≡ phases.Working = sym is ∙ working in absurd cc); has = none_named l.edges })
  by_phase l found me phases.Ready is live =
      let both : Some l ≡ Some y = sym found ∙ live in let it : l ≡ y = cc in
      subst (Served None) it (record { busy = λ working. (let no : phases.Ready ≡ phases.Working = sym is ∙ working in absurd cc); has = none_named l.edges })

  by_live : (o : Option Live) → live_at k to ≡ o → live_at (prepare_turn k from to below comment (status_of k to)).after to ≡ Some y → Served None y
  by_live None is live =
      let at : live_at (prepare_turn k from to below comment (kept_or_gone (kept_row_at k to))).after to ≡ Some y = subst (λ (s : BranchStatus). live_at (prepare_turn k from to below comment s).after to ≡ Some y) (stand_other k to is) live in
      let still : live_at k to ≡ Some y = subst (λ (j : NodeState). live_at j to ≡ Some y) (unmoved (kept_row_at k to)) at in
      absurd (cc (is, still))
  by_live (Some l) is live =
      by_phase l is (item_is live_id k.lives to l is) l.phase refl (subst (λ (s : BranchStatus). live_at (prepare_turn k from to below comment s).after to ≡ Some y) (stand_live k to l is) live)

  pub prepare_served : live_at (prepare_turn k from to below comment (status_of k to)).after to ≡ Some y → Served None y
  prepare_served live = by_live (live_at k to) refl live

-- ---- an answer

module _ (from : BranchId) (v : Vote) (done : is_awaited v ≡ false) where
  -- a test of two parts that fails
  second_fails : (p q : Bool) → (p && q) ≡ false → p ≡ true → q ≡ false
  second_fails true q is here = is
  second_fails false q is here = absurd cc

  voted_edge : (e : Edge) → Has (Some from) (has_voted from v e)
  voted_edge e =
      cond_both (answers_first from e) (record e { vote = v }) e (Has (Some from)) (λ first is. done) (λ other is. second_fails (same e.peer from) (is_awaited e.vote) other (same_from_equal e.peer from is))

  pub voted_edges : (es : List Edge) → AllByRecursion (Has (Some from)) (map (has_voted from v) es)
  voted_edges es = all_each (Has (Some from)) (has_voted from v) es voted_edge

module _ {A : Type 0} (test : A → Bool) (P : A → Type 0) (so : (x : A) → test x ≡ false → P x) where
  none_passes : (xs : List A) → list_any test xs ≡ false → AllByRecursion P xs
  none_passes [] none = tt
  none_passes (x ∷ xs) none = by (test x) refl none (none_passes xs)
    where
      by : (q : Bool) → test x ≡ q → (q || list_any test xs) ≡ false → (list_any test xs ≡ false → AllByRecursion P xs) → AllByRecursion P (x ∷ xs)
      by true is never rest = absurd cc
      by false is none_left rest = (so x is, rest none_left)

module _ (k : NodeState) (from to : BranchId) (v : Vote) (done : is_awaited v ≡ false) (busy : (l : Live) → live_at k to ≡ Some l → l.phase ≢ phases.Working) (fits : (l : Live) → live_at k to ≡ Some l → PhaseFits l.parent l.edges l.phase) (y : Live) where
  still : (l : Live) → Served (Some from) l → live_at k to ≡ Some l → live_at k to ≡ Some y → Served (Some from) y
  still l so found live = let both : Some l ≡ Some y = sym found ∙ live in let it : l ≡ y = cc in subst (Served (Some from)) it so

  in_phase : (l : Live) → live_at k to ≡ Some l → l.me ≡ to → (phase : Phase) → l.phase ≡ phase → live_at (answer_in k l from v phase).after to ≡ Some y → Served (Some from) y
  in_phase l found me phases.Working is live = absurd (busy l found is)
  in_phase l found me (phases.Collecting site_below) is live =
      cond_both (is_first_answer l from) (act_turn k (voted l from v) site_below (answer_act (voted l from v) site_below v)) (nothing k) (λ d. live_at d.after to ≡ Some y → Served (Some from) y)
      (λ first at.
      acted (Some from) k (voted l from v) site_below (record { busy = busy l found; has = voted_edges from v done l.edges }) (answer_act (voted l from v) site_below v) y
      (subst (λ b. live_at (act_turn k (voted l from v) site_below (answer_act (voted l from v) site_below v)).after b ≡ Some y) (sym me) at))
      (λ other at. still l (record {
        busy = busy l found;
        has = none_passes (answers_first from) (Has (Some from)) (λ e fails peer. second_fails from v done (same e.peer from) (is_awaited e.vote) fails (same_from_equal e.peer from peer)) l.edges other;
      }) found at)
      live
  in_phase l found me phases.Ready is live =
      let so : PhaseFits l.parent l.edges phases.Ready = subst (PhaseFits l.parent l.edges) is (fits l found) in
      still l (record { busy = busy l found; has = none_passes (λ (e : Edge). is_awaited e.vote) (Has (Some from)) (λ e none peer. none) l.edges so.1 }) found live

  not_moved : (o : Option KeptRow) → (answer_turn k from v (kept_or_gone o)).after ≡ k
  not_moved None = refl
  not_moved (Some s) = refl

  where_live : (o : Option Live) → live_at k to ≡ o → live_at (answer_turn k from v (status_of k to)).after to ≡ Some y → Served (Some from) y
  where_live None is live =
      let at : live_at (answer_turn k from v (kept_or_gone (kept_row_at k to))).after to ≡ Some y = subst (λ (s : BranchStatus). live_at (answer_turn k from v s).after to ≡ Some y) (stand_other k to is) live in
      let there : live_at k to ≡ Some y = subst (λ (j : NodeState). live_at j to ≡ Some y) (not_moved (kept_row_at k to)) at in
      absurd (cc (is, there))
  where_live (Some l) is live = in_phase l is (item_is live_id k.lives to l is) l.phase refl (subst (λ (s : BranchStatus). live_at (answer_turn k from v s).after to ≡ Some y) (stand_live k to l is) live)

  pub answer_served : live_at (answer_turn k from v (status_of k to)).after to ≡ Some y → Served (Some from) y
  answer_served live = where_live (live_at k to) refl live
