-- Where the collect of a root is complete that has no site, each branch of its tree that was asked has left without a rollback: its tree stands as if
-- the root decided.
use Rattle.std.proofs.Common.{◌≡◌, ◌≢◌, ℕ, zero, suc, ◌+◌, ◌≤◌, ◌⊎◌, Bool, true, false, if◌then◌else◌, List, [], ◌∷◌, map, Option, Some, None, inl, inr, refl, sym, ap, subst, ◌∙◌, arith}
use Rattle.std.specs.List.{AllByRecursion, list_any}
use Rattle.std.proofs.lemmas.Bool.{and_parts, not-true}
use Rattle.tran_ids.proofs.BranchLemmas.{equal_from_same}
use Rattle.agreement.specs.Events.{Event, Decide, Exit, Sealed, Decided, Quiet, Dropped, Send_vote, first, exit, only_at, Has, Heard, Lawful, site_of}
use Rattle.agreement.proofs.AgreementLaws.{covered}
use Rattle.agreement.proofs.EventLemmas.{only_at_same, exit_new}
use Rattle.node_rules.specs.Data.{BranchId, Edge, Kind, Live, Vote}
use Rattle.node_rules.specs.Data.kinds
use Rattle.node_rules.specs.Data.phases
use Rattle.node_rules.specs.Data.votes
use Rattle.node_rules.specs.Words.{same, numbered}
use Rattle.node_rules.specs.Inputs.{Came}
use Rattle.node_rules.specs.NodeState.{NodeState, live_id, live_at}
use Rattle.node_rules.specs.Prepare.{is_awaited, answers_first, has_voted, voted, all_answered}
use Rattle.node_rules.proofs.Steps.{Answers, vote_kind}
use Rattle.session_tree.specs.Live.{children_of}
use Rattle.session_tree.specs.Tree.{step}
use Rattle.session_tree.specs.declared.act.Walk.TheVariants as walks
use Rattle.run_rules.specs.Births.{Born, births_of}
use Rattle.run_base_laws.specs.BirthLaws.{Began}
use Rattle.run_rules.specs.Data.{Turn}
use Rattle.run_base_laws.specs.FreezeLaws.{was_asked}
use Rattle.run_branch_laws.specs.HeardLaws.{VoteIs, EdgeIs, AnswersAre, QuietIs}
use Rattle.run_rules.specs.Lawful.{MayTurn, History, IsLawfulRun, facts_at}
use Rattle.run_branch_laws.specs.PhaseLaws.{IsNoAbort, PhaseFits}
use Rattle.run_branch_laws.specs.WalkLaws.{is_below, was_sent}
use Rattle.run_base_laws.proofs.BirthsStandLemmas.{came_so}
use Rattle.run_base_laws.proofs.EventsStandLemmas.{run_stands, nodes_are_as_events}
use Rattle.run_branch_laws.proofs.HeardStandLemmas.{answers_are_true, quiets_are_gone}
use Rattle.run_branch_laws.proofs.JustLemmas.{just_runs_are_lawful}
use Rattle.run_base_laws.proofs.OwnLemmas.{all_found}
use Rattle.run_branch_laws.proofs.PhaseLemmas.{phases_fit}
use Rattle.run_base_laws.proofs.SaidLemmas.{came_said}
use Rattle.run_branch_laws.proofs.TreeJustLemmas.{runs_by_trees_are_just}
use Rattle.tree_laws.specs.AnswerLaws.{EdgeTold, AnswersTold, ReadyIs}
use Rattle.tree_laws.specs.Forests.{told_below, comes_to, asked_by}
use Rattle.tree_laws.proofs.AgreeLemmas.{runs_go_by_forest}
use Rattle.tree_laws.proofs.AnswerRunLemmas.{answers_are_as_told}
use Rattle.tree_laws.proofs.AskLemmas.{voted_step}
use Rattle.tree_laws.proofs.AskRunLemmas.{edges_asked, paths_are_told}
use Rattle.tree_laws.proofs.BeyondLemmas.{beyond_is, none_awaited}
use Rattle.tree_laws.proofs.ForestLemmas as trees
use Rattle.tree_laws.proofs.ForestLemmas.{told_sent}
use Rattle.tree_laws.proofs.ForestRunLemmas.{runs_have_forests}
use Rattle.tree_laws.proofs.SettleRunLemmas.{known}
use Rattle.tree_laws.proofs.FrozenLemmas.{path_down}
use Rattle.tree_laws.proofs.MemberLemmas.{IsIn}
use Rattle.tree_laws.proofs.AtPart.{at_end}

module _ (t : History) (whole : IsLawfulRun t) (u : Turn) (k : NodeState) (may : MayTurn t.places (facts_at t) u k) (z : Live) (z_live : live_at k z.me ≡ Some z) (from : BranchId) (v : Vote) (sb : Bool)
    (answers : Answers u.input z from v sb) (no_abort : v ≢ votes.Abort) (all : all_answered (voted z from v) ≡ true) (walk_over : step (voted z from v) ≡ walks.Nowhere)
    (top : (x : Born) × Began (births_of t) x × (x.me ≡ z.me) × (x.parent ≡ None) × (x.root ≡ z.me)) where
  open at_end t use {e, forest as p, f, said}

  abbrev r : BranchId
  r = z.me

  nowhere : step z ≡ walks.Nowhere
  nowhere = sym (voted_step z from v) ∙ walk_over

  busy : z.phase ≢ phases.Working
  busy working = (let collecting = answers.collecting in absurd (cc (collecting, working)))

  -- it told no child that the walk comes there
  no_walk : (c : BranchId) → was_sent is_below said r c ≡ true → ⊥
  no_walk c sent =
      let told = (paths_are_told t whole u.node k may.up z z_live busy).0 c sent in
      let down : step z ≡ walks.Down told.0 = path_down z.phase (step z) told.0 told.1 in
      let none = nowhere in
      absurd (cc (down, none))

  -- ---- what its children answered

  abbrev IsDone : ℕ → BranchId → Type 0
  IsDone clock c = ((j : ℕ) × Has (Send_vote c j) e × (j ≤ clock)) ⊎ (exit e c ≡ Some Quiet)

  abbrev clock : ℕ
  clock = k.clock + answers.came.scn

  now_done : (v : Vote) (kind : Kind) → vote_kind v ≡ Some kind → Came u.input from r kind → v ≢ votes.Abort → (scn : ℕ) × (IsDone scn from)
  now_done votes.Prepared kinds.Prepared is came other = (came.scn, inl (came.scn, came_said f e (run_stands t whole).2 k u.node u.input u.took may.comes from r kinds.Prepared came, omega arith))
  now_done votes.ReadOnly kinds.ReadOnly is came other = (0, inr (came_so (λ x y kind. QuietIs e x kind) f (quiets_are_gone t whole) k u.node u.input u.took may.comes from r kinds.ReadOnly came))
  now_done votes.Ready kinds.Ready is came other = absurd (no_walk from (came_so (ReadyIs said) f (answers_are_as_told t whole).1 k u.node u.input u.took may.comes from r kinds.Ready came))
  now_done votes.Abort kind is came other = absurd (other refl)
  now_done votes.Unasked kind is came other = absurd cc
  now_done votes.Asked kind is came other = absurd cc
  now_done votes.Prepared _ is came other = absurd cc
  now_done votes.ReadOnly _ is came other = absurd cc
  now_done votes.Ready _ is came other = absurd cc

  latest : (scn : ℕ) × (IsDone scn from)
  latest = now_done v answers.kind answers.is_vote answers.came no_abort

  abbrev bound : ℕ
  bound = k.clock + latest.0

  wider : (a b : ℕ) (c : BranchId) → a ≤ b → IsDone a c → IsDone b c
  wider a b c low (inl it) = inl (it.0, it.1, omega (arith, it.2, low))
  wider a b c low (inr quiet) = inr quiet

  old_done : (w : Vote) (c : BranchId) → VoteIs e k.clock c w → is_awaited w ≡ false → w ≢ votes.Abort → w ≢ votes.Unasked → (w ≡ votes.Ready → was_sent is_below said r c ≡ true) → IsDone k.clock c
  old_done votes.Prepared c true_so heard other was_asked_it ready = inl true_so
  old_done votes.ReadOnly c true_so heard other was_asked_it ready = inr true_so
  old_done votes.Ready c true_so heard other was_asked_it ready = absurd (no_walk c (ready refl))
  old_done votes.Abort c true_so heard other was_asked_it ready = absurd (other refl)
  old_done votes.Unasked c true_so heard other was_asked_it ready = absurd (was_asked_it refl)
  old_done votes.Asked c true_so heard other was_asked_it ready = absurd cc

  -- of each child
  kids_done : (es : List Edge) → AllByRecursion (EdgeIs e k.clock) es → AllByRecursion (EdgeTold said r z.phase) es → AllByRecursion IsNoAbort es
      → AllByRecursion (λ x. is_awaited x.vote ≡ false) (map (has_voted from v) es) → (i : ℕ) (c : BranchId) → numbered (map (λ (x : Edge). x.peer) es) i ≡ Some c → IsDone bound c
  kids_done es are told fine heard zero c at = absurd cc
  kids_done [] are told fine heard (suc i) c at = absurd cc
  kids_done (y ∷ es) are told fine heard (suc zero) c at = by (answers_first from y) refl heard.0
    where
      peer : y.peer ≡ c
      peer = (let it : Some y.peer ≡ Some c = at in cc)

      by : (q : Bool) → answers_first from y ≡ q → is_awaited (if q then record y { vote = v } else y).vote ≡ false → IsDone bound c
      by true here not_so = (let one : y.peer ≡ from = equal_from_same y.peer from (and_parts (same y.peer from) (is_awaited y.vote) here).0 in subst (IsDone bound) (sym one ∙ peer) (wider latest.0 bound from (omega arith) latest.1))
      by false other not_so = wider k.clock bound c (omega arith) (subst (IsDone k.clock) peer (old_done y.vote y.peer are.0 not_so fine.0 (told.0.asked busy) told.0.ready))
  kids_done (y ∷ es) are told fine heard (suc (suc i)) c at = kids_done es are.1 told.1 fine.1 heard.1 (suc i) c at

  all_heard : (i : ℕ) (c : BranchId) → numbered (children_of z) i ≡ Some c → IsDone bound c
  all_heard =
      let fits : PhaseFits z.parent z.edges (phases.Collecting sb) = subst (PhaseFits z.parent z.edges) answers.collecting (all_found (λ (l : Live). PhaseFits l.parent l.edges l.phase) live_id k.lives z.me z (phases_fit t whole u.node k may.up) z_live) in
      kids_done z.edges (all_found (AnswersAre e k.clock) live_id k.lives z.me z (answers_are_true t whole u.node k may.up) z_live)
      (all_found (AnswersTold said) live_id k.lives z.me z ((answers_are_as_told t whole).0 u.node k may.up) z_live) fits.0
      (none_awaited (voted z from v).edges (not-true (list_any (λ (x : Edge). is_awaited x.vote) (voted z from v).edges) all))

  -- ---- its tree, as if it decided

  top_not : (x : Born) → Began (births_of t) x → x.me ≡ r → (q : BranchId) → x.parent ≡ Some q → ⊥
  top_not x began me q above =
      let one : x ≡ top.0 = trees.same_born (births_of t) said (known t whole) x top.0 began top.1 (me ∙ sym top.2) in
      let none : x.parent ≡ None = ap (λ (y : Born). y.parent) one ∙ top.3 in
      absurd (cc (above, none))

  beyond_heard : Heard p e r bound
  beyond_heard x edge = elim (beyond_is (births_of t) said (known t whole) x r edge) [
    | inl kid ↦ (let at = (edges_asked t whole u.node k may.up z z_live busy).1 x kid.0 in all_heard at.0 x at.1)
    | inr told ↦ (let its = trees.told_child (births_of t) said (known t whole) x r told in absurd (top_not its.0 its.1 its.2 x its.3))
  ]

  none_told : told_below said r ≡ None
  none_told = by (told_below said r) refl
    where
      by : (o : Option BranchId) → told_below said r ≡ o → o ≡ None
      by None is = refl
      by (Some c) is = absurd (no_walk c (told_sent said r c is))

  at_site : r ≡ site_of p r
  at_site = trees.end_is_site (births_of t) said (known t whole) top.0 r top.1 top.2 (ap (comes_to said r) top.3) none_told

  lives_on : exit e r ≡ None
  lives_on = all_found (λ (l : Live). exit e l.me ≡ None) live_id k.lives z.me z (nodes_are_as_events t whole u.node k may.up).0 z_live

  lawful_events : Lawful p e
  lawful_events = just_runs_are_lawful t p (runs_by_trees_are_just t whole p (runs_go_by_forest t whole))

  abbrev n : ℕ
  n = bound + 1

  abbrev more : List Event
  more = Decide r (p.root r) n [] ∷ e

  more_lawful : Lawful p more
  more_lawful = ((lives_on, at_site, (bound, omega arith, beyond_heard), refl), lawful_events)

  decided : exit more r ≡ Some (Decided n)
  decided = ap (λ o. first o (only_at r r (Decided n))) lives_on ∙ only_at_same r r (Decided n) refl

  other_exit : (c : BranchId) (x : Exit) → exit more c ≡ Some x → x ≢ Decided n → exit e c ≡ Some x
  other_exit c x left other = elim (exit_new (Decide r (p.root r) n []) e c x left) [ inl old ↦ old | inr new ↦ absurd (by (same r c) new.1) ]
    where
      by : (q : Bool) → (if q then Some (Decided n) else None) ≡ Some x → ⊥
      by true is = (let it : Some (Decided n) ≡ Some x = is in let here : Decided n ≡ x = cc in other (sym here))
      by false is = absurd cc

  -- each branch that was asked has left
  pub asked_left : (q c : BranchId) → was_asked said q c ≡ true → IsIn (births_of t) r c → (x : Exit) × (exit e c ≡ Some x) × (x ≢ Dropped)
  asked_left q c asked inside =
      let kid = (known t whole).child q c asked in
      let one : kid.0 ≡ inside.0 = trees.same_born (births_of t) said (known t whole) kid.0 inside.0 kid.1 inside.1 (kid.2 ∙ sym inside.2) in
      let above : inside.0.parent ≡ Some q = ap (λ (y : Born). y.parent) (sym one) ∙ kid.3 in
      let member : p.member c ≡ true = trees.member_of (births_of t) said (known t whole) inside.0 c inside.1 inside.2 (ap (asked_by said c) above ∙ asked) in
      let site : site_of p c ≡ r
      = trees.site_is (births_of t) said (known t whole) inside.0 c inside.1 inside.2 ∙ (ap (λ (b : BranchId). (p.site b)) (inside.3 ∙ sym top.4) ∙ (sym (trees.site_is (births_of t) said (known t whole) top.0 r top.1 top.2) ∙ sym at_site)) in
      elim (covered p more c n (runs_have_forests t whole) more_lawful (subst (λ b. exit more b ≡ Some (Decided n)) (sym site) decided) member) [
        | inl here ↦ absurd (top_not inside.0 inside.1 (inside.2 ∙ (here ∙ site)) q above)
        | inr so ↦ elim so.2 [
          | inl sealed ↦ (Sealed sealed.0, other_exit c (Sealed sealed.0) sealed.1 (λ is. absurd cc), (λ is. absurd cc))
          | inr quiet ↦ (Quiet, other_exit c Quiet quiet (λ is. absurd cc), (λ is. absurd cc))
        ]
      ]
