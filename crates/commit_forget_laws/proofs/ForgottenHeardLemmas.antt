-- In every lawful run a sealed branch to which Forgotten was delivered from toward has forgotten, unless its node has stopped.
use Rattle.std.proofs.Common.{◌≡◌, ◌≢◌, ℕ, ◌⊎◌, ◌&&◌, not, Bool, true, false, if◌then◌else◌, [], ◌∷◌, Option, Some, None, inl, inr, refl, sym, ap, subst, ◌∙◌}
use Rattle.std.proofs.lemmas.List.{append_assoc}
use Rattle.tran_ids.proofs.BranchLemmas.{same_from_equal}
use Rattle.commit_forget.specs.declared.next.Next.TheVariants as nexts
use Rattle.commit_forget.specs.Next.{knows_commit, next_on_forgotten}
use Rattle.session_tree.specs.Live.{is_branch}
use Rattle.agreement.specs.Events.{Forest, Sealed, Quiet, Forget, Send_forgotten, Beyond, exit, learned, Has, Knows}
use Rattle.agreement.proofs.Invariant.{Inv}
use Rattle.node_rules.specs.Data.{Input, Kind, Msg, KeptRow}
use Rattle.node_rules.specs.Data.decisions
use Rattle.node_rules.specs.Data.inputs
use Rattle.node_rules.specs.Data.kinds
use Rattle.node_rules.specs.Data.records
use Rattle.node_rules.specs.NodeState.{NodeState, Branch, TurnDraft, kept_row_id, branch_at, kept_row_at}
use Rattle.node_rules.specs.Commit.{next_turn, on_forgotten}
use Rattle.node_rules.specs.Turn.{Is_gone, live_or, status_of, turn_of, heard, draft_of, kind_turn, forgotten_turn}
use Rattle.run_base_laws.specs.EventRows.{RowIs}
use Rattle.run_rules.specs.Facts.{node_at, kept_after, facts_after}
use Rattle.run_rules.specs.Lawful.{IsOwed, History, IsLawfulRun, facts_at}
use Rattle.run_base_laws.specs.RunEvents.{with_event, wrote_event, with_record, events_of}
use Rattle.run_base_laws.proofs.EventsStandLemmas.{run_stands}
use Rattle.run_branch_laws.proofs.GoneLemmas.{gone_are_done}
use Rattle.run_base_laws.proofs.LaterLemmas.{exit_later, has_later, turn_added}
use Rattle.run_rules.proofs.ListLemmas.{all_weaker}
use Rattle.run_base_laws.proofs.OwnLemmas.{all_found}
use Rattle.run_base_laws.proofs.SaidLemmas.{came_said}
use Rattle.tree_laws.specs.Forests.{forest_of}
use Rattle.tree_laws.proofs.PrefixLemmas.{f_at, e_at, more_on}
use Rattle.tree_laws.proofs.TimeLemmas.{part_on}
use Rattle.commit_laws.specs.DeliveryLaws.{CameInTurn}
use Rattle.commit_laws.specs.WaitLaws.{NodeHasStopped}
use Rattle.commit_laws.proofs.CameLemmas.{deliveries_came}
use Rattle.commit_laws.proofs.StopLemmas.{stopped_end}
use Rattle.commit_forget_laws.specs.RowLaws.{IsSealed}
use Rattle.commit_forget_laws.specs.ForgetLaws.{is_forgotten, ForgottensAreHeard}
use Rattle.tree_laws.proofs.MoreLemmas.{added_end}
use Rattle.tree_laws.proofs.FitRowLemmas.{RowFits, rows_fit}
use Rattle.commit_forget_laws.proofs.CameHereLemmas as here
use Rattle.commit_forget_laws.proofs.CameHereLemmas.{knows_it}
use Rattle.tree_laws.proofs.AtTurn.{at_turn}

module _ (t : History) (whole : IsLawfulRun t) (m : Msg) (came : CameInTurn t.trace m) where
  open came use {before as hs, turn as u}
  open m use {to as b}
  open at_turn t whole came.before came.turn came.later came.is use {h, s, f, e, after, part, lawful, may, k, p as place}

  abbrev p : Forest
  p = forest_of t

  abbrev k0 : NodeState
  k0 = heard k (inputs.Message m)

  abbrev d : TurnDraft
  d = draft_of place k (inputs.Message m)

  i : Inv p e
  i = here.i t whole m came

  rolled_none : (n : ℕ) → Knows e b n → learned e b ≡ Some decisions.Rollback → ⊥
  rolled_none n knows rolled = here.rolled_none t whole m came n knows rolled

  row_is : (r : KeptRow) → kept_row_at k b ≡ Some r → RowIs e r
  row_is r at = here.row_is t whole m came r at

  row_me : (r : KeptRow) → kept_row_at k b ≡ Some r → r.me ≡ b
  row_me r at = here.row_me t whole m came r at

  module _ (kind : m.kind ≡ kinds.Forgotten) (edge : Beyond p m.to m.from) (sealed : IsSealed (events_of t) m.to) where
    told : Has (Send_forgotten m.from b) e
    told = came_said f e (run_stands s lawful).2 k u.node u.input u.took may.1.comes m.from b kinds.Forgotten (here.came_so t whole m came kinds.Forgotten kind)

    no_quiet : exit e b ≡ Some Quiet → ⊥
    no_quiet quiet = (let at : exit (events_of t) b ≡ Some Quiet = exit_later b Quiet (added_end t whole hs part) quiet in let is = sealed.1 in absurd (cc (at, is)))

    -- the branch learned the commit
    learnt_it : (n : ℕ) × (learned e b ≡ Some (decisions.Commit n))
    learnt_it = elim (i.forgottens m.from b told edge) [
      | inl acked ↦ elim (i.acks b m.from acked edge) [ inl it ↦ it.0 | inr quiet ↦ absurd (no_quiet quiet) ]
      | inr quiet ↦ absurd (no_quiet quiet)
    ]

    knows_so : Knows e b learnt_it.0
    knows_so = inr learnt_it.1

    sealed_e : (n : ℕ) × (exit e b ≡ Some (Sealed n))
    sealed_e = i.learned_sealed b (decisions.Commit learnt_it.0) learnt_it.1

    some_exit : exit e b ≢ None
    some_exit = here.left_before t whole m came learnt_it.0 knows_so

    abbrev Forgets : TurnDraft → Type 0
    Forgets y = Has (Forget b) e ⊎ (y.wrote ≡ Some (records.Forgot b))

    module _ (r : KeptRow) (at : kept_row_at k b ≡ Some r) where
      its_commit : knows_commit r.decision ≡ true
      its_commit = knows_it e r r.decision learnt_it.0 (row_is r at).known (subst (λ c. Knows e c learnt_it.0) (sym (row_me r at)) knows_so)
          (λ rolled. rolled_none learnt_it.0 knows_so (subst (λ c. learned e c ≡ Some decisions.Rollback) (row_me r at) rolled))

      way : RowFits p b r.toward
      way = subst (λ c. RowFits p c r.toward) (row_me r at) (all_found (λ (z : KeptRow). RowFits p z.me z.toward) kept_row_id k.stored.durable.kept b r (rows_fit t whole hs part u.node k may.1.up) at)

      of_toward : is_branch m.from r.toward ≡ true
      of_toward = elim way [
        | inl on ↦ ap (is_branch m.from) on.0 ∙ same_from_equal (p.toward b) m.from edge.next
        | inr site ↦ absurd (edge.not_site site.1)
      ]

      forgets_row : Forgets (on_forgotten k0 r m.from)
      unfolding next_on_forgotten
      forgets_row = by r.forgot refl (knows_commit r.decision) its_commit (is_branch m.from r.toward) of_toward
        where
          by : (q : Bool) → r.forgot ≡ q → (c : Bool) → c ≡ true → (w : Bool) → w ≡ true → Forgets (next_turn k0 r m.from (if c && (w && not q) then nexts.Forget else nexts.Rest))
          by true is c knows w on = inl (subst (λ z. Has (Forget z) e) (row_me r at) ((row_is r at).forgot is))
          by false is true knows true on = inr (ap (λ z. Some (records.Forgot z)) (row_me r at))
          by false is false knows w on = absurd cc
          by false is true knows false on = absurd cc

    gone_forgot : status_of k b ≡ Is_gone → Has (Forget b) e
    gone_forgot gone = elim (gone_are_done s lawful b k (here.up t whole m came) gone sealed_e.0 sealed_e.1) [ inl rolled ↦ absurd (rolled_none learnt_it.0 knows_so rolled) | inr forgot ↦ forgot ]

    is_gone_so : branch_at k0 b ≡ None → kept_row_at k b ≡ None → status_of k b ≡ Is_gone
    unfolding status_of
    is_gone_so live row = by (branch_at k b) (kept_row_at k b) live row
      where
        by : (o : Option Branch) (q : Option KeptRow) → o ≡ None → q ≡ None → live_or o q ≡ Is_gone
        by None None is it = refl
        by (Some z) q is it = absurd cc
        by None (Some z) is it = absurd cc

    forgets_by : (o : Option Branch) (q : Option KeptRow) → branch_at k0 b ≡ o → kept_row_at k b ≡ q → Forgets (forgotten_turn k0 m.from (live_or o q))
    forgets_by (Some z) q live at = absurd (some_exit (here.lives t whole m came z live))
    forgets_by None None live at = inl (gone_forgot (is_gone_so live at))
    forgets_by None (Some r) live at = forgets_row r at

    forgets_done : Forgets (forgotten_turn k0 m.from (status_of k0 b))
    unfolding status_of
    forgets_done = forgets_by (branch_at k0 b) (kept_row_at k b) refl refl

    draft_forgets : Forgets d
    draft_forgets = subst (λ (y : Kind). Forgets (kind_turn place k0 m.from m.to y (status_of k0 m.to))) (sym kind) forgets_done

    to_end : Has (Forget b) (e_at t after) → Has (Forget b) (events_of t)
    to_end has = has_later (Forget b) (added_end t whole after (part_on t whole hs h came.later came.is)) has

    with_it : u.wrote ≡ Some (records.Forgot b) → Has (Forget b) (e_at t after)
    with_it wrote =
        let now : Has (Forget b) (with_record u e) = subst (λ w. Has (Forget b) (with_event (wrote_event u.node w) e)) (sym wrote) (inl refl) in
        subst (Has (Forget b)) (sym (more_on t hs h)) (has_later (Forget b) (turn_added f (facts_after t.places t.commands f h) u e) now)

    by_cut_so : (cut : Bool) → u.cut ≡ cut → IsOwed place k u.input u.wrote u.sent cut → Has (Forget b) (events_of t) ⊎ NodeHasStopped (facts_at t) b
    unfolding turn_of
    by_cut_so true cut owed =
        let down : node_at (f_at t after) b.node ≡ None = here.left t whole m came ∙ ap (λ c. kept_after c (Some (turn_of place k (inputs.Message m)))) cut in
        inr (stopped_end t whole b after came.later (append_assoc hs (h ∷ []) came.later ∙ came.is) (here.left_after t whole m came some_exit) (λ j there. absurd (cc (down, there))))
    by_cut_so false cut owed = elim draft_forgets [
      | inl old ↦ inl (has_later (Forget b) (added_end t whole hs part) old)
      | inr new ↦ (let wrote : u.wrote ≡ Some (records.Forgot b) = owed.0 ∙ (ap (λ (y : Input). (draft_of place k y).wrote) came.input ∙ new) in inl (to_end (with_it wrote)))
    ]

    pub forgotten_heard : Has (Forget m.to) (events_of t) ⊎ NodeHasStopped (facts_at t) m.to
    forgotten_heard = by_cut_so u.cut refl may.1.owed

forgotten_kind : (kind : Kind) → is_forgotten kind ≡ true → kind ≡ kinds.Forgotten
forgotten_kind kinds.Forgotten is = refl
forgotten_kind _ is = absurd cc

pub forgottens_are_heard : ForgottensAreHeard
forgottens_are_heard t whole = all_weaker _ _ (λ x so fate is edge sealed. forgotten_heard t whole x.msg (so fate) (forgotten_kind x.msg.kind is) edge sealed) (facts_at t).net.packets (deliveries_came t whole)
