-- Who tells a rollback is live no more.
use Rattle.std.proofs.Common.{◌≡◌, ◌≢◌, ℕ, ◌⊎◌, true, List, [], ◌∷◌, ◌++◌, Option, Some, None, inl, inr, refl, sym, subst, append-nil}
use Rattle.std.specs.List.{AllByRecursion}
use Rattle.tran_ids.proofs.ListedLemmas.{item_is}
use Rattle.agreement.specs.Events.{Event, Exit, Sealed, Decided, Quiet, Dropped, Forget, Send_rollback, exit, Has}
use Rattle.agreement.proofs.Invariant.{Inv}
use Rattle.node_rules.specs.Data.{BranchId, Kind, Msg, KeptRow}
use Rattle.node_rules.specs.Data.decisions
use Rattle.node_rules.specs.Data.kinds
use Rattle.node_rules.specs.NodeState.{NodeState, kept_row_id}
use Rattle.run_rules.specs.Data.{Happening, Turn}
use Rattle.run_rules.specs.Data.happenings
use Rattle.run_base_laws.specs.EventLaws.{EachEventFrom}
use Rattle.run_base_laws.specs.EventRows.{RowIs}
use Rattle.run_rules.specs.Facts.{Facts, first_facts, node_at, facts_after}
use Rattle.run_rules.specs.Lawful.{MayHappen, History, IsLawfulRun, facts_at}
use Rattle.run_branch_laws.specs.RowSayLaws.{IsOver, RollbackIs, SaysByRow, TellsByRow}
use Rattle.run_base_laws.specs.RunEvents.{with_event, message_event, with_messages, with_record, with_exits, lives_at, events_after, events_from, events_of}
use Rattle.run_base_laws.proofs.EventsStandLemmas.{nodes_are_as_events, run_stands}
use Rattle.run_base_laws.proofs.LaterLemmas.{Added, Later, exit_later, has_later, learned_later, messages_added}
use Rattle.run_rules.proofs.ListLemmas.{all_weaker}
use Rattle.run_base_laws.proofs.OwnLemmas.{all_found}
use Rattle.run_branch_laws.proofs.RowSayStandLemmas.{turns_tell_by_rows}
use Rattle.run_base_laws.proofs.SaidLemmas.{Stands}
use Rattle.tree_laws.specs.Forests.{forest_of}
use Rattle.tree_laws.proofs.PrefixLemmas.{e_at, more_on}
use Rattle.tree_laws.proofs.TimeLemmas.{part_on, may_of, each_at, exit_on, keep_on}
use Rattle.tree_laws.proofs.MoreLemmas.{inv_at}
use Rattle.commit_forget_laws.proofs.EventLemmas.{forgot_left}
use Rattle.settle_laws.specs.OverLaws.{is_rollback, RollersHaveLeft}
use Rattle.tree_laws.proofs.AtTurn.{at_happening}
use Rattle.commit_forget_laws.proofs.SentBackLemmas.{leavers_back, wrote_back}

-- it has some exit
abbrev pub HasLeft : List Event → BranchId → Type 0
HasLeft t b = (z : Exit) × (exit t b ≡ Some z)

pub some_exit : (t : List Event) (b : BranchId) → exit t b ≢ None → HasLeft t b
some_exit t b some = by (exit t b) refl
  where
    by : (o : Option Exit) → exit t b ≡ o → HasLeft t b
    by None none = absurd (some none)
    by (Some z) is = (z, is)

-- ---- whence a Send_rollback is

module _ (z q : BranchId) where
  abbrev Told : List Event → Type 0
  Told t = Has (Send_rollback z q) t

  one_back : (e : Event) (t : List Event) → (e ≡ Send_rollback z q → ⊥) → Told (e ∷ t) → Told t
  one_back e t other (inl here) = absurd (other here)
  one_back e t other (inr there) = there

  module _ (P : BranchId → BranchId → Kind → Type 0) where
    abbrev By : Type 0
    By = P z q kinds.Rollback ⊎ P z q kinds.RolledBack

    message_back : (from to : BranchId) (scn : ℕ) (kind : Kind) (t : List Event) → P from to kind → Told (with_event (message_event from to scn kind) t) → Told t ⊎ By
    message_back from to scn kinds.Rollback t so (inl here) = (let me : from ≡ z = cc in let it : to ≡ q = cc in inr (inl (subst (λ b. P z b kinds.Rollback) it (subst (λ b. P b to kinds.Rollback) me so))))
    message_back from to scn kinds.Rollback t so (inr there) = inl there
    message_back from to scn kinds.RolledBack t so (inl here) = (let me : from ≡ z = cc in let it : to ≡ q = cc in inr (inr (subst (λ b. P z b kinds.RolledBack) it (subst (λ b. P b to kinds.RolledBack) me so))))
    message_back from to scn kinds.RolledBack t so (inr there) = inl there
    message_back from to scn kinds.Prepared t so has = inl (one_back _ t (λ no. absurd cc) has)
    message_back from to scn kinds.CommitPoint t so has = inl (one_back _ t (λ no. absurd cc) has)
    message_back from to scn (kinds.Committed n) t so has = inl (one_back _ t (λ no. absurd cc) has)
    message_back from to scn kinds.Ack t so has = inl (one_back _ t (λ no. absurd cc) has)
    message_back from to scn kinds.Forgotten t so has = inl (one_back _ t (λ no. absurd cc) has)
    message_back from to scn _ t so has = inl has

    messages_back : (ms : List Msg) (t : List Event) → AllByRecursion (λ m. P m.from m.to m.kind) ms → Told (with_messages ms t) → Told t ⊎ By
    messages_back [] t all has = inl has
    messages_back (m ∷ ms) t all has = elim (messages_back ms (with_event (message_event m.from m.to m.scn m.kind) t) all.1 has) [
      | inl earlier ↦ message_back m.from m.to m.scn m.kind t all.0 earlier
      | inr later ↦ inr later
    ]

module _ (t : History) (whole : IsLawfulRun t) where
  abbrev pub RollersLeft : List Event → Type 0
  RollersLeft e = (z q : BranchId) → Has (Send_rollback z q) e → HasLeft e z

  module _ (hs : List Happening) (h : Happening) (rest : List Happening) (is : hs ++ h ∷ rest ≡ t.trace) (now : RollersLeft (e_at t hs)) where
    open at_happening t whole hs h rest is use {f, e, s, lawful}

    abbrev events_h : Happening → List Event
    events_h y = events_after t.places t.commands f y e

    later_inv : Inv (forest_of t) (events_h h)
    later_inv = subst (Inv (forest_of t)) (more_on t hs h) (inv_at t whole (hs ++ h ∷ []) (part_on t whole hs h rest is))

    old : (y : Happening) (z q : BranchId) → Has (Send_rollback z q) e → HasLeft (events_h y) z
    old y z q has = (let left = now z q has in (left.0, exit_on t.places t.commands f y e z left.0 left.1))

    module _ (u : Turn) (k : NodeState) (up : node_at f u.node ≡ Some k) (turn : h ≡ happenings.Turn u) where
      abbrev g : Facts
      g = facts_after t.places t.commands f (happenings.Turn u)

      abbrev r : List Event
      r = with_exits f g u e

      abbrev ks : List KeptRow
      ks = k.stored.durable.kept

      inv_now : Inv (forest_of t) (events_h (happenings.Turn u))
      inv_now = subst (λ y. Inv (forest_of t) (events_h y)) turn later_inv

      told : AllByRecursion (λ m. SaysByRow e r ks m.from m.to m.kind) u.sent
      told =
          let each : TellsByRow t.places t.commands f e h
          = each_at t.places t.commands (TellsByRow t.places t.commands) (first_facts t.places) hs h rest [] (subst (EachEventFrom (TellsByRow t.places t.commands) t.places t.commands (first_facts t.places) []) (sym is) (turns_tell_by_rows t whole)) in
          subst (TellsByRow t.places t.commands f e) turn each k up

      more : Added (Later [] []) r (events_h (happenings.Turn u))
      more = messages_added [] [] u.sent r

      over : (z : BranchId) → IsOver r z → HasLeft (events_h (happenings.Turn u)) z
      over z (inl (inl dropped)) = (Dropped, exit_later z Dropped more dropped)
      over z (inl (inr (inl quiet))) = (Quiet, exit_later z Quiet more quiet)
      over z (inl (inr (inr (inl learns)))) = (let sealed = inv_now.learned_sealed z decisions.Rollback (learned_later z decisions.Rollback more learns) in (Sealed sealed.0, sealed.1))
      over z (inl (inr (inr (inr forgot)))) = some_exit (events_h (happenings.Turn u)) z (forgot_left (forest_of t) (events_h (happenings.Turn u)) inv_now z (has_later (Forget z) more forgot))
      over z (inr decided) = (Decided decided.0, exit_later z (Decided decided.0) more decided.1)

      rolled : (z q : BranchId) → RollbackIs r ks z q → HasLeft (events_h (happenings.Turn u)) z
      rolled z q (inl is_over) = over z is_over
      rolled z q (inr row) =
          let kept : RowIs e row.0 = all_found (RowIs e) kept_row_id ks z row.0 (nodes_are_as_events s lawful u.node k up).1 row.1 in
          let left = some_exit e row.0.me kept.left in
          subst (HasLeft (events_h (happenings.Turn u))) (item_is kept_row_id ks z row.0 row.1) (left.0, exit_on t.places t.commands f (happenings.Turn u) e row.0.me left.0 left.1)

      turn_left : RollersLeft (events_h (happenings.Turn u))
      turn_left z q has = elim (messages_back z q (SaysByRow e r ks) u.sent r told has) [
        | inl before ↦ old (happenings.Turn u) z q (wrote_back (Send_rollback z q) refl u.node u.wrote e (leavers_back (Send_rollback z q) refl (lives_at (node_at g u.node)) u.sent (lives_at (node_at f u.node)) (with_record u e) before))
        | inr (inl said) ↦ rolled z q said
        | inr (inr said) ↦ rolled z q said
      ]

    left_by : (y : Happening) → h ≡ y → MayHappen t.places t.commands f y → RollersLeft (events_h y)
    left_by (happenings.Turn u) turn may = turn_left u may.0 may.1.up turn
    left_by (happenings.Stopped m) it may = λ z q has. old (happenings.Stopped m) z q (leavers_back (Send_rollback z q) refl [] [] (lives_at (node_at f m)) e has)
    left_by (happenings.Started m boot) it may = λ z q has. old (happenings.Started m boot) z q has
    left_by (happenings.Begun c) it may = λ z q has. old (happenings.Begun c) z q has
    left_by (happenings.Cut a b) it may = λ z q has. old (happenings.Cut a b) z q has
    left_by (happenings.Join a b) it may = λ z q has. old (happenings.Join a b) z q has
    left_by (happenings.Lost c) it may = λ z q has. old (happenings.Lost c) z q has

    left_on : RollersLeft (e_at t (hs ++ h ∷ []))
    left_on = subst RollersLeft (sym (more_on t hs h)) (left_by h refl (may_of t whole hs h rest is))

  first_left : RollersLeft (e_at t [])
  unfolding events_from
  first_left z q none = absurd none

  pub rollers_left : RollersLeft (events_of t)
  rollers_left = keep_on t whole (λ hs. RollersLeft (e_at t hs)) left_on [] t.trace (record { rest = []; is = append-nil t.trace }) first_left

pub rollers_have_left : RollersHaveLeft
rollers_have_left t whole = all_weaker _ _ (λ x said. by x.msg.from x.msg.to x.msg.scn x.msg.kind said) (facts_at t).net.packets (run_stands t whole).2
  where
    some : (from to : BranchId) → Has (Send_rollback from to) (events_of t) → exit (events_of t) from ≢ None
    some from to has none = (let left = (rollers_left t whole from to has).1 in absurd (cc (none, left)))

    by : (from to : BranchId) (scn : ℕ) (kind : Kind) → Stands (events_of t) (message_event from to scn kind) → is_rollback kind ≡ true → exit (events_of t) from ≢ None
    by from to scn kinds.Rollback said is = some from to said
    by from to scn kinds.RolledBack said is = some from to said
    by from to scn _ said is = absurd cc
