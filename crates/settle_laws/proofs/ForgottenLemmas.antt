-- Who told Forgotten to a neighbour beyond has forgotten.
use Rattle.std.proofs.Common.{◌≡◌, ℕ, ◌⊎◌, Bool, true, false, List, [], ◌∷◌, ◌++◌, Option, Some, None, inl, inr, refl, sym, ap, subst, ◌∙◌, append-nil}
use Rattle.std.specs.List.{AllByRecursion}
use Rattle.agreement.specs.Events.{Forest, Event, Decided, Quiet, Forget, Send_ack, Send_forgotten, Beyond, exit, Has, Knows}
use Rattle.agreement.proofs.Invariant.{Inv}
use Rattle.node_rules.specs.Data.{BranchId, Input, Kind, Msg, Place, Post}
use Rattle.node_rules.specs.Data.decisions
use Rattle.node_rules.specs.Data.inputs
use Rattle.node_rules.specs.Data.kinds
use Rattle.node_rules.specs.Data.records
use Rattle.node_rules.specs.Inputs.{Came}
use Rattle.node_rules.specs.NodeState.{NodeState, TurnDraft}
use Rattle.node_rules.specs.Turn.{Is_gone, status_of, stamped, turn_of, heard, draft_of, kind_turn, ack_turn}
use Rattle.run_rules.specs.Data.{Happening, Turn, Took}
use Rattle.run_rules.specs.Data.happenings
use Rattle.run_base_laws.specs.EventRows.{RowsAre, IsKeptIn, IsGoneForGood}
use Rattle.run_rules.specs.Facts.{Facts, place_at, node_at, facts_after}
use Rattle.run_rules.specs.Lawful.{IsOwed, MayHappen, MayTurn, Comes, History, IsLawfulRun}
use Rattle.run_base_laws.specs.NodeLaws.{unacked_row}
use Rattle.run_base_laws.specs.RunEvents.{with_event, wrote_event, message_event, with_messages, with_record, with_exits, lives_at, events_after, events_from, events_of}
use Rattle.run_base_laws.proofs.EventsStandLemmas.{nodes_are_as_events, run_stands}
use Rattle.run_branch_laws.proofs.GoneLemmas.{kept_not_gone, gone_are_done}
use Rattle.run_branch_laws.proofs.KeptRowLemmas.{any_map}
use Rattle.run_base_laws.proofs.LaterLemmas.{has_later, turn_added}
use Rattle.run_base_laws.proofs.LawfulLemmas.{serves}
use Rattle.run_rules.proofs.ListLemmas.{all_weaker, all_map}
use Rattle.run_base_laws.proofs.NodesStandLemmas.{stored_rows}
use Rattle.run_base_laws.proofs.SaidLemmas.{came_said}
use Rattle.run_base_laws.proofs.StoredLemmas.{records_are_kept}
use Rattle.run_branch_laws.proofs.TowardLemmas.{heard_rows}
use Rattle.tree_laws.specs.Forests.{forest_of}
use Rattle.tree_laws.proofs.DecidedRowLemmas.{IsAlone}
use Rattle.tree_laws.proofs.PrefixLemmas.{e_at, more_on}
use Rattle.tree_laws.proofs.TimeLemmas.{may_of, exit_on, keep_on}
use Rattle.tree_laws.proofs.MoreLemmas.{happening_added, lawful_at, inv_at}
use Rattle.commit_forget_laws.proofs.EventLemmas.{learn_knows}
use Rattle.commit_forget_laws.proofs.ForgetRunLemmas.{forgets_come_from_toward}
use Rattle.settle_laws.specs.ForgottenLaws.{TellersHaveForgotten, TowardHasForgotten}
use Rattle.commit_forget_laws.proofs.DecidedEndLemmas.{decided_at}
use Rattle.settle_laws.proofs.ForgotSayLemmas.{ForgottenSo, AllSo, Forgets, step_so, AckedSo, AckSo, ack_so}
use Rattle.tree_laws.proofs.AtTurn.{at_happening}
use Rattle.commit_forget_laws.proofs.SentBackLemmas.{leavers_back, wrote_back}
use Rattle.commit_forget_laws.proofs.RowRunLemmas.{ack_or_none}

heard_stand : (k : NodeState) (i : Input) (b : BranchId) → status_of (heard k i) b ≡ status_of k b
unfolding status_of
heard_stand k (inputs.Message m) b = refl
heard_stand k (inputs.Call n s) b = refl
heard_stand k (inputs.GiveUp n) b = refl
heard_stand k inputs.Reco b = refl
heard_stand k inputs.Checkpoint b = refl

-- ---- whence a Send_forgotten is

module _ (z q : BranchId) where
  abbrev Told : List Event → Type 0
  Told t = Has (Send_forgotten z q) t

  one_back : (e : Event) (t : List Event) → (e ≡ Send_forgotten z q → ⊥) → Told (e ∷ t) → Told t
  one_back e t other (inl here) = absurd (other here)
  one_back e t other (inr there) = there

  module _ (Q : BranchId → BranchId → Type 0) where
    message_back : (from to : BranchId) (scn : ℕ) (kind : Kind) (t : List Event) → ForgottenSo Q from to kind → Told (with_event (message_event from to scn kind) t) → Told t ⊎ Q z q
    message_back from to scn kinds.Forgotten t so (inl here) = (let me : from ≡ z = cc in let it : to ≡ q = cc in inr (subst (λ b. Q z b) it (subst (λ b. Q b to) me so)))
    message_back from to scn kinds.Forgotten t so (inr there) = inl there
    message_back from to scn kinds.Rollback t so has = inl (one_back _ t (λ no. absurd cc) has)
    message_back from to scn kinds.RolledBack t so has = inl (one_back _ t (λ no. absurd cc) has)
    message_back from to scn kinds.Prepared t so has = inl (one_back _ t (λ no. absurd cc) has)
    message_back from to scn kinds.CommitPoint t so has = inl (one_back _ t (λ no. absurd cc) has)
    message_back from to scn (kinds.Committed n) t so has = inl (one_back _ t (λ no. absurd cc) has)
    message_back from to scn kinds.Ack t so has = inl (one_back _ t (λ no. absurd cc) has)
    message_back from to scn _ t so has = inl has

    messages_back : (ms : List Msg) (t : List Event) → AllByRecursion (λ m. ForgottenSo Q m.from m.to m.kind) ms → Told (with_messages ms t) → Told t ⊎ Q z q
    messages_back [] t all has = inl has
    messages_back (m ∷ ms) t all has = elim (messages_back ms (with_event (message_event m.from m.to m.scn m.kind) t) all.1 has) [
      | inl earlier ↦ message_back m.from m.to m.scn m.kind t all.0 earlier
      | inr later ↦ inr later
    ]

so_weaker : (P Q : BranchId → BranchId → Type 0) → ((a b : BranchId) → P a b → Q a b) → (a b : BranchId) (kind : Kind) → ForgottenSo P a b kind → ForgottenSo Q a b kind
so_weaker P Q each a b kinds.Forgotten so = each a b so
so_weaker P Q each a b _ so = tt

module _ (t : History) (whole : IsLawfulRun t) where
  abbrev p : Forest
  p = forest_of t

  -- what who told so has
  abbrev pub Has_or_quiet : List Event → BranchId → BranchId → Type 0
  Has_or_quiet e f y = Beyond p y f → (exit e y ≡ Some Quiet) ⊎ Has (Forget f) e

  abbrev pub AllHave : List Event → Type 0
  AllHave e = (f y : BranchId) → Has (Send_forgotten f y) e → Has_or_quiet e f y

  module _ (hs : List Happening) (h : Happening) (rest : List Happening) (is : hs ++ h ∷ rest ≡ t.trace) (now : AllHave (e_at t hs)) where
    open at_happening t whole hs h rest is use {f, e, s, part, lawful}

    i : Inv p e
    i = inv_at t whole hs part

    abbrev events_h : Happening → List Event
    events_h y = events_after t.places t.commands f y e

    old : (y : Happening) (a b : BranchId) → Has (Send_forgotten a b) e → Has_or_quiet (events_h y) a b
    old y a b has edge = elim (now a b has edge) [
      | inl quiet ↦ inl (exit_on t.places t.commands f y e b Quiet quiet)
      | inr forgot ↦ inr (has_later (Forget a) (happening_added t.places t.commands f y e) forgot)
    ]

    -- a branch that is gone, and that one acknowledged to which it told the commit
    gone_forgot : (k : NodeState) (a b : BranchId) → node_at f a.node ≡ Some k → status_of k a ≡ Is_gone → Has (Send_ack b a) e → Has_or_quiet e a b
    gone_forgot k a b up gone acked edge = elim (i.acks b a acked edge) [
      | inr quiet ↦ inl quiet
      | inl learns ↦ elim (subst (λ c. Knows e c learns.0.0) edge.next (learn_knows p e (lawful_at t whole hs part) b learns.0.0 learns.0.1)) [
        | inl decided ↦ by_row (decided_at t whole a hs part learns.0.0 decided) decided
        | inr learnt ↦ (let sealed = i.learned_sealed a (decisions.Commit learns.0.0) learnt in
            elim (gone_are_done s lawful a k up gone sealed.0 sealed.1) [ inl rolled ↦ absurd (cc (learnt, rolled)) | inr forgot ↦ inr forgot ])
      ]
    ]
      where
        by_row : IsKeptIn a (stored_rows f a.node) ⊎ (IsGoneForGood e a ⊎ IsAlone p e a) → {n : ℕ} → exit e a ≡ Some (Decided n) → (exit e b ≡ Some Quiet) ⊎ Has (Forget a) e
        by_row (inl row) decided =
            absurd (kept_not_gone k a (sym (any_map a unacked_row (λ x. refl) k.stored.durable.kept) ∙ subst (λ x. IsKeptIn a x.durable.kept) (sym (records_are_kept s lawful a.node k up)) row) gone)
        by_row (inr (inl (inl rolled))) decided = (let sealed = (i.learned_sealed a decisions.Rollback rolled).1 in absurd (cc (sealed, decided)))
        by_row (inr (inl (inr forgot))) decided = inr forgot
        by_row (inr (inr alone)) decided = inl (alone b edge)

    module _ (u : Turn) (k : NodeState) (may : MayTurn t.places f u k) where
      abbrev place : Place
      place = place_at t.places u.node

      abbrev d : TurnDraft
      d = draft_of place k u.input

      abbrev g : Facts
      g = facts_after t.places t.commands f (happenings.Turn u)

      abbrev after : List Event
      after = events_h (happenings.Turn u)

      abbrev Q : BranchId → BranchId → Type 0
      Q a b = Has_or_quiet after a b

      later : (a b : BranchId) → Has_or_quiet e a b → Q a b
      later a b have edge = elim (have edge) [
        | inl quiet ↦ inl (exit_on t.places t.commands f (happenings.Turn u) e b Quiet quiet)
        | inr forgot ↦ inr (has_later (Forget a) (happening_added t.places t.commands f (happenings.Turn u) e) forgot)
      ]

      recorded : u.wrote ≡ d.wrote → (a b : BranchId) → d.wrote ≡ Some (records.Forgot a) → Q a b
      recorded wrote a b forgot edge =
          inr (has_later (Forget a) (turn_added f g u e) (subst (λ w. Has (Forget a) (with_event (wrote_event u.node w) e)) (sym (wrote ∙ forgot)) (inl refl)))

      module _ (wrote : u.wrote ≡ d.wrote) where
        by_step : ((from to : BranchId) → Came u.input from to kinds.Ack → ⊥) → AllSo Q d.says
        by_step never =
            all_weaker (λ (x : Post). ForgottenSo (Forgets place u.input never d.wrote) x.from x.to x.kind) (λ (x : Post). ForgottenSo Q x.from x.to x.kind)
            (λ x so. so_weaker (Forgets place u.input never d.wrote) Q (recorded wrote) x.from x.to x.kind so) d.says (step_so place u.input never (serves t.places f u k may).step)

        module _ (m : Msg) (it : u.input ≡ inputs.Message m) (kind : m.kind ≡ kinds.Ack) where
          abbrev k0 : NodeState
          k0 = heard k (inputs.Message m)

          rows : RowsAre e k0.stored.durable.kept
          rows = subst (RowsAre e) (sym (heard_rows k (inputs.Message m))) (nodes_are_as_events s lawful u.node k may.up).1

          came : Came u.input m.from m.to kinds.Ack
          came = record { scn = m.scn; is = it ∙ ap inputs.Message (ap (λ x. record { from = m.from; to = m.to; scn = m.scn; kind = x }) kind) }

          acked : Has (Send_ack m.from m.to) e
          acked = came_said f e (run_stands s lawful).2 k u.node u.input u.took may.comes m.from m.to kinds.Ack came

          here : m.to.node ≡ u.node
          here = by u.took (subst (λ x. Comes f k u.node x u.took) it may.comes)
            where
              by : (o : Option Took) → Comes f k u.node (inputs.Message m) o → m.to.node ≡ u.node
              by None none = absurd none
              by (Some x) comes = comes.1.here

          so : (a b : BranchId) → AckedSo e k0 m.from m.to rows d.wrote a b → Q a b
          so a b (inl forgot) = recorded wrote a b forgot
          so a b (inr (inl forgot)) = λ edge. inr (has_later (Forget a) (happening_added t.places t.commands f (happenings.Turn u) e) forgot)
          so a b (inr (inr gone)) =
              subst (λ x. Q x b) (sym gone.1) (subst (λ x. Q m.to x) (sym gone.2)
              (later m.to m.from (gone_forgot k m.to m.from (subst (λ n. node_at f n ≡ Some k) (sym here) may.up) (sym (heard_stand k (inputs.Message m) m.to) ∙ gone.0) acked)))

          by_ack : AllSo Q d.says
          by_ack =
              let plain : AckSo e k0 m.from m.to rows (ack_turn k0 m.from m.to (status_of k0 m.to)) = ack_so e k0 m.from m.to rows in
              let same_turn : AckSo e k0 m.from m.to rows (kind_turn place k0 m.from m.to m.kind (status_of k0 m.to)) = subst (λ x. AckSo e k0 m.from m.to rows (kind_turn place k0 m.from m.to x (status_of k0 m.to))) (sym kind) plain in
              let its : AckSo e k0 m.from m.to rows d = subst (λ x. AckSo e k0 m.from m.to rows (draft_of place k x)) (sym it) same_turn in
              all_weaker (λ (x : Post). ForgottenSo (AckedSo e k0 m.from m.to rows d.wrote) x.from x.to x.kind) (λ (x : Post). ForgottenSo Q x.from x.to x.kind)
              (λ x y. so_weaker (AckedSo e k0 m.from m.to rows d.wrote) Q so x.from x.to x.kind y) d.says its

      sent_so : (cut : Bool) → IsOwed place k u.input u.wrote u.sent cut → AllByRecursion (λ (m : Msg). ForgottenSo Q m.from m.to m.kind) u.sent
      unfolding turn_of
      sent_so true owed = subst (AllByRecursion (λ (m : Msg). ForgottenSo Q m.from m.to m.kind)) (sym owed.1) tt
      sent_so false owed = subst (AllByRecursion (λ (m : Msg). ForgottenSo Q m.from m.to m.kind)) (sym owed.1) (all_map (λ (m : Msg). ForgottenSo Q m.from m.to m.kind) (stamped d.after.clock) d.says (ack_or_none u.input (by_step owed.0) (by_ack owed.0)))

      turn_have : AllHave after
      turn_have a b has = elim (messages_back a b Q u.sent (with_exits f g u e) (sent_so u.cut may.owed) has) [
        | inl before ↦ old (happenings.Turn u) a b (wrote_back (Send_forgotten a b) refl u.node u.wrote e (leavers_back (Send_forgotten a b) refl (lives_at (node_at g u.node)) u.sent (lives_at (node_at f u.node)) (with_record u e) before))
        | inr said ↦ said
      ]

    have_by : (y : Happening) → MayHappen t.places t.commands f y → AllHave (events_h y)
    have_by (happenings.Turn u) may = turn_have u may.0 may.1
    have_by (happenings.Stopped m) may = λ a b has. old (happenings.Stopped m) a b (leavers_back (Send_forgotten a b) refl [] [] (lives_at (node_at f m)) e has)
    have_by (happenings.Started m boot) may = λ a b has. old (happenings.Started m boot) a b has
    have_by (happenings.Begun c) may = λ a b has. old (happenings.Begun c) a b has
    have_by (happenings.Cut x y) may = λ a b has. old (happenings.Cut x y) a b has
    have_by (happenings.Join x y) may = λ a b has. old (happenings.Join x y) a b has
    have_by (happenings.Lost c) may = λ a b has. old (happenings.Lost c) a b has

    have_on : AllHave (e_at t (hs ++ h ∷ []))
    have_on = subst AllHave (sym (more_on t hs h)) (have_by h (may_of t whole hs h rest is))

  first_have : AllHave (e_at t [])
  unfolding events_from
  first_have a b none = absurd none

  pub all_have : AllHave (events_of t)
  all_have = keep_on t whole (λ hs. AllHave (e_at t hs)) have_on [] t.trace (record { rest = []; is = append-nil t.trace }) first_have

pub tellers_have_forgotten : TellersHaveForgotten
tellers_have_forgotten t whole f y has edge = all_have t whole f y has edge

pub toward_has_forgotten : TowardHasForgotten
toward_has_forgotten t whole y has sealed =
    let i : Inv (forest_of t) (events_of t) = inv_at t whole t.trace (record { rest = []; is = append-nil t.trace }) in
    let place = i.sealed_in y sealed.0 sealed.1 in
    elim (all_have t whole ((forest_of t).toward y) y (forgets_come_from_toward t whole y has sealed) (record { member = place.0; not_site = place.1; next = refl })) [
      | inl quiet ↦ (let it = sealed.1 in absurd (cc (quiet, it)))
      | inr forgot ↦ forgot
    ]
