-- In every lawful run an Ack that was delivered, of a sealed neighbour beyond, is held by the row of its receiver, unless the node has
-- stopped.
use Rattle.std.proofs.Common.{◌≡◌, ◌≢◌, ℕ, ◌+◌, ◌≤◌, ◌&&◌, Bool, true, false, if◌then◌else◌, List, [], ◌∷◌, is_none, Option, Some, None, inl, inr, refl, sym, ap, subst, ◌∙◌, arith}
use Rattle.std.specs.Prelude.{IfSome}
use Rattle.std.proofs.lemmas.Bool.{cond_both}
use Rattle.std.proofs.lemmas.List.{append_assoc}
use Rattle.commit_forget.specs.declared.next.Next.TheVariants as nexts
use Rattle.commit_forget.specs.Beyond.{all_acked, is_beyond}
use Rattle.commit_forget.specs.Next.{knows_commit, ack_counts, acked_by, next_on_ack}
use Rattle.agreement.specs.Events.{Forest, Event, Quiet, Send_ack, Beyond, exit, learned, Has, Knows}
use Rattle.agreement.proofs.Invariant.{Inv}
use Rattle.node_rules.specs.Data.{BranchId, Input, Kind, Msg, RedoRecord, KeptRow}
use Rattle.node_rules.specs.Data.decisions
use Rattle.node_rules.specs.Data.inputs
use Rattle.node_rules.specs.Data.kinds
use Rattle.node_rules.specs.Data.records
use Rattle.node_rules.specs.Words.{item_at, put_item}
use Rattle.node_rules.specs.NodeState.{NodeState, Branch, TurnDraft, kept_row_id, live_id, branch_at, kept_row_at, with_kept_row, nothing}
use Rattle.node_rules.specs.Commit.{next_turn, counts_ack, on_ack}
use Rattle.node_rules.specs.Turn.{live_or, status_of, turn_of, heard, draft_of, kind_turn, ack_turn}
use Rattle.run_rules.specs.Data.happenings
use Rattle.run_base_laws.specs.EventRows.{RowIs, MayStand}
use Rattle.run_rules.specs.Facts.{place_at, node_at, kept_after}
use Rattle.run_rules.specs.Lawful.{History, IsLawfulRun, facts_at}
use Rattle.run_base_laws.specs.NodeLaws.{count_of}
use Rattle.run_base_laws.specs.RunEvents.{events_of}
use Rattle.run_base_laws.proofs.EventsStandLemmas.{run_stands, tells_so}
use Rattle.run_base_laws.proofs.FreshLemmas.{ids_are_fresh}
use Rattle.run_base_laws.proofs.LaterLemmas.{exit_later}
use Rattle.run_base_laws.proofs.LawfulLemmas.{serves}
use Rattle.run_rules.proofs.ListLemmas.{all_weaker}
use Rattle.run_base_laws.proofs.SaidLemmas.{came_said}
use Rattle.tree_laws.specs.Forests.{forest_of}
use Rattle.tree_laws.proofs.PrefixLemmas.{so_far, f_at, e_at}
use Rattle.tree_laws.proofs.TimeLemmas.{part_of, part_lawful}
use Rattle.commit_laws.specs.DeliveryLaws.{CameInTurn}
use Rattle.commit_laws.proofs.CameLemmas.{deliveries_came}
use Rattle.commit_laws.proofs.UnlessStoppedLemmas.{Here, TurnsKeep, here_end}
use Rattle.commit_forget_laws.specs.RowLaws.{IsSealed}
use Rattle.commit_forget_laws.specs.ForgetLaws.{HoldsAck, IsNoted, AcksAreNoted}
use Rattle.tree_laws.proofs.MoreLemmas.{added_end, lawful_at}
use Rattle.commit_forget_laws.proofs.EventLemmas.{learn_knows}
use Rattle.commit_forget_laws.proofs.NotedStepLemmas.{Holds, Held, NotNew, recorded, held_on, put_once, now_held, none_named}
use Rattle.commit_forget_laws.proofs.FoundRowLemmas.{rows_found}
use Rattle.commit_forget_laws.proofs.RowStepLemmas.{Found}
use Rattle.commit_forget_laws.proofs.CameHereLemmas as here
use Rattle.commit_forget_laws.proofs.CameHereLemmas.{knows_it}
use Rattle.tree_laws.proofs.AtTurn.{at_turn}
use Rattle.commit_forget_laws.proofs.RowRunLemmas.{ack_is as acks_kind}

module _ (t : History) (whole : IsLawfulRun t) (m : Msg) (came : CameInTurn t.trace m) where
  open came use {before as hs, turn as u}
  open m use {to as b}
  open at_turn t whole came.before came.turn came.later came.is use {h, s, f, e, after, part, lawful, may, k, p as place}

  abbrev p : Forest
  p = forest_of t

  abbrev k0 : NodeState
  k0 = heard k (inputs.Message m)

  abbrev d : TurnDraft
  d = draft_of place k (inputs.Message m)

  i : Inv p e
  i = here.i t whole m came

  rolled_none : (n : ℕ) → Knows e b n → learned e b ≡ Some decisions.Rollback → ⊥
  rolled_none n knows rolled = here.rolled_none t whole m came n knows rolled

  row_is : (r : KeptRow) → kept_row_at k b ≡ Some r → RowIs e r
  row_is r at = here.row_is t whole m came r at

  row_me : (r : KeptRow) → kept_row_at k b ≡ Some r → r.me ≡ b
  row_me r at = here.row_me t whole m came r at

  module _ (kind : m.kind ≡ kinds.Ack) (edge : Beyond p m.from m.to) (sealed : IsSealed (events_of t) m.from) where
    abbrev x : BranchId
    x = m.from

    sent : Has (Send_ack x b) e
    sent = came_said f e (run_stands s lawful).2 k u.node u.input u.took may.1.comes x b kinds.Ack (here.came_so t whole m came kinds.Ack kind)

    -- its sender learned the commit, of the receiver
    learnt : (n : ℕ) × (learned e x ≡ Some (decisions.Commit n))
    learnt = elim (i.acks x b sent edge) [
      | inl acked ↦ acked.0
      | inr quiet ↦ (let at : exit (events_of t) x ≡ Some Quiet = exit_later x Quiet (added_end t whole hs part) quiet in let is = sealed.1 in absurd (cc (at, is)))
    ]

    knows : Knows e b learnt.0
    knows = subst (λ c. Knows e c learnt.0) edge.next (learn_knows p e (lawful_at t whole hs part) x learnt.0 learnt.1)

    some : exit e b ≢ None
    some = here.left_before t whole m came learnt.0 knows

    abbrev Q : NodeState → Type 0
    Q j = Held x b j.stored.durable.kept

    found : Found k.stored.durable.kept
    found = rows_found s lawful u.node k may.1.up

    once : count_of kept_row_id b k.stored.durable.kept ≤ 1
    once = (let one : count_of kept_row_id b k.stored.durable.kept + count_of live_id b k.lives ≤ 1 = ids_are_fresh s lawful u.node k may.1.up b in omega (arith, one))

    -- no row of another
    rows_by : (o : Option KeptRow) → kept_row_at k b ≡ o → ((r : KeptRow) → o ≡ Some r → HoldsAck x r) → Held x b k.stored.durable.kept
    rows_by o at so =
        all_weaker _ (Holds x b) (λ r is me. so r (sym at ∙ subst (λ c. item_at kept_row_id k.stored.durable.kept c ≡ Some r) me is)) k.stored.durable.kept found

    module _ (r : KeptRow) (at : kept_row_at k b ≡ Some r) where
      its : knows_commit r.decision ≡ true
      its = knows_it e r r.decision learnt.0 (row_is r at).known (subst (λ c. Knows e c learnt.0) (sym (row_me r at)) knows) (λ rolled. rolled_none learnt.0 knows (subst (λ c. learned e c ≡ Some decisions.Rollback) (row_me r at) rolled))

      abbrev y : KeptRow
      y = acked_by r x

      noted : Held x b (put_item kept_row_id k.stored.durable.kept y)
      noted = put_once x b k.stored.durable.kept y (row_me r at) once (now_held x r)

      counted : Q (counts_ack k0 y x).after
      unfolding next_on_ack
      counted = by r.forgot (all_acked y) (is_none r.toward)
        where
          by : (q a w : Bool) → Q (next_turn (with_kept_row k0 y) y x (if q then nexts.SayForgotten else (if a then (if w then nexts.Forget else nexts.AckToward) else nexts.Rest))).after
          by true a w = noted
          by false true true = recorded x b (with_kept_row k0 y).stored (records.Forgot y.me) tt noted
          by false true false = noted
          by false false w = noted

      uncounted : ack_counts r x ≡ false → Q k0
      uncounted not_so = rows_by (Some r) at (λ z is. (let it : r ≡ z = cc in subst (HoldsAck x) it (none_named x r (second (knows_commit r.decision) (is_beyond r x) not_so its))))
        where
          second : (a c : Bool) → (a && c) ≡ false → a ≡ true → c ≡ false
          second true c is here = is
          second false c is here = absurd cc

      acked_row : Q (on_ack k0 r x).after
      acked_row = cond_both (ack_counts r x) (counts_ack k0 y x) (nothing k0) (λ (z : TurnDraft). Q z.after) (λ yes. counted) (λ no. uncounted no)

    by_stand : (o : Option Branch) (q : Option KeptRow) → branch_at k0 b ≡ o → kept_row_at k b ≡ q → Q (ack_turn k0 x b (live_or o q)).after
    by_stand (Some z) q live at = absurd (some (here.lives t whole m came z live))
    by_stand None None live at = rows_by None at (λ r is. absurd cc)
    by_stand None (Some r) live at = acked_row r at

    ack_done : Q (ack_turn k0 x b (status_of k0 b)).after
    unfolding status_of
    ack_done = by_stand (branch_at k0 b) (kept_row_at k b) refl refl

    draft_done : Q d.after
    draft_done = subst (λ (y : Kind). Q (kind_turn place k0 m.from m.to y (status_of k0 m.to)).after) (sym kind) ack_done

    by_cut : (cut : Bool) → u.cut ≡ cut → Here t whole b Q (f_at t after)
    unfolding turn_of
    by_cut true cut j there = (let down : node_at (f_at t after) b.node ≡ None = here.left t whole m came ∙ ap (λ c. kept_after c (Some (turn_of place k (inputs.Message m)))) cut in absurd (cc (down, there)))
    by_cut false cut j there =
        let now : node_at (f_at t after) b.node ≡ Some d.after = here.left t whole m came ∙ ap (λ c. kept_after c (Some (turn_of place k (inputs.Message m)))) cut in
        let both : Some d.after ≡ Some j = sym now ∙ there in
        let it : d.after ≡ j = cc in
        inr (subst Q it draft_done)

    not_new : (g : List Event) (w : Option RedoRecord) → exit g b ≢ None → IfSome w (MayStand g) → IfSome w (NotNew x b)
    not_new g None gone stands = tt
    not_new g (Some (records.Sealed r)) gone stands = λ me. gone (subst (λ c. exit g c ≡ None) me stands.0)
    not_new g (Some (records.Decided r)) gone stands = λ me. gone (subst (λ c. exit g c ≡ None) me stands)
    not_new g (Some _) gone stands = tt

    keeps : TurnsKeep t whole b Q
    keeps xs rest v is gone j may_v node wrote so =
        let law : IsLawfulRun (so_far t xs) = part_lawful t whole xs (part_of t whole xs (happenings.Turn v) rest is) in
        let stands : IfSome v.wrote (MayStand (e_at t xs)) = (tells_so t.places t.commands t.of_a_script.each (f_at t xs) (e_at t xs) (happenings.Turn v) (run_stands (so_far t xs) law) (j, may_v)).0 in
        held_on x b (place_at t.places v.node) v.input (serves t.places (f_at t xs) v j may_v).step (subst (λ w. IfSome w (NotNew x b)) wrote (not_new (e_at t xs) v.wrote gone stands)) (subst (Held x b) (sym (heard_same j v.input)) so)
      where
        heard_same : (j : NodeState) (y : Input) → (heard j y).stored.durable.kept ≡ j.stored.durable.kept
        heard_same j (inputs.Message z) = refl
        heard_same j (inputs.Call n c) = refl
        heard_same j (inputs.GiveUp n) = refl
        heard_same j inputs.Reco = refl
        heard_same j inputs.Checkpoint = refl

    pub ack_noted : IsNoted (facts_at t) m.from m.to
    ack_noted = here_end t whole b Q keeps after came.later (append_assoc hs (h ∷ []) came.later ∙ came.is) (here.left_after t whole m came some) (by_cut u.cut refl)

pub acks_are_noted : AcksAreNoted
acks_are_noted t whole = all_weaker _ _ (λ x so fate is edge sealed. ack_noted t whole x.msg (so fate) (acks_kind x.msg.kind is) edge sealed) (facts_at t).net.packets (deliveries_came t whole)
