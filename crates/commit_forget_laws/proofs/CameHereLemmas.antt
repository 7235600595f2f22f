-- The turn in which a message came that was delivered: what its receiver's node kept before it, and keeps after it.
use Rattle.std.proofs.Common.{◌≡◌, ◌≢◌, ℕ, true, List, Option, Some, None, inl, inr, refl, sym, ap, subst, ◌∙◌}
use Rattle.tran_ids.proofs.ListedLemmas.{item_is}
use Rattle.commit_forget.specs.Next.{knows_commit}
use Rattle.agreement.specs.Events.{Forest, Event, exit, learned, Knows}
use Rattle.agreement.proofs.Invariant.{Inv}
use Rattle.node_rules.specs.Data.{Decision, Input, Kind, Live, Msg, KeptRow}
use Rattle.node_rules.specs.Data.decisions
use Rattle.node_rules.specs.Data.inputs
use Rattle.node_rules.specs.Inputs.{Came}
use Rattle.node_rules.specs.Words.{item_at}
use Rattle.node_rules.specs.NodeState.{NodeState, Branch, TurnDraft, kept_row_id, live_id, branch_at, kept_row_at}
use Rattle.node_rules.specs.Turn.{turn_of, heard, draft_of}
use Rattle.node_rules.proofs.StandLemmas.{live_so}
use Rattle.run_base_laws.specs.EventRows.{IsKnown, RowIs}
use Rattle.run_rules.specs.Facts.{node_at, kept_after, facts_after}
use Rattle.run_rules.specs.Lawful.{History, IsLawfulRun}
use Rattle.run_rules.proofs.AtNodeLemmas.{turn_here}
use Rattle.run_base_laws.proofs.EventsStandLemmas.{run_stands, nodes_are_as_events}
use Rattle.run_base_laws.proofs.LaterLemmas.{exit_later}
use Rattle.run_base_laws.proofs.OwnLemmas.{all_found}
use Rattle.tree_laws.specs.Forests.{forest_of}
use Rattle.tree_laws.proofs.PrefixLemmas.{f_at, e_at, one_on, more_on}
use Rattle.tree_laws.proofs.AtTurn.{at_turn}
use Rattle.commit_laws.specs.DeliveryLaws.{CameInTurn}
use Rattle.tree_laws.proofs.MoreLemmas.{inv_at, happening_added}

-- a row whose branch learned a commit knows it
pub knows_it : (e : List Event) (s : KeptRow) (d : Option Decision) (n : ℕ) → IsKnown e s d → Knows e s.me n → (learned e s.me ≡ Some decisions.Rollback → ⊥) → knows_commit d ≡ true
knows_it e s None n is (inl decided) none = (let sealed = is.0 in absurd (cc (sealed, decided)))
knows_it e s None n is (inr learnt) none = (let no = is.1 in absurd (cc (no, learnt)))
knows_it e s (Some (decisions.Commit m)) n is knows none = refl
knows_it e s (Some decisions.Rollback) n is knows none = absurd (none is)

module _ (t : History) (whole : IsLawfulRun t) (m : Msg) (came : CameInTurn t.trace m) where
  open came use {before as hs, turn as u}
  open m use {to as b}
  open at_turn t whole came.before came.turn came.later came.is use {h, s, f, e, after, part, lawful, may, k, p as place}

  abbrev pub p : Forest
  p = forest_of t

  pub i : Inv p e
  i = inv_at t whole hs part

  pub up : node_at f b.node ≡ Some k
  up = subst (λ n. node_at f n ≡ Some k) came.here may.1.up

  abbrev pub k0 : NodeState
  k0 = heard k (inputs.Message m)

  abbrev pub d : TurnDraft
  d = draft_of place k (inputs.Message m)

  pub came_so : (kind : Kind) → m.kind ≡ kind → Came u.input m.from m.to kind
  came_so kind is = record { scn = m.scn; is = came.input ∙ ap inputs.Message (with_kind is) }
    where
      with_kind : m.kind ≡ kind → m ≡ record { from = m.from; to = m.to; scn = m.scn; kind = kind }
      with_kind it = ap (λ x. record { from = m.from; to = m.to; scn = m.scn; kind = x }) it

  pub lives : (x : Branch) → branch_at k0 b ≡ Some x → exit e b ≡ None
  lives x found =
      let live : item_at live_id k.lives b ≡ Some x.live = live_so k0 b x found in
      let none : exit e x.live.me ≡ None = all_found (λ (l : Live). exit e l.me ≡ None) live_id k.lives b x.live (nodes_are_as_events s lawful u.node k may.1.up).0 live in
      subst (λ c. exit e c ≡ None) (item_is live_id k.lives b x.live live) none

  pub row_is : (r : KeptRow) → kept_row_at k b ≡ Some r → RowIs e r
  row_is r at = all_found (RowIs e) kept_row_id k.stored.durable.kept b r (nodes_are_as_events s lawful u.node k may.1.up).1 at

  pub row_me : (r : KeptRow) → kept_row_at k b ≡ Some r → r.me ≡ b
  row_me r at = item_is kept_row_id k.stored.durable.kept b r at

  -- what its node keeps after the turn
  pub left : node_at (f_at t after) b.node ≡ kept_after u.cut (Some (turn_of place k (inputs.Message m)))
  left =
      let here : node_at (facts_after t.places t.commands f h) u.node ≡ kept_after u.cut (Some (turn_of place k u.input)) = (turn_here t.places t.commands f (run_stands s lawful).0.even u k may.1.up).0 in
      let there : node_at (facts_after t.places t.commands f h) b.node ≡ kept_after u.cut (Some (turn_of place k u.input))
      = subst (λ n. node_at (facts_after t.places t.commands f h) n ≡ kept_after u.cut (Some (turn_of place k u.input))) came.here here in
      subst (λ x. node_at x b.node ≡ kept_after u.cut (Some (turn_of place k (inputs.Message m)))) (sym (one_on t hs h)) (there ∙ ap (λ (y : Input). kept_after u.cut (Some (turn_of place k y))) came.input)

  pub left_before : (n : ℕ) → Knows e b n → exit e b ≢ None
  left_before n (inl decided) none = absurd (cc (decided, none))
  left_before n (inr learnt) none = (let sealed = (i.learned_sealed b (decisions.Commit n) learnt).1 in absurd (cc (sealed, none)))

  pub left_after : exit e b ≢ None → exit (e_at t after) b ≢ None
  left_after some none = by (exit e b) refl
    where
      by : (o : Option _) → exit e b ≡ o → ⊥
      by None is = some is
      by (Some z) is =
          let stays : exit (e_at t after) b ≡ Some z = subst (λ y. exit y b ≡ Some z) (sym (more_on t hs h)) (exit_later b z (happening_added t.places t.commands f h e) is) in
          absurd (cc (stays, none))

  pub rolled_none : (n : ℕ) → Knows e b n → learned e b ≡ Some decisions.Rollback → ⊥
  rolled_none n (inl decided) rolled = (let sealed = (i.learned_sealed b decisions.Rollback rolled).1 in absurd (cc (sealed, decided)))
  rolled_none n (inr learnt) rolled = absurd (cc (learnt, rolled))
