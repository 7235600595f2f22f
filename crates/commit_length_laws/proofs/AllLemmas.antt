-- What all that is in flight and kept is worth, and what a turn makes of it.
use Rattle.std.proofs.Common.{◌≡◌, ℕ, ◌+◌, ◌≤◌, false, List, length, Option, Some, None, inl, inr, refl, sym, ap, ◌∙◌, arith}
use Rattle.session_tree.specs.Tree.{count}
use Rattle.node_rules.specs.Data.{BranchId, Kind, Live, Phase, Place}
use Rattle.node_rules.specs.Data.kinds
use Rattle.node_rules.specs.Data.phases
use Rattle.node_rules.specs.NodeState.{NodeState, TurnDraft, live_at}
use Rattle.node_rules.specs.Turn.{turn_of, draft_of}
use Rattle.net_bag.specs.Net.{Net, flies}
use Rattle.run_rules.specs.Data.{Command, Turn}
use Rattle.run_rules.specs.Data.happenings
use Rattle.run_rules.specs.Facts.{Facts, place_at, node_at, taken, facts_after}
use Rattle.run_rules.proofs.AtNodeLemmas.{turn_elsewhere}
use Rattle.run_base_laws.proofs.TurnEventLemmas.{cases_nat}
use Rattle.commit_length_laws.proofs.TotalLemmas.{total_low}
use Rattle.commit_length_laws.proofs.WorthLemmas.{says_worth}
use Rattle.commit_length_laws.proofs.SayLemmas.{WorksOn}
use Rattle.commit_length_laws.proofs.FlightLemmas.{if_both, here_now, net_now}
use Rattle.commit_length_laws.proofs.FullLemmas.{ask_two}
use Rattle.commit_length_laws.specs.Worth.{flight, nodes_weight, node_worth, full_by, full, live_in, ask_in, worth, net_worth, all_worth}

worth_low : (ask less : BranchId → ℕ) → ((b : BranchId) → less b ≤ ask b) → (to : BranchId) (kind : Kind) → worth less to kind ≤ worth ask to kind
worth_low ask less low to (kinds.Prepare b c) = low to
worth_low ask less low to kinds.Prepared = omega arith
worth_low ask less low to kinds.ReadOnly = omega arith
worth_low ask less low to kinds.Ready = omega arith
worth_low ask less low to kinds.Abort = omega arith
worth_low ask less low to kinds.CommitPoint = omega arith
worth_low ask less low to (kinds.Committed n) = omega arith
worth_low ask less low to kinds.Ack = omega arith
worth_low ask less low to kinds.Forgotten = omega arith
worth_low ask less low to kinds.Rollback = omega arith
worth_low ask less low to kinds.RolledBack = omega arith
worth_low ask less low to (kinds.Open i r d a) = omega arith
worth_low ask less low to (kinds.Opened i r) = omega arith
worth_low ask less low to (kinds.Exec i task) = omega arith
worth_low ask less low to (kinds.Reply i r d s) = omega arith
worth_low ask less low to kinds.InDoubt = omega arith
worth_low ask less low to kinds.Ask = omega arith

net_low : (ask less : BranchId → ℕ) → ((b : BranchId) → less b ≤ ask b) → (net : Net) → net_worth less net ≤ net_worth ask net
net_low ask less low net = total_low (flight (λ from to kind. worth less to kind)) (flight (λ from to kind. worth ask to kind)) (λ x. if_both (flies x) _ _ (worth_low ask less low x.msg.to x.msg.kind)) net.packets

module _ (g : BranchId) (places : List Place) (asked : List Command) (f : Facts) (even : length f.nodes ≡ length f.records) (u : Turn) (k : NodeState) (up : node_at f u.node ≡ Some k) (uncut : u.cut ≡ false)
    (sent : u.sent ≡ (turn_of (place_at places u.node) k u.input).sent) where
  abbrev d : TurnDraft
  d = draft_of (place_at places u.node) k u.input

  abbrev after : Facts
  after = facts_after places asked f (happenings.Turn u)

  -- who may be asked is worth no more
  asks_less : WorksOn k d.after → (b : BranchId) → ask_in after b ≤ ask_in f b
  asks_less works b = elim (cases_nat u.node b.node) [
    | inl here ↦ at_node here
    | inr other ↦ (let same_node : node_at after b.node ≡ node_at f b.node = (turn_elsewhere places asked f even u b.node other).0 in
        let is : ask_in after b ≡ ask_in f b = ap (λ o. full (live_in o b)) same_node in
        omega (arith, is))
  ]
    where
      by_phase : (y : Live) → live_at d.after b ≡ Some y → u.node ≡ b.node → (p : Phase) → y.phase ≡ p → full_by p (count y) ≤ ask_in f b
      by_phase y live here phases.Working is =
          let was : live_at k b ≡ Some y = works b y live is in
          let value : ask_in f b ≡ full_by phases.Working (count y)
          = ap (λ n. full (live_in (node_at f n) b)) (sym here) ∙ (ap (λ o. full (live_in o b)) up ∙ (ap full was ∙ ap (λ p. full_by p (count y)) is)) in
          omega (arith, value)
      by_phase y live here (phases.Collecting c) is = ask_two f b
      by_phase y live here phases.Ready is = ask_two f b

      by_live : (o : Option Live) → live_at d.after b ≡ o → u.node ≡ b.node → full o ≤ ask_in f b
      by_live None is here = ask_two f b
      by_live (Some y) is here = by_phase y is here y.phase refl

      at_node : u.node ≡ b.node → ask_in after b ≤ ask_in f b
      at_node here =
          let now : ask_in after b ≡ full (live_at d.after b) = ap (λ n. full (live_in (node_at after n) b)) (sym here) ∙ ap (λ o. full (live_in o b)) (here_now places asked f u k up uncut sent) in
          let low = by_live (live_at d.after b) refl here in
          omega (arith, now, low)

  -- what it comes to
  pub turned_low : WorksOn k d.after → all_worth g after ≤ net_worth (ask_in f) (taken f.net u.took) + says_worth (ask_in f) d.says + nodes_weight (node_worth g) after
  turned_low works =
      let one = net_low (ask_in f) (ask_in after) (asks_less works) after.net in
      let two : net_worth (ask_in f) after.net ≤ net_worth (ask_in f) (taken f.net u.took) + says_worth (ask_in f) d.says = net_now places asked f u k up uncut sent (λ from to kind. worth (ask_in f) to kind) in
      omega (arith, one, two)
