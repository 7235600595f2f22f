-- What is in flight and kept, each message and each branch with a weight, and how a turn changes it.
use Rattle.std.proofs.Common.{◌≡◌, ℕ, ◌+◌, ◌≤◌, Bool, true, false, if◌then◌else◌, List, [], ◌∷◌, map, Option, Some, None, refl, sym, ap, subst, ◌∙◌, arith}
use Rattle.std.specs.List.{AllByRecursion}
use Rattle.node_rules.specs.Data.{BranchId, Kind, Msg, Place, Post}
use Rattle.node_rules.specs.Words.{numbered}
use Rattle.node_rules.specs.NodeState.{NodeState, TurnDraft}
use Rattle.node_rules.specs.Turn.{stamped, turn_of, draft_of}
use Rattle.net_bag.specs.Net.{Net, packet, packet_at, flies, is_flying, fated, with_fate, first_fate, delivered, sent_on, sent_one}
use Rattle.run_rules.specs.Data.{Command, Packet, Took, Turn}
use Rattle.run_rules.specs.Data.fates
use Rattle.run_rules.specs.Data.happenings
use Rattle.std.proofs.lemmas.Bool.{cond_both}
use Rattle.tran_ids.proofs.NumberedLemmas.{set_found}
use Rattle.run_rules.specs.Facts.{Facts, place_at, node_at, kept_after, outcome_at, served, taken, facts_after, flat}
use Rattle.run_rules.proofs.AtNodeLemmas.{flat_some}
use Rattle.run_rules.proofs.ListLemmas.{all_append}
use Rattle.commit_laws.proofs.NetLemmas.{set_all}
use Rattle.commit_length_laws.proofs.TotalLemmas.{total_append, set_total}
use Rattle.commit_length_laws.specs.Worth.{total, flight, net_weight, kept_weight, nodes_weight}

if_less : (q : Bool) (n m : ℕ) → n ≤ m → (if q then n else 0) ≤ m
if_less true n m low = low
if_less false n m low = omega arith

pub if_both : (q : Bool) (n m : ℕ) → n ≤ m → (if q then n else 0) ≤ (if q then m else 0)
if_both true n m low = low
if_both false n m low = omega arith

-- ---- messages

module _ (weigh : BranchId → BranchId → Kind → ℕ) where
  abbrev pub posts_weight : List Post → ℕ
  posts_weight ms = total (λ m. weigh m.from m.to m.kind) ms

  abbrev sent_weight : List Msg → ℕ
  sent_weight ms = total (λ m. weigh m.from m.to m.kind) ms

  sent_low : (net : Net) (ms : List Msg) → net_weight weigh (sent_on net ms) ≤ net_weight weigh net + sent_weight ms
  unfolding sent_on
  sent_low net [] = omega arith
  sent_low net (m ∷ ms) =
      let rest = sent_low (sent_one net m) ms in
      let one = total_append (flight weigh) net.packets (packet m (first_fate net m) ∷ []) in
      let low = if_less (is_flying (first_fate net m)) (weigh m.from m.to m.kind) (weigh m.from m.to m.kind) (omega arith) in
      omega (arith, rest, one, low)

  stamped_total : (clock : ℕ) (ms : List Post) → sent_weight (map (stamped clock) ms) ≡ posts_weight ms
  stamped_total clock [] = refl
  stamped_total clock (m ∷ ms) = (let rest = stamped_total clock ms in omega (arith, rest))

  fated_less : (xs : List Packet) (n : ℕ) (o : Option Packet) (x : Packet) → numbered xs n ≡ o → o ≡ Some x → x.fate ≡ fates.InFlight → total (flight weigh) (with_fate xs n fates.Delivered o) + weigh x.msg.from x.msg.to x.msg.kind ≤ total (flight weigh) xs
  fated_less xs n None x at is flying = absurd cc
  fated_less xs n (Some y) x at is flying =
      let both : Some y ≡ Some x = is in
      let it : y ≡ x = cc in
      let flew : is_flying y.fate ≡ true = ap (λ (z : Packet). is_flying z.fate) it ∙ ap is_flying flying in
      let all = set_total (flight weigh) xs n y (fated fates.Delivered y) at in
      let was : flight weigh y ≡ weigh x.msg.from x.msg.to x.msg.kind = ap (λ q. if q then weigh y.msg.from y.msg.to y.msg.kind else 0) flew ∙ ap (λ (z : Packet). weigh z.msg.from z.msg.to z.msg.kind) it in
      let now : flight weigh (fated fates.Delivered y) ≡ 0 = ap (λ q. flight weigh (if q then packet y.msg fates.Delivered else y)) flew in
      omega (arith, all, was, now)

  delivered_less : (net : Net) (n : ℕ) (x : Packet) → packet_at net n ≡ Some x → x.fate ≡ fates.InFlight → net_weight weigh (delivered net n) + weigh x.msg.from x.msg.to x.msg.kind ≤ net_weight weigh net
  unfolding delivered
  delivered_less net n x at flying = fated_less net.packets n (packet_at net n) x refl at flying

  -- a message that is delivered is in flight no more
  pub taken_less : (net : Net) (took : Option Took) (n : ℕ) (x : Packet) → took ≡ Some (record { number = n; again = false }) → packet_at net n ≡ Some x → x.fate ≡ fates.InFlight
      → net_weight weigh (taken net took) + weigh x.msg.from x.msg.to x.msg.kind ≤ net_weight weigh net
  taken_less net took n x is at flying = subst (λ o. net_weight weigh (taken net o) + weigh x.msg.from x.msg.to x.msg.kind ≤ net_weight weigh net) (sym is) (delivered_less net n x at flying)

-- ---- a whole turn

module _ (places : List Place) (asked : List Command) (f : Facts) (u : Turn) (k : NodeState) (up : node_at f u.node ≡ Some k) (uncut : u.cut ≡ false) (sent : u.sent ≡ (turn_of (place_at places u.node) k u.input).sent) where
  abbrev d : TurnDraft
  d = draft_of (place_at places u.node) k u.input

  abbrev after : Facts
  after = facts_after places asked f (happenings.Turn u)

  kept_now : kept_after u.cut (outcome_at places f u) ≡ Some d.after
  unfolding turn_of
  kept_now = ap (λ q. kept_after q (outcome_at places f u)) uncut ∙ ap (λ o. kept_after false (served (place_at places u.node) u.input o)) up

  -- what its node keeps then
  pub here_now : node_at after u.node ≡ Some d.after
  unfolding facts_after
  here_now = ap flat_it (set_found f.nodes u.node (Some k) (kept_after u.cut (outcome_at places f u)) (flat_some (numbered f.nodes u.node) k up)) ∙ kept_now
    where
      flat_it : Option (Option NodeState) → Option NodeState
      flat_it o = flat o

  module _ (weigh : BranchId → BranchId → Kind → ℕ) where
    sent_total : sent_weight weigh u.sent ≡ posts_weight weigh d.says
    unfolding turn_of
    sent_total = ap (sent_weight weigh) sent ∙ stamped_total weigh d.after.clock d.says

    -- its messages are added
    pub net_now : net_weight weigh after.net ≤ net_weight weigh (taken f.net u.took) + posts_weight weigh d.says
    unfolding facts_after
    net_now = (let low = sent_low weigh (taken f.net u.took) u.sent in let is = sent_total in omega (arith, low, is))

  module _ (held : NodeState → ℕ) where
    -- and its node keeps so much
    pub nodes_now : nodes_weight held after + held k ≡ nodes_weight held f + held d.after
    unfolding facts_after
    nodes_now =
        let all = set_total (kept_weight held) f.nodes u.node (Some k) (kept_after u.cut (outcome_at places f u)) (flat_some (numbered f.nodes u.node) k up) in
        let now : kept_weight held (kept_after u.cut (outcome_at places f u)) ≡ held d.after = ap (kept_weight held) kept_now in
        omega (arith, all, now)

-- ---- what is so of all that is in flight

module _ (P : Msg → Type 0) where
  abbrev pub AllFly : Net → Type 0
  AllFly net = AllByRecursion (λ x. flies x ≡ true → P x.msg) net.packets

  sent_fly : (net : Net) (ms : List Msg) → AllFly net → AllByRecursion P ms → AllFly (sent_on net ms)
  unfolding sent_on
  sent_fly net [] all new = all
  sent_fly net (m ∷ ms) all new = sent_fly (sent_one net m) ms (all_append (λ x. flies x ≡ true → P x.msg) net.packets (packet m (first_fate net m) ∷ []) all ((λ flying. new.0), tt)) new.1

  fated_fly : (xs : List Packet) (n : ℕ) (o : Option Packet) → AllByRecursion (λ x. flies x ≡ true → P x.msg) xs → AllByRecursion (λ x. flies x ≡ true → P x.msg) (with_fate xs n fates.Delivered o)
  fated_fly xs n None all = all
  fated_fly xs n (Some y) all = set_all (λ x. flies x ≡ true → P x.msg) xs n (fated fates.Delivered y) all (by (flies y) refl)
    where
      by : (q : Bool) → flies y ≡ q → flies (if q then packet y.msg fates.Delivered else y) ≡ true → P (if q then packet y.msg fates.Delivered else y).msg
      by true is flying = absurd cc
      by false is flying = absurd (cc (is, flying))

  delivered_fly : (net : Net) (n : ℕ) → AllFly net → AllFly (delivered net n)
  unfolding delivered
  delivered_fly net n all = fated_fly net.packets n (packet_at net n) all

  taken_fly : (net : Net) (took : Option Took) → AllFly net → AllFly (taken net took)
  taken_fly net None all = all
  taken_fly net (Some t) all = cond_both t.again net (delivered net t.number) AllFly (λ again. all) (λ once. delivered_fly net t.number all)

  pub turn_fly : (places : List Place) (asked : List Command) (f : Facts) (u : Turn) → AllFly f.net → AllByRecursion P u.sent → AllFly (facts_after places asked f (happenings.Turn u)).net
  unfolding facts_after
  turn_fly places asked f u all new = sent_fly (taken f.net u.took) u.sent (taken_fly f.net u.took all) new
