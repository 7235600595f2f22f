-- What is so of a transaction after some whole turns was so before them: none of its messages was lost, no node of its branches
-- had stopped, and its branches were no others.
use Rattle.std.proofs.Common.{◌≡◌, ℕ, zero, suc, ◌&&◌, ◌||◌, Bool, true, false, if◌then◌else◌, cond, List, [], ◌∷◌, ◌++◌, map, filter, length, option_map, slice_get, slice_set, IfSome, Option, Some, None, inl, inr, refl, sym, ap, subst, ◌∙◌, append-nil}
use Rattle.std.specs.List.{AllByRecursion}
use Rattle.std.specs.Option.{option_to_list}
use Rattle.std.proofs.lemmas.List.{append_assoc}
use Rattle.node_rules.specs.Data.{BranchId, Input, Msg, Place}
use Rattle.node_rules.specs.Data.inputs
use Rattle.node_rules.specs.NodeState.{NodeState}
use Rattle.node_rules.specs.Turn.{turn_of}
use Rattle.node_rules.specs.Words.{same, numbered}
use Rattle.net_bag.specs.Net.{Net, is_flying, sent_one, sent_on, fated, with_fate, packet, packet_at, delivered}
use Rattle.run_rules.specs.Births.{Born, born_id, births_at, births_after, births_from}
use Rattle.run_rules.specs.Branches.{is_among}
use Rattle.run_rules.specs.Data.{Command, Fate, Happening, Packet, Took, Turn}
use Rattle.run_rules.specs.Data.fates
use Rattle.run_rules.specs.Data.happenings
use Rattle.run_rules.specs.Facts.{Facts, place_at, node_at, records_at, kept_after, taken, facts_after, facts_of}
use Rattle.run_rules.specs.Lawful.{MayTurn, History, IsLawfulRun, facts_at, boots}
use Rattle.run_base_laws.specs.RunEvents.{events_of}
use Rattle.run_rules.proofs.AtNodeLemmas.{turn_elsewhere, turn_here}
use Rattle.run_rules.proofs.BootLemmas.{IsOfTurn, step_of_turn, boots_with}
use Rattle.run_base_laws.proofs.EventsStandLemmas.{run_stands, node_so}
use Rattle.run_base_laws.proofs.LawfulLemmas.{serves, of_wrote}
use Rattle.run_base_laws.proofs.TurnEventLemmas.{cases_nat}
use Rattle.tree_laws.proofs.PrefixLemmas.{so_far, f_at, one_on}
use Rattle.tree_laws.proofs.TimeLemmas.{Part, part_of, part_on, part_lawful, may_of}
use Rattle.run_claims.specs.Undisturbed.{branches_in, is_lost, LostNone, HasNotStopped, is_disturbed, disturbs, NoneComesIn}
use Rattle.commit_course_laws.proofs.FlowLemmas.{IsWholeTurn}

-- ---- lists

module _ {A : Type 0} (P : A → Type 0) where
  pub all_front : (xs ys : List A) → AllByRecursion P (xs ++ ys) → AllByRecursion P xs
  all_front [] ys all = tt
  all_front (x ∷ xs) ys all = (all.0, all_front xs ys all.1)

  pub all_back : (xs ys : List A) → AllByRecursion P (xs ++ ys) → AllByRecursion P ys
  all_back [] ys all = all
  all_back (x ∷ xs) ys all = all_back xs ys all.1

  set_back : (xs : List A) (i : ℕ) (y z : A) → slice_get xs i ≡ Some y → (P z → P y) → AllByRecursion P (slice_set xs i z) → AllByRecursion P xs
  set_back [] i y z at so all = tt
  set_back (x ∷ xs) zero y z at so all = (subst P (let it : Some y ≡ Some x = sym at in let same_one : y ≡ x = cc in same_one) (so all.0), all.1)
  set_back (x ∷ xs) (suc i) y z at so all = (all.0, set_back xs i y z at so all.1)

false_of : (a : Bool) → (a && false) ≡ false
false_of true = refl
false_of false = refl

-- ---- messages

module _ (bs : List BranchId) where
  abbrev NotLost : Packet → Type 0
  NotLost x = (is_among x.msg.from bs && is_lost x.fate) ≡ false

  sent_back : (net : Net) (ms : List Msg) → LostNone bs (sent_on net ms).packets → LostNone bs net.packets
  unfolding sent_on
  sent_back net [] none = none
  sent_back net (m ∷ ms) none = all_front NotLost net.packets _ (sent_back (sent_one net m) ms none)

  came_back : (x : Packet) → NotLost (fated fates.Delivered x) → NotLost x
  came_back x so = by x.fate refl
    where
      by : (fate : Fate) → x.fate ≡ fate → NotLost x
      by fates.InFlight is = subst (λ y. (is_among x.msg.from bs && is_lost y) ≡ false) (sym is) (false_of (is_among x.msg.from bs))
      by fates.Delivered is = subst (λ y. (is_among x.msg.from bs && is_lost y) ≡ false) (sym is) (false_of (is_among x.msg.from bs))
      by fates.Lost is = subst NotLost (ap (λ q. if q then packet x.msg fates.Delivered else x) (ap is_flying is)) so

  fate_back : (xs : List Packet) (n : ℕ) (o : Option Packet) → numbered xs n ≡ o → LostNone bs (with_fate xs n fates.Delivered o) → LostNone bs xs
  fate_back xs n None at none = none
  fate_back xs zero (Some x) at none = none
  fate_back xs (suc i) (Some x) at none = set_back NotLost xs i x (fated fates.Delivered x) at (came_back x) none

  delivered_back : (net : Net) (n : ℕ) → LostNone bs (delivered net n).packets → LostNone bs net.packets
  unfolding delivered
  delivered_back net n none = fate_back net.packets n (packet_at net n) refl none

  taken_back : (net : Net) (took : Option Took) → LostNone bs (taken net took).packets → LostNone bs net.packets
  taken_back net None none = none
  taken_back net (Some k) none = by k.again none
    where
      by : (q : Bool) → LostNone bs (if q then net else delivered net k.number).packets → LostNone bs net.packets
      by true same_net = same_net
      by false taken_net = delivered_back net k.number taken_net

  module _ (places : List Place) (asked : List Command) where
    pub lost_back : (f : Facts) (hs : List Happening) → AllByRecursion IsWholeTurn hs → LostNone bs (facts_of places asked f hs).net.packets → LostNone bs f.net.packets
    unfolding facts_of facts_after
    lost_back f [] whole none = none
    lost_back f (happenings.Turn u ∷ hs) whole none = taken_back f.net u.took (sent_back (taken f.net u.took) u.sent (lost_back (facts_after places asked f (happenings.Turn u)) hs whole.1 none))
    lost_back f (h ∷ hs) whole none = absurd whole.0

-- ---- branches

module _ (places : List Place) (asked : List Command) where
  pub births_more : (f : Facts) (hs : List Happening) (bs : List Born) → AllByRecursion IsWholeTurn hs → (more : List Born) × (births_from places asked f hs bs ≡ bs ++ more)
  unfolding births_from
  births_more f [] bs whole = ([], sym (append-nil bs))
  births_more f (happenings.Turn u ∷ hs) bs whole =
      let new : List Born = births_at (place_at places u.node) u.input (node_at f u.node) in
      let one : births_after places f (happenings.Turn u) bs ≡ bs ++ new = ap (λ q. if q then bs else bs ++ new) whole.0 in
      let rest = births_more (facts_after places asked f (happenings.Turn u)) hs (births_after places f (happenings.Turn u) bs) whole.1 in
      (new ++ rest.0, rest.1 ∙ (ap (λ xs. xs ++ rest.0) one ∙ append_assoc bs new rest.0))
  births_more f (h ∷ hs) bs whole = absurd whole.0

module _ (root : BranchId) (more : List Born) where
  abbrev its : List Born → List BranchId
  its bs = branches_in bs root

  pub among_more : (bs : List Born) (x : BranchId) → is_among x (its bs) ≡ true → is_among x (its (bs ++ more)) ≡ true
  among_more [] x is = absurd cc
  among_more (b ∷ bs) x is = by (same b.root root) is (among_more bs x)
    where
      ids : Bool → List Born → List Born → List BranchId
      ids q xs ys = map born_id (cond q xs ys)

      old : List Born
      old = filter (λ (y : Born). same y.root root) bs

      new : List Born
      new = filter (λ (y : Born). same y.root root) (bs ++ more)

      either : (q : Bool) → (q || is_among x (map born_id old)) ≡ true → (is_among x (map born_id old) ≡ true → is_among x (map born_id new) ≡ true) → (q || is_among x (map born_id new)) ≡ true
      either true found rest = refl
      either false found rest = rest found

      by : (q : Bool) → is_among x (map born_id (cond q (b ∷ old) old)) ≡ true → (is_among x (map born_id old) ≡ true → is_among x (map born_id new) ≡ true) → is_among x (map born_id (cond q (b ∷ new) new)) ≡ true
      by true found rest = either (same b.me x) found rest
      by false found rest = rest found

  pub all_fewer : (P : BranchId → Type 0) (bs : List Born) → AllByRecursion P (its (bs ++ more)) → AllByRecursion P (its bs)
  all_fewer P [] all = tt
  all_fewer P (b ∷ bs) all = by (same b.root root) all (all_fewer P bs)
    where
      old : List Born
      old = filter (λ (y : Born). same y.root root) bs

      new : List Born
      new = filter (λ (y : Born). same y.root root) (bs ++ more)

      by : (q : Bool) → AllByRecursion P (map born_id (cond q (b ∷ new) new)) → (AllByRecursion P (map born_id new) → AllByRecursion P (map born_id old)) → AllByRecursion P (map born_id (cond q (b ∷ old) old))
      by true so rest = (so.0, rest so.1)
      by false so rest = rest so

-- what is so of more branches is so of fewer
module _ (few many : List BranchId) (within : (x : BranchId) → is_among x few ≡ true → is_among x many ≡ true) where
  neither : (x : BranchId) (q : Bool) → (is_among x many && q) ≡ false → (is_among x few && q) ≡ false
  neither x q none = by (is_among x few) refl
    where
      by : (a : Bool) → is_among x few ≡ a → (a && q) ≡ false
      by true is = ap (λ a. a && q) (sym (within x is)) ∙ none
      by false is = refl

  pub lost_fewer : (xs : List Packet) → LostNone many xs → LostNone few xs
  lost_fewer [] none = tt
  lost_fewer (x ∷ xs) none = (neither x.msg.from (is_lost x.fate) none.0, lost_fewer xs none.1)

  calm_turn : (input : Input) → is_disturbed many input ≡ false → is_disturbed few input ≡ false
  calm_turn (inputs.Message m) none = neither m.to (disturbs m.kind) none
  calm_turn (inputs.Call session s) none = refl
  calm_turn (inputs.GiveUp session) none = refl
  calm_turn inputs.Reco none = refl
  calm_turn inputs.Checkpoint none = refl

  pub calm_fewer : (hs : List Happening) → AllByRecursion (NoneComesIn many) hs → AllByRecursion (NoneComesIn few) hs
  calm_fewer [] calm = tt
  calm_fewer (happenings.Turn u ∷ hs) calm = (calm_turn u.input calm.0, calm_fewer hs calm.1)
  calm_fewer (happenings.Begun c ∷ hs) calm = (tt, calm_fewer hs calm.1)
  calm_fewer (happenings.Cut a b ∷ hs) calm = (tt, calm_fewer hs calm.1)
  calm_fewer (happenings.Join a b ∷ hs) calm = (tt, calm_fewer hs calm.1)
  calm_fewer (happenings.Lost k ∷ hs) calm = (tt, calm_fewer hs calm.1)
  calm_fewer (happenings.Stopped n ∷ hs) calm = (tt, calm_fewer hs calm.1)
  calm_fewer (happenings.Started n boot ∷ hs) calm = (tt, calm_fewer hs calm.1)

-- ---- nodes

module _ (t : History) (lawful : IsLawfulRun t) where
  boot_is : (hs : List Happening) → Part t lawful hs → (n : ℕ) (k : NodeState) → node_at (f_at t hs) n ≡ Some k → k.stored.durable.boot ≡ boots (records_at (f_at t hs) n)
  boot_is hs part n k up =
      let s : History = so_far t hs in
      let node = node_so s.places s.commands s.of_a_script.each (facts_at s) (events_of s) (run_stands s (part_lawful t lawful hs part)) n k up in
      ap (λ x. x.durable.boot) node.stored ∙ node.boot

  module _ (b : BranchId) where
    module _ (hs rest : List Happening) (u : Turn) (whole : u.cut ≡ false) (is : hs ++ happenings.Turn u ∷ rest ≡ t.trace) where
      abbrev f : Facts
      f = f_at t hs

      abbrev g : Facts
      g = facts_after t.places t.commands f (happenings.Turn u)

      abbrev after : List Happening
      after = hs ++ happenings.Turn u ∷ []

      part : Part t lawful hs
      part = part_of t lawful hs (happenings.Turn u) rest is

      part_after : Part t lawful after
      part_after = part_on t lawful hs (happenings.Turn u) rest is

      even : length f.nodes ≡ length f.records
      even = (run_stands (so_far t hs) (part_lawful t lawful hs part)).0.even

      may : (k : NodeState) × MayTurn t.places f u k
      may = may_of t lawful hs (happenings.Turn u) rest is

      boot_same : (k x : NodeState) → node_at f u.node ≡ Some k → MayTurn t.places f u k → node_at g u.node ≡ Some x → x.stored.durable.boot ≡ k.stored.durable.boot
      boot_same k x up comes left =
          let p = place_at t.places u.node in
          let of_turn : IfSome u.wrote IsOfTurn = of_wrote p k u (serves t.places f u k comes) (λ w. IfSome w IsOfTurn) tt (step_of_turn p u.input (serves t.places f u k comes).step) in
          let disk : records_at g u.node ≡ records_at f u.node ++ option_to_list u.wrote = (turn_here t.places t.commands f even u k up).1 in
          let there : node_at (f_at t after) u.node ≡ Some x = ap (λ (y : Facts). node_at y u.node) (one_on t hs (happenings.Turn u)) ∙ left in
          boot_is after part_after u.node x there ∙ (ap (λ (y : Facts). boots (records_at y u.node)) (one_on t hs (happenings.Turn u)) ∙ (ap boots disk ∙ (boots_with (records_at f u.node) u.wrote of_turn ∙ sym (boot_is hs part u.node k up))))

      boot_here : (k : NodeState) → node_at f u.node ≡ Some k → MayTurn t.places f u k → option_map (λ (y : NodeState). y.stored.durable.boot) (node_at g u.node) ≡ option_map (λ (y : NodeState). y.stored.durable.boot) (node_at f u.node)
      boot_here k up comes =
          let x : NodeState = (turn_of (place_at t.places u.node) k u.input).after in
          let left : node_at g u.node ≡ Some x = (turn_here t.places t.commands f even u k up).0 ∙ ap (λ q. kept_after q (Some (turn_of (place_at t.places u.node) k u.input))) whole in
          ap (option_map (λ (y : NodeState). y.stored.durable.boot)) left ∙ (ap Some (boot_same k x up comes left) ∙ sym (ap (option_map (λ (y : NodeState). y.stored.durable.boot)) up))

      stopped_turn : HasNotStopped (f_at t after) b → HasNotStopped f b
      stopped_turn stays = elim (cases_nat u.node b.node) [
        | inl here ↦ (let same_boot = subst (λ i. option_map (λ (y : NodeState). y.stored.durable.boot) (node_at g i) ≡ option_map (λ (y : NodeState). y.stored.durable.boot) (node_at f i)) here (boot_here may.0 may.1.up may.1) in sym same_boot ∙ now)
        | inr other ↦ sym (ap (option_map (λ (y : NodeState). y.stored.durable.boot)) (turn_elsewhere t.places t.commands f even u b.node other).0) ∙ now
      ]
        where
          now : HasNotStopped g b
          now = subst (λ y. HasNotStopped y b) (one_on t hs (happenings.Turn u)) stays

    pub stopped_back : (hs mid rest : List Happening) → hs ++ (mid ++ rest) ≡ t.trace → AllByRecursion IsWholeTurn mid → HasNotStopped (f_at t (hs ++ mid)) b → HasNotStopped (f_at t hs) b
    stopped_back hs [] rest is whole stays = subst (λ xs. HasNotStopped (f_at t xs) b) (append-nil hs) stays
    stopped_back hs (happenings.Turn u ∷ mid) rest is whole stays =
        stopped_turn hs (mid ++ rest) u whole.0 is
        (stopped_back (hs ++ happenings.Turn u ∷ []) mid rest (append_assoc hs (happenings.Turn u ∷ []) (mid ++ rest) ∙ is) whole.1
        (subst (λ xs. HasNotStopped (f_at t xs) b) (sym (append_assoc hs (happenings.Turn u ∷ []) mid)) stays))
    stopped_back hs (h ∷ mid) rest is whole stays = absurd whole.0
