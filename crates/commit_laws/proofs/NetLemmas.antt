-- What is so of each message that was delivered stays so with each happening, where it is so of what a turn takes.
use Rattle.std.proofs.Common.{◌≡◌, ℕ, zero, suc, List, [], ◌∷◌, slice_get, slice_set, Option, Some, None, refl, sym, ap, subst, ◌∙◌}
use Rattle.std.specs.List.{AllByRecursion}
use Rattle.std.proofs.lemmas.Bool.{cond_both}
use Rattle.node_rules.specs.Data.{Msg, Place, Input}
use Rattle.node_rules.specs.Data.inputs
use Rattle.node_rules.specs.Words.{numbered, set_numbered}
use Rattle.node_rules.specs.NodeState.{NodeState}
use Rattle.net_bag.specs.Net.{Net, sent_one, sent_on, is_lost_at_once, first_fate, fated, with_fate, flies, packet, packet_at, delivered, lost, goes_over, lost_over, cut_over, joined, goes_to, lost_to, stopped, started}
use Rattle.run_rules.specs.Data.{Packet, Took, Happening, Command}
use Rattle.run_rules.specs.Data.commands
use Rattle.run_rules.specs.Data.fates
use Rattle.run_rules.specs.Data.happenings
use Rattle.run_rules.specs.Facts.{Facts, taken, ordered, facts_after}
use Rattle.run_rules.specs.Lawful.{Comes}
use Rattle.run_rules.proofs.ListLemmas.{all_weaker, all_append, all_map}

-- ---- lists by number

module _ {A : Type 0} (P : A → Type 0) where
  slice_all : (xs : List A) (i : ℕ) (x : A) → AllByRecursion P xs → slice_get xs i ≡ Some x → P x
  slice_all [] i x all is = absurd cc
  slice_all (y ∷ ys) zero x all is = subst P (let it : Some y ≡ Some x = is in cc) all.0
  slice_all (y ∷ ys) (suc i) x all is = slice_all ys i x all.1 is

  slice_set_all : (xs : List A) (i : ℕ) (x : A) → AllByRecursion P xs → P x → AllByRecursion P (slice_set xs i x)
  slice_set_all [] i x all so = tt
  slice_set_all (y ∷ ys) zero x all so = (so, all.1)
  slice_set_all (y ∷ ys) (suc i) x all so = (all.0, slice_set_all ys i x all.1 so)

  -- what is so of each is so of the one of a number
  pub numbered_all : (xs : List A) (n : ℕ) (x : A) → AllByRecursion P xs → numbered xs n ≡ Some x → P x
  numbered_all xs zero x all is = absurd cc
  numbered_all xs (suc i) x all is = slice_all xs i x all is

  pub set_all : (xs : List A) (n : ℕ) (x : A) → AllByRecursion P xs → P x → AllByRecursion P (set_numbered xs n x)
  set_all xs zero x all so = all
  set_all xs (suc i) x all so = slice_set_all xs i x all so

-- ---- the network

module _ (Q : Msg → Type 0) where
  -- of a message that was delivered this is so
  abbrev pub IfCame : Packet → Type 0
  IfCame x = x.fate ≡ fates.Delivered → Q x.msg

  abbrev pub AllCame : List Packet → Type 0
  AllCame xs = AllByRecursion IfCame xs

  lost_one : (x : Packet) → IfCame x → IfCame (fated fates.Lost x)
  lost_one x so = cond_both (flies x) (packet x.msg fates.Lost) x IfCame (λ flying is. absurd cc) (λ landed. so)

  come_one : (x : Packet) → Q x.msg → IfCame (fated fates.Delivered x)
  come_one x so = cond_both (flies x) (packet x.msg fates.Delivered) x IfCame (λ flying is. so) (λ landed is. so)

  sent_is : (net : Net) (m : Msg) → IfCame (packet m (first_fate net m))
  sent_is net m = cond_both (is_lost_at_once net m) fates.Lost fates.InFlight (λ fate. IfCame (packet m fate)) (λ lost is. absurd cc) (λ passes is. absurd cc)

  sent_so : (net : Net) (ms : List Msg) → AllCame net.packets → AllCame (sent_on net ms).packets
  unfolding sent_on
  sent_so net [] all = all
  sent_so net (m ∷ ms) all = sent_so (sent_one net m) ms (all_append IfCame net.packets _ all (sent_is net m, tt))

  delivered_by : (net : Net) (n : ℕ) (o : Option Packet) → ((x : Packet) → o ≡ Some x → Q x.msg) → AllCame net.packets → AllCame (with_fate net.packets n fates.Delivered o)
  delivered_by net n None so all = all
  delivered_by net n (Some x) so all = set_all IfCame net.packets n (fated fates.Delivered x) all (come_one x (so x refl))

  delivered_so : (net : Net) (n : ℕ) → ((x : Packet) → packet_at net n ≡ Some x → Q x.msg) → AllCame net.packets → AllCame (delivered net n).packets
  unfolding delivered
  delivered_so net n so all = delivered_by net n (packet_at net n) so all

  taken_so : (net : Net) (took : Option Took) → ((k : Took) (x : Packet) → took ≡ Some k → packet_at net k.number ≡ Some x → Q x.msg) → AllCame net.packets → AllCame (taken net took).packets
  taken_so net None so all = all
  taken_so net (Some k) so all = cond_both k.again net (delivered net k.number) (λ x. AllCame x.packets) (λ again. all) (λ once. delivered_so net k.number (λ x at. so k x refl at) all)

  lost_by : (net : Net) (n : ℕ) (o : Option Packet) → packet_at net n ≡ o → AllCame net.packets → AllCame (with_fate net.packets n fates.Lost o)
  lost_by net n None is all = all
  lost_by net n (Some x) is all = set_all IfCame net.packets n (fated fates.Lost x) all (lost_one x (numbered_all IfCame net.packets n x all is))

  lost_so : (net : Net) (n : ℕ) → AllCame net.packets → AllCame (lost net n).packets
  unfolding lost
  lost_so net n all = lost_by net n (packet_at net n) refl all

  cut_so : (net : Net) (a b : ℕ) → AllCame net.packets → AllCame (cut_over net a b).packets
  unfolding cut_over
  cut_so net a b all =
      all_map IfCame (lost_over a b) net.packets (all_weaker IfCame _ (λ x so. cond_both (goes_over a b x) (fated fates.Lost x) x IfCame (λ over. lost_one x so) (λ past. so)) net.packets all)

  stopped_so : (net : Net) (n : ℕ) → AllCame net.packets → AllCame (stopped net n).packets
  unfolding stopped
  stopped_so net n all =
      all_map IfCame (lost_to n) net.packets (all_weaker IfCame _ (λ x so. cond_both (goes_to n x) (fated fates.Lost x) x IfCame (λ there. lost_one x so) (λ past. so)) net.packets all)

  ordered_so : (net : Net) (c : Command) → AllCame net.packets → AllCame (ordered net c).packets
  ordered_so net (commands.LoseNext kind from to) all = all
  ordered_so net _ all = all

  -- what a turn takes
  abbrev pub Takes : Facts → Happening → Type 0
  Takes f (happenings.Turn u) = (k : Took) (x : Packet) → u.took ≡ Some k → packet_at f.net k.number ≡ Some x → Q x.msg
  Takes f _ = Unit {0}

  -- one happening more, where what it takes is so
  pub came_after : (places : List Place) (asked : List Command) (f : Facts) (h : Happening) → Takes f h → AllCame f.net.packets → AllCame (facts_after places asked f h).net.packets
  unfolding facts_after joined started
  came_after places asked f (happenings.Begun c) so all = ordered_so f.net _ all
  came_after places asked f (happenings.Turn u) so all = sent_so (taken f.net u.took) u.sent (taken_so f.net u.took so all)
  came_after places asked f (happenings.Cut a b) so all = cut_so f.net a b all
  came_after places asked f (happenings.Join a b) so all = all
  came_after places asked f (happenings.Lost k) so all = lost_so f.net k all
  came_after places asked f (happenings.Stopped n) so all = stopped_so f.net n all
  came_after places asked f (happenings.Started n boot) so all = all

-- ---- what comes

-- the input of a turn is the message that it took, at the receiver's node
pub took_it : (f : Facts) (k : NodeState) (node : ℕ) (input : Input) (took : Option Took) → Comes f k node input took → (j : Took) (x : Packet) → took ≡ Some j → packet_at f.net j.number ≡ Some x → (input ≡ inputs.Message x.msg) × (node ≡ x.msg.to.node)
took_it f k node (inputs.Message m) (Some i) comes j x is at =
    let both : Some i ≡ Some j = is in
    let here : i ≡ j = cc in
    let mine : packet_at f.net j.number ≡ Some comes.0 = subst (λ (q : Took). packet_at f.net q.number ≡ Some comes.0) here comes.1.sent in
    let two : Some comes.0 ≡ Some x = sym mine ∙ at in
    let it : comes.0 ≡ x = cc in
    let same : m ≡ x.msg = sym comes.1.same ∙ ap (λ (y : Packet). y.msg) it in
    (ap inputs.Message same, sym comes.1.here ∙ ap (λ (y : Msg). y.to.node) same)
took_it f k node (inputs.Message m) None comes j x is at = absurd comes
took_it f k node (inputs.Call n s) (Some i) comes j x is at = absurd comes
took_it f k node (inputs.Call n s) None comes j x is at = absurd cc
took_it f k node (inputs.GiveUp n) (Some i) comes j x is at = absurd comes
took_it f k node (inputs.GiveUp n) None comes j x is at = absurd cc
took_it f k node inputs.Reco (Some i) comes j x is at = absurd comes
took_it f k node inputs.Checkpoint (Some i) comes j x is at = absurd comes
took_it f k node inputs.Reco None comes j x is at = absurd cc
took_it f k node inputs.Checkpoint None comes j x is at = absurd cc
