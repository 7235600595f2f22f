-- The messages of the network stand among the events of the run: whatever comes to a node was said.
use Rattle.std.proofs.Common.{◌≡◌, ℕ, zero, suc, List, [], ◌∷◌, slice_get, slice_set, Option, Some, None, inl, refl, subst}
use Rattle.std.specs.List.{AllByRecursion}
use Rattle.std.proofs.lemmas.Bool.{cond_both}
use Rattle.agreement.specs.Events.{Event, Has}
use Rattle.node_rules.specs.Data.{BranchId, Kind, Msg, Place, Input}
use Rattle.node_rules.specs.Data.kinds
use Rattle.node_rules.specs.Data.inputs
use Rattle.node_rules.specs.Words.{numbered, set_numbered}
use Rattle.node_rules.specs.NodeState.{NodeState}
use Rattle.node_rules.specs.Inputs.{Came}
use Rattle.net_bag.specs.Net.{Net, sent_one, sent_on, fated, with_fate, flies, packet, packet_at, delivered, lost, goes_over, lost_over, cut_over, joined, goes_to, lost_to, stopped, started}
use Rattle.run_rules.specs.Data.{Fate, Packet, Took, Happening, Command}
use Rattle.run_rules.specs.Data.fates
use Rattle.run_rules.specs.Data.happenings
use Rattle.run_rules.specs.Data.commands
use Rattle.run_rules.specs.Facts.{Facts, taken, ordered, facts_after}
use Rattle.run_rules.specs.Lawful.{Comes}
use Rattle.run_base_laws.specs.RunEvents.{with_event, message_event, with_messages, with_happening, with_exits, events_after}
use Rattle.run_rules.proofs.ListLemmas.{all_weaker, all_append, all_map}
use Rattle.run_base_laws.proofs.LaterLemmas.{Added, has_later, messages_added, turn_added, stop_added, wrote_added}
use Rattle.run_base_laws.proofs.SayLemmas.{AcksWereSent}

-- ---- the network

module _ (P : Msg → Type 0) where
  -- each message that was sent is so
  abbrev pub AllSent : List Packet → Type 0
  AllSent xs = AllByRecursion (λ x. P x.msg) xs

  slice_so : (xs : List Packet) (i : ℕ) (x : Packet) → AllSent xs → slice_get xs i ≡ Some x → P x.msg
  slice_so [] i x all is = absurd cc
  slice_so (y ∷ ys) zero x all is = let it : Some y ≡ Some x = is in let here : y ≡ x = cc in subst (λ (z : Packet). P z.msg) here all.0
  slice_so (y ∷ ys) (suc i) x all is = slice_so ys i x all.1 is

  -- so is one by its number
  pub numbered_so : (xs : List Packet) (n : ℕ) (x : Packet) → AllSent xs → numbered xs n ≡ Some x → P x.msg
  numbered_so xs zero x all is = absurd cc
  numbered_so xs (suc i) x all is = slice_so xs i x all is

  slice_set_so : (xs : List Packet) (i : ℕ) (x : Packet) → AllSent xs → P x.msg → AllSent (slice_set xs i x)
  slice_set_so [] i x all so = tt
  slice_set_so (y ∷ ys) zero x all so = (so, all.1)
  slice_set_so (y ∷ ys) (suc i) x all so = (all.0, slice_set_so ys i x all.1 so)

  set_so : (xs : List Packet) (n : ℕ) (x : Packet) → AllSent xs → P x.msg → AllSent (set_numbered xs n x)
  set_so xs zero x all so = all
  set_so xs (suc i) x all so = slice_set_so xs i x all so

  fated_so : (fate : Fate) (x : Packet) → P x.msg → P (fated fate x).msg
  fated_so fate x so = cond_both (flies x) (packet x.msg fate) x (λ y. P y.msg) (λ flying. so) (λ landed. so)

  fate_so : (xs : List Packet) (n : ℕ) (fate : Fate) (o : Option Packet) → numbered xs n ≡ o → AllSent xs → AllSent (with_fate xs n fate o)
  fate_so xs n fate None is all = all
  fate_so xs n fate (Some x) is all = set_so xs n (fated fate x) all (fated_so fate x (numbered_so xs n x all is))

  delivered_so : (net : Net) (n : ℕ) → AllSent net.packets → AllSent (delivered net n).packets
  unfolding delivered
  delivered_so net n all = fate_so net.packets n fates.Delivered (packet_at net n) refl all

  lost_so : (net : Net) (n : ℕ) → AllSent net.packets → AllSent (lost net n).packets
  unfolding lost
  lost_so net n all = fate_so net.packets n fates.Lost (packet_at net n) refl all

  taken_so : (net : Net) (took : Option Took) → AllSent net.packets → AllSent (taken net took).packets
  taken_so net None all = all
  taken_so net (Some t) all = cond_both t.again net (delivered net t.number) (λ x. AllSent x.packets) (λ again. all) (λ once. delivered_so net t.number all)

  sent_so : (net : Net) (ms : List Msg) → AllSent net.packets → AllByRecursion P ms → AllSent (sent_on net ms).packets
  unfolding sent_on
  sent_so net [] all new = all
  sent_so net (m ∷ ms) all new = sent_so (sent_one net m) ms (all_append (λ x. P x.msg) net.packets _ all (new.0, tt)) new.1

  cut_so : (net : Net) (a b : ℕ) → AllSent net.packets → AllSent (cut_over net a b).packets
  unfolding cut_over
  cut_so net a b all =
      all_map (λ x. P x.msg) (lost_over a b) net.packets
      (all_weaker (λ x. P x.msg) _ (λ x so. cond_both (goes_over a b x) (fated fates.Lost x) x (λ y. P y.msg) (λ over. fated_so fates.Lost x so) (λ past. so)) net.packets all)

  stopped_so : (net : Net) (n : ℕ) → AllSent net.packets → AllSent (stopped net n).packets
  unfolding stopped
  stopped_so net n all =
      all_map (λ x. P x.msg) (lost_to n) net.packets
      (all_weaker (λ x. P x.msg) _ (λ x so. cond_both (goes_to n x) (fated fates.Lost x) x (λ y. P y.msg) (λ there. fated_so fates.Lost x so) (λ past. so)) net.packets all)

  joined_so : (net : Net) (a b : ℕ) → AllSent net.packets → AllSent (joined net a b).packets
  unfolding joined
  joined_so net a b all = all

  started_so : (net : Net) (n : ℕ) → AllSent net.packets → AllSent (started net n).packets
  unfolding started
  started_so net n all = all

  ordered_so : (net : Net) (c : Command) → AllSent net.packets → AllSent (ordered net c).packets
  ordered_so net (commands.LoseNext kind from to) all = all
  ordered_so net _ all = all

  -- what a happening sends
  abbrev Sends : Happening → Type 0
  Sends (happenings.Turn u) = AllByRecursion P u.sent
  Sends _ = Unit {0}

  -- each message stays so where those that are sent are so
  pub sent_after : (places : List Place) (asked : List Command) (f : Facts) (h : Happening) → Sends h → AllSent f.net.packets → AllSent (facts_after places asked f h).net.packets
  unfolding facts_after
  sent_after places asked f (happenings.Begun c) new all = ordered_so f.net _ all
  sent_after places asked f (happenings.Turn u) new all = sent_so (taken f.net u.took) u.sent (taken_so f.net u.took all) new
  sent_after places asked f (happenings.Cut a b) new all = cut_so f.net a b all
  sent_after places asked f (happenings.Join a b) new all = joined_so f.net a b all
  sent_after places asked f (happenings.Lost k) new all = lost_so f.net k all
  sent_after places asked f (happenings.Stopped n) new all = stopped_so f.net n all
  sent_after places asked f (happenings.Started n boot) new all = started_so f.net n all

-- ---- events

-- the event stands, where there is one
abbrev pub Stands : List Event → Option Event → Type 0
Stands t None = Unit {0}
Stands t (Some e) = Has e t

-- a message stands among the events
abbrev pub IsSaid : List Event → Msg → Type 0
IsSaid t m = Stands t (message_event m.from m.to m.scn m.kind)

stands_later : {Q : Event → Type 0} {t r : List Event} → Added Q t r → (o : Option Event) → Stands t o → Stands r o
stands_later more None is = tt
stands_later more (Some e) is = has_later e more is

stands_now : (o : Option Event) (t : List Event) → Stands (with_event o t) o
stands_now None t = tt
stands_now (Some e) t = inl refl

-- the messages of a turn stand once they are added
pub all_said : (before after : List BranchId) (ms : List Msg) (t : List Event) → AllByRecursion (IsSaid (with_messages ms t)) ms
all_said before after [] t = tt
all_said before after (m ∷ ms) t =
    let o : Option Event = message_event m.from m.to m.scn m.kind in
    (stands_later (messages_added before after ms (with_event o t)) o (stands_now o t), all_said before after ms (with_event o t))

-- the messages of the network stand
abbrev pub NetIsSaid : Facts → List Event → Type 0
NetIsSaid f t = AllByRecursion (λ x. IsSaid t x.msg) f.net.packets

said_later : {Q : Event → Type 0} {t r : List Event} → Added Q t r → (f : Facts) → NetIsSaid f t → NetIsSaid f r
said_later more f all = all_weaker _ _ (λ x is. stands_later more (message_event x.msg.from x.msg.to x.msg.scn x.msg.kind) is) f.net.packets all

module _ (places : List Place) (asked : List Command) where
  pub said_on : (f : Facts) (t : List Event) (h : Happening) → NetIsSaid f t → NetIsSaid (facts_after places asked f h) (events_after places asked f h t)
  said_on f t (happenings.Turn u) now =
      let g : Facts = facts_after places asked f (happenings.Turn u) in
      sent_after (IsSaid (with_happening f g (happenings.Turn u) t)) places asked f (happenings.Turn u) (all_said [] [] u.sent (with_exits f g u t))
      (said_later (turn_added f g u t) f (said_later (wrote_added u t) f now))
  said_on f t (happenings.Stopped n) now =
      let g : Facts = facts_after places asked f (happenings.Stopped n) in
      sent_after (IsSaid (with_happening f g (happenings.Stopped n) t)) places asked f (happenings.Stopped n) tt (said_later (stop_added f g n t) f now)
  said_on f t (happenings.Begun c) now = sent_after (IsSaid t) places asked f (happenings.Begun c) tt now
  said_on f t (happenings.Cut a b) now = sent_after (IsSaid t) places asked f (happenings.Cut a b) tt now
  said_on f t (happenings.Join a b) now = sent_after (IsSaid t) places asked f (happenings.Join a b) tt now
  said_on f t (happenings.Lost k) now = sent_after (IsSaid t) places asked f (happenings.Lost k) tt now
  said_on f t (happenings.Started n boot) now = sent_after (IsSaid t) places asked f (happenings.Started n boot) tt now

-- what comes to a node was said
module _ (f : Facts) (t : List Event) (said : NetIsSaid f t) where
  message_said : (m : Msg) (from to : BranchId) (scn : ℕ) (kind : Kind) → IsSaid t m → inputs.Message m ≡ inputs.Message (record { from = from; to = to; scn = scn; kind = kind }) → Stands t (message_event from to scn kind)
  message_said m from to scn kind is same_input = subst (IsSaid t) (let it : inputs.Message m ≡ inputs.Message (record { from = from; to = to; scn = scn; kind = kind }) = same_input in cc) is

  pub came_said : (k : NodeState) (node : ℕ) (input : Input) (took : Option Took) → Comes f k node input took → (from to : BranchId) (kind : Kind) (came : Came input from to kind) → Stands t (message_event from to came.scn kind)
  came_said k node (inputs.Message m) (Some x) comes from to kind came =
      message_said m from to came.scn kind (subst (IsSaid t) comes.1.same (numbered_so (IsSaid t) f.net.packets x.number comes.0 said comes.1.sent)) came.is
  came_said k node (inputs.Message m) None comes from to kind came = absurd comes
  came_said k node (inputs.Call session statement) took comes from to kind came = absurd (cc (came.is))
  came_said k node (inputs.GiveUp session) took comes from to kind came = absurd (cc (came.is))
  came_said k node inputs.Reco took comes from to kind came = absurd (cc (came.is))
  came_said k node inputs.Checkpoint took comes from to kind came = absurd (cc (came.is))

  pub acks_came : (k : NodeState) (node : ℕ) (input : Input) (took : Option Took) → Comes f k node input took → AcksWereSent t input
  acks_came k node input took comes from to came = came_said k node input took comes from to kinds.Ack came
