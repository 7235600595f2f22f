-- The messages of a run with their fates, the pairs of nodes that are cut, the nodes that are down, and the orders to
-- lose. Messages are numbered from 1 in the order of sending. Beside each operation that loses messages stand their
-- numbers. The network is dtx's own; the guide says only that a network or a node may fail ("Distributed Transactions
-- Concepts", on in-doubt transactions).
use Rattle.std.specs.Prelude.{ℕ, ◌+◌, ◌==◌, ◌&&◌, ◌||◌, not, Bool, true, false, if◌then◌else◌, List, [], ◌∷◌, ◌++◌, map, filter, length, position, option_map, Option, Some, None}
use Rattle.std.specs.List.{list_any}
use Rattle.wire_msg.specs.declared.kind.KindName.{KindName}
use Rattle.wire_msg.specs.declared.msg.Msg.{Msg}
use Rattle.wire_msg.specs.Names.{name_of_kind, same_kind}
use Rattle.tran_ids.specs.Listed.{numbered, set_numbered}
use Rattle.net_bag.specs.declared.packet.Fate.{Fate}
use Rattle.net_bag.specs.declared.packet.Fate.TheVariants as fates
use Rattle.net_bag.specs.declared.packet.Packet.{Packet}

-- An order, given by LOSE NEXT, to lose the next message of a kind from one node to another.
pub record LoseOrder : Type 0 where
  pub kind : KindName
  pub from : ℕ
  pub to : ℕ

-- The network: every message that was sent, with its fate; the pairs that are cut; the nodes that are down; the
-- orders to lose.
pub record Net : Type 0 where
  pub packets : List Packet
  pub cuts : List (ℕ × ℕ)
  pub down : List ℕ
  pub orders : List LoseOrder

-- before any message
abbrev pub still : Net
still = record { packets = []; cuts = []; down = []; orders = [] }

-- whether these are the two nodes of a pair
abbrev pub is_pair : ℕ → ℕ → ℕ × ℕ → Bool
is_pair a b pair = ((pair.0 == a) && (pair.1 == b)) || ((pair.0 == b) && (pair.1 == a))

-- whether the pair of two nodes is cut
abbrev pub is_cut : Net → ℕ → ℕ → Bool
is_cut net a b = list_any (is_pair a b) net.cuts

-- whether a node is down
abbrev pub is_down : Net → ℕ → Bool
is_down net n = list_any (λ m. m == n) net.down

-- whether a message cannot pass: its pair is cut, or its target is down
abbrev pub is_blocked : Net → Msg → Bool
is_blocked net m = is_cut net m.from.node m.to.node || is_down net m.to.node

-- whether an order fits a message
abbrev pub is_order_for : Msg → LoseOrder → Bool
is_order_for m o = same_kind o.kind (name_of_kind m.kind) && ((o.from == m.from.node) && (o.to == m.to.node))

-- the earliest order that fits is used up
abbrev pub use_order : Msg → List LoseOrder → List LoseOrder
use_order m [] = []
use_order m (o ∷ os) = if is_order_for m o then os else o ∷ use_order m os

-- a message with its fate
abbrev pub packet : Msg → Fate → Packet
packet m fate = record { msg = m; fate = fate }

-- whether a message is lost as it is sent: it cannot pass, or an order fits it
abbrev pub is_lost_at_once : Net → Msg → Bool
is_lost_at_once net m = is_blocked net m || list_any (is_order_for m) net.orders

-- the fate of a message as it is sent
abbrev pub first_fate : Net → Msg → Fate
first_fate net m = if is_lost_at_once net m then fates.Lost else fates.InFlight

-- the orders left after a message is sent: one that cannot pass uses up none
abbrev pub orders_left : Net → Msg → List LoseOrder
orders_left net m = if is_blocked net m then net.orders else use_order m net.orders

-- one message is sent
abbrev pub sent_one : Net → Msg → Net
sent_one net m = record net { packets = net.packets ++ packet m (first_fate net m) ∷ []; orders = orders_left net m }

-- these messages are sent, in order
unfoldable pub sent_on : Net → List Msg → Net
sent_on net [] = net
sent_on net (m ∷ ms) = sent_on (sent_one net m) ms

-- the numbers of those that are lost at once
abbrev pub lost_at_once : Net → List Msg → List ℕ
lost_at_once net [] = []
lost_at_once net (m ∷ ms) = if is_lost_at_once net m then (length net.packets + 1) ∷ lost_at_once (sent_one net m) ms else lost_at_once (sent_one net m) ms

-- whether a message is in flight
abbrev pub is_flying : Fate → Bool
is_flying fates.InFlight = true
is_flying _ = false

-- the same for a message with its fate
abbrev pub flies : Packet → Bool
flies x = is_flying x.fate

-- the message of this number
abbrev pub packet_at : Net → ℕ → Option Packet
packet_at net k = numbered net.packets k

-- a message in flight meets its fate
abbrev pub fated : Fate → Packet → Packet
fated fate x = if flies x then packet x.msg fate else x

-- the message of this number meets its fate, where it is in flight
abbrev pub with_fate : List Packet → ℕ → Fate → Option Packet → List Packet
with_fate xs k fate None = xs
with_fate xs k fate (Some x) = set_numbered xs k (fated fate x)

-- message k is delivered
unfoldable pub delivered : Net → ℕ → Net
delivered net k = record net { packets = with_fate net.packets k fates.Delivered (packet_at net k) }

-- message k is lost
unfoldable pub lost : Net → ℕ → Net
lost net k = record net { packets = with_fate net.packets k fates.Lost (packet_at net k) }

-- the numbers of the messages that pass a test, from this number on
abbrev pub numbers_where : (Packet → Bool) → ℕ → List Packet → List ℕ
numbers_where test k [] = []
numbers_where test k (x ∷ xs) = if test x then k ∷ numbers_where test (k + 1) xs else numbers_where test (k + 1) xs

-- whether a message goes over this pair
abbrev pub goes_over : ℕ → ℕ → Packet → Bool
goes_over a b x = is_pair a b (x.msg.from.node, x.msg.to.node)

-- a message in flight over a pair is lost
abbrev pub lost_over : ℕ → ℕ → Packet → Packet
lost_over a b x = if goes_over a b x then fated fates.Lost x else x

-- pairs with one more; a pair stands there once
abbrev pub with_pair : ℕ → ℕ → List (ℕ × ℕ) → List (ℕ × ℕ)
with_pair a b pairs = if list_any (is_pair a b) pairs then pairs else (a, b) ∷ pairs

-- a pair is cut, and what is in flight over it is lost
unfoldable pub cut_over : Net → ℕ → ℕ → Net
cut_over net a b = record net { packets = map (lost_over a b) net.packets; cuts = with_pair a b net.cuts }

-- the numbers of what a cut loses
abbrev pub lost_by_cut : Net → ℕ → ℕ → List ℕ
lost_by_cut net a b = numbers_where (λ x. flies x && goes_over a b x) 1 net.packets

-- a pair is joined
unfoldable pub joined : Net → ℕ → ℕ → Net
joined net a b = record net { cuts = filter (λ pair. not (is_pair a b pair)) net.cuts }

-- whether a message goes to this node
abbrev pub goes_to : ℕ → Packet → Bool
goes_to n x = x.msg.to.node == n

-- a message in flight to a node is lost
abbrev pub lost_to : ℕ → Packet → Packet
lost_to n x = if goes_to n x then fated fates.Lost x else x

-- nodes with one more; a node stands there once
abbrev pub with_node : ℕ → List ℕ → List ℕ
with_node n nodes = if list_any (λ m. m == n) nodes then nodes else n ∷ nodes

-- a node is down, and what is in flight to it is lost
unfoldable pub stopped : Net → ℕ → Net
stopped net n = record net { packets = map (lost_to n) net.packets; down = with_node n net.down }

-- the numbers of what a stop loses
abbrev pub lost_by_stop : Net → ℕ → List ℕ
lost_by_stop net n = numbers_where (λ x. flies x && goes_to n x) 1 net.packets

-- a node is up
unfoldable pub started : Net → ℕ → Net
started net n = record net { down = filter (λ m. not (m == n)) net.down }

-- one more order to lose a message
abbrev pub with_order : Net → LoseOrder → Net
with_order net o = record net { orders = net.orders ++ o ∷ [] }

-- the message in flight with the least number
abbrev pub first_flying : Net → Option ℕ
first_flying net = option_map (λ i. i + 1) (position flies net.packets)

-- whether there is such a message and it is in flight
abbrev pub is_flying_at : Option Packet → Bool
is_flying_at None = false
is_flying_at (Some x) = flies x

-- DELIVER and LOSE take messages in flight
abbrev pub may_deliver : Net → ℕ → Bool
may_deliver net k = is_flying_at (packet_at net k)

-- whether a message could pass now
abbrev pub may_pass : Net → Option Packet → Bool
may_pass net None = false
may_pass net (Some x) = not (is_blocked net x.msg)

-- AGAIN delivers a copy of any message ever sent whose pair is joined and whose target is up
abbrev pub may_repeat : Net → ℕ → Bool
may_repeat net k = may_pass net (packet_at net k)
