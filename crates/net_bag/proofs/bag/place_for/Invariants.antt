use Rattle.std.proofs.Common.{◌≡◌, ◌+◌, drop}
use Rattle.std.specs.List.{position_or_len}
use Rattle.net_bag.specs.Net.{is_order_for}
use Rattle.net_bag.proofs.bag.place_for.Given as goal

abbrev pub invariant-loop-place : goal.invariant-loop-place
invariant-loop-place l = position_or_len (is_order_for l.msg) l.orders ≡ l.place + position_or_len (is_order_for l.msg) (drop l.place l.orders)
