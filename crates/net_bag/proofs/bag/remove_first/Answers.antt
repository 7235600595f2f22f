use Rattle.std.proofs.Common.{◌≡◌, ◌<◌, ◌≤◌, ◌∙◌, ap, length, rules, subst}
use Rattle.std.specs.List.{position_or_len}
use Rattle.net_bag.specs.Net.{is_order_for}
use Rattle.net_bag.proofs.OrderLemmas.{unused, used_at}
use Rattle.net_bag.proofs.bag.remove_first.Goals as goal

pub returns-then-place-len : goal.returns-then-place-len
returns-then-place-len c =
    let place : c.place_for-place.result ≡ position_or_len (is_order_for c.args.msg.now) c.args.orders.now.items = c.place_for-place.ensures ∙ ap (position_or_len (is_order_for c.args.msg.now)) c.deref.ensures.value in
    let within : c.place_for-place.result < length c.args.orders.now.items = search rules in
    c.remove.ensures.items ∙ used_at c.args.msg.now c.args.orders.now.items c.place_for-place.result place within

pub returns-else-place-len : goal.returns-else-place-len
returns-else-place-len c =
    let place : c.place_for-place.result ≡ position_or_len (is_order_for c.args.msg.now) c.args.orders.now.items = c.place_for-place.ensures ∙ ap (position_or_len (is_order_for c.args.msg.now)) c.deref.ensures.value in
    let past : length c.args.orders.now.items ≤ c.place_for-place.result = search rules in
    unused c.args.msg.now c.args.orders.now.items (subst (λ n. length c.args.orders.now.items ≤ n) place past)
