-- The orders on the disks after a turn: those that its append left at its own node, and as before at the others.
use Rattle.std.proofs.Common.{◌≡◌, ◌≢◌, inl, inr, ℕ, Bool, true, false, List, unwrap_or, Option, Some, None, refl, sym, ap, ◌∙◌}
use Rattle.tran_ids.proofs.NumberedLemmas.{set_found, set_leaves, set_or_before}
use Rattle.node_rules.specs.Words.{numbered, set_numbered}
use Rattle.run_rules.specs.Cuts.{Cut_by, By_nothing, By_point, By_strike, appends_if, cut_appends}
use Rattle.run_rules.specs.Disks.{DiskOrders, after_append, no_orders, struck}
use Rattle.run_rules.specs.RunReport.{RunReport, orders_at}
use Rattle.world_parts.specs.Orders.{cut_orders, orders_if}

-- where there is no order an append leaves none
none_left : after_append 0 no_orders ≡ no_orders
unfolding after_append struck
none_left = refl

-- what an append leaves of the orders of a number
abbrev left_at : List DiskOrders → ℕ → DiskOrders
left_at xs n = after_append 0 (unwrap_or (numbered xs n) no_orders)

set_here : (xs : List DiskOrders) (n : ℕ) → unwrap_or (numbered (set_numbered xs n (left_at xs n)) n) no_orders ≡ left_at xs n
set_here xs n = by (numbered xs n) refl
  where
    by : (o : Option DiskOrders) → numbered xs n ≡ o → unwrap_or (numbered (set_numbered xs n (left_at xs n)) n) no_orders ≡ left_at xs n
    by (Some x) found = ap (λ (o : Option DiskOrders). unwrap_or o no_orders) (set_found xs n x (left_at xs n) found)
    by None none = elim (set_or_before xs n n (left_at xs n)) [
      | inl same ↦ ap (λ (o : Option DiskOrders). unwrap_or o no_orders) (same ∙ none) ∙ (sym none_left ∙ ap (λ (o : Option DiskOrders). after_append 0 (unwrap_or o no_orders)) (sym none))
      | inr new ↦ ap (λ (o : Option DiskOrders). unwrap_or o no_orders) new.1
    ]

appended_here : (t : RunReport) (n : ℕ) (writes : Bool) → orders_at (appends_if t n writes) n ≡ orders_if writes (orders_at t n)
appended_here t n true = set_here t.orders n
appended_here t n false = refl

appended_elsewhere : (t : RunReport) (n m : ℕ) (writes : Bool) → n ≢ m → orders_at (appends_if t n writes) m ≡ orders_at t m
appended_elsewhere t n m true other = ap (λ (o : Option DiskOrders). unwrap_or o no_orders) (set_leaves t.orders n m (after_append 0 (orders_at t n)) other)
appended_elsewhere t n m false other = refl

-- the orders of a turn's node
pub cut_here : (t : RunReport) (n : ℕ) (writes : Bool) (by : Cut_by) → orders_at (cut_appends t n writes by) n ≡ cut_orders writes by (orders_at t n)
cut_here t n writes By_nothing = appended_here t n writes
cut_here t n writes (By_strike stands) = appended_here t n writes
cut_here t n writes (By_point root numbers stands) = appended_here t n stands

-- and of the others
pub cut_elsewhere : (t : RunReport) (n m : ℕ) (writes : Bool) (by : Cut_by) → n ≢ m → orders_at (cut_appends t n writes by) m ≡ orders_at t m
cut_elsewhere t n m writes By_nothing other = appended_elsewhere t n m writes other
cut_elsewhere t n m writes (By_strike stands) other = appended_elsewhere t n m writes other
cut_elsewhere t n m writes (By_point root numbers stands) other = appended_elsewhere t n m stands other
