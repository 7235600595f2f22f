-- Before any command no node's disk has an order.
use Rattle.std.proofs.Common.{◌≡◌, ℕ, List, [], ◌∷◌, map, length, replicate, refl, ap, sym, ◌∙◌}
use Rattle.node_rules.specs.Data.{Place}
use Rattle.run_rules.specs.Disks.{no_orders}

each_none : (places : List Place) → replicate (length places) no_orders ≡ map (λ p. no_orders) places
each_none [] = refl
each_none (p ∷ ps) = ap (λ os. no_orders ∷ os) (each_none ps)

-- one place in the list of orders for each node
pub none_each : (places : List Place) (n : ℕ) → length places ≡ n → replicate n no_orders ≡ map (λ p. no_orders) places
none_each places n same = ap (λ m. replicate m no_orders) (sym same) ∙ each_none places
