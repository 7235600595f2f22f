use Rattle.std.proofs.Common.{◌≡◌, ◌+◌, map, drop, None}
use Rattle.session_tree.specs.Tree.{place_of_greatest}
use Rattle.session_tree.proofs.tree.best_child.Given as goal

abbrev pub invariant-loop-edge : goal.invariant-loop-edge
invariant-loop-edge l = record {
  counted : l.number ≡ l.edge-index;
  greatest : place_of_greatest 1 (map (λ e. e.weight) l.edges) None ≡ place_of_greatest (l.number + 1) (map (λ e. e.weight) (drop l.edge-index l.edges)) l.best;
}
