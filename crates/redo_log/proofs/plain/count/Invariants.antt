-- The bodies counted, with those of the rest, are all.
use Rattle.std.proofs.Common.{◌≡◌, ◌≤◌, ◌+◌, List, ℕ, length}
use Rattle.std.specs.Option.{option_map}
use Rattle.redo_log.specs.Cells.{bodies}
use Rattle.redo_log.proofs.plain.count.Given as goal

abbrev pub invariant-cells : goal.invariant-cells
invariant-cells l = record {
  so_far : option_map (λ (list : List (List ℕ)). length list) (bodies l.bytes) ≡ option_map (λ (list : List (List ℕ)). l.found + length list) (bodies l.rest);
  within : l.found + length l.rest ≤ length l.bytes;
}

abbrev pub decreases-cells : goal.decreases-cells
decreases-cells l = length l.rest
