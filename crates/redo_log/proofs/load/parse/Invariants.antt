-- The bytes are the cells of the bodies found, and the rest.
use Rattle.std.proofs.Common.{◌≡◌, ◌++◌, length}
use Rattle.redo_log.specs.Cells.{cells_of, AllFit}
use Rattle.redo_log.proofs.load.parse.Given as goal

abbrev pub invariant-cells : goal.invariant-cells
invariant-cells l = record {
  so_far : l.bytes ≡ cells_of l.found ++ l.rest;
  fit : AllFit l.found;
}

abbrev pub decreases-cells : goal.decreases-cells
decreases-cells l = length l.rest
