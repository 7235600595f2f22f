-- The body of the number is that of what is left of the number, in the rest.
use Rattle.std.proofs.Common.{◌≡◌, ◌<◌, true, length}
use Rattle.std.specs.Option.{is_some}
use Rattle.redo_log.specs.Cells.{bodies, numbered_in}
use Rattle.redo_log.proofs.plain.cell.Given as goal

abbrev pub invariant-cells : goal.invariant-cells
invariant-cells l = record {
  here : numbered_in (bodies l.bytes) l.i ≡ numbered_in (bodies l.rest) l.left;
  some : 0 < l.left;
  is_log : is_some (bodies l.rest) ≡ true;
}

abbrev pub decreases-cells : goal.decreases-cells
decreases-cells l = length l.rest
