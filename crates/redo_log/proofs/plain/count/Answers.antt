-- A cell counts one, and a closed gate nothing.
use Rattle.std.proofs.Common.{sym, ◌∙◌, arith}
use Rattle.redo_log.proofs.Walk.{count_more, count_all, length-cell}
use Rattle.redo_log.proofs.plain.count.Goals as goal

pub cells-preserved : goal.cells-preserved
cells-preserved c =
    let now = c.cells.rest.now in
    let body = c.in-Open.body.now in
    let behind = c.in-Open.behind.now in
    record {
      so_far = c.cells.invariant.so_far ∙ count_more c.cells.found now body behind c.in-Open.ensures.0 c.in-Open.ensures.1;
      within = omega (arith, c.cells.invariant.within, length-cell now body behind c.in-Open.ensures.0);
    }

pub returns-in-Closed : goal.returns-in-Closed
returns-in-Closed c = sym (c.cells.invariant.so_far ∙ count_all c.cells.found c.cells.rest.now c.in-Closed.ensures)
