-- A number is found in the first cell, or is one less in the rest.
use Rattle.std.proofs.Common.{sym, ◌∙◌, ap, arith}
use Rattle.redo_log.specs.Cells.{bodies, numbered_in}
use Rattle.redo_log.proofs.Walk.{first_body, later_body, log_behind, none_found}
use Rattle.redo_log.proofs.plain.cell.Goals as goal

pub returns-then-left-eq1 : goal.returns-then-left-eq1
returns-then-left-eq1 c =
    sym (c.cells.invariant.here ∙ ap (λ n. numbered_in (bodies c.cells.rest.now) n) c.if-left-eq1.true
    ∙ first_body c.cells.rest.now c.in-Open.body.now c.in-Open.behind.now c.in-Open.ensures.0 c.in-Open.ensures.1 c.cells.invariant.is_log)

pub cells-preserved : goal.cells-preserved
cells-preserved c =
    let now = c.cells.rest.now in
    let body = c.in-Open.body.now in
    let behind = c.in-Open.behind.now in
    record {
      here = c.cells.invariant.here ∙ later_body now body behind c.in-Open.ensures.0 c.in-Open.ensures.1 c.cells.left (omega arith);
      some = omega arith;
      is_log = log_behind now body behind c.in-Open.ensures.0 c.in-Open.ensures.1 c.cells.invariant.is_log;
    }

pub returns-in-Closed : goal.returns-in-Closed
returns-in-Closed c = sym (c.cells.invariant.here ∙ none_found c.first_gate.result c.cells.rest.now c.cells.left c.first_gate.ensures c.in-Closed.is)
