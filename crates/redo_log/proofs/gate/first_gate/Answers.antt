-- Where there is no whole cell behind an open gate, the bytes are no log.
use Rattle.std.proofs.Common.{◌≡◌, ◌∙◌, ap, arith, length-drop}
use Rattle.std.proofs.lemmas.List.{nil_from_length}
use Rattle.redo_log.specs.Cells.{bodies, stated_length}
use Rattle.redo_log.proofs.Cells.{none_of_nothing, cut_off_at, is_stated}
use Rattle.redo_log.proofs.gate.first_gate.Goals as goal

pub returns-in_default : goal.returns-in_default
returns-in_default c = ap bodies (nil_from_length c.args.bytes.now c.in_default.ensures.cases) ∙ none_of_nothing

pub returns-then-cell-lt4 : goal.returns-then-cell-lt4
returns-then-cell-lt4 c = cut_off_at c.args.bytes.now c.in-Some.gate.now c.in-Some.cell.now c.in-Some.ensures.cases.0 c.if-gate-ne-OPEN.false (omega arith)

pub returns-then-rest-length : goal.returns-then-rest-length
returns-then-rest-length c =
    let cell = c.in-Some.cell.now in
    let stated : c.from_be_bytes-length.result ≡ stated_length cell = is_stated _ c.split_at.result.0.now cell c.from_be_bytes-length.ensures c.split_at.ensures.front in
    cut_off_at c.args.bytes.now c.in-Some.gate.now cell c.in-Some.ensures.cases.0 c.if-gate-ne-OPEN.false (omega (arith, stated, length-drop 4 cell))
