use Rattle.std.proofs.Common.{take, sym, subst}
use Rattle.std.proofs.lemmas.List.{take_all}
use Rattle.std.proofs.lemmas.List.Elements.{All-more, All-same, recursion_from_All}
use Rattle.field_codec.specs.Value.{row_format}
use Rattle.msg_codec.proofs.fits.rows_fit.Goals as goal

pub loop-row-preserved : goal.loop-row-preserved
loop-row-preserved c =
    All-more row_format.Fits c.args.rows.now c.loop-row.row-index c.row-item.result c.loop-row-test.true c.loop-row.invariant (subst row_format.Fits c.row-item.is c.row_fits.ensures)

pub returns : goal.returns
returns c =
    recursion_from_All row_format.Fits c.args.rows.now (All-same row_format.Fits c.args.rows.now (take c.loop-row.row-index c.args.rows.now) (sym (take_all c.loop-row.row-index c.args.rows.now c.loop-row-test.false)) c.loop-row.invariant)
