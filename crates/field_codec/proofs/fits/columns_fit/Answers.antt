use Rattle.std.proofs.Common.{take, sym, subst}
use Rattle.std.proofs.lemmas.List.{take_all}
use Rattle.std.proofs.lemmas.List.Elements.{All-more, All-same, recursion_from_All}
use Rattle.field_codec.specs.Table.{column_format}
use Rattle.field_codec.proofs.fits.columns_fit.Goals as goal

pub loop-column-preserved : goal.loop-column-preserved
loop-column-preserved c =
    All-more column_format.Fits c.args.columns.now c.loop-column.column-index c.column-item.result c.loop-column-test.true c.loop-column.invariant (subst column_format.Fits c.column-item.is c.column_fits.ensures)

pub returns : goal.returns
returns c =
    recursion_from_All column_format.Fits c.args.columns.now (All-same column_format.Fits c.args.columns.now (take c.loop-column.column-index c.args.columns.now) (sym (take_all c.loop-column.column-index c.args.columns.now c.loop-column-test.false)) c.loop-column.invariant)
