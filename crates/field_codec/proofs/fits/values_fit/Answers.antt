use Rattle.std.proofs.Common.{take, sym, subst}
use Rattle.std.proofs.lemmas.List.{take_all}
use Rattle.std.proofs.lemmas.List.Elements.{All-more, All-same, recursion_from_All}
use Rattle.field_codec.specs.Value.{value_format}
use Rattle.field_codec.proofs.fits.values_fit.Goals as goal

pub loop-value-preserved : goal.loop-value-preserved
loop-value-preserved c =
    All-more value_format.Fits c.args.values.now c.loop-value.value-index c.value-item.result c.loop-value-test.true c.loop-value.invariant (subst value_format.Fits c.value-item.is c.value_fits.ensures)

pub returns : goal.returns
returns c =
    recursion_from_All value_format.Fits c.args.values.now (All-same value_format.Fits c.args.values.now (take c.loop-value.value-index c.args.values.now) (sym (take_all c.loop-value.value-index c.args.values.now c.loop-value-test.false)) c.loop-value.invariant)
