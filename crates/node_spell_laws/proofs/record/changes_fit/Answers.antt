use Rattle.std.proofs.Common.{take, sym, subst}
use Rattle.std.proofs.lemmas.List.{take_all}
use Rattle.std.proofs.lemmas.List.Elements.{All-more, All-same, recursion_from_All}
use Rattle.field_codec.specs.Change.{change_format}
use Rattle.node_spell_laws.proofs.record.changes_fit.Goals as goal

pub loop-change-preserved : goal.loop-change-preserved
loop-change-preserved c =
    All-more change_format.Fits c.args.changes.now c.loop-change.change-index c.change-item.result c.loop-change-test.true c.loop-change.invariant (subst change_format.Fits c.change-item.is c.change_fits.ensures)

pub returns : goal.returns
returns c =
    recursion_from_All change_format.Fits c.args.changes.now (All-same change_format.Fits c.args.changes.now (take c.loop-change.change-index c.args.changes.now) (sym (take_all c.loop-change.change-index c.args.changes.now c.loop-change-test.false)) c.loop-change.invariant)
