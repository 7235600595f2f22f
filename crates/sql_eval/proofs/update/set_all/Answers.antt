use Rattle.std.proofs.Common.{◌∙◌}
use Rattle.sql_eval.proofs.SetLemmas.{set_all-step, set_all-fails}
use Rattle.sql_eval.proofs.update.set_all.Goals as goal

pub loop-set-preserved : goal.loop-set-preserved
loop-set-preserved c =
    c.loop-set.invariant
    ∙ set_all-step c.args.table.now c.args.before.now c.loop-set.after c.args.sets.now c.loop-set.set-index c.set-item.result _ c.loop-set-test.true c.set-item.is c.in-Ok.ensures

pub returns-in-Err : goal.returns-in-Err
returns-in-Err c =
    set_all-fails c.in-Err.error c.args.table.now c.args.before.now c.loop-set.after c.args.sets.now c.loop-set.set-index c.set-item.result c.loop-set-test.true c.set-item.is c.in-Err.ensures c.loop-set.invariant
