use Rattle.std.proofs.lemmas.Result.{err_from_is_err_and}
use Rattle.byte_format.specs.Several.{times_at}
use Rattle.byte_format.proofs.Loop.{goes_on, ends}
use Rattle.image_codec.proofs.catalog.take_times.Goals as goal

pub returns-in_err-item : goal.returns-in_err-item
returns-in_err-item g c =
    let p = err_from_is_err_and c.from_residual.result c.from_residual.ensures.1 in
    rw (p.1, p.2) (ends g.F.Field.format.read c.in_err-item.field-0.0 c.loop.items.items c.args.count c.loop.counter c.loop.rest.now (times_at c.args.count g.F.Field.format.read c.args.bytes.now) c.loop-test.true c.in_err-item.ensures c.loop.invariant)

pub loop-preserved : goal.loop-preserved
loop-preserved g c =
    rw c.in_ok-push.ensures.items (goes_on g.F.Field.format.read c.loop.items.items c.args.count c.loop.counter c.loop.rest.now c.in_ok-item.item c.in_ok-item.after.now (times_at c.args.count g.F.Field.format.read c.args.bytes.now) c.loop-test.true c.in_ok-item.ensures c.loop.invariant)
