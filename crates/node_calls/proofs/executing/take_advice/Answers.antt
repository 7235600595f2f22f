-- Going back brings no advice.
use Rattle.node_calls.proofs.CallLaws.{not_advised}
use Rattle.node_calls.proofs.executing.take_advice.Goals as goal

pub returns-in-GoBack : goal.returns-in-GoBack
returns-in-GoBack c = not_advised c.args.lives.now c.args.branch.now c.args.task.now _ c.in-GoBack.is
