-- The Exec goes to the child, and the branch waits for its Reply.
use Rattle.std.proofs.Common.{sym}
use Rattle.node_memory.specs.Parts.{kept_in}
use Rattle.node_calls.proofs.DraftLaws.{called_so}
use Rattle.node_calls.proofs.calling.call_over.Goals as goal

pub returns-in-Ok-call_over-clause-gives : goal.returns-in-Ok-call_over-clause-gives
returns-in-Ok-call_over-clause-gives c =
    called_so (kept_in c.args.memory.now) c.args.branch.now c.in-Some.live.now (sym c.in-Some.ensures.live) c.args.errand c.args.number c.step_of-step.result c.in-Ok.says _ _ _ c.step_of-step.ensures
    c.in-Ok-call_over.ensures.ok c.pend.ensures c.in-Ok.ensures c.saying.ensures.is
