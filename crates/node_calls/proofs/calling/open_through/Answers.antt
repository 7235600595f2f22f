-- Open goes to the node of the link, and the branch waits for Opened.
use Rattle.std.proofs.Common.{sym}
use Rattle.node_memory.specs.Parts.{kept_in}
use Rattle.node_calls.proofs.DraftLaws.{opened_so}
use Rattle.node_calls.proofs.calling.open_through.Goals as goal

pub returns-in-Ok-wait_for_opened-clause-gives : goal.returns-in-Ok-wait_for_opened-clause-gives
returns-in-Ok-wait_for_opened-clause-gives c =
    opened_so (kept_in c.args.memory.now) c.args.branch.now c.in-Some.live.now (sym c.in-Some.ensures.live) c.args.statement c.args.given c.args.node c.args.link c.in-Ok.says _ _ _
    c.in-Ok-wait_for_opened.ensures.ok c.pend.ensures c.in-Ok.ensures c.saying.ensures.is
