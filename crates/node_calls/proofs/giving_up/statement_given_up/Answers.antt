-- The call ends with DTX-03, and the transaction needs a rollback.
use Rattle.std.proofs.Common.{sym}
use Rattle.node_memory.specs.Parts.{kept_in}
use Rattle.node_calls.proofs.DraftLaws.{given_up_so}
use Rattle.node_calls.proofs.giving_up.statement_given_up.Goals as goal

pub returns-in-Ok-clause-gives : goal.returns-in-Ok-clause-gives
returns-in-Ok-clause-gives c =
    given_up_so (kept_in c.args.memory.now) c.args.root.now c.in-Some.live.now (sym c.in-Some.ensures.live) c.args.session c.in_ok-answer.answer _ c.set_call.new.self _ _
    c.in-Ok.ensures.ok c.set_call.ensures c.need_rollback.ensures c.in_ok-answer.ensures c.in_ok-draft.ensures.is
