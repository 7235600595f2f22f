-- At a root the call of the session ends, and below it the parent is told.
use Rattle.std.proofs.Common.{sym}
use Rattle.node_memory.specs.Parts.{kept_in}
use Rattle.node_calls.proofs.DraftLaws.{client_answered, parent_answered}
use Rattle.node_calls.proofs.answering.answer.Goals as goal

pub returns-in_ok-draft-in-None-clause-gives : goal.returns-in_ok-draft-in-None-clause-gives
returns-in_ok-draft-in-None-clause-gives c =
    client_answered (kept_in c.args.memory.now) c.args.branch.now c.in-Some.live.now (sym c.in-Some.ensures.live) c.args.answer _ _ c.in-None.is c.in_ok-draft-in-None.ensures.after
    c.in_ok-draft-in-None.ensures.draft

pub returns-in_ok-draft-in-Ok-clause-gives : goal.returns-in_ok-draft-in-Ok-clause-gives
returns-in_ok-draft-in-Ok-clause-gives c =
    parent_answered (kept_in c.args.memory.now) c.args.branch.now c.in-Some.live.now (sym c.in-Some.ensures.live) c.args.answer c.in-Some-parent.parent c.reply_fields-fields.result
    c.in-Ok.says _ _ c.in-Some-parent.is c.reply_fields-fields.ensures c.in-Ok.ensures c.in_ok-draft-in-Ok.ensures.after
    c.in_ok-draft-in-Ok.ensures.draft
