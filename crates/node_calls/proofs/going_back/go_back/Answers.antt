-- A live branch goes back, and nothing happens where it is not live.
use Rattle.std.proofs.Common.{sym}
use Rattle.node_memory.specs.Parts.{kept_in}
use Rattle.node_calls.proofs.BackLaws.{back_so}
use Rattle.node_calls.proofs.going_back.go_back.Goals as goal

pub returns-clause-gives : goal.returns-clause-gives
returns-clause-gives c =
    let a = c.args in
    back_so (kept_in a.memory.now) a.branch.now c.in-Some.field-0.now a.step (sym c.in-Some.ensures.live) _ _ _ c.in_ok-undo.ensures.undone c.in_ok-draft.ensures.gives
