-- A live branch takes the call.
use Rattle.node_memory.specs.Parts.{kept_in}
use Rattle.node_memory.specs.Branches.{branch_as}
use Rattle.node_calls.proofs.TurnLaws.{lives_so}
use Rattle.node_calls.proofs.turns.exec_turn.Goals as goal

pub returns-in_ok-draft-in-Live-clause-gives : goal.returns-in_ok-draft-in-Live-clause-gives
returns-in_ok-draft-in-Live-clause-gives c =
    let a = c.args in
    lives_so a.memory.now.place (kept_in a.memory.now) a.from a.to.now a.call a.task.now _ _ (branch_as c.in-Live.field-0) c.in-Live.ensures.stand c.in_ok-draft-in-Live.ensures.gives
