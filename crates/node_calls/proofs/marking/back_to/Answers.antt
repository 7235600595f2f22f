-- The root goes back to its savepoint of this name, and DTX-22 where it has none.
use Rattle.std.proofs.Common.{sym}
use Rattle.node_memory.specs.Parts.{kept_in}
use Rattle.node_calls.proofs.SavepointLaws.{goes_back_so, no_savepoint_so}
use Rattle.node_calls.proofs.marking.back_to.Goals as goal

pub returns-in_ok-draft-in-None-savepoint-clause-gives : goal.returns-in_ok-draft-in-None-savepoint-clause-gives
returns-in_ok-draft-in-None-savepoint-clause-gives c =
    let a = c.args in
    no_savepoint_so (kept_in a.memory.now) a.session a.name.now a.root.now c.in-Some.field-0.now _ (sym c.in-Some.ensures.live) (sym c.in-None-savepoint.ensures)
    (c.in_ok-draft-in-None-savepoint.ensures (kept_in a.memory.now))

pub returns-in_ok-draft-in-Some-savepoint-clause-gives : goal.returns-in_ok-draft-in-Some-savepoint-clause-gives
returns-in_ok-draft-in-Some-savepoint-clause-gives c =
    let a = c.args in
    goes_back_so (kept_in a.memory.now) a.session a.name.now a.root.now c.in-Some.field-0.now c.in-Some-savepoint.step _ _ (sym c.in-Some.ensures.live) (sym c.in-Some-savepoint.ensures)
    c.in_ok-draft-in-Some-savepoint.ensures.gives
