-- The next child is called, or the branch says that it is back.
use Rattle.std.proofs.Common.{◌+◌, None, Some, sym, ◌∙◌}
use Rattle.node_memory.specs.Parts.{kept_in}
use Rattle.node_calls.proofs.BackLaws.{children_so}
use Rattle.node_calls.proofs.going_back.children_back.Goals as goal

pub returns-in_ok-draft-in-None-clause-gives : goal.returns-in_ok-draft-in-None-clause-gives
returns-in_ok-draft-in-None-clause-gives c =
    let a = c.args in
    children_so (kept_in a.memory.now) a.branch.now c.in-Some.field-0.now a.step (sym c.in-Some.ensures.live) (a.last + 1) None _ _ (sym c.in-None.is ∙ c.in_ok-next.ensures) c.in_ok-draft-in-None.ensures.gives

pub returns-in_ok-draft-in-Some-next-clause-gives : goal.returns-in_ok-draft-in-Some-next-clause-gives
returns-in_ok-draft-in-Some-next-clause-gives c =
    let a = c.args in
    children_so (kept_in a.memory.now) a.branch.now c.in-Some.field-0.now a.step (sym c.in-Some.ensures.live) (a.last + 1) (Some c.in-Some-next.number) _ _ (sym c.in-Some-next.is ∙ c.in_ok-next.ensures)
    c.in_ok-draft-in-Some-next.ensures.gives
