-- The root has its savepoint at its step.
use Rattle.std.proofs.Common.{List, ℕ, sym, ap, ◌∙◌}
use Rattle.node_rules.specs.NodeState.{NodeState}
use Rattle.node_state.specs.Works.{change_work, with_savepoint_at}
use Rattle.node_memory.specs.Parts.{kept_in}
use Rattle.node_calls.proofs.SavepointLaws.{marked_so}
use Rattle.node_calls.proofs.marking.set_savepoint.Goals as goal

pub returns-clause-gives : goal.returns-clause-gives
returns-clause-gives c =
    let a = c.args in
    let k : NodeState = kept_in a.memory.now in
    marked_so k a.session a.name.now a.root.now c.in-Some.live.now c.step_of-step.result c.set_savepoint.new.self _ (sym c.in-Some.ensures.live) c.step_of-step.ensures
    (c.in_ok-set_savepoint.ensures ∙ ap (λ (name : List ℕ). change_work (with_savepoint_at name c.step_of-step.result) k.works a.root.now) c.in_ok-copy.ensures)
    (c.in_ok-draft.ensures.gives (record k { works = c.set_savepoint.new.self }))
