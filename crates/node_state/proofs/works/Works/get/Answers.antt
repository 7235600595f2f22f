use Rattle.std.proofs.Common.{ap, ◌∙◌}
use Rattle.tran_ids.specs.Listed.{item_at}
use Rattle.node_rules.specs.NodeState.{work_id}
use Rattle.node_state.specs.Works.{AnyWork}
use Rattle.node_state.proofs.BranchLaws.{found}
use Rattle.node_state.proofs.works.Works.get.Goals as goal

pub returns : goal.returns
returns c =
    let b = c.args.branch.now in
    let es = c.self.inside.works.entries in
    c.get.ensures.value ∙ found work_id AnyWork b es c.self.invariant ∙ ap (λ ws. item_at work_id ws b) c.self.view_is
