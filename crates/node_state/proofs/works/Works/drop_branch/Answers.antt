use Rattle.std.proofs.Common.{sym, ap, subst, ◌∙◌}
use Rattle.std.specs.Map.{lookup, values_of}
use Rattle.tran_ids.specs.Listed.{drop_item}
use Rattle.node_rules.specs.NodeState.{work_id}
use Rattle.node_state.specs.ByBranch.{KeysAreBranches}
use Rattle.node_state.specs.Works.{AnyWork}
use Rattle.node_state.proofs.BranchLaws.{found_as, dropped_is, keyed_removed}
use Rattle.node_state.proofs.works.Works.drop_branch.Goals as goal

pub invariant_of-self : goal.invariant_of-self
invariant_of-self c =
    let b = c.args.branch.now in
    let es = c.self.inside.works.entries in
    let left = c.shift_remove.ensures.entries in
    subst (KeysAreBranches work_id AnyWork) (sym left) (keyed_removed work_id AnyWork b es c.self.invariant)

pub returns : goal.returns
returns c =
    let b = c.args.branch.now in
    let es = c.self.inside.works.entries in
    let left = c.shift_remove.ensures.entries in
    let now = c.shift_remove.new.self.entries in
    let gone = sym (ap (lookup (found_as b)) left) ∙ c.shift_remove.ensures.updates.1 in
    ap values_of left ∙ dropped_is work_id AnyWork b es c.self.invariant gone ∙ ap (λ xs. drop_item work_id xs b) c.self.view_is
