use Rattle.std.proofs.Common.{sym, ap, subst, ◌∙◌}
use Rattle.std.specs.Map.{lookup, values_of}
use Rattle.tran_ids.specs.Listed.{drop_item}
use Rattle.node_rules.specs.NodeState.{live_id}
use Rattle.node_state.specs.ByBranch.{KeysAreBranches}
use Rattle.node_state.specs.Lives.{HasRoom}
use Rattle.node_state.proofs.BranchLaws.{found_as, dropped_is, keyed_removed}
use Rattle.node_state.proofs.lives.Lives.drop_branch.Goals as goal

pub invariant_of-self : goal.invariant_of-self
invariant_of-self c =
    let b = c.args.branch.now in
    let es = c.self.inside.lives.entries in
    let left = c.shift_remove.ensures.entries in
    subst (KeysAreBranches live_id HasRoom) (sym left) (keyed_removed live_id HasRoom b es c.self.invariant)

pub returns : goal.returns
returns c =
    let b = c.args.branch.now in
    let es = c.self.inside.lives.entries in
    let left = c.shift_remove.ensures.entries in
    let now = c.shift_remove.new.self.entries in
    let gone = sym (ap (lookup (found_as b)) left) ∙ c.shift_remove.ensures.updates.1 in
    ap values_of left ∙ dropped_is live_id HasRoom b es c.self.invariant gone ∙ ap (λ xs. drop_item live_id xs b) c.self.view_is
