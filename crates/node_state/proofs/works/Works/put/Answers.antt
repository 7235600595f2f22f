use Rattle.std.proofs.Common.{sym, ap, subst, ◌∙◌}
use Rattle.std.specs.Map.{values_of}
use Rattle.tran_ids.specs.Listed.{item_at, put_item}
use Rattle.node_rules.specs.NodeState.{work_id}
use Rattle.node_state.specs.ByBranch.{KeysAreBranches}
use Rattle.node_state.specs.Works.{AnyWork}
use Rattle.node_state.proofs.BranchLaws.{found, put_is, keyed_put}
use Rattle.node_state.proofs.WorkLaws.{on_err}
use Rattle.node_state.proofs.works.Works.put.Goals as goal

pub returns-in_err-insert-clause-absent : goal.returns-in_err-insert-clause-absent
returns-in_err-insert-clause-absent c =
    let b = c.args.work.branch in
    let es = c.self.inside.works.entries in
    on_err c.from_residual.result (ap (λ ws. item_at work_id ws b) (sym c.self.view_is) ∙ sym (found work_id AnyWork b es c.self.invariant)
    ∙ c.in_err-insert.ensures.absent)

pub invariant_of-self-2 : goal.invariant_of-self-2
invariant_of-self-2 c =
    let x = c.args.work in
    let es = c.self.inside.works.entries in
    let all = c.in_ok-insert.ensures.entries in
    subst (KeysAreBranches work_id AnyWork) (sym all) (keyed_put work_id AnyWork x es tt c.self.invariant)

pub returns-clause-ok : goal.returns-clause-ok
returns-clause-ok c =
    let x = c.args.work in
    let es = c.self.inside.works.entries in
    ap values_of c.in_ok-insert.ensures.entries ∙ put_is work_id AnyWork x es c.self.invariant
    ∙ ap (λ ws. put_item work_id ws x) c.self.view_is
