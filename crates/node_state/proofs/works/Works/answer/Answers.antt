use Rattle.std.proofs.Common.{◌≡◌, None, ap, subst, ◌∙◌}
use Rattle.tran_ids.specs.Listed.{item_at, put_item}
use Rattle.node_rules.specs.NodeState.{work_id}
use Rattle.node_state.specs.Works.{answered_with}
use Rattle.node_state.proofs.WorkLaws.{on_err, work_branch}
use Rattle.node_state.proofs.works.Works.answer.Goals as goal

pub returns-in_err-put-clause-err : goal.returns-in_err-put-clause-err
returns-in_err-put-clause-err c =
    let b = c.args.branch.now in
    let mine = ap work_id (c.answer.ensures ∙ ap (answered_with c.args.reply) c.take_out-work.ensures.work) ∙ work_branch c.args.self.now b in
    let none = subst (λ a. item_at work_id c.take_out-work.new.self a ≡ None) mine c.in_err-put.ensures.absent in
    on_err c.from_residual.result (c.in_err-put.ensures.err ∙ c.take_out-work.ensures.absent none)

pub returns-clause-ok : goal.returns-clause-ok
returns-clause-ok c =
    let b = c.args.branch.now in
    let work = c.answer.ensures ∙ ap (answered_with c.args.reply) c.take_out-work.ensures.work in
    let mine = ap work_id work ∙ work_branch c.args.self.now b in
    c.in_ok-put.ensures.ok ∙ c.take_out-work.ensures.place c.answer.new.work mine ∙ ap (put_item work_id c.args.self.now) work
