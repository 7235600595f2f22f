-- A branch that hears a Reply has told of few branches still, and is answered.
use Rattle.std.proofs.Common.{rules, ◌≡◌, ◌<◌, ◌^◌, List, None, IfSome, refl, sym, ap, subst, ◌∙◌}
use Rattle.std.specs.Option.{option_map}
use Rattle.tran_ids.specs.Listed.{item_at}
use Rattle.session_tree.specs.Tree.{count}
use Rattle.node_rules.specs.Data.{Live}
use Rattle.node_rules.specs.NodeState.{live_id}
use Rattle.node_state.specs.Lives.{heard}
use Rattle.node_memory.specs.Parts.{kept_in}
use Rattle.node_calls.specs.Handled.{replier_as}
use Rattle.node_calls.proofs.BranchLaws.{holds_changed}
use Rattle.node_calls.proofs.ReplyLaws.{back_so, reply_ignored, reply_so}
use Rattle.node_calls.proofs.replied.on_reply.Goals as goal

pub answer-requires : goal.answer-requires
answer-requires c =
    let b = c.args.to.now in
    let f = heard c.in-Some-replying.replier.number c.args.weight c.args.count in
    subst (λ (ls : List Live). IfSome (item_at live_id ls b) (λ l. count l < 2 ^ 16)) (sym c.hear-2.ensures)
    (holds_changed f (λ l. refl) (λ l. count (f l) < 2 ^ 16) (λ l. count l < 2 ^ 16) (λ l few. few) c.args.memory.now.lives b (c.requires c.in-Some-replying.replier.number))

pub returns-in_default-replying-clause-gives : goal.returns-in_default-replying-clause-gives
returns-in_default-replying-clause-gives c =
    let none : c.replying.result ≡ None = search rules in
    reply_ignored (kept_in c.args.memory.now) c.args.to.now c.in-Some.live.now (sym c.in-Some.ensures.live) c.args.from c.args.call c.args.weight c.args.count c.args.told _
    (sym c.replying.ensures ∙ ap (option_map replier_as) none) (search rules)

pub returns-in-Some-back_step-clause-gives : goal.returns-in-Some-back_step-clause-gives
returns-in-Some-back_step-clause-gives c =
    back_so (kept_in c.args.memory.now) c.args.to.now c.in-Some.live.now (sym c.in-Some.ensures.live) c.args.from c.args.call c.args.weight c.args.count c.args.told c.in-Some-replying.replier.number
    c.in-Some-replying.replier.edge.now c.in-Some-back_step.step _ _ _ (sym c.in-Some-replying.ensures) (sym c.back_step.ensures ∙ c.in-Some-back_step.is) c.hear.ensures c.in_ok-draft.ensures.gives

pub returns-clause-gives : goal.returns-clause-gives
returns-clause-gives c =
    reply_so (kept_in c.args.memory.now) c.args.to.now c.in-Some.live.now (sym c.in-Some.ensures.live) c.args.from c.args.call c.args.weight c.args.count c.args.told c.in-Some-replying.replier.number
    c.in-Some-replying.replier.edge.now c.in_ok-heard.heard _ _ _ _ (sym c.in-Some-replying.ensures)
    (sym c.back_step.ensures ∙ c.in_default-back_step.is) c.in_ok-heard.ensures c.hear-2.ensures c.hear_gone.ensures c.in_ok-draft-2.ensures.gives
