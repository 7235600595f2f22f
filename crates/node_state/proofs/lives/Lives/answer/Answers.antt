use Rattle.std.proofs.Common.{◌≡◌, None, Some, sym, ap, subst, ◌∙◌}
use Rattle.std.specs.Option.{option_map}
use Rattle.tran_ids.specs.Listed.{item_at}
use Rattle.session_tree.specs.declared.live.Live.{Live}
use Rattle.node_rules.specs.NodeState.{live_id}
use Rattle.prepare_phase.specs.Acts.{heard_act, after_answer}
use Rattle.node_state.proofs.LiveLaws.{has_room, answered_keeps}
use Rattle.node_state.specs.Changed.{change_item}
use Rattle.node_state.specs.Lives.{HasRoom}
use Rattle.node_state.proofs.BranchLaws.{found, still_keyed, holds_there, changed_is, unchanged_is, none_there}
use Rattle.node_state.proofs.lives.Lives.answer.Goals as goal

pub on_answer-act-requires : goal.on_answer-act-requires
on_answer-act-requires c = holds_there live_id HasRoom c.self.inside.lives.entries c.in-Some.place c.index_mut.result.now c.index_mut.ensures.value c.self.invariant

pub invariant_of-self : goal.invariant_of-self
invariant_of-self c =
    let es = c.self.inside.lives.entries in
    let x = c.index_mut.result.now in
    let there = c.index_mut.ensures.value in
    let keeps = answered_keeps x c.args.from.now c.args.vote in
    still_keyed live_id HasRoom es c.in-Some.place x c.on_answer-act.new.live there (ap live_id c.on_answer-act.ensures.after ∙ keeps.me)
    (subst HasRoom (sym c.on_answer-act.ensures.after) (has_room x ((λ (l : Live). after_answer l c.args.from.now c.args.vote) x) keeps (holds_there live_id HasRoom es c.in-Some.place x there c.self.invariant))) c.self.invariant

pub returns-clause-act : goal.returns-clause-act
returns-clause-act c =
    let b = c.args.branch.now in
    let es = c.self.inside.lives.entries in
    let x = c.index_mut.result.now in
    let there = sym c.in-Some.ensures.value ∙ c.index_mut.ensures.value in
    let item : item_at live_id c.args.self.now b ≡ Some x = ap (λ ls. item_at live_id ls b) (sym c.self.view_is) ∙ sym (found live_id HasRoom b es c.self.invariant) ∙ there in
    ap Some c.on_answer-act.ensures.act ∙ sym (ap (option_map (λ (l : Live). heard_act l c.args.from.now c.args.vote)) item)

pub returns-clause-after : goal.returns-clause-after
returns-clause-after c =
    let b = c.args.branch.now in
    let es = c.self.inside.lives.entries in
    let x = c.index_mut.result.now in
    let there = sym c.in-Some.ensures.value ∙ c.index_mut.ensures.value in
    let at = (sym c.in-Some.ensures.index) in
    let keeps = answered_keeps x c.args.from.now c.args.vote in
    changed_is live_id HasRoom b (λ (l : Live). after_answer l c.args.from.now c.args.vote) es c.in-Some.place x c.on_answer-act.new.live at there c.on_answer-act.ensures.after keeps.me c.self.invariant
    ∙ ap (λ ls. change_item live_id (λ (l : Live). after_answer l c.args.from.now c.args.vote) ls b) c.self.view_is

pub returns-in_default-clause-act : goal.returns-in_default-clause-act
returns-in_default-clause-act c =
    let b = c.args.branch.now in
    let es = c.self.inside.lives.entries in
    let none : item_at live_id c.args.self.now b ≡ None =
    ap (λ ls. item_at live_id ls b) (sym c.self.view_is)
    ∙ none_there live_id HasRoom b es c.self.invariant (c.in_default.ensures.found) in
    sym (ap (option_map (λ (l : Live). heard_act l c.args.from.now c.args.vote)) none)

pub returns-in_default-clause-after : goal.returns-in_default-clause-after
returns-in_default-clause-after c =
    let b = c.args.branch.now in
    let es = c.self.inside.lives.entries in
    sym c.self.view_is
    ∙ unchanged_is live_id HasRoom b (λ (l : Live). after_answer l c.args.from.now c.args.vote) es c.self.invariant (c.in_default.ensures.found)
    ∙ ap (λ ls. change_item live_id (λ (l : Live). after_answer l c.args.from.now c.args.vote) ls b) c.self.view_is
