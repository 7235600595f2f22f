use Rattle.std.proofs.Common.{refl, sym, ap, ◌∙◌}
use Rattle.node_rules.specs.NodeState.{work_id}
use Rattle.node_state.specs.Changed.{change_item}
use Rattle.node_state.specs.Works.{AnyWork, back_at}
use Rattle.node_state.proofs.BranchLaws.{still_keyed, changed_is, unchanged_is}
use Rattle.node_state.proofs.works.Works.go_back.Goals as goal

pub invariant_of-self : goal.invariant_of-self
invariant_of-self c =
    let es = c.self.inside.works.entries in
    still_keyed work_id AnyWork es c.in-Some.place c.index_mut.result.now c.go_back.new.work c.index_mut.ensures.value (ap work_id c.go_back.ensures) tt c.self.invariant

pub returns-in-Some : goal.returns-in-Some
returns-in-Some c =
    let b = c.args.branch.now in
    let es = c.self.inside.works.entries in
    let there = sym c.in-Some.ensures.value ∙ c.index_mut.ensures.value in
    changed_is work_id AnyWork b (back_at c.args.step) es c.in-Some.place c.index_mut.result.now c.go_back.new.work (sym c.in-Some.ensures.index) there c.go_back.ensures refl c.self.invariant
    ∙ ap (λ ws. change_item work_id (back_at c.args.step) ws b) c.self.view_is

pub returns-in_default : goal.returns-in_default
returns-in_default c =
    let b = c.args.branch.now in
    let es = c.self.inside.works.entries in
    sym c.self.view_is
    ∙ unchanged_is work_id AnyWork b (back_at c.args.step) es c.self.invariant (c.in_default.ensures.found)
    ∙ ap (λ ws. change_item work_id (back_at c.args.step) ws b) c.self.view_is
