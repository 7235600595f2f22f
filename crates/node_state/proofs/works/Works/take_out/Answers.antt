use Rattle.std.proofs.Common.{◌≡◌, None, Some, sym, ap, ◌∙◌}
use Rattle.std.specs.Map.{values_of}
use Rattle.tran_ids.specs.Listed.{item_at, put_item}
use Rattle.tran_ids.proofs.ListedLemmas.{item_is}
use Rattle.node_rules.specs.NodeState.{work_id, work_or}
use Rattle.node_state.specs.Works.{AnyWork}
use Rattle.node_state.proofs.BranchLaws.{found, still_keyed, none_there, placed_there, placed_twice}
use Rattle.node_state.proofs.works.Works.take_out.Goals as goal

pub invariant_of-self : goal.invariant_of-self
invariant_of-self c =
    let b = c.args.branch.now in
    let es = c.self.inside.works.entries in
    let x = c.index_mut.result.now in
    let there = sym c.in-Some.ensures.value ∙ c.index_mut.ensures.value in
    let mine = item_is work_id (values_of es) b x (sym (found work_id AnyWork b es c.self.invariant) ∙ there) in
    still_keyed work_id AnyWork es c.in-Some.place x c.replace.new.dest c.index_mut.ensures.value (ap work_id (c.replace.ensures.after ∙ c.no_work-empty.ensures) ∙ sym mine) tt c.self.invariant

pub returns-clause-work : goal.returns-clause-work
returns-clause-work c =
    let b = c.args.branch.now in
    let es = c.self.inside.works.entries in
    let x = c.index_mut.result.now in
    let there = sym c.in-Some.ensures.value ∙ c.index_mut.ensures.value in
    let item : item_at work_id c.args.self.now b ≡ Some x = ap (λ ws. item_at work_id ws b) (sym c.self.view_is) ∙ sym (found work_id AnyWork b es c.self.invariant) ∙ there in
    c.replace.ensures.value ∙ sym (ap (work_or b) item)

pub returns-clause-place : goal.returns-clause-place
returns-clause-place c =
    let b = c.args.branch.now in
    let es = c.self.inside.works.entries in
    let at = (sym c.in-Some.ensures.index) in
    let mine = ap work_id (c.replace.ensures.after ∙ c.no_work-empty.ensures) in
    λ work is. placed_twice work_id AnyWork b c.replace.new.dest work es c.in-Some.place at mine is c.self.invariant ∙ ap (λ ws. put_item work_id ws work) c.self.view_is

pub returns-clause-absent : goal.returns-clause-absent
returns-clause-absent c =
    let b = c.args.branch.now in
    let es = c.self.inside.works.entries in
    let at = (sym c.in-Some.ensures.index) in
    let mine = ap work_id (c.replace.ensures.after ∙ c.no_work-empty.ensures) in
    λ none. absurd (let clash : None ≡ Some c.replace.new.dest = sym none ∙ placed_there work_id AnyWork b c.replace.new.dest es c.in-Some.place at mine c.self.invariant in cc)

pub returns-in_default-clause-work : goal.returns-in_default-clause-work
returns-in_default-clause-work c =
    let b = c.args.branch.now in
    let es = c.self.inside.works.entries in
    let none : item_at work_id c.args.self.now b ≡ None =
    ap (λ ws. item_at work_id ws b) (sym c.self.view_is)
    ∙ none_there work_id AnyWork b es c.self.invariant (c.in_default.ensures.found) in
    c.no_work-empty.ensures ∙ sym (ap (work_or b) none)
