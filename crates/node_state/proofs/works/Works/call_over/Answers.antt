use Rattle.std.proofs.Common.{◌≡◌, None, Some, sym, ap, subst, ◌∙◌}
use Rattle.std.specs.Map.{values_of}
use Rattle.indexmap.specs.Layout.{set_value_at}
use Rattle.tran_ids.specs.Listed.{item_at, put_item}
use Rattle.tran_ids.proofs.ListedLemmas.{item_is}
use Rattle.std.specs.Prelude.{◌<◌, ◌^◌}
use Rattle.node_rules.specs.declared.work.Work.{Work}
use Rattle.node_rules.specs.NodeState.{work_id, work_or}
use Rattle.node_rules.specs.Calls.{next_call}
use Rattle.node_state.specs.ByBranch.{KeysAreBranches}
use Rattle.node_state.specs.Works.{AnyWork, work_of, change_work, called_over}
use Rattle.node_state.proofs.BranchLaws.{found, still_keyed, same_set, keyed_placed, none_there}
use Rattle.node_state.proofs.WorkLaws.{on_err}
use Rattle.node_state.proofs.works.Works.call_over.Goals as goal

pub call_over-requires : goal.call_over-requires
call_over-requires c =
    let b = c.args.branch.now in
    let es = c.self.inside.works.entries in
    let there = sym c.in-Some.ensures.value ∙ c.index_mut.ensures.value in
    let item = sym (found work_id AnyWork b es c.self.invariant) ∙ there in
    subst (λ (w : Work). next_call w c.args.number < 2 ^ 32) (ap (λ ws. work_of ws b) (sym c.self.view_is) ∙ ap (work_or b) item) c.requires

pub first_call-requires : goal.first_call-requires
first_call-requires c =
    let b = c.args.branch.now in
    let es = c.self.inside.works.entries in
    let none = none_there work_id AnyWork b es c.self.invariant (c.in_default.ensures.found) in
    subst (λ (w : Work). next_call w c.args.number < 2 ^ 32) (ap (λ ws. work_of ws b) (sym c.self.view_is) ∙ ap (work_or b) none) c.requires

pub invariant_of-self : goal.invariant_of-self
invariant_of-self c =
    let es = c.self.inside.works.entries in
    let back = ap (set_value_at es c.in-Some.place) c.in_err-call_over.ensures.err ∙ same_set work_id AnyWork es c.in-Some.place c.index_mut.result.now c.index_mut.ensures.value in
    subst (KeysAreBranches work_id AnyWork) (sym back) c.self.invariant

pub returns-in_err-call_over-clause-err : goal.returns-in_err-call_over-clause-err
returns-in_err-call_over-clause-err c =
    let es = c.self.inside.works.entries in
    let back = ap (set_value_at es c.in-Some.place) c.in_err-call_over.ensures.err ∙ same_set work_id AnyWork es c.in-Some.place c.index_mut.result.now c.index_mut.ensures.value in
    on_err c.from_residual-in_err-call_over.result (ap values_of back ∙ c.self.view_is)

pub invariant_of-self-2 : goal.invariant_of-self-2
invariant_of-self-2 c =
    let es = c.self.inside.works.entries in
    still_keyed work_id AnyWork es c.in-Some.place c.index_mut.result.now c.call_over.new.work c.index_mut.ensures.value (ap work_id c.in_ok-call_over.ensures.ok) tt c.self.invariant

pub returns-clause-ok : goal.returns-clause-ok
returns-clause-ok c =
    let b = c.args.branch.now in
    let es = c.self.inside.works.entries in
    let x = c.index_mut.result.now in
    let there = sym c.in-Some.ensures.value ∙ c.index_mut.ensures.value in
    let at = (sym c.in-Some.ensures.index) in
    let item : item_at work_id (values_of es) b ≡ Some x = sym (found work_id AnyWork b es c.self.invariant) ∙ there in
    keyed_placed work_id AnyWork b c.call_over.new.work es c.in-Some.place at (ap work_id c.in_ok-call_over.ensures.ok ∙ item_is work_id (values_of es) b x item) c.self.invariant
    ∙ ap (put_item work_id (values_of es)) (c.in_ok-call_over.ensures.ok ∙ ap (λ o. (called_over c.args.number c.args.errand c.args.step) (work_or b o)) (sym item))
    ∙ ap (λ ws. change_work (called_over c.args.number c.args.errand c.args.step) ws b) c.self.view_is

pub returns-in_default-clause-ok : goal.returns-in_default-clause-ok
returns-in_default-clause-ok c =
    let b = c.args.branch.now in
    let es = c.self.inside.works.entries in
    let none : item_at work_id c.args.self.now b ≡ None =
    ap (λ ws. item_at work_id ws b) (sym c.self.view_is)
    ∙ none_there work_id AnyWork b es c.self.invariant (c.in_default.ensures.found) in
    c.in_ok-put.ensures.ok ∙ ap (put_item work_id c.args.self.now) (c.in_ok-first.ensures ∙ ap (λ o. (called_over c.args.number c.args.errand c.args.step) (work_or b o)) (sym none))
