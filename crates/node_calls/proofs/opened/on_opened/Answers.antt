-- The statement that waits for this child goes on to it: the branch has room for the child, and a number for the first call to it.
use Rattle.std.proofs.Common.{rules, ◌≡◌, ◌<◌, ◌^◌, List, None, sym, ap, subst, ◌∙◌}
use Rattle.node_rules.specs.Calls.{next_call}
use Rattle.node_rules.specs.declared.work.Work.{Work}
use Rattle.node_state.specs.Works.{work_of}
use Rattle.node_memory.specs.Parts.{kept_in}
use Rattle.node_calls.specs.Handled.{waited_for}
use Rattle.node_calls.proofs.OpenedLaws.{numbers_with_child, opened_ignored, opened_so, room_there}
use Rattle.node_calls.proofs.opened.on_opened.Goals as goal

pub add_edge-requires : goal.add_edge-requires
add_edge-requires c =
    let m = c.args.memory.now in
    let b = c.args.to.now in
    let g = (work_of m.works b).going in
    room_there m.lives b c.in-Some.live.now c.args.edge g c.in-Some-2.waited (sym c.in-Some.ensures.live) (sym (ap (λ n. waited_for c.args.edge n g) c.next_edge-next.ensures) ∙ sym c.in_ok-waited.ensures ∙ c.in-Some-2.is)
    c.requires.room

pub call_over-requires : goal.call_over-requires
call_over-requires c =
    let m = c.args.memory.now in
    let b = c.args.to.now in
    subst (λ (ws : List Work). next_call (work_of ws b) c.args.edge < 2 ^ 32) (sym c.in-Ok-add_edge.ensures.ok) (numbers_with_child m.works b c.args.edge (c.requires.numbers c.args.edge))

pub returns-in_default-2-clause-gives : goal.returns-in_default-2-clause-gives
returns-in_default-2-clause-gives c =
    let m = c.args.memory.now in
    let b = c.args.to.now in
    let g = (work_of m.works b).going in
    let none : c.in_ok-waited.field-0 ≡ None = search rules in
    opened_ignored (kept_in m) b c.in-Some.live.now (sym c.in-Some.ensures.live) c.args.from c.args.edge c.args.strength _
    (sym (ap (λ n. waited_for c.args.edge n g) c.next_edge-next.ensures) ∙ sym c.in_ok-waited.ensures ∙ none) (search rules)

pub returns-in_ok-draft-in-Ok-add_edge-clause-gives : goal.returns-in_ok-draft-in-Ok-add_edge-clause-gives
returns-in_ok-draft-in-Ok-add_edge-clause-gives c =
    let m = c.args.memory.now in
    let b = c.args.to.now in
    let g = (work_of m.works b).going in
    opened_so (kept_in m) b c.in-Some.live.now (sym c.in-Some.ensures.live) c.args.from c.args.edge c.args.strength c.in-Some-2.waited c.new_edge.result _ _ _ _
    (sym (ap (λ n. waited_for c.args.edge n g) c.next_edge-next.ensures) ∙ sym c.in_ok-waited.ensures ∙ c.in-Some-2.is) c.new_edge.ensures c.in-Ok.ensures.ok c.in-Ok-add_edge.ensures.ok
    c.in_ok-draft-in-Ok-add_edge.ensures.gives
