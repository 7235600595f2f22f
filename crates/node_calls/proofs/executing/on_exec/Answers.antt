-- A call is run, answered again or ignored by its number; a statement may come to a branch that takes one.
use Rattle.std.proofs.Common.{rules, ℕ, ◌<◌, ◌^◌, List, IfSome, sym, subst}
use Rattle.tran_ids.specs.Listed.{item_at}
use Rattle.session_tree.specs.Tree.{count}
use Rattle.node_rules.specs.Data.{Live}
use Rattle.node_rules.specs.declared.work.Work.{Work}
use Rattle.node_rules.specs.NodeState.{live_id, saying}
use Rattle.node_rules.specs.Calls.{advised_by, next_call}
use Rattle.node_state.specs.Works.{work_of}
use Rattle.node_drafts.specs.Gives.{GivesDraft}
use Rattle.node_memory.specs.Parts.{kept_in}
use Rattle.node_calls.proofs.BranchLaws.{few_changed}
use Rattle.node_calls.proofs.CallLaws.{advised_count, advised_stays, again_so, ignored_so, numbers_taken, run_so}
use Rattle.node_calls.proofs.executing.on_exec.Goals as goal

pub task_at-requires : goal.task_at-requires
task_at-requires c = λ s.
    let m = c.args.memory.now in
    let b = c.args.to.now in
    let task = c.args.task.now in
    let takes = c.requires s in
    record {
      few =
          subst (λ (ls : List Live). IfSome (item_at live_id ls b) (λ l. count l < 2 ^ 16)) (sym c.take_advice.ensures)
          (few_changed (λ l. advised_by l task) (advised_stays task) (λ l. advised_count l task) m.lives b takes.few);
      numbers = subst (λ (ws : List Work). (i : ℕ) → next_call (work_of ws b) i < 2 ^ 32) (sym c.in_ok-take_call-in-Run.ensures.ok) (numbers_taken c.args.call m.works b takes.numbers);
      nodes = takes.nodes;
      nameless = takes.nameless;
      rows = takes.rows;
    }

pub returns-in-Ignore-clause-gives : goal.returns-in-Ignore-clause-gives
returns-in-Ignore-clause-gives c =
    let a = c.args in
    ignored_so a.memory.now.place (kept_in a.memory.now) a.to.now c.in-Some.live.now (sym c.in-Some.ensures.live) a.from a.call a.task.now _ (sym c.in-Ignore.ensures) (search rules)

pub returns-in_ok-says-in-Again-clause-gives : goal.returns-in_ok-says-in-Again-clause-gives
returns-in_ok-says-in-Again-clause-gives c =
    let a = c.args in
    let k = kept_in a.memory.now in
    again_so a.memory.now.place k a.to.now c.in-Some.live.now (sym c.in-Some.ensures.live) a.from a.call a.task.now _ (sym c.in-Again.ensures)
    (subst (λ says. GivesDraft (saying k says) k c.saying.result) c.in_ok-says-in-Again.ensures (c.saying.ensures.gives k))

pub returns-in_ok-draft-in-Run-clause-gives : goal.returns-in_ok-draft-in-Run-clause-gives
returns-in_ok-draft-in-Run-clause-gives c =
    let a = c.args in
    run_so a.memory.now.place (kept_in a.memory.now) a.to.now c.in-Some.live.now (sym c.in-Some.ensures.live) a.from a.call a.task.now _ _ _ _ (sym c.in-Run.ensures) c.take_advice.ensures
    c.in_ok-take_call-in-Run.ensures.ok c.in_ok-draft-in-Run.ensures.gives
