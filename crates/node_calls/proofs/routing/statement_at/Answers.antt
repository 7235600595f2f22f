-- The statement runs over a table of the node, is refused, or goes on, as the rules say of its way.
use Rattle.std.proofs.Common.{◌<◌, ◌^◌, List, IfSome, refl, sym, subst}
use Rattle.tran_ids.specs.Listed.{item_at}
use Rattle.session_tree.specs.Tree.{count}
use Rattle.node_rules.specs.Data.{Live}
use Rattle.node_rules.specs.NodeState.{live_id}
use Rattle.node_rules.specs.Statement.{makes_changes}
use Rattle.node_state.specs.Lives.{changed_by}
use Rattle.node_memory.specs.Parts.{kept_in, stored_in}
use Rattle.node_calls.proofs.BranchLaws.{few_changed}
use Rattle.node_calls.proofs.GroundLaws.{at_store, ran_here, sees_rows}
use Rattle.node_calls.proofs.PastLaws.{reads_query}
use Rattle.node_calls.proofs.WayLaws.{depth_there, over_so, refused_so, through_so, way_deep}
use Rattle.node_calls.proofs.TableLaws.{has_key, rows_kept, rows_seen}
use Rattle.node_calls.proofs.routing.statement_at.Goals as goal

-- ---- it runs here

pub run_at-requires-clause-one_key : goal.run_at-requires-clause-one_key
run_at-requires-clause-one_key c =
    let m = c.args.memory.now in
    let way = sym (c.in-RunsHere.ensures (stored_in m).durable refl) in
    has_key m.place (kept_in m) c.in-Some.live.now c.args.given c.args.statement.now c.in-RunsHere.table.now c.requires.rows way c.args.branch.now

pub run_at-requires-clause-table : goal.run_at-requires-clause-table
run_at-requires-clause-table c =
    let m = c.args.memory.now in
    let way = sym (c.in-RunsHere.ensures (stored_in m).durable refl) in
    rows_kept m.place (kept_in m) c.in-Some.live.now c.args.given c.args.statement.now c.in-RunsHere.table.now c.requires.rows way

pub run_at-requires-clause-rows : goal.run_at-requires-clause-rows
run_at-requires-clause-rows c =
    let m = c.args.memory.now in
    let way = sym (c.in-RunsHere.ensures (stored_in m).durable refl) in
    let t = c.in-RunsHere.table.now in
    sees_rows m c.args.branch.now c.in-Some.live.now t (sym c.in-Some.ensures.live) (rows_seen m.place (kept_in m) c.in-Some.live.now c.args.given c.args.statement.now t c.requires.rows way c.args.branch.now)

pub run_at-requires-clause-query : goal.run_at-requires-clause-query
run_at-requires-clause-query c =
    let m = c.args.memory.now in
    let way = sym (c.in-RunsHere.ensures (stored_in m).durable refl) in
    reads_query m.place (stored_in m).durable c.in-Some.live.now c.args.given c.args.statement.now c.in-RunsHere.table.now way

pub answer-requires : goal.answer-requires
answer-requires c =
    let m = c.args.memory.now in
    let b = c.args.branch.now in
    let changes = makes_changes (at_store m b c.args.statement.now c.in-RunsHere.table.now c.in-Some.live.now.read_at) in
    subst (λ (ls : List Live). IfSome (item_at live_id ls b) (λ l. count l < 2 ^ 16)) (sym c.in_ok-told-in-RunsHere.ensures.lives) (few_changed (changed_by changes) (λ l. refl) (λ l. refl) m.lives b c.requires.few)

pub returns-in_ok-told-in-RunsHere-clause-gives : goal.returns-in_ok-told-in-RunsHere-clause-gives
returns-in_ok-told-in-RunsHere-clause-gives c =
    let m = c.args.memory.now in
    let way = sym (c.in-RunsHere.ensures (stored_in m).durable refl) in
    ran_here m m.own_undo c.args.branch.now c.args.statement.now c.in-RunsHere.table.now c.in-Some.live.now c.args.given c.step_of-step.result c.in_ok-told-in-RunsHere.told _ _ _ _ (kept_in c.answer.new.memory) c.answer.result (sym c.in-Some.ensures.live)
    way c.step_of-step.ensures c.in_ok-told-in-RunsHere.ensures.answer c.in_ok-told-in-RunsHere.ensures.store c.in_ok-told-in-RunsHere.ensures.locks c.in_ok-told-in-RunsHere.ensures.lives
    c.in_ok-told-in-RunsHere.ensures.works c.answer.ensures.gives

-- ---- it is refused

pub returns-in-NowhereTo-clause-gives : goal.returns-in-NowhereTo-clause-gives
returns-in-NowhereTo-clause-gives c =
    let m = c.args.memory.now in
    let way = sym (c.in-NowhereTo.ensures (stored_in m).durable refl) in
    refused_so m.place (kept_in m) c.args.branch.now c.in-Some.live.now (sym c.in-Some.ensures.live) c.args.statement.now c.args.given c.in-NowhereTo.refusal (kept_in c.answer-in-NowhereTo.new.memory) c.answer-in-NowhereTo.result way
    c.answer-in-NowhereTo.ensures.gives

-- ---- it goes on

pub returns-in_ok-passed-in-Over-clause-gives : goal.returns-in_ok-passed-in-Over-clause-gives
returns-in_ok-passed-in-Over-clause-gives c =
    let m = c.args.memory.now in
    let way = sym (c.in-Over.ensures (stored_in m).durable refl) in
    over_so m.place (kept_in m) c.args.branch.now c.in-Some.live.now (sym c.in-Some.ensures.live) c.args.statement.now c.args.given c.in-Over.edge c.in-Over.table.now c.in_ok-passed-in-Over.passed
    (kept_in c.call_over.new.memory) c.call_over.result way c.in_ok-passed-in-Over.ensures c.call_over.ensures.gives

pub returns-in-Ok-clause-gives : goal.returns-in-Ok-clause-gives
returns-in-Ok-clause-gives c =
    let m = c.args.memory.now in
    let way = sym (c.in-Through.ensures (stored_in m).durable refl) in
    through_so m.place (kept_in m) c.args.branch.now c.in-Some.live.now (sym c.in-Some.ensures.live) c.args.statement.now c.args.given c.in-Through.node c.in-Through.link.now c.in-Through.table.now
    c.in_ok-link-in-Through.link c.in-Ok.passed (kept_in c.open_through.new.memory) c.open_through.result way c.in-Ok.ensures c.in_ok-link-in-Through.ensures c.open_through.ensures.gives

pub open_through-requires : goal.open_through-requires
open_through-requires c =
    let m = c.args.memory.now in
    let l = c.in-Some.live.now in
    let way = sym (c.in-Through.ensures (stored_in m).durable refl) in
    depth_there m.lives c.args.branch.now l (sym c.in-Some.ensures.live) (way_deep m.place (stored_in m).durable l c.args.given _ _ _ c.args.statement.now way)
