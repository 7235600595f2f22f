-- What a tried run unfolds to compute: its turns, and its trail and its tree.
use Rattle.std.specs.Prelude.{⊤}
use Rattle.std.specs.Fmt.{digits}
use Rattle.tran_ids.specs.Numbers.{decimal, hex8}
use Rattle.redo_record.specs.Kept.{kept_after}
use Rattle.redo_record.specs.Durable.{durable_after}
use Rattle.session_tree.specs.Tree.{weight, step}
use Rattle.stmt_run.specs.Run.{ran_over}
use Rattle.node_rules.specs.Meaning.{checked, examined, written, meant_over, meant}
use Rattle.node_rules.specs.Records.{applied, stored_by}
use Rattle.node_rules.specs.Statement.{ran}
use Rattle.node_rules.specs.Names.{way_of}
use Rattle.node_rules.specs.Calls.{admit, reply_of}
use Rattle.node_rules.specs.Commit.{beyond, next_on_decision, next_on_ack, next_on_forgotten}
use Rattle.node_rules.specs.Turn.{turn_of, start_of, status_of}
use Rattle.net_bag.specs.Net.{sent_on, delivered}
use Rattle.run_rules.specs.Facts.{facts_after, facts_of}
use Rattle.run_rules.specs.Book.{rows_of, in_doubt}
use Rattle.run_rules.specs.Runs.{run_in, view_by}
use Rattle.run_rules.specs.Trail.{trail_after, trail_of}
use Rattle.run_rules.specs.Tree.{weight as tree_weight, step as tree_step, walk, tree, plan}

unfoldable pub trying : ⊤
unfolding digits decimal hex8 kept_after durable_after checked examined written meant_over applied stored_by weight step ran_over ran way_of admit reply_of beyond next_on_decision next_on_ack next_on_forgotten turn_of start_of status_of sent_on delivered facts_after meant facts_of rows_of in_doubt
trying = tt

unfoldable pub trying_trails : ⊤
unfolding run_in view_by trail_after trail_of tree_weight tree_step walk tree plan
trying_trails = tt
