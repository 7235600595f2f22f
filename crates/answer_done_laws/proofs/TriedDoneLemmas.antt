-- The tried calls, by computation.
use Rattle.std.proofs.Common.{refl}
use Rattle.std.specs.Fmt.{digits}
use Rattle.tran_ids.specs.Numbers.{decimal, hex8}
use Rattle.redo_record.specs.Kept.{kept_after}
use Rattle.redo_record.specs.Durable.{durable_after}
use Rattle.node_rules.specs.Meaning.{checked, examined, written, meant_over}
use Rattle.node_rules.specs.Records.{applied, stored_by}
use Rattle.session_tree.specs.Tree.{weight, step}
use Rattle.stmt_run.specs.Run.{ran_over}
use Rattle.node_rules.specs.Statement.{ran}
use Rattle.node_rules.specs.Names.{way_of}
use Rattle.node_rules.specs.Calls.{admit, reply_of}
use Rattle.node_rules.specs.Commit.{beyond, next_on_decision, next_on_ack, next_on_forgotten}
use Rattle.node_rules.specs.Force.{branch_to_force, purge}
use Rattle.node_rules.specs.Turn.{turn_of, start_of, status_of}
use Rattle.net_bag.specs.Net.{sent_on, delivered}
use Rattle.run_rules.specs.Facts.{facts_after, facts_of}
use Rattle.answer_done_laws.specs.TriedDone.{TheTriedDone}

pub the_tried_done : TheTriedDone
unfolding digits decimal hex8 kept_after durable_after checked examined written meant_over applied stored_by weight step ran_over ran way_of admit reply_of beyond next_on_decision next_on_ack next_on_forgotten branch_to_force purge turn_of start_of status_of sent_on delivered facts_after facts_of
the_tried_done = record {
  made = refl;
  made_answer = refl;
  again = refl;
  again_answer = refl;
  forced = refl;
  forced_answer = refl;
  hidden = refl;
  hidden_answer = refl;
}
