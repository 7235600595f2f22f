-- The laws of session trees and of events, tried on a run by computation.
use Rattle.std.proofs.Common.{refl}
use Rattle.std.specs.Fmt.{digits}
use Rattle.tran_ids.specs.Numbers.{decimal, hex8}
use Rattle.redo_record.specs.Kept.{kept_after}
use Rattle.redo_record.specs.Durable.{durable_after}
use Rattle.node_rules.specs.Meaning.{checked, examined, written, meant_over}
use Rattle.node_rules.specs.Records.{applied, stored_by}
use Rattle.session_tree.specs.Tree.{weight, step}
use Rattle.stmt_run.specs.Run.{ran_over}
use Rattle.node_rules.specs.Statement.{ran}
use Rattle.node_rules.specs.Names.{way_of}
use Rattle.node_rules.specs.Calls.{admit, reply_of}
use Rattle.node_rules.specs.Commit.{beyond, next_on_decision, next_on_ack, next_on_forgotten}
use Rattle.node_rules.specs.Turn.{turn_of, start_of, status_of}
use Rattle.net_bag.specs.Net.{sent_on, delivered}
use Rattle.run_rules.specs.Facts.{facts_after}
use Rattle.run_base_laws.specs.RunEvents.{events_from}
use Rattle.run_rules.specs.Births.{births_from}
use Rattle.run_branch_laws.specs.TriedRun.{TheTriedRun}

pub the_tried_run : TheTriedRun
unfolding digits decimal hex8 kept_after durable_after checked examined written meant_over applied stored_by weight step ran_over ran way_of admit reply_of beyond next_on_decision next_on_ack next_on_forgotten turn_of start_of status_of sent_on delivered facts_after events_from births_from
the_tried_run = record { births = refl; told = refl }
