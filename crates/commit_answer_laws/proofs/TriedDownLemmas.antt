-- The tried lines of a node that is down, by computation.
use Rattle.std.proofs.Common.{refl}
use Rattle.std.specs.Fmt.{digits}
use Rattle.tran_ids.specs.Numbers.{decimal, hex8}
use Rattle.redo_record.specs.Kept.{kept_after}
use Rattle.redo_record.specs.Durable.{durable_after}
use Rattle.node_rules.specs.Meaning.{checked, examined, written, meant_over, meant}
use Rattle.node_rules.specs.Records.{applied, stored_by}
use Rattle.session_tree.specs.Tree.{weight, step}
use Rattle.stmt_run.specs.Run.{ran_over}
use Rattle.node_rules.specs.Statement.{ran}
use Rattle.node_rules.specs.Names.{way_of}
use Rattle.node_rules.specs.Calls.{admit, reply_of}
use Rattle.node_rules.specs.Commit.{beyond, next_on_decision, next_on_ack, next_on_forgotten}
use Rattle.node_rules.specs.Turn.{turn_of, start_of, status_of}
use Rattle.node_rules.specs.Points.{passes, point_of}
use Rattle.net_bag.specs.Net.{sent_on, delivered, lost, stopped}
use Rattle.run_rules.specs.Disks.{struck, after_append}
use Rattle.run_rules.specs.Cuts.{cut_by}
use Rattle.run_rules.specs.Facts.{facts_after}
use Rattle.run_rules.specs.Past.{next}
use Rattle.run_rules.specs.Due.{due_of, runs_on}
use Rattle.commit_answer_laws.specs.TriedDown.{TheTriedDown}

pub the_tried_down : TheTriedDown
unfolding digits decimal hex8 kept_after durable_after checked examined written meant_over meant applied stored_by weight step ran_over ran way_of admit reply_of beyond next_on_decision next_on_ack next_on_forgotten turn_of start_of status_of passes point_of sent_on delivered lost stopped struck after_append cut_by facts_after
    next due_of runs_on
the_tried_down = record { waits = refl; ends = refl; down = refl }
