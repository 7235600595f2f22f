-- What a play unfolds to compute what is printed.
use Rattle.std.specs.Prelude.{⊤}
use Rattle.std.specs.Fmt.{digits}
use Rattle.tran_ids.specs.Numbers.{decimal, hex8}
use Rattle.redo_record.specs.Kept.{kept_after}
use Rattle.redo_record.specs.Durable.{durable_after}
use Rattle.node_rules.specs.Meaning.{checked, examined, written, meant_over}
use Rattle.node_rules.specs.Records.{applied, stored_by}
use Rattle.session_tree.specs.Tree.{weight, step}
use Rattle.stmt_run.specs.Run.{ran_over}
use Rattle.node_rules.specs.Statement.{ran}
use Rattle.node_rules.specs.Names.{way_of}
use Rattle.node_rules.specs.Calls.{admit, reply_of}
use Rattle.node_rules.specs.Commit.{beyond, next_on_decision, next_on_ack, next_on_forgotten}
use Rattle.node_rules.specs.Recovery.{recovery}
use Rattle.node_rules.specs.Force.{branch_to_force, purge}
use Rattle.node_rules.specs.Turn.{turn_of, start_of, status_of}
use Rattle.node_rules.specs.Points.{passes, point_of}
use Rattle.pending_view.specs.Views.{pending_rows, neighbor_rows}
use Rattle.undo_view.specs.Views.{undo_rows}
use Rattle.net_bag.specs.Net.{sent_on, delivered, lost, cut_over, joined, stopped, started}
use Rattle.run_rules.specs.Disks.{struck, after_append}
use Rattle.run_rules.specs.Cuts.{cut_by}
use Rattle.run_rules.specs.Facts.{facts_after}
use Rattle.run_rules.specs.Past.{next}
use Rattle.run_rules.specs.Due.{due_of, runs_on}
use Rattle.report.specs.Refusals.{ora_texts, dtx_texts}
use Rattle.run_rules.specs.Report.{report}

unfoldable pub playing : ⊤
unfolding digits decimal hex8 kept_after durable_after checked examined written meant_over applied stored_by weight step ran_over ran way_of admit reply_of beyond next_on_decision next_on_ack next_on_forgotten recovery branch_to_force purge turn_of start_of status_of passes point_of pending_rows neighbor_rows undo_rows sent_on delivered lost cut_over joined stopped started struck after_append cut_by facts_after next due_of runs_on ora_texts dtx_texts report
playing = tt
