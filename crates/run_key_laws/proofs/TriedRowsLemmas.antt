-- What the nodes of the tried run keep of rows and keys, by computation.
use Rattle.std.proofs.Common.{refl}
use Rattle.std.specs.Fmt.{digits}
use Rattle.tran_ids.specs.Numbers.{decimal, hex8}
use Rattle.redo_record.specs.Kept.{kept_after}
use Rattle.redo_record.specs.Durable.{durable_after}
use Rattle.node_rules.specs.Meaning.{checked, examined, written, meant_over}
use Rattle.node_rules.specs.Records.{applied, stored_by}
use Rattle.session_tree.specs.Tree.{weight, step}
use Rattle.stmt_run.specs.Run.{ran_over}
use Rattle.node_rules.specs.Statement.{ran}
use Rattle.node_rules.specs.Names.{way_of}
use Rattle.node_rules.specs.Calls.{admit, reply_of}
use Rattle.node_rules.specs.Commit.{beyond, next_on_decision, next_on_ack, next_on_forgotten}
use Rattle.node_rules.specs.Turn.{turn_of, start_of, status_of}
use Rattle.net_bag.specs.Net.{sent_on, delivered}
use Rattle.run_rules.specs.Facts.{facts_after, facts_of}
use Rattle.run_rules.specs.Book.{rows_by_book}
use Rattle.run_key_laws.specs.TriedRows.{TheTriedRows}

pub the_tried_rows : TheTriedRows
unfolding digits decimal hex8 kept_after durable_after checked examined written meant_over applied stored_by weight step ran_over ran way_of admit reply_of beyond next_on_decision next_on_ack next_on_forgotten turn_of start_of status_of sent_on delivered facts_after facts_of rows_by_book
the_tried_rows = record { told_at_a = refl; told_at_b = refl; stored_at_a = refl; stored_at_b = refl; held_at_a = refl; held_at_b = refl }
