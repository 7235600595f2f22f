-- What an Ack makes of what a node keeps.
use Rattle.std.specs.Prelude.{if◌then◌else◌, Option, Some, None}
use Rattle.tran_ids.specs.declared.branch.BranchId.{BranchId}
use Rattle.redo_record.specs.declared.durable.KeptRow.{KeptRow}
use Rattle.node_rules.specs.NodeState.{NodeState, with_kept_row}
use Rattle.node_rules.specs.Commit.{ack_counts, acked_by}

-- an Ack that counts is noted in the row of the branch that hears it
abbrev pub with_ack : NodeState → BranchId → Option KeptRow → NodeState
with_ack k from None = k
with_ack k from (Some s) = if ack_counts s from then with_kept_row k (acked_by s from) else k
