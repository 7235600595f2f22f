-- The rules are computed.
use Rattle.std.proofs.Common.{refl}
use Rattle.read_only_tx.specs.Versions.{rows_at}
use Rattle.redo_record.specs.Durable.{durable_after}
use Rattle.redo_record.specs.Kept.{kept_after}
use Rattle.node_rules.specs.Records.{applied, stored_by}
use Rattle.node_rules.proofs.the_tried_rules.Goals as goal

pub returns : goal.returns
unfolding rows_at durable_after kept_after applied stored_by
returns c = record { changes = refl; locks = refl; before = refl; behind = refl; hidden = refl }
