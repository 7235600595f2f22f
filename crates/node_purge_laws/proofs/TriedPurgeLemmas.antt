-- The tried purge, by computation.
use Rattle.std.proofs.Common.{refl}
use Rattle.std.specs.Fmt.{digits}
use Rattle.tran_ids.specs.Numbers.{decimal}
use Rattle.redo_record.specs.Durable.{durable_after}
use Rattle.redo_record.specs.Kept.{kept_after}
use Rattle.node_rules.specs.Force.{purge}
use Rattle.node_rules.specs.Records.{applied, stored_by}
use Rattle.node_rules.specs.Turn.{turn_of, start_of, status_of}
use Rattle.node_purge_laws.specs.TriedPurge.{TheTriedPurge}

pub the_tried_purge : TheTriedPurge
unfolding digits decimal durable_after kept_after purge applied stored_by turn_of start_of status_of
the_tried_purge = record { shown = refl; hidden = refl; done = refl; silent = refl; told = refl; as_before = refl; refused = refl }
