use Rattle.std.proofs.Common.{[], ◌∷◌}
use Rattle.redo_record.specs.declared.record.RedoRecord.TheVariants as records
use Rattle.disk_examples.proofs.record_logs.two_starts.Goals as goal

pub returns-in-Ok : goal.returns-in-Ok
returns-in-Ok c = c.in_ok-append-in-Ok-2.ensures.acknowledged.grows.stored (records.Boot 1 ∷ []) (c.in_ok-append-in-Ok.ensures.acknowledged.grows.stored [] c.in-Ok.ensures.made.made)
