-- What is written where a turn has a record, and where it has none.
use Rattle.std.proofs.Common.{Some, None, Result, Ok, Err, OnOk, refl}
use Rattle.block_disk.specs.declared.disk.Disk.{Ghosts}
use Rattle.redo_log.specs.Runs.{HasGrown}
use Rattle.redo_record.specs.declared.record.RedoRecord.{RedoRecord}
use Rattle.record_log.specs.Calls.{GainsRecord}
use Rattle.node_disk.specs.Calls.{HasWritten}
use Rattle.redo_log.proofs.PlanLaws.{none_run}

module _ {D : Type 0} (d : Ghosts D) where
  -- a record that was appended is written
  pub written_by : {T E : Type 0} (r : Result T E) (redo : RedoRecord) (before now : D) → OnOk r (HasGrown d (GainsRecord redo) before now) → OnOk r (HasWritten d (Some redo) before now)
  written_by (Ok v) redo before now grown = record { stored = grown.grows.stored; run = grown.run }
  written_by (Err e) redo before now grown = tt

  -- where there is no record, the disk is as it was
  pub none_written : (disk : D) → HasWritten d None disk disk
  none_written disk = record { stored = refl; run = none_run d disk }
