-- STATE of DBA_2PC_PENDING as a value, and the words for it.
use Rattle.std.specs.Prelude.{ℕ, List, codes}
use Rattle.redo_record.specs.declared.durable.State.{State}
use Rattle.redo_record.specs.declared.durable.State.TheVariants as states
use Rattle.pending_view.specs.declared.stage.Stage.{Stage}
use Rattle.pending_view.specs.declared.stage.Stage.TheVariants as stages

-- a stage, as the view shows it
abbrev pub stage_words : Stage → List ℕ
stage_words stages.Collecting = codes "collecting"
stage_words stages.Prepared = codes "prepared"
stage_words stages.Committed = codes "committed"
stage_words stages.ForcedCommit = codes "forced commit"
stage_words stages.ForcedRollback = codes "forced rollback"

-- the stage of a kept branch
abbrev pub stage_of : State → Stage
stage_of states.Sealed = stages.Prepared
stage_of states.Committed = stages.Committed
stage_of (states.ForcedCommit n) = stages.ForcedCommit
stage_of states.ForcedRollback = stages.ForcedRollback
