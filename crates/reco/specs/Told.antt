-- What a branch answers one that asks for the decision. (Database Administrator's Guide, "Distributed Transactions
-- Concepts": automatic resolution of in-doubt transactions, the recoverer process RECO.)
use Rattle.std.specs.Prelude.{if◌then◌else◌, Option, Some, None}
use Rattle.tran_ids.specs.declared.branch.BranchId.{BranchId}
use Rattle.redo_record.specs.declared.decision.Decision.{Decision}
use Rattle.redo_record.specs.declared.decision.Decision.TheVariants as decisions
use Rattle.redo_record.specs.declared.durable.KeptRow.{KeptRow}
use Rattle.session_tree.specs.declared.live.Live.{Live}
use Rattle.session_tree.specs.Live.{is_branch}
use Rattle.commit_forget.specs.Beyond.{is_neighbor}
use Rattle.wire_msg.specs.declared.kind.Kind.{Kind}
use Rattle.wire_msg.specs.declared.kind.Kind.TheVariants as kinds
use Rattle.reco.specs.declared.told.Told.{Told}
use Rattle.reco.specs.declared.told.Told.TheVariants as tolds

-- what is known
abbrev pub told_by : Option Decision → Told
told_by None = tolds.InDoubt
told_by (Some (decisions.Commit n)) = tolds.Committed n
told_by (Some decisions.Rollback) = tolds.RolledBack

-- a kept branch: one that is no neighbour hears rollback
abbrev pub kept_told : KeptRow → BranchId → Told
kept_told s from = if is_neighbor s from then told_by s.decision else tolds.RolledBack

-- a live branch that its parent asks rolls back; another that asks hears that nothing is known
abbrev pub live_told : Live → BranchId → Told
live_told l from = if is_branch from l.parent then tolds.RollBackFirst else tolds.InDoubt

-- the message that tells it
abbrev pub told_kind : Told → Kind
told_kind (tolds.Committed n) = kinds.Committed n
told_kind tolds.RolledBack = kinds.RolledBack
told_kind tolds.RollBackFirst = kinds.RolledBack
told_kind tolds.InDoubt = kinds.InDoubt
