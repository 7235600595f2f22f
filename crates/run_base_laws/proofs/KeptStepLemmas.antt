-- What is so of each row that a node keeps, through the steps of a turn, where it stays so with an Ack and after the turn's record.
use Rattle.std.proofs.Common.{◌+◌, true, false, Some, None}
use Rattle.std.specs.Prelude.{IfSome}
use Rattle.std.specs.List.{AllByRecursion}
use Rattle.commit_forget.specs.declared.next.Next.TheVariants as nexts
use Rattle.node_rules.specs.Data.{BranchId, KeptRow, RedoRecord, Place, Input}
use Rattle.node_rules.specs.Data.acts
use Rattle.node_rules.specs.Data.kinds
use Rattle.node_rules.specs.Data.decisions
use Rattle.node_rules.specs.Data.records
use Rattle.node_rules.specs.Inputs.{Came}
use Rattle.node_rules.specs.NodeState.{NodeState, TurnDraft, kept_row_id, with_kept_row}
use Rattle.node_rules.specs.Prepare.{sealed_record, decided_record}
use Rattle.node_rules.specs.Commit.{acked_by}
use Rattle.node_rules.proofs.Steps as steps
use Rattle.node_rules.proofs.Steps.{Step, IsKept}
use Rattle.node_rules.specs.Images.{image_at}
use Rattle.run_base_laws.proofs.LiveStepLemmas.{LastsInTurn}
use Rattle.run_base_laws.proofs.OwnLemmas.{all_found, all_with}
use Rattle.run_base_laws.proofs.RowRecordLemmas.{RowCases, rows_applied}

module _ {R : RedoRecord → Type 0} {P : KeptRow → Type 0} (each : RowCases R P) {p : Place} {input : Input} {C : NodeState → Type 0} (lasts : LastsInTurn p input C)
    (acked : (k : NodeState) (s : KeptRow) (from : BranchId) → IsKept k s → Came input from s.me kinds.Ack → C k → P s → P (acked_by s from)) where
  -- a row with one Ack more
  pub counted : (k : NodeState) (s : KeptRow) (from : BranchId) → IsKept k s → Came input from s.me kinds.Ack → C k → AllByRecursion P k.stored.durable.kept → AllByRecursion P (with_kept_row k (acked_by s from)).stored.durable.kept
  counted k s from kept came c all = all_with P kept_row_id k.stored.durable.kept (acked_by s from) all (acked k s from kept came c (all_found P kept_row_id k.stored.durable.kept s.me s all kept))

  pub rows_on : {k : NodeState} {d : TurnDraft} → Step p input k d → C k → IfSome d.wrote R → AllByRecursion P k.stored.durable.kept → AllByRecursion P d.after.stored.durable.kept
  rows_on (steps.Begins {k = k} n s read_at call begins range free step) c is all = rows_on step (lasts.begun k n s read_at call begins free c) is all
  rows_on (steps.Counts_call {k = k} n s call counts step) c is all = rows_on step (lasts.counts k n s call counts c) is all
  rows_on (steps.Goes_back {k = k} x step goes next) c is all = rows_on next (lasts.backs k x step goes c) is all
  rows_on (steps.Pends {k = k} n l given call has live code writer step) c is all = rows_on step (lasts.pends k n l given call has c) is all
  rows_on (steps.Lets_reads_go {k = k} l comment below live begins step) c is all = rows_on step (lasts.lets k l.me c) is all
  rows_on (steps.Counts_ack {k = k} s from kept came counts step) c is all = rows_on step (lasts.acked k s from kept came c) is (counted k s from kept came c all)
  rows_on (steps.Acts {k = k} l below acts.Seal why) c is all = rows_applied each k.stored (sealed_record k l None) is all
  rows_on (steps.Acts {k = k} l below (acts.SealAndPass i) why) c is all = rows_applied each k.stored (sealed_record k l (Some i)) is all
  rows_on (steps.Acts {k = k} l below acts.Decide why) c is all = rows_applied each k.stored (decided_record k l) is all
  rows_on (steps.Does {k = k} s from (nexts.End d) kept why) c is all = rows_applied each k.stored (records.Ended s.me d) is all
  rows_on (steps.Does {k = k} s from (nexts.Meet d mixed) kept why) c is all = rows_applied each k.stored (records.Met s.me d mixed) is all
  rows_on (steps.Does {k = k} s from nexts.Forget kept why) c is all = rows_applied each k.stored (records.Forgot s.me) is all
  rows_on (steps.Makes_record {k = k} n s r d call makes) c is all = rows_applied each k.stored r is all
  rows_on (steps.Forces_given {k = k} n id m b call named) c is all = rows_applied each k.stored (records.Forced b (decisions.Commit m) true) is all
  rows_on (steps.Forces_commit {k = k} n id b call named) c is all = rows_applied each k.stored (records.Forced b (decisions.Commit (k.clock + 1)) false) is all
  rows_on (steps.Forces_rollback {k = k} n id b call named) c is all = rows_applied each k.stored (records.Forced b decisions.Rollback false) is all
  rows_on (steps.Hides {k = k} n mixed id s call found) c is all = rows_applied each k.stored (records.Hidden s.me) is all
  rows_on (steps.Images {k = k} checkpoint) c is all = rows_applied each k.stored (records.Image (image_at k.stored k.clock)) is all
  rows_on (steps.Gives_up_commit n b None gives has calls live) c is all = all
  rows_on _ c is all = all
