-- What a node stores after a turn is what it stored before with the turn's record, but for Acks.
use Rattle.std.proofs.Common.{◌≡◌, List, Option, None, Some, refl, sym, subst, ap, ◌∙◌}
use Rattle.node_rules.specs.Data.{RedoRecord, KeptRow, Place, Input}
use Rattle.node_rules.specs.Data.records
use Rattle.node_rules.specs.Data.params
use Rattle.node_rules.specs.Data.acts
use Rattle.node_rules.specs.Data.inputs
use Rattle.commit_forget.specs.declared.next.Next.TheVariants as nexts
use Rattle.redo_record.specs.Durable.{durable_after}
use Rattle.node_rules.specs.Words.{put_item}
use Rattle.node_rules.specs.NodeState.{Stored, NodeState, TurnDraft, kept_row_id}
use Rattle.node_rules.specs.Commit.{acked_by}
use Rattle.node_rules.specs.Records.{applied}
use Rattle.node_rules.specs.Turn.{heard, draft_of, turn_of}
use Rattle.node_rules.proofs.Steps as steps
use Rattle.node_rules.proofs.Steps.{Step}
use Rattle.node_rules.proofs.TurnLemmas.{step_of}
use Rattle.node_ready_laws.specs.Sound.{with_rows}
use Rattle.node_disk.specs.Starts.{IsButForAcks, stored_next}
use Rattle.node_disk.specs.Laws.{TurnsStoreTheirRecords}

-- a record that stands next where Acks were noted
pub applied_over : (s : Stored) (kept : List KeptRow) (r : RedoRecord) → applied (with_rows s kept) r ≡ with_rows (applied s r) (applied (with_rows s kept) r).durable.kept
unfolding applied durable_after
applied_over s kept (records.Boot n) = refl
applied_over s kept (records.Table t) = refl
applied_over s kept (records.Link l) = refl
applied_over s kept (records.Synonym y) = refl
applied_over s kept (records.Param (params.Recovery on)) = refl
applied_over s kept (records.Param (params.Strength strength)) = refl
applied_over s kept (records.Sealed r) = refl
applied_over s kept (records.Decided r) = refl
applied_over s kept (records.Ended b d) = refl
applied_over s kept (records.Forced b d given) = refl
applied_over s kept (records.Met b d mixed) = refl
applied_over s kept (records.Forgot b) = refl
applied_over s kept (records.Hidden b) = refl
applied_over s kept (records.Image i) = refl

-- the same where no record stands next
pub next_over : (s : Stored) (kept : List KeptRow) (w : Option RedoRecord) → stored_next (with_rows s kept) w ≡ with_rows (stored_next s w) (stored_next (with_rows s kept) w).durable.kept
next_over s kept None = refl
next_over s kept (Some r) = applied_over s kept r

-- one after the other
pub but_for_both : (s t u : Stored) → IsButForAcks s t → IsButForAcks t u → IsButForAcks s u
but_for_both s t u first second = second ∙ ap (λ (x : Stored). with_rows x u.durable.kept) first

-- what is stored but for Acks stays so under a record
pub next_but_for : (s t : Stored) (w : Option RedoRecord) → IsButForAcks s t → IsButForAcks (stored_next s w) (stored_next t w)
next_but_for s t w is = subst (λ (x : Stored). IsButForAcks (stored_next s w) (stored_next x w)) (sym is) (next_over s t.durable.kept w)

-- ---- steps

Stores : NodeState → TurnDraft → Type 0
Stores k d = IsButForAcks (stored_next k.stored d.wrote) d.after.stored

stores_on : (p : Place) (input : Input) {k : NodeState} {d : TurnDraft} → Step p input k d → Stores k d
unfolding Stores
stores_on p input (steps.Begins n s read_at call begins fit none step) = stores_on p input step
stores_on p input (steps.Counts_call n s call counts step) = stores_on p input step
stores_on p input (steps.Goes_back x back goes step) = stores_on p input step
stores_on p input (steps.Pends n l given call has live code writer step) = stores_on p input step
stores_on p input (steps.Lets_reads_go l comment site_below live begins step) = stores_on p input step
stores_on p input (steps.Counts_ack {k = k} {d = d} s from kept came counts step) =
    let noted = put_item kept_row_id k.stored.durable.kept (acked_by s from) in
    but_for_both (stored_next k.stored d.wrote) (stored_next (with_rows k.stored noted) d.wrote) d.after.stored (next_over k.stored noted d.wrote) (stores_on p input step)
stores_on p input (steps.Acts l site_below acts.Rest why) = refl
stores_on p input (steps.Acts l site_below acts.AskDown why) = refl
stores_on p input (steps.Acts l site_below acts.SayReadOnly why) = refl
stores_on p input (steps.Acts l site_below acts.SayReady why) = refl
stores_on p input (steps.Acts l site_below acts.Seal why) = refl
stores_on p input (steps.Acts l site_below (acts.SealAndPass i) why) = refl
stores_on p input (steps.Acts l site_below acts.Decide why) = refl
stores_on p input (steps.Acts l site_below acts.Finish why) = refl
stores_on p input (steps.Acts l site_below acts.Abandon why) = refl
stores_on p input (steps.Does s from nexts.Rest kept why) = refl
stores_on p input (steps.Does s from nexts.AckToward kept why) = refl
stores_on p input (steps.Does s from nexts.SayForgotten kept why) = refl
stores_on p input (steps.Does s from nexts.SayAck kept why) = refl
stores_on p input (steps.Does s from (nexts.End d) kept why) = refl
stores_on p input (steps.Does s from (nexts.Meet d mixed) kept why) = refl
stores_on p input (steps.Does s from nexts.Forget kept why) = refl
stores_on p input (steps.Gives_up_commit n b (Some l) gives has calls live) = refl
stores_on p input (steps.Gives_up_commit n b None gives has calls live) = refl
stores_on p input _ = refl

-- what a node hears changes nothing that it stores
stored_heard : (k : NodeState) (input : Input) → (heard k input).stored ≡ k.stored
stored_heard k (inputs.Message m) = refl
stored_heard k (inputs.Call n s) = refl
stored_heard k (inputs.GiveUp n) = refl
stored_heard k inputs.Reco = refl
stored_heard k inputs.Checkpoint = refl

pub turns_store_their_records : TurnsStoreTheirRecords
unfolding turn_of Stores
turns_store_their_records p k input fit =
    subst (λ (s : Stored). IsButForAcks (stored_next s (draft_of p k input).wrote) (draft_of p k input).after.stored) (stored_heard k input) (stores_on p input (step_of p k input fit))
