-- A seal or a decision changes no key that a branch in doubt holds.
use Rattle.std.proofs.Common.{◌≡◌, ℕ, None, Option, Some}
use Rattle.std.specs.Prelude.{IfSome, List}
use Rattle.node_rules.specs.Data.{Stmt, Place, Input, Doubt}
use Rattle.node_rules.specs.Data.acts
use Rattle.commit_forget.specs.declared.next.Next.TheVariants as nexts
use Rattle.node_rules.specs.NodeState.{NodeState, TurnDraft, kept_row_id, live_at, Branch}
use Rattle.node_rules.specs.Commit.{acked_by}
use Rattle.node_rules.specs.Inputs.{IsCall}
use Rattle.node_rules.specs.Prepare.{own_changes}
use Rattle.node_rules.proofs.Steps as steps
use Rattle.node_rules.proofs.Steps.{Step}
use Rattle.node_rules.proofs.StepLemmas.{acting_live, made_so}
use Rattle.node_rules.specs.Calls.{backs_to}
use Rattle.node_rules.specs.Marks.{node_back, branch_back, next_back}
use Rattle.node_ready_laws.proofs.ListLemmas.{all_found, all_put}
use Rattle.node_undo_laws.specs.Keys.{ChangesFreeKeys}
use Rattle.node_undo_laws.proofs.HolderLemmas.{changes_free}
use Rattle.node_undo_laws.proofs.KeyLemmas.{reads_gone}
use Rattle.node_undo_laws.proofs.KeyStepLemmas.{Keys, Apart, not_doubted, not_came, not_other, not_collects, not_acting, MayStart, may_start, not_going}

module _ (p : Place) (input : Input) where
  -- a statement that may begin a transaction writes nothing, whatever it meets
  rows_free : (n : ℕ) (s : Stmt) → IsCall input n s → MayStart s → (ds : List Doubt) → {k : NodeState} {d : TurnDraft} → Step p input k d → IfSome d.wrote (ChangesFreeKeys ds)
  rows_free n s is rows ds (steps.Begins m u read_at call begins fit none step) = rows_free n s is rows ds step
  rows_free n s is rows ds (steps.Counts_call m u call counts step) = rows_free n s is rows ds step
  rows_free n s is rows ds (steps.Goes_back x to goes next) = absurd (not_going is rows goes)
  rows_free n s is rows ds (steps.Pends m l given call has live code writer step) = absurd (not_other is rows (λ no. no) call)
  rows_free n s is rows ds (steps.Lets_reads_go l comment site_below live begins step) = absurd (not_collects is rows begins)
  rows_free n s is rows ds (steps.Counts_ack x from kept came counts step) = absurd (not_came is rows came)
  rows_free n s is rows ds (steps.Acts l site_below a why) = absurd (not_acting is rows why)
  rows_free n s is rows ds (steps.Does x from nexts.Rest kept why) = tt
  rows_free n s is rows ds (steps.Makes_record m u r d call makes) = made_so (ChangesFreeKeys ds) (λ t. tt) (λ l. tt) (λ y. tt) (λ on. tt) makes
  rows_free n s is rows ds (steps.Gives_up_commit m b None gives has pending gone) = tt
  rows_free n s is rows ds _ = tt

  -- nor does going back
  back_free : (k : NodeState) (x : Branch) (to : ℕ) (next : Option ℕ) → IfSome (backs_to (node_back k x to) (branch_back k x to) to next).wrote (ChangesFreeKeys k.stored.doubts)
  back_free k x to None = tt
  back_free k x to (Some i) = tt

  pub step_free : {k : NodeState} {d : TurnDraft} → Step p input k d → Apart k → Keys k → IfSome d.wrote (ChangesFreeKeys k.stored.doubts)
  step_free (steps.Begins {k = k} n s read_at call begins fit none step) apart now = rows_free n s call (may_start begins) k.stored.doubts step
  step_free (steps.Counts_call {k = k} n s call counts step) apart now = step_free step (record { rows = apart.rows; doubts = apart.doubts }) now
  step_free (steps.Goes_back {k = k} x to goes next) apart now = back_free k x to (next_back (branch_back k x to).work to 1)
  step_free (steps.Pends n l given call has live code writer step) apart now = step_free step (record { rows = apart.rows; doubts = apart.doubts }) now
  step_free (steps.Lets_reads_go {k = k} l comment site_below live begins step) apart now =
      step_free step (record { rows = apart.rows; doubts = apart.doubts }) (reads_gone k.locks k.owns k.stored.doubts now l.me)
  step_free (steps.Counts_ack {k = k} s from kept came counts step) apart now =
      step_free step (record {
        rows = all_put (λ x. live_at k x.me ≡ None) kept_row_id k.stored.durable.kept (acked_by s from) apart.rows (all_found (λ x. live_at k x.me ≡ None) _ k.stored.durable.kept s apart.rows kept);
        doubts = apart.doubts;
      }) now
  step_free (steps.Acts {k = k} l site_below acts.Seal why) apart now = changes_free k.locks l.me (own_changes k l.me) (now.own l.me) k.stored.doubts now.doubts (not_doubted k l.me (acting_live why) apart)
  step_free (steps.Acts {k = k} l site_below (acts.SealAndPass i) why) apart now = changes_free k.locks l.me (own_changes k l.me) (now.own l.me) k.stored.doubts now.doubts (not_doubted k l.me (acting_live why) apart)
  step_free (steps.Acts {k = k} l site_below acts.Decide why) apart now = changes_free k.locks l.me (own_changes k l.me) (now.own l.me) k.stored.doubts now.doubts (not_doubted k l.me (acting_live why) apart)
  step_free (steps.Does s from nexts.Rest kept why) apart now = tt
  step_free (steps.Makes_record {k = k} n s r d call makes) apart now = made_so (ChangesFreeKeys k.stored.doubts) (λ t. tt) (λ l. tt) (λ y. tt) (λ on. tt) makes
  step_free (steps.Gives_up_commit n b None gives has pending gone) apart now = tt
  step_free _ apart now = tt
