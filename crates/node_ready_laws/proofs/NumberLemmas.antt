-- How far the numbers of a node rise in one step, and in one turn.
use Rattle.std.proofs.Common.{◌≡◌, ◌+◌, ◌≤◌, [], ◌∷◌, length, Some, None, refl, subst, arith}
use Rattle.std.proofs.lemmas.List.{length-append}
use Rattle.node_rules.specs.Data.{Place, Input}
use Rattle.node_rules.specs.Data.inputs
use Rattle.node_rules.specs.Data.acts
use Rattle.commit_forget.specs.declared.next.Next.TheVariants as nexts
use Rattle.node_rules.specs.NodeState.{NodeState, TurnDraft}
use Rattle.node_rules.specs.Calls.{new_opening}
use Rattle.node_rules.specs.Turn.{heard, draft_of, turn_of}
use Rattle.node_rules.proofs.Steps as steps
use Rattle.node_rules.proofs.Steps.{Step}
use Rattle.node_rules.proofs.TurnLemmas.{step_of}
use Rattle.node_ready_laws.specs.Numbers.{ClocksRiseByOne, OneOpenATurn}

-- the clock rises by one at most, and one Open more is answered at most
abbrev Rises : NodeState → NodeState → Type 0
Rises k x = (x.clock ≤ k.clock + 1) × (length x.opens ≤ length k.opens + 1)

rises_on : (p : Place) (input : Input) {k : NodeState} {d : TurnDraft} → Step p input k d → Rises k d.after
rises_on p input (steps.Begins n s read_at call begins fit none step) = rises_on p input step
rises_on p input (steps.Counts_call n s call counts step) = rises_on p input step
rises_on p input (steps.Goes_back x step goes next) = rises_on p input next
rises_on p input (steps.Pends n l given call has live code writer step) = rises_on p input step
rises_on p input (steps.Lets_reads_go l comment site_below live begins step) = rises_on p input step
rises_on p input (steps.Counts_ack s from kept came counts step) = rises_on p input step
rises_on p input (steps.Acts l site_below acts.Rest why) = (omega arith, omega arith)
rises_on p input (steps.Acts l site_below acts.AskDown why) = (omega arith, omega arith)
rises_on p input (steps.Acts l site_below acts.SayReadOnly why) = (omega arith, omega arith)
rises_on p input (steps.Acts l site_below acts.SayReady why) = (omega arith, omega arith)
rises_on p input (steps.Acts l site_below acts.Seal why) = (omega arith, omega arith)
rises_on p input (steps.Acts l site_below (acts.SealAndPass i) why) = (omega arith, omega arith)
rises_on p input (steps.Acts l site_below acts.Decide why) = (omega arith, omega arith)
rises_on p input (steps.Acts l site_below acts.Finish why) = (omega arith, omega arith)
rises_on p input (steps.Acts l site_below acts.Abandon why) = (omega arith, omega arith)
rises_on p input (steps.Does s from nexts.Rest kept why) = (omega arith, omega arith)
rises_on p input (steps.Does s from nexts.AckToward kept why) = (omega arith, omega arith)
rises_on p input (steps.Does s from nexts.SayForgotten kept why) = (omega arith, omega arith)
rises_on p input (steps.Does s from nexts.SayAck kept why) = (omega arith, omega arith)
rises_on p input (steps.Does s from (nexts.End d) kept why) = (omega arith, omega arith)
rises_on p input (steps.Does s from (nexts.Meet d mixed) kept why) = (omega arith, omega arith)
rises_on p input (steps.Does s from nexts.Forget kept why) = (omega arith, omega arith)
rises_on p input (steps.Gives_up_commit n b (Some l) gives has calls live) = (omega arith, omega arith)
rises_on p input (steps.Gives_up_commit n b None gives has calls live) = (omega arith, omega arith)
rises_on p input (steps.Opens_branch {k = k} to parent edge root depth read_at came new) = (omega arith, omega (arith, length-append k.opens (new_opening p k parent edge ∷ [])))
rises_on p input _ = (omega arith, omega arith)

opens_heard : (k : NodeState) (input : Input) → (heard k input).opens ≡ k.opens
opens_heard k (inputs.Message m) = refl
opens_heard k (inputs.Call n s) = refl
opens_heard k (inputs.GiveUp n) = refl
opens_heard k inputs.Reco = refl
opens_heard k inputs.Checkpoint = refl

pub clocks_rise_by_one : ClocksRiseByOne
unfolding turn_of
clocks_rise_by_one p k input fit = (rises_on p input (step_of p k input fit)).0

pub one_open_a_turn : OneOpenATurn
unfolding turn_of
one_open_a_turn p k input fit = subst (λ os. length (draft_of p k input).after.opens ≤ length os + 1) (opens_heard k input) (rises_on p input (step_of p k input fit)).1
