-- A seal and a decision have the changes that their branch's node keeps of it.
use Rattle.std.proofs.Common.{◌≡◌, List, None, Some, refl, subst, ℕ, Option}
use Rattle.std.specs.Prelude.{IfSome}
use Rattle.commit_forget.specs.declared.next.Next.TheVariants as nexts
use Rattle.node_rules.specs.Data.{RedoRecord, Owned, Place, Input}
use Rattle.node_rules.specs.Data.acts
use Rattle.node_rules.specs.Data.inputs
use Rattle.node_rules.specs.Data.records
use Rattle.node_rules.specs.NodeState.{NodeState, TurnDraft, Branch}
use Rattle.node_rules.specs.Turn.{heard, draft_of}
use Rattle.node_rules.proofs.Steps as steps
use Rattle.node_rules.proofs.Steps.{Step}
use Rattle.run_key_laws.specs.ChangedLaws.{changes_at}
use Rattle.run_rules.specs.Data.{Turn}
use Rattle.run_rules.specs.Facts.{Facts, place_at}
use Rattle.run_rules.specs.Lawful.{MayTurn}
use Rattle.run_base_laws.proofs.LawfulLemmas.{serves, of_wrote}
use Rattle.node_rules.specs.Marks.{next_back, branch_back, node_back}
use Rattle.node_rules.specs.Calls.{backs_to}

-- a record has what is kept of its branch
abbrev pub HasKept : List Owned → RedoRecord → Type 0
HasKept owns (records.Sealed r) = r.changes ≡ changes_at owns r.me
HasKept owns (records.Decided r) = r.changes ≡ changes_at owns r.me
HasKept owns _ = Unit {0}

module _ (p : Place) (input : Input) where
  back_own : (k : NodeState) (x : Branch) (step : ℕ) (next : Option ℕ) → IfSome (backs_to (node_back k x step) (branch_back k x step) step next).wrote (HasKept k.owns)
  back_own k x step None = tt
  back_own k x step (Some i) = tt

  writes_own : {k : NodeState} {d : TurnDraft} → Step p input k d → IfSome d.wrote (HasKept k.owns)
  writes_own (steps.Begins m s read_at call begins fit none step) = writes_own step
  writes_own (steps.Counts_call n s call counts step) = writes_own step
  writes_own (steps.Goes_back {k = k} x step goes next) = back_own k x step (next_back (branch_back k x step).work step 1)
  writes_own (steps.Pends m l comment call has live code writer step) = writes_own step
  writes_own (steps.Lets_reads_go l comment site_below live begins step) = writes_own step
  writes_own (steps.Counts_ack s from kept came counts step) = writes_own step
  writes_own (steps.Acts l site_below acts.Seal why) = refl
  writes_own (steps.Acts l site_below (acts.SealAndPass i) why) = refl
  writes_own (steps.Acts l site_below acts.Decide why) = refl
  writes_own (steps.Does s from nexts.Rest kept why) = tt
  writes_own (steps.Makes_record n s r d call (steps.Sets_recovery on)) = tt
  writes_own (steps.Makes_record n s r d call (steps.Sets_strength strength)) = tt
  writes_own (steps.Gives_up_commit n b None gives has calls live) = tt
  writes_own _ = tt

pub heard_owns : (k : NodeState) (input : Input) → (heard k input).owns ≡ k.owns
heard_owns k (inputs.Message m) = refl
heard_owns k _ = refl

-- so does the record of a turn
pub turn_own : (places : List Place) (f : Facts) (u : Turn) (k : NodeState) → MayTurn places f u k → IfSome u.wrote (HasKept k.owns)
turn_own places f u k may =
    let p : Place = place_at places u.node in
    of_wrote p k u (serves places f u k may) (λ w. IfSome w (HasKept k.owns)) tt
    (subst (λ (owns : List Owned). IfSome (draft_of p k u.input).wrote (HasKept owns)) (heard_owns k u.input) (writes_own p u.input (serves places f u k may).step))
