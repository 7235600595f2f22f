-- The clock of a node: no turn sets it back, what a turn decides comes later, and it is not below the SCNs that records name.
use Rattle.std.proofs.Common.{ℕ, ◌≤◌, List, None, arith}
use Rattle.std.specs.Prelude.{IfSome}
use Rattle.node_rules.specs.Data.{Decision, Place, Input}
use Rattle.node_rules.specs.Data.decisions
use Rattle.node_rules.specs.Data.inputs
use Rattle.node_rules.specs.Data.acts
use Rattle.commit_forget.specs.declared.next.Next.TheVariants as nexts
use Rattle.node_rules.specs.NodeState.{NodeState, TurnDraft}
use Rattle.node_rules.specs.Records.{applied, raised_by}
use Rattle.node_rules.specs.Turn.{turn_of, heard, draft_of}
use Rattle.node_rules.proofs.Steps as steps
use Rattle.node_rules.proofs.Steps.{Step, IsMet}
use Rattle.run_rules.specs.Data.{Turn, Happening, Command}
use Rattle.run_rules.specs.Data.happenings
use Rattle.run_rules.specs.Facts.{Facts, place_at}
use Rattle.run_rules.specs.Lawful.{MayHappen}
use Rattle.run_base_laws.specs.NodeLaws.{IsLater, ClockRises, ClocksRise, ClocksCover}
use Rattle.node_rules.proofs.StepLemmas.{made_so}
use Rattle.run_base_laws.proofs.LawfulLemmas.{Serves, of_wrote, turn_of_node, serves}
use Rattle.run_base_laws.proofs.NodeLemmas.{each_that_may, KeepsAlone, kept_alone}

-- ---- it rises

module _ (p : Place) (input : Input) (clock : ℕ) where
  -- the clock is as high as it was, and the record comes later
  abbrev pub Since : TurnDraft → Type 0
  Since d = (clock ≤ d.after.clock) × IfSome d.wrote (IsLater clock)

  -- each step leaves it so
  pub since : {k : NodeState} {d : TurnDraft} → Step p input k d → clock ≤ k.clock → Since d
  since (steps.Begins n s read_at call begins fit none step) now = since step now
  since (steps.Counts_call n s call counts step) now = since step now
  since (steps.Goes_back x step goes next) now = since next now
  since (steps.Pends n l given call has live code writer step) now = since step now
  since (steps.Lets_reads_go l comment site_below live begins step) now = since step now
  since (steps.Counts_ack s from kept came counts step) now = since step now
  since (steps.Acts l site_below acts.Seal why) now = (now, now)
  since (steps.Acts l site_below (acts.SealAndPass i) why) now = (now, now)
  since (steps.Acts l site_below acts.Decide why) now = (omega (arith, now), omega (arith, now))
  since (steps.Does s from nexts.Rest kept why) now = (now, tt)
  since (steps.Makes_record n s r d call makes) now = (now, made_so (IsLater clock) (λ t. tt) (λ l. tt) (λ y. tt) (λ setting. tt) makes)
  since (steps.Forces_commit n id b call is) now = (omega (arith, now), tt)
  since (steps.Gives_up_commit n b None gives has pending is) now = (now, tt)
  since _ now = (now, tt)

heard_rises : (k : NodeState) (input : Input) → k.clock ≤ (heard k input).clock
heard_rises k (inputs.Message m) = omega arith
heard_rises k _ = omega arith

-- so it is with turns
serves_later : (p : Place) (k : NodeState) (u : Turn) → Serves p k u → (k.clock ≤ (turn_of p k u.input).after.clock) × IfSome u.wrote (IsLater k.clock)
unfolding turn_of
serves_later p k u serving =
    let now : Since p u.input k.clock (draft_of p k u.input) = since p u.input k.clock serving.step (heard_rises k u.input) in
    (now.0, of_wrote p k u serving (λ w. IfSome w (IsLater k.clock)) tt now.1)

clock_rises : (places : List Place) (asked : List Command) (f : Facts) (h : Happening) → MayHappen places asked f h → ClockRises places f h
clock_rises places asked f (happenings.Turn u) may = λ k up. serves_later (place_at places u.node) k u (serves places f u k (turn_of_node places f u k asked may up))
clock_rises places asked f _ may = tt

pub clocks_rise : ClocksRise
clocks_rise = each_that_may ClockRises clock_rises

-- ---- it covers

abbrev pub Covers : NodeState → Type 0
Covers k = k.stored.scn ≤ k.clock

-- a decision is met before it is noted
met_covers : (scn clock : ℕ) (d : Decision) → IsMet clock d → scn ≤ clock → raised_by scn d ≤ clock
met_covers scn clock (decisions.Commit n) met now = omega (arith, met, now)
met_covers scn clock decisions.Rollback met now = now

covers_on : (p : Place) (input : Input) {k : NodeState} {d : TurnDraft} → Step p input k d → Covers k → Covers d.after
unfolding applied
covers_on p input (steps.Begins n s read_at call begins fit none step) now = covers_on p input step now
covers_on p input (steps.Counts_call n s call counts step) now = covers_on p input step now
covers_on p input (steps.Goes_back x step goes next) now = covers_on p input next now
covers_on p input (steps.Pends n l given call has live code writer step) now = covers_on p input step now
covers_on p input (steps.Lets_reads_go l comment site_below live begins step) now = covers_on p input step now
covers_on p input (steps.Counts_ack s from kept came counts step) now = covers_on p input step now
covers_on p input (steps.Acts l site_below acts.Seal why) now = omega (arith, now)
covers_on p input (steps.Acts l site_below (acts.SealAndPass i) why) now = omega (arith, now)
covers_on p input (steps.Acts l site_below acts.Decide why) now = omega (arith, now)
covers_on p input (steps.Does {k = k} s from _ kept (steps.Ends_so d brings toward new sealed met)) now = met_covers k.stored.scn k.clock d met now
covers_on p input (steps.Does {k = k} s from _ kept (steps.Meets_so d brings toward new unsealed uncommitted met)) now = met_covers k.stored.scn k.clock d met now
covers_on p input (steps.Makes_record {k = k} n s r d call makes) now = made_so (λ x. (applied k.stored x).scn ≤ k.clock) (λ t. now) (λ l. now) (λ y. now) (λ setting. now) makes
covers_on p input (steps.Forces_commit n id b call is) now = omega (arith, now)
covers_on p input (steps.Gives_up_commit n b None gives has pending is) now = now
covers_on p input (steps.Images is) now = omega (arith, now)
covers_on p input _ now = now

pub covers : KeepsAlone Covers
covers = record {
  starts = λ s vs. omega arith;
  hears = λ k scn now. omega (arith, now);
  steps = λ p input k d step now. covers_on p input step now;
}

pub clocks_cover : ClocksCover
clocks_cover = kept_alone Covers covers
