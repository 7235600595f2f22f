-- Which start a node is in: only starts write Boot, and the records of a node say how often it was started.
use Rattle.std.proofs.Common.{◌≡◌, ℕ, ◌+◌, List, [], ◌∷◌, ◌++◌, Option, Some, None, refl, ap, append-nil, arith}
use Rattle.std.specs.Prelude.{IfSome}
use Rattle.std.specs.Option.{option_to_list}
use Rattle.node_rules.specs.Data.{RedoRecord, Place, Input}
use Rattle.node_rules.specs.Data.records
use Rattle.node_rules.specs.Data.acts
use Rattle.commit_forget.specs.declared.next.Next.TheVariants as nexts
use Rattle.node_rules.specs.NodeState.{NodeState, TurnDraft}
use Rattle.node_rules.proofs.Steps as steps
use Rattle.node_rules.proofs.Steps.{Step}
use Rattle.run_rules.specs.Lawful.{boots}
use Rattle.node_rules.proofs.StepLemmas.{made_so}

-- only a start writes Boot
abbrev pub IsOfTurn : RedoRecord → Type 0
IsOfTurn (records.Boot n) = ⊥
IsOfTurn _ = Unit {0}

-- no step writes it
pub step_of_turn : (p : Place) (input : Input) {k : NodeState} {d : TurnDraft} → Step p input k d → IfSome d.wrote IsOfTurn
step_of_turn p input (steps.Begins n s read_at call begins fit none step) = step_of_turn p input step
step_of_turn p input (steps.Counts_call n s call counts step) = step_of_turn p input step
step_of_turn p input (steps.Goes_back x step goes next) = step_of_turn p input next
step_of_turn p input (steps.Pends n l given call has live code reads step) = step_of_turn p input step
step_of_turn p input (steps.Lets_reads_go l comment site_below live begins step) = step_of_turn p input step
step_of_turn p input (steps.Counts_ack s from kept came counts step) = step_of_turn p input step
step_of_turn p input (steps.Acts l site_below acts.Rest why) = tt
step_of_turn p input (steps.Does s from nexts.Rest kept why) = tt
step_of_turn p input (steps.Makes_record n s r d call makes) = made_so IsOfTurn (λ t. tt) (λ l. tt) (λ y. tt) (λ setting. tt) makes
step_of_turn p input (steps.Gives_up_commit n b None gives has calls gone) = tt
step_of_turn p input _ = tt

-- as many starts with a record of a turn as without
pub boots_last : (rs : List RedoRecord) (r : RedoRecord) → IsOfTurn r → boots (rs ++ r ∷ []) ≡ boots rs
boots_last [] (records.Boot n) is = absurd is
boots_last [] _ is = refl
boots_last (records.Boot n ∷ rs) r is = ap (λ m. 1 + m) (boots_last rs r is)
boots_last (_ ∷ rs) r is = boots_last rs r is

-- and one more with a Boot
pub boots_started : (rs : List RedoRecord) (n : ℕ) → boots (rs ++ records.Boot n ∷ []) ≡ boots rs + 1
boots_started [] n = refl
boots_started (records.Boot m ∷ rs) n = let is : boots (rs ++ records.Boot n ∷ []) ≡ boots rs + 1 = boots_started rs n in omega (arith, is)
boots_started (_ ∷ rs) n = boots_started rs n

pub boots_with : (rs : List RedoRecord) (w : Option RedoRecord) → IfSome w IsOfTurn → boots (rs ++ option_to_list w) ≡ boots rs
boots_with rs None is = ap boots (append-nil rs)
boots_with rs (Some r) is = boots_last rs r is
