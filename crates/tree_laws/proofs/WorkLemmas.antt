-- A live branch that is working goes on so in each step of its node, unless its COMMIT or its Prepare comes.
use Rattle.std.proofs.Common.{◌≡◌, ◌⊎◌, Some, inl, inr, refl}
use Rattle.std.specs.List.{AllByRecursion}
use Rattle.node_rules.specs.Data.{Live, Place, Input}
use Rattle.node_rules.specs.Data.phases
use Rattle.node_rules.specs.Words.{item_at}
use Rattle.node_rules.specs.NodeState.{NodeState, TurnDraft, live_id}
use Rattle.node_rules.proofs.Steps.{Step}
use Rattle.run_branch_laws.proofs.FreezeLemmas.{acting_phase}
use Rattle.run_rules.proofs.ListLemmas.{all_weaker}
use Rattle.run_base_laws.proofs.LiveStepLemmas.{LiveCases, nothing_lasts, acting_by, left_by, lives_on}
use Rattle.tree_laws.specs.LeaveLaws.{Begins_by}
use Rattle.tree_laws.proofs.LeaveLemmas.{begins_so}

module _ (k0 : NodeState) (input : Input) where
  -- A live branch that was working as the turn began, or was not live, is so, or its collect begins.
  abbrev pub Works : Live → Type 0
  Works l = ((z : Live) → item_at live_id k0.lives l.me ≡ Some z → z.phase ≡ phases.Working) → (l.phase ≡ phases.Working) ⊎ Begins_by input l.me

  abbrev pub All : NodeState → Type 0
  All k = AllByRecursion Works k.lives

  pub first_works : AllByRecursion (λ l. item_at live_id k0.lives l.me ≡ Some l) k0.lives → All k0
  first_works found =
      all_weaker (λ l. item_at live_id k0.lives l.me ≡ Some l) Works
      (λ l here working. inl (working l here)) k0.lives found

  module _ (p : Place) where
    each : LiveCases p input (λ k. Unit {0}) (λ d. Unit {0}) Works
    each = record {
      lasts = nothing_lasts p input;
      root = λ k n s read_at call begins free c working. inl refl;
      child = λ k to parent edge root depth read_at came new c working. inl refl;
      advised = λ l advice so. so;
      runs = λ k x s t so. so;
      backs = λ l changed so. so;
      opens = λ k x from strength g link opened c so. so;
      replies = λ k x weight count a i e answered so. so;
      acts = λ k l below a why c q all.
          left_by Works l a (λ says so working. elim (so working) [ inl still ↦ absurd (acting_phase why still) | inr begins ↦ inr begins ])
          (acting_by Works (λ x comment b live begins so working. inr (begins_so x begins)) (λ x from v b answers so. so) all why);
    }

    pub works_on : {k : NodeState} {d : TurnDraft} → Step p input k d → All k → All d.after
    works_on step now = lives_on each step tt tt now
