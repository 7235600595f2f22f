-- A live branch that a step leaves not working was not working before, is a root, or got Prepare.
use Rattle.std.proofs.Common.{◌≡◌, ◌≢◌, ℕ, Bool, List, Some, None, inl, inr, refl}
use Rattle.std.specs.Prelude.{◌⊎◌}
use Rattle.std.specs.List.{AllByRecursion}
use Rattle.node_rules.specs.Data.{Live, BranchId, Place, Input}
use Rattle.node_rules.specs.Data.kinds
use Rattle.node_rules.specs.Data.phases
use Rattle.node_rules.specs.Inputs.{Came}
use Rattle.node_rules.specs.Words.{item_at}
use Rattle.node_rules.specs.NodeState.{NodeState, TurnDraft, live_id, live_at}
use Rattle.node_rules.proofs.Steps as steps
use Rattle.node_rules.proofs.Steps.{Step, Collects}
use Rattle.run_branch_laws.proofs.FreezeLemmas.{acting_phase}
use Rattle.run_rules.proofs.ListLemmas.{all_weaker}
use Rattle.run_base_laws.proofs.LiveStepLemmas.{LiveCases, acting_by, left_by, lives_on}
use Rattle.commit_laws.proofs.CommitCallLemmas.{OfCommit, commit_lasts}

-- Prepare came to a branch
abbrev pub PrepareCame : Input → BranchId → Type 0
PrepareCame input b = (from : BranchId) × (site_below : Bool) × (comment : List ℕ) × Came input from b (kinds.Prepare site_below comment)

module _ (k0 : NodeState) (p : Place) (input : Input) where
  -- a branch was live as the turn began, and not working
  abbrev pub WasBusy : BranchId → Type 0
  WasBusy b = (z : Live) × (item_at live_id k0.lives b ≡ Some z) × (z.phase ≢ phases.Working)

  -- why a live branch is not working
  abbrev pub Got : Live → Type 0
  Got l = l.phase ≢ phases.Working → (l.parent ≡ None) ⊎ (WasBusy l.me ⊎ PrepareCame input l.me)

  abbrev pub AllGot : NodeState → Type 0
  AllGot k = AllByRecursion Got k.lives

  -- COMMIT comes to a root
  abbrev pub OfRoots : NodeState → Type 0
  OfRoots k = OfCommit (λ (l : Live). l.parent ≡ None) p input k

  pub first_got : AllByRecursion (λ l. item_at live_id k0.lives l.me ≡ Some l) k0.lives → AllGot k0
  first_got found = all_weaker (λ l. item_at live_id k0.lives l.me ≡ Some l) Got (λ l here busy. inr (inl (l, here, busy))) k0.lives found

  begins_got : {k : NodeState} {comment : List ℕ} {below : Bool} (l : Live) → OfRoots k → live_at k l.me ≡ Some l → Collects k input l comment below → (l.parent ≡ None) ⊎ (WasBusy l.me ⊎ PrepareCame input l.me)
  begins_got l roots live (steps.By_commit n given call has code writer is) = inl (roots n given l call has live)
  begins_got {comment = comment} {below = below} l roots live (steps.By_prepare from _ came working) = inr (inr (from, below, comment, came))

  each : LiveCases p input OfRoots (λ d. Unit {0}) Got
  each = record {
    lasts = commit_lasts (λ l. l.parent ≡ None) p input;
    root = λ k n s read_at call begins free roots busy. absurd (busy refl);
    child = λ k to parent edge root depth read_at came new roots busy. absurd (busy refl);
    advised = λ l advice so. so;
    runs = λ k x s t so. so;
    backs = λ l changed so. so;
    opens = λ k x from strength g link opened roots so. so;
    replies = λ k x weight count a i e answered so. so;
    acts = λ k l below a why roots q all.
        left_by Got l a (λ says so busy. so (acting_phase why)) (acting_by Got (λ x comment b live begins so busy. begins_got x roots live begins) (λ x from v b answers so. so) all why);
  }

  pub got_on : {k : NodeState} {d : TurnDraft} → Step p input k d → OfRoots k → AllGot k → AllGot d.after
  got_on step roots now = lives_on each step roots tt now
