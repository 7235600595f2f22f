-- Each step of a node leaves its live branches so that those that are Ready have said so to their parents.
use Rattle.std.proofs.Common.{◌≡◌, ◌&&◌, ◌||◌, Bool, true, false, List, Option, Some, None, refl, subst}
use Rattle.std.specs.List.{AllByRecursion}
use Rattle.tran_ids.proofs.BranchLemmas.{same_from_equal}
use Rattle.node_rules.specs.Data.{Live, BranchId, Kind, Place, Post, Input}
use Rattle.node_rules.specs.Data.kinds
use Rattle.node_rules.specs.Data.phases
use Rattle.node_rules.specs.Words.{same}
use Rattle.node_rules.specs.NodeState.{NodeState, TurnDraft, to_one}
use Rattle.node_rules.specs.Prepare.{act_turn}
use Rattle.node_rules.proofs.Steps.{Step}
use Rattle.run_branch_laws.specs.WalkLaws.{was_sent}
use Rattle.run_base_laws.proofs.LiveStepLemmas.{LiveCases, nothing_lasts, acting_by, left_by, lives_on}
use Rattle.commit_laws.specs.DeliveryLaws.{is_answer}

all_three : (p q r s : Bool) → p ≡ true → q ≡ true → r ≡ true → (((p && q) && r) || s) ≡ true
all_three true true true s one two three = refl
all_three true true false s one two three = absurd cc
all_three true false r s one two three = absurd cc
all_three false q r s one two three = absurd cc

-- a message to one was sent to it
pub one_sent : (kind : Kind → Bool) (me : BranchId) (x : Kind) (o : Option BranchId) (q : BranchId) → kind x ≡ true → o ≡ Some q → was_sent kind (to_one me x o) me q ≡ true
one_sent kind me x None q is at = absurd cc
one_sent kind me x (Some p) q is at =
    let it : p ≡ q = cc in
    all_three (same me me) (same p q) (kind x) false (same_from_equal me me refl) (same_from_equal p q it) is

module _ (all : List Post) where
  -- a branch that is Ready has said so
  abbrev pub Answered : Live → Type 0
  Answered l = l.phase ≡ phases.Ready → (q : BranchId) → l.parent ≡ Some q → was_sent is_answer all l.me q ≡ true

  abbrev pub AllAnswered : NodeState → Type 0
  AllAnswered k = AllByRecursion Answered k.lives

  -- what is said is among all messages
  abbrev pub Adds : List Post → Type 0
  Adds says = (b q : BranchId) → was_sent is_answer says b q ≡ true → was_sent is_answer all b q ≡ true

  module _ (p : Place) (input : Input) where
    each : LiveCases p input (λ k. Unit {0}) (λ d. Adds d.says) Answered
    each = record {
      lasts = nothing_lasts p input;
      root = λ k n s read_at call begins free c is. absurd cc;
      child = λ k to parent edge root depth read_at came new c is. absurd cc;
      advised = λ l advice so. so;
      runs = λ k x s t so. so;
      backs = λ l changed so. so;
      opens = λ k x from strength g link opened c so. so;
      replies = λ k x weight count a i e answered so. so;
      acts = λ k l below a why c adds all.
          left_by Answered l a (λ says so is q above. subst (λ z. Adds (act_turn k l below z).says) says adds l.me q (one_sent is_answer l.me kinds.Ready l.parent q refl above))
          (acting_by Answered (λ x comment b live begins so is. absurd cc) (λ x from v b answers so. so) all why);
    }

    pub answered_on : {k : NodeState} {d : TurnDraft} → Step p input k d → Adds d.says → AllAnswered k → AllAnswered d.after
    answered_on step adds now = lives_on each step tt adds now
