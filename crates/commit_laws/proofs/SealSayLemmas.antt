-- What the turn says in which a branch becomes sealed whose neighbour toward the site is its parent: Prepared, to the
-- parent. A branch that seals or decides otherwise, below another, was Ready.
use Rattle.std.proofs.Common.{◌≡◌, ℕ, ◌+◌, Bool, true, List, is_none, Option, Some, None, inl, inr, refl, sym, ap, subst, ◌∙◌}
use Rattle.std.specs.Prelude.{◌⊎◌, IfSome}
use Rattle.commit_forget.specs.declared.next.Next.TheVariants as nexts
use Rattle.prepare_phase.specs.Records.{sealed_of, decided_of}
use Rattle.node_rules.specs.Data.{Live, Act, BranchId, RedoRecord, Sealed, Decided, Place, Post, Input}
use Rattle.node_rules.specs.Data.acts
use Rattle.node_rules.specs.Data.kinds
use Rattle.node_rules.specs.Data.phases
use Rattle.node_rules.specs.Data.records
use Rattle.node_rules.specs.Data.towards
use Rattle.node_rules.specs.NodeState.{NodeState, TurnDraft, live_at, to_one}
use Rattle.node_rules.proofs.Steps as steps
use Rattle.node_rules.proofs.Steps.{Step, Acting, Collected}
use Rattle.run_branch_laws.specs.WalkLaws.{was_sent}
use Rattle.tree_laws.proofs.WhyLemmas.{Near, ActsIn, seal_act, WroteWhy}
use Rattle.commit_laws.specs.DeliveryLaws.{is_answer}
use Rattle.commit_laws.proofs.ReadyStepLemmas.{one_sent}

-- a seal toward the parent tells it
abbrev pub SaysSeal : List Post → RedoRecord → Type 0
SaysSeal says (records.Sealed r) = r.toward ≡ towards.Parent → says ≡ to_one r.me kinds.Prepared r.parent
SaysSeal says _ = Unit {0}

module _ (p : Place) (input : Input) where
  pub seal_says : {k : NodeState} {d : TurnDraft} → Step p input k d → IfSome d.wrote (SaysSeal d.says)
  seal_says (steps.Begins n s read_at call begins range free step) = seal_says step
  seal_says (steps.Counts_call n s call counts step) = seal_says step
  seal_says (steps.Goes_back x step goes next) = seal_says next
  seal_says (steps.Pends n l given call has live code writer step) = seal_says step
  seal_says (steps.Lets_reads_go l comment below live begins step) = seal_says step
  seal_says (steps.Counts_ack s from kept came counts step) = seal_says step
  seal_says (steps.Acts l below acts.Seal why) = λ toward. refl
  seal_says (steps.Acts l below (acts.SealAndPass i) why) = λ toward. absurd cc
  seal_says (steps.Does s from nexts.Rest kept why) = tt
  seal_says (steps.Makes_record n s r d call (steps.Sets_recovery on)) = tt
  seal_says (steps.Gives_up_commit n b None gives has calls live) = tt
  seal_says _ = tt

-- ---- branches that were Ready

-- a branch was Ready
abbrev pub WasReady : NodeState → BranchId → Option BranchId → Type 0
WasReady k me parent = (l : Live) × (live_at k me ≡ Some l) × (l.phase ≡ phases.Ready) × (l.parent ≡ parent)

no_root : {A : Type 0} (o : Option A) (a : A) → is_none o ≡ true → o ≡ Some a → ⊥
no_root None a is at = absurd cc
no_root (Some x) a is at = absurd cc

-- an act at CommitPoint
data OnPoint : Act → Type 0 where
  Decides : OnPoint acts.Decide
  Passes_on : (i : ℕ) → OnPoint (acts.SealAndPass i)

-- one that has a parent collects for no such act
collected_root : {l : Live} {below : Bool} {a : Act} → Collected l below a → OnPoint a → (q : BranchId) → l.parent ≡ Some q → ⊥
collected_root {l = l} (steps.Passes i none is) way q above = no_root l.parent q none above
collected_root {l = l} (steps.Is_site none is) way q above = no_root l.parent q none above
collected_root {l = l} (steps.Has_no_site none is) way q above = no_root l.parent q none above
collected_root (steps.Has_nothing is) way q above = elim way [ ]
collected_root (steps.Is_prepared is) way q above = elim way [ ]
collected_root (steps.Awaits_point is) way q above = elim way [ ]

module _ (k0 : NodeState) (input : Input) where
  near_live : (k : NodeState) → Near k0 k → (l : Live) → live_at k l.me ≡ Some l → live_at k0 l.me ≡ Some l
  near_live k near l live = subst (λ ls. live_at (record k0 { lives = ls }) l.me ≡ Some l) near.lives live

  was_ready : (k : NodeState) → Near k0 k → {l : Live} {below : Bool} {a : Act} → Acting k input l below a → OnPoint a → (q : BranchId) → l.parent ≡ Some q → WasReady k0 l.me (Some q)
  was_ready k near (steps.At_point l from a live came is pointed) way q above = (l, near_live k near l live, is, above)
  was_ready k near (steps.Has_no_children l comment below a live begins none collected) way q above = absurd (collected_root collected way q above)
  was_ready k near (steps.Hears_last l from v below a live answers other all collected) way q above = absurd (collected_root collected way q above)
  was_ready k near (steps.Asks_down l comment below e es live begins some) way q above = elim way [ ]
  was_ready k near (steps.Waits_on l from v below live answers other some) way q above = elim way [ ]
  was_ready k near (steps.Hears_abort l from below live answers) way q above = elim way [ ]

  -- a decision below a root
  pub decides_ready : (says : List Post) (r : Decided) → WroteWhy k0 input says (records.Decided r) → (q : BranchId) → r.parent ≡ Some q → WasReady k0 r.me (Some q)
  decides_ready says r why q above =
      let l : Live = why.1 in
      let acts_in : ActsIn k0 input l why.2 acts.Decide = why.3 in
      let is : r ≡ decided_of (k0.clock + 1) l why.4 = why.5 in
      let ready : WasReady k0 l.me (Some q) = was_ready acts_in.here acts_in.near acts_in.acting Decides q (sym (ap (λ (x : Decided). x.parent) is) ∙ above) in
      subst (λ b. WasReady k0 b (Some q)) (sym (ap (λ (x : Decided). x.me) is)) ready

  -- a seal below a root tells the parent, or the branch was Ready
  pub seals_answer : (says : List Post) (r : Sealed) → WroteWhy k0 input says (records.Sealed r) → SaysSeal says (records.Sealed r) → (q : BranchId) → r.parent ≡ Some q → (was_sent is_answer says r.me q ≡ true) ⊎ WasReady k0 r.me (Some q)
  seals_answer says r why tells q above = by why.3 why.4 why.6
    where
      by : (path : Option ℕ) → ActsIn k0 input why.1 why.2 (seal_act path) → r ≡ sealed_of k0.clock why.1 why.5 path → (was_sent is_answer says r.me q ≡ true) ⊎ WasReady k0 r.me (Some q)
      by None acts_in is = inl (subst (λ xs. was_sent is_answer xs r.me q ≡ true) (sym (tells (ap (λ (x : Sealed). x.toward) is))) (one_sent is_answer r.me kinds.Prepared r.parent q refl above))
      by (Some i) acts_in is =
          inr (subst (λ b. WasReady k0 b (Some q)) (sym (ap (λ (x : Sealed). x.me) is)) (was_ready acts_in.here acts_in.near acts_in.acting (Passes_on i) q (sym (ap (λ (x : Sealed). x.parent) is) ∙ above)))
