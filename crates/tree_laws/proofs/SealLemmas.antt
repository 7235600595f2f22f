-- Why a live branch becomes sealed: it is a root, it answered Ready, or it has a weight. Seals are by records alone.
use Rattle.std.proofs.Common.{◌≡◌, ◌⊎◌, ℕ, Bool, true, false, List, is_none, Option, Some, None, inl, inr, refl, sym, ap, ◌∙◌}
use Rattle.session_tree.specs.Tree.{weight}
use Rattle.node_rules.specs.Data.{BranchId, Live, Input}
use Rattle.node_rules.specs.Data.acts
use Rattle.node_rules.specs.Data.phases
use Rattle.node_rules.specs.NodeState.{NodeState, live_at}
use Rattle.node_rules.proofs.Steps as steps
use Rattle.node_rules.proofs.Steps.{Acting, Collected}
use Rattle.agreement.specs.Events.{Event, Sealed, Quiet, Dropped, exit_by}
use Rattle.agreement.proofs.EventLemmas.{only_at_is}
use Rattle.run_base_laws.proofs.LaterLemmas.{Later, Was_said, Was_quiet, Was_dropped}
use Rattle.tree_laws.proofs.WeightStepLemmas.{collected_weight, voted_weight}
use Rattle.tree_laws.proofs.WhyLemmas.{seal_act}

-- ---- the act

prepared_weighs : {l : Live} {b : Bool} → Collected l b acts.Seal → is_none (weight l) ≡ false
prepared_weighs (steps.Is_prepared is) = is

passed_root : {l : Live} {b : Bool} {i : ℕ} → Collected l b (acts.SealAndPass i) → is_none l.parent ≡ true
passed_root (steps.Passes i none is) = none

-- A live branch becomes sealed so.
pub record SealsSo (k : NodeState) (me : BranchId) (parent : Option BranchId) : Type 0 where
  pub live : Live
  pub found : live_at k live.me ≡ Some live
  pub is_me : live.me ≡ me
  pub is_parent : live.parent ≡ parent
  pub weighs : (is_none (weight live) ≡ false) ⊎ ((is_none parent ≡ true) ⊎ (live.phase ≡ phases.Ready))

pub seals_so : {k : NodeState} {input : Input} {l : Live} {b : Bool} (path : Option ℕ) → Acting k input l b (seal_act path) → SealsSo k l.me l.parent
seals_so None (steps.Has_no_children l comment b _ live begins none collected) =
    record { live = l; found = live; is_me = refl; is_parent = refl; weighs = inl (ap is_none (sym (collected_weight l comment b)) ∙ prepared_weighs collected) }
seals_so None (steps.Hears_last l from v b _ live answers other all collected) =
    record { live = l; found = live; is_me = refl; is_parent = refl; weighs = inl (ap is_none (sym (voted_weight l from v)) ∙ prepared_weighs collected) }
seals_so None (steps.At_point l from _ live came is pointed) = elim pointed [ ]
seals_so (Some i) (steps.Has_no_children l comment b _ live begins none collected) = record { live = l; found = live; is_me = refl; is_parent = refl; weighs = inr (inl (passed_root collected)) }
seals_so (Some i) (steps.Hears_last l from v b _ live answers other all collected) = record { live = l; found = live; is_me = refl; is_parent = refl; weighs = inr (inl (passed_root collected)) }
seals_so (Some i) (steps.At_point l from _ live came is pointed) = record { live = l; found = live; is_me = refl; is_parent = refl; weighs = inr (inr is) }

-- ---- the record

pub later_unsealed : {before after : List BranchId} (b : BranchId) (m : ℕ) (e : Event) → Later before after e → exit_by e b ≡ Some (Sealed m) → ⊥
later_unsealed b m e (Was_said x none) is = let no : None ≡ Some (Sealed m) = sym (none b).0 ∙ is in absurd cc
later_unsealed b m e (Was_quiet c was gone) is = let at = only_at_is c b Quiet (Sealed m) is in absurd (cc (at.1))
later_unsealed b m e (Was_dropped c was gone) is = let at = only_at_is c b Dropped (Sealed m) is in absurd (cc (at.1))
