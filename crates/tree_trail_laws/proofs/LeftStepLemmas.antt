-- Why a live branch below a root is live no more after a step of its node.
use Rattle.std.proofs.Common.{◌≡◌, ◌≢◌, Bool, true, List, Option, Some, None}
use Rattle.agreement.specs.Events.{Exit}
use Rattle.reco.specs.declared.post.Post.{Post}
use Rattle.session_tree.specs.Live.{is_branch}
use Rattle.node_rules.specs.Data.{BranchId, RedoRecord, Live, Place, Input}
use Rattle.node_rules.specs.Data.kinds
use Rattle.node_rules.specs.Data.votes
use Rattle.node_rules.specs.Inputs.{Came}
use Rattle.node_rules.specs.NodeState.{NodeState, TurnDraft, live_at, post}
use Rattle.node_rules.proofs.Steps.{Step, Answers}
use Rattle.run_rules.specs.Trail.{recorded_exit}
use Rattle.run_base_laws.proofs.RootLemmas.{SessionsFit, root_alone}
use Rattle.tree_laws.proofs.TopStepLemmas as top

module _ (input : Input) (b : BranchId) (z : Live) where
  -- Why it is live no more.
  pub data Why (wrote : Option RedoRecord) (says : List Post) : Type 0 where
    By_record : (e : Exit) → recorded_exit b wrote ≡ Some e → Why wrote says
    By_quiet : (q : BranchId) → says ≡ post b q kinds.ReadOnly → Why wrote says
    By_abort : (from : BranchId) (site_below : Bool) → Answers input z from votes.Abort site_below → Why wrote says
    By_rollback : (from : BranchId) → Came input from b kinds.Rollback → Why wrote says
    By_parent : (from : BranchId) → Came input from b kinds.RolledBack → is_branch from z.parent ≡ true → Why wrote says
    By_ask : (from : BranchId) → Came input from b kinds.Ask → is_branch from z.parent ≡ true → Why wrote says

  module _ (p : Place) (below : z.parent ≢ None) where
    -- what makes a root alone leave does not
    below_root : (k : NodeState) → SessionsFit k → live_at k b ≡ Some z → (wrote : Option RedoRecord) (says : List Post) → top.Why input b z k.sessions wrote says → Why wrote says
    below_root k fit live wrote says (top.By_record e is) = By_record e is
    below_root k fit live wrote says (top.By_quiet q above said) = By_quiet q said
    below_root k fit live wrote says (top.By_finish root why) = absurd (below root)
    below_root k fit live wrote says (top.By_abort from sb answers) = By_abort from sb answers
    below_root k fit live wrote says (top.By_rollback from came) = By_rollback from came
    below_root k fit live wrote says (top.By_parent from came above) = By_parent from came above
    below_root k fit live wrote says (top.By_ask from came above) = By_ask from came above
    below_root k fit live wrote says (top.By_call n call at root) = absurd (below root)
    below_root k fit live wrote says (top.By_reading n comment scn call reads at root) = absurd (below root)
    below_root k fit live wrote says (top.By_give_up n gives has calls) = absurd (below (root_alone k fit n b has z live))

    pub why_on : {k : NodeState} {d : TurnDraft} → Step p input k d → SessionsFit k → live_at k b ≡ Some z → live_at d.after b ≡ None → Why d.wrote d.says
    why_on {k = k} {d = d} step fit live gone = below_root k fit live d.wrote d.says (top.why_on input b z p (λ from sb comment came. below) (λ none. absurd (below none)) step fit live gone)
