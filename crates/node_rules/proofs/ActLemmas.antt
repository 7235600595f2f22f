-- Why a live branch acts so in its prepare phase, by its place in the tree and the answers that came.
use Rattle.std.proofs.Common.{◌≡◌, ℕ, Bool, true, false, List, [], ◌∷◌, map, Some, refl}
use Rattle.std.proofs.lemmas.Bool.{cond_both}
use Rattle.std.specs.Prelude.{is_none}
use Rattle.node_rules.specs.Data.{BranchId, Edge, Vote, Live, Walk, Input}
use Rattle.node_rules.specs.Data.votes
use Rattle.node_rules.specs.Data.walks
use Rattle.node_rules.specs.Data.phases
use Rattle.node_rules.specs.Data.kinds
use Rattle.session_tree.specs.Tree.{weight, step}
use Rattle.node_rules.specs.NodeState.{NodeState, live_at}
use Rattle.node_rules.specs.Prepare.{root_act, collected_act, first_act_by, first_act, commit_point_act, all_answered, answer_act, with_prepare_sent, collecting, with_comment, voted}
use Rattle.node_rules.specs.Inputs.{Came}
use Rattle.node_rules.proofs.Steps.{Collects, Answers, Collected, Has_nothing, Is_prepared, Awaits_point, Passes, Is_site, Has_no_site, Pointed, Points_on, Points_here, Points_nowhere, Acting, Asks_down, Has_no_children, Hears_abort, Waits_on, Hears_last, At_point}

module _ (l : Live) where
  root_act_so : (w : Walk) → is_none l.parent ≡ true → step l ≡ w → Collected l true (root_act w)
  root_act_so walks.Here root is = Is_site root is
  root_act_so (walks.Down i) root is = Passes i root is
  root_act_so walks.Nowhere root is = Has_no_site root is

  -- all children have answered
  collected_act_so : (site_below : Bool) → Collected l site_below (collected_act l site_below)
  collected_act_so true = cond_both (is_none l.parent) _ _ (Collected l true) (λ root. root_act_so (step l) root refl) Awaits_point
  collected_act_so false = cond_both (is_none (weight l)) _ _ (Collected l false) Has_nothing Is_prepared

  commit_point_act_so : (w : Walk) → step l ≡ w → Pointed l (commit_point_act w)
  commit_point_act_so walks.Here is = Points_here is
  commit_point_act_so (walks.Down i) is = Points_on i is
  commit_point_act_so walks.Nowhere is = Points_nowhere is

module _ (k : NodeState) (input : Input) (l : Live) (live : live_at k l.me ≡ Some l) where
  first_act_by_so : (comment : List ℕ) (site_below : Bool) (es : List Edge) → Collects k input l comment site_below → l.edges ≡ es
      → Acting k input (collecting (with_comment l comment) site_below) site_below (first_act_by (collecting (with_comment l comment) site_below) site_below (map with_prepare_sent es))
  first_act_by_so comment site_below [] begins is = Has_no_children l comment site_below _ live begins is (collected_act_so (collecting (with_comment l comment) site_below) site_below)
  first_act_by_so comment site_below (e ∷ es) begins is = Asks_down l comment site_below e es live begins is

  -- at COMMIT or Prepare
  pub first_act_so : (comment : List ℕ) (site_below : Bool) → Collects k input l comment site_below
      → Acting k input (collecting (with_comment l comment) site_below) site_below (first_act (collecting (with_comment l comment) site_below) site_below)
  first_act_so comment site_below begins = first_act_by_so comment site_below l.edges begins refl

  -- at an answer to Prepare
  pub answer_act_so : (from : BranchId) (v : Vote) (site_below : Bool) → Answers input l from v site_below → Acting k input (voted l from v) site_below (answer_act (voted l from v) site_below v)
  answer_act_so from votes.Abort site_below answers = Hears_abort l from site_below live answers
  answer_act_so from v site_below answers =
      cond_both (all_answered (voted l from v)) _ _ (Acting k input (voted l from v) site_below)
      (λ all. Hears_last l from v site_below _ live answers (λ e. absurd cc) all (collected_act_so (voted l from v) site_below)) (Waits_on l from v site_below live answers (λ e. absurd cc))

  -- at CommitPoint
  pub point_act_so : (from : BranchId) → Came input from l.me kinds.CommitPoint → l.phase ≡ phases.Ready → Acting k input l true (commit_point_act (step l))
  point_act_so from came ready = At_point l from _ live came ready (commit_point_act_so l (step l) refl)
