-- SAVEPOINT and ROLLBACK TO go to the root of a session.
use Rattle.std.proofs.Common.{◌≡◌, ℕ, List, Option, None, Some, refl, sym, ap, subst, ◌∙◌}
use Rattle.tran_ids.specs.declared.branch.BranchId.{BranchId}
use Rattle.tran_ids.specs.Listed.{item_at}
use Rattle.node_rules.specs.Data.{Live}
use Rattle.node_rules.specs.Data.answers
use Rattle.node_rules.specs.Data.dones
use Rattle.node_rules.specs.declared.work.Work.{Work}
use Rattle.node_rules.specs.Words.{one}
use Rattle.node_rules.specs.Refusals.{dtx}
use Rattle.node_rules.specs.NodeState.{NodeState, Branch, live_id, with_work, branch_at, with_branch, nothing, ending}
use Rattle.node_rules.specs.Sessions.{session_at}
use Rattle.node_rules.specs.Marks.{savepoint_at, step_of}
use Rattle.node_rules.specs.Calls.{goes_back}
use Rattle.node_rules.specs.Client.{back_by, back_call, back_to_savepoint, did, marked, refuses, root_by, savepoint_by, savepoint_call}
use Rattle.node_state.specs.Works.{change_work, with_savepoint_at, work_of}
use Rattle.node_drafts.specs.declared.draft.TurnDraft.{TurnDraft}
use Rattle.node_drafts.specs.Gives.{GivesDraft}
use Rattle.node_calls.specs.Handled.{at_live, refuses_again}
use Rattle.node_calls.proofs.BranchLaws.{branch_here, put_back, somebody}

-- ---- SAVEPOINT

-- a session without a root, and one with a root, in what a node keeps once a transaction has begun
pub rootless_in : (k m : NodeState) (n : ℕ) (name : List ℕ) (draft : TurnDraft) → m ≡ k → (session_at m.sessions n).root ≡ None → GivesDraft (nothing m) m draft → GivesDraft (savepoint_call k n name) m draft
rootless_in k m n name draft is none does =
    subst (λ j. GivesDraft (savepoint_call j n name) m draft) is
    (subst (λ d. GivesDraft d m draft) (sym (ap (λ root. savepoint_by m n name (session_at m.sessions n).code (root_by m root)) none)) does)

pub rooted_in : (k m : NodeState) (n : ℕ) (name : List ℕ) (root : BranchId) (after : NodeState) (draft : TurnDraft) → m ≡ k → (session_at m.sessions n).root ≡ Some root
    → GivesDraft (savepoint_by m n name (session_at m.sessions n).code (branch_at m root)) after draft → GivesDraft (savepoint_call k n name) after draft
rooted_in k m n name root after draft is has does =
    subst (λ j. GivesDraft (savepoint_call j n name) after draft) is
    (subst (λ d. GivesDraft d after draft) (sym (ap (λ o. savepoint_by m n name (session_at m.sessions n).code (root_by m o)) has)) does)

-- a transaction that may go on
pub savepoint_so : (k : NodeState) (n : ℕ) (name : List ℕ) (code : Option ℕ) (root : BranchId) (after : NodeState) (draft : TurnDraft) → code ≡ None
    → GivesDraft (savepoint_by k n name None (branch_at k root)) after draft → GivesDraft (savepoint_by k n name code (branch_at k root)) after draft
savepoint_so k n name code root after draft none does = subst (λ c. GivesDraft (savepoint_by k n name c (branch_at k root)) after draft) (sym none) does

refused_is : (k : NodeState) (n code : ℕ) (name : List ℕ) (o : Option Branch) → refuses_again k n code o ≡ savepoint_by k n name (Some code) o
refused_is k n code name None = refl
refused_is k n code name (Some x) = refl

-- and one that can only be rolled back
pub savepoint_refused : (k : NodeState) (n : ℕ) (name : List ℕ) (code : Option ℕ) (answered : ℕ) (root : BranchId) (after : NodeState) (draft : TurnDraft) → code ≡ Some answered
    → GivesDraft (refuses_again k n answered (branch_at k root)) after draft → GivesDraft (savepoint_by k n name code (branch_at k root)) after draft
savepoint_refused k n name code answered root after draft is does =
    subst (λ d. GivesDraft d after draft) (refused_is k n answered name (branch_at k root) ∙ ap (λ c. savepoint_by k n name c (branch_at k root)) (sym is)) does

module _ (k : NodeState) (n : ℕ) (name : List ℕ) (root : BranchId) where
  pub nobody_marked : (draft : TurnDraft) → item_at live_id k.lives root ≡ None → GivesDraft (nothing k) k draft → GivesDraft (savepoint_by k n name None (branch_at k root)) k draft
  nobody_marked draft none does = subst (λ d. GivesDraft d k draft) (sym (ap (λ o. savepoint_by k n name None (with_work k o)) none)) does

  -- the root has its savepoint
  pub marked_so : (l : Live) (step : ℕ) (works : List Work) (draft : TurnDraft) → item_at live_id k.lives root ≡ Some l → step ≡ step_of k.sessions (branch_here k root l)
      → works ≡ change_work (with_savepoint_at name step) k.works root
      → GivesDraft (ending (record k { works = works }) n (answers.Did dones.SavepointMade 0)) (record k { works = works }) draft
      → GivesDraft (savepoint_by k n name None (branch_at k root)) (record k { works = works }) draft
  marked_so l step works draft is at is_works does =
      let x : Branch = branch_here k root l in
      let put : record k { works = works } ≡ with_branch k (marked k.sessions x name) =
      ap (λ ws. record k { works = ws }) (is_works ∙ ap (λ i. change_work (with_savepoint_at name i) k.works root) at)
      ∙ ap (λ ls. record k { lives = ls; works = change_work (with_savepoint_at name (step_of k.sessions x)) k.works root }) (sym (put_back live_id k.lives root l is)) in
      let rules : savepoint_by k n name None (branch_at k root) ≡ did (with_branch k (marked k.sessions x name)) n dones.SavepointMade =
      marked_is (branch_at k root) ∙ somebody k root l (λ y. did (with_branch k (marked k.sessions y name)) n dones.SavepointMade) is in
      subst (λ d. GivesDraft d (record k { works = works }) draft) (ap (λ j. did j n dones.SavepointMade) put ∙ sym rules) does
    where
      marked_is : (o : Option Branch) → savepoint_by k n name None o ≡ at_live k (λ y. did (with_branch k (marked k.sessions y name)) n dones.SavepointMade) o
      marked_is None = refl
      marked_is (Some y) = refl

-- ---- ROLLBACK TO

-- without a transaction
pub no_root : (k m : NodeState) (n : ℕ) (name : List ℕ) (draft : TurnDraft) → m ≡ k → (session_at m.sessions n).root ≡ None → GivesDraft (refuses m n (dtx 22 (one name))) m draft → GivesDraft (back_call k n name) m draft
no_root k m n name draft is none does =
    subst (λ j. GivesDraft (back_call j n name) m draft) is
    (subst (λ d. GivesDraft d m draft) (sym (ap (λ root. back_by m n name (session_at m.sessions n).code (root_by m root)) none)) does)

pub back_rooted : (k m : NodeState) (n : ℕ) (name : List ℕ) (root : BranchId) (after : NodeState) (draft : TurnDraft) → m ≡ k → (session_at m.sessions n).root ≡ Some root
    → GivesDraft (back_by m n name (session_at m.sessions n).code (branch_at m root)) after draft → GivesDraft (back_call k n name) after draft
back_rooted k m n name root after draft is has does =
    subst (λ j. GivesDraft (back_call j n name) after draft) is
    (subst (λ d. GivesDraft d after draft) (sym (ap (λ o. back_by m n name (session_at m.sessions n).code (root_by m o)) has)) does)

module _ (k : NodeState) (n : ℕ) (name : List ℕ) (root : BranchId) where
  pub back_nobody : (code : Option ℕ) (draft : TurnDraft) → item_at live_id k.lives root ≡ None → GivesDraft (refuses k n (dtx 22 (one name))) k draft → GivesDraft (back_by k n name code (branch_at k root)) k draft
  back_nobody code draft none does = subst (λ d. GivesDraft d k draft) (sym (ap (λ o. back_by k n name code (with_work k o)) none)) does

  -- a live root that may go on
  pub back_so : (l : Live) (code : Option ℕ) (after : NodeState) (draft : TurnDraft) → item_at live_id k.lives root ≡ Some l → code ≡ None
      → GivesDraft (at_live k (λ x. back_to_savepoint k n name x (savepoint_at x.work.marks name)) (branch_at k root)) after draft → GivesDraft (back_by k n name code (branch_at k root)) after draft
  back_so l code after draft is none does =
      subst (λ d. GivesDraft d after draft)
      (ap (λ o. at_live k (λ x. back_to_savepoint k n name x (savepoint_at x.work.marks name)) (with_work k o)) is
      ∙ sym (ap (λ o. back_by k n name code (with_work k o)) is ∙ ap (λ c. back_by k n name c (with_work k (Some l))) none)) does

  -- one that can only be rolled back
  pub back_refused : (l : Live) (code : Option ℕ) (answered : ℕ) (after : NodeState) (draft : TurnDraft) → item_at live_id k.lives root ≡ Some l → code ≡ Some answered
      → GivesDraft (refuses_again k n answered (branch_at k root)) after draft → GivesDraft (back_by k n name code (branch_at k root)) after draft
  back_refused l code answered after draft is has does =
      subst (λ d. GivesDraft d after draft)
      (ap (λ o. refuses_again k n answered (with_work k o)) is
      ∙ sym (ap (λ o. back_by k n name code (with_work k o)) is ∙ ap (λ c. back_by k n name c (with_work k (Some l))) has)) does

  -- with a savepoint of the name, and without one
  back_is : (l : Live) (at : Option ℕ) → item_at live_id k.lives root ≡ Some l → savepoint_at (work_of k.works root).marks name ≡ at
      → at_live k (λ x. back_to_savepoint k n name x (savepoint_at x.work.marks name)) (branch_at k root) ≡ back_to_savepoint k n name (branch_here k root l) at
  back_is l at is set = somebody k root l (λ x. back_to_savepoint k n name x (savepoint_at x.work.marks name)) is ∙ ap (back_to_savepoint k n name (branch_here k root l)) set

  pub goes_back_so : (l : Live) (step : ℕ) (after : NodeState) (draft : TurnDraft) → item_at live_id k.lives root ≡ Some l → savepoint_at (work_of k.works root).marks name ≡ Some step
      → GivesDraft (at_live k (λ x. goes_back k x step) (branch_at k root)) after draft
      → GivesDraft (at_live k (λ x. back_to_savepoint k n name x (savepoint_at x.work.marks name)) (branch_at k root)) after draft
  goes_back_so l step after draft is set does =
      subst (λ d. GivesDraft d after draft) (somebody k root l (λ x. goes_back k x step) is ∙ sym (back_is l (Some step) is set)) does

  pub no_savepoint_so : (l : Live) (draft : TurnDraft) → item_at live_id k.lives root ≡ Some l → savepoint_at (work_of k.works root).marks name ≡ None
      → GivesDraft (refuses k n (dtx 22 (one name))) k draft
      → GivesDraft (at_live k (λ x. back_to_savepoint k n name x (savepoint_at x.work.marks name)) (branch_at k root)) k draft
  no_savepoint_so l draft is none does = subst (λ d. GivesDraft d k draft) (sym (back_is l None is none)) does
