-- A branch goes back to a savepoint: what it did in later steps is undone where it stands, and then its children go back.
use Rattle.std.proofs.Common.{◌≡◌, ℕ, nat_lt, List, [], length, Option, None, Some, refl, sym, ap, subst, ◌∙◌}
use Rattle.tran_ids.specs.declared.branch.BranchId.{BranchId}
use Rattle.tran_ids.specs.Listed.{item_at, put_item}
use Rattle.tran_ids.proofs.ListedLemmas.{item_is, put_found}
use Rattle.session_tree.specs.Live.{peer_of}
use Rattle.node_rules.specs.Data.{Answer, Live}
use Rattle.node_rules.specs.Data.answers
use Rattle.node_rules.specs.Data.dones
use Rattle.node_rules.specs.declared.work.Errand.{Errand}
use Rattle.node_rules.specs.declared.work.Errand.TheVariants as errands
use Rattle.node_rules.specs.declared.work.Work.{Work}
use Rattle.node_rules.specs.NodeState.{NodeState, Branch, live_id, work_id, work_or, branch_at, with_branch}
use Rattle.node_rules.specs.Marks.{branch_back, next_back, node_back}
use Rattle.node_rules.specs.Calls.{answered_sessions, answer_ends, answer_says, backs_from, backs_to, call_pends, called, exec_to, goes_back, with_answer}
use Rattle.node_state.specs.Changed.{with_item}
use Rattle.node_state.specs.Lives.{with_changes}
use Rattle.node_state.specs.Works.{back_at, work_of}
use Rattle.row_locks.specs.Locks.{Lock}
use Rattle.row_locks.specs.Back.{gone_back}
use Rattle.node_drafts.specs.declared.draft.TurnDraft.{TurnDraft}
use Rattle.node_drafts.specs.Gives.{GivesDraft}
use Rattle.node_calls.specs.Handled.{at_live, changes_undone, undone_in, works_undone}
use Rattle.node_calls.proofs.BranchLaws.{branch_here, put_twice, somebody, work_branch}

-- ---- a branch that was put in its place before

module _ (k : NodeState) (ls : List Live) (ws : List Work) (y : Branch) (lives : put_item live_id ls y.live ≡ put_item live_id k.lives y.live)
    (works : (v : Work) → v.branch ≡ y.work.branch → put_item work_id ws v ≡ put_item work_id k.works v) where
  abbrev before : NodeState
  before = record k { lives = ls; works = ws }

  placed : (v : Work) → v.branch ≡ y.work.branch → with_branch before (record { live = y.live; work = v }) ≡ with_branch k (record { live = y.live; work = v })
  placed v mine =
      ap (λ xs. record k { lives = xs; works = put_item work_id ws v }) lives
      ∙ ap (λ xs. record k { lives = put_item live_id k.lives y.live; works = xs }) (works v mine)

  -- it is back, or its next child is called
  pub backs_placed : (step : ℕ) (next : Option ℕ) → backs_to before y step next ≡ backs_to k y step next
  backs_placed step None =
      let a : Answer = answers.Did dones.RolledBack 0 in
      ap (λ q. record { after = record q { sessions = answered_sessions k.sessions y.live y.live.parent }; wrote = None; says = answer_says y a y.live.parent; ended = answer_ends y.live a y.live.parent })
      (placed (with_answer y a).work refl)
  backs_placed step (Some i) =
      let e : Errand = errands.GoBack step in
      ap (λ q. record { after = record q { sessions = call_pends k.sessions y.live }; wrote = None; says = exec_to k.sessions y i e (peer_of y.live i); ended = [] })
      (placed (called k.sessions y i e).work refl)

-- ---- the calls of a branch that is back

work_found : (b : BranchId) (ws : List Work) (step : ℕ) (o : Option Work) → item_at work_id ws b ≡ o → work_of (with_item work_id (back_at step) ws o) b ≡ back_at step (work_or b o)
work_found b ws step None is = ap (work_or b) is
work_found b ws step (Some w) is =
    ap (work_or b) (subst (λ c. item_at work_id (put_item work_id ws (back_at step w)) c ≡ Some (back_at step w)) (item_is work_id ws b w is) (put_found work_id ws (back_at step w)))

work_put : (b : BranchId) (ws : List Work) (step : ℕ) (o : Option Work) → item_at work_id ws b ≡ o → (v : Work) → v.branch ≡ b
    → put_item work_id (with_item work_id (back_at step) ws o) v ≡ put_item work_id ws v
work_put b ws step None is v mine = refl
work_put b ws step (Some w) is v mine = put_twice work_id ws (back_at step w) v (item_is work_id ws b w is ∙ sym mine)

-- ---- the branch itself

module _ (k : NodeState) (l : Live) (step : ℕ) (is : item_at live_id k.lives l.me ≡ Some l) where
  abbrev here : Branch
  here = branch_here k l.me l

  abbrev back : Branch
  back = branch_back k here step

  abbrev calls : List Work
  calls = works_undone k l.me step

  abbrev locks_with : Work → List Lock
  locks_with w = gone_back k.locks l.me w.marks.notes (changes_undone k l.me step)

  -- the node with the branch in its place
  abbrev with_back : NodeState
  with_back = record (node_back k here step) { lives = put_item live_id k.lives back.live; works = calls }

  work_is : work_of calls l.me ≡ back.work
  work_is = work_found l.me k.works step (item_at work_id k.works l.me) refl

  undone_is : undone_in k l.me step ≡ with_back
  undone_is =
      ap (λ ls. record (node_back k here step) { lives = ls; works = calls; locks = locks_with (work_of calls l.me) })
      (ap (with_item live_id (with_changes (nat_lt 0 (length (changes_undone k l.me step)))) k.lives) is)
      ∙ ap (λ w. record with_back { locks = locks_with w }) work_is

  calls_put : (v : Work) → v.branch ≡ back.work.branch → put_item work_id calls v ≡ put_item work_id k.works v
  calls_put v mine = work_put l.me k.works step (item_at work_id k.works l.me) refl v (mine ∙ work_branch k.works l.me)

  back_me : at_live (undone_in k l.me step) (λ x. backs_from (undone_in k l.me step) x step 1) (branch_at (undone_in k l.me step) l.me) ≡ goes_back k here step
  back_me =
      ap (λ q. at_live q (λ x. backs_from q x step 1) (branch_at q l.me)) undone_is
      ∙ somebody with_back l.me back.live (λ x. backs_from with_back x step 1) (put_found live_id k.lives back.live)
      ∙ ap (λ w. backs_from with_back (record { live = back.live; work = w }) step 1) work_is
      ∙ backs_placed (node_back k here step) (put_item live_id k.lives back.live) calls back (put_twice live_id k.lives back.live back.live refl) calls_put step (next_back back.work step 1)

module _ (k : NodeState) (b : BranchId) (l : Live) (step : ℕ) (is : item_at live_id k.lives b ≡ Some l) where
  me : l.me ≡ b
  me = item_is live_id k.lives b l is

  pub back_so : (m after : NodeState) (draft : TurnDraft) → m ≡ undone_in k b step → GivesDraft (at_live m (λ x. backs_from m x step 1) (branch_at m b)) after draft
      → GivesDraft (at_live k (λ x. goes_back k x step) (branch_at k b)) after draft
  back_so m after draft undone does =
      let mine : item_at live_id k.lives l.me ≡ Some l = subst (λ c. item_at live_id k.lives c ≡ Some l) (sym me) is in
      let there : at_live (undone_in k b step) (λ x. backs_from (undone_in k b step) x step 1) (branch_at (undone_in k b step) b) ≡ goes_back k (branch_here k b l) step =
      subst (λ c. at_live (undone_in k c step) (λ x. backs_from (undone_in k c step) x step 1) (branch_at (undone_in k c step) c) ≡ goes_back k (branch_here k c l) step) me (back_me k l step mine) in
      subst (λ d. GivesDraft d after draft)
      (ap (λ q. at_live q (λ x. backs_from q x step 1) (branch_at q b)) undone ∙ there ∙ sym (somebody k b l (λ x. goes_back k x step) is))
      does

  -- its children
  pub children_so : (i : ℕ) (next : Option ℕ) (after : NodeState) (draft : TurnDraft) → next ≡ next_back (work_of k.works b) step i
      → GivesDraft (at_live k (λ x. backs_to k x step next) (branch_at k b)) after draft → GivesDraft (at_live k (λ x. backs_from k x step i) (branch_at k b)) after draft
  children_so i next after draft at does =
      subst (λ d. GivesDraft d after draft)
      (somebody k b l (λ x. backs_to k x step next) is ∙ ap (backs_to k (branch_here k b l) step) at ∙ sym (somebody k b l (λ x. backs_from k x step i) is))
      does
