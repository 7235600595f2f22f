-- Each turn of a node leaves it so that a session without a pending call has a live root, where it has a transaction, and that the live root of a
-- session whose COMMIT is pending is not working.
use Rattle.std.proofs.Common.{◌≡◌, ◌≢◌, ℕ, ◌+◌, ◌≤◌, Bool, true, false, if◌then◌else◌, List, [], is_none, length, unwrap_or, Option, Some, None, inl, inr, refl, sym, ap, subst, ◌∙◌, arith}
use Rattle.tran_ids.proofs.ListedLemmas.{item_is}
use Rattle.commit_forget.specs.declared.next.Next.TheVariants as nexts
use Rattle.node_rules.specs.Data.{Stmt, Answer, BranchId, Decision, Kind, Live, Act, Place, Input, Task}
use Rattle.node_rules.specs.Data.acts
use Rattle.node_rules.specs.Data.decisions
use Rattle.node_rules.specs.Data.inputs
use Rattle.node_rules.specs.Data.kinds
use Rattle.node_rules.specs.Data.phases
use Rattle.node_rules.specs.Data.stmts
use Rattle.node_rules.specs.declared.session.PendingCall.TheVariants as pending
use Rattle.node_rules.specs.declared.session.Session.{Session}
use Rattle.node_rules.specs.Words.{put_item, drop_item, numbered, set_numbered}
use Rattle.node_rules.specs.Inputs.{Came, IsCall}
use Rattle.node_rules.specs.Refusals.{dtx}
use Rattle.session_tree.specs.Live.{new_edge, fresh_live}
use Rattle.node_rules.specs.NodeState.{NodeState, Branch, TurnDraft, live_id, live_at, branch_at}
use Rattle.node_rules.specs.Statement.{ran, after_run}
use Rattle.node_rules.specs.Sessions.{fresh_session, session_at, with_call, needs_rollback, no_transaction, commit_ended}
use Rattle.node_rules.specs.Calls.{answered_sessions, heard_sessions, next_child, strength_of, with_edge, hears_reply, backs_to}
use Rattle.node_rules.specs.Client.{new_root, fresh_root, begun_by, commit_by, commit_call, root_at, commit_at, counted}
use Rattle.node_rules.specs.Commit.{decided_sessions}
use Rattle.node_rules.specs.Prepare.{act_turn, collecting, with_comment, first_act, ready, is_alone, abandoned_sessions, without_read_keys}
use Rattle.node_rules.specs.Turn.{heard, draft_of}
use Rattle.node_rules.specs.LiveBranches.{works_of}
use Rattle.node_rules.proofs.Steps as steps
use Rattle.node_rules.proofs.Steps.{HasRoot, Step, Asked, Acting, Collects, Drops, Calls_back, Goes_to}
use Rattle.node_rules.proofs.StandLemmas.{RootSo, live_so, root_so}
use Rattle.node_rules.proofs.StepLemmas.{branch_found}
use Rattle.run_rules.proofs.AtNodeLemmas.{range_of}
use Rattle.run_base_laws.proofs.RootLemmas.{SessionsFit, session_or_before, root_alone, begun_so, counted_so, counted_session}
use Rattle.run_base_laws.proofs.RestLemmas.{NodeRoots, Works, live_root, free_waits, going_works}
use Rattle.run_base_laws.proofs.RestStepLemmas.{going_of, commit_or_not}
use Rattle.run_base_laws.proofs.RestRunLemmas.{NodeRests, heard_rests}
use Rattle.tree_trail_laws.proofs.TopNodeLemmas.{RootGoes, ButOf, same_goes, put_goes, gone_goes, more_goes, session_put, all_alike, set_but, none_but, alike_set, ended_alike, ended_but, heard_alike}
use Rattle.book_laws.proofs.WriteLemmas.{none_there as none_is}
use Rattle.node_rules.specs.Data.tasks
use Rattle.node_rules.specs.Marks.{next_back, node_back, branch_back}

-- a message is no call
pub no_call : {input : Input} {from to : BranchId} {kind : Kind} → Came input from to kind → (n : ℕ) (s : Stmt) → IsCall input n s → ⊥
no_call came n s call = let is = came.is in absurd (cc (is, call))

-- What is known of what comes: a call comes where none is pending, and a call, Prepare and Rollback go to branches below others.
pub record Brings (input : Input) (k : NodeState) : Type 0 where
  pub free : (n : ℕ) (s : Stmt) → IsCall input n s → (session_at k.sessions n).call ≡ pending.NoCall
  pub asked : (from to : BranchId) (call : ℕ) (task : Task) → Came input from to (kinds.Exec call task) → (l : Live) → live_at k to ≡ Some l → l.parent ≢ None
  pub prepared : (from to : BranchId) (site_below : Bool) (comment : List ℕ) → Came input from to (kinds.Prepare site_below comment) → (l : Live) → live_at k to ≡ Some l → l.parent ≢ None
  pub rolled : (from to : BranchId) → Came input from to kinds.Rollback → (l : Live) → live_at k to ≡ Some l → l.parent ≢ None

-- one that acts is not working
acting_busy : {k : NodeState} {input : Input} {l : Live} {q : Bool} {a : Act} → Acting k input l q a → l.phase ≢ phases.Working
acting_busy (steps.Asks_down l comment q e es found begins has) = λ working. absurd cc
acting_busy (steps.Has_no_children l comment q a found begins none collected) = λ working. absurd cc
acting_busy (steps.Hears_abort l from q found answers) = λ working. (let busy = answers.collecting in absurd (cc (working, busy)))
acting_busy (steps.Waits_on l from v q found answers other some) = λ working. (let busy = answers.collecting in absurd (cc (working, busy)))
acting_busy (steps.Hears_last l from v q a found answers other all collected) = λ working. (let busy = answers.collecting in absurd (cc (working, busy)))
acting_busy (steps.At_point l from a found came is pointed) = λ working. absurd (cc (working, is))

-- an act of a branch that is not working, and is the transaction of no session at rest
module _ (ss : List Session) (k : NodeState) (l : Live) (other : l.phase ≢ phases.Working) (now : RootGoes ss k.lives) (but : ButOf l.me ss k.sessions)
    (held : (m : ℕ) → (session_at k.sessions m).root ≡ Some l.me → (session_at k.sessions m).call ≡ pending.NoCall → ⊥) where
  -- its COMMIT ends
  ended_goes : RootGoes (commit_ended k.sessions l.me) (drop_item live_id k.lives l.me)
  ended_goes =
      gone_goes ss k.lives now l.me (commit_ended k.sessions l.me)
      (λ m. elim (ended_alike k.sessions l.me m) [
        | inr none ↦ inr (inl none)
        | inl alike ↦ elim (but m) [
          | inl was ↦ inl (alike.0 ∙ was.0, alike.1 ∙ was.1)
          | inr more ↦ elim more [ inl none ↦ inr (inl (alike.0 ∙ none)) | inr its ↦ inr (inr (alike.0 ∙ its)) ]
        ]
      ])
      (λ m root free. elim (ended_alike k.sessions l.me m) [ inl alike ↦ held m (sym alike.0 ∙ root) (sym alike.1 ∙ free) | inr none ↦ absurd (cc (root, none)) ])

  abandoned_goes : (o : Option BranchId) → RootGoes (abandoned_sessions k.sessions l o) (drop_item live_id k.lives l.me)
  abandoned_goes None = ended_goes
  abandoned_goes (Some q) = gone_goes ss k.lives now l.me k.sessions but held

  decided_goes : (alone : Bool) → RootGoes (if alone then commit_ended k.sessions l.me else k.sessions) (drop_item live_id k.lives l.me)
  decided_goes true = ended_goes
  decided_goes false = gone_goes ss k.lives now l.me k.sessions but held

  acts_goes : (q : Bool) (a : Act) → RootGoes (act_turn k l q a).after.sessions (act_turn k l q a).after.lives
  acts_goes q acts.Rest = put_goes ss k.lives now l k.sessions but (λ m root commits. other)
  acts_goes q acts.AskDown = put_goes ss k.lives now l k.sessions but (λ m root commits. other)
  acts_goes q acts.SayReady = put_goes ss k.lives now (ready l) k.sessions but (λ m root commits working. absurd cc)
  acts_goes q acts.Decide = decided_goes (is_alone l)
  acts_goes q acts.Finish = ended_goes
  acts_goes q acts.Abandon = abandoned_goes l.parent
  acts_goes q _ = gone_goes ss k.lives now l.me k.sessions but held

-- ---- a root's own call

module _ (ss : List Session) (ls : List Live) (now : RootGoes ss ls) (y : Live) (root : y.parent ≡ None → (session_at ss y.me.session).root ≡ Some y.me)
    (free : (m : ℕ) → (session_at ss m).root ≡ Some y.me → (session_at ss m).call ≡ pending.Commit → ⊥) where
  -- it ends
  answered_goes : (o : Option BranchId) → y.parent ≡ o → RootGoes (answered_sessions ss y o) (put_item live_id ls y)
  answered_goes (Some q) above = put_goes ss ls now y ss (all_alike ss y.me) (λ m its commits. absurd (free m its commits))
  answered_goes None top =
      let s : Session = record (session_at ss y.me.session) { call = pending.NoCall } in
      put_goes ss ls now y (set_numbered ss y.me.session s) (set_but ss y.me y.me.session s (root top))
      (λ m its commits. elim (session_or_before ss y.me.session m s) [
        | inl still ↦ absurd (free m (sym (ap (λ (x : Session). x.root) still) ∙ its) (sym (ap (λ (x : Session). x.call) still) ∙ commits))
        | inr new ↦ (let no : (session_at (set_numbered ss y.me.session s) m).call ≡ pending.NoCall = ap (λ (x : Session). x.call) new.1 in absurd (cc (no, commits)))
      ])

  -- it is pending
  pends_goes : (q : Bool) → is_none y.parent ≡ q → RootGoes (if q then with_call ss y.me.session pending.Statement else ss) (put_item live_id ls y)
  pends_goes false is = put_goes ss ls now y ss (all_alike ss y.me) (λ m its commits. absurd (free m its commits))
  pends_goes true is =
      let s : Session = record (session_at ss y.me.session) { call = pending.Statement } in
      put_goes ss ls now y (set_numbered ss y.me.session s) (set_but ss y.me y.me.session s (root (none_is y.parent is)))
      (λ m its commits. elim (session_or_before ss y.me.session m s) [
        | inl still ↦ absurd (free m (sym (ap (λ (x : Session). x.root) still) ∙ its) (sym (ap (λ (x : Session). x.call) still) ∙ commits))
        | inr new ↦ (let no : (session_at (set_numbered ss y.me.session s) m).call ≡ pending.Statement = ap (λ (x : Session). x.call) new.1 in absurd (cc (no, commits)))
      ])

-- ---- steps

module _ (k : NodeState) (fit : SessionsFit k) (now : RootGoes k.sessions k.lives) where
  -- the sessions of a branch are one
  one_session : (m n : ℕ) (b : BranchId) → HasRoot k m b → HasRoot k n b → m ≡ n
  one_session m n b one two = sym (fit.roots.each m b one) ∙ fit.roots.each n b two

  -- a session with a transaction is one of the 64
  low : (m : ℕ) (b : BranchId) → HasRoot k m b → m ≤ 64
  low m b has = by (numbered k.sessions m) refl has
    where
      by : (o : Option Session) → numbered k.sessions m ≡ o → (unwrap_or o fresh_session).root ≡ Some b → m ≤ 64
      by None at none = absurd cc
      by (Some s) at some = (let range = range_of k.sessions m s at in omega (arith, range.1, fit.roots.many))

  -- a root ends at once
  left_goes : (n : ℕ) (b : BranchId) → HasRoot k n b → RootGoes (set_numbered k.sessions n (no_transaction (session_at k.sessions n))) (drop_item live_id k.lives b)
  left_goes n b has =
      let s : Session = no_transaction (session_at k.sessions n) in
      let ts : List Session = set_numbered k.sessions n s in
      gone_goes k.sessions k.lives now b ts (none_but k.sessions b n s refl)
      (λ m its free. elim (session_or_before k.sessions n m s) [
        | inl still ↦ (let here : n ≡ m = one_session n m b has (sym (ap (λ (x : Session). x.root) still) ∙ its) in
            let none : (session_at ts m).root ≡ None = subst (λ i. (session_at ts i).root ≡ None) here (ap (λ (x : Session). x.root) (session_put k.sessions n b s has)) in
            absurd (cc (none, its)))
        | inr new ↦ (let none : (session_at ts m).root ≡ None = ap (λ (x : Session). x.root) new.1 in absurd (cc (none, its)))
      ])

  module _ (input : Input) (brings : Brings input k) (roots : ((n : ℕ) (s : Stmt) → IsCall input n s → ⊥) → NodeRoots k) (quits : (n : ℕ) (c : Option (List ℕ)) → IsCall input n (stmts.Commit c) → ⊥) where
    -- the transaction of a session that waits for no answer is working
    at_rest : {from to : BranchId} {kind : Kind} → Came input from to kind → (m : ℕ) (l : Live) → HasRoot k m l.me → live_at k l.me ≡ Some l → (session_at k.sessions m).call ≡ pending.NoCall → l.phase ≡ phases.Working
    at_rest came m l has found free =
        let none : l.parent ≡ None = root_alone k fit m l.me has l found in
        let session : l.me.session ≡ m = fit.roots.each m l.me has in
        (free_waits (session_at k.sessions l.me.session).call l.phase (works_of k.works l.me).going (live_root k (roots (λ n s call. no_call came n s call)) l.me l found none).waits
        (subst (λ i. (session_at k.sessions i).call ≡ pending.NoCall) (sym session) free)).0

    collects_held : {comment : List ℕ} {q : Bool} (l : Live) → live_at k l.me ≡ Some l → Collects k input l comment q → (m : ℕ) → HasRoot k m l.me → ⊥
    collects_held l found (steps.By_commit n given call has code writer is) m root = quits n given call
    collects_held {comment = comment} l found (steps.By_prepare from q came working) m root = brings.prepared from l.me q comment came l found (root_alone k fit m l.me root l found)

    -- a branch that acts is no transaction at rest
    acting_held : {l : Live} {q : Bool} {a : Act} → Acting k input l q a → (m : ℕ) → HasRoot k m l.me → (session_at k.sessions m).call ≡ pending.NoCall → ⊥
    acting_held (steps.Asks_down l comment q e es found begins has) m root free = collects_held l found begins m root
    acting_held (steps.Has_no_children l comment q a found begins none collected) m root free = collects_held l found begins m root
    acting_held (steps.Hears_abort l from q found answers) m root free = (let working : l.phase ≡ phases.Working = at_rest answers.came m l root found free in let busy = answers.collecting in absurd (cc (working, busy)))
    acting_held (steps.Waits_on l from v q found answers other some) m root free = (let working : l.phase ≡ phases.Working = at_rest answers.came m l root found free in let busy = answers.collecting in absurd (cc (working, busy)))
    acting_held (steps.Hears_last l from v q a found answers other all collected) m root free = (let working : l.phase ≡ phases.Working = at_rest answers.came m l root found free in let busy = answers.collecting in absurd (cc (working, busy)))
    acting_held (steps.At_point l from a found came is pointed) m root free = (let working : l.phase ≡ phases.Working = at_rest came m l root found free in absurd (cc (working, is)))

    -- the branch of a statement: a root is its session's, and no COMMIT of it is pending
    abbrev IsFree : Live → Type 0
    IsFree y = (y.parent ≡ None → (session_at k.sessions y.me.session).root ≡ Some y.me) × ((m : ℕ) → HasRoot k m y.me → (session_at k.sessions m).call ≡ pending.Commit → ⊥)

    asked_free : {x : Branch} {s : Stmt} {given : ℕ} → Asked k input x s given → IsFree x.live
    asked_free (steps.By_call n x s call rows has code live may) = (
      (λ top. subst (λ i. (session_at k.sessions i).root ≡ Some x.live.me) (sym (fit.roots.each n x.live.me has)) has),
      (λ m root commits. (let is_free : (session_at k.sessions m).call ≡ pending.NoCall = subst (λ i. (session_at k.sessions i).call ≡ pending.NoCall) (one_session n m x.live.me has root) (brings.free n s call) in absurd (cc (is_free, commits)))),
    )
    asked_free (steps.By_exec x from call given advice s came live runs) =
        let below : x.live.parent ≢ None = brings.asked from x.live.me call (tasks.Run given advice s) came x.live (live_so k x.live.me x live) in
        ((λ top. absurd (below top)), (λ m root commits. below (root_alone k fit m x.live.me root x.live (live_so k x.live.me x live))))

    works_free : (x : Branch) → branch_at k x.live.me ≡ Some x → Works k.sessions x → IsFree x.live
    works_free x live works = (works.root, (λ m root commits. (now m x.live.me root).1 commits x.live (live_so k x.live.me x live) (works.working (root_alone k fit m x.live.me root x.live (live_so k x.live.me x live)))))

    drops_held : (l : Live) → live_at k l.me ≡ Some l → Drops input l → (m : ℕ) → HasRoot k m l.me → ⊥
    drops_held l found (steps.By_rollback from came) m root = brings.rolled from l.me came l found (root_alone k fit m l.me root l found)
    drops_held l found (steps.By_parent from came above) m root = (let up : l.parent ≡ Some from = branch_found from l.parent above in let none : l.parent ≡ None = root_alone k fit m l.me root l found in absurd (cc (up, none)))

    ended : (b : BranchId) → RootGoes (commit_ended k.sessions b) k.lives
    ended b = same_goes k.sessions k.lives now (commit_ended k.sessions b) (ended_alike k.sessions b)

    learned : (b : BranchId) (d : Decision) → RootGoes (decided_sessions k.sessions b d) k.lives
    learned b (decisions.Commit n) = now
    learned b decisions.Rollback = ended b

    replied : (x : Branch) (a : Answer) (y : Live) → y.me ≡ x.live.me → y.parent ≡ x.live.parent → IsFree x.live → RootGoes (answered_sessions (heard_sessions k.sessions y a) y x.live.parent) (put_item live_id k.lives y)
    replied x a y me parent its =
        let ss : List Session = heard_sessions k.sessions y a in
        answered_goes ss k.lives (same_goes k.sessions k.lives now ss (λ m. inl (heard_alike k.sessions y a m))) y
        (λ top. (heard_alike k.sessions y a y.me.session).0 ∙ subst (λ c. (session_at k.sessions c.session).root ≡ Some c) (sym me) (its.0 (sym parent ∙ top)))
        (λ m root commits. its.1 m (subst (λ c. HasRoot k m c) me (sym (heard_alike k.sessions y a m).0 ∙ root)) (sym (heard_alike k.sessions y a m).1 ∙ commits)) x.live.parent parent

    given_up : (n : ℕ) (x : Branch) → HasRoot k n x.live.me → (session_at k.sessions n).call ≡ pending.Statement → RootGoes (needs_rollback (with_call k.sessions n pending.NoCall) n (dtx 3 []).code) (put_item live_id k.lives x.live)
    given_up n x has calls =
        let s : Session = record (session_at k.sessions n) { call = pending.NoCall } in
        let ss : List Session = with_call k.sessions n pending.NoCall in
        let t : Session = record (session_at ss n) { code = Some (dtx 3 []).code } in
        same_goes ss (put_item live_id k.lives x.live)
        (put_goes k.sessions k.lives now x.live ss (set_but k.sessions x.live.me n s has)
        (λ m its commits. elim (session_or_before k.sessions n m s) [
          | inl still ↦ (let pends : (session_at k.sessions m).call ≡ pending.Statement = subst (λ i. (session_at k.sessions i).call ≡ pending.Statement) (one_session n m x.live.me has (sym (ap (λ (x : Session). x.root) still) ∙ its)) calls in
              let was : (session_at k.sessions m).call ≡ pending.Commit = sym (ap (λ (x : Session). x.call) still) ∙ commits in absurd (cc (pends, was)))
          | inr new ↦ (let no : (session_at ss m).call ≡ pending.NoCall = ap (λ (x : Session). x.call) new.1 in absurd (cc (no, commits)))
        ])) (set_numbered ss n t) (λ m. inl (alike_set ss n t (refl, refl) m))

    commit_given_up : (n : ℕ) (b : BranchId) → HasRoot k n b → (session_at k.sessions n).call ≡ pending.Commit → RootGoes (commit_ended k.sessions b) (drop_item live_id k.lives b)
    commit_given_up n b has calls =
        gone_goes k.sessions k.lives now b (commit_ended k.sessions b) (ended_but k.sessions b b)
        (λ m its free. elim (ended_alike k.sessions b m) [
          | inr none ↦ absurd (cc (none, its))
          | inl alike ↦ (let here : n ≡ m = one_session n m b has (sym alike.0 ∙ its) in
              let commits : (session_at k.sessions m).call ≡ pending.Commit = subst (λ i. (session_at k.sessions i).call ≡ pending.Commit) here calls in
              let is_free : (session_at k.sessions m).call ≡ pending.NoCall = sym alike.1 ∙ free in
              absurd (cc (commits, is_free)))
        ])

-- a branch that goes back is a root of its session, of which no COMMIT is pending, or below another
gone_free : {input : Input} (k : NodeState) (fit : SessionsFit k) → Brings input k → RootGoes k.sessions k.lives → {x : Branch} {step : ℕ} → Goes_to k input x step
    → (x.live.parent ≡ None → (session_at k.sessions x.live.me.session).root ≡ Some x.live.me) × ((m : ℕ) → HasRoot k m x.live.me → (session_at k.sessions m).call ≡ pending.Commit → ⊥)
gone_free k fit brings now (steps.By_rollback_to n x name step call has code live set) = (
  (λ top. subst (λ i. (session_at k.sessions i).root ≡ Some x.live.me) (sym (fit.roots.each n x.live.me has)) has),
  (λ m root commits. (let is_free : (session_at k.sessions m).call ≡ pending.NoCall = subst (λ i. (session_at k.sessions i).call ≡ pending.NoCall) (one_session k fit now n m x.live.me has root) (brings.free n (stmts.RollbackTo name) call) in absurd (cc (is_free, commits)))),
)
gone_free k fit brings now (steps.By_back x from call keep came live runs) =
    let below : x.live.parent ≢ None = brings.asked from x.live.me call (tasks.GoBack keep) came x.live (live_so k x.live.me x live) in
    ((λ top. absurd (below top)), (λ m root commits. below (root_alone k fit m x.live.me root x.live (live_so k x.live.me x live))))

begun_goes : (k : NodeState) (p : Place) (n : ℕ) (read_at : Option ℕ) (fit : SessionsFit k) → RootGoes k.sessions k.lives → (session_at k.sessions n).root ≡ None → (session_at k.sessions n).call ≡ pending.NoCall
    → RootGoes (begun_by p k n read_at None).sessions (begun_by p k n read_at None).lives
begun_goes k p n read_at fit now none free =
    let b : BranchId = new_root p k n in
    let s : Session = record (session_at k.sessions n) { seq = b.seq; root = Some b; calls = 0 } in
    more_goes k.sessions k.lives now (fresh_root p k b read_at) (set_numbered k.sessions n s) (set_but k.sessions b n s refl)
    (λ m its commits. elim (session_or_before k.sessions n m s) [
      | inl still ↦ (let has : (session_at k.sessions m).root ≡ Some b = sym (ap (λ (x : Session). x.root) still) ∙ its in
          let here : n ≡ m = fit.roots.each m b has in
          let no : (session_at k.sessions m).root ≡ None = subst (λ i. (session_at k.sessions i).root ≡ None) here none in
          absurd (cc (has, no)))
      | inr new ↦ (let no : (session_at (set_numbered k.sessions n s) m).call ≡ pending.NoCall = ap (λ (x : Session). x.call) new.1 ∙ free in absurd (cc (no, commits)))
    ])

begun_brings : (input : Input) (k : NodeState) (p : Place) (n : ℕ) (read_at : Option ℕ) (s : Stmt) → IsCall input n s → Brings input k → Brings input (begun_by p k n read_at None)
begun_brings input k p n read_at s call brings = record {
  free = λ m x is. elim (session_or_before k.sessions n m (record (session_at k.sessions n) { seq = (new_root p k n).seq; root = Some (new_root p k n); calls = 0 })) [
    | inl still ↦ ap (λ (y : Session). y.call) still ∙ brings.free m x is
    | inr new ↦ ap (λ (y : Session). y.call) new.1 ∙ brings.free n s call
  ];
  asked = λ from to c task came. absurd (no_call came n s call);
  prepared = λ from to site_below comment came. absurd (no_call came n s call);
  rolled = λ from to came. absurd (no_call came n s call);
}

-- a call is counted
counted_brings : (input : Input) (k : NodeState) (n : ℕ) → Brings input k → Brings input (counted k n)
counted_brings input k n brings = record {
  free = λ m x is. ap (λ (y : Session). y.call) (counted_session k.sessions n m (session_at k.sessions n).root).1 ∙ brings.free m x is;
  asked = brings.asked;
  prepared = brings.prepared;
  rolled = brings.rolled;
}

counted_goes : (k : NodeState) (n : ℕ) → RootGoes k.sessions k.lives → RootGoes (counted k n).sessions (counted k n).lives
counted_goes k n now =
    same_goes k.sessions k.lives now (counted k n).sessions (λ m. (let at = counted_session k.sessions n m (session_at k.sessions n).root in inl (ap (λ (s : Session). s.root) at.1, ap (λ (s : Session). s.call) at.1)))

module _ (p : Place) (input : Input) (quits : (n : ℕ) (c : Option (List ℕ)) → IsCall input n (stmts.Commit c) → ⊥) where
  -- a branch goes back, whichever child it calls first
  went_goes : (k : NodeState) (fit : SessionsFit k) (brings : Brings input k) (roots : ((n : ℕ) (s : Stmt) → IsCall input n s → ⊥) → NodeRoots k) (now : RootGoes k.sessions k.lives) (x : Branch) (step : ℕ) → Goes_to k input x step → (next : Option ℕ)
      → RootGoes (backs_to (node_back k x step) (branch_back k x step) step next).after.sessions (backs_to (node_back k x step) (branch_back k x step) step next).after.lives
  went_goes k fit brings roots now x step goes None = (let its = gone_free k fit brings now goes in answered_goes k.sessions k.lives now (branch_back k x step).live its.0 its.1 x.live.parent refl)
  went_goes k fit brings roots now x step goes (Some i) = (let its = gone_free k fit brings now goes in pends_goes k.sessions k.lives now (branch_back k x step).live its.0 its.1 (is_none x.live.parent) refl)

  -- a branch whose children are to go back
  calling_free : (k : NodeState) (fit : SessionsFit k) → Brings input k → (((n : ℕ) (s : Stmt) → IsCall input n s → ⊥) → NodeRoots k) → RootGoes k.sessions k.lives → {x : Branch} {step from : ℕ} → Calls_back k input x step from
      → (x.live.parent ≡ None → (session_at k.sessions x.live.me.session).root ≡ Some x.live.me) × ((m : ℕ) → HasRoot k m x.live.me → (session_at k.sessions m).call ≡ pending.Commit → ⊥)
  calling_free k fit brings roots now (steps.Has_gone j x step goes is) =
      let fits : SessionsFit (node_back j x step) = subst SessionsFit is fit in
      let brought : Brings input (node_back j x step) = subst (Brings input) is brings in
      let goes_so : RootGoes j.sessions j.lives = subst (λ (i : NodeState). RootGoes i.sessions i.lives) is now in
      subst (λ (i : NodeState). (x.live.parent ≡ None → (session_at i.sessions x.live.me.session).root ≡ Some x.live.me) × ((m : ℕ) → HasRoot i m x.live.me → (session_at i.sessions m).call ≡ pending.Commit → ⊥)) (sym is)
      (gone_free j (record { roots = fits.roots; above = fits.above }) (record { free = brought.free; asked = brought.asked; prepared = brought.prepared; rolled = brought.rolled }) goes_so goes)
  calling_free k fit brings roots now (steps.Has_heard x weight count a i e g step answered going errand done) =
      works_free k fit now input brings roots quits x answered.live (going_works k (roots (λ n s call. no_call answered.came n s call)) x g answered.live going)

  pub goes_on : {k : NodeState} {d : TurnDraft} → Step p input k d → SessionsFit k → Brings input k → (((n : ℕ) (s : Stmt) → IsCall input n s → ⊥) → NodeRoots k) → RootGoes k.sessions k.lives → RootGoes d.after.sessions d.after.lives
  goes_on (steps.Begins {k = k} n s read_at call begins range none step) fit brings roots now =
      goes_on step (begun_so k fit p n read_at) (begun_brings input k p n read_at s call brings) (λ no. absurd (no n s call)) (begun_goes k p n read_at fit now none (brings.free n s call))
  goes_on (steps.Counts_call {k = k} n s call counts step) fit brings roots now = goes_on step (counted_so k fit n) (counted_brings input k n brings) (λ no. absurd (no n s call)) (counted_goes k n now)
  goes_on (steps.Goes_back {k = k} x step goes next) fit brings roots now =
      went_goes k fit brings roots now x step goes (next_back (branch_back k x step).work step 1)
  goes_on (steps.Pends {k = k} n l given call has found code writer step) fit brings roots now = absurd (quits n given call)
  goes_on (steps.Lets_reads_go l comment q found begins step) fit brings roots now =
      goes_on step (record { roots = fit.roots; above = fit.above }) (record { free = brings.free; asked = brings.asked; prepared = brings.prepared; rolled = brings.rolled }) roots now
  goes_on (steps.Counts_ack s from kept came counts step) fit brings roots now =
      goes_on step (record { roots = fit.roots; above = fit.above }) (record { free = brings.free; asked = brings.asked; prepared = brings.prepared; rolled = brings.rolled }) roots now
  goes_on (steps.Runs {k = k} x s given t ask way) fit brings roots now =
      let l : Live = after_run x.live (ran p k x.live.me s t) in
      let its = asked_free k fit now input brings roots quits ask in
      answered_goes k.sessions k.lives now l its.0 its.1 x.live.parent refl
  goes_on (steps.Goes_nowhere {k = k} x s given r ask way) fit brings roots now = (let its = asked_free k fit now input brings roots quits ask in answered_goes k.sessions k.lives now x.live its.0 its.1 x.live.parent refl)
  goes_on (steps.Calls {k = k} x s given i table ask way) fit brings roots now = (let its = asked_free k fit now input brings roots quits ask in pends_goes k.sessions k.lives now x.live its.0 its.1 (is_none x.live.parent) refl)
  goes_on (steps.Opens {k = k} x s given node link table ask way) fit brings roots now = (let its = asked_free k fit now input brings roots quits ask in pends_goes k.sessions k.lives now x.live its.0 its.1 (is_none x.live.parent) refl)
  goes_on (steps.Goes_on {k = k} x from strength g link opened) fit brings roots now =
      let l : Live = (with_edge x (new_edge from link strength)).live in
      let its = works_free k fit now input brings roots quits x opened.live (going_works k (roots (λ n s call. no_call opened.came n s call)) x g opened.live opened.going) in
      pends_goes k.sessions k.lives now l its.0 its.1 (is_none x.live.parent) refl
  goes_on (steps.Hears_reply {k = k} x weight count a i e answered) fit brings roots now =
      let g = going_of x answered.from answered.call i e answered.waits in
      let its = works_free k fit now input brings roots quits x answered.live (going_works k (roots (λ n s call. no_call answered.came n s call)) x g.0 answered.live g.1) in
      replied k fit now input brings roots quits x a (hears_reply x i weight count e).live refl refl its
  goes_on (steps.Backs {k = k} x step from i calls next) fit brings roots now = (let its = calling_free k fit brings roots now calls in pends_goes k.sessions k.lives now x.live its.0 its.1 (is_none x.live.parent) refl)
  goes_on (steps.Is_back {k = k} x step from calls none) fit brings roots now = (let its = calling_free k fit brings roots now calls in answered_goes k.sessions k.lives now x.live its.0 its.1 x.live.parent refl)
  goes_on (steps.Opens_branch {k = k} to parent edge root depth read_at came new) fit brings roots now =
      more_goes k.sessions k.lives now (fresh_live (next_child p k) root (Some parent) depth (strength_of p k) read_at) k.sessions (all_alike k.sessions (next_child p k))
      (λ m its commits. (let small : m ≤ 64 = low k fit now m (next_child p k) its in let is : 65 + length k.opens ≡ m = fit.roots.each m (next_child p k) its in omega (arith, small, is)))
  goes_on (steps.Acts {k = k} l q a why) fit brings roots now = acts_goes k.sessions k l (acting_busy why) now (all_alike k.sessions l.me) (acting_held k fit now input brings roots quits why) q a
  goes_on (steps.Drops_told {k = k} l found drops) fit brings roots now = gone_goes k.sessions k.lives now l.me k.sessions (all_alike k.sessions l.me) (λ m root free. drops_held k fit now input brings roots quits l found drops m root)
  goes_on (steps.Drops_asked {k = k} l from found came parent) fit brings roots now =
      gone_goes k.sessions k.lives now l.me k.sessions (all_alike k.sessions l.me)
      (λ m root free. (let up : l.parent ≡ Some from = branch_found from l.parent parent in let none : l.parent ≡ None = root_alone k fit m l.me root l found in absurd (cc (up, none))))
  goes_on (steps.Does s from nexts.Rest kept why) fit brings roots now = now
  goes_on (steps.Does s from nexts.AckToward kept why) fit brings roots now = now
  goes_on (steps.Does s from nexts.SayForgotten kept why) fit brings roots now = now
  goes_on (steps.Does s from nexts.SayAck kept why) fit brings roots now = now
  goes_on (steps.Does {k = k} s from (nexts.End d) kept why) fit brings roots now = learned k fit now input brings roots quits s.me d
  goes_on (steps.Does {k = k} s from (nexts.Meet d mixed) kept why) fit brings roots now = learned k fit now input brings roots quits s.me d
  goes_on (steps.Does {k = k} s from nexts.Forget kept why) fit brings roots now = ended k fit now input brings roots quits s.me
  goes_on (steps.Makes_record n s r d call makes) fit brings roots now = now
  goes_on (steps.Forces_given {k = k} n id m b call named) fit brings roots now = ended k fit now input brings roots quits b
  goes_on (steps.Forces_commit {k = k} n id b call named) fit brings roots now = ended k fit now input brings roots quits b
  goes_on (steps.Forces_rollback {k = k} n id b call named) fit brings roots now = ended k fit now input brings roots quits b
  goes_on (steps.Hides n mixed id s call found) fit brings roots now = now
  goes_on (steps.Advises {k = k} n a call) fit brings roots now =
      let s : Session = record (session_at k.sessions n) { advice = a } in same_goes k.sessions k.lives now (set_numbered k.sessions n s) (λ m. inl (alike_set k.sessions n s (refl, refl) m))
  goes_on (steps.Leaves {k = k} n s d x call ends has found) fit brings roots now = left_goes k fit now n x.live.me has
  goes_on (steps.Sets_read_only n call) fit brings roots now = now
  goes_on (steps.Sets_savepoint {k = k} n x name call has code found) fit brings roots now =
      put_goes k.sessions k.lives now x.live k.sessions (all_alike k.sessions x.live.me)
      (λ m root commits. (let is_free : (session_at k.sessions m).call ≡ pending.NoCall = subst (λ i. (session_at k.sessions i).call ≡ pending.NoCall) (one_session k fit now n m x.live.me has root) (brings.free n (stmts.Savepoint name) call) in absurd (cc (is_free, commits))))
  goes_on (steps.Images is) fit brings roots now = now
  goes_on (steps.Gives_up {k = k} n x gives has calls found) fit brings roots now = given_up k fit now input brings roots quits n x has calls
  goes_on (steps.Gives_up_commit {k = k} n b (Some l) gives has calls found) fit brings roots now =
      commit_given_up k fit now input brings roots quits n l.me (subst (λ c. HasRoot k n c) (sym (item_is live_id k.lives b l found)) has) calls
  goes_on (steps.Gives_up_commit {k = k} n b None gives has calls found) fit brings roots now = ended k fit now input brings roots quits b
  goes_on (steps.Rests) fit brings roots now = now
  goes_on (steps.Sends says why) fit brings roots now = now
  goes_on (steps.Refuses n s r is) fit brings roots now = now
  goes_on (steps.Completes_at_once n s d call completes none) fit brings roots now = now

-- ---- COMMIT

module _ (k : NodeState) (fit : SessionsFit k) (now : RootGoes k.sessions k.lives) (n : ℕ) where
  commit_at_goes : (comment : List ℕ) (x : Branch) (read_at : Option ℕ) → RootSo k n (Some x) → RootGoes (commit_at k n comment x read_at).after.sessions (commit_at k n comment x read_at).after.lives
  commit_at_goes comment x (Some scn) so = left_goes k fit now n x.live.me so.0
  commit_at_goes comment x None so =
      let l : Live = collecting (with_comment x.live comment) true in
      let s : Session = record (session_at k.sessions n) { call = pending.Commit } in
      let ts : List Session = with_call k.sessions n pending.Commit in
      acts_goes k.sessions (without_read_keys (record k { sessions = ts }) x.live.me) l (λ working. absurd cc) now (set_but k.sessions x.live.me n s so.0)
      (λ m its free. elim (session_or_before k.sessions n m s) [
        | inl still ↦ (let here : n ≡ m = sym (fit.roots.each n x.live.me so.0) ∙ fit.roots.each m x.live.me (sym (ap (λ (y : Session). y.root) still) ∙ its) in
            let commits : (session_at ts m).call ≡ pending.Commit = subst (λ i. (session_at ts i).call ≡ pending.Commit) here (ap (λ (y : Session). y.call) (session_put k.sessions n x.live.me s so.0)) in
            absurd (cc (commits, free)))
        | inr new ↦ (let commits : (session_at ts m).call ≡ pending.Commit = ap (λ (y : Session). y.call) new.1 in absurd (cc (commits, free)))
      ]) true (first_act l true)

  commit_by_goes : (comment : List ℕ) (code : Option ℕ) (o : Option Branch) → RootSo k n o → RootGoes (commit_by k n comment code o).after.sessions (commit_by k n comment code o).after.lives
  commit_by_goes comment None None so = now
  commit_by_goes comment (Some c) None so = now
  commit_by_goes comment (Some c) (Some x) so = now
  commit_by_goes comment None (Some x) so = commit_at_goes comment x x.live.read_at so

  pub commit_goes : (comment : Option (List ℕ)) → RootGoes (commit_call k n comment).after.sessions (commit_call k n comment).after.lives
  commit_goes comment = commit_by_goes (unwrap_or comment []) (session_at k.sessions n).code (root_at k n) (root_so k n)

-- ---- a turn

heard_brings : (k : NodeState) (input what : Input) → Brings what k → Brings what (heard k input)
heard_brings k (inputs.Message m) what brings = record { free = brings.free; asked = brings.asked; prepared = brings.prepared; rolled = brings.rolled }
heard_brings k (inputs.Call n s) what brings = brings
heard_brings k (inputs.GiveUp n) what brings = brings
heard_brings k inputs.Reco what brings = brings
heard_brings k inputs.Checkpoint what brings = brings

heard_goes : (k : NodeState) (input : Input) → RootGoes k.sessions k.lives → RootGoes (heard k input).sessions (heard k input).lives
heard_goes k (inputs.Message m) now = now
heard_goes k (inputs.Call n s) now = now
heard_goes k (inputs.GiveUp n) now = now
heard_goes k inputs.Reco now = now
heard_goes k inputs.Checkpoint now = now

pub turn_goes : (p : Place) (k : NodeState) (input : Input) → Step p input (heard k input) (draft_of p k input) → Brings input k → NodeRests k → RootGoes k.sessions k.lives → RootGoes (draft_of p k input).after.sessions (draft_of p k input).after.lives
turn_goes p k input step brings rests now = elim (commit_or_not input) [
  | inl is ↦ subst (λ (i : Input). RootGoes (draft_of p k i).after.sessions (draft_of p k i).after.lives) (sym is.2) (commit_goes k rests.0 now is.0 is.1)
  | inr not ↦ (let next : NodeRests (heard k input) = heard_rests k input rests in goes_on p input not step next.0 (heard_brings k input input brings) (λ no. next.1) (heard_goes k input now))
]
