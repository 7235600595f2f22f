-- What a client's call leaves of the calls of sessions: it is answered, or pends; and of the transactions of sessions: they
-- stay live.
use Rattle.std.proofs.Common.{◌≡◌, ◌≢◌, ℕ, ◌+◌, ◌==◌, ◌&&◌, ◌||◌, not, Bool, true, false, List, [], ◌++◌, find, unwrap_or, is_none, Option, Some, None, Result, Ok, Err, inl, inr, refl, sym, ap, subst, ◌∙◌, arith}
use Rattle.std.specs.Prelude.{is_some}
use Rattle.std.proofs.lemmas.Bool.Decides.{nat_tests}
use Rattle.std.proofs.lemmas.Bool.{cond_both}
use Rattle.std.proofs.lemmas.List.Folds.{list_any-append}
use Rattle.node_rules.specs.Data.{Stmt, Answer, Done, Refusal, BranchId, Decision, KeptRow, Live, Place}
use Rattle.node_rules.specs.Data.answers
use Rattle.node_rules.specs.Data.dones
use Rattle.node_rules.specs.Data.decisions
use Rattle.node_rules.specs.Data.stmts
use Rattle.node_rules.specs.Inputs.{IsSession}
use Rattle.node_rules.specs.declared.session.PendingCall.TheVariants as pending
use Rattle.node_rules.specs.declared.session.Session.{Session}
use Rattle.node_rules.specs.declared.session.Finished.{Finished}
use Rattle.node_rules.specs.Words.{set_numbered, put_item}
use Rattle.node_rules.specs.NodeState.{NodeState, Branch, TurnDraft, live_id, live_at, with_work, branch_at}
use Rattle.node_rules.specs.Names.{Way, Runs_here, Over, Through, Nowhere_to, way_of}
use Rattle.node_rules.specs.Statement.{ran, after_run, answer_of_run}
use Rattle.node_rules.specs.Marks.{savepoint_at, next_back, node_back, branch_back}
use Rattle.node_rules.specs.Sessions.{session_at, with_call, with_call_of, no_transaction, commit_ended, commit_answer}
use Rattle.node_rules.specs.Calls.{goes, backs_to, call_pends, answered_sessions, answer_ends}
use Rattle.node_rules.specs.Prepare.{act_turn, first_act, collecting, with_comment, without_read_keys}
use Rattle.node_rules.specs.Force.{branch_to_force, forces, force_commit, force_rollback, hides, purge, may_purge}
use Rattle.node_rules.specs.Client.{begun_by, begun, counted, new_root, root_by, root_at, is_write, statement_by, statement_call, leaves, commit_at, commit_by, rollback_by, read_only_by, savepoint_by, savepoint_call, back_to_savepoint, back_by, back_call, is_used, is_link, call_turn, read_turn}
use Rattle.node_rules.proofs.StandLemmas.{RootSo, root_so, live_so, session_set}
use Rattle.run_rules.proofs.AtNodeLemmas.{item_there}
use Rattle.run_base_laws.proofs.RootLemmas.{SessionsFit, session_or_before, root_alone, begun_so, counted_so as counted_fits}
use Rattle.run_ready_laws.proofs.CallEndLemmas.{is_pending, pends_at, is_ended, EndsSo, answer_to, and_true, and_false, same_number, ends_by, set_here, ends_after, keeps_call, ends_here, pends_here, commit_ends, answered_ends, act_ends}
use Rattle.run_ready_laws.proofs.RootLiveLemmas.{RootsLive, begun_lives, counted_lives, answered_lives, pends_lives, act_lives, ended_lives, same_lives, done_lives, commit_lives, dropped, also, put_lives}
use Rattle.tran_ids.proofs.ListedLemmas.{put_found}

-- What a call leaves.
pub record CallLeaves (was : ℕ → Bool) (d : TurnDraft) : Type 0 where
  pub ends : EndsSo was d.after.sessions d.ended
  pub lives : RootsLive d.after.lives d.after.sessions

-- ---- tests

same_ended : (p q e : Bool) → (q ≡ true → e ≡ true) → (p && not e) ≡ ((p || q) && not e)
same_ended p true true so = and_false p ∙ sym (and_false (p || true))
same_ended p true false so = absurd (let it : false ≡ true = so refl in cc)
same_ended true false e so = refl
same_ended false false e so = refl

forced_by : (p q e : Bool) → (q ≡ true → p ≡ false) → (p && not e) ≡ ((p || q) && not (e || (q || false)))
forced_by true true e so = absurd (let it : true ≡ false = so refl in cc)
forced_by true false true so = refl
forced_by true false false so = refl
forced_by false true true so = refl
forced_by false true false so = refl
forced_by false false e so = refl

here_is : (n : ℕ) → (n == n) ≡ true
here_is n = grind (arith, nat_tests)

-- ---- the session of the call

module _ (ss : List Session) (n : ℕ) (free : (session_at ss n).call ≡ pending.NoCall) where
  -- the calls that pend once this one is made
  abbrev made : ℕ → Bool
  made m = pends_at ss m || (n == m)

  none_pends : (m : ℕ) → (n == m) ≡ true → pends_at ss m ≡ false
  none_pends m here = ap (pends_at ss) (sym (same_number n m here)) ∙ ap is_pending free

  -- an answer of its own
  ended_now : (zs : List Session) (fs : List Finished) → EndsSo (pends_at ss) zs fs → is_ended n fs ≡ true → EndsSo made zs fs
  ended_now zs fs ends here m = ends m ∙ same_ended (pends_at ss m) (n == m) (is_ended m fs) (λ is. subst (λ i. is_ended i fs ≡ true) (same_number n m is) here)

  -- that is all that changes
  ended_alone : (zs : List Session) (a : Answer) → ((m : ℕ) → pends_at zs m ≡ pends_at ss m) → EndsSo made zs (answer_to n a)
  ended_alone zs a same =
      ended_now zs (answer_to n a) (λ m. ends_by (n == m) (pends_at ss m) (pends_at zs m) (λ here. same m ∙ none_pends m here) (λ other. same m)) (ap (λ q. q || false) (here_is n))

  -- with the COMMIT of a branch whose outcome is forced
  forced_ends : (b : BranchId) (a own : Answer) → EndsSo made (commit_ended ss b) (commit_answer ss b a ++ answer_to n own)
  forced_ends b a own m =
      commit_ends ss b a m ∙ (forced_by (pends_at ss m) (n == m) (is_ended m (commit_answer ss b a)) (none_pends m)
      ∙ ap (λ e. (pends_at ss m || (n == m)) && not e) (sym (list_any-append (λ f. f.session == m) (commit_answer ss b a) (answer_to n own))))

-- ---- statements

ended_root : (l : Live) (a : Answer) (n : ℕ) (o : Option BranchId) → o ≡ None → l.me.session ≡ n → is_ended n (answer_ends l a o) ≡ true
ended_root l a n None root at = ap (λ q. q || false) (subst (λ m. (m == n) ≡ true) (sym at) (here_is n))
ended_root l a n (Some parent) root at = absurd cc

none_is : {A : Type 0} (o : Option A) → o ≡ None → is_none o ≡ true
none_is None is = refl
none_is (Some a) is = absurd cc

module _ (p : Place) (k : NodeState) (n : ℕ) (fit : SessionsFit k) (now : RootsLive k.lives k.sessions) (free : (session_at k.sessions n).call ≡ pending.NoCall) where
  abbrev after_made : ℕ → Bool
  after_made m = pends_at k.sessions m || (n == m)

  -- a refusal, or what changes no session
  alone_so : (d : TurnDraft) (a : Answer) → d.after.sessions ≡ k.sessions → d.after.lives ≡ k.lives → d.ended ≡ answer_to n a → CallLeaves after_made d
  alone_so d a sessions lives ended = record {
    ends = subst (EndsSo after_made d.after.sessions) (sym ended) (ended_alone k.sessions n free d.after.sessions a (λ m. ap (λ ss. pends_at ss m) sessions));
    lives = subst (λ ss. RootsLive d.after.lives ss) (sym sessions) (subst (λ ls. RootsLive ls k.sessions) (sym lives) now);
  }

  module _ (x : Branch) (has : (session_at k.sessions n).root ≡ Some x.live.me) (found : branch_at k x.live.me ≡ Some x) where
    live : live_at k x.live.me ≡ Some x.live
    live = live_so k x.live.me x found

    root : x.live.parent ≡ None
    root = root_alone k fit n x.live.me has x.live live

    at : x.live.me.session ≡ n
    at = fit.roots.each n x.live.me has

    has_it : (session_at k.sessions x.live.me.session).root ≡ Some x.live.me
    has_it = subst (λ m. (session_at k.sessions m).root ≡ Some x.live.me) (sym at) has

    -- the statement is answered
    answered_so : (l : Live) (a : Answer) → l.me ≡ x.live.me → (o : Option BranchId) → o ≡ None
        → EndsSo after_made (answered_sessions k.sessions l o) (answer_ends l a o) × RootsLive (put_item live_id k.lives l) (answered_sessions k.sessions l o)
    answered_so l a me o none =
        let has_l : (session_at k.sessions l.me.session).root ≡ Some l.me = subst (λ b. (session_at k.sessions b.session).root ≡ Some b) (sym me) has_it in (
          ended_now k.sessions n free (answered_sessions k.sessions l o) (answer_ends l a o) (answered_ends k.sessions l a o (λ is. has_l)) (ended_root l a n o none (ap (λ b. b.session) me ∙ at)),
          answered_lives (put_item live_id k.lives l) k.sessions l (also k.lives (put_item live_id k.lives l) k.sessions (put_lives k.lives l) now) o l (put_found live_id k.lives l) (λ is. has_l),
        )

    -- it goes on
    goes_on_so : (l : Live) → l.me ≡ x.live.me → l.parent ≡ None → EndsSo after_made (call_pends k.sessions l) [] × RootsLive (put_item live_id k.lives l) (call_pends k.sessions l)
    goes_on_so l me none =
        let has_l : (session_at k.sessions l.me.session).root ≡ Some l.me = subst (λ b. (session_at k.sessions b.session).root ≡ Some b) (sym me) has_it in (
          cond_both (is_none l.parent) (with_call k.sessions l.me.session pending.Statement) k.sessions (λ zs. EndsSo after_made zs [])
              (λ is. subst (λ i. EndsSo after_made (set_numbered k.sessions i (record (session_at k.sessions i) { call = pending.Statement })) []) (sym (ap (λ b. b.session) me ∙ at))
              (pends_here k.sessions n x.live.me (record (session_at k.sessions n) { call = pending.Statement }) refl has)) (λ below. absurd (let it = none_is l.parent none in cc (it, below))),
          pends_lives (put_item live_id k.lives l) k.sessions l (also k.lives (put_item live_id k.lives l) k.sessions (put_lives k.lives l) now) l (put_found live_id k.lives l) (λ is. has_l),
        )

    goes_so : (s : Stmt) (w : Way) → CallLeaves after_made (goes p k x s 0 w)
    goes_so s (Runs_here t) =
        let l : Live = after_run x.live (ran p k x.live.me s t) in let is = answered_so l (answer_of_run (ran p k x.live.me s t)) refl x.live.parent root in record { ends = is.0; lives = is.1 }
    goes_so s (Nowhere_to r) = let is = answered_so x.live (answers.Refused r) refl x.live.parent root in record { ends = is.0; lives = is.1 }
    goes_so s (Over i table) = let is = goes_on_so x.live refl root in record { ends = is.0; lives = is.1 }
    goes_so s (Through node link table) = let is = goes_on_so x.live refl root in record { ends = is.0; lives = is.1 }

    -- the session tree goes back
    backs_so : (step : ℕ) (next : Option ℕ) → CallLeaves after_made (backs_to (node_back k x step) (branch_back k x step) step next)
    backs_so step None = let is = answered_so (branch_back k x step).live (answers.Did dones.RolledBack 0) refl x.live.parent root in record { ends = is.0; lives = is.1 }
    backs_so step (Some i) = let is = goes_on_so (branch_back k x step).live refl root in record { ends = is.0; lives = is.1 }

  -- a session that has a transaction and no pending call has a live root
  rooted : (b : BranchId) → (session_at k.sessions n).root ≡ Some b → (o : Option Branch) → root_at k n ≡ o → o ≢ None
  rooted b has o is none =
      let l = now n b has (λ commits. absurd (cc (free, commits))) in
      let one : root_at k n ≡ with_work k (live_at k b) = ap (root_by k) has in
      let two : with_work k (live_at k b) ≡ with_work k (Some l.0) = ap (with_work k) l.1 in
      absurd (let it : with_work k (Some l.0) ≡ None = sym two ∙ (sym one ∙ (is ∙ none)) in cc)

  statement_by_so : (s : Stmt) (b : BranchId) → (session_at k.sessions n).root ≡ Some b → (code : Option ℕ) (o : Option Branch) → root_at k n ≡ o → RootSo k n o → CallLeaves after_made (statement_by p k n s code o)
  statement_by_so s b has code None is so = absurd (rooted b has None is refl)
  statement_by_so s b has (Some c) (Some x) is so = alone_so _ _ refl refl refl
  statement_by_so s b has None (Some x) is so =
      cond_both (is_some x.live.read_at && is_write s) _ _ (CallLeaves after_made) (λ write. alone_so _ _ refl refl refl) (λ may. goes_so x so.0 so.1 s (way_of p k.stored.durable x.live 0 s))

  statement_so : (s : Stmt) (b : BranchId) → (session_at k.sessions n).root ≡ Some b → CallLeaves after_made (statement_call p k n s)
  statement_so s b has = statement_by_so s b has (session_at k.sessions n).code (root_at k n) refl (root_so k n)

  -- ---- savepoints

  savepoint_by_so : (name : List ℕ) (b : BranchId) → (session_at k.sessions n).root ≡ Some b → (code : Option ℕ) (o : Option Branch) → root_at k n ≡ o → RootSo k n o → CallLeaves after_made (savepoint_by k n name code o)
  savepoint_by_so name b has code None is so = absurd (rooted b has None is refl)
  savepoint_by_so name b has (Some c) (Some x) is so = alone_so _ _ refl refl refl
  savepoint_by_so name b has None (Some x) is so = record {
    ends = ended_alone k.sessions n free k.sessions (answers.Did dones.SavepointMade 0) (λ m. refl);
    lives = also k.lives (put_item live_id k.lives x.live) k.sessions (put_lives k.lives x.live) now;
  }

  savepoint_so : (name : List ℕ) (b : BranchId) → (session_at k.sessions n).root ≡ Some b → CallLeaves after_made (savepoint_call k n name)
  savepoint_so name b has = savepoint_by_so name b has (session_at k.sessions n).code (root_at k n) refl (root_so k n)

  to_savepoint_so : (name : List ℕ) (x : Branch) (step : Option ℕ) → RootSo k n (Some x) → CallLeaves after_made (back_to_savepoint k n name x step)
  to_savepoint_so name x None so = alone_so _ _ refl refl refl
  to_savepoint_so name x (Some step) so = backs_so x so.0 so.1 step (next_back (branch_back k x step).work step 1)

  back_by_so : (name : List ℕ) (code : Option ℕ) (o : Option Branch) → RootSo k n o → CallLeaves after_made (back_by k n name code o)
  back_by_so name None None so = alone_so _ _ refl refl refl
  back_by_so name (Some c) None so = alone_so _ _ refl refl refl
  back_by_so name (Some c) (Some x) so = alone_so _ _ refl refl refl
  back_by_so name None (Some x) so = to_savepoint_so name x (savepoint_at x.work.marks name) so

  back_so : (name : List ℕ) → CallLeaves after_made (back_call k n name)
  back_so name = back_by_so name (session_at k.sessions n).code (root_at k n) (root_so k n)

  -- ---- COMMIT

  module _ (x : Branch) (so : RootSo k n (Some x)) where
    abbrev commits : Session
    commits = record (session_at k.sessions n) { call = pending.Commit }

    abbrev zs : List Session
    zs = with_call k.sessions n pending.Commit

    abbrev waiting : NodeState
    waiting = without_read_keys (record k { sessions = zs }) x.live.me

    same_root : (m : ℕ) → (session_at zs m).root ≡ (session_at k.sessions m).root
    same_root m = elim (session_or_before k.sessions n m commits) [ inl still ↦ ap (λ s. s.root) still | inr new ↦ ap (λ s. s.root) new.1 ∙ ap (λ i. (session_at k.sessions i).root) new.0 ]

    unneeded : (m : ℕ) → (session_at zs m).root ≡ Some x.live.me → (session_at zs m).call ≢ pending.Commit → ⊥
    unneeded m has waits =
        let here : m ≡ n = sym (fit.roots.each m x.live.me (sym (same_root m) ∙ has)) ∙ fit.roots.each n x.live.me so.0 in
        waits (subst (λ i. (session_at zs i).call ≡ pending.Commit) (sym here) (ap (λ s. s.call) (set_here k.sessions n x.live.me commits so.0)))

    collects_so : (comment : List ℕ) → CallLeaves after_made (act_turn waiting (collecting (with_comment x.live comment) true) true (first_act (collecting (with_comment x.live comment) true) true))
    collects_so comment =
        let l : Live = collecting (with_comment x.live comment) true in record {
          ends = ends_after after_made (pends_at zs) _ _ (λ m. pends_here k.sessions n x.live.me commits refl so.0 m ∙ sym (and_true (after_made m))) (act_ends waiting l true (first_act l true));
          lives = act_lives waiting l (commit_lives k.lives k.sessions now n) unneeded true (first_act l true);
        }

  -- ---- ROLLBACK, and outcomes that are forced

  module _ (x : Branch) (so : RootSo k n (Some x)) where
    abbrev done : Session
    done = no_transaction (session_at k.sessions n)

    abbrev ys : List Session
    ys = set_numbered k.sessions n done

    left : (m : ℕ) → (session_at ys m).root ≡ Some x.live.me → (session_at ys m).call ≢ pending.Commit → ⊥
    left m has waits = elim (session_or_before k.sessions n m done) [
      | inl still ↦ (let was : (session_at k.sessions m).root ≡ Some x.live.me = sym (ap (λ s. s.root) still) ∙ has in
          let here : m ≡ n = sym (fit.roots.each m x.live.me was) ∙ fit.roots.each n x.live.me so.0 in
          let none : (session_at ys m).root ≡ None = subst (λ i. (session_at ys i).root ≡ None) (sym here) (ap (λ s. s.root) (set_here k.sessions n x.live.me done so.0)) in
          absurd (cc (none, has)))
      | inr new ↦ (let none : (session_at ys m).root ≡ None = ap (λ s. s.root) new.1 in absurd (cc (none, has)))
    ]

    leaves_so : (d : Done) → CallLeaves after_made (leaves k n d x)
    leaves_so d = record {
      ends = ended_now k.sessions n free ys (answer_to n (answers.Did d 0)) (ends_here k.sessions n x.live.me done refl (answers.Did d 0) so.0) (ap (λ q. q || false) (here_is n));
      lives = dropped k.lives ys x.live.me (done_lives k.lives k.sessions now n) left;
    }

  rollback_so : (o : Option Branch) → RootSo k n o → CallLeaves after_made (rollback_by k n o)
  rollback_so None so = alone_so _ _ refl refl refl
  rollback_so (Some x) so = leaves_so x so dones.RolledBack

  commit_at_so : (comment : List ℕ) (x : Branch) (read_at : Option ℕ) → RootSo k n (Some x) → CallLeaves after_made (commit_at k n comment x read_at)
  commit_at_so comment x (Some scn) so = leaves_so x so dones.Committed
  commit_at_so comment x None so = collects_so x so comment

  commit_by_so : (comment : List ℕ) (code : Option ℕ) (o : Option Branch) → RootSo k n o → CallLeaves after_made (commit_by k n comment code o)
  commit_by_so comment None None so = alone_so _ _ refl refl refl
  commit_by_so comment (Some c) None so = alone_so _ _ refl refl refl
  commit_by_so comment (Some c) (Some x) so = alone_so _ _ refl refl refl
  commit_by_so comment None (Some x) so = commit_at_so comment x x.live.read_at so

  forces_so : (b : BranchId) (d : Decision) (given : Bool) (a : Answer) → CallLeaves after_made (forces k n b d given a)
  forces_so b d given a = record { ends = forced_ends k.sessions n free b _ a; lives = ended_lives k.lives k.sessions now b }

  force_commit_so : (scn : Option ℕ) (r : Result BranchId Refusal) → CallLeaves after_made (force_commit k n scn r)
  force_commit_so scn (Err r) = alone_so _ _ refl refl refl
  force_commit_so (Some m) (Ok b) = forces_so b (decisions.Commit m) true _
  force_commit_so None (Ok b) = record { ends = forced_ends k.sessions n free b _ _; lives = ended_lives k.lives k.sessions now b }

  force_rollback_so : (r : Result BranchId Refusal) → CallLeaves after_made (force_rollback k n r)
  force_rollback_so (Err r) = alone_so _ _ refl refl refl
  force_rollback_so (Ok b) = forces_so b decisions.Rollback false _

  hides_so : (id : List ℕ) (o : Option KeptRow) → CallLeaves after_made (hides k n id o)
  hides_so id None = alone_so _ _ refl refl refl
  hides_so id (Some s) = alone_so _ _ refl refl refl

  purge_so : (mixed : Bool) (id : List ℕ) → CallLeaves after_made (purge k n mixed id)
  unfolding purge
  purge_so mixed id = hides_so id (find (may_purge mixed id) k.stored.durable.kept)

-- ---- a call that is counted

counted_pends : (ss : List Session) (n : ℕ) (o : Option BranchId) (m : ℕ) → pends_at (with_call_of ss n o) m ≡ pends_at ss m
counted_pends ss n None m = refl
counted_pends ss n (Some b) m = keeps_call ss n (record (session_at ss n) { calls = (session_at ss n).calls + 1 }) refl m

counted_free : (ss : List Session) (n : ℕ) (o : Option BranchId) → (session_at ss n).root ≡ o → (session_at ss n).call ≡ pending.NoCall → (session_at (with_call_of ss n o) n).call ≡ pending.NoCall
counted_free ss n None is free = free
counted_free ss n (Some root) is free = ap (λ s. s.call) (set_here ss n root (record (session_at ss n) { calls = (session_at ss n).calls + 1 }) is) ∙ free

-- the transaction is the same
counted_root : (ss : List Session) (n : ℕ) (b : BranchId) → (session_at ss n).root ≡ Some b → (session_at (with_call_of ss n (session_at ss n).root) n).root ≡ Some b
counted_root ss n b has =
    subst (λ o. (session_at (with_call_of ss n o) n).root ≡ Some b) (sym has) (ap (λ s. s.root) (set_here ss n b (record (session_at ss n) { calls = (session_at ss n).calls + 1 }) has) ∙ has)

-- ---- each form

-- what a draft leaves at a node where this session calls
abbrev LeavesAt : ℕ → NodeState → TurnDraft → Type 0
LeavesAt n j d = CallLeaves (λ m. pends_at j.sessions m || (n == m)) d

-- so does a turn at each node where the session has a transaction, and no call pending
abbrev OfRoot : ℕ → (NodeState → TurnDraft) → Type 0
OfRoot n turn = (j : NodeState) → SessionsFit j → RootsLive j.lives j.sessions → (session_at j.sessions n).call ≡ pending.NoCall → (b : BranchId) → (session_at j.sessions n).root ≡ Some b → LeavesAt n j (turn j)

-- its call is counted before
counts_so : (n : ℕ) (k : NodeState) (d : TurnDraft) → LeavesAt n (counted k n) d → LeavesAt n k d
counts_so n k d is = record {
  ends = ends_after (λ m. pends_at k.sessions m || (n == m)) (λ m. pends_at (counted k n).sessions m || (n == m)) _ _ (λ m. ap (λ q. q || (n == m)) (counted_pends k.sessions n (session_at k.sessions n).root m)) is.ends;
  lives = is.lives;
}

counted_so : (n : ℕ) (turn : NodeState → TurnDraft) → OfRoot n turn → OfRoot n (λ j. turn (counted j n))
counted_so n turn of_root j fit now free b has =
    counts_so n j (turn (counted j n)) (of_root (counted j n) (counted_fits j fit n) (counted_lives j.lives j.sessions now n (session_at j.sessions n).root)
    (counted_free j.sessions n (session_at j.sessions n).root refl free) b (counted_root j.sessions n b has))

module _ (p : Place) (k : NodeState) (n : ℕ) (fit : SessionsFit k) (range : IsSession n) (now : RootsLive k.lives k.sessions) (free : (session_at k.sessions n).call ≡ pending.NoCall) where
  -- the session with its new transaction
  abbrev begun_session : Session
  begun_session = record (session_at k.sessions n) { seq = (new_root p k n).seq; root = Some (new_root p k n); calls = 0 }

  begins_so : (turn : NodeState → TurnDraft) → OfRoot n turn → (session_at k.sessions n).root ≡ None → CallLeaves (after_made p k n fit now free) (turn (begun_by p k n None None))
  begins_so turn of_root none =
      let k2 : NodeState = begun_by p k n None None in
      let there = item_there k.sessions n range.0 (omega (arith, range.1, fit.roots.many)) in
      let set : session_at k2.sessions n ≡ begun_session = session_set k.sessions n there.0 begun_session there.1 in
      let is = of_root k2 (begun_so k fit p n None) (begun_lives p k n None now) (ap (λ s. s.call) set ∙ free) (new_root p k n) (ap (λ s. s.root) set) in
      record { ends = ends_after (λ m. pends_at k.sessions m || (n == m)) (λ m. pends_at k2.sessions m || (n == m)) _ _ (λ m. ap (λ q. q || (n == m)) (keeps_call k.sessions n begun_session refl m)) is.ends; lives = is.lives }

  -- a transaction that is there goes on, or one begins
  goes_or_begins : (turn : NodeState → TurnDraft) → OfRoot n turn → (o : Option BranchId) → (session_at k.sessions n).root ≡ o → CallLeaves (after_made p k n fit now free) (turn (begun_by p k n None o))
  goes_or_begins turn of_root None is = begins_so turn of_root is
  goes_or_begins turn of_root (Some b) is = of_root k fit now free b is

  -- and its call is counted
  begun_turn : (turn : NodeState → TurnDraft) → OfRoot n turn → CallLeaves (after_made p k n fit now free) (turn (begun p k n))
  begun_turn turn of_root = goes_or_begins (λ j. turn (counted j n)) (counted_so n turn of_root) (session_at k.sessions n).root refl

  rows_so : (s : Stmt) → CallLeaves (after_made p k n fit now free) (statement_call p (begun p k n) n s)
  rows_so s = begun_turn (λ j. statement_call p j n s) (λ j fits lives rests b has. statement_so p j n fits lives rests s b has)

  read_only_so : (o : Option BranchId) → CallLeaves (after_made p k n fit now free) (read_only_by p k n o)
  read_only_so (Some b) = alone_so p k n fit now free _ _ refl refl refl
  read_only_so None = record {
    ends = ended_alone k.sessions n free (set_numbered k.sessions n begun_session) (answers.Did dones.TransactionSet 0) (keeps_call k.sessions n begun_session refl);
    lives = begun_lives p k n (Some k.clock) now;
  }

  call_so : (s : Stmt) → CallLeaves (after_made p k n fit now free) (call_turn p k n s)
  call_so (stmts.CreateTable t) = cond_both (is_used k.stored.durable t.name) _ _ (CallLeaves (after_made p k n fit now free)) (λ used. alone_so p k n fit now free _ _ refl refl refl) (λ new. alone_so p k n fit now free _ _ refl refl refl)
  call_so (stmts.CreateLink l) = cond_both (is_link k.stored.durable l.name) _ _ (CallLeaves (after_made p k n fit now free)) (λ used. alone_so p k n fit now free _ _ refl refl refl) (λ new. alone_so p k n fit now free _ _ refl refl refl)
  call_so (stmts.CreateSynonym y) = cond_both (is_used k.stored.durable y.name) _ _ (CallLeaves (after_made p k n fit now free)) (λ used. alone_so p k n fit now free _ _ refl refl refl) (λ new. alone_so p k n fit now free _ _ refl refl refl)
  call_so (stmts.Insert table columns given) = rows_so (stmts.Insert table columns given)
  call_so (stmts.Update table sets cs) = rows_so (stmts.Update table sets cs)
  call_so (stmts.Delete table cs) = rows_so (stmts.Delete table cs)
  call_so (stmts.Select list table cs for_update) = rows_so (stmts.Select list table cs for_update)
  call_so (stmts.Commit comment) = commit_by_so p k n fit now free (unwrap_or comment []) (session_at k.sessions n).code (root_at k n) (root_so k n)
  call_so (stmts.CommitForce id scn) = force_commit_so p k n fit now free scn (branch_to_force p.names k.stored.durable.kept id)
  call_so stmts.Rollback = rollback_so p k n fit now free (root_at k n) (root_so k n)
  call_so (stmts.RollbackForce id) = force_rollback_so p k n fit now free (branch_to_force p.names k.stored.durable.kept id)
  call_so (stmts.Advise a) =
      let s : Session = record (session_at k.sessions n) { advice = a } in
      record { ends = ended_alone k.sessions n free (set_numbered k.sessions n s) (answers.Did dones.SessionAltered 0) (keeps_call k.sessions n s refl); lives = same_lives k.lives k.sessions now n s refl refl }
  call_so (stmts.Recovery on) = alone_so p k n fit now free _ _ refl refl refl
  call_so (stmts.SetStrength strength) = alone_so p k n fit now free _ _ refl refl refl
  call_so stmts.SetReadOnly = read_only_so (session_at k.sessions n).root
  call_so (stmts.Savepoint name) = begun_turn (λ j. savepoint_call j n name) (λ j fits lives rests b has. savepoint_so p j n fits lives rests name b has)
  call_so (stmts.RollbackTo name) =
      counts_so n k (back_call (counted k n) n name) (back_so p (counted k n) n (counted_fits k fit n) (counted_lives k.lives k.sessions now n (session_at k.sessions n).root)
      (counted_free k.sessions n (session_at k.sessions n).root refl free) name)
  call_so (stmts.PurgeMixed id) = purge_so p k n fit now free true id
  call_so (stmts.PurgeLost id) = purge_so p k n fit now free false id

  -- each call that comes
  pub read_so : (s : Option Stmt) → CallLeaves (λ m. pends_at k.sessions m || (n == m)) (read_turn p k n s)
  read_so None = alone_so p k n fit now free _ _ refl refl refl
  read_so (Some s) = call_so s
