-- What a call of its session makes of a live root, at its node: a statement leaves it working, COMMIT begins its collect or is refused, ROLLBACK and a
-- COMMIT that is given up end it.
use Rattle.std.proofs.Common.{◌≡◌, ◌≢◌, ℕ, true, false, List, [], unwrap_or, Option, Some, None, refl, sym, ap, subst, ◌∙◌, Bool, if◌then◌else◌, is_none, ◌||◌, is_some, ◌&&◌}
use Rattle.tran_ids.proofs.ListedLemmas.{drop_gone, put_found}
use Rattle.node_rules.specs.Data.{Stmt, Answer, Live, Place, BranchId}
use Rattle.node_rules.specs.Data.inputs
use Rattle.node_rules.specs.Data.stmts
use Rattle.node_rules.specs.declared.session.PendingCall.{PendingCall}
use Rattle.node_rules.specs.declared.session.PendingCall.TheVariants as pending
use Rattle.node_rules.specs.NodeState.{NodeState, Branch, TurnDraft, live_id, live_at, branch_at}
use Rattle.node_rules.specs.Names.{way_of}
use Rattle.node_rules.specs.Sessions.{session_at, with_call}
use Rattle.node_rules.specs.Prepare.{collecting, with_comment, first_act, without_read_keys}
use Rattle.node_rules.specs.Client.{begun, begun_by, statement_by, statement_call, call_turn, commit_by, commit_call, rollback_by, statement_given_up, commit_given_up, give_up_by, give_up_turn, root_by, root_at, back_by, back_call, back_to_savepoint, commit_at, counted, leaves, savepoint_by, savepoint_call, read_only_by, refuses, is_write}
use Rattle.node_rules.specs.Turn.{output_of}
use Rattle.node_rules.proofs.StandLemmas.{live_so}
use Rattle.run_rules.specs.Runs.{answered_by, is_refused, begins_transaction, is_counted}
use Rattle.run_rules.specs.Trail.{begins_collect, input_drops}
use Rattle.run_rules.specs.Branches.{Seen}
use Rattle.tree_trail_laws.proofs.HearLemmas.{Alike, IsBusy, kept_alike, goes_alike, act_live, collected_busy, goes_back_alike, same_alike}
use Rattle.node_rules.specs.declared.session.Session.{Session}
use Rattle.std.proofs.lemmas.Bool.{and_right}
use Rattle.node_rules.specs.Data.dones
use Rattle.node_rules.specs.Marks.{savepoint_at}
use Rattle.run_base_laws.proofs.RootLemmas.{counted_session}
use Rattle.node_rules.specs.Refusals.{dtx}
use Rattle.node_rules.specs.Calls.{statement_at}

-- a statement that neither commits nor rolls back a transaction, but begins one or counts as its call
abbrev pub is_within : Stmt → Bool
is_within s = begins_transaction s || is_counted s

-- neither begins a collect nor drops a branch
pub within_begins : (n m : ℕ) (a : Option Answer) (s : Seen) (st : Stmt) → is_within st ≡ true → begins_collect n a s (inputs.Call m (Some st)) ≡ false
within_begins n m a s (stmts.Insert table columns given) within = and_right (is_none s.read_at) false refl
within_begins n m a s (stmts.Update table sets cs) within = and_right (is_none s.read_at) false refl
within_begins n m a s (stmts.Delete table cs) within = and_right (is_none s.read_at) false refl
within_begins n m a s (stmts.Select list table cs for_update) within = and_right (is_none s.read_at) false refl
within_begins n m a s (stmts.Savepoint name) within = and_right (is_none s.read_at) false refl
within_begins n m a s (stmts.RollbackTo name) within = and_right (is_none s.read_at) false refl
within_begins n m a s stmts.SetReadOnly within = and_right (is_none s.read_at) false refl
within_begins n m a s _ within = absurd cc

pub within_drops : (n m : ℕ) (a : Option Answer) (s : Seen) (st : Stmt) → is_within st ≡ true → input_drops n a s (inputs.Call m (Some st)) ≡ false
within_drops n m a s (stmts.Insert table columns given) within = refl
within_drops n m a s (stmts.Update table sets cs) within = refl
within_drops n m a s (stmts.Delete table cs) within = refl
within_drops n m a s (stmts.Select list table cs for_update) within = refl
within_drops n m a s (stmts.Savepoint name) within = refl
within_drops n m a s (stmts.RollbackTo name) within = refl
within_drops n m a s stmts.SetReadOnly within = refl
within_drops n m a s _ within = absurd cc

module _ (p : Place) (k : NodeState) (n : ℕ) (x : Branch) (found : branch_at k x.live.me ≡ Some x) (has : (session_at k.sessions n).root ≡ Some x.live.me) where
  abbrev After : TurnDraft → (Live → Type 0) → Type 0
  After d P = (l : Live) → live_at d.after x.live.me ≡ Some l → P l

  root_is : root_at k n ≡ Some x
  root_is = ap (root_by k) has ∙ found

  same_live : (l : Live) → live_at k x.live.me ≡ Some l → l ≡ x.live
  same_live l at = let both : Some x.live ≡ Some l = sym (live_so k x.live.me x found) ∙ at in let it : l ≡ x.live = cc in it

  -- ---- a statement

  statement_so : (s : Stmt) (code : Option ℕ) → After (statement_by p k n s code (Some x)) (Alike x.live)
  statement_so s (Some c) l at = kept_alike p k x found l at
  statement_so s None l at = by (is_some x.live.read_at && is_write s) at
    where
      by : (q : Bool) → live_at (if q then refuses k n (dtx 21 []) else statement_at p k x s 0).after x.live.me ≡ Some l → Alike x.live l
      by true is = kept_alike p k x found l is
      by false is = goes_alike p k x found x s 0 (way_of p k.stored.durable x.live 0 s) refl refl refl l is

  -- a savepoint
  mark_so : (name : List ℕ) (code : Option ℕ) → After (savepoint_by k n name code (Some x)) (Alike x.live)
  mark_so name (Some c) l at = kept_alike p k x found l at
  mark_so name None l at = let both : Some x.live ≡ Some l = sym (put_found live_id k.lives x.live) ∙ at in same_alike x.live l (let it : l ≡ x.live = cc in it)

  -- going back to one
  back_to_so : (name : List ℕ) (step : Option ℕ) → After (back_to_savepoint k n name x step) (Alike x.live)
  back_to_so name None l at = kept_alike p k x found l at
  back_to_so name (Some step) l at = goes_back_alike p k x found x step refl refl refl l at

  back_so_at : (name : List ℕ) (code : Option ℕ) → After (back_by k n name code (Some x)) (Alike x.live)
  back_so_at name (Some c) l at = kept_alike p k x found l at
  back_so_at name None l at = back_to_so name (savepoint_at x.work.marks name) l at

  pub at_root_so : (s : Stmt) → After (statement_call p k n s) (Alike x.live)
  at_root_so s = subst (λ o. After (statement_by p k n s (session_at k.sessions n).code o) (Alike x.live)) (sym root_is) (statement_so s (session_at k.sessions n).code)

  pub at_root_marks : (name : List ℕ) → After (savepoint_call k n name) (Alike x.live)
  at_root_marks name = subst (λ o. After (savepoint_by k n name (session_at k.sessions n).code o) (Alike x.live)) (sym root_is) (mark_so name (session_at k.sessions n).code)

  pub at_root_backs : (name : List ℕ) → After (back_call k n name) (Alike x.live)
  at_root_backs name = subst (λ o. After (back_by k n name (session_at k.sessions n).code o) (Alike x.live)) (sym root_is) (back_so_at name (session_at k.sessions n).code)

  -- ---- COMMIT

  commit_is : (given : Option (List ℕ)) (code : Option ℕ) → (session_at k.sessions n).code ≡ code → commit_call k n given ≡ commit_by k n (unwrap_or given []) code (Some x)
  commit_is given code is = ap (λ c. commit_by k n (unwrap_or given []) c (root_at k n)) is ∙ ap (commit_by k n (unwrap_or given []) code) root_is

  pub commit_busy : (given : Option (List ℕ)) → (session_at k.sessions n).code ≡ None → x.live.read_at ≡ None → After (commit_call k n given) (IsBusy [])
  commit_busy given is writer l at =
      let c : List ℕ = unwrap_or given [] in
      let l0 : Live = collecting (with_comment x.live c) true in
      collected_busy p k x found l0 l c true refl
      (act_live (without_read_keys (record k { sessions = with_call k.sessions n pending.Commit }) x.live.me) l0 true (first_act l0 true) l
      (subst (λ (o : Option ℕ). live_at (commit_at k n c x o).after x.live.me ≡ Some l) writer (subst (λ (d : TurnDraft). live_at d.after x.live.me ≡ Some l) (commit_is given None is) at)))

  -- that of a READ ONLY transaction ends it
  pub commit_gone : (given : Option (List ℕ)) → (session_at k.sessions n).code ≡ None → (scn : ℕ) → x.live.read_at ≡ Some scn → After (commit_call k n given) (λ l. ⊥)
  commit_gone given is scn reads l at =
      let gone_at : live_at (leaves k n dones.Committed x).after x.live.me ≡ Some l
      = subst (λ (o : Option ℕ). live_at (commit_at k n (unwrap_or given []) x o).after x.live.me ≡ Some l) reads (subst (λ (d : TurnDraft). live_at d.after x.live.me ≡ Some l) (commit_is given None is) at) in
      let none : live_at (leaves k n dones.Committed x).after x.live.me ≡ None = drop_gone live_id k.lives x.live.me in
      absurd (cc (none, gone_at))

  pub commit_same : (given : Option (List ℕ)) (c : ℕ) → (session_at k.sessions n).code ≡ Some c → After (commit_call k n given) (λ l. l ≡ x.live)
  commit_same given c is l at = same_live l (subst (λ (d : TurnDraft). live_at d.after x.live.me ≡ Some l) (commit_is given (Some c) is) at)

  pub commit_kept : (given : Option (List ℕ)) (c : ℕ) → (session_at k.sessions n).code ≡ Some c → live_at (commit_call k n given).after x.live.me ≡ Some x.live
  commit_kept given c is = subst (λ (d : TurnDraft). live_at d.after x.live.me ≡ Some x.live) (sym (commit_is given (Some c) is)) (live_so k x.live.me x found)

  pub commit_refused : (given : Option (List ℕ)) (c : ℕ) → (session_at k.sessions n).code ≡ Some c → is_refused (answered_by (Some (output_of (commit_call k n given)))) ≡ true
  commit_refused given c is = ap (λ d. is_refused (answered_by (Some (output_of d)))) (commit_is given (Some c) is)

  -- ---- ROLLBACK, and a call that is given up

  pub rollback_gone : After (rollback_by k n (root_at k n)) (λ l. ⊥)
  rollback_gone l at =
      let at_x : live_at (rollback_by k n (Some x)).after x.live.me ≡ Some l = subst (λ o. live_at (rollback_by k n o).after x.live.me ≡ Some l) root_is at in
      let none : live_at (rollback_by k n (Some x)).after x.live.me ≡ None = drop_gone live_id k.lives x.live.me in
      absurd (cc (none, at_x))

  give_up_so : (c : PendingCall) → After (give_up_by k n (Some x.live.me) c) (λ l. (l ≡ x.live) × (c ≢ pending.Commit))
  give_up_so pending.NoCall l at = (same_live l at, (λ is. absurd cc))
  give_up_so pending.Statement l at =
      (put_so (branch_at k x.live.me) found l at, (λ is. absurd cc))
    where
      put_so : (o : Option Branch) → o ≡ Some x → (l : Live) → live_at (statement_given_up k n o).after x.live.me ≡ Some l → l ≡ x.live
      put_so o is l at = (let it : Some x.live ≡ Some l = sym (put_found live_id k.lives x.live) ∙ subst (λ q. live_at (statement_given_up k n q).after x.live.me ≡ Some l) is at in let here : l ≡ x.live = cc in here)
  give_up_so pending.Commit l at =
      let at_x : live_at (commit_given_up k x.live.me (Some x.live)).after x.live.me ≡ Some l = subst (λ o. live_at (commit_given_up k x.live.me o).after x.live.me ≡ Some l) (live_so k x.live.me x found) at in
      let none : live_at (commit_given_up k x.live.me (Some x.live)).after x.live.me ≡ None = drop_gone live_id k.lives x.live.me in
      absurd (cc (none, at_x))

  pub given_up_so : After (give_up_turn k n) (λ l. (l ≡ x.live) × ((session_at k.sessions n).call ≢ pending.Commit))
  given_up_so l at = give_up_so (session_at k.sessions n).call l (subst (λ o. live_at (give_up_by k n o (session_at k.sessions n).call).after x.live.me ≡ Some l) has at)

-- ---- a statement within the transaction, in a session that has one

module _ (p : Place) (k : NodeState) (n : ℕ) (x : Branch) (found : branch_at k x.live.me ≡ Some x) (has : (session_at k.sessions n).root ≡ Some x.live.me) where
  abbrev j : NodeState
  j = counted k n

  has_counted : (session_at j.sessions n).root ≡ Some x.live.me
  has_counted = ap (λ (s : Session). s.root) (counted_session k.sessions n n (session_at k.sessions n).root).1 ∙ has

  found_counted : branch_at j x.live.me ≡ Some x
  found_counted = found

  begun_same : begun p k n ≡ j
  begun_same = ap (λ o. counted (begun_by p k n None o) n) has

  abbrev StaysAlike : TurnDraft → Type 0
  StaysAlike d = (l : Live) → live_at d.after x.live.me ≡ Some l → Alike x.live l

  row_so : (s : Stmt) → StaysAlike (statement_call p (begun p k n) n s)
  row_so s = subst (λ (i : NodeState). StaysAlike (statement_call p i n s)) (sym begun_same) (at_root_so p j n x found_counted has_counted s)

  pub within_alike : (s : Stmt) → is_within s ≡ true → StaysAlike (call_turn p k n s)
  within_alike (stmts.Insert table columns given) within = row_so (stmts.Insert table columns given)
  within_alike (stmts.Update table sets cs) within = row_so (stmts.Update table sets cs)
  within_alike (stmts.Delete table cs) within = row_so (stmts.Delete table cs)
  within_alike (stmts.Select list table cs for_update) within = row_so (stmts.Select list table cs for_update)
  within_alike (stmts.Savepoint name) within = subst (λ (i : NodeState). StaysAlike (savepoint_call i n name)) (sym begun_same) (at_root_marks p j n x found_counted has_counted name)
  within_alike (stmts.RollbackTo name) within = at_root_backs p j n x found_counted has_counted name
  within_alike stmts.SetReadOnly within =
      subst (λ (o : Option BranchId). StaysAlike (read_only_by p k n o)) (sym has) (λ l at. kept_alike p k x found l at)
  within_alike _ within = absurd cc
