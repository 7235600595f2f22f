-- Nodes that differ in which rows are hidden alone do the same about each call of a client but a purge, about a call that is given
-- up, and when they recover.
use Rattle.std.proofs.Common.{◌≡◌, ℕ, ◌+◌, ◌++◌, ◌&&◌, Bool, true, false, true≢false, if◌then◌else◌, List, [], ◌∷◌, filter, flat_map, fold, map, not, unwrap_or, Option, Some, None, Result, Ok, Err, refl, sym, ap, subst, ◌∙◌}
use Rattle.std.specs.Prelude.{is_some}
use Rattle.reco.specs.Asks.{to_one, put_asking, asks_live, asks_kept, acks_again, missing, recovers}
use Rattle.force_cmds.specs.Named.{named_among}
use Rattle.force_cmds.specs.declared.id_names.IdNames.TheVariants as id_names
use Rattle.prepare_phase.specs.Acts.{first_act}
use Rattle.node_rules.specs.Data.{Answer, BranchId, Decision, Done, Input, KeptRow, Live, Msg, Place, Post, RedoRecord, Refusal, Stmt}
use Rattle.node_rules.specs.declared.session.PendingCall.{PendingCall}
use Rattle.node_rules.specs.declared.session.PendingCall.TheVariants as pending
use Rattle.node_rules.specs.Data.decisions
use Rattle.node_rules.specs.Data.dones
use Rattle.node_rules.specs.Data.inputs
use Rattle.node_rules.specs.Data.kinds
use Rattle.node_rules.specs.Data.params
use Rattle.node_rules.specs.Data.records
use Rattle.node_rules.specs.Data.stmts
use Rattle.node_rules.specs.Client.{refuses, begun_by, begun, root_by, root_at, statement_by, statement_call, commit_by, commit_call, rollback_by, writes, is_used, is_link, call_turn, read_turn, given_up_code, commit_given_up, statement_given_up, give_up_by, commit_at, counted, is_write, read_only_by, savepoint_by, savepoint_call, back_to_savepoint, back_by, back_call}
use Rattle.node_rules.specs.Commit.{beyond}
use Rattle.node_rules.specs.Force.{is_named_by, branch_to_force, one_named, forces, force_commit, force_rollback}
use Rattle.node_rules.specs.NodeState.{NodeState, Branch, ending, branch_at, live_at, kept_row_at, kept_row_id, with_work}
use Rattle.node_rules.specs.Prepare.{collecting, with_comment, without_read_keys}
use Rattle.node_rules.specs.Recovery.{Asking, recovery}
use Rattle.node_rules.specs.Sessions.{session_at, with_call, commit_ended, commit_answer, tran_refusal}
use Rattle.node_rules.specs.Turn.{clock_raised_by, draft_of, turn_of}
use Rattle.node_rules.specs.Words.{item_at}
use Rattle.node_rules.specs.Calls.{statement_at}
use Rattle.node_rules.specs.Marks.{savepoint_at}
use Rattle.node_rules.specs.Refusals.{dtx}
use Rattle.node_purge_laws.specs.PurgeLaws.{row_as, RowsLike, rows_of, with_rows, IsLike, ActsLike, is_purge, PurgesChangeNothingElse}
use Rattle.node_purge_laws.proofs.RowLikeLemmas.{OneLike, FoundLike, IsBlind, blind_by, drop_one, id_same, found_like}
use Rattle.node_purge_laws.proofs.LikeLemmas.{DraftsLike, ActsSame, all_acked_same, beyond_same, sessions_like, recorded, rests, act_like, statement_like, acts_like, acts_same, kind_like, stand_like, back_like}
use Rattle.node_purge_laws.proofs.ImageLikeLemmas.{DraftsAlike, drafts_alike, checkpoint_alike}

-- ---- what does not see rows

module _ (k : NodeState) (ks : List KeptRow) (like : RowsLike (rows_of k) ks) where
  abbrev other : NodeState
  other = with_rows k ks

  ends_like : (n : ℕ) (a : Answer) → DraftsLike (ending k n a) (ending other n a)
  ends_like n a = record { wrote = refl; says = refl; ended = refl; after = record { same = refl; rows = like } }

  writes_like : (n : ℕ) (r : RedoRecord) (d : Done) → DraftsLike (writes k n r d) (writes other n r d)
  writes_like n r d = record { wrote = refl; says = refl; ended = refl; after = recorded k ks like r }

  makes_like : (q : Bool) (n : ℕ) (refusal : Refusal) (r : RedoRecord) (d : Done) → DraftsLike (if q then refuses k n refusal else writes k n r d) (if q then refuses other n refusal else writes other n r d)
  makes_like true n refusal r d = ends_like n _
  makes_like false n refusal r d = writes_like n r d

  work_same : (o : Option Live) → with_work other o ≡ with_work k o
  work_same None = refl
  work_same (Some l) = refl

  root_same : (o : Option BranchId) → root_by other o ≡ root_by k o
  root_same None = refl
  root_same (Some root) = work_same (live_at k root)

  statement_by_like : (p : Place) (n : ℕ) (s : Stmt) (code : Option ℕ) (o : Option Branch) → DraftsLike (statement_by p k n s code o) (statement_by p other n s code o)
  statement_by_like p n s code None = rests k ks like
  statement_by_like p n s (Some c) (Some x) = ends_like n _
  statement_by_like p n s None (Some x) = allowed_like (is_some x.live.read_at && is_write s)
    where
      allowed_like : (q : Bool) → DraftsLike (if q then refuses k n (dtx 21 []) else statement_at p k x s 0) (if q then refuses other n (dtx 21 []) else statement_at p other x s 0)
      allowed_like true = ends_like n _
      allowed_like false = statement_like k ks like p x s 0

  statement_call_like : (p : Place) (n : ℕ) (s : Stmt) → DraftsLike (statement_call p k n s) (statement_call p other n s)
  statement_call_like p n s =
      subst (λ o. DraftsLike (statement_call p k n s) (statement_by p other n s (session_at k.sessions n).code o)) (sym (root_same (session_at k.sessions n).root))
      (statement_by_like p n s (session_at k.sessions n).code (root_at k n))

  commit_at_like : (n : ℕ) (comment : List ℕ) (x : Branch) (o : Option ℕ) → DraftsLike (commit_at k n comment x o) (commit_at other n comment x o)
  commit_at_like n comment x (Some scn) = record { wrote = refl; says = refl; ended = refl; after = record { same = refl; rows = like } }
  commit_at_like n comment x None =
      let l : Live = with_comment x.live comment in
      act_like (without_read_keys (record k { sessions = with_call k.sessions n pending.Commit }) l.me) ks like (collecting l true) true (first_act (collecting l true) true)

  commit_by_like : (n : ℕ) (comment : List ℕ) (code : Option ℕ) (o : Option Branch) → DraftsLike (commit_by k n comment code o) (commit_by other n comment code o)
  commit_by_like n comment code None = ends_like n _
  commit_by_like n comment (Some c) (Some x) = ends_like n _
  commit_by_like n comment None (Some x) = commit_at_like n comment x x.live.read_at

  savepoint_by_like : (n : ℕ) (name : List ℕ) (code : Option ℕ) (o : Option Branch) → DraftsLike (savepoint_by k n name code o) (savepoint_by other n name code o)
  savepoint_by_like n name code None = rests k ks like
  savepoint_by_like n name (Some c) (Some x) = ends_like n _
  savepoint_by_like n name None (Some x) = record { wrote = refl; says = refl; ended = refl; after = record { same = refl; rows = like } }

  to_savepoint_like : (n : ℕ) (name : List ℕ) (x : Branch) (o : Option ℕ) → DraftsLike (back_to_savepoint k n name x o) (back_to_savepoint other n name x o)
  to_savepoint_like n name x None = ends_like n _
  to_savepoint_like n name x (Some step) = back_like k ks like x step

  back_by_like : (n : ℕ) (name : List ℕ) (code : Option ℕ) (o : Option Branch) → DraftsLike (back_by k n name code o) (back_by other n name code o)
  back_by_like n name code None = ends_like n _
  back_by_like n name (Some c) (Some x) = ends_like n _
  back_by_like n name None (Some x) = to_savepoint_like n name x (savepoint_at x.work.marks name)

  read_only_like : (p : Place) (n : ℕ) (o : Option BranchId) → DraftsLike (read_only_by p k n o) (read_only_by p other n o)
  read_only_like p n (Some root) = ends_like n _
  read_only_like p n None = record { wrote = refl; says = refl; ended = refl; after = record { same = refl; rows = like } }

  rollback_by_like : (n : ℕ) (o : Option Branch) → DraftsLike (rollback_by k n o) (rollback_by other n o)
  rollback_by_like n None = ends_like n _
  rollback_by_like n (Some x) = record { wrote = refl; says = refl; ended = refl; after = record { same = refl; rows = like } }

  forces_like : (n : ℕ) (b : BranchId) (d : Decision) (given : Bool) (a : Answer) → DraftsLike (forces k n b d given a) (forces other n b d given a)
  forces_like n b d given a = record { wrote = refl; says = refl; ended = refl; after = sessions_like (commit_ended k.sessions b) (recorded k ks like (records.Forced b d given)) }

-- ---- statements of a client

module _ (k : NodeState) (ks : List KeptRow) (like : RowsLike (rows_of k) ks) (p : Place) where
  begun_by_same : (n : ℕ) (o : Option BranchId) → begun_by p (with_rows k ks) n None o ≡ with_rows (begun_by p k n None o) ks
  begun_by_same n None = refl
  begun_by_same n (Some root) = refl

  begun_same : (n : ℕ) → begun p (with_rows k ks) n ≡ with_rows (begun p k n) ks
  begun_same n = ap (λ z. counted z n) (begun_by_same n (session_at k.sessions n).root)

  rows_call_like : (n : ℕ) (s : Stmt) → DraftsLike (statement_call p (begun p k n) n s) (statement_call p (begun p (with_rows k ks) n) n s)
  rows_call_like n s =
      subst (λ z. DraftsLike (statement_call p (begun p k n) n s) (statement_call p z n s)) (sym (begun_same n)) (statement_call_like (begun p k n) ks like p n s)

  filter_like : (test : KeptRow → Bool) → IsBlind test → (xs ys : List KeptRow) → RowsLike xs ys → RowsLike (filter test xs) (filter test ys)
  filter_like test blind [] [] like = tt
  filter_like test blind [] (y ∷ ys) like = absurd like
  filter_like test blind (x ∷ xs) [] like = absurd like
  filter_like test blind (x ∷ xs) (y ∷ ys) like =
      subst (λ (q : Bool). RowsLike (filter test (x ∷ xs)) (if q then y ∷ filter test ys else filter test ys)) (sym (blind_by test blind x y like.0))
      (drop_one test blind (test x) x y (filter test xs) (filter test ys) like.0 (filter_like test blind xs ys like.1))

  named_like : (xs ys : List KeptRow) → RowsLike xs ys → named_among ys ≡ named_among xs
  named_like [] [] like = refl
  named_like [] (y ∷ ys) like = absurd like
  named_like (x ∷ xs) [] like = absurd like
  named_like (x ∷ []) (y ∷ []) like = ap id_names.One (id_same x y like.0)
  named_like (x ∷ []) (y ∷ z ∷ ys) like = absurd like.1
  named_like (x ∷ v ∷ xs) (y ∷ []) like = absurd like.1
  named_like (x ∷ v ∷ xs) (y ∷ z ∷ ys) like = ap (λ m. id_names.Several m z.me) (id_same x y like.0) ∙ ap (λ m. id_names.Several x.me m) (id_same v z like.1.0)

  force_same : (id : List ℕ) → branch_to_force p.names ks id ≡ branch_to_force p.names (rows_of k) id
  unfolding branch_to_force
  force_same id = ap (one_named id) (named_like (filter (is_named_by p.names id) (rows_of k)) (filter (is_named_by p.names id) ks) (filter_like (is_named_by p.names id) (λ x h. refl) (rows_of k) ks like))

  force_commit_like : (n : ℕ) (scn : Option ℕ) (o : Result BranchId Refusal) → DraftsLike (force_commit k n scn o) (force_commit (with_rows k ks) n scn o)
  force_commit_like n scn (Err refusal) = ends_like k ks like n _
  force_commit_like n (Some m) (Ok b) = forces_like k ks like n b (decisions.Commit m) true _
  force_commit_like n None (Ok b) = forces_like (record k { clock = k.clock + 1 }) ks like n b (decisions.Commit (k.clock + 1)) false _

  force_rollback_like : (n : ℕ) (o : Result BranchId Refusal) → DraftsLike (force_rollback k n o) (force_rollback (with_rows k ks) n o)
  force_rollback_like n (Err refusal) = ends_like k ks like n _
  force_rollback_like n (Ok b) = forces_like k ks like n b decisions.Rollback false _

  call_like : (n : ℕ) (s : Stmt) → is_purge (inputs.Call n (Some s)) ≡ false → DraftsLike (call_turn p k n s) (call_turn p (with_rows k ks) n s)
  call_like n (stmts.CreateTable t) plain = makes_like k ks like (is_used k.stored.durable t.name) n _ (records.Table t) dones.TableMade
  call_like n (stmts.CreateLink l) plain = makes_like k ks like (is_link k.stored.durable l.name) n _ (records.Link l) dones.LinkMade
  call_like n (stmts.CreateSynonym y) plain = makes_like k ks like (is_used k.stored.durable y.name) n _ (records.Synonym y) dones.SynonymMade
  call_like n (stmts.Insert table columns given) plain = rows_call_like n (stmts.Insert table columns given)
  call_like n (stmts.Update table sets cs) plain = rows_call_like n (stmts.Update table sets cs)
  call_like n (stmts.Delete table cs) plain = rows_call_like n (stmts.Delete table cs)
  call_like n (stmts.Select list table cs for_update) plain = rows_call_like n (stmts.Select list table cs for_update)
  call_like n (stmts.Commit comment) plain =
      subst (λ o. DraftsLike (commit_call k n comment) (commit_by (with_rows k ks) n (unwrap_or comment []) (session_at k.sessions n).code o)) (sym (root_same k ks like (session_at k.sessions n).root))
      (commit_by_like k ks like n (unwrap_or comment []) (session_at k.sessions n).code (root_at k n))
  call_like n (stmts.CommitForce id scn) plain =
      subst (λ o. DraftsLike (call_turn p k n (stmts.CommitForce id scn)) (force_commit (with_rows k ks) n scn o)) (sym (force_same id)) (force_commit_like n scn (branch_to_force p.names (rows_of k) id))
  call_like n stmts.Rollback plain =
      subst (λ o. DraftsLike (call_turn p k n stmts.Rollback) (rollback_by (with_rows k ks) n o)) (sym (root_same k ks like (session_at k.sessions n).root)) (rollback_by_like k ks like n (root_at k n))
  call_like n (stmts.RollbackForce id) plain =
      subst (λ o. DraftsLike (call_turn p k n (stmts.RollbackForce id)) (force_rollback (with_rows k ks) n o)) (sym (force_same id)) (force_rollback_like n (branch_to_force p.names (rows_of k) id))
  call_like n (stmts.Advise a) plain = record { wrote = refl; says = refl; ended = refl; after = record { same = refl; rows = like } }
  call_like n (stmts.Recovery on) plain = writes_like k ks like n (records.Param (params.Recovery on)) dones.SystemAltered
  call_like n (stmts.SetStrength strength) plain = writes_like k ks like n (records.Param (params.Strength strength)) dones.SystemAltered
  call_like n stmts.SetReadOnly plain = read_only_like k ks like p n (session_at k.sessions n).root
  call_like n (stmts.Savepoint name) plain =
      let j : NodeState = begun p k n in
      subst (λ z. DraftsLike (savepoint_call j n name) (savepoint_call z n name)) (sym (begun_same n))
      (subst (λ o. DraftsLike (savepoint_call j n name) (savepoint_by (with_rows j ks) n name (session_at j.sessions n).code o)) (sym (root_same j ks like (session_at j.sessions n).root))
      (savepoint_by_like j ks like n name (session_at j.sessions n).code (root_at j n)))
  call_like n (stmts.RollbackTo name) plain =
      let j : NodeState = counted k n in
      subst (λ o. DraftsLike (back_call j n name) (back_by (with_rows j ks) n name (session_at j.sessions n).code o)) (sym (root_same j ks like (session_at j.sessions n).root))
      (back_by_like j ks like n name (session_at j.sessions n).code (root_at j n))
  call_like n (stmts.PurgeMixed id) plain = absurd (true≢false plain)
  call_like n (stmts.PurgeLost id) plain = absurd (true≢false plain)

  read_like : (n : ℕ) (o : Option Stmt) → is_purge (inputs.Call n o) ≡ false → DraftsLike (read_turn p k n o) (read_turn p (with_rows k ks) n o)
  read_like n None plain = ends_like k ks like n _
  read_like n (Some s) plain = call_like n s plain

-- ---- a call that is given up, and RECO

module _ (k : NodeState) (ks : List KeptRow) (like : RowsLike (rows_of k) ks) where
  code_same : (o r : Option KeptRow) → FoundLike o r → given_up_code r ≡ given_up_code o
  code_same None None found = refl
  code_same None (Some y) found = absurd found
  code_same (Some x) None found = absurd found
  code_same (Some x) (Some y) found = ap (λ z. given_up_code (Some z)) found

  statement_given_up_like : (n : ℕ) (o : Option Branch) → DraftsLike (statement_given_up k n o) (statement_given_up (with_rows k ks) n o)
  statement_given_up_like n None = rests k ks like
  statement_given_up_like n (Some x) = record { wrote = refl; says = refl; ended = refl; after = record { same = refl; rows = like } }

  commit_given_up_like : (root : BranchId) (o : Option Live) → DraftsLike (commit_given_up k root o) (commit_given_up (with_rows k ks) root o)
  commit_given_up_like root (Some l) = record { wrote = refl; says = refl; ended = refl; after = record { same = refl; rows = like } }
  commit_given_up_like root None = record {
    wrote = refl;
    says = refl;
    ended = ap (λ c. commit_answer k.sessions root (tran_refusal c root)) (sym (code_same (kept_row_at k root) (item_at kept_row_id ks root) (found_like (rows_of k) ks root like)));
    after = record { same = refl; rows = like };
  }

  give_up_like : (n : ℕ) (o : Option BranchId) (c : PendingCall) → DraftsLike (give_up_by k n o c) (give_up_by (with_rows k ks) n o c)
  give_up_like n None c = rests k ks like
  give_up_like n (Some root) pending.NoCall = rests k ks like
  give_up_like n (Some root) pending.Statement =
      subst (λ o. DraftsLike (statement_given_up k n (branch_at k root)) (statement_given_up (with_rows k ks) n o)) (sym (work_same k ks like (live_at k root))) (statement_given_up_like n (branch_at k root))
  give_up_like n (Some root) pending.Commit = commit_given_up_like root (live_at k root)

  module _ (s : KeptRow) (h : Bool) where
    recovers_same : (o : Option Decision) → recovers (row_as s h) o ≡ recovers s o
    recovers_same None = refl
    recovers_same (Some (decisions.Commit n)) =
        ap (λ bs. missing s.me n bs ++ acks_again (row_as s h)) (beyond_same s h)
        ∙ ap (λ q. missing s.me n (beyond s) ++ (if q && not s.forgot then to_one s.me kinds.Ack s.toward else [])) (all_acked_same s h)
    recovers_same (Some decisions.Rollback) = refl

  abbrev asking_of : BranchId → List Post → Asking
  asking_of me says = record { me = me; says = says }

  asks_one : (x y : KeptRow) → OneLike x y → asks_kept y ≡ asks_kept x
  asks_one x y is = ap asks_kept is ∙ ap (asking_of x.me) (recovers_same x y.hidden x.decision)

  asks_same : (xs ys : List KeptRow) → RowsLike xs ys → map asks_kept xs ≡ map asks_kept ys
  asks_same [] [] like = refl
  asks_same [] (y ∷ ys) like = absurd like
  asks_same (x ∷ xs) [] like = absurd like
  asks_same (x ∷ xs) (y ∷ ys) like = ap (λ a. a ∷ map asks_kept xs) (sym (asks_one x y like.0)) ∙ ap (λ more. asks_kept y ∷ more) (asks_same xs ys like.1)

  recovery_like : DraftsLike (recovery k) (recovery (with_rows k ks))
  unfolding recovery
  recovery_like = record {
    wrote = refl;
    says = ap (λ asked. flat_map (λ a. a.says) (fold put_asking [] (map asks_live k.lives ++ asked))) (asks_same (rows_of k) ks like);
    ended = refl;
    after = record { same = refl; rows = like };
  }

  message_like : (p : Place) (m : Msg) → DraftsLike (draft_of p k (inputs.Message m)) (draft_of p (with_rows k ks) (inputs.Message m))
  message_like p m = kind_like p (clock_raised_by k m) ks like m.from m.to m.kind (stand_like (clock_raised_by k m) ks like m.to)

  input_like : (p : Place) (input : Input) → is_purge input ≡ false → DraftsAlike (draft_of p k input) (draft_of p (with_rows k ks) input)
  input_like p (inputs.Call n o) plain = drafts_alike (read_like k ks like p n o plain)
  input_like p (inputs.GiveUp n) plain = drafts_alike (give_up_like n (session_at k.sessions n).root (session_at k.sessions n).call)
  input_like p (inputs.Message m) plain = drafts_alike (message_like p m)
  input_like p inputs.Reco plain = drafts_alike recovery_like
  input_like p inputs.Checkpoint plain = checkpoint_alike k ks like

-- ---- turns

turn_like : (p : Place) (k : NodeState) (ks : List KeptRow) → RowsLike (rows_of k) ks → (input : Input) → is_purge input ≡ false → ActsLike (turn_of p k input) (turn_of p (with_rows k ks) input)
unfolding turn_of
turn_like p k ks like input plain = (let same = input_like k ks like p input plain in acts_like (draft_of p k input) (draft_of p (with_rows k ks) input) same.wrote same.says same.ended same.after)

turn_same : (p : Place) (k : NodeState) (ks : List KeptRow) → RowsLike (rows_of k) ks → (m : Msg) → ActsSame (turn_of p k (inputs.Message m)) (turn_of p (with_rows k ks) (inputs.Message m))
unfolding turn_of
turn_same p k ks like m = acts_same (draft_of p k (inputs.Message m)) (draft_of p (with_rows k ks) (inputs.Message m)) (message_like k ks like p m)

-- with a message both write the very same record
pub message_same : (p : Place) (k other : NodeState) → IsLike k other → (m : Msg) → ActsSame (turn_of p k (inputs.Message m)) (turn_of p other (inputs.Message m))
message_same p k other like m =
    subst (λ z. ActsSame (turn_of p k (inputs.Message m)) (turn_of p z (inputs.Message m))) (sym like.same) (turn_same p k (rows_of other) like.rows m)

pub purges_change_nothing_else : PurgesChangeNothingElse
purges_change_nothing_else p k other like input plain =
    subst (λ z. ActsLike (turn_of p k input) (turn_of p z input)) (sym like.same) (turn_like p k (rows_of other) like.rows input plain)
