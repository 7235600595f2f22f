-- While the COMMIT of a root is pending the root is live, or its row says that it is sealed and in doubt, or committed: each step of
-- a node leaves it so. A root that rolled back, forgot or was forced has no COMMIT pending.
use Rattle.std.proofs.Common.{◌≡◌, ◌≢◌, ℕ, ◌+◌, ◌⊎◌, Bool, true, false, if◌then◌else◌, List, [], ◌∷◌, ◌++◌, Option, Some, None, inl, inr, refl, sym, ap, subst, ◌∙◌}
use Rattle.tran_ids.proofs.BranchLemmas.{equal_from_same, same_from_equal}
use Rattle.tran_ids.proofs.ListedLemmas.{item_is, put_or_before, drop_leaves}
use Rattle.commit_forget.specs.declared.next.Next.TheVariants as nexts
use Rattle.session_tree.specs.Live.{is_branch, new_edge}
use Rattle.node_rules.specs.Data.{Act, BranchId, Decision, Input, KeptRow, Live, Next, Place, RedoRecord, Stmt}
use Rattle.node_rules.specs.Data.acts
use Rattle.node_rules.specs.Data.decisions
use Rattle.node_rules.specs.Data.inputs
use Rattle.node_rules.specs.Data.params
use Rattle.node_rules.specs.Data.phases
use Rattle.node_rules.specs.Data.records
use Rattle.node_rules.specs.Data.states
use Rattle.node_rules.specs.Data.stmts
use Rattle.node_rules.specs.declared.session.PendingCall.TheVariants as pending
use Rattle.node_rules.specs.declared.session.Session.{Session}
use Rattle.node_rules.specs.Calls.{heard_sessions, hears_reply, with_edge}
use Rattle.node_rules.specs.Client.{begun_by, counted, new_root}
use Rattle.node_rules.specs.Marks.{node_back}
use Rattle.node_rules.specs.Commit.{acked_by, next_turn}
use Rattle.node_rules.specs.Inputs.{IsCall, Brings, Commit_came, Rollback_came, Rolled_back_came}
use Rattle.node_rules.specs.Images.{image_at}
use Rattle.node_rules.specs.NodeState.{NodeState, Branch, Stored, TurnDraft, live_id, live_at, kept_row_id, kept_row_at, with_kept_row}
use Rattle.node_rules.specs.Prepare.{abandoned_sessions, act_turn, decided_of, is_alone, own_changes, ready, sealed_of}
use Rattle.node_rules.specs.Records.{applied}
use Rattle.node_rules.specs.Refusals.{dtx}
use Rattle.node_rules.specs.Sessions.{session_at, with_call, commit_ended}
use Rattle.node_rules.specs.Statement.{ran, after_run}
use Rattle.node_rules.specs.Words.{same, item_at, put_item, drop_item}
use Rattle.node_rules.proofs.StepLemmas.{branch_found, acting_live, acting_so}
use Rattle.node_rules.proofs.Steps as steps
use Rattle.node_rules.proofs.Steps.{Step, Acting, BeginsBy, Collected, Doing, Makes}
use Rattle.run_base_laws.proofs.BeginLemmas.{MayBegin, may_begin}
use Rattle.run_base_laws.proofs.RootLemmas.{SessionsFit, session_or_before, root_alone, begun_so, counted_so, back_so, counted_session, pends_so}
use Rattle.run_branch_laws.proofs.QuietLemmas.{NoRows, acting_apart, came_apart}
use Rattle.run_ready_laws.proofs.RootLiveLemmas.{RollsBelow}
use Rattle.commit_answer_laws.proofs.AloneLemmas.{others_are_kept}
use Rattle.commit_answer_laws.proofs.EndStepLemmas.{PreparesBelow}
use Rattle.commit_answer_laws.proofs.StillLemmas.{Still, Less, set_other, set_same, done_less, ended_less, abandoned_less, none_still, counted_still, answered_still, goes_still, heard_still}
use Rattle.commit_answer_laws.proofs.RowHoldLemmas.{StandsWell, well_row, HasRow, Spares, row_applied, sealed_row, decided_row}

-- ---- what holds

-- a branch is live, or has such a row
abbrev pub Holds : List Live → List KeptRow → BranchId → Type 0
Holds ls ks b = ((l : Live) × (item_at live_id ls b ≡ Some l)) ⊎ HasRow ks b

-- so is each root whose COMMIT is pending
abbrev pub AllHold : List Session → List Live → List KeptRow → Type 0
AllHold ss ls ks = (n : ℕ) (b : BranchId) → (session_at ss n).root ≡ Some b → (session_at ss n).call ≡ pending.Commit → Holds ls ks b

abbrev pub RootsHold : NodeState → Type 0
RootsHold k = AllHold k.sessions k.lives k.stored.durable.kept

-- ---- branches

apart : (a b : BranchId) → a ≢ b → same a b ≡ false
apart a b other = by (same a b) refl
  where
    by : (q : Bool) → same a b ≡ q → q ≡ false
    by true is = absurd (other (equal_from_same a b is))
    by false is = refl

module _ (ls : List Live) (ks : List KeptRow) (b : BranchId) where
  put_holds : (y : Live) → Holds ls ks b → Holds (put_item live_id ls y) ks b
  put_holds y (inl live) = elim (put_or_before live_id ls y b) [ inl still ↦ inl (live.0, still ∙ live.1) | inr new ↦ inl (y, new.1) ]
  put_holds y (inr row) = inr row

  drop_holds : (c : BranchId) → b ≢ c → Holds ls ks b → Holds (drop_item live_id ls c) ks b
  drop_holds c other (inl live) = inl (live.0, drop_leaves live_id ls c b (apart c b (λ is. other (sym is))) ∙ live.1)
  drop_holds c other (inr row) = inr row

-- what is found is found with more behind it
more_holds : (ls zs : List Live) (ks : List KeptRow) (b : BranchId) → Holds ls ks b → Holds (ls ++ zs) ks b
more_holds ls zs ks b (inl live) = inl (live.0, found ls live.1)
  where
    found : (xs : List Live) → item_at live_id xs b ≡ Some live.0 → item_at live_id (xs ++ zs) b ≡ Some live.0
    found [] is = absurd cc
    found (x ∷ xs) is = by (same x.me b) is (found xs)
      where
        by : (q : Bool) → (if q then Some x else item_at live_id xs b) ≡ Some live.0 → (item_at live_id xs b ≡ Some live.0 → item_at live_id (xs ++ zs) b ≡ Some live.0) → (if q then Some x else item_at live_id (xs ++ zs) b) ≡ Some live.0
        by true is rest = is
        by false is rest = rest is
more_holds ls zs ks b (inr row) = inr row

write_holds : (ls : List Live) (s : Stored) (b : BranchId) (r : RedoRecord) → Spares b r → Holds ls s.durable.kept b → Holds ls (applied s r).durable.kept b
write_holds ls s b r spares (inl live) = inl live
write_holds ls s b r spares (inr row) = inr (row_applied b s r spares row)

-- a decision is met by a row that is forced
meets_forced : {clock : ℕ} {input : Input} {s : KeptRow} {from : BranchId} {d : Decision} {mixed : Bool} → Doing clock input s from (nexts.Meet d mixed)
    → Brings input from s.me d × (s.state ≢ states.Sealed) × (s.state ≢ states.Committed)
meets_forced (steps.Meets_so d brings toward none unsealed uncommitted met) = (brings, unsealed, uncommitted)

-- ---- what is known where a step begins

parent_some : (b : BranchId) (o : Option BranchId) → is_branch b o ≡ true → o ≢ None
parent_some b o is none = let it = branch_found b o is in absurd (cc (it, none))

-- Sessions fit; no Rollback and no Prepare comes to a root; the walk comes to a root that collects; no statement that begins a
-- transaction comes to a session whose COMMIT is pending; a live branch has no row.
pub record Known (input : Input) (k : NodeState) : Type 0 where
  pub fit : SessionsFit k
  pub rolls : RollsBelow input k
  pub prepared : PreparesBelow input k
  pub way : NoRows input → (l : Live) → live_at k l.me ≡ Some l → l.parent ≡ None → l.phase ≢ phases.Collecting false
  pub free : (n : ℕ) (s : Stmt) → IsCall input n s → MayBegin s → (session_at k.sessions n).call ≢ pending.Commit
  pub alone : NoRows input → (b : BranchId) (l : Live) → live_at k b ≡ Some l → kept_row_at k b ≡ None

module _ (input : Input) (k : NodeState) (now : Known input k) (holds : RootsHold k) where
  -- the session's transaction is a root
  is_top : (m : ℕ) (l : Live) → live_at k l.me ≡ Some l → (session_at k.sessions m).root ≡ Some l.me → l.parent ≡ None
  is_top m l live has = root_alone k now.fit m l.me has l live

  kept_by : (zs : List Session) (ls : List Live) (ks : List KeptRow) → ((m : ℕ) → Still k.sessions m zs) → ((b : BranchId) → Holds k.lives k.stored.durable.kept b → Holds ls ks b) → AllHold zs ls ks
  kept_by zs ls ks still on n b has commits = let was = still n b has commits in on b (holds n b was.0 was.1)

  kept_less : (c : BranchId) (zs : List Session) (ls : List Live) (ks : List KeptRow) → ((m : ℕ) → Less k.sessions m c zs) → ((b : BranchId) → b ≢ c → Holds k.lives k.stored.durable.kept b → Holds ls ks b) → AllHold zs ls ks
  kept_less c zs ls ks less on n b has commits = let was = less n b has commits in on b was.2 (holds n b was.0 was.1)

  -- another branch than this is the root
  none_less : (c : BranchId) → ((m : ℕ) → (session_at k.sessions m).root ≡ Some c → ⊥) → (m : ℕ) → Less k.sessions m c k.sessions
  none_less c never m b has commits = (has, commits, λ same. never m (has ∙ ap Some same))

  -- ---- the prepare phase

  none_off : {l : Live} {sb : Bool} → Collected l sb acts.SayReadOnly → sb ≡ false
  none_off (steps.Has_nothing is) = refl

  quiet_below : {l : Live} {sb : Bool} → Acting k input l sb acts.SayReadOnly → l.parent ≢ None
  quiet_below (steps.Has_no_children l comment sb _ found (steps.By_commit n given call has code writer is) none collected) = absurd (let off = none_off collected in cc)
  quiet_below (steps.Has_no_children l comment sb _ found (steps.By_prepare from _ came working) none collected) = now.prepared from l.me sb comment came l found
  quiet_below (steps.Hears_last l from v sb _ found answers other all collected) = λ top. now.way (λ n st call rows. came_apart n st answers.came call) l found top (answers.collecting ∙ ap phases.Collecting (none_off collected))
  quiet_below (steps.At_point l from _ found came is pointed) = elim pointed [ ]

  acting_top : {l : Live} {sb : Bool} {a : Act} → Acting k input l sb a → (m : ℕ) → (session_at k.sessions m).root ≡ Some l.me → l.parent ≡ None
  acting_top why = acting_so (λ y. (m : ℕ) → (session_at k.sessions m).root ≡ Some y.me → y.parent ≡ None) (λ y comment sb q. q) (λ y from v q. q)
      (λ b y found m has. is_top m y (subst (λ c. live_at k c ≡ Some y) (sym (item_is live_id k.lives b y found)) found) has) why

  no_row : (l : Live) {sb : Bool} {a : Act} → Acting k input l sb a → (b : BranchId) → b ≡ l.me → item_at kept_row_id k.stored.durable.kept b ≡ None
  no_row l why b me = (let live = acting_live why in subst (λ c. kept_row_at k c ≡ None) (sym me) (now.alone (acting_apart why) l.me live.0 live.1))

  -- the record of a branch that becomes sealed
  abbrev seal_of : Live → Option ℕ → RedoRecord
  seal_of l path = records.Sealed (sealed_of k.clock l (own_changes k l.me) path)

  seals : (l : Live) {sb : Bool} {a : Act} → Acting k input l sb a → (path : Option ℕ) → (b : BranchId) → Holds k.lives k.stored.durable.kept b → (w : Bool) → same b l.me ≡ w
      → Holds (drop_item live_id k.lives l.me) (applied k.stored (seal_of l path)).durable.kept b
  seals l why path b was true here = (let me : b ≡ l.me = equal_from_same b l.me here in inr (sealed_row b k.stored (sealed_of k.clock l (own_changes k l.me) path) (sym me) (no_row l why b me)))
  seals l why path b was false off =
      let other : b ≢ l.me = (λ me. (let yes = same_from_equal b l.me me in cc (yes, off))) in
      write_holds (drop_item live_id k.lives l.me) k.stored b (seal_of l path) (λ same. other (sym same)) (drop_holds k.lives k.stored.durable.kept b l.me other was)

  seal_holds : (l : Live) {sb : Bool} {a : Act} → Acting k input l sb a → (path : Option ℕ)
      → AllHold k.sessions (drop_item live_id k.lives l.me) (applied k.stored (seal_of l path)).durable.kept
  seal_holds l why path = λ n b has commits. seals l why path b (holds n b has commits) (same b l.me) refl

  -- the record of a site that decides
  abbrev decision_of : Live → RedoRecord
  decision_of l = records.Decided (decided_of (k.clock + 1) l (own_changes k l.me))

  other_decides : (l : Live) (b : BranchId) → b ≢ l.me → Holds k.lives k.stored.durable.kept b → Holds (drop_item live_id k.lives l.me) (applied k.stored (decision_of l)).durable.kept b
  other_decides l b other was = write_holds (drop_item live_id k.lives l.me) k.stored b (decision_of l) (λ same. other (sym same)) (drop_holds k.lives k.stored.durable.kept b l.me other was)

  site_decides : (l : Live) {sb : Bool} {a : Act} → Acting k input l sb a → is_alone l ≡ false → (b : BranchId) → Holds k.lives k.stored.durable.kept b → (w : Bool) → same b l.me ≡ w
      → Holds (drop_item live_id k.lives l.me) (applied k.stored (decision_of l)).durable.kept b
  site_decides l why is b was true here =
      let me : b ≡ l.me = equal_from_same b l.me here in
      inr (decided_row b k.stored (decided_of (k.clock + 1) l (own_changes k l.me)) (sym me) (others_are_kept (k.clock + 1) l (own_changes k l.me) is) (no_row l why b me))
  site_decides l why is b was false off = other_decides l b (λ me. (let yes = same_from_equal b l.me me in cc (yes, off))) was

  decide_holds : (l : Live) {sb : Bool} {a : Act} → Acting k input l sb a → (q : Bool) → is_alone l ≡ q
      → AllHold (if q then commit_ended k.sessions l.me else k.sessions) (drop_item live_id k.lives l.me) (applied k.stored (decision_of l)).durable.kept
  decide_holds l why true is = kept_less l.me (commit_ended k.sessions l.me) (drop_item live_id k.lives l.me) (applied k.stored (decision_of l)).durable.kept (λ m. ended_less k.sessions m now.fit.roots l.me) (other_decides l)
  decide_holds l why false is = λ n b has commits. site_decides l why is b (holds n b has commits) (same b l.me) refl

  act_holds : (l : Live) (sb : Bool) (a : Act) → Acting k input l sb a → RootsHold (act_turn k l sb a).after
  act_holds l sb acts.Rest why = kept_by k.sessions _ k.stored.durable.kept (λ m. none_still k.sessions m) (λ b. put_holds k.lives k.stored.durable.kept b l)
  act_holds l sb acts.AskDown why = kept_by k.sessions _ k.stored.durable.kept (λ m. none_still k.sessions m) (λ b. put_holds k.lives k.stored.durable.kept b l)
  act_holds l sb acts.SayReady why = kept_by k.sessions _ k.stored.durable.kept (λ m. none_still k.sessions m) (λ b. put_holds k.lives k.stored.durable.kept b (ready l))
  act_holds l sb acts.SayReadOnly why =
      kept_less l.me k.sessions _ k.stored.durable.kept (none_less l.me (λ m has. quiet_below why (acting_top why m has))) (λ b. drop_holds k.lives k.stored.durable.kept b l.me)
  act_holds l sb acts.Seal why = seal_holds l why None
  act_holds l sb (acts.SealAndPass i) why = seal_holds l why (Some i)
  act_holds l sb acts.Decide why = decide_holds l why (is_alone l) refl
  act_holds l sb acts.Finish why = kept_less l.me (commit_ended k.sessions l.me) _ k.stored.durable.kept (λ m. ended_less k.sessions m now.fit.roots l.me) (λ b. drop_holds k.lives k.stored.durable.kept b l.me)
  act_holds l sb acts.Abandon why =
      kept_less l.me (abandoned_sessions k.sessions l l.parent) _ k.stored.durable.kept (λ m. abandoned_less k.sessions m now.fit.roots l l.parent (acting_top why m)) (λ b. drop_holds k.lives k.stored.durable.kept b l.me)

  -- ---- kept branches

  brings_apart : {from to : BranchId} {d : Decision} → Brings input from to d → NoRows input
  brings_apart (Commit_came n came) m st call rows = came_apart m st came call
  brings_apart (Rollback_came came) m st call rows = came_apart m st came call
  brings_apart (Rolled_back_came came) m st call rows = came_apart m st came call

  -- the row of a root whose COMMIT is pending is not forced, where it has one
  unforced : NoRows input → (s : KeptRow) → steps.IsKept k s → (n : ℕ) → (session_at k.sessions n).root ≡ Some s.me → (session_at k.sessions n).call ≡ pending.Commit → StandsWell s.state s.decision s.forgot
  unforced quiet s kept n has commits = elim (holds n s.me has commits) [
    | inl live ↦ (let none = now.alone quiet s.me live.0 live.1 in absurd (cc (none, kept)))
    | inr row ↦ (let both : Some row.0 ≡ Some s = sym row.1 ∙ kept in let one : row.0 ≡ s = cc in subst (λ (x : KeptRow). StandsWell x.state x.decision x.forgot) one row.2)
  ]

  -- what a kept branch does next
  does_holds : (s : KeptRow) (from : BranchId) (x : Next) → steps.IsKept k s → Doing k.clock input s from x → RootsHold (next_turn k s from x).after
  does_holds s from nexts.Rest kept why = holds
  does_holds s from nexts.AckToward kept why = holds
  does_holds s from nexts.SayForgotten kept why = holds
  does_holds s from nexts.SayAck kept why = holds
  does_holds s from (nexts.End (decisions.Commit i)) kept why =
      kept_by k.sessions k.lives (applied k.stored (records.Ended s.me (decisions.Commit i))).durable.kept (λ m. none_still k.sessions m) (λ b was. write_holds k.lives k.stored b (records.Ended s.me (decisions.Commit i)) tt was)
  does_holds s from (nexts.End decisions.Rollback) kept why =
      kept_less s.me (commit_ended k.sessions s.me) k.lives (applied k.stored (records.Ended s.me decisions.Rollback)).durable.kept (λ m. ended_less k.sessions m now.fit.roots s.me)
      (λ b other was. write_holds k.lives k.stored b (records.Ended s.me decisions.Rollback) (λ same. other (sym same)) was)
  does_holds s from (nexts.Meet d mixed) kept why = meets d why
    where
      never : (e : Decision) → Doing k.clock input s from (nexts.Meet e mixed) → (n : ℕ) → (session_at k.sessions n).root ≡ Some s.me → (session_at k.sessions n).call ≡ pending.Commit → ⊥
      never e so n has commits = (let parts = meets_forced so in well_row s (unforced (brings_apart parts.0) s kept n has commits) (λ sealed none fresh. parts.1 sealed) (λ i committed known fresh. parts.2 committed))

      less : (e : Decision) → Doing k.clock input s from (nexts.Meet e mixed) → (m : ℕ) → Less k.sessions m s.me k.sessions
      less e so m b has commits = (has, commits, λ same. never e so m (has ∙ ap Some same) commits)

      meets : (e : Decision) → Doing k.clock input s from (nexts.Meet e mixed) → RootsHold (next_turn k s from (nexts.Meet e mixed)).after
      meets (decisions.Commit i) so =
          kept_less s.me k.sessions k.lives (applied k.stored (records.Met s.me (decisions.Commit i) mixed)).durable.kept (less (decisions.Commit i) so)
          (λ b other was. write_holds k.lives k.stored b (records.Met s.me (decisions.Commit i) mixed) (λ same. other (sym same)) was)
      meets decisions.Rollback so =
          kept_less s.me (commit_ended k.sessions s.me) k.lives (applied k.stored (records.Met s.me decisions.Rollback mixed)).durable.kept (λ m. ended_less k.sessions m now.fit.roots s.me)
          (λ b other was. write_holds k.lives k.stored b (records.Met s.me decisions.Rollback mixed) (λ same. other (sym same)) was)
  does_holds s from nexts.Forget kept why =
      kept_less s.me (commit_ended k.sessions s.me) k.lives (applied k.stored (records.Forgot s.me)).durable.kept (λ m. ended_less k.sessions m now.fit.roots s.me)
      (λ b other was. write_holds k.lives k.stored b (records.Forgot s.me) (λ same. other (sym same)) was)

  -- an outcome is forced, and the COMMIT of its branch ends
  force_holds : (b : BranchId) (d : Decision) (given : Bool) → AllHold (commit_ended k.sessions b) k.lives (applied k.stored (records.Forced b d given)).durable.kept
  force_holds b d given =
      kept_less b (commit_ended k.sessions b) k.lives (applied k.stored (records.Forced b d given)).durable.kept (λ m. ended_less k.sessions m now.fit.roots b)
      (λ c other was. write_holds k.lives k.stored c (records.Forced b d given) (λ same. other (sym same)) was)

  -- a record of the catalog, or of a setting
  made_holds : {s : Stmt} {r : RedoRecord} {d : _} → Makes k s r d → AllHold k.sessions k.lives (applied k.stored r).durable.kept
  made_holds (steps.Makes_table t free) = kept_by k.sessions k.lives (applied k.stored (records.Table t)).durable.kept (λ m. none_still k.sessions m) (λ b was. write_holds k.lives k.stored b (records.Table t) tt was)
  made_holds (steps.Makes_link l free) = kept_by k.sessions k.lives (applied k.stored (records.Link l)).durable.kept (λ m. none_still k.sessions m) (λ b was. write_holds k.lives k.stored b (records.Link l) tt was)
  made_holds (steps.Makes_synonym y free) = kept_by k.sessions k.lives (applied k.stored (records.Synonym y)).durable.kept (λ m. none_still k.sessions m) (λ b was. write_holds k.lives k.stored b (records.Synonym y) tt was)
  made_holds (steps.Sets_recovery on) = kept_by k.sessions k.lives (applied k.stored (records.Param (params.Recovery on))).durable.kept (λ m. none_still k.sessions m) (λ b was. write_holds k.lives k.stored b (records.Param (params.Recovery on)) tt was)
  made_holds (steps.Sets_strength strength) =
      kept_by k.sessions k.lives (applied k.stored (records.Param (params.Strength strength))).durable.kept (λ m. none_still k.sessions m) (λ b was. write_holds k.lives k.stored b (records.Param (params.Strength strength)) tt was)

-- ---- steps

-- a call of a session that has none pending is of no session whose COMMIT is pending
call_rolls : {input : Input} {n : ℕ} {s : Option Stmt} (k : NodeState) → input ≡ inputs.Call n s → RollsBelow input k
call_rolls k call from to came l live none = (let is = came.is in absurd (cc (call, is)))

call_prepares : {input : Input} {n : ℕ} {s : Option Stmt} (k : NodeState) → input ≡ inputs.Call n s → PreparesBelow input k
call_prepares k call from to sb comment came l live none = (let is = came.is in absurd (cc (call, is)))

module _ (p : Place) (input : Input) where
  -- a transaction begins
  begun_known : (k : NodeState) (n : ℕ) (s : Stmt) (read_at : Option ℕ) → IsCall input n s → BeginsBy k.clock s read_at → Known input k → Known input (begun_by p k n read_at None)
  begun_known k n s read_at call begins now = record {
    fit = begun_so k now.fit p n read_at;
    rolls = call_rolls (begun_by p k n read_at None) call;
    prepared = call_prepares (begun_by p k n read_at None) call;
    way = λ none. absurd (none n s call (may_begin begins));
    free = λ m st other may commits. (let y : Session = record (session_at k.sessions n) { seq = (new_root p k n).seq; root = Some (new_root p k n); calls = 0 } in
        elim (session_or_before k.sessions n m y) [
          | inl still ↦ now.free m st other may (sym (ap (λ (x : Session). x.call) still) ∙ commits)
          | inr new ↦ now.free m st other may (ap (λ i. (session_at k.sessions i).call) (sym new.0) ∙ (sym (ap (λ (x : Session). x.call) new.1) ∙ commits))
        ]);
    alone = λ none. absurd (none n s call (may_begin begins));
  }

  begun_holds : (k : NodeState) (n : ℕ) (s : Stmt) (read_at : Option ℕ) → IsCall input n s → BeginsBy k.clock s read_at → Known input k → RootsHold k → RootsHold (begun_by p k n read_at None)
  begun_holds k n s read_at call begins now holds m b has commits =
      let y : Session = record (session_at k.sessions n) { seq = (new_root p k n).seq; root = Some (new_root p k n); calls = 0 } in
      elim (session_or_before k.sessions n m y) [
        | inl still ↦ more_holds k.lives _ k.stored.durable.kept b (holds m b (sym (ap (λ (x : Session). x.root) still) ∙ has) (sym (ap (λ (x : Session). x.call) still) ∙ commits))
        | inr new ↦ absurd (now.free n s call (may_begin begins) (sym (ap (λ (x : Session). x.call) new.1) ∙ commits))
      ]

  -- a call is counted
  counted_known : (k : NodeState) (n : ℕ) → Known input k → Known input (counted k n)
  counted_known k n now = record {
    fit = counted_so k now.fit n;
    rolls = now.rolls;
    prepared = now.prepared;
    way = now.way;
    free = λ m st other may commits. now.free m st other may (sym (ap (λ (x : Session). x.call) (counted_session k.sessions n m (session_at k.sessions n).root).1) ∙ commits);
    alone = now.alone;
  }

  -- a branch goes back
  back_known : (k : NodeState) (x : Branch) (step : ℕ) → Known input k → Known input (node_back k x step)
  back_known k x step now = record { fit = back_so k now.fit x step; rolls = now.rolls; prepared = now.prepared; way = now.way; free = now.free; alone = now.alone }

  -- COMMIT comes to a live root
  pends_known : (k : NodeState) (n : ℕ) (given : Option (List ℕ)) → IsCall input n (stmts.Commit given) → Known input k → Known input (record k { sessions = with_call k.sessions n pending.Commit })
  pends_known k n given call now = record {
    fit = pends_so k now.fit n pending.Commit;
    rolls = now.rolls;
    prepared = now.prepared;
    way = now.way;
    free = λ m st other may. (let both : inputs.Call n (Some (stmts.Commit given)) ≡ inputs.Call m (Some st) = sym call ∙ other in let it : stmts.Commit given ≡ st = cc in absurd (subst MayBegin (sym it) may));
    alone = now.alone;
  }

  pends_holds : (k : NodeState) (n : ℕ) (l : Live) → (session_at k.sessions n).root ≡ Some l.me → live_at k l.me ≡ Some l → RootsHold k → RootsHold (record k { sessions = with_call k.sessions n pending.Commit })
  pends_holds k n l root live holds m b has commits =
      elim (session_or_before k.sessions n m (record (session_at k.sessions n) { call = pending.Commit })) [
        | inl still ↦ holds m b (sym (ap (λ (x : Session). x.root) still) ∙ has) (sym (ap (λ (x : Session). x.call) still) ∙ commits)
        | inr new ↦ (let both : Some l.me ≡ Some b = sym root ∙ (sym (ap (λ (x : Session). x.root) new.1) ∙ has) in
            let me : l.me ≡ b = cc in
            inl (l, subst (λ c. live_at k c ≡ Some l) me live))
      ]

  -- an Ack is noted
  acked_known : (k : NodeState) (s : KeptRow) (from : BranchId) → steps.IsKept k s → Known input k → Known input (with_kept_row k (acked_by s from))
  acked_known k s from kept now = record {
    fit = record { roots = now.fit.roots; above = now.fit.above };
    rolls = now.rolls;
    prepared = now.prepared;
    way = now.way;
    free = now.free;
    alone = λ none b l live. elim (put_or_before kept_row_id k.stored.durable.kept (acked_by s from) b) [
      | inl still ↦ still ∙ now.alone none b l live
      | inr new ↦ (let gone : kept_row_at k s.me ≡ None = subst (λ c. kept_row_at k c ≡ None) (sym new.0) (now.alone none b l live) in absurd (cc (gone, kept)))
    ];
  }

  acked_holds : (k : NodeState) (s : KeptRow) (from : BranchId) → steps.IsKept k s → RootsHold k → RootsHold (with_kept_row k (acked_by s from))
  acked_holds k s from kept holds n b has commits = by (holds n b has commits)
    where
      by : Holds k.lives k.stored.durable.kept b → Holds k.lives (put_item kept_row_id k.stored.durable.kept (acked_by s from)) b
      by (inl live) = inl live
      by (inr row) = elim (put_or_before kept_row_id k.stored.durable.kept (acked_by s from) b) [
        | inl still ↦ inr (row.0, still ∙ row.1, row.2)
        | inr new ↦ (let both : Some row.0 ≡ Some s = sym row.1 ∙ subst (λ c. kept_row_at k c ≡ Some s) new.0 kept in
            let one : row.0 ≡ s = cc in
            inr (acked_by s from, new.1, subst (λ (x : KeptRow). StandsWell x.state x.decision x.forgot) one row.2))
      ]

  -- what each step leaves
  pub holds_on : {k : NodeState} {d : TurnDraft} → Step p input k d → Known input k → RootsHold k → RootsHold d.after
  holds_on (steps.Begins {k = k} n s read_at call begins range none step) now holds = holds_on step (begun_known k n s read_at call begins now) (begun_holds k n s read_at call begins now holds)
  holds_on (steps.Counts_call {k = k} n s call counts step) now holds =
      holds_on step (counted_known k n now) (kept_by input k now holds _ k.lives k.stored.durable.kept (λ m. counted_still k.sessions m n (session_at k.sessions n).root) (λ b was. was))
  holds_on (steps.Goes_back {k = k} x step goes next) now holds = holds_on next (back_known k x step now) holds
  holds_on (steps.Pends {k = k} n l given call has live code writer step) now holds = holds_on step (pends_known k n given call now) (pends_holds k n l has live holds)
  holds_on (steps.Lets_reads_go {k = k} l comment sb live begins step) now holds =
      holds_on step (record { fit = record { roots = now.fit.roots; above = now.fit.above }; rolls = now.rolls; prepared = now.prepared; way = now.way; free = now.free; alone = now.alone }) holds
  holds_on (steps.Counts_ack {k = k} s from kept came counts step) now holds = holds_on step (acked_known k s from kept now) (acked_holds k s from kept holds)
  holds_on (steps.Rests) now holds = holds
  holds_on (steps.Sends says why) now holds = holds
  holds_on (steps.Runs {k = k} x s given t asked way) now holds =
      let l : Live = after_run x.live (ran p k x.live.me s t) in
      kept_by input k now holds _ (put_item live_id k.lives l) k.stored.durable.kept (λ m. answered_still k.sessions m l x.live.parent) (λ b. put_holds k.lives k.stored.durable.kept b l)
  holds_on (steps.Goes_nowhere {k = k} x s given r asked way) now holds =
      kept_by input k now holds _ (put_item live_id k.lives x.live) k.stored.durable.kept (λ m. answered_still k.sessions m x.live x.live.parent) (λ b. put_holds k.lives k.stored.durable.kept b x.live)
  holds_on (steps.Calls {k = k} x s given i table asked way) now holds =
      kept_by input k now holds _ (put_item live_id k.lives x.live) k.stored.durable.kept (λ m. goes_still k.sessions m x.live) (λ b. put_holds k.lives k.stored.durable.kept b x.live)
  holds_on (steps.Opens {k = k} x s given node link table asked way) now holds =
      kept_by input k now holds _ (put_item live_id k.lives x.live) k.stored.durable.kept (λ m. goes_still k.sessions m x.live) (λ b. put_holds k.lives k.stored.durable.kept b x.live)
  holds_on (steps.Goes_on {k = k} x from strength g link opened) now holds =
      let l : Live = (with_edge x (new_edge from link strength)).live in
      kept_by input k now holds _ (put_item live_id k.lives l) k.stored.durable.kept (λ m. goes_still k.sessions m l) (λ b. put_holds k.lives k.stored.durable.kept b l)
  holds_on (steps.Hears_reply {k = k} x weight count a i e answered) now holds =
      let l : Live = (hears_reply x i weight count e).live in
      kept_by input k now holds _ (put_item live_id k.lives l) k.stored.durable.kept
      (λ m b has commits. (let was = answered_still (heard_sessions k.sessions l a) m l x.live.parent b has commits in heard_still k.sessions m l a b was.0 was.1)) (λ b. put_holds k.lives k.stored.durable.kept b l)
  holds_on (steps.Backs {k = k} x step from i calls next) now holds =
      kept_by input k now holds _ (put_item live_id k.lives x.live) k.stored.durable.kept (λ m. goes_still k.sessions m x.live) (λ b. put_holds k.lives k.stored.durable.kept b x.live)
  holds_on (steps.Is_back {k = k} x step from calls none) now holds =
      kept_by input k now holds _ (put_item live_id k.lives x.live) k.stored.durable.kept (λ m. answered_still k.sessions m x.live x.live.parent) (λ b. put_holds k.lives k.stored.durable.kept b x.live)
  holds_on (steps.Opens_branch {k = k} to parent edge root depth read_at came new) now holds = kept_by input k now holds k.sessions _ k.stored.durable.kept (λ m. none_still k.sessions m) (λ b. more_holds k.lives _ k.stored.durable.kept b)
  holds_on (steps.Acts {k = k} l sb a why) now holds = act_holds input k now holds l sb a why
  holds_on (steps.Drops_told {k = k} l live (steps.By_rollback from came)) now holds =
      kept_less input k now holds l.me k.sessions (drop_item live_id k.lives l.me) k.stored.durable.kept (none_less input k now holds l.me (λ m has. now.rolls from l.me came l live (is_top input k now holds m l live has)))
      (λ b. drop_holds k.lives k.stored.durable.kept b l.me)
  holds_on (steps.Drops_told {k = k} l live (steps.By_parent from came parent)) now holds =
      kept_less input k now holds l.me k.sessions (drop_item live_id k.lives l.me) k.stored.durable.kept (none_less input k now holds l.me (λ m has. parent_some from l.parent parent (is_top input k now holds m l live has)))
      (λ b. drop_holds k.lives k.stored.durable.kept b l.me)
  holds_on (steps.Drops_asked {k = k} l from live came parent) now holds =
      kept_less input k now holds l.me k.sessions (drop_item live_id k.lives l.me) k.stored.durable.kept (none_less input k now holds l.me (λ m has. parent_some from l.parent parent (is_top input k now holds m l live has)))
      (λ b. drop_holds k.lives k.stored.durable.kept b l.me)
  holds_on (steps.Does {k = k} s from x kept why) now holds = does_holds input k now holds s from x kept why
  holds_on (steps.Refuses n s r call) now holds = holds
  holds_on (steps.Completes_at_once n s d call completes none) now holds = holds
  holds_on (steps.Makes_record {k = k} n s r d call makes) now holds = made_holds input k now holds makes
  holds_on (steps.Forces_given {k = k} n id i b call named) now holds = force_holds input k now holds b (decisions.Commit i) true
  holds_on (steps.Forces_commit {k = k} n id b call named) now holds = force_holds input k now holds b (decisions.Commit (k.clock + 1)) false
  holds_on (steps.Forces_rollback {k = k} n id b call named) now holds = force_holds input k now holds b decisions.Rollback false
  holds_on (steps.Hides {k = k} n mixed id s call found) now holds =
      kept_by input k now holds k.sessions k.lives (applied k.stored (records.Hidden s.me)).durable.kept (λ m. none_still k.sessions m) (λ b was. write_holds k.lives k.stored b (records.Hidden s.me) tt was)
  holds_on (steps.Advises {k = k} n x call) now holds =
      kept_by input k now holds _ k.lives k.stored.durable.kept (λ m. set_same k.sessions m n (record (session_at k.sessions n) { advice = x }) refl refl) (λ b was. was)
  holds_on (steps.Sets_read_only n call) now holds = holds
  holds_on (steps.Sets_savepoint {k = k} n x name call has code live) now holds =
      kept_by input k now holds k.sessions (put_item live_id k.lives x.live) k.stored.durable.kept (λ m. none_still k.sessions m) (λ b. put_holds k.lives k.stored.durable.kept b x.live)
  holds_on (steps.Images {k = k} is) now holds =
      kept_by input k now holds k.sessions k.lives (applied k.stored (records.Image (image_at k.stored k.clock))).durable.kept (λ m. none_still k.sessions m) (λ b was. write_holds k.lives k.stored b (records.Image (image_at k.stored k.clock)) tt was)
  holds_on (steps.Leaves {k = k} n s d x call ends has live) now holds =
      kept_less input k now holds x.live.me _ (drop_item live_id k.lives x.live.me) k.stored.durable.kept (λ m. done_less k.sessions m now.fit.roots n x.live.me has) (λ b. drop_holds k.lives k.stored.durable.kept b x.live.me)
  holds_on (steps.Gives_up {k = k} n x gives has calls live) now holds =
      let zs : List Session = with_call k.sessions n pending.NoCall in
      kept_by input k now holds _ (put_item live_id k.lives x.live) k.stored.durable.kept
      (λ m b is commits. (let was = set_same zs m n (record (session_at zs n) { code = Some (dtx 3 []).code }) refl refl b is commits in set_other k.sessions m n (record (session_at k.sessions n) { call = pending.NoCall }) (λ none. absurd cc) b was.0 was.1))
      (λ b. put_holds k.lives k.stored.durable.kept b x.live)
  holds_on (steps.Gives_up_commit {k = k} n b (Some l) gives has calls live) now holds =
      kept_less input k now holds l.me (commit_ended k.sessions l.me) (drop_item live_id k.lives l.me) k.stored.durable.kept (λ m. ended_less k.sessions m now.fit.roots l.me) (λ c. drop_holds k.lives k.stored.durable.kept c l.me)
  holds_on (steps.Gives_up_commit {k = k} n b None gives has calls live) now holds =
      kept_less input k now holds b (commit_ended k.sessions b) k.lives k.stored.durable.kept (λ m. ended_less k.sessions m now.fit.roots b) (λ c other was. was)
