-- Each step of a turn leaves the keys held: by live branches those that they have changed, by branches in doubt theirs.
use Rattle.std.proofs.Common.{◌≡◌, ℕ, Bool, true, false, List, [], ◌∷◌, filter, Some, None, Ok, refl, sym, subst, ◌∙◌, ◌&&◌, ◌++◌, Option, ap}
use Rattle.std.specs.List.{AllByRecursion}
use Rattle.std.specs.Prelude.{is_some}
use Rattle.tran_ids.proofs.BranchLemmas.{equal_from_same}
use Rattle.tran_ids.proofs.ListedLemmas.{item_is}
use Rattle.row_store.specs.Own.{undo_length}
use Rattle.sql_eval.specs.Laws.{has_one_key, AreRowsOf}
use Rattle.sql_eval.specs.Meaning.{written, meant_over}
use Rattle.sql_eval.specs.declared.meant.Meant.TheVariants as meants
use Rattle.stmt_run.specs.Run.{locks_after, take_keys}
use Rattle.node_rules.specs.Data.{Table, Stmt, BranchId, Decision, Kind, KeptRow, Place, Input, Live, Act, Doubt, Value, Change, Done}
use Rattle.node_rules.specs.Data.acts
use Rattle.node_rules.specs.Data.inputs
use Rattle.commit_forget.specs.declared.next.Next.TheVariants as nexts
use Rattle.node_rules.specs.Words.{same, put_item}
use Rattle.node_rules.specs.NodeState.{NodeState, TurnDraft, live_id, kept_row_id, live_at, Branch, own_id, sets_at}
use Rattle.node_rules.specs.Inputs.{Came, IsCall, Brings, Commit_came, Rollback_came, Rolled_back_came}
use Rattle.node_rules.specs.Names.{table_of, ref_of, is_write}
use Rattle.node_rules.specs.Force.{is_named_by, only_one, branch_to_force}
use Rattle.node_rules.specs.Commit.{acked_by}
use Rattle.node_rules.specs.Records.{applied, with_record}
use Rattle.node_rules.specs.Prepare.{sealed_of, own_changes}
use Rattle.node_rules.specs.Statement.{ran, ground_of, owns_after, view, reads_at, rows_read}
use Rattle.node_rules.proofs.Steps as steps
use Rattle.node_rules.proofs.Steps.{Step, IsOfRows, Collects, By_commit, By_prepare, Acting, Asks_down, Has_no_children, Hears_abort, Waits_on, Hears_last, At_point, Drops, By_rollback, By_parent, Doing, Ends_so, BeginsBy, By_rows, By_savepoint, By_read_only, Goes_to, By_rollback_to, By_back, EndsAtOnce, By_rollback_call, By_reading}
use Rattle.node_rules.proofs.StandLemmas.{live_so}
use Rattle.node_ready_laws.proofs.ListLemmas.{all_weaker, all_filtered, all_found, all_put}
use Rattle.node_undo_laws.specs.Changed.{ChangesAreOfLives, changes_at}
use Rattle.node_undo_laws.specs.Keys.{KeysHeld}
use Rattle.node_rules.proofs.StepLemmas.{IsLive, acting_live, made_so, gone_back_live}
use Rattle.node_rules.specs.Data.stmts
use Rattle.node_rules.specs.Calls.{backs_to}
use Rattle.node_rules.specs.Marks.{sets_behind, is_still_written, is_changed_in, changes_left, stays_held, node_back, branch_back, next_back}
use Rattle.node_rules.specs.Rows.{view_of, set_over}
use Rattle.node_undo_laws.proofs.RanLemmas.{run_so, runs_at_table, Meets_nobody, reader_reads, writes_none, changes_none}
use Rattle.node_undo_laws.proofs.KeyLemmas.{reads_gone, dropped, settled, sealed, read, wrote, wrote_none}
use Rattle.node_undo_laws.proofs.BackLemmas.{back_keys, or_true}
use Rattle.sql_check.specs.Checks.{checked}

-- the keys of a node are held
abbrev pub Keys : NodeState → Type 0
Keys k = KeysHeld k.locks k.owns k.stored.doubts

-- ---- a run

-- a table at which a statement may run has one key, and a branch that reads the newest rows sees rows of it
abbrev pub SeesRows : NodeState → Type 0
SeesRows k = (b : BranchId) (name : List ℕ) (t : Table) → table_of k.stored.durable name ≡ Some t → (has_one_key t ≡ true) × AreRowsOf t (view_of k.stored.rows (changes_at k.owns b) t.name)

module _ (p : Place) (k : NodeState) (b : BranchId) (s : Stmt) (t : Table) (name : List ℕ) (found : table_of k.stored.durable name ≡ Some t) (reader : (is_some (reads_at k b) && is_write s) ≡ false) (sees : SeesRows k) (now : Keys k) where
  -- the keys after changes of rows
  abbrev HoldsWith : List Value → List Change → Type 0
  HoldsWith keys cs = KeysHeld (take_keys k.locks b t.name true keys) (put_item own_id k.owns (record { branch = b; sets = sets_at k.owns b ++ set_over (view k b t.name) cs ∷ [] })) k.stored.doubts

  -- a branch that reads at an SCN changes nothing
  either_keys : (d : Done) (n : ℕ) (cs : List Change) (o : Option ℕ) → reads_at k b ≡ o → checked s t ≡ None → Meets_nobody (ground_of p k b t) s t → meant_over s t (view k b t.name) ≡ meants.Changes d n cs
      → HoldsWith (written s t (view k b t.name)) cs
  either_keys d n cs None is none nobody meant =
      let same : view k b t.name ≡ view_of k.stored.rows (changes_at k.owns b) t.name = ap (λ r. view_of (rows_read k r) (changes_at k.owns b) t.name) is in
      wrote k.locks k.owns k.stored.doubts now b t (ground_of p k b t) s (view k b t.name) d n (undo_length (view k b t.name) cs) cs refl refl (sees b name t found).0 (subst (AreRowsOf t) (sym same) (sees b name t found).1) none nobody meant
  either_keys d n cs (Some scn) is none nobody meant =
      let reads : is_write s ≡ false = subst (λ r. (is_some r && is_write s) ≡ false) is reader in
      subst (λ keys. HoldsWith keys cs) (sym (writes_none s t (view k b t.name) reads))
      (subst (HoldsWith []) (sym (changes_none s t (view k b t.name) d n cs reads meant)) (wrote_none k.locks k.owns k.stored.doubts now b t (view k b t.name)))

  run_keys : KeysHeld (locks_after k.locks b t (ran p k b s t)) (owns_after k.owns b (view k b t.name) (ran p k b s t)) k.stored.doubts
  unfolding ran
  run_keys =
      run_so (ground_of p k b t) s t (λ r. KeysHeld (locks_after k.locks b t r) (owns_after k.owns b (view k b t.name) r) k.stored.doubts) (λ r. now)
      (λ rows nobody. read k.locks k.owns k.stored.doubts now b t (view k b t.name) rows (written s t (view k b t.name)))
      (λ d n cs none nobody meant space. either_keys d n cs (reads_at k b) refl none nobody meant)

-- ---- a branch goes back

-- it keeps the keys of the changes that are left, whichever child it calls first
went_back : (k : NodeState) (x : Branch) (step : ℕ) → AllByRecursion (λ d. same d.branch x.live.me ≡ false) k.stored.doubts → Keys k → (next : Option ℕ)
    → Keys (backs_to (node_back k x step) (branch_back k x step) step next).after
went_back k x step others now next = by next
  where
    kept : KeysHeld (node_back k x step).locks (node_back k x step).owns k.stored.doubts
    kept = back_keys k.locks k.owns k.stored.doubts x.live.me (sets_behind x.work.marks step) others now (stays_held k x step) (λ l is. or_true (is_still_written x.work.marks step l) (is_changed_in (changes_left k x step) l) is)

    by : (next : Option ℕ) → Keys (backs_to (node_back k x step) (branch_back k x step) step next).after
    by None = kept
    by (Some i) = kept

-- ---- a statement that may begin a transaction

-- SET TRANSACTION READ ONLY, SAVEPOINT, and statements of rows
abbrev pub MayStart : Stmt → Type 0
MayStart stmts.SetReadOnly = Unit {0}
MayStart (stmts.Savepoint name) = Unit {0}
MayStart s = IsOfRows s

rows_start : (s : Stmt) → IsOfRows s → MayStart s
rows_start (stmts.Insert table columns given) rows = tt
rows_start (stmts.Update table sets cs) rows = tt
rows_start (stmts.Delete table cs) rows = tt
rows_start (stmts.Select list table cs for_update) rows = tt
rows_start _ rows = absurd rows

pub may_start : {clock : ℕ} {s : Stmt} {read_at : Option ℕ} → BeginsBy clock s read_at → MayStart s
may_start (By_rows s rows) = rows_start s rows
may_start (By_savepoint name) = tt
may_start By_read_only = tt

-- what ends a root at once begins none
ends_start_none : {code read_at : Option ℕ} {s : Stmt} {d : Done} → EndsAtOnce code read_at s d → MayStart s → ⊥
ends_start_none By_rollback_call starts = starts
ends_start_none (By_reading comment scn sound reads) starts = starts

module _ {input : Input} {n : ℕ} {s : Stmt} (is : IsCall input n s) (rows : MayStart s) where
  pub not_came : {from to : BranchId} {kind : Kind} → Came input from to kind → ⊥
  not_came came = let other = came.is in absurd (cc (is, other))

  pub not_other : {m : ℕ} {u : Stmt} → (MayStart u → ⊥) → IsCall input m u → ⊥
  not_other {m} {u} other call = let both : inputs.Call n (Some s) ≡ inputs.Call m (Some u) = sym is ∙ call in let it : s ≡ u = cc in other (subst MayStart it rows)

  pub not_collects : {k : NodeState} {l : Live} {comment : List ℕ} {site_below : Bool} → Collects k input l comment site_below → ⊥
  not_collects (By_commit m given call has code writer alike) = not_other (λ no. no) call
  not_collects (By_prepare from site_below came working) = not_came came

  pub not_acting : {k : NodeState} {l : Live} {site_below : Bool} {a : Act} → Acting k input l site_below a → ⊥
  not_acting (Asks_down l comment site_below e es live begins has) = not_collects begins
  not_acting (Has_no_children l comment site_below a live begins none collected) = not_collects begins
  not_acting (Hears_abort l from site_below live answers) = not_came answers.came
  not_acting (Waits_on l from v site_below live answers other some) = not_came answers.came
  not_acting (Hears_last l from v site_below a live answers other all collected) = not_came answers.came
  not_acting (At_point l from a live came ready pointed) = not_came came

  pub not_drops : {l : Live} → Drops input l → ⊥
  not_drops (By_rollback from came) = not_came came
  not_drops (By_parent from came parent) = not_came came

  not_brings : {from to : BranchId} {d : Decision} → Brings input from to d → ⊥
  not_brings (Commit_came m came) = not_came came
  not_brings (Rollback_came came) = not_came came
  not_brings (Rolled_back_came came) = not_came came

  pub not_ends : {clock : ℕ} {x : KeptRow} {from : BranchId} {d : Decision} → Doing clock input x from (nexts.End d) → ⊥
  not_ends (Ends_so d brings toward none state met) = not_brings brings

  pub not_going : {k : NodeState} {x : Branch} {step : ℕ} → Goes_to k input x step → ⊥
  not_going (By_rollback_to m x name step call has code live set) = not_other (λ no. no) call
  not_going (By_back x from call keep came live runs) = not_came came

  module _ (p : Place) where
    rows_on : {k : NodeState} {d : TurnDraft} → Step p input k d → SeesRows k → Keys k → Keys d.after
    unfolding applied
    rows_on (steps.Begins m u read_at call begins fit none step) sees now = rows_on step sees now
    rows_on (steps.Counts_call m u call counts step) sees now = rows_on step sees now
    rows_on (steps.Goes_back x to goes next) sees now = absurd (not_going goes)
    rows_on (steps.Pends m l given call has live code writer step) sees now = absurd (not_other (λ no. no) call)
    rows_on (steps.Lets_reads_go l comment site_below live begins step) sees now = absurd (not_collects begins)
    rows_on (steps.Counts_ack x from kept came counts step) sees now = absurd (not_came came)
    rows_on (steps.Runs {k = k} x u given t asked way) sees now = run_keys p k x.live.me u t (ref_of u).name (runs_at_table p k.stored.durable x.live given u t way) (reader_reads p asked way) sees now
    rows_on (steps.Acts l site_below a why) sees now = absurd (not_acting why)
    rows_on (steps.Drops_told l live drops) sees now = absurd (not_drops drops)
    rows_on (steps.Drops_asked l from live came parent) sees now = absurd (not_came came)
    rows_on (steps.Does x from (nexts.End d) kept why) sees now = absurd (not_ends why)
    rows_on (steps.Makes_record {k = k} m u r d call makes) sees now = made_so (λ x. Keys (with_record k x)) (λ t. now) (λ l. now) (λ y. now) (λ on. now) makes
    rows_on (steps.Forces_given m id scn b call named) sees now = absurd (not_other (λ no. no) call)
    rows_on (steps.Forces_commit m id b call named) sees now = absurd (not_other (λ no. no) call)
    rows_on (steps.Forces_rollback m id b call named) sees now = absurd (not_other (λ no. no) call)
    rows_on (steps.Leaves m u d x call ends has live) sees now = absurd (not_other (ends_start_none ends) call)
    rows_on (steps.Gives_up_commit m b (Some l) gives has pending live) sees now = absurd (cc (is, gives))
    rows_on _ sees now = now

-- ---- any step

-- No kept branch, and none in doubt, is live.
pub record Apart (k : NodeState) : Type 0 where
  pub rows : AllByRecursion (λ s. live_at k s.me ≡ None) k.stored.durable.kept
  pub doubts : AllByRecursion (λ d. live_at k d.branch ≡ None) k.stored.doubts

-- a live branch is not in doubt
pub not_doubted : (k : NodeState) (b : BranchId) → IsLive k b → Apart k → AllByRecursion (λ d. same d.branch b ≡ false) k.stored.doubts
not_doubted k b live apart = all_weaker _ _ (λ d none. by d none (same d.branch b) refl) k.stored.doubts apart.doubts
  where
    by : (d : Doubt) → live_at k d.branch ≡ None → (here : Bool) → same d.branch b ≡ here → here ≡ false
    by d none false is = refl
    by d none true is = let gone : live_at k b ≡ None = subst (λ m. live_at k m ≡ None) (equal_from_same d.branch b is) none in let there : live_at k b ≡ Some live.0 = live.1 in absurd (cc (gone, there))

-- the branch that an id names is one of these
one_so : (P : BranchId → Type 0) (id : List ℕ) (ks : List KeptRow) (b : BranchId) → AllByRecursion (λ s. P s.me) ks → only_one id ks ≡ Ok b → P b
one_so P id [] b all is = absurd cc
one_so P id (s ∷ []) b all is = subst P (let it : Ok s.me ≡ Ok b = is in cc) all.0
one_so P id (s ∷ t ∷ ks) b all is = absurd cc

pub forced_so : (names : List (List ℕ)) (P : BranchId → Type 0) (ks : List KeptRow) (id : List ℕ) (b : BranchId) → AllByRecursion (λ s. P s.me) ks → branch_to_force names ks id ≡ Ok b → P b
unfolding branch_to_force
forced_so names P ks id b all is = one_so P id (filter (is_named_by names id) ks) b (all_filtered (λ s. P s.me) (is_named_by names id) ks all) is

module _ (p : Place) (input : Input) where
  -- each step leaves them held
  pub keys_on : {k : NodeState} {d : TurnDraft} → Step p input k d → SeesRows k → ChangesAreOfLives k.lives k.owns → Apart k → Keys k → Keys d.after
  unfolding applied
  keys_on (steps.Begins n s read_at call begins fit none step) sees own apart now = rows_on call (may_start begins) p step sees now
  keys_on (steps.Counts_call n s call counts step) sees own apart now = keys_on step sees own (record { rows = apart.rows; doubts = apart.doubts }) now
  keys_on (steps.Goes_back {k = k} x to goes next) sees own apart now = went_back k x to (not_doubted k x.live.me (x.live, gone_back_live goes) apart) now (next_back (branch_back k x to).work to 1)
  keys_on (steps.Pends n l given call has live code writer step) sees own apart now = keys_on step sees own (record { rows = apart.rows; doubts = apart.doubts }) now
  keys_on (steps.Lets_reads_go {k = k} l comment site_below live begins step) sees own apart now =
      keys_on step sees own (record { rows = apart.rows; doubts = apart.doubts }) (reads_gone k.locks k.owns k.stored.doubts now l.me)
  keys_on (steps.Counts_ack {k = k} s from kept came counts step) sees own apart now =
      keys_on step sees own (record {
        rows = all_put (λ x. live_at k x.me ≡ None) kept_row_id k.stored.durable.kept (acked_by s from) apart.rows (all_found (λ x. live_at k x.me ≡ None) _ k.stored.durable.kept s apart.rows kept);
        doubts = apart.doubts;
      }) now
  keys_on (steps.Runs {k = k} x s given t asked way) sees own apart now = run_keys p k x.live.me s t (ref_of s).name (runs_at_table p k.stored.durable x.live given s t way) (reader_reads p asked way) sees now
  keys_on (steps.Acts {k = k} l site_below acts.Rest why) sees own apart now = now
  keys_on (steps.Acts {k = k} l site_below acts.AskDown why) sees own apart now = now
  keys_on (steps.Acts {k = k} l site_below acts.SayReady why) sees own apart now = now
  keys_on (steps.Acts {k = k} l site_below acts.Seal why) sees own apart now =
      sealed k.locks k.owns k.stored.doubts k.stored.rows (sealed_of k.clock l (own_changes k l.me) None) (not_doubted k l.me (acting_live why) apart) refl now
  keys_on (steps.Acts {k = k} l site_below (acts.SealAndPass i) why) sees own apart now =
      sealed k.locks k.owns k.stored.doubts k.stored.rows (sealed_of k.clock l (own_changes k l.me) (Some i)) (not_doubted k l.me (acting_live why) apart) refl now
  keys_on (steps.Acts {k = k} l site_below _ why) sees own apart now = dropped k.locks k.owns k.stored.doubts l.me (not_doubted k l.me (acting_live why) apart) now
  keys_on (steps.Drops_told {k = k} l live drops) sees own apart now = dropped k.locks k.owns k.stored.doubts l.me (not_doubted k l.me (l, live) apart) now
  keys_on (steps.Drops_asked {k = k} l from live came parent) sees own apart now = dropped k.locks k.owns k.stored.doubts l.me (not_doubted k l.me (l, live) apart) now
  keys_on (steps.Does {k = k} s from (nexts.End d) kept why) sees own apart now =
      settled k.locks k.owns k.stored.doubts s.me (own.live s.me (all_found (λ x. live_at k x.me ≡ None) _ k.stored.durable.kept s apart.rows kept)) now
  keys_on (steps.Makes_record {k = k} n s r d call makes) sees own apart now = made_so (λ x. Keys (with_record k x)) (λ t. now) (λ l. now) (λ y. now) (λ on. now) makes
  keys_on (steps.Forces_given {k = k} n id m b call named) sees own apart now =
      settled k.locks k.owns k.stored.doubts b (own.live b (forced_so p.names (λ c. live_at k c ≡ None) k.stored.durable.kept id b apart.rows named)) now
  keys_on (steps.Forces_commit {k = k} n id b call named) sees own apart now =
      settled k.locks k.owns k.stored.doubts b (own.live b (forced_so p.names (λ c. live_at k c ≡ None) k.stored.durable.kept id b apart.rows named)) now
  keys_on (steps.Forces_rollback {k = k} n id b call named) sees own apart now =
      settled k.locks k.owns k.stored.doubts b (own.live b (forced_so p.names (λ c. live_at k c ≡ None) k.stored.durable.kept id b apart.rows named)) now
  keys_on (steps.Leaves {k = k} n s d x call ends has live) sees own apart now = dropped k.locks k.owns k.stored.doubts x.live.me (not_doubted k x.live.me (x.live, live_so k x.live.me x live) apart) now
  keys_on (steps.Gives_up_commit {k = k} n b (Some l) gives has pending live) sees own apart now = dropped k.locks k.owns k.stored.doubts l.me (not_doubted k l.me (l, subst (λ m. live_at k m ≡ Some l) (sym (item_is live_id k.lives b l live)) live) apart) now
  keys_on _ sees own apart now = now
