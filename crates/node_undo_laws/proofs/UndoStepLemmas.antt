-- Each step of a turn keeps the undo of the node, and the branches in doubt after its record need no more space than all branches had.
use Rattle.std.proofs.Common.{◌≡◌, ℕ, ◌+◌, ◌≤◌, Bool, true, false, List, [], map, Option, Some, None, refl, sym, subst, arith, ◌-◌, ◌&&◌, ◌∷◌, ◌++◌, ap}
use Rattle.std.specs.Prelude.{IfSome, is_some}
use Rattle.std.specs.List.{AllByRecursion}
use Rattle.std.proofs.lemmas.List.Elements.{recursion_from_All}
use Rattle.tran_ids.proofs.BranchLemmas.{equal_from_same}
use Rattle.tran_ids.proofs.ListedLemmas.{item_is, drop_gone, drop_leaves}
use Rattle.sql_check.specs.Checks.{checked}
use Rattle.sql_eval.specs.Laws.{IsChangeOf}
use Rattle.sql_eval.specs.Meaning.{meant_over}
use Rattle.sql_eval.specs.declared.meant.Meant.TheVariants as meants
use Rattle.sql_eval.proofs.MadeLemmas.{changes_are_of_written}
use Rattle.sql_eval.proofs.RowLaws.{changes_are_of_table}
use Rattle.row_store.specs.Store.{AreOfTables, doubt_extents, used_extents}
use Rattle.row_store.specs.Own.{undo_length}
use Rattle.stmt_view_laws.proofs.OrderLemmas.{changes_keep_order}
use Rattle.node_rules.specs.Data.{Table, Change, Stmt, Done, BranchId, Decision, RedoRecord, Sealed, Owned, Doubt, Place, Input, Keyed}
use Rattle.node_rules.specs.Data.acts
use Rattle.node_rules.specs.Data.decisions
use Rattle.node_rules.specs.Data.records
use Rattle.node_rules.specs.declared.session.PendingCall.TheVariants as pending
use Rattle.commit_forget.specs.declared.next.Next.TheVariants as nexts
use Rattle.node_rules.specs.Words.{same, item_at, drop_item, put_item}
use Rattle.node_rules.specs.Rows.{rows_of_table, apply_all, changes_of, view_of, changes_length, extents, undo_of, set_over}
use Rattle.node_rules.specs.Names.{table_of, ref_of, is_write}
use Rattle.node_rules.specs.NodeState.{NodeState, TurnDraft, own_id, doubt_id, sets_of, live_at, Branch, sets_at}
use Rattle.node_rules.specs.Sessions.{with_call, session_at}
use Rattle.node_rules.specs.Records.{held_back, settled, applied, with_record}
use Rattle.node_rules.specs.Prepare.{own_changes, sealed_of}
use Rattle.node_rules.specs.Statement.{ran, ground_of, owns_after, view, reads_at, rows_read}
use Rattle.node_rules.proofs.SessionLemmas.{call_seqs, counted_seqs}
use Rattle.node_rules.proofs.Steps as steps
use Rattle.node_rules.proofs.Steps.{Step, Makes}
use Rattle.node_rules.proofs.StepLemmas.{IsLive, acting_live, made_so}
use Rattle.node_rules.specs.Calls.{backs_to}
use Rattle.node_rules.specs.Client.{counted}
use Rattle.node_rules.specs.Marks.{sets_behind, node_back, branch_back, next_back}
use Rattle.node_ready_laws.specs.Ids.{HasOwnIds}
use Rattle.node_ready_laws.specs.Rows.{HasRows}
use Rattle.node_ready_laws.proofs.IdStepLemmas.{still, begun_ids, with_ack}
use Rattle.node_ready_laws.proofs.ListLemmas.{all_weaker, all_both, all_found}
use Rattle.node_undo_laws.specs.Changed.{changes_at, ChangesAreOfLives}
use Rattle.node_undo_laws.specs.Keys.{is_written_by, is_doubted_by, AreHeld}
use Rattle.node_undo_laws.specs.Kept.{UndoStands}
use Rattle.node_undo_laws.specs.Laws.{NeedsNoMore, SealsWithItsUndo}
use Rattle.node_undo_laws.proofs.ChangedLemmas.{begun_fits}
use Rattle.node_undo_laws.proofs.HolderLemmas.{LeaveKeys, keys_apart, doubted_written, doubts_apart, held_leaves}
use Rattle.node_undo_laws.proofs.KeptLemmas.{rows_changed_beside, table_made, dropped, sealed_room, sealed, ran as ran_so, ended}
use Rattle.node_undo_laws.proofs.KeyLemmas.{other_way, reads_gone}
use Rattle.node_undo_laws.proofs.KeyStepLemmas.{Keys, not_doubted, forced_so}
use Rattle.node_undo_laws.proofs.OrderLemmas.{written_differ, order_of}
use Rattle.node_undo_laws.proofs.RanLemmas.{run_so, runs_at_table, reader_reads, changes_none}
use Rattle.node_undo_laws.proofs.RoomLemmas.{doubts_fewer, has_room}
use Rattle.node_undo_laws.proofs.SeeLemmas.{apart_of, own_tables, doubt_tables, has_rows, sees_rows}
use Rattle.node_undo_laws.proofs.UndoLemmas.{AreDifferent}
use Rattle.node_undo_laws.proofs.BackLemmas.{AreEven, ran_even, back_stands, back_even, drop_even}

-- the undo of a node stands
abbrev pub Stands : Place → NodeState → Type 0
Stands p k = UndoStands p.undo k.stored.rows k.owns k.stored.doubts

-- ---- a run

module _ (p : Place) (k : NodeState) (b : BranchId) (s : Stmt) (t : Table) (name : List ℕ) (found : table_of k.stored.durable name ≡ Some t) (rows : HasRows k) (now : Stands p k) where
  -- what the branch sees where it reads the newest rows
  abbrev newest : List Keyed
  newest = view_of k.stored.rows (changes_at k.owns b) t.name

  -- its undo after a change of rows
  abbrev StandsWith : List Keyed → List Change → Type 0
  StandsWith seen cs = UndoStands p.undo k.stored.rows (put_item own_id k.owns (record { branch = b; sets = sets_at k.owns b ++ set_over seen cs ∷ [] })) k.stored.doubts

  -- there is room for it
  abbrev HasRoom : List Keyed → List Change → Type 0
  HasRoom seen cs =
      extents (changes_length (undo_of (sets_at k.owns b)) + undo_length seen cs) - extents (changes_length (undo_of (sets_at k.owns b))) ≤ p.undo - used_extents k.owns k.stored.doubts

  differ : (d : Done) (n : ℕ) (cs : List Change) → meant_over s t newest ≡ meants.Changes d n cs → AreDifferent (map (λ c. c.key) cs)
  differ d n cs meant =
      subst AreDifferent (sym (changes_are_of_written s t newest d n cs meant))
      (written_differ s t newest (changes_keep_order t.name (changes_at k.owns b) (rows_of_table k.stored.rows t.name) (order_of k.stored.rows t.name now.ordered)))

  of_table : (d : Done) (n : ℕ) (cs : List Change) → checked s t ≡ None → meant_over s t newest ≡ meants.Changes d n cs → AllByRecursion (λ c. c.table ≡ t.name) cs
  of_table d n cs none meant =
      let sees = sees_rows k rows b name t found in
      all_weaker (IsChangeOf t) (λ c. c.table ≡ t.name) (λ c is. is.0) cs (recursion_from_All (IsChangeOf t) cs (changes_are_of_table s t newest d n cs sees.0 sees.1 none meant))

  -- changes of a branch that reads the newest rows
  changes_stand : (d : Done) (n : ℕ) (cs : List Change) → view k b t.name ≡ newest → checked s t ≡ None → meant_over s t (view k b t.name) ≡ meants.Changes d n cs → HasRoom (view k b t.name) cs → StandsWith (view k b t.name) cs
  changes_stand d n cs same none meant room =
      let here : meant_over s t newest ≡ meants.Changes d n cs = subst (λ seen. meant_over s t seen ≡ meants.Changes d n cs) same meant in
      subst (λ seen. StandsWith seen cs) (sym same)
      (ran_so p.undo k.stored.rows k.owns k.stored.doubts now b t.name cs (has_rows k rows name t found) (of_table d n cs none here) (differ d n cs here) (subst (λ seen. HasRoom seen cs) same room))

  -- one that reads at an SCN has none
  no_changes_stand : (cs : List Change) → cs ≡ [] → HasRoom (view k b t.name) cs → StandsWith (view k b t.name) cs
  no_changes_stand cs none room =
      subst (StandsWith (view k b t.name)) (sym none)
      (ran_so p.undo k.stored.rows k.owns k.stored.doubts now b t.name [] (has_rows k rows name t found) tt tt (subst (HasRoom (view k b t.name)) none room))

  module _ (reader : (is_some (reads_at k b) && is_write s) ≡ false) where
    either_stands : (d : Done) (n : ℕ) (cs : List Change) (o : Option ℕ) → reads_at k b ≡ o → checked s t ≡ None → meant_over s t (view k b t.name) ≡ meants.Changes d n cs → HasRoom (view k b t.name) cs
        → StandsWith (view k b t.name) cs
    either_stands d n cs None is none meant room = changes_stand d n cs (ap (λ r. view_of (rows_read k r) (changes_at k.owns b) t.name) is) none meant room
    either_stands d n cs (Some scn) is none meant room =
        let reads : is_write s ≡ false = subst (λ r. (is_some r && is_write s) ≡ false) is reader in
        no_changes_stand cs (changes_none s t (view k b t.name) d n cs reads meant) room

    run_stands : UndoStands p.undo k.stored.rows (owns_after k.owns b (view k b t.name) (ran p k b s t)) k.stored.doubts
    unfolding ran
    run_stands =
        run_so (ground_of p k b t) s t (λ r. UndoStands p.undo k.stored.rows (owns_after k.owns b (view k b t.name) r) k.stored.doubts) (λ r. now) (λ rs nobody. now)
        (λ d n cs none nobody meant space. either_stands d n cs (reads_at k b) refl none meant (has_room (ground_of p k b t) cs space))

-- ---- a branch decides, or is settled

-- what is so of the changes of the other branches, and of none, is so without those of a branch
left_so : (owns : List Owned) (b c : BranchId) (P : List Change → Type 0) → P [] → (same b c ≡ false → P (changes_at owns c)) → P (changes_at (drop_item own_id owns b) c)
left_so owns b c P none other = by (same b c) refl
  where
    by : (here : Bool) → same b c ≡ here → P (changes_at (drop_item own_id owns b) c)
    by true is = subst (λ o. P (changes_of (sets_of o))) (sym (subst (λ m. item_at own_id (drop_item own_id owns b) m ≡ None) (equal_from_same b c is) (drop_gone own_id owns b))) none
    by false is = subst (λ o. P (changes_of (sets_of o))) (sym (drop_leaves own_id owns b c is)) (other is)

module _ (p : Place) (k : NodeState) (rows : HasRows k) (ids : HasOwnIds k) (keys : Keys k) (now : Stands p k) where
  -- the changes of a branch that decides leave the keys of all others
  decided : (b : BranchId) → IsLive k b → UndoStands p.undo (apply_all k.stored.rows (own_changes k b)) (drop_item own_id k.owns b) k.stored.doubts
  decided b live =
      rows_changed_beside p.undo k.stored.rows (drop_item own_id k.owns b) k.stored.doubts (dropped p.undo k.stored.rows k.owns k.stored.doubts now b) (own_changes k b)
      (λ c. left_so k.owns b c (AreOfTables k.stored.rows) tt (λ other. own_tables k rows c)) (doubt_tables k rows)
      (λ c. left_so k.owns b c (LeaveKeys (own_changes k b)) tt (λ other. keys_apart k.locks b c other (own_changes k b) (changes_at k.owns c) (keys.own b) (keys.own c)))
      (all_both (λ d. AreHeld (is_doubted_by d.branch) k.locks d.changes) (λ d. same d.branch b ≡ false) (λ d. LeaveKeys (own_changes k b) d.changes)
      (λ d held other. keys_apart k.locks b d.branch (other_way d.branch b other) (own_changes k b) d.changes (keys.own b) (doubted_written k.locks d.branch d.changes held))
      k.stored.doubts keys.doubts (not_doubted k b live (apart_of k ids)))

  module _ (b : BranchId) (none : item_at own_id k.owns b ≡ None) where
    held : (o : Option Doubt) → item_at doubt_id k.stored.doubts b ≡ o → AreHeld (is_written_by b) k.locks (held_back o)
    held None is = tt
    held (Some d) is =
        subst (λ c. AreHeld (is_written_by c) k.locks d.changes) (item_is doubt_id k.stored.doubts b d is)
        (doubted_written k.locks d.branch d.changes (all_found (λ e. AreHeld (is_doubted_by e.branch) k.locks e.changes) _ k.stored.doubts d keys.doubts is))

    leaves : (c : BranchId) → LeaveKeys (held_back (item_at doubt_id k.stored.doubts b)) (changes_at k.owns c)
    leaves c = by (same b c) refl
      where
        by : (here : Bool) → same b c ≡ here → LeaveKeys (held_back (item_at doubt_id k.stored.doubts b)) (changes_at k.owns c)
        by true is = subst (λ o. LeaveKeys (held_back (item_at doubt_id k.stored.doubts b)) (changes_of (sets_of o))) (sym (subst (λ m. item_at own_id k.owns m ≡ None) (equal_from_same b c is) none)) tt
        by false is = keys_apart k.locks b c is (held_back (item_at doubt_id k.stored.doubts b)) (changes_at k.owns c) (held (item_at doubt_id k.stored.doubts b) refl) (keys.own c)

    -- a branch that is not live is settled, if it is in doubt
    settles : (d : Decision) → UndoStands p.undo (settled k.stored.rows (item_at doubt_id k.stored.doubts b) d) k.owns (drop_item doubt_id k.stored.doubts b)
    settles d =
        ended p.undo k.stored.rows k.owns k.stored.doubts now (own_tables k rows) (doubt_tables k rows) b leaves (held_leaves k.stored.doubts b (doubts_apart k.locks k.stored.doubts keys.doubts)) d

  -- a record of the catalog or of a setting
  made : {s : Stmt} {r : RedoRecord} {d : Done} → Makes k s r d → Stands p (with_record k r)
  unfolding applied
  made (steps.Makes_table t free) = table_made p.undo k.stored.rows k.owns k.stored.doubts now t.name (own_tables k rows) (doubt_tables k rows)
  made (steps.Makes_link l free) = now
  made (steps.Makes_synonym y free) = now
  made (steps.Sets_recovery on) = now
  made (steps.Sets_strength strength) = now

-- ---- steps

module _ (p : Place) (input : Input) where
  -- without a branch
  gone : (k : NodeState) (b : BranchId) → Stands p k → UndoStands p.undo k.stored.rows (drop_item own_id k.owns b) k.stored.doubts
  gone k b now = dropped p.undo k.stored.rows k.owns k.stored.doubts now b

  -- with a branch sealed
  seals : (k : NodeState) (r : Sealed) → r.changes ≡ changes_at k.owns r.me → Stands p k → UndoStands p.undo k.stored.rows (drop_item own_id k.owns r.me) (applied k.stored (records.Sealed r)).doubts
  unfolding applied
  seals k r is now = sealed p.undo k.stored.rows k.owns k.stored.doubts now r is

  -- a branch goes back, whichever child it calls first
  went_back : (k : NodeState) (x : Branch) (to : ℕ) → Stands p k → AreEven k.owns → (next : Option ℕ) → Stands p (backs_to (node_back k x to) (branch_back k x to) to next).after
  went_back k x to now even None = back_stands p.undo k.stored.rows k.owns k.stored.doubts now x.live.me (sets_behind x.work.marks to) even
  went_back k x to now even (Some i) = back_stands p.undo k.stored.rows k.owns k.stored.doubts now x.live.me (sets_behind x.work.marks to) even

  -- each step leaves the undo standing
  pub undo_on : {k : NodeState} {d : TurnDraft} → Step p input k d → HasRows k → HasOwnIds k → ChangesAreOfLives k.lives k.owns → Keys k → Stands p k → AreEven k.owns → Stands p d.after
  unfolding applied
  undo_on (steps.Begins {k = k} n s read_at call begins fit none step) rows ids own keys now even = undo_on step rows (begun_ids k ids p n read_at fit) (begun_fits k.lives k.owns own _ refl) keys now even
  undo_on (steps.Counts_call {k = k} n s call counts step) rows ids own keys now even =
      undo_on step rows (still k ids (counted k n).sessions (counted_seqs k.sessions n (session_at k.sessions n).root)) own keys now even
  undo_on (steps.Goes_back {k = k} x to goes next) rows ids own keys now even = went_back k x to now even (next_back (branch_back k x to).work to 1)
  undo_on (steps.Pends {k = k} n l given call has live code writer step) rows ids own keys now even = undo_on step rows (still k ids (with_call k.sessions n pending.Commit) (call_seqs k.sessions n pending.Commit)) own keys now even
  undo_on (steps.Lets_reads_go {k = k} l comment site_below live begins step) rows ids own keys now even = undo_on step rows ids own (reads_gone k.locks k.owns k.stored.doubts keys l.me) now even
  undo_on (steps.Counts_ack {k = k} s from kept came counts step) rows ids own keys now even = undo_on step rows (with_ack k ids s from kept) own keys now even
  undo_on (steps.Runs {k = k} x s given t asked way) rows ids own keys now even =
      run_stands p k x.live.me s t (ref_of s).name (runs_at_table p k.stored.durable x.live given s t way) rows now
      (reader_reads p asked way)
  undo_on (steps.Acts {k = k} l site_below acts.Rest why) rows ids own keys now even = now
  undo_on (steps.Acts {k = k} l site_below acts.AskDown why) rows ids own keys now even = now
  undo_on (steps.Acts {k = k} l site_below acts.SayReady why) rows ids own keys now even = now
  undo_on (steps.Acts {k = k} l site_below acts.Seal why) rows ids own keys now even = seals k (sealed_of k.clock l (own_changes k l.me) None) refl now
  undo_on (steps.Acts {k = k} l site_below (acts.SealAndPass i) why) rows ids own keys now even = seals k (sealed_of k.clock l (own_changes k l.me) (Some i)) refl now
  undo_on (steps.Acts {k = k} l site_below acts.Decide why) rows ids own keys now even = decided p k rows ids keys now l.me (acting_live why)
  undo_on (steps.Acts {k = k} l site_below _ why) rows ids own keys now even = gone k l.me now
  undo_on (steps.Drops_told {k = k} l live drops) rows ids own keys now even = gone k l.me now
  undo_on (steps.Drops_asked {k = k} l from live came parent) rows ids own keys now even = gone k l.me now
  undo_on (steps.Does {k = k} s from (nexts.End d) kept why) rows ids own keys now even =
      settles p k rows ids keys now s.me (own.live s.me (all_found (λ x. live_at k x.me ≡ None) _ k.stored.durable.kept s (apart_of k ids).rows kept)) d
  undo_on (steps.Makes_record {k = k} n s r d call makes) rows ids own keys now even = made p k rows ids keys now makes
  undo_on (steps.Forces_given {k = k} n id m b call named) rows ids own keys now even =
      settles p k rows ids keys now b (own.live b (forced_so p.names (λ c. live_at k c ≡ None) k.stored.durable.kept id b (apart_of k ids).rows named)) (decisions.Commit m)
  undo_on (steps.Forces_commit {k = k} n id b call named) rows ids own keys now even =
      settles p k rows ids keys now b (own.live b (forced_so p.names (λ c. live_at k c ≡ None) k.stored.durable.kept id b (apart_of k ids).rows named)) (decisions.Commit (k.clock + 1))
  undo_on (steps.Forces_rollback {k = k} n id b call named) rows ids own keys now even =
      settles p k rows ids keys now b (own.live b (forced_so p.names (λ c. live_at k c ≡ None) k.stored.durable.kept id b (apart_of k ids).rows named)) decisions.Rollback
  undo_on (steps.Leaves {k = k} n s d x call ends has live) rows ids own keys now even = gone k x.live.me now
  undo_on (steps.Gives_up_commit {k = k} n b (Some l) gives has pending live) rows ids own keys now even = gone k l.me now
  undo_on _ rows ids own keys now even = now

  -- ---- the space of branches in doubt

  doubts_within : (k : NodeState) → doubt_extents k.stored.doubts ≤ used_extents k.owns k.stored.doubts
  doubts_within k = omega arith

  fewer_within : (k : NodeState) (b : BranchId) → doubt_extents (drop_item doubt_id k.stored.doubts b) ≤ used_extents k.owns k.stored.doubts
  fewer_within k b = let less = doubts_fewer k.stored.doubts b in omega (arith, less)

  seal_within : (k : NodeState) (r : Sealed) → r.changes ≡ changes_at k.owns r.me → Stands p k → NeedsNoMore k (records.Sealed r)
  seal_within k r is now = let even = sealed_room p.undo k.stored.rows k.owns k.stored.doubts now r is in omega (arith, even)

  made_within : (k : NodeState) {s : Stmt} {r : RedoRecord} {d : Done} → Makes k s r d → NeedsNoMore k r
  made_within k (steps.Makes_table t free) = doubts_within k
  made_within k (steps.Makes_link l free) = doubts_within k
  made_within k (steps.Makes_synonym y free) = doubts_within k
  made_within k (steps.Sets_recovery on) = doubts_within k
  made_within k (steps.Sets_strength strength) = doubts_within k

  back_space : (k : NodeState) (x : Branch) (to : ℕ) (next : Option ℕ) → IfSome (backs_to (node_back k x to) (branch_back k x to) to next).wrote (NeedsNoMore k)
  back_space k x to None = tt
  back_space k x to (Some i) = tt

  -- each step writes a record that needs no more
  pub space_on : {k : NodeState} {d : TurnDraft} → Step p input k d → Stands p k → IfSome d.wrote (NeedsNoMore k)
  space_on (steps.Begins {k = k} n s read_at call begins fit none step) now = space_on step now
  space_on (steps.Counts_call n s call counts step) now = space_on step now
  space_on (steps.Goes_back {k = k} x to goes next) now = back_space k x to (next_back (branch_back k x to).work to 1)
  space_on (steps.Pends {k = k} n l given call has live code writer step) now = space_on step now
  space_on (steps.Lets_reads_go {k = k} l comment site_below live begins step) now = space_on step now
  space_on (steps.Counts_ack {k = k} s from kept came counts step) now = space_on step now
  space_on (steps.Acts {k = k} l site_below acts.Seal why) now = seal_within k (sealed_of k.clock l (own_changes k l.me) None) refl now
  space_on (steps.Acts {k = k} l site_below (acts.SealAndPass i) why) now = seal_within k (sealed_of k.clock l (own_changes k l.me) (Some i)) refl now
  space_on (steps.Acts {k = k} l site_below acts.Decide why) now = doubts_within k
  space_on (steps.Does {k = k} s from (nexts.End d) kept why) now = fewer_within k s.me
  space_on (steps.Does {k = k} s from (nexts.Meet d mixed) kept why) now = doubts_within k
  space_on (steps.Does {k = k} s from nexts.Forget kept why) now = doubts_within k
  space_on (steps.Makes_record {k = k} n s r d call makes) now = made_within k makes
  space_on (steps.Forces_given {k = k} n id m b call named) now = fewer_within k b
  space_on (steps.Forces_commit {k = k} n id b call named) now = fewer_within k b
  space_on (steps.Forces_rollback {k = k} n id b call named) now = fewer_within k b
  space_on (steps.Hides {k = k} n mixed id s call found) now = doubts_within k
  space_on (steps.Images {k = k} checkpoint) now = doubts_within k
  space_on (steps.Gives_up_commit n b None gives has pending none) now = tt
  space_on _ now = tt

  -- ---- the undo of a branch that seals

  back_seal : (k : NodeState) (x : Branch) (to : ℕ) (next : Option ℕ) → IfSome (backs_to (node_back k x to) (branch_back k x to) to next).wrote (SealsWithItsUndo k)
  back_seal k x to None = tt
  back_seal k x to (Some i) = tt

  -- each step that seals a branch seals it with the undo that was kept
  pub seal_on : {k : NodeState} {d : TurnDraft} → Step p input k d → Stands p k → IfSome d.wrote (SealsWithItsUndo k)
  seal_on (steps.Begins {k = k} n s read_at call begins fit none step) now = seal_on step now
  seal_on (steps.Counts_call n s call counts step) now = seal_on step now
  seal_on (steps.Goes_back {k = k} x to goes next) now = back_seal k x to (next_back (branch_back k x to).work to 1)
  seal_on (steps.Pends {k = k} n l given call has live code writer step) now = seal_on step now
  seal_on (steps.Lets_reads_go {k = k} l comment site_below live begins step) now = seal_on step now
  seal_on (steps.Counts_ack {k = k} s from kept came counts step) now = seal_on step now
  seal_on (steps.Acts {k = k} l site_below acts.Seal why) now = sym (now.own l.me)
  seal_on (steps.Acts {k = k} l site_below (acts.SealAndPass i) why) now = sym (now.own l.me)
  seal_on (steps.Does s from nexts.Rest kept why) now = tt
  seal_on (steps.Makes_record {k = k} n s r d call makes) now = made_so (SealsWithItsUndo k) (λ t. tt) (λ l. tt) (λ y. tt) (λ on. tt) makes
  seal_on (steps.Gives_up_commit n b None gives has pending none) now = tt
  seal_on _ now = tt

  -- ---- rows from before each change

  back_evenly : (k : NodeState) (x : Branch) (to : ℕ) → AreEven k.owns → (next : Option ℕ) → AreEven (backs_to (node_back k x to) (branch_back k x to) to next).after.owns
  back_evenly k x to now None = back_even k.owns x.live.me (sets_behind x.work.marks to) now
  back_evenly k x to now (Some i) = back_even k.owns x.live.me (sets_behind x.work.marks to) now

  -- each step keeps the undo of each statement with it
  pub even_on : {k : NodeState} {d : TurnDraft} → Step p input k d → AreEven k.owns → AreEven d.after.owns
  even_on (steps.Begins n s read_at call begins fit none step) now = even_on step now
  even_on (steps.Counts_call n s call counts step) now = even_on step now
  even_on (steps.Goes_back {k = k} x to goes next) now = back_evenly k x to now (next_back (branch_back k x to).work to 1)
  even_on (steps.Pends n l given call has live code writer step) now = even_on step now
  even_on (steps.Lets_reads_go l comment site_below live begins step) now = even_on step now
  even_on (steps.Counts_ack s from kept came counts step) now = even_on step now
  even_on (steps.Runs {k = k} x s given t asked way) now = ran_even k.owns x.live.me (view k x.live.me t.name) (ran p k x.live.me s t) now
  even_on (steps.Acts l site_below acts.Rest why) now = now
  even_on (steps.Acts l site_below acts.AskDown why) now = now
  even_on (steps.Acts l site_below acts.SayReady why) now = now
  even_on (steps.Acts {k = k} l site_below _ why) now = drop_even k.owns l.me now
  even_on (steps.Drops_told {k = k} l live drops) now = drop_even k.owns l.me now
  even_on (steps.Drops_asked {k = k} l from live came parent) now = drop_even k.owns l.me now
  even_on (steps.Does s from nexts.Rest kept why) now = now
  even_on (steps.Leaves {k = k} n s d x call ends has live) now = drop_even k.owns x.live.me now
  even_on (steps.Gives_up_commit {k = k} n b (Some l) gives has pending live) now = drop_even k.owns l.me now
  even_on (steps.Gives_up_commit n b None gives has pending none) now = now
  even_on _ now = now
