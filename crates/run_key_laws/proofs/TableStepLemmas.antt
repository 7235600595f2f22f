-- Each step of a turn changes tables of its node, and tables are created by statements that a text spells.
use Rattle.std.proofs.Common.{◌≡◌, ℕ, ◌+◌, Bool, true, false, List, [], ◌∷◌, ◌++◌, Option, Some, None, inl, inr, refl, sym, subst, ◌-◌, ◌&&◌, length, ap}
use Rattle.std.specs.Prelude.{IfSome, is_some}
use Rattle.std.specs.Option.{option_to_list}
use Rattle.std.specs.List.{AllByRecursion}
use Rattle.std.proofs.lemmas.List.Elements.{recursion_from_All}
use Rattle.sql_eval.specs.Laws.{has_one_key, IsChangeOf, AreRowsOf}
use Rattle.sql_eval.proofs.RowLaws.{changes_are_of_table}
use Rattle.sql_eval.specs.declared.meant.Meant.TheVariants as meants
use Rattle.node_rules.specs.Data.{Change, Table, Stmt, Done, BranchId, RedoRecord, Keyed, Place, Input, Owned}
use Rattle.node_rules.specs.Data.acts
use Rattle.node_rules.specs.Data.records
use Rattle.node_rules.specs.Data.decisions
use Rattle.commit_forget.specs.declared.next.Next.TheVariants as nexts
use Rattle.node_rules.specs.Words.{item_at, put_item, drop_item}
use Rattle.node_rules.specs.Rows.{rows_of_table, set_over, changes_of, view_of}
use Rattle.node_rules.specs.NodeState.{NodeState, TurnDraft, own_id, sets_of, sets_at, Branch}
use Rattle.node_rules.specs.Records.{applied, nothing_stored, stored_by}
use Rattle.node_rules.specs.Names.{table_of, ref_of, is_write}
use Rattle.node_rules.specs.Prepare.{sealed_record, decided_record}
use Rattle.node_rules.specs.Statement.{StmtOutcome, Refuses, Reads, Writes, ran, ground_of, owns_after, view, reads_at, rows_read}
use Rattle.node_rules.specs.Turn.{start_of}
use Rattle.redo_record.specs.Durable.{durable_after}
use Rattle.node_rules.proofs.Steps as steps
use Rattle.node_rules.proofs.Steps.{Step, Makes, Makes_table, Makes_link, Makes_synonym, Sets_recovery, Sets_strength}
use Rattle.tran_ids.proofs.ListedLemmas.{put_or_before, drop_gone, drop_leaves}
use Rattle.tran_ids.proofs.BranchLemmas.{equal_from_same}
use Rattle.node_rules.specs.Words.{same}
use Rattle.node_rules.specs.Calls.{backs_to}
use Rattle.node_rules.specs.Images.{image_at}
use Rattle.node_rules.specs.Marks.{sets_behind, node_back, branch_back, next_back}
use Rattle.node_rules.specs.Meaning.{checked, meant_over}
use Rattle.run_key_laws.specs.ChangedLaws.{changes_at}
use Rattle.run_key_laws.specs.TableLaws.{table_in, IsChangeIn, AreChangesIn, StoredFits, LiveChangesFit}
use Rattle.run_rules.proofs.ListLemmas.{all_weaker, all_append}
use Rattle.run_base_laws.proofs.StoredLemmas.{StoresOf, step_stores_of, start_stores, stored_with}
use Rattle.run_key_laws.proofs.ChangedLemmas.{one_more_set, append_none}
use Rattle.run_key_laws.proofs.RanLemmas.{run_so, runs_at_table, reader_reads, changes_none}
use Rattle.run_key_laws.proofs.TableLemmas.{table_is, table_found, changes_stay, apply_rows, RecordFits, stored_fits}
use Rattle.run_base_laws.proofs.NodeLemmas.{Keeps}
use Rattle.row_store.specs.Store.{without_sets}
use Rattle.node_undo_laws.proofs.BackSetLemmas.{back_leaves, back_sets, first_changes}

-- ---- a run

-- the changes of a run are of these tables
abbrev pub RunFits : List Table → StmtOutcome → Type 0
RunFits ts (Writes d cs keys undo) = AreChangesIn ts cs
RunFits ts _ = Unit {0}

module _ (ts : List Table) (owns : List Owned) (own : LiveChangesFit ts owns) where
  -- a live branch with one more set of changes
  more_fit : (b c : BranchId) (rows : List Keyed) (cs : List Change) → AreChangesIn ts cs → AreChangesIn ts (changes_at (put_item own_id owns (record { branch = b; sets = sets_at owns b ++ set_over rows cs ∷ [] })) c)
  more_fit b c rows cs all = elim (put_or_before own_id owns (record { branch = b; sets = sets_at owns b ++ set_over rows cs ∷ [] }) c) [
    | inl before ↦ subst (λ o. AreChangesIn ts (changes_of (sets_of o))) (sym before) (own c)
    | inr new ↦ subst (λ o. AreChangesIn ts (changes_of (sets_of o))) (sym new.1)
        (subst (AreChangesIn ts) (sym (one_more_set (sets_at owns b) rows cs)) (all_append (IsChangeIn ts) (changes_at owns b) (cs ++ []) (own b) (subst (AreChangesIn ts) (sym (append_none cs)) all)))
  ]

  pub run_leaves : (b : BranchId) (rows : List Keyed) (r : StmtOutcome) → RunFits ts r → LiveChangesFit ts (owns_after owns b rows r)
  run_leaves b rows (Refuses e) all = own
  run_leaves b rows (Reads rs keys) all = own
  run_leaves b rows (Writes d cs keys undo) all = λ c. more_fit b c rows cs all

  -- without those of a branch
  pub drop_leaves_fit : (b : BranchId) → LiveChangesFit ts (drop_item own_id owns b)
  drop_leaves_fit b c = by (same b c) refl
    where
      by : (here : Bool) → same b c ≡ here → AreChangesIn ts (changes_at (drop_item own_id owns b) c)
      by true is = subst (λ o. AreChangesIn ts (changes_of (sets_of o))) (sym (subst (λ m. item_at own_id (drop_item own_id owns b) m ≡ None) (equal_from_same b c is) (drop_gone own_id owns b))) tt
      by false is = subst (λ o. AreChangesIn ts (changes_of (sets_of o))) (sym (drop_leaves own_id owns b c is)) (own c)

  -- without the last ones of a branch
  pub back_leaves_fit : (b : BranchId) (n : ℕ) → LiveChangesFit ts (without_sets owns b n)
  back_leaves_fit b n c = by (same b c) refl
    where
      by : (here : Bool) → same b c ≡ here → AreChangesIn ts (changes_at (without_sets owns b n) c)
      by true is =
          subst (λ m. AreChangesIn ts (changes_at (without_sets owns b n) m)) (equal_from_same b c is)
          (subst (λ sets. AreChangesIn ts (changes_of sets)) (sym (back_sets owns b n)) (first_changes (IsChangeIn ts) (length (sets_at owns b) - n) (sets_at owns b) (own b)))
      by false is = subst (λ o. AreChangesIn ts (changes_of (sets_of o))) (sym (back_leaves owns b n c is)) (own c)

-- what is stored, and what live branches changed
abbrev pub Fits : NodeState → Type 0
Fits k = StoredFits k.stored × LiveChangesFit k.stored.durable.tables k.owns

module _ (k : NodeState) (b : BranchId) (t : Table) (name : List ℕ) (found : table_of k.stored.durable name ≡ Some t) (now : Fits k) where
  by_name : table_in k.stored.durable.tables t.name ≡ Some t
  by_name = subst (λ m. table_in k.stored.durable.tables m ≡ Some t) (sym (table_is k.stored.durable.tables name t found)) found

  pub one_key : has_one_key t ≡ true
  one_key = table_found (λ u. has_one_key u ≡ true) k.stored.durable.tables name t now.0.one_key found

  -- a branch that reads the newest rows sees rows of the table
  pub sees_rows : AreRowsOf t (view_of k.stored.rows (changes_at k.owns b) t.name)
  sees_rows = apply_rows k.stored.durable.tables (changes_at k.owns b) (now.1 b) t (rows_of_table k.stored.rows t.name) by_name (now.0.rows_of t.name t by_name)

  -- so a run changes rows of the table, and one that reads at an SCN changes none
  module _ (s : Stmt) (reader : (is_some (reads_at k b) && is_write s) ≡ false) where
    either_fits : (d : Done) (n : ℕ) (cs : List Change) (o : Option ℕ) → reads_at k b ≡ o → checked s t ≡ None → meant_over s t (view k b t.name) ≡ meants.Changes d n cs → AreChangesIn k.stored.durable.tables cs
    either_fits d n cs None is none meant =
        let same : view k b t.name ≡ view_of k.stored.rows (changes_at k.owns b) t.name = ap (λ r. view_of (rows_read k r) (changes_at k.owns b) t.name) is in
        all_weaker (IsChangeOf t) (IsChangeIn k.stored.durable.tables) (λ c is. (t, subst (λ m. table_in k.stored.durable.tables m ≡ Some t) (sym is.0) by_name, is))
        cs (recursion_from_All (IsChangeOf t) cs (changes_are_of_table s t (view k b t.name) d n cs one_key (subst (AreRowsOf t) (sym same) sees_rows) none meant))
    either_fits d n cs (Some scn) is none meant =
        let reads : is_write s ≡ false = subst (λ r. (is_some r && is_write s) ≡ false) is reader in
        subst (AreChangesIn k.stored.durable.tables) (sym (changes_none s t (view k b t.name) d n cs reads meant)) tt

    pub run_fits : (p : Place) → RunFits k.stored.durable.tables (ran p k b s t)
    unfolding ran
    run_fits p =
        run_so (ground_of p k b t) s t (RunFits k.stored.durable.tables) (λ r. tt) (λ rows nobody. tt)
        (λ d n cs none nobody meant space. either_fits d n cs (reads_at k b) refl none meant)

-- ---- whole tables

-- a record of a table is of one with one key
abbrev pub MakesWhole : RedoRecord → Type 0
MakesWhole (records.Table t) = has_one_key t ≡ true
MakesWhole _ = Unit {0}

abbrev pub AreWhole : List RedoRecord → Type 0
AreWhole rs = AllByRecursion MakesWhole rs

-- a record that is no table's
made_whole : (ts : List Table) {k : NodeState} {s : Stmt} {r : RedoRecord} {d : Done} → MakesWhole r → Makes k s r d → RecordFits ts r
made_whole ts whole (Makes_table t free) = whole
made_whole ts whole (Makes_link l free) = tt
made_whole ts whole (Makes_synonym y free) = tt
made_whole ts whole (Sets_recovery on) = tt
made_whole ts whole (Sets_strength strength) = tt

-- live changes stay of tables with a record
made_leaves : (k : NodeState) {s : Stmt} {r : RedoRecord} {d : Done} → LiveChangesFit k.stored.durable.tables k.owns → Makes k s r d → LiveChangesFit (applied k.stored r).durable.tables k.owns
unfolding applied durable_after
made_leaves k own (Makes_table t free) = λ b. changes_stay k.stored.durable.tables t (changes_at k.owns b) (own b)
made_leaves k own (Makes_link l free) = own
made_leaves k own (Makes_synonym y free) = own
made_leaves k own (Sets_recovery on) = own
made_leaves k own (Sets_strength strength) = own

-- ---- steps

module _ (p : Place) (input : Input) where
  -- a branch goes back, whichever child it calls first
  went_back : (k : NodeState) (x : Branch) (to : ℕ) → Fits k → (next : Option ℕ) → Fits (backs_to (node_back k x to) (branch_back k x to) to next).after
  went_back k x to now None = (now.0, back_leaves_fit k.stored.durable.tables k.owns now.1 x.live.me (sets_behind x.work.marks to))
  went_back k x to now (Some i) = (now.0, back_leaves_fit k.stored.durable.tables k.owns now.1 x.live.me (sets_behind x.work.marks to))

  -- each step with a whole table leaves all so
  fits_on : {k : NodeState} {d : TurnDraft} → Step p input k d → IfSome d.wrote MakesWhole → Fits k → Fits d.after
  unfolding applied durable_after
  fits_on (steps.Begins n s read_at call begins fit none step) whole now = fits_on step whole now
  fits_on (steps.Counts_call n s call counts step) whole now = fits_on step whole now
  fits_on (steps.Goes_back {k = k} x to goes next) whole now = went_back k x to now (next_back (branch_back k x to).work to 1)
  fits_on (steps.Pends n l given call has live code writer step) whole now = fits_on step whole now
  fits_on (steps.Lets_reads_go l comment site_below live begins step) whole now = fits_on step whole now
  fits_on (steps.Counts_ack s from kept came counts step) whole now = fits_on step whole now
  fits_on (steps.Runs {k = k} x s given t asked way) whole now = (
    now.0,
    run_leaves k.stored.durable.tables k.owns now.1 x.live.me (view k x.live.me t.name) (ran p k x.live.me s t)
        (run_fits k x.live.me t (ref_of s).name (runs_at_table p k.stored.durable x.live given s t way) now s (reader_reads p asked way) p),
  )
  fits_on (steps.Acts {k = k} l site_below acts.Rest why) whole now = now
  fits_on (steps.Acts {k = k} l site_below acts.AskDown why) whole now = now
  fits_on (steps.Acts {k = k} l site_below acts.SayReady why) whole now = now
  fits_on (steps.Acts {k = k} l site_below acts.Seal why) whole now =
      (stored_fits k.stored (sealed_record k l None) (now.1 l.me) now.0, drop_leaves_fit k.stored.durable.tables k.owns now.1 l.me)
  fits_on (steps.Acts {k = k} l site_below (acts.SealAndPass i) why) whole now =
      (stored_fits k.stored (sealed_record k l (Some i)) (now.1 l.me) now.0, drop_leaves_fit k.stored.durable.tables k.owns now.1 l.me)
  fits_on (steps.Acts {k = k} l site_below acts.Decide why) whole now =
      (stored_fits k.stored (decided_record k l) (now.1 l.me) now.0, drop_leaves_fit k.stored.durable.tables k.owns now.1 l.me)
  fits_on (steps.Acts {k = k} l site_below _ why) whole now = (now.0, drop_leaves_fit k.stored.durable.tables k.owns now.1 l.me)
  fits_on (steps.Drops_told {k = k} l live drops) whole now = (now.0, drop_leaves_fit k.stored.durable.tables k.owns now.1 l.me)
  fits_on (steps.Drops_asked {k = k} l from live came parent) whole now = (now.0, drop_leaves_fit k.stored.durable.tables k.owns now.1 l.me)
  fits_on (steps.Does {k = k} s from (nexts.End d) kept why) whole now = (stored_fits k.stored (records.Ended s.me d) tt now.0, now.1)
  fits_on (steps.Does {k = k} s from (nexts.Meet d mixed) kept why) whole now = (stored_fits k.stored (records.Met s.me d mixed) tt now.0, now.1)
  fits_on (steps.Does {k = k} s from nexts.Forget kept why) whole now = (stored_fits k.stored (records.Forgot s.me) tt now.0, now.1)
  fits_on (steps.Makes_record {k = k} n s r d call makes) whole now =
      (stored_fits k.stored r (made_whole k.stored.durable.tables whole makes) now.0, made_leaves k now.1 makes)
  fits_on (steps.Forces_given {k = k} n id m b call named) whole now = (stored_fits k.stored (records.Forced b (decisions.Commit m) true) tt now.0, now.1)
  fits_on (steps.Forces_commit {k = k} n id b call named) whole now = (stored_fits k.stored (records.Forced b (decisions.Commit (k.clock + 1)) false) tt now.0, now.1)
  fits_on (steps.Forces_rollback {k = k} n id b call named) whole now = (stored_fits k.stored (records.Forced b decisions.Rollback false) tt now.0, now.1)
  fits_on (steps.Hides {k = k} n mixed id s call found) whole now = (stored_fits k.stored (records.Hidden s.me) tt now.0, now.1)
  fits_on (steps.Images {k = k} checkpoint) whole now = (stored_fits k.stored (records.Image (image_at k.stored k.clock)) tt now.0, now.1)
  fits_on (steps.Leaves {k = k} n s d x call ends has live) whole now = (now.0, drop_leaves_fit k.stored.durable.tables k.owns now.1 x.live.me)
  fits_on (steps.Gives_up_commit {k = k} n b (Some l) gives has pending live) whole now = (now.0, drop_leaves_fit k.stored.durable.tables k.owns now.1 l.me)
  fits_on (steps.Gives_up_commit {k = k} n b None gives has pending gone) whole now = now
  fits_on (steps.Does s from _ kept why) whole now = now
  fits_on _ whole now = now

-- ---- nodes whose records make whole tables

-- of a disk
abbrev pub DiskFits : List RedoRecord → Type 0
DiskFits rs = AreWhole rs → StoredFits (stored_by nothing_stored rs)

-- and of a node that is up
abbrev pub NodeFits : List RedoRecord → NodeState → Type 0
NodeFits rs k = StoresOf rs k × (AreWhole rs → Fits k)

before : (rs : List RedoRecord) (w : Option RedoRecord) → AreWhole (rs ++ option_to_list w) → AreWhole rs × IfSome w MakesWhole
before [] None all = (tt, tt)
before [] (Some r) all = (tt, all.0)
before (x ∷ rs) w all = let rest = before rs w all.1 in ((all.0, rest.0), rest.1)

no_tables : StoredFits (stored_by nothing_stored [])
unfolding stored_by
no_tables = record { one_key = tt; known = λ name none. refl; rows_of = λ name t found. absurd cc; doubts = tt }

starts_fit : (rs : List RedoRecord) (boot : ℕ) → DiskFits rs → NodeFits (rs ++ records.Boot boot ∷ []) (start_of (rs ++ records.Boot boot ∷ []))
unfolding start_of
starts_fit rs boot disk = (start_stores (rs ++ records.Boot boot ∷ []), λ whole. (fits (before rs (Some (records.Boot boot)) whole).0, λ b. tt))
  where
    fits : AreWhole rs → StoredFits (stored_by nothing_stored (rs ++ records.Boot boot ∷ []))
    fits whole = subst StoredFits (sym (stored_with rs (Some (records.Boot boot)))) (stored_fits (stored_by nothing_stored rs) (records.Boot boot) tt (disk whole))

pub tables_keep : Keeps (λ p rs. DiskFits rs) (λ p rs k. NodeFits rs k)
tables_keep = record {
  empty = λ p whole. no_tables;
  starts = λ p rs boot disk next. starts_fit rs boot disk;
  hears = λ p rs k scn now. now;
  steps = λ p rs input k d step now. (
    step_stores_of p rs input k d step now.0,
    λ whole. (let was = before rs d.wrote whole in fits_on p input step was.1 (now.1 was.0)),
  );
  rests = λ p rs k now whole. subst StoredFits now.0 (now.1 whole).0;
}
