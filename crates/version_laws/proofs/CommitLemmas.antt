-- The changes of the commits up to an SCN that the records of a node make, and what one more record adds to them and to the rows.
use Rattle.std.proofs.Common.{◌≡◌, ℕ, ◌≤◌, Bool, true, false, if◌then◌else◌, List, [], ◌∷◌, ◌++◌, Option, Some, None, refl, sym, ap, subst, ◌∙◌, append-nil, append_assoc, arith}
use Rattle.std.specs.Prelude.{nat_le}
use Rattle.std.proofs.lemmas.Bool.Decides.{nat_tests}
use Rattle.sql_eval.specs.Rows.{apply}
use Rattle.row_store.specs.Store.{has_table}
use Rattle.redo_record.specs.Durable.{durable_after}
use Rattle.read_only_tx.specs.Versions.{Versions}
use Rattle.node_rules.specs.Data.{Value, Row, Change, Table, RedoRecord, Decision, Doubt}
use Rattle.node_rules.specs.Data.decisions
use Rattle.node_rules.specs.Data.params
use Rattle.node_rules.specs.Data.records
use Rattle.node_rules.specs.Words.{item_at}
use Rattle.node_rules.specs.Rows.{get, rows_of_table, apply_all}
use Rattle.node_rules.specs.NodeState.{Stored, doubt_id}
use Rattle.node_rules.specs.Records.{Commit, commit_of, doubt_commit, held_back, settled, rows_after, top_by, raised_to, versions_by, versions_after, versions_read, versions_in, applied, stored_by}
use Rattle.run_rules.proofs.ListLemmas.{all_append}
use Rattle.run_base_laws.proofs.OwnLemmas.{all_found}
use Rattle.run_key_laws.specs.TableLaws.{table_in, AreChangesIn, StoredFits}
use Rattle.run_key_laws.proofs.TableLemmas.{rows_more, has_applied}
use Rattle.run_key_laws.proofs.ToldLemmas.{rows_with, made_there}
use Rattle.book_laws.proofs.KeyChangeLemmas.{got_applied}
use Rattle.book_laws.proofs.RecordFitLemmas.{HasChangesIn, stay}
use Rattle.version_laws.proofs.ChainLemmas.{either_way, left, left_more, InStep, in_step_with}

-- the changes of a commit, where there is one
abbrev pub changes_in : Option Commit → List Change
changes_in None = []
changes_in (Some c) = c.changes

-- where its SCN is not above this one
abbrev pub changes_until : ℕ → Option Commit → List Change
changes_until scn None = []
changes_until scn (Some c) = if nat_le c.scn scn then c.changes else []

-- those of the commits up to an SCN that records make
abbrev pub until_by : ℕ → Stored → List RedoRecord → List Change
until_by scn s [] = []
until_by scn s (r ∷ rs) = changes_until scn (commit_of s.doubts r) ++ until_by scn (applied s r) rs

pub until_more : (scn : ℕ) (s : Stored) (rs : List RedoRecord) (r : RedoRecord) → until_by scn s (rs ++ r ∷ []) ≡ until_by scn s rs ++ changes_until scn (commit_of (stored_by s rs).doubts r)
unfolding stored_by
until_more scn s [] r = append-nil (changes_until scn (commit_of s.doubts r))
until_more scn s (x ∷ rs) r =
    ap (λ cs. changes_until scn (commit_of s.doubts x) ++ cs) (until_more scn (applied s x) rs r)
    ∙ sym (append_assoc (changes_until scn (commit_of s.doubts x)) (until_by scn (applied s x) rs) (changes_until scn (commit_of (stored_by (applied s x) rs).doubts r)))

pub versions_more : (s : Stored) (vs : Versions) (rs : List RedoRecord) (r : RedoRecord) → versions_in s vs (rs ++ r ∷ []) ≡ versions_read (stored_by s rs) (versions_in s vs rs) r
unfolding stored_by
versions_more s vs [] r = refl
versions_more s vs (x ∷ rs) r = versions_more (applied s x) (versions_read s vs x) rs r

-- ---- a record

-- the image says the greatest SCN of those that were committed
abbrev pub SaysTop : Stored → RedoRecord → Type 0
SaysTop s (records.Image i) = i.top ≡ s.top
SaysTop s _ = Unit {0}

-- each table has rows
abbrev pub HasRows : Stored → Type 0
HasRows s = (name : List ℕ) (x : Table) → table_in s.durable.tables name ≡ Some x → has_table s.rows name ≡ true

module _ (s : Stored) (fits : StoredFits s) (there : HasRows s) where
  -- a branch in doubt holds back changes of the tables
  held_in : (b : _) (o : Option Doubt) → item_at doubt_id s.doubts b ≡ o → AreChangesIn s.durable.tables (held_back o)
  held_in b None is = tt
  held_in b (Some d) is = all_found (λ x. AreChangesIn s.durable.tables x.changes) doubt_id s.doubts b d fits.doubts is

  doubt_in : (b : _) (d : Decision) → AreChangesIn s.durable.tables (changes_in (doubt_commit (item_at doubt_id s.doubts b) d))
  doubt_in b (decisions.Commit n) = held_in b (item_at doubt_id s.doubts b) refl
  doubt_in b decisions.Rollback = tt

  -- and so are those of a commit
  pub commit_in : (r : RedoRecord) → HasChangesIn s.durable.tables r → AreChangesIn s.durable.tables (changes_in (commit_of s.doubts r))
  commit_in (records.Decided r) has = has
  commit_in (records.Ended b d) has = doubt_in b d
  commit_in (records.Forced b d given) has = doubt_in b d
  commit_in _ has = tt

  with_changes : (cs : List Change) → AreChangesIn s.durable.tables cs → (name : List ℕ) → rows_of_table (apply_all s.rows cs) name ≡ apply name (rows_of_table s.rows name) cs
  with_changes cs all name = rows_with s.durable.tables s.rows s.doubts fits there cs all name

  settled_rows : (b : _) (d : Decision) (name : List ℕ) → rows_of_table (settled s.rows (item_at doubt_id s.doubts b) d) name ≡ apply name (rows_of_table s.rows name) (changes_in (doubt_commit (item_at doubt_id s.doubts b) d))
  settled_rows b (decisions.Commit n) name = with_changes (held_back (item_at doubt_id s.doubts b)) (held_in b (item_at doubt_id s.doubts b) refl) name
  settled_rows b decisions.Rollback name = refl

  -- a record leaves the rows with the changes of its commit
  rows_by : (r : RedoRecord) → HasChangesIn s.durable.tables r → (name : List ℕ) → rows_of_table (rows_after s.rows s.doubts r) name ≡ apply name (rows_of_table s.rows name) (changes_in (commit_of s.doubts r))
  rows_by (records.Table t) has name = rows_more s.rows t.name name
  rows_by (records.Decided r) has name = with_changes r.changes has name
  rows_by (records.Ended b d) has name = settled_rows b d name
  rows_by (records.Forced b d given) has name = settled_rows b d name
  rows_by _ has name = refl

  settled_there : (o : Option Doubt) (d : Decision) → (name : List ℕ) (x : Table) → table_in s.durable.tables name ≡ Some x → has_table (settled s.rows o d) name ≡ true
  settled_there o (decisions.Commit n) name x found = has_applied s.rows (held_back o) name ∙ there name x found
  settled_there o decisions.Rollback name x found = there name x found

  pub there_after : (r : RedoRecord) → HasRows (applied s r)
  unfolding applied durable_after
  there_after (records.Boot n) = there
  there_after (records.Table t) = made_there s.durable.tables s.rows t there
  there_after (records.Link l) = there
  there_after (records.Synonym y) = there
  there_after (records.Param (params.Recovery on)) = there
  there_after (records.Param (params.Strength strength)) = there
  there_after (records.Sealed r) = there
  there_after (records.Decided r) = λ name x found. has_applied s.rows r.changes name ∙ there name x found
  there_after (records.Ended b d) = settled_there (item_at doubt_id s.doubts b) d
  there_after (records.Forced b d given) = settled_there (item_at doubt_id s.doubts b) d
  there_after (records.Met b d mixed) = there
  there_after (records.Forgot b) = there
  there_after (records.Hidden b) = there
  there_after (records.Image i) = there

  module _ (scn : ℕ) (table : List ℕ) (key : Value) where
    abbrev row : Option Row
    row = get (rows_of_table s.rows table) key

    row_by : (r : RedoRecord) → HasChangesIn s.durable.tables r → get (rows_of_table (applied s r).rows table) key ≡ left scn table key row (changes_in (commit_of s.doubts r))
    unfolding applied
    row_by r has = ap (λ rows. get rows key) (rows_by r has table) ∙ got_applied table key (rows_of_table s.rows table) (changes_in (commit_of s.doubts r))

    -- ---- the commits that are kept

    kept_by_commit : (o : Option Commit) (until : List Change) (vs : Versions) → InStep scn table key until row vs
        → InStep scn table key (until ++ changes_until scn o) (left scn table key row (changes_in o)) (versions_by s.rows vs o)
    kept_by_commit None until vs step = subst (λ cs. InStep scn table key cs row vs) (sym (append-nil until)) step
    kept_by_commit (Some c) until vs step = in_step_with scn table key s.rows until vs c.scn c.changes step

    -- with one more record of a node that runs
    pub kept_after : (r : RedoRecord) → HasChangesIn s.durable.tables r → (until : List Change) (vs : Versions) → InStep scn table key until row vs
        → InStep scn table key (until ++ changes_until scn (commit_of s.doubts r)) (get (rows_of_table (applied s r).rows table) key) (versions_after s vs r)
    kept_after r has until vs step =
        subst (λ new. InStep scn table key (until ++ changes_until scn (commit_of s.doubts r)) new (versions_after s vs r)) (sym (row_by r has)) (kept_by_commit (commit_of s.doubts r) until vs step)

    -- ---- the greatest SCN of all commits

    -- it is not above, so the row is the one that the commits up to the SCN leave
    abbrev pub IsWhole : Stored → List Change → Type 0
    IsWhole s until = s.top ≤ scn → get (rows_of_table s.rows table) key ≡ left scn table key None until

    raised_low : (top n : ℕ) (cs : List Change) (until : List Change) (new : Option Row) → raised_to top n cs ≤ scn → (top ≤ scn → new ≡ left scn table key None until)
        → left scn table key new cs ≡ left scn table key None (until ++ (if nat_le n scn then cs else []))
    raised_low top n [] until new low whole = whole low ∙ ap (left scn table key None) (sym (append-nil until) ∙ ap (λ cs. until ++ cs) (sym (either_way (nat_le n scn) [])))
    raised_low top n (c ∷ cs) until new low whole =
        let old : nat_le n scn ≡ true = grind (arith, nat_tests, low) in
        ap (λ r. left scn table key r (c ∷ cs)) (whole (omega (arith, low)))
        ∙ (sym (left_more scn table key None until (c ∷ cs)) ∙ ap (λ q. left scn table key None (until ++ (if q then c ∷ cs else []))) (sym old))

    whole_by_commit : (o : Option Commit) (until : List Change) → IsWhole s until → top_by s.top o ≤ scn → left scn table key row (changes_in o) ≡ left scn table key None (until ++ changes_until scn o)
    whole_by_commit None until whole low = whole low ∙ ap (left scn table key None) (sym (append-nil until))
    whole_by_commit (Some c) until whole low = raised_low s.top c.scn c.changes until row low whole

    pub whole_after : (r : RedoRecord) → HasChangesIn s.durable.tables r → (until : List Change) → IsWhole s until → IsWhole (applied s r) (until ++ changes_until scn (commit_of s.doubts r))
    unfolding applied
    whole_after r has until whole low = row_by r has ∙ whole_by_commit (commit_of s.doubts r) until whole low

    -- with one more record in a start
    pub kept_read : (r : RedoRecord) → HasChangesIn s.durable.tables r → SaysTop s r → (until : List Change) (vs : Versions) → IsWhole s until → InStep scn table key until row vs
        → InStep scn table key (until ++ changes_until scn (commit_of s.doubts r)) (get (rows_of_table (applied s r).rows table) key) (versions_read s vs r)
    unfolding applied
    kept_read (records.Image i) has says until vs whole step = record {
      row = row;
      chain = refl;
      sees = λ low. whole (subst (λ top. top ≤ scn) says low) ∙ ap (left scn table key None) (sym (append-nil until));
    }
    kept_read r has says until vs whole step = kept_after r has until vs step

-- the changes of the commits up to an SCN are of the tables
pub until_in : (scn : ℕ) (s : Stored) (r : RedoRecord) → StoredFits s → HasRows s → HasChangesIn s.durable.tables r → (until : List Change) → AreChangesIn s.durable.tables until
    → AreChangesIn (applied s r).durable.tables (until ++ changes_until scn (commit_of s.doubts r))
until_in scn s r fits there has until all =
    stay s r (until ++ changes_until scn (commit_of s.doubts r)) (all_append _ until (changes_until scn (commit_of s.doubts r)) all (by (commit_of s.doubts r) (commit_in s fits there r has)))
  where
    by : (o : Option Commit) → AreChangesIn s.durable.tables (changes_in o) → AreChangesIn s.durable.tables (changes_until scn o)
    by None is = tt
    by (Some c) is = low (nat_le c.scn scn)
      where
        low : (q : Bool) → AreChangesIn s.durable.tables (if q then c.changes else [])
        low true = is
        low false = tt
