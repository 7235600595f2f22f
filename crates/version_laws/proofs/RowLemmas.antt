-- At each key that is not in doubt a node of a lawful run has at an SCN the row of the book up to it.
use Rattle.std.proofs.Common.{◌≡◌, ℕ, Bool, true, false, if◌then◌else◌, List, [], ◌∷◌, ◌++◌, filter, flat_map, fold, Option, Some, None, refl, sym, ap, subst, ◌∙◌, append-nil, append_assoc}
use Rattle.std.specs.Prelude.{nat_le}
use Rattle.std.specs.List.{list_any, AllByRecursion}
use Rattle.std.specs.List.Sorted.{IsStrictlySortedBy}
use Rattle.std.proofs.lemmas.Bool.{ltb-false}
use Rattle.sql_eval.specs.Laws.{AreRowsOf}
use Rattle.sql_eval.specs.Rows.{apply}
use Rattle.row_store.specs.Store.{has_table}
use Rattle.stmt_view_laws.specs.Views.{AreInKeyOrder}
use Rattle.stmt_view_laws.proofs.OrderLemmas.{changes_keep_order, same_rows}
use Rattle.read_only_tx.specs.Versions.{Version, Versions, undone, redone, rows_at, is_too_old}
use Rattle.node_rules.specs.Data.{Value, Row, Change, Table, RedoRecord}
use Rattle.node_rules.specs.NodeState.{NodeState, Stored}
use Rattle.node_rules.specs.Records.{nothing_stored, stored_by}
use Rattle.node_rules.specs.Rows.{TableRows, same_value, get, rows_of_table, apply_all, set_to}
use Rattle.node_rules.specs.Words.{same_text}
use Rattle.run_rules.specs.Data.{Entry}
use Rattle.run_rules.specs.Book.{Follows, EachAgainst, commits_at, committed_at, is_until, rows_until, rows_by_book, in_doubt}
use Rattle.run_rules.specs.Entries.{entry_of, book_of}
use Rattle.run_rules.specs.Facts.{node_at, records_at}
use Rattle.run_rules.specs.Lawful.{History, IsLawfulRun, facts_at}
use Rattle.run_rules.specs.Runs.{keys_in_doubt}
use Rattle.run_rules.proofs.ListLemmas.{all_append}
use Rattle.std.specs.Cmp.Lexicographic.{bytes_decides}
use Rattle.run_base_laws.proofs.StoredLemmas.{records_are_kept}
use Rattle.run_key_laws.specs.TableLaws.{table_in, IsChangeIn, AreChangesIn}
use Rattle.run_key_laws.proofs.BookRunLemmas.{rows_are_told}
use Rattle.run_key_laws.proofs.TableLemmas.{table_is, apply_rows, has_applied, rows_applied, no_rows}
use Rattle.run_key_laws.proofs.TableRunLemmas.{changes_are_of_tables}
use Rattle.tree_laws.proofs.AgreeLemmas.{runs_agree}
use Rattle.book_laws.proofs.DiskLemmas.{books_are_of_disks}
use Rattle.book_laws.proofs.FreeLemmas.{entries_come}
use Rattle.book_laws.proofs.KeyChangeLemmas.{got_applied}
use Rattle.book_laws.proofs.NodeBookLemmas.{ComesHere, own_entries, all_here}
use Rattle.book_laws.proofs.NodeDoubtLemmas.{DoubtsStand}
use Rattle.book_laws.proofs.OpenLemmas.{SealsFit, seals_fit_next}
use Rattle.book_laws.proofs.RecordFitLemmas.{HasChangesIn, book_fits, disk_changes}
use Rattle.book_laws.proofs.RowLemmas.{run_book}
use Rattle.book_laws.proofs.StandLemmas.{rows_same}
use Rattle.version_laws.specs.VersionLaws.{kept_at, VersionsAgree, VersionsFit, RowsUntilFit}
use Rattle.version_laws.proofs.ChainLemmas.{left, Chain, redo, InStep}
use Rattle.version_laws.proofs.CommitLemmas.{until_by}
use Rattle.version_laws.proofs.KeptLemmas.{DiskStands, KeptStands, kept_stands}
use Rattle.version_laws.proofs.EntryLemmas.{all_until, EndsHere, all_end_here, own_until, until_told}
use Rattle.version_laws.proofs.StripLemmas.{less, all_come, still_certain}
use Rattle.version_laws.proofs.SkipLemmas.{committed_less, rows_less}

-- ---- rows without commits, and with those up to an SCN

module _ (scn : ℕ) (table : List ℕ) where
  -- a table that is there has its rows with the changes
  has_undone : (rows : List TableRows) (vs : List Version) → has_table (undone rows vs) table ≡ has_table rows table
  has_undone rows [] = refl
  has_undone rows (v ∷ vs) = has_applied (undone rows vs) v.before table ∙ has_undone rows vs

  has_redone : (rows : List TableRows) (v : Version) → has_table (redone scn rows v) table ≡ has_table rows table
  has_redone rows v = by (nat_le v.scn scn)
    where
      by : (q : Bool) → has_table (if q then apply_all rows v.changes else rows) table ≡ has_table rows table
      by true = has_applied rows v.changes table
      by false = refl

  has_all : (rows : List TableRows) (vs : List Version) → has_table (fold (redone scn) rows vs) table ≡ has_table rows table
  has_all rows [] = refl
  has_all rows (v ∷ vs) = has_all (redone scn rows v) vs ∙ has_redone rows v

  with_changes : (rows : List TableRows) (cs : List Change) → has_table rows table ≡ true → AreInKeyOrder (rows_of_table rows table) → AreInKeyOrder (rows_of_table (apply_all rows cs) table)
  with_changes rows cs has order = subst AreInKeyOrder (sym (rows_applied rows cs table has)) (changes_keep_order table cs (rows_of_table rows table) order)

  order_undone : (rows : List TableRows) (vs : List Version) → has_table rows table ≡ true → AreInKeyOrder (rows_of_table rows table) → AreInKeyOrder (rows_of_table (undone rows vs) table)
  order_undone rows [] has order = order
  order_undone rows (v ∷ vs) has order = with_changes (undone rows vs) v.before (has_undone rows vs ∙ has) (order_undone rows vs has order)

  order_redone : (rows : List TableRows) (v : Version) → has_table rows table ≡ true → AreInKeyOrder (rows_of_table rows table) → AreInKeyOrder (rows_of_table (redone scn rows v) table)
  order_redone rows v has order = by (nat_le v.scn scn)
    where
      by : (q : Bool) → AreInKeyOrder (rows_of_table (if q then apply_all rows v.changes else rows) table)
      by true = with_changes rows v.changes has order
      by false = order

  order_all : (rows : List TableRows) (vs : List Version) → has_table rows table ≡ true → AreInKeyOrder (rows_of_table rows table) → AreInKeyOrder (rows_of_table (fold (redone scn) rows vs) table)
  order_all rows [] has order = order
  order_all rows (v ∷ vs) has order = order_all (redone scn rows v) vs (has_redone rows v ∙ has) (order_redone rows v has order)

  module _ (key : Value) where
    got_with : (rows : List TableRows) (cs : List Change) → has_table rows table ≡ true → get (rows_of_table (apply_all rows cs) table) key ≡ left scn table key (get (rows_of_table rows table) key) cs
    got_with rows cs has = ap (λ rs. get rs key) (rows_applied rows cs table has) ∙ got_applied table key (rows_of_table rows table) cs

    got_undone : (rows : List TableRows) (vs : List Version) (row : Option Row) → has_table rows table ≡ true → Chain scn table key row vs (get (rows_of_table rows table) key) → get (rows_of_table (undone rows vs) table) key ≡ row
    got_undone rows [] row has chain = sym chain
    got_undone rows (v ∷ vs) row has chain =
        got_with (undone rows vs) v.before (has_undone rows vs ∙ has)
        ∙ (ap (λ r. left scn table key r v.before) (got_undone rows vs (left scn table key row v.changes) has chain.1) ∙ chain.0)

    got_redone : (rows : List TableRows) (v : Version) → has_table rows table ≡ true → get (rows_of_table (redone scn rows v) table) key ≡ redo scn table key (get (rows_of_table rows table) key) v
    got_redone rows v has = by (nat_le v.scn scn)
      where
        by : (q : Bool) → get (rows_of_table (if q then apply_all rows v.changes else rows) table) key ≡ (if q then left scn table key (get (rows_of_table rows table) key) v.changes else get (rows_of_table rows table) key)
        by true = got_with rows v.changes has
        by false = refl

    got_all : (rows : List TableRows) (vs : List Version) → has_table rows table ≡ true → get (rows_of_table (fold (redone scn) rows vs) table) key ≡ fold (redo scn table key) (get (rows_of_table rows table) key) vs
    got_all rows [] has = refl
    got_all rows (v ∷ vs) has = got_all (redone scn rows v) vs (has_redone rows v ∙ has) ∙ ap (λ r. fold (redo scn table key) r vs) (got_redone rows v has)

    got_at : (rows : List TableRows) (vs : Versions) (until : List Change) → has_table rows table ≡ true → is_too_old vs scn ≡ false → InStep scn table key until (get (rows_of_table rows table) key) vs
        → get (rows_of_table (rows_at rows vs scn) table) key ≡ left scn table key None until
    unfolding rows_at
    got_at rows vs until has young step =
        got_all (undone rows vs.kept) vs.kept (has_undone rows vs.kept ∙ has)
        ∙ (ap (λ r. fold (redo scn table key) r vs.kept) (got_undone rows vs.kept step.row has step.chain) ∙ step.sees (ltb-false scn vs.floor young))

none_stand : (n : ℕ) → DoubtsStand n [] []
unfolding in_doubt
none_stand n = record { branches = λ p. refl; changes = tt }

-- ---- a node

module _ (t : History) (lawful : IsLawfulRun t) (n : ℕ) (k : NodeState) (up : node_at (facts_at t) n ≡ Some k) where
  abbrev rs : List RedoRecord
  rs = records_at (facts_at t) n

  stored : k.stored.rows ≡ (stored_by nothing_stored rs).rows
  stored = ap (λ (s : Stored). s.rows) (records_are_kept t lawful n k up)

  tables : k.stored.durable.tables ≡ (stored_by nothing_stored rs).durable.tables
  tables = ap (λ (s : Stored). s.durable.tables) (records_are_kept t lawful n k up)

  stands : DiskStands rs × KeptStands rs k.versions
  stands = kept_stands t lawful n k up

  until_fits : (scn : ℕ) → AreChangesIn k.stored.durable.tables (until_by scn nothing_stored rs)
  until_fits scn = subst (λ ts. AreChangesIn ts (until_by scn nothing_stored rs)) (sym tables) (stands.0.changes scn)

  has_rows : (name : List ℕ) (x : Table) → table_in k.stored.durable.tables name ≡ Some x → has_table k.stored.rows name ≡ true
  has_rows name x found = ap (λ rows. has_table rows name) stored ∙ stands.0.there name x (ap (λ ts. table_in ts name) (sym tables) ∙ found)

  in_step : (scn : ℕ) (table : List ℕ) (key : Value) → InStep scn table key (until_by scn nothing_stored rs) (get (rows_of_table k.stored.rows table) key) k.versions
  in_step scn table key = subst (λ rows. InStep scn table key (until_by scn nothing_stored rs) (get (rows_of_table rows table) key) k.versions) (sym stored) (stands.1 scn table key)

  kept_in_order : (table : List ℕ) → AreInKeyOrder (rows_of_table k.stored.rows table)
  unfolding rows_by_book IsStrictlySortedBy
  kept_in_order table = subst AreInKeyOrder (sym (rows_are_told t lawful n k up table)) (changes_keep_order table (committed_at [] n (book_of t.trace)) [] tt)

  -- no rows, and no changes, where there is no table
  none_until : (cs : List Change) (table : List ℕ) → AreChangesIn k.stored.durable.tables cs → table_in k.stored.durable.tables table ≡ None → apply table [] cs ≡ []
  none_until [] table all none = refl
  none_until (c ∷ cs) table all none = by (same_text c.table table) refl (none_until cs table all.1 none)
    where
      by : (here : Bool) → same_text c.table table ≡ here → apply table [] cs ≡ [] → apply table [] (c ∷ cs) ≡ []
      by false is rest = ap (λ q. apply table (if q then set_to [] c.key c.after else []) cs) is ∙ rest
      by true is rest = (let at : table_in k.stored.durable.tables table ≡ Some all.0.0 = subst (λ m. table_in k.stored.durable.tables m ≡ Some all.0.0) ((bytes_decides c.table table).0 is) all.0.1 in absurd (cc (at, none)))

  module _ (scn : ℕ) (young : is_too_old k.versions scn ≡ false) where
    -- the rows of a table at the SCN are those that the commits up to it leave
    rows_kept : (table : List ℕ) → rows_of_table (kept_at k scn) table ≡ apply table [] (until_by scn nothing_stored rs)
    unfolding rows_at IsStrictlySortedBy
    rows_kept table = by (table_in k.stored.durable.tables table) refl
      where
        by : (o : Option Table) → table_in k.stored.durable.tables table ≡ o → rows_of_table (kept_at k scn) table ≡ apply table [] (until_by scn nothing_stored rs)
        by (Some x) is =
            let has : has_table k.stored.rows table ≡ true = has_rows table x is in
            same_rows (rows_of_table (kept_at k scn) table) (apply table [] (until_by scn nothing_stored rs))
            (order_all scn table (undone k.stored.rows k.versions.kept) k.versions.kept (has_undone scn table k.stored.rows k.versions.kept ∙ has) (order_undone scn table k.stored.rows k.versions.kept has (kept_in_order table)))
            (changes_keep_order table (until_by scn nothing_stored rs) [] tt)
            (λ key. got_at scn table key k.stored.rows k.versions (until_by scn nothing_stored rs) has young (in_step scn table key) ∙ sym (got_applied table key [] (until_by scn nothing_stored rs)))
        by None is =
            let none : has_table k.stored.rows table ≡ false = (changes_are_of_tables t lawful n k up).0.known table is in
            no_rows (kept_at k scn) table (has_all scn table (undone k.stored.rows k.versions.kept) k.versions.kept ∙ (has_undone scn table k.stored.rows k.versions.kept ∙ none))
            ∙ sym (none_until (until_by scn nothing_stored rs) table (until_fits scn) is)

    -- rows of the table, in the order of their keys
    kept_fit : (name : List ℕ) (x : Table) → table_in k.stored.durable.tables name ≡ Some x → AreInKeyOrder (rows_of_table (kept_at k scn) name) × AreRowsOf x (rows_of_table (kept_at k scn) name)
    unfolding IsStrictlySortedBy
    kept_fit name x found = subst (λ rows. AreInKeyOrder rows × AreRowsOf x rows) (sym (rows_kept name)) (
      changes_keep_order name (until_by scn nothing_stored rs) [] tt,
      (let me : x.name ≡ name = table_is k.stored.durable.tables name x found in
          subst (λ m. AreRowsOf x (apply m [] (until_by scn nothing_stored rs))) me
          (apply_rows k.stored.durable.tables (until_by scn nothing_stored rs) (until_fits scn) x [] (subst (λ m. table_in k.stored.durable.tables m ≡ Some x) (sym me) found) tt)),
    )

  -- ---- by the book

  abbrev book : List Entry
  book = book_of t.trace

  agrees : EachAgainst Follows [] book
  agrees = (runs_agree t lawful).0

  fits_from : (older es : List Entry) → EachAgainst Follows older es → SealsFit older → SealsFit (older ++ es)
  fits_from older [] all now = subst SealsFit (sym (append-nil older)) now
  fits_from older (e ∷ es) all now = subst SealsFit (append_assoc older (e ∷ []) es) (fits_from (older ++ e ∷ []) es all.1 (seals_fit_next older e all.0 now))

  seals_fit : SealsFit book
  seals_fit = fits_from [] book agrees (record { global = λ b g cs scn there. absurd there; undecided = λ b g cs scn there. absurd there; settled = λ b g cs scn there. absurd there })

  disk : own_entries n book ≡ flat_map (entry_of n) rs
  disk = books_are_of_disks t lawful n

  -- what the records commit up to the SCN, the entries of the book do, one after the other
  until_is : (scn : ℕ) → until_by scn nothing_stored rs ≡ all_until n scn [] book
  until_is scn =
      until_told n scn [] nothing_stored rs (subst (EachAgainst (ComesHere n) []) disk (all_here n book agrees)) (subst (EachAgainst (EndsHere n scn) []) disk (all_end_here n scn book agrees)) (none_stand n)
      ∙ (ap (all_until n scn []) (sym disk) ∙ sym (own_until n scn [] book))

  module _ (scn : ℕ) (young : is_too_old k.versions scn ≡ false) (table : List ℕ) (key : Value) (none : list_any (same_value key) (keys_in_doubt (facts_at t).book n table) ≡ false) where
    certain : list_any (same_value key) (keys_in_doubt (less book scn book) n table) ≡ false
    certain = still_certain book scn table (same_value key) book n (subst (λ es. list_any (same_value key) (keys_in_doubt es n table) ≡ false) (run_book t) none)

    row_is : get (rows_of_table (kept_at k scn) table) key ≡ get (rows_until (facts_at t).book n table scn) key
    unfolding rows_by_book
    row_is =
        ap (λ rows. get rows key) (rows_kept scn young table ∙ ap (apply table []) (until_is scn ∙ sym (committed_less book agrees seals_fit scn n)))
        ∙ (rows_same n table key (less book scn book) certain (all_come book scn n table key book (entries_come t lawful n table key))
        ∙ (ap (λ rows. get rows key) (rows_less book agrees seals_fit scn n table) ∙ ap (λ es. get (rows_until es n table scn) key) (sym (run_book t))))

  -- ---- the rows of the book

  both_all : (P : Change → Type 0) (xs ys : List Change) → AllByRecursion P (xs ++ ys) → AllByRecursion P xs × AllByRecursion P ys
  both_all P [] ys all = (tt, all)
  both_all P (x ∷ xs) ys all = let rest = both_all P xs ys all.1 in ((all.0, rest.0), rest.1)

  all_flat : (P : Change → Type 0) (f : Entry → List Change) (p : Entry → Bool) (es : List Entry) → AllByRecursion P (flat_map f es) → AllByRecursion P (flat_map f (filter p es))
  all_flat P f p [] all = tt
  all_flat P f p (e ∷ es) all = (let parts = both_all P (f e) (flat_map f es) all in by (p e) parts.0 (all_flat P f p es parts.1))
    where
      by : (q : Bool) → AllByRecursion P (f e) → AllByRecursion P (flat_map f (filter p es)) → AllByRecursion P (flat_map f (if q then e ∷ filter p es else filter p es))
      by true first rest = all_append P (f e) (flat_map f (filter p es)) first rest
      by false first rest = rest

  book_until_fits : (scn : ℕ) → AreChangesIn k.stored.durable.tables (flat_map (commits_at book n) (filter (is_until scn) book))
  book_until_fits scn =
      let fit : AllByRecursion (HasChangesIn k.stored.durable.tables) rs = subst (λ ts. AllByRecursion (HasChangesIn ts) rs) (sym tables) (disk_changes t lawful n) in
      all_flat (IsChangeIn k.stored.durable.tables) (commits_at book n) (is_until scn) book (book_fits k.stored.durable.tables n rs fit book disk)

  until_fit : (scn : ℕ) (name : List ℕ) (x : Table) → table_in k.stored.durable.tables name ≡ Some x → AreInKeyOrder (rows_until book n name scn) × AreRowsOf x (rows_until book n name scn)
  unfolding rows_until IsStrictlySortedBy
  until_fit scn name x found =
      let me : x.name ≡ name = table_is k.stored.durable.tables name x found in
      let cs : List Change = flat_map (commits_at book n) (filter (is_until scn) book) in (
        changes_keep_order name cs [] tt,
        subst (λ m. AreRowsOf x (apply m [] cs)) me (apply_rows k.stored.durable.tables cs (book_until_fits scn) x [] (subst (λ m. table_in k.stored.durable.tables m ≡ Some x) (sym me) found) tt),
      )

-- ---- every run

pub versions_agree : VersionsAgree
versions_agree t lawful n k up scn young table key none = row_is t lawful n k up scn young table key none

pub versions_fit : VersionsFit
versions_fit t lawful n k up scn young name x found = kept_fit t lawful n k up scn young name x found

pub rows_until_fit : RowsUntilFit
rows_until_fit t lawful n k up scn name x found =
    subst (λ (es : List Entry). AreInKeyOrder (rows_until es n name scn) × AreRowsOf x (rows_until es n name scn)) (sym (run_book t)) (until_fit t lawful n k up scn name x found)
