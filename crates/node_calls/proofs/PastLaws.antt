-- A query over the rows at an SCN: which rows its branch sees, and that it leaves the store and the locks as they are.
use Rattle.std.proofs.Common.{◌≡◌, ℕ, ◌&&◌, ◌||◌, Bool, true, false, true≢false, if◌then◌else◌, List, [], ◌∷◌, fold, length, is_some, Option, Some, None, IfSome, refl, sym, ap, ◌∙◌, arith}
use Rattle.std.specs.Prelude.{nat_le, nat_lt}
use Rattle.std.specs.Cmp.Lexicographic.{bytes_decides}
use Rattle.std.proofs.lemmas.Bool.Decides.{nat_tests}
use Rattle.dtx_values.specs.declared.row.Change.{Change}
use Rattle.tran_ids.specs.declared.branch.BranchId.{BranchId}
use Rattle.sql_check.specs.Checks.{checked}
use Rattle.sql_check.specs.Refusals.{else_refuse}
use Rattle.sql_check.specs.Words.{same_text}
use Rattle.sql_eval.specs.Meaning.{examined, meant_over, written}
use Rattle.sql_eval.specs.Rows.{apply}
use Rattle.sql_eval.specs.declared.meant.Meant.{Meant}
use Rattle.sql_eval.specs.declared.meant.Meant.TheVariants as meants
use Rattle.row_locks.specs.Locks.{Lock, keys_held}
use Rattle.row_store.specs.Own.{view_of}
use Rattle.row_store.specs.Store.{Contents, has_table, own_changes, seen_by}
use Rattle.row_store.specs.Tables.{TableRows, apply_all, rows_of_table}
use Rattle.read_only_tx.specs.Versions.{Version, Versions, undone, redone, rows_at}
use Rattle.stmt_run.specs.Run.{StmtContext, too_old_refusal, in_doubt_refusal, locked_refusal, ran_meant, ran_locked, ran_checked, ran_over, take_keys, locks_after}
use Rattle.stmt_run.specs.Stored.{store_after_run}
use Rattle.stmt_store.specs.Past.{is_query}
use Rattle.stmt_store.proofs.PastLaws.{queries_change_nothing}
use Rattle.node_rules.specs.Data.{Durable, Live, Place, Refusal, Stmt, Table}
use Rattle.node_rules.specs.Data.stmts
use Rattle.node_rules.specs.Names.{Runs_here, is_write, way_of}
use Rattle.node_rules.specs.Statement.{StmtOutcome, Refuses, Reads, Writes}
use Rattle.node_rules.proofs.WayLemmas.{may_go}
use Rattle.node_memory.specs.Versions.{undone_in, redone_in, looked_back}

-- ---- rows at an SCN

has_applied : (rows : List TableRows) (cs : List Change) (table : List ℕ) → has_table (apply_all rows cs) table ≡ has_table rows table
has_applied [] cs table = refl
has_applied (x ∷ xs) cs table = ap (λ h. same_text x.table table || h) (has_applied xs cs table)

applied : (rows : List TableRows) (cs : List Change) (table : List ℕ) → has_table rows table ≡ true → apply table (rows_of_table rows table) cs ≡ rows_of_table (apply_all rows cs) table
applied [] cs table has = absurd (true≢false (sym has))
applied (x ∷ xs) cs table has = by (same_text x.table table) refl has (applied xs cs table)
  where
    by : (here : Bool) → same_text x.table table ≡ here → (here || has_table xs table) ≡ true → (has_table xs table ≡ true → apply table (rows_of_table xs table) cs ≡ rows_of_table (apply_all xs cs) table)
        → apply table (if here then x.rows else rows_of_table xs table) cs ≡ (if here then apply x.table x.rows cs else rows_of_table (apply_all xs cs) table)
    by true is has rest = ap (λ name. apply name x.rows cs) (sym ((bytes_decides x.table table).0 is))
    by false is has rest = rest has

module _ (table : List ℕ) (scn : ℕ) where
  has_undone : (rows : List TableRows) (vs : List Version) → has_table (undone rows vs) table ≡ has_table rows table
  has_undone rows [] = refl
  has_undone rows (v ∷ vs) = has_applied (undone rows vs) v.before table ∙ has_undone rows vs

  undone_is : (rows : List TableRows) (vs : List Version) → has_table rows table ≡ true → undone_in table (rows_of_table rows table) vs ≡ rows_of_table (undone rows vs) table
  undone_is rows [] has = refl
  undone_is rows (v ∷ vs) has = ap (λ rs. apply table rs v.before) (undone_is rows vs has) ∙ applied (undone rows vs) v.before table (has_undone rows vs ∙ has)

  redone_is : (rows : List TableRows) (v : Version) → has_table rows table ≡ true → redone_in table scn (rows_of_table rows table) v ≡ rows_of_table (redone scn rows v) table
  redone_is rows v has = by (nat_le v.scn scn)
    where
      by : (q : Bool) → (if q then apply table (rows_of_table rows table) v.changes else rows_of_table rows table) ≡ rows_of_table (if q then apply_all rows v.changes else rows) table
      by true = applied rows v.changes table has
      by false = refl

  has_redone : (rows : List TableRows) (v : Version) → has_table (redone scn rows v) table ≡ has_table rows table
  has_redone rows v = by (nat_le v.scn scn)
    where
      by : (q : Bool) → has_table (if q then apply_all rows v.changes else rows) table ≡ has_table rows table
      by true = has_applied rows v.changes table
      by false = refl

  all_redone : (rows : List TableRows) (vs : List Version) → has_table rows table ≡ true → fold (redone_in table scn) (rows_of_table rows table) vs ≡ rows_of_table (fold (redone scn) rows vs) table
  all_redone rows [] has = refl
  all_redone rows (v ∷ vs) has = ap (λ rs. fold (redone_in table scn) rs vs) (redone_is rows v has) ∙ all_redone (redone scn rows v) vs (has_redone rows v ∙ has)

  looked_is : (rows : List TableRows) (vs : Versions) → has_table rows table ≡ true → looked_back table (rows_of_table rows table) vs scn ≡ rows_of_table (rows_at rows vs scn) table
  unfolding rows_at
  looked_is rows vs has = ap (λ rs. fold (redone_in table scn) rs vs.kept) (undone_is rows vs.kept has) ∙ all_redone (undone rows vs.kept) vs.kept (has_undone rows vs.kept ∙ has)

no_changes : (cs : List Change) → nat_lt 0 (length cs) ≡ false → cs ≡ []
no_changes [] none = refl
no_changes (c ∷ cs) none = absurd (grind (arith, nat_tests, none))

-- the rows that a branch sees at an SCN which has changed nothing
pub rows_seen_past : (s : Contents) (vs : Versions) (b : BranchId) (table : List ℕ) (scn : ℕ) → has_table s.rows table ≡ true → nat_lt 0 (length (own_changes s b)) ≡ false
    → looked_back table (seen_by s b table) vs scn ≡ view_of (rows_at s.rows vs scn) (own_changes s b) table
rows_seen_past s vs b table scn has none =
    let own : own_changes s b ≡ [] = no_changes (own_changes s b) none in
    ap (λ cs. looked_back table (view_of s.rows cs table) vs scn) own ∙ (looked_is table scn s.rows vs has ∙ ap (λ cs. view_of (rows_at s.rows vs scn) cs table) (sym own))

-- ---- queries

query_is : (s : Stmt) → is_write s ≡ false → is_query s ≡ true
query_is (stmts.Select list table cs false) reads = refl
query_is (stmts.Select list table cs true) reads = absurd cc
query_is _ reads = absurd cc

reader_query : (o : Option ℕ) (s : Stmt) → (is_some o && is_write s) ≡ false → IfSome o (λ scn. is_query s ≡ true)
reader_query None s reads = tt
reader_query (Some scn) s reads = query_is s reads

-- a statement that runs at a branch that reads at an SCN is a query
pub reads_query : (p : Place) (d : Durable) (l : Live) (given : ℕ) (s : Stmt) (t : Table) → way_of p d l given s ≡ Runs_here t → IfSome l.read_at (λ scn. is_query s ≡ true)
reads_query p d l given s t way = reader_query l.read_at s (may_go p d l given s (Runs_here t) tt way)

-- what a query comes to: a refusal, or rows, with no key to lock
abbrev pub LocksNothing : StmtOutcome → Type 0
LocksNothing (Refuses r) = Unit {0}
LocksNothing (Reads rows keys) = keys ≡ []
LocksNothing (Writes d cs keys undo) = ⊥

module _ (g : StmtContext) (s : Stmt) (t : Table) (query : is_query s ≡ true) where
  unwritten : (x : Stmt) → is_query x ≡ true → written x t g.view ≡ []
  unfolding written
  unwritten (stmts.Select list table cs false) is = refl
  unwritten (stmts.Select list table cs true) is = absurd cc
  unwritten _ is = absurd cc

  by_meaning : (m : Meant) → m ≡ meant_over s t g.view → LocksNothing (ran_meant g (written s t g.view) m)
  by_meaning (meants.Refused r) is = tt
  by_meaning (meants.Gives rows) is = unwritten s query
  by_meaning (meants.Changes d n cs) is = absurd (queries_change_nothing s t g.view (meants.Changes d n cs) query is)

  by_locks : (o : Option Refusal) → LocksNothing (ran_locked g s t o)
  by_locks (Some r) = tt
  by_locks None = by_meaning (meant_over s t g.view) refl

  by_checks : (o : Option Refusal) → LocksNothing (ran_checked g s t o)
  by_checks (Some r) = tt
  by_checks None = by_locks (else_refuse (too_old_refusal g) (else_refuse (in_doubt_refusal g t (examined s t g.view (keys_held g.locks t.name))) (locked_refusal g t (written s t g.view))))

  pub query_locks_nothing : LocksNothing (ran_over g s t)
  unfolding ran_over
  query_locks_nothing = by_checks (checked s t)

store_kept : (c : Contents) (b : BranchId) (t : Table) (r : StmtOutcome) → LocksNothing r → c ≡ store_after_run c b t r
store_kept c b t (Refuses x) quiet = refl
store_kept c b t (Reads rows keys) quiet = refl
store_kept c b t (Writes d cs keys undo) quiet = absurd quiet

locks_kept : (locks : List Lock) (b : BranchId) (t : Table) (r : StmtOutcome) → LocksNothing r → locks ≡ locks_after locks b t r
locks_kept locks b t (Refuses x) quiet = refl
locks_kept locks b t (Reads rows keys) quiet = ap (take_keys locks b t.name false) (sym quiet)
locks_kept locks b t (Writes d cs keys undo) quiet = absurd quiet

-- a query leaves the store and the locks as they are
pub store_stays : (c : Contents) (b : BranchId) (g : StmtContext) (s : Stmt) (t : Table) → is_query s ≡ true → c ≡ store_after_run c b t (ran_over g s t)
store_stays c b g s t query = store_kept c b t (ran_over g s t) (query_locks_nothing g s t query)

pub locks_stay : (locks : List Lock) (b : BranchId) (g : StmtContext) (s : Stmt) (t : Table) → is_query s ≡ true → locks ≡ locks_after locks b t (ran_over g s t)
locks_stay locks b g s t query = locks_kept locks b t (ran_over g s t) (query_locks_nothing g s t query)
