-- A run that is accepted has passed its tests; what it examines and writes over the node's rows it does over those of the book.
use Rattle.std.proofs.Common.{◌≡◌, ℕ, Bool, true, false, if◌then◌else◌, List, [], ◌∷◌, ◌++◌, filter, map, Option, Some, None, refl, sym, ap, subst, ◌∙◌, length}
use Rattle.std.specs.Prelude.{is_some}
use Rattle.std.specs.List.{list_any, AllByRecursion}
use Rattle.std.specs.Cmp.Lexicographic.{bytes_decides}
use Rattle.sql_check.specs.Words.{first_some}
use Rattle.sql_check.specs.Refusals.{dtx, else_refuse, refuse_if, ora}
use Rattle.sql_check.specs.Checks.{checked}
use Rattle.sql_eval.specs.Rows.{apply}
use Rattle.sql_eval.specs.declared.meant.Meant.TheVariants as meants
use Rattle.row_locks.specs.Held.{doubt_on, hold_on}
use Rattle.row_locks.specs.Locks.{Lock, keys_held}
use Rattle.stmt_run.specs.Run.{StmtContext, held_refusal, in_doubt_refusal, locked_refusal, ran_locked, ran_checked, ran_over, too_many_changes, too_old_refusal}
use Rattle.node_rules.specs.Data.{Value, Change, Done, Table, Stmt, Refusal, BranchId, Keyed, Doubt, Place}
use Rattle.node_rules.specs.Words.{same_text}
use Rattle.node_rules.specs.Rows.{same_value, get, rows_of_table}
use Rattle.node_rules.specs.Meaning.{examined, meant, written}
use Rattle.node_rules.specs.Names.{table_of}
use Rattle.node_rules.specs.NodeState.{NodeState}
use Rattle.node_rules.specs.Prepare.{own_changes}
use Rattle.node_rules.specs.Statement.{StmtOutcome, Refuses, Reads, Writes, answer_of_run, ground_of, ran, reads_at, rows_read, reads_too_old}
use Rattle.run_rules.specs.Book.{rows_read as book_rows}
use Rattle.run_rules.specs.Data.{Entry}
use Rattle.run_rules.specs.Runs.{view_by, keys_in_doubt, is_accepted}
use Rattle.run_key_laws.specs.KeyLaws.{is_doubted_by, is_held, AreHeld}
use Rattle.run_key_laws.specs.TableLaws.{table_in}
use Rattle.run_key_laws.proofs.RanLemmas.{run_so}
use Rattle.run_key_laws.proofs.TableLemmas.{table_is, apply_rows}
use Rattle.run_key_laws.proofs.TableStepLemmas.{one_key}
use Rattle.stmt_view_laws.specs.Views.{AgreeBut, AreCertain, IsView}
use Rattle.stmt_view_laws.specs.RunLaws.{IsViewBeside, RunDoesAsMeant, RunIsMeantOver}
use Rattle.stmt_view_laws.proofs.AgreeLemmas.{changes_keep_agreement}
use Rattle.stmt_view_laws.proofs.OrderLemmas.{changes_keep_order}
use Rattle.stmt_view_laws.proofs.RunLemmas.{runs_do_as_meant, runs_mean_alike}
use Rattle.book_laws.specs.RowLaws.{doubtful_keys}
use Rattle.tree_trail_laws.proofs.OwnRunLemmas.{IsOfBook}
use Rattle.refusal_laws.proofs.DoubtLemmas.{doubted_on}

-- ---- no refusal

-- none of these keys has a holder
pub no_holder : (f : Value → Option BranchId) (keys : List Value) → first_some (map f keys) ≡ None → AllByRecursion (λ key. f key ≡ None) keys
no_holder f [] none = tt
no_holder f (key ∷ keys) none = by (f key) refl none (no_holder f keys)
  where
    by : (o : Option BranchId) → f key ≡ o → first_some (o ∷ map f keys) ≡ None → (first_some (map f keys) ≡ None → AllByRecursion (λ key. f key ≡ None) keys) → (f key ≡ None) × AllByRecursion (λ key. f key ≡ None) keys
    by (Some b) is none later = absurd cc
    by None is none later = (is, later none)

nobody : (code : ℕ) (holder : Option BranchId) → held_refusal code holder ≡ None → holder ≡ None
nobody code None none = refl
nobody code (Some b) none = absurd cc

no_first : (a b : Option Refusal) → else_refuse a b ≡ None → a ≡ None
no_first (Some r) b none = absurd cc
no_first None b none = refl

no_second : (a b : Option Refusal) → else_refuse a b ≡ None → b ≡ None
no_second (Some r) b none = absurd cc
no_second None b none = none

not_too_old : (q : Bool) → refuse_if q (ora 1555 []) ≡ None → q ≡ false
not_too_old false none = refl
not_too_old true none = absurd cc

-- The tests that a statement passes before its meaning.
pub record HasPassed (g : StmtContext) (s : Stmt) (t : Table) : Type 0 where
  pub right : checked s t ≡ None
  pub young : g.too_old ≡ false
  pub free : AllByRecursion (λ key. hold_on g.locks g.me t.name key ≡ None) (written s t g.view)

module _ (g : StmtContext) (s : Stmt) (t : Table) where
  by_locks : (o : Option Refusal) → checked s t ≡ None
      → else_refuse (too_old_refusal g) (else_refuse (in_doubt_refusal g t (examined s t g.view (keys_held g.locks t.name))) (locked_refusal g t (written s t g.view))) ≡ o
      → is_accepted (Some (answer_of_run (ran_locked g s t o))) ≡ true → HasPassed g s t
  by_locks (Some r) right is accepted = absurd cc
  by_locks None right is accepted =
      let free : locked_refusal g t (written s t g.view) ≡ None = no_second _ _ (no_second _ _ is) in
      record {
        right = right;
        young = not_too_old g.too_old (no_first _ _ is);
        free = no_holder (hold_on g.locks g.me t.name) (written s t g.view) (nobody 2049 _ free);
      }

  by_checks : (o : Option Refusal) → checked s t ≡ o → is_accepted (Some (answer_of_run (ran_checked g s t o))) ≡ true → HasPassed g s t
  by_checks (Some r) is accepted = absurd cc
  by_checks None is accepted = by_locks _ is refl accepted

  pub has_passed : is_accepted (Some (answer_of_run (ran_over g s t))) ≡ true → HasPassed g s t
  unfolding ran_over
  has_passed accepted = by_checks (checked s t) refl accepted

-- changes that are made are not too many
module _ (g : StmtContext) where
  abbrev IsSmall : StmtOutcome → Type 0
  IsSmall (Writes d cs keys undo) = too_many_changes g cs ≡ false
  IsSmall _ = Unit {0}

  not_many : (q : Bool) (o : Option Refusal) → else_refuse (refuse_if q (dtx 16 [])) o ≡ None → q ≡ false
  not_many false o none = refl
  not_many true o none = absurd cc

  small_so : (s : Stmt) (t : Table) → IsSmall (ran_over g s t)
  small_so s t = run_so g s t IsSmall (λ r. tt) (λ rows nobody. tt) (λ d n cs right nobody is space. not_many (too_many_changes g cs) _ space)

-- ---- keys in doubt are held so

module _ (locks : List Lock) (table : List ℕ) where
  abbrev IsDoubted : Value → Type 0
  IsDoubted key = is_some (doubt_on locks table key) ≡ true

  changes_doubted : (b : BranchId) (cs : List Change) → AreHeld (is_doubted_by b) locks cs → AllByRecursion IsDoubted (map (λ c. c.key) (filter (λ c. same_text c.table table) cs))
  changes_doubted b [] all = tt
  changes_doubted b (c ∷ cs) all = by (same_text c.table table) refl (changes_doubted b cs all.1)
    where
      by : (here : Bool) → same_text c.table table ≡ here → AllByRecursion IsDoubted (map (λ x. x.key) (filter (λ x. same_text x.table table) cs))
          → AllByRecursion IsDoubted (map (λ x. x.key) (if here then c ∷ filter (λ x. same_text x.table table) cs else filter (λ x. same_text x.table table) cs))
      by true same later = (
        ap is_some (doubted_on locks table c.key b (subst (λ m. is_held (is_doubted_by b) locks m c.key ≡ true) ((bytes_decides c.table table).0 same) all.0)),
        later,
      )
      by false same later = later

  both_all : (xs ys : List Value) → AllByRecursion IsDoubted xs → AllByRecursion IsDoubted ys → AllByRecursion IsDoubted (xs ++ ys)
  both_all [] ys one two = two
  both_all (x ∷ xs) ys one two = (one.0, both_all xs ys one.1 two)

  pub all_doubted : (ds : List Doubt) → AllByRecursion (λ d. AreHeld (is_doubted_by d.branch) locks d.changes) ds → AllByRecursion IsDoubted (doubtful_keys ds table)
  all_doubted [] all = tt
  all_doubted (d ∷ ds) all = both_all _ (doubtful_keys ds table) (changes_doubted d.branch d.changes all.0) (all_doubted ds all.1)

-- ---- the view of a branch, and that of the book

module _ (book : List Entry) (n : ℕ) (k : NodeState) (of_it : IsOfBook book n k) (p : Place) (b : BranchId) (here : b.node ≡ n) (s : Stmt) (t : Table) (name : List ℕ)
    (found : table_of k.stored.durable name ≡ Some t) where
  abbrev g : StmtContext
  g = ground_of p k b t

  abbrev doubtful : List Value
  doubtful = doubtful_keys k.stored.doubts t.name

  abbrev read_at : Option ℕ
  read_at = reads_at k b

  abbrev pub told_view : List Keyed
  told_view = view_by book b read_at (own_changes k b) t.name

  by_name : table_in k.stored.durable.tables t.name ≡ Some t
  by_name = subst (λ m. table_in k.stored.durable.tables m ≡ Some t) (sym (table_is k.stored.durable.tables name t found)) found

  with_own : (rows : List Keyed) → IsView t rows → IsView t (apply t.name rows (own_changes k b))
  with_own rows is = record { order = changes_keep_order t.name (own_changes k b) rows is.order; fit = apply_rows k.stored.durable.tables (own_changes k b) (of_it.fits.1 b) t rows by_name is.fit }

  pub beside : reads_too_old k read_at ≡ false → IsViewBeside g t doubtful told_view
  unfolding view_by
  beside young = record {
    one_key = one_key k b t name found of_it.fits;
    first = with_own (rows_of_table (rows_read k read_at) t.name) (of_it.views read_at young t.name t by_name);
    second = with_own (book_rows book b.node t.name read_at) (subst (λ m. IsView t (book_rows book m t.name read_at)) (sym here) (of_it.book_views read_at t.name t by_name));
    agree = changes_keep_agreement t.name (own_changes k b) doubtful (rows_of_table (rows_read k read_at) t.name) (book_rows book b.node t.name read_at) agree;
    held = all_doubted k.locks t.name k.stored.doubts of_it.keys.doubts;
  }
    where
      agree : AgreeBut doubtful (rows_of_table (rows_read k read_at) t.name) (book_rows book b.node t.name read_at)
      agree key not_in =
          subst (λ m. get (rows_of_table (rows_read k read_at) t.name) key ≡ get (book_rows book m t.name read_at) key) (sym here)
          (of_it.rows read_at young t.name key (of_it.doubts t.name (same_value key) ∙ not_in))

  -- What an accepted run has met, over the rows of the book.
  pub record HasMet : Type 0 where
    pub passed : HasPassed g s t
    pub keys : written s t g.view ≡ written s t told_view
    pub certain : (locked : List Value) → AllByRecursion (λ key. list_any (same_value key) (keys_in_doubt book n t.name) ≡ false) (examined s t told_view locked)
    pub small : (d : Done) (m : ℕ) (cs : List Change) → meant s t told_view ≡ meants.Changes d m cs → too_many_changes g cs ≡ false

  all_certain : (keys : List Value) → AreCertain doubtful keys → AllByRecursion (λ key. list_any (same_value key) (keys_in_doubt book n t.name) ≡ false) keys
  all_certain [] all = tt
  all_certain (key ∷ keys) all = (of_it.doubts t.name (same_value key) ∙ all.0, all_certain keys all.1)

  pub has_met : is_accepted (Some (answer_of_run (ran p k b s t))) ≡ true → HasMet
  unfolding ran
  has_met accepted = by (ran_over g s t) refl accepted
    where
      passed : HasPassed g s t
      passed = has_passed g s t accepted

      by : (r : StmtOutcome) → ran_over g s t ≡ r → is_accepted (Some (answer_of_run r)) ≡ true → HasMet
      by (Refuses why) is accepted = absurd cc
      by (Reads rows keys) is accepted =
          let own : RunDoesAsMeant g s t (Reads rows keys) = runs_do_as_meant g s t (Reads rows keys) is in
          let told : RunIsMeantOver s t doubtful told_view (Reads rows keys) = runs_mean_alike g s t doubtful told_view (Reads rows keys) (beside passed.young) is in
          record { small = λ d m cs changes. (let gives = told.means in absurd (cc (gives, changes))); passed = passed; keys = sym own.writes ∙ told.writes; certain = λ locked. all_certain (examined s t told_view locked) (told.certain locked) }
      by (Writes d cs keys undo) is accepted =
          let own : RunDoesAsMeant g s t (Writes d cs keys undo) = runs_do_as_meant g s t (Writes d cs keys undo) is in
          let told : RunIsMeantOver s t doubtful told_view (Writes d cs keys undo) = runs_mean_alike g s t doubtful told_view (Writes d cs keys undo) (beside passed.young) is in
          record {
            small = λ e m ds changes. (let means = told.means in let both : meants.Changes d (length cs) cs ≡ meants.Changes e m ds = sym means ∙ changes in let one : cs ≡ ds = cc in
                subst (λ xs. too_many_changes g xs ≡ false) one (subst (IsSmall g) is (small_so g s t)));
            passed = passed;
            keys = sym own.writes ∙ told.writes;
            certain = λ locked. all_certain (examined s t told_view locked) (told.certain locked);
          }
