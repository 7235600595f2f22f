-- A run of a statement that a node accepts means over the rows of the book what it means over those of the node, and examines no key in doubt.
use Rattle.std.proofs.Common.{◌≡◌, ℕ, ◌&&◌, Bool, true, false, if◌then◌else◌, List, [], ◌∷◌, ◌++◌, flat_map, map, filter, find, length, option_map, Option, Some, None, inl, inr, refl, sym, ap, subst, ◌∙◌}
use Rattle.std.specs.List.{list_any, AllByRecursion}
use Rattle.std.specs.Str.{bytes_eq}
use Rattle.std.specs.List.Sorted.{IsStrictlySortedBy}
use Rattle.std.specs.Cmp.Lexicographic.{bytes_decides}
use Rattle.std.proofs.lemmas.Bool.{and_parts, or_cases, or_left, or_right}
use Rattle.dtx_values.proofs.ValueOrder.{equal_from_same}
use Rattle.sql_check.specs.Words.{first_some}
use Rattle.sql_check.specs.Refusals.{else_refuse, refuse_if, ora}
use Rattle.sql_check.specs.Checks.{checked}
use Rattle.sql_eval.specs.declared.meant.Meant.{Meant}
use Rattle.sql_eval.specs.declared.meant.Meant.TheVariants as meants
use Rattle.sql_eval.specs.Meaning.{unless, meant}
use Rattle.sql_eval.proofs.MadeLemmas.{count_is_length}
use Rattle.row_locks.specs.Locks.{Lock, is_lock_on, named, keys_held}
use Rattle.row_locks.specs.Held.{in_doubt_one, doubt_on}
use Rattle.stmt_run.specs.Run.{StmtContext, held_refusal, in_doubt_refusal, locked_refusal, space_refusal, ran_within, ran_meant, ran_locked, ran_checked, ran_over, too_old_refusal}
use Rattle.node_rules.specs.Data.{Value, Change, Table, Stmt, Refusal, Done, BranchId, Keyed, Doubt, Place}
use Rattle.node_rules.specs.Words.{same, same_text}
use Rattle.node_rules.specs.Rows.{same_value, get, rows_of_table}
use Rattle.node_rules.specs.Meaning.{examined, written, meant_over}
use Rattle.node_rules.specs.Names.{table_of}
use Rattle.node_rules.specs.NodeState.{NodeState}
use Rattle.node_rules.specs.Prepare.{own_changes}
use Rattle.node_rules.specs.Statement.{StmtOutcome, Refuses, Reads, Writes, ground_of, ran, reads_at, rows_read, reads_too_old}
use Rattle.run_rules.specs.Book.{commits_at, rows_of, committed_at, rows_by_book}
use Rattle.run_rules.specs.Book.{rows_read as book_rows}
use Rattle.run_rules.specs.Data.{Entry}
use Rattle.run_rules.specs.Facts.{node_at}
use Rattle.run_key_laws.specs.KeyLaws.{is_doubted_by, passes, is_held, AreHeld, KeysHeld}
use Rattle.run_rules.specs.Lawful.{History, IsLawfulRun, facts_at}
use Rattle.run_rules.specs.Runs.{view_by, keys_in_doubt}
use Rattle.run_key_laws.specs.TableLaws.{table_in}
use Rattle.run_rules.specs.Entries.{book_of}
use Rattle.run_key_laws.proofs.BookRunLemmas.{rows_are_told}
use Rattle.run_key_laws.proofs.KeyRunLemmas.{keys_are_held}
use Rattle.run_key_laws.proofs.TableLemmas.{table_is, apply_rows}
use Rattle.run_key_laws.proofs.TableRunLemmas.{changes_are_of_tables}
use Rattle.run_key_laws.proofs.TableStepLemmas.{Fits, one_key}
use Rattle.stmt_view_laws.specs.Views.{AgreeBut, AreInKeyOrder, IsView, SeesAlike}
use Rattle.stmt_view_laws.proofs.AgreeLemmas.{changes_keep_agreement}
use Rattle.stmt_view_laws.proofs.MeantLemmas.{means_alike, avoids_alike}
use Rattle.stmt_view_laws.proofs.OrderLemmas.{changes_keep_order}
use Rattle.book_laws.specs.RowLaws.{doubtful_keys}
use Rattle.book_laws.proofs.NodeDoubtLemmas.{doubts_agree}
use Rattle.book_laws.proofs.RecordFitLemmas.{book_rows_fit}
use Rattle.book_laws.proofs.RowLemmas.{rows_agree}
use Rattle.version_laws.proofs.RowLemmas.{versions_agree, versions_fit, rows_until_fit}
use Rattle.sql_eval.specs.Rows.{apply}

-- ---- lists

-- one passes a test where any does
any_so : {A : Type 0} (test : A → Bool) (P : A → Type 0) (xs : List A) → AllByRecursion P xs → list_any test xs ≡ true → (x : A) × P x × (test x ≡ true)
any_so test P [] all any = absurd cc
any_so test P (x ∷ xs) all any = elim (or_cases (test x) (list_any test xs) any) [ inl here ↦ (x, all.0, here) | inr later ↦ any_so test P xs all.1 later ]

all_some : {A : Type 0} (P Q : A → Type 0) (xs : List A) → ((x : A) → P x → Q x) → AllByRecursion P xs → AllByRecursion Q xs
all_some P Q [] each all = tt
all_some P Q (x ∷ xs) each all = (each x all.0, all_some P Q xs each all.1)

all_joined : {A : Type 0} (P : A → Type 0) (xs ys : List A) → AllByRecursion P xs → AllByRecursion P ys → AllByRecursion P (xs ++ ys)
all_joined P [] ys one two = two
all_joined P (x ∷ xs) ys one two = (one.0, all_joined P xs ys one.1 two)

-- ---- keys in doubt are locked

module _ (locks : List Lock) (table : List ℕ) where
  -- a key in doubt is locked by a branch in doubt
  abbrev IsLockedInDoubt : Value → Type 0
  IsLockedInDoubt key = (list_any (same_value key) (keys_held locks table) ≡ true) × ((b : BranchId) × (doubt_on locks table key ≡ Some b))

  held_in : (ls : List Lock) (key : Value) (x : Lock) → find (is_lock_on table key) ls ≡ Some x → list_any (same_value key) (keys_held ls table) ≡ true
  held_in [] key x is = absurd cc
  held_in (l ∷ ls) key x is = by (bytes_eq l.table table) (same_value l.key key) refl is (held_in ls key x)
    where
      by : (here alike : Bool) → same_value l.key key ≡ alike → (if here && alike then Some l else find (is_lock_on table key) ls) ≡ Some x
          → (find (is_lock_on table key) ls ≡ Some x → list_any (same_value key) (keys_held ls table) ≡ true)
          → list_any (same_value key) (map (λ m. m.key) (if here then l ∷ filter (λ m. bytes_eq m.table table) ls else filter (λ m. bytes_eq m.table table) ls)) ≡ true
      by true true same is later =
          let one : l.key ≡ key = equal_from_same l.key key same in
          or_left (same_value key l.key) _ (subst (λ v. same_value v l.key ≡ true) one (subst (λ v. same_value l.key v ≡ true) (sym one) same))
      by true false same is later = or_right (same_value key l.key) _ (later is)
      by false alike same is later = later is

  doubt_so : (b : BranchId) (key : Value) → is_held (is_doubted_by b) locks table key ≡ true → IsLockedInDoubt key
  doubt_so b key held = by (find (is_lock_on table key) locks) refl held
    where
      by : (o : Option Lock) → find (is_lock_on table key) locks ≡ o → passes (is_doubted_by b) o ≡ true → IsLockedInDoubt key
      by None is held = absurd cc
      by (Some x) is held =
          let doubt : x.in_doubt ≡ true = (and_parts (same x.branch b && x.writes) x.in_doubt held).1 in
          (held_in locks key x is, (x.branch, ap (λ o. in_doubt_one (option_map named o)) is ∙ ap (λ q. if q then Some x.branch else None) doubt))

  changes_so : (b : BranchId) (cs : List Change) → AreHeld (is_doubted_by b) locks cs → AllByRecursion IsLockedInDoubt (map (λ c. c.key) (filter (λ c. same_text c.table table) cs))
  changes_so b [] all = tt
  changes_so b (c ∷ cs) all = by (same_text c.table table) refl (changes_so b cs all.1)
    where
      by : (here : Bool) → same_text c.table table ≡ here → AllByRecursion IsLockedInDoubt (map (λ x. x.key) (filter (λ x. same_text x.table table) cs))
          → AllByRecursion IsLockedInDoubt (map (λ x. x.key) (if here then c ∷ filter (λ x. same_text x.table table) cs else filter (λ x. same_text x.table table) cs))
      by true same later = (doubt_so b c.key (subst (λ n. is_held (is_doubted_by b) locks n c.key ≡ true) ((bytes_decides c.table table).0 same) all.0), later)
      by false same later = later

  doubts_so : (ds : List Doubt) → AllByRecursion (λ d. AreHeld (is_doubted_by d.branch) locks d.changes) ds → AllByRecursion IsLockedInDoubt (doubtful_keys ds table)
  doubts_so [] all = tt
  doubts_so (d ∷ ds) all = all_joined IsLockedInDoubt _ (doubtful_keys ds table) (changes_so d.branch d.changes all.0) (doubts_so ds all.1)

  -- one that no branch in doubt holds is not in doubt
  not_doubtful : (doubtful : List Value) → AllByRecursion IsLockedInDoubt doubtful → (key : Value) → doubt_on locks table key ≡ None → list_any (same_value key) doubtful ≡ false
  not_doubtful doubtful all key free = by (list_any (same_value key) doubtful) refl
    where
      by : (q : Bool) → list_any (same_value key) doubtful ≡ q → q ≡ false
      by false is = refl
      by true is =
          let it = any_so (same_value key) IsLockedInDoubt doubtful all is in
          let held : doubt_on locks table key ≡ Some it.1.1.0 = subst (λ v. doubt_on locks table v ≡ Some it.1.1.0) (sym (equal_from_same key it.0 it.2)) it.1.1.1 in
          absurd (cc (held, free))

-- ---- no refusal

unheld : (f : Value → Option BranchId) (keys : List Value) → first_some (map f keys) ≡ None → AllByRecursion (λ key. f key ≡ None) keys
unheld f [] none = tt
unheld f (key ∷ keys) none = by (f key) refl none (unheld f keys)
  where
    by : (o : Option BranchId) → f key ≡ o → first_some (o ∷ map f keys) ≡ None → (first_some (map f keys) ≡ None → AllByRecursion (λ key. f key ≡ None) keys) → (f key ≡ None) × AllByRecursion (λ key. f key ≡ None) keys
    by (Some b) is none later = absurd cc
    by None is none later = (is, later none)

nobody : (code : ℕ) (holder : Option BranchId) → held_refusal code holder ≡ None → holder ≡ None
nobody code None none = refl
nobody code (Some b) none = absurd cc

no_first : (a b : Option Refusal) → else_refuse a b ≡ None → a ≡ None
no_first (Some r) b none = absurd cc
no_first None b none = refl

no_second : (a b : Option Refusal) → else_refuse a b ≡ None → b ≡ None
no_second (Some r) b none = absurd cc
no_second None b none = none

not_too_old : (q : Bool) → refuse_if q (ora 1555 []) ≡ None → q ≡ false
not_too_old false none = refl
not_too_old true none = absurd cc

-- ---- a node and the book

-- The rows of a node are those of the book at the keys that are not in doubt, the newest ones and those at an SCN that is not too
-- old; and what it keeps fits.
pub record IsOfBook (book : List Entry) (n : ℕ) (k : NodeState) : Type 0 where
  pub doubts : (table : List ℕ) (test : Value → Bool) → list_any test (keys_in_doubt book n table) ≡ list_any test (doubtful_keys k.stored.doubts table)
  pub rows : (read_at : Option ℕ) → reads_too_old k read_at ≡ false → (table : List ℕ) (key : Value) → list_any (same_value key) (keys_in_doubt book n table) ≡ false
      → get (rows_of_table (rows_read k read_at) table) key ≡ get (book_rows book n table read_at) key
  pub views : (read_at : Option ℕ) → reads_too_old k read_at ≡ false → (name : List ℕ) (x : Table) → table_in k.stored.durable.tables name ≡ Some x → IsView x (rows_of_table (rows_read k read_at) name)
  pub book_views : (read_at : Option ℕ) (name : List ℕ) (x : Table) → table_in k.stored.durable.tables name ≡ Some x → IsView x (book_rows book n name read_at)
  pub fits : Fits k
  pub keys : KeysHeld k.locks k.owns k.stored.doubts

told_in_order : (book : List Entry) (n : ℕ) (table : List ℕ) → AreInKeyOrder (rows_by_book book n table)
unfolding rows_by_book IsStrictlySortedBy
told_in_order book n table = changes_keep_order table (committed_at [] n book) [] tt

book_in_order : (book : List Entry) (n : ℕ) (table : List ℕ) → AreInKeyOrder (rows_of book n table)
unfolding rows_of IsStrictlySortedBy
book_in_order book n table = changes_keep_order table (flat_map (commits_at book n) book) [] tt

module _ (t : History) (lawful : IsLawfulRun t) (n : ℕ) (k : NodeState) (up : node_at (facts_at t) n ≡ Some k) where
  rows_alike : (read_at : Option ℕ) → reads_too_old k read_at ≡ false → (table : List ℕ) (key : Value) → list_any (same_value key) (keys_in_doubt (facts_at t).book n table) ≡ false
      → get (rows_of_table (rows_read k read_at) table) key ≡ get (book_rows (facts_at t).book n table read_at) key
  rows_alike None young table key none = rows_agree t lawful n k up table key none
  rows_alike (Some scn) young table key none = versions_agree t lawful n k up scn young table key none

  kept_views : (read_at : Option ℕ) → reads_too_old k read_at ≡ false → (name : List ℕ) (x : Table) → table_in k.stored.durable.tables name ≡ Some x → IsView x (rows_of_table (rows_read k read_at) name)
  kept_views None young name x found = record {
    order = subst AreInKeyOrder (sym (rows_are_told t lawful n k up name)) (told_in_order (book_of t.trace) n name);
    fit = (changes_are_of_tables t lawful n k up).0.rows_of name x found;
  }
  kept_views (Some scn) young name x found = (let is = versions_fit t lawful n k up scn young name x found in record { order = is.0; fit = is.1 })

  told_views : (read_at : Option ℕ) (name : List ℕ) (x : Table) → table_in k.stored.durable.tables name ≡ Some x → IsView x (book_rows (facts_at t).book n name read_at)
  told_views None name x found = record { order = book_in_order (facts_at t).book n name; fit = book_rows_fit t lawful n k up name x found }
  told_views (Some scn) name x found = (let is = rows_until_fit t lawful n k up scn name x found in record { order = is.0; fit = is.1 })

  pub of_book : IsOfBook (facts_at t).book n k
  of_book = record {
    doubts = doubts_agree t lawful n k up;
    rows = rows_alike;
    views = kept_views;
    book_views = told_views;
    fits = changes_are_of_tables t lawful n k up;
    keys = keys_are_held t lawful n k up;
  }

-- ---- a run

-- none of these keys of a table is in doubt
abbrev pub AreCertain : List Entry → ℕ → List ℕ → List Value → Type 0
AreCertain book n table keys = AllByRecursion (λ key. list_any (same_value key) (keys_in_doubt book n table) ≡ false) keys

-- what an accepted run says, over these rows
abbrev pub IsMeantBy : List Entry → ℕ → Stmt → Table → List Keyed → StmtOutcome → Type 0
IsMeantBy book n s t seen (Refuses r) = Unit {0}
IsMeantBy book n s t seen (Reads rows keys) = (meant s t seen ≡ meants.Gives rows) × ((others : List Value) → AreCertain book n t.name (examined s t seen others))
IsMeantBy book n s t seen (Writes d cs keys undo) = meant s t seen ≡ meants.Changes d (length cs) cs

module _ (book : List Entry) (n : ℕ) (k : NodeState) (of_it : IsOfBook book n k) (p : Place) (b : BranchId) (here : b.node ≡ n) (s : Stmt) (t : Table) (name : List ℕ)
    (found : table_of k.stored.durable name ≡ Some t) where
  abbrev g : StmtContext
  g = ground_of p k b t

  abbrev doubtful : List Value
  doubtful = doubtful_keys k.stored.doubts t.name

  -- where the branch reads
  abbrev read_at : Option ℕ
  read_at = reads_at k b

  -- what the branch sees by the book
  abbrev told_view : List Keyed
  told_view = view_by book b read_at (own_changes k b) t.name

  by_name : table_in k.stored.durable.tables t.name ≡ Some t
  by_name = subst (λ m. table_in k.stored.durable.tables m ≡ Some t) (sym (table_is k.stored.durable.tables name t found)) found

  locked : AllByRecursion (IsLockedInDoubt k.locks t.name) doubtful
  locked = doubts_so k.locks t.name k.stored.doubts of_it.keys.doubts

  -- its own changes keep a view one of the table
  with_own : (rows : List Keyed) → IsView t rows → IsView t (apply t.name rows (own_changes k b))
  with_own rows is = record { order = changes_keep_order t.name (own_changes k b) rows is.order; fit = apply_rows k.stored.durable.tables (own_changes k b) (of_it.fits.1 b) t rows by_name is.fit }

  second : IsView t told_view
  unfolding view_by
  second = with_own (book_rows book b.node t.name read_at) (subst (λ m. IsView t (book_rows book m t.name read_at)) (sym here) (of_it.book_views read_at t.name t by_name))

  module _ (young : reads_too_old k read_at ≡ false) where
    agree : AgreeBut doubtful (rows_of_table (rows_read k read_at) t.name) (book_rows book b.node t.name read_at)
    agree key not_in =
        subst (λ m. get (rows_of_table (rows_read k read_at) t.name) key ≡ get (book_rows book m t.name read_at) key) (sym here)
        (of_it.rows read_at young t.name key (of_it.doubts t.name (same_value key) ∙ not_in))

    alike : in_doubt_refusal g t (examined s t g.view (keys_held k.locks t.name)) ≡ None → SeesAlike s t doubtful (keys_held k.locks t.name) g.view told_view
    unfolding view_by
    alike none = record {
      one_key = one_key k b t name found of_it.fits;
      first = with_own (rows_of_table (rows_read k read_at) t.name) (of_it.views read_at young t.name t by_name);
      second = second;
      agree = changes_keep_agreement t.name (own_changes k b) doubtful (rows_of_table (rows_read k read_at) t.name) (book_rows book b.node t.name read_at) agree;
      locks = all_some (IsLockedInDoubt k.locks t.name) _ doubtful (λ key is. is.0) locked;
      avoids = all_some (λ key. doubt_on k.locks t.name key ≡ None) _ (examined s t g.view (keys_held k.locks t.name)) (not_doubtful k.locks t.name doubtful locked)
          (unheld (doubt_on k.locks t.name) (examined s t g.view (keys_held k.locks t.name)) (nobody 1591 _ none));
    }

  -- the meaning over both
  meant_both : checked s t ≡ None → SeesAlike s t doubtful (keys_held k.locks t.name) g.view told_view → (m : Meant) → meant_over s t g.view ≡ m → meant s t told_view ≡ m
  unfolding meant
  meant_both check so m is = ap (λ o. unless o (meant_over s t told_view)) check ∙ (sym (means_alike s t doubtful (keys_held k.locks t.name) g.view told_view so) ∙ is)

  certain : SeesAlike s t doubtful (keys_held k.locks t.name) g.view told_view → (others : List Value) → AreCertain book n t.name (examined s t told_view others)
  certain so others = all_some (λ key. list_any (same_value key) doubtful ≡ false) (λ key. list_any (same_value key) (keys_in_doubt book n t.name) ≡ false) (examined s t told_view others)
      (λ key free. of_it.doubts t.name (same_value key) ∙ free) (avoids_alike s t doubtful (keys_held k.locks t.name) others g.view told_view so)

  within : (o : Option Refusal) (d : Done) (cs : List Change) → meant s t told_view ≡ meants.Changes d (length cs) cs → IsMeantBy book n s t told_view (ran_within g o d cs (written s t g.view))
  within (Some r) d cs is = tt
  within None d cs is = is

  by_meaning : checked s t ≡ None → SeesAlike s t doubtful (keys_held k.locks t.name) g.view told_view → (m : Meant) → meant_over s t g.view ≡ m → IsMeantBy book n s t told_view (ran_meant g (written s t g.view) m)
  by_meaning check so (meants.Refused r) is = tt
  by_meaning check so (meants.Gives rows) is = (meant_both check so (meants.Gives rows) is, certain so)
  by_meaning check so (meants.Changes d i cs) is =
      within (space_refusal g cs) d cs (meant_both check so (meants.Changes d i cs) is ∙ ap (λ c. meants.Changes d c cs) (count_is_length s t g.view d i cs is))

  by_locks : (o : Option Refusal) → checked s t ≡ None
      → else_refuse (too_old_refusal g) (else_refuse (in_doubt_refusal g t (examined s t g.view (keys_held k.locks t.name))) (locked_refusal g t (written s t g.view))) ≡ o → IsMeantBy book n s t told_view (ran_locked g s t o)
  by_locks (Some r) check is = tt
  by_locks None check is = by_meaning check (alike (not_too_old (reads_too_old k read_at) (no_first _ _ is)) (no_first _ _ (no_second _ _ is))) (meant_over s t g.view) refl

  by_checks : (o : Option Refusal) → checked s t ≡ o → IsMeantBy book n s t told_view (ran_checked g s t o)
  by_checks (Some r) is = tt
  by_checks None is = by_locks _ is refl

  -- an accepted run says by the book what it says
  pub run_meant : IsMeantBy book n s t told_view (ran p k b s t)
  unfolding ran ran_over
  run_meant = by_checks (checked s t) refl
