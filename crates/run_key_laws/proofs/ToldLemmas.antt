-- What one more record makes of the rows of its node, and what one more entry makes of the rows that the book tells.
use Rattle.std.proofs.Common.{◌≡◌, ℕ, ◌||◌, Bool, true, false, if◌then◌else◌, List, [], ◌∷◌, ◌++◌, Option, Some, None, refl, sym, ap, subst, ◌∙◌, append-nil, append_assoc}
use Rattle.std.specs.Option.{option_or}
use Rattle.std.specs.List.{AllByRecursion}
use Rattle.std.specs.Cmp.Lexicographic.{bytes_decides}
use Rattle.std.proofs.lemmas.Bool.{or_left, or_right}
use Rattle.std.proofs.lemmas.Grind.{flat_map-append}
use Rattle.std.proofs.lemmas.List.Folds.{list_any-append}
use Rattle.agreement.specs.Events.{first, only_at}
use Rattle.sql_eval.specs.Rows.{set_to, change_one, apply}
use Rattle.row_store.specs.Store.{has_table}
use Rattle.node_rules.specs.Data.{Change, Table, BranchId, Keyed, Doubt}
use Rattle.node_rules.specs.Words.{same, same_text}
use Rattle.node_rules.specs.Rows.{TableRows, rows_of_table, apply_all, with_table}
use Rattle.run_rules.specs.Data.{Entry}
use Rattle.run_rules.specs.Book.{changes_in, changes_of, commits_now, committed_at, rows_by_book}
use Rattle.run_key_laws.specs.TableLaws.{table_in, AreChangesIn, TablesFit}
use Rattle.run_key_laws.proofs.TableLemmas.{table_more, no_rows, has_applied, rows_applied}

-- ---- one more entry

pub changes_more : (book : List Entry) (e : Entry) (b : BranchId) → changes_of (book ++ e ∷ []) b ≡ changes_of book b ++ changes_in b e
changes_more book e b = flat_map-append (changes_in b) book (e ∷ []) ∙ ap (λ cs. changes_of book b ++ cs) (append-nil (changes_in b e))

committed_more : (older : List Entry) (n : ℕ) (es : List Entry) (e : Entry) → committed_at older n (es ++ e ∷ []) ≡ committed_at older n es ++ commits_now (older ++ es) n e
committed_more older n [] e = append-nil (commits_now older n e) ∙ ap (λ os. commits_now os n e) (sym (append-nil older))
committed_more older n (x ∷ es) e =
    ap (λ cs. commits_now older n x ++ cs) (committed_more (older ++ x ∷ []) n es e)
    ∙ (sym (append_assoc (commits_now older n x) (committed_at (older ++ x ∷ []) n es) (commits_now ((older ++ x ∷ []) ++ es) n e))
    ∙ ap (λ os. (commits_now older n x ++ committed_at (older ++ x ∷ []) n es) ++ commits_now os n e) (append_assoc older (x ∷ []) es))

apply_more : (table : List ℕ) (rows : List Keyed) (xs ys : List Change) → apply table rows (xs ++ ys) ≡ apply table (apply table rows xs) ys
apply_more table rows [] ys = refl
apply_more table rows (x ∷ xs) ys = apply_more table (change_one table rows x) xs ys

pub told_more : (book : List Entry) (e : Entry) (n : ℕ) (table : List ℕ) → rows_by_book (book ++ e ∷ []) n table ≡ apply table (rows_by_book book n table) (commits_now book n e)
unfolding rows_by_book
told_more book e n table = ap (apply table []) (committed_more [] n book e) ∙ apply_more table [] (committed_at [] n book) (commits_now book n e)

-- an entry that commits nothing at a node, and has no changes of its branches
abbrev pub IsQuietAt : ℕ → Entry → Type 0
IsQuietAt n e = ((older : List Entry) → commits_now older n e ≡ []) × ((b : BranchId) → b.node ≡ n → changes_in b e ≡ [])

pub told_quietly : (n : ℕ) (table : List ℕ) (book es : List Entry) → AllByRecursion (IsQuietAt n) es → rows_by_book (book ++ es) n table ≡ rows_by_book book n table
told_quietly n table book [] all = ap (λ bk. rows_by_book bk n table) (append-nil book)
told_quietly n table book (e ∷ es) all =
    ap (λ bk. rows_by_book bk n table) (sym (append_assoc book (e ∷ []) es))
    ∙ (told_quietly n table (book ++ e ∷ []) es all.1 ∙ (told_more book e n table ∙ ap (apply table (rows_by_book book n table)) (all.0.0 book)))

pub changes_quietly : (n : ℕ) (b : BranchId) (book es : List Entry) → b.node ≡ n → AllByRecursion (IsQuietAt n) es → changes_of (book ++ es) b ≡ changes_of book b
changes_quietly n b book [] here all = ap (λ bk. changes_of bk b) (append-nil book)
changes_quietly n b book (e ∷ es) here all =
    ap (λ bk. changes_of bk b) (sym (append_assoc book (e ∷ []) es))
    ∙ (changes_quietly n b (book ++ e ∷ []) es here all.1 ∙ (changes_more book e b ∙ (ap (λ cs. changes_of book b ++ cs) (all.0.1 b here) ∙ append-nil (changes_of book b))))

-- ---- one more event

pub first_left : {A : Type 0} (o p : Option A) → first o p ≡ None → o ≡ None
first_left None p is = refl
first_left (Some a) p is = absurd cc

pub first_right : {A : Type 0} (o p : Option A) → first o p ≡ None → p ≡ None
first_right None p is = is
first_right (Some a) p is = absurd cc

pub not_only : {A : Type 0} (c b : BranchId) (a : A) → only_at c b a ≡ None → same c b ≡ false
not_only c b a is = by (same c b) refl is
  where
    by : (here : Bool) → same c b ≡ here → (if here then Some a else None) ≡ None → here ≡ false
    by false at is = refl
    by true at is = absurd cc

-- ---- rows with changes

-- changes of tables that there are leave no rows elsewhere
none_applied : (ts : List Table) (cs : List Change) (name : List ℕ) → AreChangesIn ts cs → table_in ts name ≡ None → apply name [] cs ≡ []
none_applied ts [] name all none = refl
none_applied ts (c ∷ cs) name all none = by (same_text c.table name) refl (none_applied ts cs name all.1 none)
  where
    by : (here : Bool) → same_text c.table name ≡ here → apply name [] cs ≡ [] → apply name (change_one name [] c) cs ≡ []
    by false is later = ap (λ q. apply name (if q then set_to [] c.key c.after else []) cs) is ∙ later
    by true is later = let at : table_in ts name ≡ Some all.0.0 = subst (λ m. table_in ts m ≡ Some all.0.0) ((bytes_decides c.table name).0 is) all.0.1 in absurd (cc (at, none))

-- the rows of each table, and none where there is no table
pub rows_with : (ts : List Table) (rows : List TableRows) (ds : List Doubt) → TablesFit ts rows ds → ((name : List ℕ) (x : Table) → table_in ts name ≡ Some x → has_table rows name ≡ true)
    → (cs : List Change) → AreChangesIn ts cs → (name : List ℕ) → rows_of_table (apply_all rows cs) name ≡ apply name (rows_of_table rows name) cs
rows_with ts rows ds fits there cs all name = by (table_in ts name) refl
  where
    by : (o : Option Table) → table_in ts name ≡ o → rows_of_table (apply_all rows cs) name ≡ apply name (rows_of_table rows name) cs
    by (Some x) is = rows_applied rows cs name (there name x is)
    by None is =
        let none : has_table rows name ≡ false = fits.known name is in
        no_rows (apply_all rows cs) name (has_applied rows cs name ∙ none) ∙ sym (ap (λ rs. apply name rs cs) (no_rows rows name none) ∙ none_applied ts cs name all is)

-- a table that is made is there
pub made_there : (ts : List Table) (rows : List TableRows) (x : Table) → ((name : List ℕ) (y : Table) → table_in ts name ≡ Some y → has_table rows name ≡ true)
    → (name : List ℕ) (y : Table) → table_in (ts ++ x ∷ []) name ≡ Some y → has_table (with_table rows x.name) name ≡ true
made_there ts rows x there name y found = by (table_in ts name) (same_text x.name name) refl refl (sym (table_more ts x name) ∙ found)
  where
    both : has_table (with_table rows x.name) name ≡ (has_table rows name || (same_text x.name name || false))
    both = list_any-append (λ z. same_text z.table name) rows _

    by : (o : Option Table) (here : Bool) → table_in ts name ≡ o → same_text x.name name ≡ here → option_or o (if here then Some x else None) ≡ Some y → has_table (with_table rows x.name) name ≡ true
    by (Some z) here is at found = both ∙ or_left (has_table rows name) (same_text x.name name || false) (there name z is)
    by None true is at found = both ∙ or_right (has_table rows name) (same_text x.name name || false) (ap (λ q. q || false) at)
    by None false is at found = absurd cc
