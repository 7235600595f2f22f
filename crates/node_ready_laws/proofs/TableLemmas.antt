-- Tables by their names, and the rows under these names with changes made to them.
use Rattle.std.proofs.Common.{◌≡◌, ℕ, zero, suc, ◌||◌, Bool, true, false, if◌then◌else◌, List, [], ◌∷◌, ◌++◌, map, Some, refl, sym, ap, subst, ◌∙◌, arith}
use Rattle.std.specs.List.{All, AllByRecursion, list_any}
use Rattle.std.specs.Cmp.Lexicographic.{bytes_decides}
use Rattle.node_rules.specs.Data.{Table, Change}
use Rattle.node_rules.specs.Words.{same_text}
use Rattle.node_rules.specs.Rows.{TableRows, rows_of_table, apply_all, apply, with_table}
use Rattle.sql_eval.specs.Laws.{IsChangeOf}
use Rattle.node_ready_laws.specs.Rows.{table_named, IsChangeAt, AreChangesAt}
use Rattle.node_ready_laws.proofs.ListLemmas.{all_weaker, found_in_more}

-- whether there are rows under a name
abbrev are_under : List TableRows → List ℕ → Bool
are_under rows name = list_any (λ r. same_text r.table name) rows

or_false : (a b : Bool) → b ≡ true → (a || b) ≡ true
or_false true b is = refl
or_false false b is = is

-- equal texts are one
pub one_text : (a b : List ℕ) → same_text a b ≡ true → a ≡ b
one_text a b is = (bytes_decides a b).0 is

-- ---- rows

-- changes at the rows under a name
pub rows_changed : (rows : List TableRows) (cs : List Change) (name : List ℕ) → are_under rows name ≡ true → rows_of_table (apply_all rows cs) name ≡ apply name (rows_of_table rows name) cs
rows_changed [] cs name there = absurd cc
rows_changed (r ∷ rows) cs name there = by (same_text r.table name) refl there (rows_changed rows cs name)
  where
    by : (here : Bool) → same_text r.table name ≡ here → (here || are_under rows name) ≡ true → (are_under rows name ≡ true → rows_of_table (apply_all rows cs) name ≡ apply name (rows_of_table rows name) cs)
        → (if here then apply r.table r.rows cs else rows_of_table (apply_all rows cs) name) ≡ apply name (if here then r.rows else rows_of_table rows name) cs
    by true is there later = ap (λ q. apply q r.rows cs) (one_text r.table name is)
    by false is there later = later there

-- the names stay
pub names_changed : (rows : List TableRows) (cs : List Change) → map (λ r. r.table) (apply_all rows cs) ≡ map (λ r. r.table) rows
names_changed [] cs = refl
names_changed (r ∷ rows) cs = ap (λ (names : List (List ℕ)). r.table ∷ names) (names_changed rows cs)

-- one more table has no rows
pub rows_added : (rows : List TableRows) (q name : List ℕ) → are_under rows name ≡ true → rows_of_table (with_table rows q) name ≡ rows_of_table rows name
rows_added [] q name there = absurd cc
rows_added (r ∷ rows) q name there = by (same_text r.table name) there (rows_added rows q name)
  where
    by : (here : Bool) → (here || are_under rows name) ≡ true → (are_under rows name ≡ true → rows_of_table (with_table rows q) name ≡ rows_of_table rows name) → (if here then r.rows else rows_of_table (with_table rows q) name) ≡ (if here then r.rows else rows_of_table rows name)
    by true there later = refl
    by false there later = later there

no_rows : (q name : List ℕ) (here : Bool) → (if here then [] else rows_of_table [] name) ≡ []
no_rows q name true = refl
no_rows q name false = refl

-- and where there were none, none are found
pub rows_new : (rows : List TableRows) (q name : List ℕ) → are_under rows name ≡ false → rows_of_table (with_table rows q) name ≡ []
rows_new [] q name none = no_rows q name (same_text q name)
rows_new (r ∷ rows) q name none = by (same_text r.table name) none (rows_new rows q name)
  where
    by : (here : Bool) → (here || are_under rows name) ≡ false → (are_under rows name ≡ false → rows_of_table (with_table rows q) name ≡ []) → (if here then r.rows else rows_of_table (with_table rows q) name) ≡ []
    by true none later = absurd cc
    by false none later = later none

pub names_added : (rows : List TableRows) (q : List ℕ) → map (λ r. r.table) (with_table rows q) ≡ map (λ r. r.table) rows ++ q ∷ []
names_added [] q = refl
names_added (r ∷ rows) q = ap (λ (names : List (List ℕ)). r.table ∷ names) (names_added rows q)

-- ---- tables and their rows

any_named : (rows : List TableRows) (name : List ℕ) → are_under rows name ≡ list_any (λ q. same_text q name) (map (λ r. r.table) rows)
any_named [] name = refl
any_named (r ∷ rows) name = ap (λ b. same_text r.table name || b) (any_named rows name)

pub any_table : (ts : List Table) (name : List ℕ) → list_any (λ t. same_text t.name name) ts ≡ list_any (λ q. same_text q name) (map (λ t. t.name) ts)
any_table [] name = refl
any_table (t ∷ ts) name = ap (λ b. same_text t.name name || b) (any_table ts name)

pub tables_named : (ts : List Table) (t : Table) → map (λ x. x.name) (ts ++ t ∷ []) ≡ map (λ x. x.name) ts ++ t.name ∷ []
tables_named [] t = refl
tables_named (x ∷ ts) t = ap (λ (names : List (List ℕ)). x.name ∷ names) (tables_named ts t)

pub same_self : (a : List ℕ) → same_text a a ≡ true
same_self a = (bytes_decides a a).1 refl

-- each table is among the tables
each_there : (P : Table → Type 0) (ts : List Table) → ((t : Table) → list_any (λ x. same_text x.name t.name) ts ≡ true → P t) → AllByRecursion P ts
each_there P [] f = tt
each_there P (t ∷ ts) f =
    (f t (ap (λ b. b || list_any (λ x. same_text x.name t.name) ts) (same_self t.name)), each_there P ts (λ u there. f u (or_false (same_text t.name u.name) _ there)))

module _ (ts : List Table) (rows : List TableRows) (names : map (λ r. r.table) rows ≡ map (λ t. t.name) ts) where
  -- there are rows under a name where there is a table of it
  pub under : (name : List ℕ) → are_under rows name ≡ list_any (λ t. same_text t.name name) ts
  under name = any_named rows name ∙ (ap (λ ns. list_any (λ q. same_text q name) ns) names ∙ sym (any_table ts name))

  pub rows_there : AllByRecursion (λ t. are_under rows t.name ≡ true) ts
  rows_there = each_there _ ts (λ t there. under t.name ∙ there)

-- ---- changes of tables that are there

pub change_more : (ts : List Table) (x : Table) (c : Change) → IsChangeAt ts c → IsChangeAt (ts ++ x ∷ []) c
change_more ts x c at = (at.0, found_in_more (λ t. same_text t.name c.table) ts (x ∷ []) at.0 at.1, at.2)

pub changes_more : (ts : List Table) (x : Table) (cs : List Change) → AreChangesAt ts cs → AreChangesAt (ts ++ x ∷ []) cs
changes_more ts x cs all = all_weaker (IsChangeAt ts) (IsChangeAt (ts ++ x ∷ [])) (change_more ts x) cs all

change_of : (ts : List Table) (t : Table) (c : Change) → table_named ts t.name ≡ Some t → IsChangeAt ts c → same_text c.table t.name ≡ true → IsChangeOf t c
change_of ts t c there at named =
    let name : c.table ≡ t.name = one_text c.table t.name named in
    let found : Some at.0 ≡ Some t = sym at.1 ∙ (ap (table_named ts) name ∙ there) in
    subst (λ x. IsChangeOf x c) (let is : at.0 ≡ t = cc in is) at.2

pub named_changes : (ts : List Table) (t : Table) (cs : List Change) → table_named ts t.name ≡ Some t → AreChangesAt ts cs → All (λ c. same_text c.table t.name ≡ true → IsChangeOf t c) cs
named_changes ts t [] there at i d low = absurd (omega (arith, low))
named_changes ts t (c ∷ cs) there at zero d low = change_of ts t c there at.0
named_changes ts t (c ∷ cs) there at (suc i) d low = named_changes ts t cs there at.1 i d (omega (arith, low))
