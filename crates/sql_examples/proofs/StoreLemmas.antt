-- Changes of a table are of tables that are there, and no change takes a table away.
use Rattle.std.proofs.Common.{◌≡◌, ℕ, true, ◌||◌, List, [], ◌∷◌, refl, sym, subst, ap, ◌∙◌}
use Rattle.std.specs.List.{AllByRecursion}
use Rattle.std.specs.Cmp.Lexicographic.{bytes_decides}
use Rattle.dtx_values.specs.declared.row.Change.{Change}
use Rattle.sql_check.specs.Words.{same_text}
use Rattle.row_store.specs.Tables.{TableRows, apply_all, with_table}
use Rattle.row_store.specs.Store.{AreOfTables, Contents, has_table, nothing_kept}

same_there : (table : List ℕ) → has_table (with_table [] table) table ≡ true
same_there table = rw ((bytes_decides table table).1 refl) refl

-- the table that alone was added
pub there_alone : (new s : Contents) (undo : ℕ) (table copy : List ℕ) → s ≡ record new { rows = with_table new.rows copy } → new ≡ nothing_kept undo → copy ≡ table
    → has_table s.rows table ≡ true
there_alone new s undo table copy stands begun same =
    let rows = ap (λ (x : Contents). x.rows) stands ∙ (ap (λ (x : Contents). with_table x.rows copy) begun ∙ ap (λ (name : List ℕ). with_table [] name) same) in
    ap (λ (rs : List TableRows). has_table rs table) rows ∙ same_there table

-- changes of a table that is there
pub of_one_table : (rows : List TableRows) (table : List ℕ) (cs : List Change) → has_table rows table ≡ true → AllByRecursion (λ c. c.table ≡ table) cs → AreOfTables rows cs
of_one_table rows table [] there all = tt
of_one_table rows table (c ∷ cs) there all = (subst (λ (name : List ℕ). has_table rows name ≡ true) (sym all.0) there, of_one_table rows table cs there all.1)

-- the tables that are there stay
pub still_there : (rows : List TableRows) (cs : List Change) (table : List ℕ) → has_table (apply_all rows cs) table ≡ has_table rows table
still_there [] cs table = refl
still_there (t ∷ ts) cs table = ap (λ b. same_text t.table table || b) (still_there ts cs table)
