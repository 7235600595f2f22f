-- What holds of each change that a statement may make of one row holds of all its changes; and how many they are, at which keys.
use Rattle.std.proofs.Common.{◌≡◌, ℕ, List, [], ◌∷◌, Option, None, Some, Result, Ok, Err, filter, map, length, refl, sym, ap, subst, ◌∙◌}
use Rattle.std.specs.List.{All, AllByRecursion}
use Rattle.std.proofs.lemmas.List.Elements.{All-nil, All-cons}
use Rattle.sql_eval.specs.Data.{Value, Row, Change, Table, Keyed, Picked, Set, Stmt, Refusal, Done}
use Rattle.sql_eval.specs.Data.values
use Rattle.sql_eval.specs.Data.stmts
use Rattle.sql_eval.specs.Data.picks
use Rattle.sql_eval.specs.Data.dones
use Rattle.sql_eval.specs.Data.meants
use Rattle.sql_eval.specs.Rows.{get, keys_of}
use Rattle.sql_check.specs.Columns.{cell, key_of_row}
use Rattle.sql_check.specs.Inserted.{cells_of, inserted_cells}
use Rattle.sql_eval.specs.Meaning.{and_updated, change_to, changing, deleted, inserting, insertion, meant_over, picked, removal, satisfies, set_all, summed, summed_set, update, updated, written}
use Rattle.sql_eval.specs.Laws.{ChangesAreOfWritten, CountIsLength}
use Rattle.sql_eval.proofs.EachLemmas.{filter-each}

-- the change that sets the row at a key
abbrev pub setting : Table → Value → Row → Change
setting t key row = record { table = t.name; key = key; after = Some row }

-- what a statement makes of one row that satisfies R is so
abbrev pub Makes : (Change → Type 0) → (Keyed → Type 0) → Table → Stmt → Type 0
Makes Q R t (stmts.Insert table columns given) = Q (insertion t (cells_of (inserted_cells t columns given)))
Makes Q R t (stmts.Update table sets cs) = (r : Keyed) (row : Row) → R r → set_all t r.row (Ok r.row) sets ≡ Ok row → Q (setting t r.key row)
Makes Q R t (stmts.Delete table cs) = (r : Keyed) → R r → Q (removal t r)
Makes Q R t _ = Unit {0}

-- ---- an INSERT

inserting-is : (t : Table) (cells : List Value) (there : Option Row) (done : Done) (count : ℕ) (changes : List Change) → inserting t cells there ≡ meants.Changes done count changes
    → (insertion t cells ∷ [] ≡ changes) × (1 ≡ count)
inserting-is t cells (Some row) done count changes e = absurd cc
inserting-is t cells None done count changes e = (cc, cc)

-- ---- an UPDATE

change_to-all : (Q : Change → Type 0) (t : Table) (key : Value) (due : Result Row Refusal) (c : Change) → ((row : Row) → due ≡ Ok row → Q (setting t key row)) → change_to t key due ≡ Ok c → Q c
change_to-all Q t key (Err r) c made e = absurd cc
change_to-all Q t key (Ok row) c made e = let same : setting t key row ≡ c = cc in subst Q same (made row refl)

change_to-key : (t : Table) (key : Value) (due : Result Row Refusal) (c : Change) → change_to t key due ≡ Ok c → c.key ≡ key
change_to-key t key (Err r) c e = absurd cc
change_to-key t key (Ok row) c e = let same : setting t key row ≡ c = cc in sym (ap (λ (d : Change). d.key) same)

and_updated-is : (P : List Change → Type 0) (a : Result Change Refusal) (b : Result (List Change) Refusal) (cs : List Change) → ((c : Change) (ds : List Change) → a ≡ Ok c → b ≡ Ok ds → P (c ∷ ds)) → and_updated a b ≡ Ok cs → P cs
and_updated-is P (Err r) b cs made e = absurd cc
and_updated-is P (Ok c) (Err r) cs made e = absurd cc
and_updated-is P (Ok c) (Ok ds) cs made e = let same : c ∷ ds ≡ cs = cc in subst P same (made c ds refl refl)

updated-all : (Q : Change → Type 0) (R : Keyed → Type 0) (t : Table) (sets : List Set) (rows : List Keyed) (cs : List Change)
    → ((r : Keyed) (row : Row) → R r → set_all t r.row (Ok r.row) sets ≡ Ok row → Q (setting t r.key row)) → AllByRecursion R rows → updated t sets rows ≡ Ok cs → All Q cs
updated-all Q R t sets [] cs made each e = let same : [] ≡ cs = cc in subst (All Q) same (All-nil Q)
updated-all Q R t sets (r ∷ rs) cs made each e =
    and_updated-is (All Q) (update t sets r) (updated t sets rs) cs
    (λ c ds first behind. All-cons Q c ds (change_to-all Q t r.key (set_all t r.row (Ok r.row) sets) c (λ row is. made r row each.0 is) first) (updated-all Q R t sets rs ds made each.1 behind)) e

updated-keys : (t : Table) (sets : List Set) (rows : List Keyed) (cs : List Change) → updated t sets rows ≡ Ok cs → map (λ c. c.key) cs ≡ keys_of rows
updated-keys t sets [] cs e = let same : [] ≡ cs = cc in sym (ap (λ (ds : List Change). map (λ c. c.key) ds) same)
updated-keys t sets (r ∷ rs) cs e =
    and_updated-is (λ (ds : List Change). map (λ c. c.key) ds ≡ keys_of (r ∷ rs)) (update t sets r) (updated t sets rs) cs
    (λ c ds first behind.
    let here = change_to-key t r.key (set_all t r.row (Ok r.row) sets) c first in
    let rest = updated-keys t sets rs ds behind in
    cc) e

-- ---- a DELETE

deleted-all : (Q : Change → Type 0) (R : Keyed → Type 0) (t : Table) (rows : List Keyed) → ((r : Keyed) → R r → Q (removal t r)) → AllByRecursion R rows → All Q (deleted t rows)
deleted-all Q R t [] made each = All-nil Q
deleted-all Q R t (r ∷ rs) made each = All-cons Q (removal t r) (deleted t rs) (made r each.0) (deleted-all Q R t rs made each.1)

deleted-keys : (t : Table) (rows : List Keyed) → map (λ c. c.key) (deleted t rows) ≡ keys_of rows
deleted-keys t [] = refl
deleted-keys t (r ∷ rs) = ap (λ (ks : List Value). r.key ∷ ks) (deleted-keys t rs)

changing-is : (d : Done) (due : Result (List Change) Refusal) (done : Done) (count : ℕ) (changes : List Change) → changing d due ≡ meants.Changes done count changes → (due ≡ Ok changes) × (length changes ≡ count)
changing-is d (Err r) done count changes e = absurd cc
changing-is d (Ok cs) done count changes e = (cc, cc)

-- ---- a query changes nothing

summed-is : (name : List ℕ) (o : Option Value) (done : Done) (count : ℕ) (changes : List Change) → summed_set name o ≡ meants.Changes done count changes → ⊥
summed-is name None done count changes e = cc
summed-is name (Some v) done count changes e = cc

picked-is : (list : Picked) (t : Table) (rows : List Keyed) (done : Done) (count : ℕ) (changes : List Change) → picked list t rows ≡ meants.Changes done count changes → ⊥
picked-is picks.All t rows done count changes e = cc
picked-is picks.Count t rows done count changes e = cc
picked-is (picks.Sum name) t rows done count changes e = summed-is name (summed (map (λ r. cell t r.row name) rows) (Some values.Null)) done count changes e
picked-is (picks.Columns names) t rows done count changes e = cc

-- ---- each statement

-- what a statement that changes rows came to
abbrev IsMade : Stmt → Table → List Keyed → ℕ → List Change → Type 0
IsMade (stmts.Insert table columns given) t rows count changes = (insertion t (cells_of (inserted_cells t columns given)) ∷ [] ≡ changes) × (1 ≡ count)
IsMade (stmts.Update table sets cs) t rows count changes = (updated t sets (filter (satisfies t cs) rows) ≡ Ok changes) × (length changes ≡ count)
IsMade (stmts.Delete table cs) t rows count changes = (deleted t (filter (satisfies t cs) rows) ≡ changes) × (length changes ≡ count)
IsMade _ t rows count changes = ⊥

is_made : (s : Stmt) (t : Table) (rows : List Keyed) (done : Done) (count : ℕ) (changes : List Change) → meant_over s t rows ≡ meants.Changes done count changes → IsMade s t rows count changes
unfolding meant_over
is_made (stmts.Insert table columns given) t rows done count changes e =
    let cells = cells_of (inserted_cells t columns given) in
    inserting-is t cells (get rows (key_of_row t cells)) done count changes e
is_made (stmts.Update table sets cs) t rows done count changes e = changing-is dones.Updated (updated t sets (filter (satisfies t cs) rows)) done count changes e
is_made (stmts.Delete table cs) t rows done count changes e = (cc, cc)
is_made (stmts.Select list table cs for_update) t rows done count changes e = picked-is list t (filter (satisfies t cs) rows) done count changes e
is_made s t rows done count changes e = cc

made-all : (Q : Change → Type 0) (R : Keyed → Type 0) (s : Stmt) (t : Table) (rows : List Keyed) (count : ℕ) (changes : List Change) → Makes Q R t s → AllByRecursion R rows → IsMade s t rows count changes → All Q changes
made-all Q R (stmts.Insert table columns given) t rows count changes makes each made =
    let new = insertion t (cells_of (inserted_cells t columns given)) in
    subst (All Q) made.0 (All-cons Q new [] makes (All-nil Q))
made-all Q R (stmts.Update table sets cs) t rows count changes makes each made =
    updated-all Q R t sets (filter (satisfies t cs) rows) changes makes (filter-each R (satisfies t cs) rows each) made.0
made-all Q R (stmts.Delete table cs) t rows count changes makes each made =
    subst (All Q) made.0 (deleted-all Q R t (filter (satisfies t cs) rows) makes (filter-each R (satisfies t cs) rows each))
made-all Q R s t rows count changes makes each made = absurd made

pub changes-all : (Q : Change → Type 0) (R : Keyed → Type 0) (s : Stmt) (t : Table) (rows : List Keyed) (done : Done) (count : ℕ) (changes : List Change) → Makes Q R t s → AllByRecursion R rows
    → meant_over s t rows ≡ meants.Changes done count changes → All Q changes
changes-all Q R s t rows done count changes makes each e = made-all Q R s t rows count changes makes each (is_made s t rows done count changes e)

made-count : (s : Stmt) (t : Table) (rows : List Keyed) (count : ℕ) (changes : List Change) → IsMade s t rows count changes → count ≡ length changes
made-count (stmts.Insert table columns given) t rows count changes made = sym made.1 ∙ ap (λ (cs : List Change). length cs) made.0
made-count (stmts.Update table sets cs) t rows count changes made = sym made.1
made-count (stmts.Delete table cs) t rows count changes made = sym made.1
made-count s t rows count changes made = absurd made

pub count_is_length : CountIsLength
count_is_length s t rows done count changes e = made-count s t rows count changes (is_made s t rows done count changes e)

made-written : (s : Stmt) (t : Table) (rows : List Keyed) (count : ℕ) (changes : List Change) → IsMade s t rows count changes → map (λ c. c.key) changes ≡ written s t rows
unfolding written
made-written (stmts.Insert table columns given) t rows count changes made = sym (ap (λ (cs : List Change). map (λ c. c.key) cs) made.0)
made-written (stmts.Update table sets cs) t rows count changes made = updated-keys t sets (filter (satisfies t cs) rows) changes made.0
made-written (stmts.Delete table cs) t rows count changes made = sym (ap (λ (ds : List Change). map (λ c. c.key) ds) made.0) ∙ deleted-keys t (filter (satisfies t cs) rows)
made-written s t rows count changes made = absurd made

pub changes_are_of_written : ChangesAreOfWritten
changes_are_of_written s t rows done count changes e = made-written s t rows count changes (is_made s t rows done count changes e)
