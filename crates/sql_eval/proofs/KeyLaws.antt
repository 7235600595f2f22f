-- A statement that fixes a key depends on what stands at that key alone.
use Rattle.std.proofs.Common.{◌≡◌, ℕ, ◌&&◌, Bool, true, false, cond, List, [], ◌∷◌, Option, None, Some, Ok, filter, map, length, slice_get, unwrap_or, refl, sym, ap, subst, ◌∙◌}
use Rattle.sql_eval.specs.Data.{Value, Table, Keyed, Cond}
use Rattle.sql_eval.specs.Data.values
use Rattle.sql_eval.specs.Data.signs
use Rattle.sql_eval.specs.Data.conds
use Rattle.sql_eval.specs.Data.stmts
use Rattle.sql_eval.specs.Data.dones
use Rattle.sql_check.specs.Words.{first_some}
use Rattle.dtx_values.specs.Order.{same_value}
use Rattle.sql_eval.specs.Rows.{get, keys_of}
use Rattle.sql_check.specs.Columns.{is_key, key_of_row, cell}
use Rattle.sql_check.specs.Inserted.{cells_of, inserted_cells}
use Rattle.sql_eval.specs.Meaning.{changing, conds_of, deleted, fixes, holds, inserting, meant_over, picked, satisfies, updated, written}
use Rattle.sql_eval.specs.Laws.{AreKeyed, HasOneKey, at_key, FoundAtKey, WrittenAtKey, MeantAtKey}

left : (a b : Bool) → (a && b) ≡ true → a ≡ true
left true b h = refl
left false b h = absurd cc

right : (a b : Bool) → (a && b) ≡ true → b ≡ true
right true b h = h
right false b h = absurd cc

-- what is given under a test
given : (b : Bool) (v key : Value) → cond b (Some v) None ≡ Some key → (b ≡ true) × (v ≡ key)
given true v key e = (refl, cc)
given false v key e = absurd cc

-- what a row has in the key column is its key
key_cell : (t : Table) (r : Keyed) (name : List ℕ) → HasOneKey t → key_of_row t r.row.cells ≡ r.key → is_key t name ≡ true → cell t r.row name ≡ r.key
key_cell t r name one keyed is =
    ap (λ (place : Option ℕ). unwrap_or (slice_get r.row.cells (unwrap_or place (length r.row.cells))) values.Null) ((one name).0 is) ∙ keyed

-- a row that satisfies a condition has the key that the condition fixes
fixes-holds : (t : Table) (r : Keyed) (c : Cond) (key : Value) → HasOneKey t → key_of_row t r.row.cells ≡ r.key → fixes t c ≡ Some key → holds t r.row c ≡ true → same_value r.key key ≡ true
fixes-holds t r (conds.Compare column signs.Eq literal) key one keyed fixed true_of =
    let test = given _ _ _ fixed in
    let same = right _ _ (right _ _ true_of) in
    let at : same_value r.key literal ≡ true = subst (λ (v : Value). same_value v literal ≡ true) (key_cell t r column one keyed (left _ _ test.0)) same in
    subst (λ (v : Value). same_value r.key v ≡ true) test.1 at
fixes-holds t r (conds.Compare column signs.Ne literal) key one keyed fixed true_of = absurd cc
fixes-holds t r (conds.Compare column signs.Lt literal) key one keyed fixed true_of = absurd cc
fixes-holds t r (conds.Compare column signs.Le literal) key one keyed fixed true_of = absurd cc
fixes-holds t r (conds.Compare column signs.Gt literal) key one keyed fixed true_of = absurd cc
fixes-holds t r (conds.Compare column signs.Ge literal) key one keyed fixed true_of = absurd cc
fixes-holds t r (conds.IsNull column negated) key one keyed fixed true_of = absurd cc

-- the key is fixed by the first condition, or by one behind it
first_or_later : (t : Table) (r : Keyed) (c : Cond) (cs : List Cond) (key : Value) (o : Option Value) → fixes t c ≡ o → HasOneKey t → key_of_row t r.row.cells ≡ r.key
    → (first_some (map (fixes t) cs) ≡ Some key → satisfies t cs r ≡ true → same_value r.key key ≡ true)
    → first_some (o ∷ map (fixes t) cs) ≡ Some key → satisfies t (c ∷ cs) r ≡ true → same_value r.key key ≡ true
first_or_later t r c cs key (Some k) is one keyed later fixed all = fixes-holds t r c key one keyed (is ∙ fixed) (left _ _ all)
first_or_later t r c cs key None is one keyed later fixed all = later fixed (right _ _ all)

-- a row that satisfies conditions has the key that they fix
satisfies-at_key : (t : Table) (r : Keyed) (cs : List Cond) (key : Value) → HasOneKey t → key_of_row t r.row.cells ≡ r.key → first_some (map (fixes t) cs) ≡ Some key → satisfies t cs r ≡ true → same_value r.key key ≡ true
satisfies-at_key t r [] key one keyed fixed all = absurd cc
satisfies-at_key t r (c ∷ cs) key one keyed fixed all = first_or_later t r c cs key (fixes t c) refl one keyed (satisfies-at_key t r cs key one keyed) fixed all

-- a row that fails the second test fails the first
not_true : (p q : Bool) → (p ≡ true → q ≡ true) → q ≡ false → p ≡ false
not_true false q implied fails = refl
not_true true q implied fails = let yes : q ≡ true = implied refl in absurd cc

one_row : (t : Table) (cs : List Cond) (key : Value) (r : Keyed) (rs : List Keyed) (b : Bool) → same_value r.key key ≡ b → (satisfies t cs r ≡ true → same_value r.key key ≡ true)
    → filter (satisfies t cs) rs ≡ filter (satisfies t cs) (at_key rs key)
    → filter (satisfies t cs) (r ∷ rs) ≡ filter (satisfies t cs) (cond b (r ∷ at_key rs key) (at_key rs key))
one_row t cs key r rs true at implied rest = ap (λ (xs : List Keyed). cond (satisfies t cs r) (r ∷ xs) xs) rest
one_row t cs key r rs false at implied rest =
    ap (λ (p : Bool). cond p (r ∷ filter (satisfies t cs) rs) (filter (satisfies t cs) rs)) (not_true (satisfies t cs r) (same_value r.key key) implied at) ∙ rest

found_rows : (t : Table) (cs : List Cond) (key : Value) (rows : List Keyed) → HasOneKey t → first_some (map (fixes t) cs) ≡ Some key → AreKeyed t rows → filter (satisfies t cs) rows ≡ filter (satisfies t cs) (at_key rows key)
found_rows t cs key [] one fixed keyed = refl
found_rows t cs key (r ∷ rs) one fixed keyed =
    one_row t cs key r rs (same_value r.key key) refl (satisfies-at_key t r cs key one keyed.0 fixed) (found_rows t cs key rs one fixed keyed.1)

pub found_at_key : FoundAtKey
found_at_key s t rows key one keyed fixed = found_rows t (conds_of s) key rows one fixed keyed

-- the row at a key is among the rows at it
get_one : (r : Keyed) (rs : List Keyed) (key : Value) (b : Bool) → same_value r.key key ≡ b → get rs key ≡ get (at_key rs key) key
    → cond b (Some r.row) (get rs key) ≡ get (cond b (r ∷ at_key rs key) (at_key rs key)) key
get_one r rs key true at rest = sym (ap (λ (b : Bool). cond b (Some r.row) (get (at_key rs key) key)) at)
get_one r rs key false at rest = rest

get_at_key : (rows : List Keyed) (key : Value) → get rows key ≡ get (at_key rows key) key
get_at_key [] key = refl
get_at_key (r ∷ rs) key = get_one r rs key (same_value r.key key) refl (get_at_key rs key)

pub written_at_key : WrittenAtKey
unfolding written
written_at_key (stmts.Insert table columns given) t rows key one keyed fixed = refl
written_at_key (stmts.Update table sets cs) t rows key one keyed fixed = ap keys_of (found_rows t cs key rows one fixed keyed)
written_at_key (stmts.Delete table cs) t rows key one keyed fixed = ap keys_of (found_rows t cs key rows one fixed keyed)
written_at_key (stmts.Select list table cs true) t rows key one keyed fixed = ap keys_of (found_rows t cs key rows one fixed keyed)
written_at_key (stmts.Select list table cs false) t rows key one keyed fixed = refl
written_at_key (stmts.CreateTable x) t rows key one keyed fixed = refl
written_at_key (stmts.CreateLink x) t rows key one keyed fixed = refl
written_at_key (stmts.CreateSynonym x) t rows key one keyed fixed = refl
written_at_key (stmts.Commit x) t rows key one keyed fixed = refl
written_at_key (stmts.CommitForce x y) t rows key one keyed fixed = refl
written_at_key stmts.Rollback t rows key one keyed fixed = refl
written_at_key (stmts.RollbackForce x) t rows key one keyed fixed = refl
written_at_key (stmts.Advise x) t rows key one keyed fixed = refl
written_at_key (stmts.Recovery x) t rows key one keyed fixed = refl
written_at_key (stmts.SetStrength x) t rows key one keyed fixed = refl
written_at_key stmts.SetReadOnly t rows key one keyed fixed = refl
written_at_key (stmts.Savepoint x) t rows key one keyed fixed = refl
written_at_key (stmts.RollbackTo x) t rows key one keyed fixed = refl
written_at_key (stmts.PurgeMixed x) t rows key one keyed fixed = refl
written_at_key (stmts.PurgeLost x) t rows key one keyed fixed = refl

-- what an INSERT means depends on the row at its key
inserted_at_key : (t : Table) (cells : List Value) (rows : List Keyed) (key : Value) → key_of_row t cells ≡ key → inserting t cells (get rows (key_of_row t cells)) ≡ inserting t cells (get (at_key rows key) (key_of_row t cells))
inserted_at_key t cells rows key is =
    ap (inserting t cells) (get_at_key rows (key_of_row t cells) ∙ ap (λ (k : Value). get (at_key rows k) (key_of_row t cells)) is)

same_some : (a b : Value) → Some a ≡ Some b → a ≡ b
same_some a b e = cc

pub meant_at_key : MeantAtKey
unfolding meant_over
meant_at_key (stmts.Insert table columns given) t rows key one keyed fixed =
    inserted_at_key t (cells_of (inserted_cells t columns given)) rows key (same_some _ _ fixed)
meant_at_key (stmts.Update table sets cs) t rows key one keyed fixed =
    ap (λ (fs : List Keyed). changing dones.Updated (updated t sets fs)) (found_rows t cs key rows one fixed keyed)
meant_at_key (stmts.Delete table cs) t rows key one keyed fixed =
    ap (λ (fs : List Keyed). changing dones.Deleted (Ok (deleted t fs))) (found_rows t cs key rows one fixed keyed)
meant_at_key (stmts.Select list table cs for_update) t rows key one keyed fixed =
    ap (picked list t) (found_rows t cs key rows one fixed keyed)
meant_at_key (stmts.CreateTable x) t rows key one keyed fixed = refl
meant_at_key (stmts.CreateLink x) t rows key one keyed fixed = refl
meant_at_key (stmts.CreateSynonym x) t rows key one keyed fixed = refl
meant_at_key (stmts.Commit x) t rows key one keyed fixed = refl
meant_at_key (stmts.CommitForce x y) t rows key one keyed fixed = refl
meant_at_key stmts.Rollback t rows key one keyed fixed = refl
meant_at_key (stmts.RollbackForce x) t rows key one keyed fixed = refl
meant_at_key (stmts.Advise x) t rows key one keyed fixed = refl
meant_at_key (stmts.Recovery x) t rows key one keyed fixed = refl
meant_at_key (stmts.SetStrength x) t rows key one keyed fixed = refl
meant_at_key stmts.SetReadOnly t rows key one keyed fixed = refl
meant_at_key (stmts.Savepoint x) t rows key one keyed fixed = refl
meant_at_key (stmts.RollbackTo x) t rows key one keyed fixed = refl
meant_at_key (stmts.PurgeMixed x) t rows key one keyed fixed = refl
meant_at_key (stmts.PurgeLost x) t rows key one keyed fixed = refl
