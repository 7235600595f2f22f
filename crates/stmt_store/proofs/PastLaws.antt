-- A row that is put stands at its place.
use Rattle.std.proofs.Common.{◌≡◌, ℕ, zero, suc, ◌+◌, ◌<◌, ◌||◌, Bool, true, false, not, if◌then◌else◌, List, [], ◌∷◌, ◌++◌, map, slice_get, fold, length, Option, Some, None, refl, sym, ap, subst, ◌∙◌, arith}
use Rattle.std.specs.List.{insert, remove, position_or_len}
use Rattle.dtx_values.specs.declared.value.Value.{Value}
use Rattle.dtx_values.specs.declared.row.Row.{Row}
use Rattle.dtx_values.specs.declared.row.Change.{Change}
use Rattle.dtx_values.specs.Order.{value_below, same_value}
use Rattle.sql_eval.specs.declared.keyed.Keyed.{Keyed}
use Rattle.sql_eval.specs.Rows.{apply, change_one, put}
use Rattle.dtx_values.specs.declared.table.Table.{Table}
use Rattle.dtx_values.specs.declared.value.Value.TheVariants as values
use Rattle.dtx_values.specs.declared.answer.Refusal.{Refusal}
use Rattle.sql_statement.specs.declared.statement.Stmt.{Stmt}
use Rattle.sql_statement.specs.declared.statement.Stmt.TheVariants as stmts
use Rattle.sql_eval.specs.Data.{Picked}
use Rattle.sql_eval.specs.Data.picks
use Rattle.sql_check.specs.Checks.{checked}
use Rattle.sql_check.specs.Columns.{cell}
use Rattle.sql_check.specs.Refusals.{else_refuse}
use Rattle.sql_eval.specs.Meaning.{examined, found, meant_over, picked, summed, summed_set, written}
use Rattle.sql_eval.specs.declared.meant.Meant.{Meant}
use Rattle.sql_eval.specs.declared.meant.Meant.TheVariants as meants
use Rattle.row_locks.specs.Locks.{keys_held}
use Rattle.stmt_run.specs.Run.{StmtContext, too_old_refusal, in_doubt_refusal, locked_refusal, ran_meant, ran_locked, ran_checked, ran_over}
use Rattle.stmt_store.specs.Past.{comes_first, stands, is_query, ChangesNothing, past_ground}

-- changes one after the other
pub all_applied : (table : List ℕ) (rows : List Keyed) (cs : List Change) → fold (change_one table) rows cs ≡ apply table rows cs
all_applied table rows [] = refl
all_applied table rows (c ∷ cs) = all_applied table (change_one table rows c) cs

-- the rows without the one that has the key
abbrev pub but_old : Bool → List Keyed → ℕ → List Keyed
but_old true rows i = remove rows i
but_old false rows i = rows

module _ (r x : Keyed) (rs : List Keyed) where
  put_behind : (q : Bool) (n : ℕ) → insert (but_old q (r ∷ rs) (suc n)) (suc n) x ≡ r ∷ insert (but_old q rs n) n x
  put_behind true n = refl
  put_behind false n = refl

-- a row that is put stands at its place
pub put_is : (rows : List Keyed) (key : Value) (row : Row)
    → insert (but_old (stands key (slice_get rows (position_or_len (comes_first key) rows))) rows (position_or_len (comes_first key) rows)) (position_or_len (comes_first key) rows) (record { key = key; row = row }) ≡ put rows key row
put_is [] key row = refl
put_is (r ∷ rs) key row = by (same_value r.key key) (value_below key r.key) refl (put_is rs key row)
  where
    by : (s b : Bool) → same_value r.key key ≡ s
        → insert (but_old (stands key (slice_get rs (position_or_len (comes_first key) rs))) rs (position_or_len (comes_first key) rs)) (position_or_len (comes_first key) rs) (record { key = key; row = row }) ≡ put rs key row
        → insert (but_old (stands key (slice_get (r ∷ rs) (if not (s || b) then 1 + position_or_len (comes_first key) rs else 0))) (r ∷ rs) (if not (s || b) then 1 + position_or_len (comes_first key) rs else 0))
        (if not (s || b) then 1 + position_or_len (comes_first key) rs else 0) (record { key = key; row = row }) ≡ (if s then record { key = key; row = row } ∷ rs else (if b then record { key = key; row = row } ∷ r ∷ rs else r ∷ put rs key row))
    by true b is rest = ap (λ q. insert (but_old q (r ∷ rs) 0) 0 (record { key = key; row = row })) is
    by false true is rest = ap (λ q. insert (but_old q (r ∷ rs) 0) 0 (record { key = key; row = row })) is
    by false false is rest =
        let n : ℕ = position_or_len (comes_first key) rs in
        let at : 1 + n ≡ suc n = omega arith in
        subst (λ i. insert (but_old (stands key (slice_get (r ∷ rs) i)) (r ∷ rs) i) i (record { key = key; row = row }) ≡ r ∷ put rs key row) (sym at)
        (put_behind r (record { key = key; row = row }) rs (stands key (slice_get rs n)) n ∙ ap (λ zs. r ∷ zs) rest)

-- so it is where the old row was taken out before, if there was one
pub put_by : (rows left : List Keyed) (key : Value) (row : Row) (i : ℕ) (q : Bool) → i ≡ position_or_len (comes_first key) rows → q ≡ stands key (slice_get rows i) → left ≡ but_old q rows i
    → insert left i (record { key = key; row = row }) ≡ put rows key row
put_by rows left key row i q first there is =
    ap (λ xs. insert xs i (record { key = key; row = row })) (is ∙ ap (λ b. but_old b rows i) there)
    ∙ (ap (λ n. insert (but_old (stands key (slice_get rows n)) rows n) n (record { key = key; row = row })) first ∙ put_is rows key row)

-- ---- queries

summed_nothing : (name : List ℕ) (o : Option Value) → ChangesNothing (summed_set name o)
summed_nothing name None = tt
summed_nothing name (Some v) = tt

picked_nothing : (list : Picked) (t : Table) (rows : List Keyed) → ChangesNothing (picked list t rows)
picked_nothing picks.All t rows = tt
picked_nothing picks.Count t rows = tt
picked_nothing (picks.Sum name) t rows = summed_nothing name (summed (map (λ r. cell t r.row name) rows) (Some values.Null))
picked_nothing (picks.Columns names) t rows = tt

-- a query changes nothing
pub queries_change_nothing : (s : Stmt) (t : Table) (rows : List Keyed) (m : Meant) → is_query s ≡ true → m ≡ meant_over s t rows → ChangesNothing m
unfolding meant_over
queries_change_nothing (stmts.Select list table cs false) t rows m query is = subst ChangesNothing (sym is) (picked_nothing list t (found (stmts.Select list table cs false) t rows))
queries_change_nothing (stmts.Select list table cs true) t rows m query is = absurd cc
queries_change_nothing _ t rows m query is = absurd cc

-- ---- what a query answers hangs on what it sees and on the locks alone

module _ (g : StmtContext) (s : Stmt) (t : Table) (query : is_query s ≡ true) where
  abbrev past : StmtContext
  past = past_ground g.view g.too_old g.locks g.me

  meant_alike : (m : Meant) → m ≡ meant_over s t g.view → ran_meant g (written s t g.view) m ≡ ran_meant past (written s t g.view) m
  meant_alike (meants.Refused r) is = refl
  meant_alike (meants.Gives rows) is = refl
  meant_alike (meants.Changes d n cs) is = absurd (queries_change_nothing s t g.view (meants.Changes d n cs) query is)

  locked_alike : (o : Option Refusal) → ran_locked g s t o ≡ ran_locked past s t o
  locked_alike (Some r) = refl
  locked_alike None = meant_alike (meant_over s t g.view) refl

  checked_alike : (o : Option Refusal) → ran_checked g s t o ≡ ran_checked past s t o
  checked_alike (Some r) = refl
  checked_alike None = locked_alike (else_refuse (too_old_refusal g) (else_refuse (in_doubt_refusal g t (examined s t g.view (keys_held g.locks t.name))) (locked_refusal g t (written s t g.view))))

  pub queries_alike : ran_over g s t ≡ ran_over past s t
  unfolding ran_over
  queries_alike = checked_alike (checked s t)
