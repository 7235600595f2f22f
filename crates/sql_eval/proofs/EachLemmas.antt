-- What holds of each row, and of each row that a change puts, holds of each row that the changes leave.
use Rattle.std.proofs.Common.{◌≡◌, ℕ, not, Bool, true, false, cond, List, [], ◌∷◌, Option, None, Some, filter, refl}
use Rattle.std.specs.Prelude.{IfSome}
use Rattle.std.specs.List.{All, AllByRecursion}
use Rattle.std.proofs.lemmas.List.Elements.{All-head, All-tail}
use Rattle.sql_eval.specs.Data.{Value, Row, Change, Keyed}
use Rattle.sql_check.specs.Words.{same_text}
use Rattle.dtx_values.specs.Order.{value_below, same_value}
use Rattle.sql_eval.specs.Rows.{put, set_to, change_one, apply}

-- a row at a key
abbrev keyed : Value → Row → Keyed
keyed key row = record { key = key; row = row }

-- what a change puts is so
abbrev pub Puts : (Keyed → Type 0) → Change → Type 0
Puts P c = IfSome c.after (λ row. P (record { key = c.key; row = row }))

either : (P : Keyed → Type 0) (b : Bool) (xs ys : List Keyed) → AllByRecursion P xs → AllByRecursion P ys → AllByRecursion P (cond b xs ys)
either P true xs ys x y = x
either P false xs ys x y = y

pub filter-each : (P : Keyed → Type 0) (p : Keyed → Bool) (rows : List Keyed) → AllByRecursion P rows → AllByRecursion P (filter p rows)
filter-each P p [] each = tt
filter-each P p (r ∷ rs) each =
    let rest = filter-each P p rs each.1 in
    either P (p r) (r ∷ filter p rs) (filter p rs) (each.0, rest) rest

put-each : (P : Keyed → Type 0) (rows : List Keyed) (key : Value) (row : Row) → AllByRecursion P rows → P (keyed key row) → AllByRecursion P (put rows key row)
put-each P [] key row each new = (new, tt)
put-each P (r ∷ rs) key row each new =
    let here = keyed key row in
    either P (same_value r.key key) (here ∷ rs) (cond (value_below key r.key) (here ∷ r ∷ rs) (r ∷ put rs key row)) (new, each.1)
    (either P (value_below key r.key) (here ∷ r ∷ rs) (r ∷ put rs key row) (new, each) (each.0, put-each P rs key row each.1 new))

set_to-each : (P : Keyed → Type 0) (rows : List Keyed) (key : Value) (after : Option Row) → AllByRecursion P rows → IfSome after (λ row. P (keyed key row)) → AllByRecursion P (set_to rows key after)
set_to-each P rows key None each new = filter-each P (λ r. not (same_value r.key key)) rows each
set_to-each P rows key (Some row) each new = put-each P rows key row each new

change-each : (P : Keyed → Type 0) (rows : List Keyed) (c : Change) (b : Bool) → AllByRecursion P rows → (b ≡ true → Puts P c) → AllByRecursion P (cond b (set_to rows c.key c.after) rows)
change-each P rows c true each new = set_to-each P rows c.key c.after each (new refl)
change-each P rows c false each new = each

pub apply-each : (P : Keyed → Type 0) (table : List ℕ) (rows : List Keyed) (cs : List Change) → AllByRecursion P rows → All (λ c. same_text c.table table ≡ true → Puts P c) cs → AllByRecursion P (apply table rows cs)
apply-each P table rows [] each new = each
apply-each P table rows (c ∷ cs) each new =
    let Put = λ (d : Change). same_text d.table table ≡ true → Puts P d in
    apply-each P table (change_one table rows c) cs (change-each P rows c (same_text c.table table) each (All-head Put c cs new)) (All-tail Put c cs new)
