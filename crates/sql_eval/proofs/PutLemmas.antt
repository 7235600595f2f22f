-- A key is put among keys in order as std's ordered set puts it.
use Rattle.std.proofs.Common.{◌≡◌, cond, List, [], ◌∷◌, refl, ap, ◌∙◌}
use Rattle.std.specs.declared.cmp.Ordering.{Ordering}
use Rattle.std.specs.declared.cmp.Ordering.TheVariants.{Less, Equal, Greater}
use Rattle.std.specs.Ordering.{is_eq, is_lt, match_ordering}
use Rattle.std.specs.BTreeSet.{insert_key}
use Rattle.dtx_values.specs.declared.value.Value.{Value}
use Rattle.dtx_values.specs.Order.{value_cmp, value_below, same_value}
use Rattle.dtx_values.proofs.RowLookups.{derived, derived_is}
use Rattle.dtx_values.proofs.ValueOrder.{same_is}
use Rattle.sql_eval.specs.Rows.{put_key}

placed : (o : Ordering) (before same behind : List Value) → match_ordering o before same behind ≡ cond (is_eq o) same (cond (is_lt o) before behind)
placed Less before same behind = refl
placed Equal before same behind = refl
placed Greater before same behind = refl

inserted : (ks : List Value) (k : Value) → insert_key value_cmp ks k ≡ put_key ks k
inserted [] k = refl
inserted (x ∷ xs) k =
    placed (value_cmp k x) (k ∷ x ∷ xs) (x ∷ xs) (x ∷ insert_key value_cmp xs k)
    ∙ ap (λ b. cond b (x ∷ xs) (cond (value_below k x) (k ∷ x ∷ xs) (x ∷ insert_key value_cmp xs k))) (same_is x k)
    ∙ ap (λ (rest : List Value). cond (same_value x k) (x ∷ xs) (cond (value_below k x) (k ∷ x ∷ xs) (x ∷ rest))) (inserted xs k)

pub key_is_put : (ks : List Value) (k : Value) → insert_key derived ks k ≡ put_key ks k
key_is_put ks k = ap (λ (R : Value → Value → Ordering). insert_key R ks k) derived_is ∙ inserted ks k
