-- Two views that agree at each key but those in doubt, and a statement that examines none of these. Where it fixes a key, the
-- same row stands there in both; where it fixes none, it examines every locked key, so that no key is in doubt and both views are
-- one.
use Rattle.std.proofs.Common.{◌≡◌, ◌||◌, Bool, true, false, cond, List, [], ◌∷◌, ◌++◌, Option, None, Some, fold, refl, sym, ap, subst, ◌∙◌, true≢false}
use Rattle.std.specs.List.{list_any}
use Rattle.dtx_values.specs.declared.value.Value.{Value}
use Rattle.dtx_values.specs.declared.table.Table.{Table}
use Rattle.dtx_values.specs.Order.{same_value, value_below}
use Rattle.dtx_values.proofs.ValueOrder.{equal_from_same, same_from_equal}
use Rattle.sql_statement.specs.declared.statement.Stmt.{Stmt}
use Rattle.sql_check.specs.Checks.{checked}
use Rattle.sql_eval.specs.declared.keyed.Keyed.{Keyed}
use Rattle.sql_eval.specs.Rows.{keys_of, put_key}
use Rattle.sql_eval.specs.Meaning.{examined, examined_by, fixed_key, written, meant, meant_over, unless}
use Rattle.sql_eval.specs.Laws.{HasOneKey, AreKeyed, at_key}
use Rattle.sql_eval.proofs.KeyLaws.{meant_at_key, written_at_key}
use Rattle.sql_eval.proofs.RowLaws.{rows_are_keyed}
use Rattle.sql_eval.proofs.TableLaws.{tables_have_one_key}
use Rattle.stmt_view_laws.specs.Views.{AreCertain, AreLocked, SeesAlike}
use Rattle.stmt_view_laws.specs.ViewLaws.{MeansAlike, MeantAlike, WritesAlike, ExaminesAlike, AvoidsAlike, EitherSeesAlike}
use Rattle.row_store.proofs.AtKey.{with_key, at_key_is}
use Rattle.stmt_view_laws.proofs.OrderLemmas.{same_rows}

-- ---- keys

module _ (doubtful : List Value) where
  put_certain : (ks : List Value) (key : Value) → AreCertain doubtful (put_key ks key) → AreCertain doubtful (key ∷ ks)
  put_certain [] key all = all
  put_certain (k ∷ ks) key all = by (same_value k key) (value_below key k) refl (put_certain ks key) all
    where
      by : (same below : Bool) → same_value k key ≡ same → (AreCertain doubtful (put_key ks key) → AreCertain doubtful (key ∷ ks))
          → AreCertain doubtful (cond same (k ∷ ks) (cond below (key ∷ k ∷ ks) (k ∷ put_key ks key))) → AreCertain doubtful (key ∷ k ∷ ks)
      by true below same later all = (subst (λ (q : Value). list_any (same_value q) doubtful ≡ false) (equal_from_same k key same) all.0, all)
      by false true same later all = all
      by false false same later all = let rest = later all.1 in (rest.0, (all.0, rest.1))

  -- keys in order are the keys
  ordered_certain : (ordered ks : List Value) → AreCertain doubtful (fold put_key ordered ks) → AreCertain doubtful ordered × AreCertain doubtful ks
  ordered_certain ordered [] all = (all, tt)
  ordered_certain ordered (k ∷ ks) all =
      let rest = ordered_certain (put_key ordered k) ks all in
      let here = put_certain ordered k rest.0 in
      (here.1, (here.0, rest.1))

  behind_certain : (ks locked : List Value) → AreCertain doubtful (ks ++ locked) → AreCertain doubtful locked
  behind_certain [] locked all = all
  behind_certain (k ∷ ks) locked all = behind_certain ks locked all.1

  -- a key among certain ones is certain
  among_certain : (key : Value) (keys : List Value) → AreCertain doubtful keys → list_any (same_value key) keys ≡ true → list_any (same_value key) doubtful ≡ false
  among_certain key [] all is = absurd cc
  among_certain key (k ∷ ks) all is = by (same_value key k) refl (among_certain key ks all.1) is
    where
      by : (b : Bool) → same_value key k ≡ b → (list_any (same_value key) ks ≡ true → list_any (same_value key) doubtful ≡ false)
          → (b || list_any (same_value key) ks) ≡ true → list_any (same_value key) doubtful ≡ false
      by true same later is = subst (λ (q : Value). list_any (same_value q) doubtful ≡ false) (sym (equal_from_same key k same)) all.0
      by false same later is = later is

  all_certain : doubtful ≡ [] → (keys : List Value) → AreCertain doubtful keys
  all_certain none [] = tt
  all_certain none (k ∷ ks) = (ap (list_any (same_value k)) none, all_certain none ks)

-- where the locked keys are certain and those in doubt are locked, none is in doubt
none_in_doubt : (doubtful locked : List Value) → AreLocked locked doubtful → AreCertain doubtful locked → doubtful ≡ []
none_in_doubt [] locked locks all = refl
none_in_doubt (k ∷ ks) locked locks all =
    let out = among_certain (k ∷ ks) k locked all locks.0 in
    let in_it : (same_value k k || list_any (same_value k) ks) ≡ true = ap (λ (b : Bool). b || list_any (same_value k) ks) (same_from_equal k k refl) in
    absurd (true≢false (sym in_it ∙ out))

-- ---- a statement over both views

module _ (s : Stmt) (t : Table) (doubtful locked : List Value) (rows more : List Keyed) (sees : SeesAlike s t doubtful locked rows more) where
  one_key : HasOneKey t
  one_key = tables_have_one_key t sees.one_key

  keyed_rows : AreKeyed t rows
  keyed_rows = rows_are_keyed t rows sees.first.fit

  keyed_more : AreKeyed t more
  keyed_more = rows_are_keyed t more sees.second.fit

  -- what it examines: one key, which is not in doubt, or every key, of which none is
  by_key : (P : Type 0) → ((key : Value) → fixed_key s t ≡ Some key → list_any (same_value key) doubtful ≡ false → P) → (fixed_key s t ≡ None → doubtful ≡ [] → P) → P
  unfolding examined
  by_key P one none = by (fixed_key s t) refl sees.avoids
    where
      by : (o : Option Value) → fixed_key s t ≡ o → AreCertain doubtful (examined_by rows locked o) → P
      by (Some key) fixed all = one key fixed all.0
      by None fixed all =
          none fixed (none_in_doubt doubtful locked sees.locks (behind_certain doubtful (keys_of rows) locked (ordered_certain doubtful [] (keys_of rows ++ locked) all).1))

  -- the same rows at a key that is not in doubt
  same_at : (key : Value) → list_any (same_value key) doubtful ≡ false → at_key rows key ≡ at_key more key
  same_at key certain = at_key_is rows key sees.first.order ∙ ap (with_key key) (sees.agree key certain) ∙ sym (at_key_is more key sees.second.order)

  -- and one view where none is
  same_view : doubtful ≡ [] → rows ≡ more
  same_view none = same_rows rows more sees.first.order sees.second.order (λ key. sees.agree key (ap (list_any (same_value key)) none))

  means : meant_over s t rows ≡ meant_over s t more
  means =
      by_key (meant_over s t rows ≡ meant_over s t more)
      (λ key fixed certain.
      meant_at_key s t rows key one_key keyed_rows fixed ∙ ap (meant_over s t) (same_at key certain) ∙ sym (meant_at_key s t more key one_key keyed_more fixed))
      (λ fixed none. ap (meant_over s t) (same_view none))

  writes : written s t rows ≡ written s t more
  writes =
      by_key (written s t rows ≡ written s t more)
      (λ key fixed certain.
      written_at_key s t rows key one_key keyed_rows fixed ∙ ap (written s t) (same_at key certain) ∙ sym (written_at_key s t more key one_key keyed_more fixed))
      (λ fixed none. ap (written s t) (same_view none))

  module _ (others : List Value) where
    examines : examined s t rows others ≡ examined s t more others
    unfolding examined
    examines =
        by_key (examined s t rows others ≡ examined s t more others)
        (λ key fixed certain. ap (examined_by rows others) fixed ∙ sym (ap (examined_by more others) fixed))
        (λ fixed none. ap (λ (view : List Keyed). examined s t view others) (same_view none))

    avoids : AreCertain doubtful (examined s t more others)
    unfolding examined
    avoids =
        by_key (AreCertain doubtful (examined s t more others))
        (λ key fixed certain. subst (AreCertain doubtful) (sym (ap (examined_by more others) fixed)) (certain, tt))
        (λ fixed none. all_certain doubtful none (examined s t more others))

pub means_alike : MeansAlike
means_alike = means

pub meant_alike : MeantAlike
unfolding meant
meant_alike s t doubtful locked rows more sees = ap (unless (checked s t)) (means s t doubtful locked rows more sees)

pub writes_alike : WritesAlike
writes_alike = writes

pub examines_alike : ExaminesAlike
examines_alike s t doubtful locked others rows more sees = examines s t doubtful locked rows more sees others

pub avoids_alike : AvoidsAlike
avoids_alike s t doubtful locked others rows more sees = avoids s t doubtful locked rows more sees others

pub either_sees_alike : EitherSeesAlike
either_sees_alike s t doubtful locked rows more sees = record {
  one_key = sees.one_key;
  first = sees.second;
  second = sees.first;
  agree = λ key certain. sym (sees.agree key certain);
  locks = sees.locks;
  avoids = avoids s t doubtful locked rows more sees locked;
}
