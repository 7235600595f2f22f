-- After a change a key has what the change leaves there, or else the row that it had; so two lists of rows agree after the
-- same changes where they agreed before.
use Rattle.std.proofs.Common.{◌≡◌, ℕ, Bool, true, false, cond, not, List, [], ◌∷◌, Option, None, Some, refl, sym, ap, subst, ◌∙◌, true≢false}
use Rattle.dtx_values.specs.declared.value.Value.{Value}
use Rattle.dtx_values.specs.declared.row.Row.{Row}
use Rattle.dtx_values.specs.declared.row.Change.{Change}
use Rattle.dtx_values.specs.Order.{value_below, same_value}
use Rattle.dtx_values.proofs.ValueOrder.{equal_from_same}
use Rattle.sql_check.specs.Words.{same_text}
use Rattle.sql_eval.specs.declared.keyed.Keyed.{Keyed}
use Rattle.sql_eval.specs.Rows.{get, put, without, set_to, change_one, apply}
use Rattle.stmt_view_laws.specs.ViewLaws.{ChangesKeepAgreement}

twice : {X : Type 0} (b : Bool) (x y z : X) → cond b x (cond b y z) ≡ cond b x z
twice true x y z = refl
twice false x y z = refl

swapped : {X : Type 0} (a b : Bool) (x y z : X) → (b ≡ true → a ≡ false) → cond a x (cond b y z) ≡ cond b y (cond a x z)
swapped true true x y z apart = absurd (true≢false (apart refl))
swapped true false x y z apart = refl
swapped false b x y z apart = refl

module _ (k q : Value) where
  -- another row of the key that is set is not seen
  hidden : (r : Keyed) (x more : Option Row) → same_value r.key k ≡ true → cond (same_value k q) x (cond (same_value r.key q) (Some r.row) more) ≡ cond (same_value k q) x more
  hidden r x more same =
      ap (λ (p : Value). cond (same_value k q) x (cond (same_value p q) (Some r.row) more)) (equal_from_same r.key k same) ∙ twice (same_value k q) x (Some r.row) more

  -- a row of another key is seen as before
  beside : (r : Keyed) (x more : Option Row) → same_value r.key k ≡ false
      → cond (same_value r.key q) (Some r.row) (cond (same_value k q) x more) ≡ cond (same_value k q) x (cond (same_value r.key q) (Some r.row) more)
  beside r x more apart =
      swapped (same_value r.key q) (same_value k q) (Some r.row) x more (λ at. subst (λ (p : Value). same_value r.key p ≡ false) (equal_from_same k q at) apart)

  get_put : (row : Row) (rows : List Keyed) → get (put rows k row) q ≡ cond (same_value k q) (Some row) (get rows q)
  get_put row [] = refl
  get_put row (r ∷ rs) = by (same_value r.key k) (value_below k r.key) refl (get_put row rs)
    where
      by : (same below : Bool) → same_value r.key k ≡ same → get (put rs k row) q ≡ cond (same_value k q) (Some row) (get rs q)
          → get (cond same (record { key = k; row = row } ∷ rs) (cond below (record { key = k; row = row } ∷ r ∷ rs) (r ∷ put rs k row))) q ≡ cond (same_value k q) (Some row) (get (r ∷ rs) q)
      by true below same rest = sym (hidden r (Some row) (get rs q) same)
      by false true same rest = refl
      by false false same rest = ap (cond (same_value r.key q) (Some r.row)) rest ∙ beside r (Some row) (get rs q) same

  no_row : (b : Bool) → get [] q ≡ cond b None (get [] q)
  no_row true = refl
  no_row false = refl

  get_without : (rows : List Keyed) → get (without rows k) q ≡ cond (same_value k q) None (get rows q)
  get_without [] = no_row (same_value k q)
  get_without (r ∷ rs) = by (same_value r.key k) refl (get_without rs)
    where
      by : (same : Bool) → same_value r.key k ≡ same → get (without rs k) q ≡ cond (same_value k q) None (get rs q)
          → get (cond (not same) (r ∷ without rs k) (without rs k)) q ≡ cond (same_value k q) None (get (r ∷ rs) q)
      by true same rest = rest ∙ sym (hidden r None (get rs q) same)
      by false same rest = ap (cond (same_value r.key q) (Some r.row)) rest ∙ beside r None (get rs q) same

  pub get_set : (after : Option Row) (rows : List Keyed) → get (set_to rows k after) q ≡ cond (same_value k q) after (get rows q)
  get_set None rows = get_without rows
  get_set (Some row) rows = get_put row rows

module _ (table : List ℕ) (q : Value) where
  one_change : (here : Bool) (c : Change) (rows more : List Keyed) → get rows q ≡ get more q
      → get (cond here (set_to rows c.key c.after) rows) q ≡ get (cond here (set_to more c.key c.after) more) q
  one_change true c rows more same =
      get_set c.key q c.after rows ∙ ap (cond (same_value c.key q) c.after) same ∙ sym (get_set c.key q c.after more)
  one_change false c rows more same = same

  changed_alike : (cs : List Change) (rows more : List Keyed) → get rows q ≡ get more q → get (apply table rows cs) q ≡ get (apply table more cs) q
  changed_alike [] rows more same = same
  changed_alike (c ∷ cs) rows more same =
      changed_alike cs (change_one table rows c) (change_one table more c) (one_change (same_text c.table table) c rows more same)

pub changes_keep_agreement : ChangesKeepAgreement
changes_keep_agreement table cs doubtful rows more agree key certain = changed_alike table key cs rows more (agree key certain)
