-- After changes, a key has what the last change at it leaves, or else the row that it had.
use Rattle.std.proofs.Common.{◌≡◌, ℕ, Bool, true, false, cond, not, ◌&&◌, List, [], ◌∷◌, None, Some, Option, unwrap_or, refl, sym, ap, subst, ◌∙◌, true≢false}
use Rattle.dtx_values.specs.declared.value.Value.{Value}
use Rattle.dtx_values.specs.declared.row.Row.{Row}
use Rattle.dtx_values.specs.declared.row.Change.{Change}
use Rattle.sql_eval.specs.declared.keyed.Keyed.{Keyed}
use Rattle.sql_check.specs.Words.{same_text}
use Rattle.dtx_values.specs.Order.{same_value, value_below}
use Rattle.sql_eval.specs.Rows.{get, put, without, set_to, change_one, apply}
use Rattle.row_store.specs.Own.{is_change_of, last_at}
use Rattle.dtx_values.proofs.ValueOrder.{equal_from_same}

-- a key that is the same as one that another is not the same as
apart_from : (p k q : Value) → same_value p k ≡ false → same_value k q ≡ true → same_value p q ≡ false
apart_from p k q apart same = subst (λ (v : Value). same_value p v ≡ false) (equal_from_same k q same) apart

twice : {X : Type 0} (b : Bool) (x y z : X) → cond b x (cond b y z) ≡ cond b x z
twice true x y z = refl
twice false x y z = refl

swapped : {X : Type 0} (a b : Bool) (x y z : X) → (b ≡ true → a ≡ false) → cond a x (cond b y z) ≡ cond b y (cond a x z)
swapped true true x y z apart = absurd (true≢false (apart refl))
swapped true false x y z apart = refl
swapped false b x y z apart = refl

module _ (k q : Value) where
  -- the row at another key of the same value, one more of it
  same_again : (r : Keyed) (x more : Option Row) → same_value r.key k ≡ true → cond (same_value k q) x (cond (same_value r.key q) (Some r.row) more) ≡ cond (same_value k q) x more
  same_again r x more same =
      ap (λ (p : Value). cond (same_value k q) x (cond (same_value p q) (Some r.row) more)) (equal_from_same r.key k same) ∙ twice (same_value k q) x (Some r.row) more

  -- one more row that is at another key
  another : (r : Keyed) (x more : Option Row) → same_value r.key k ≡ false
      → cond (same_value r.key q) (Some r.row) (cond (same_value k q) x more) ≡ cond (same_value k q) x (cond (same_value r.key q) (Some r.row) more)
  another r x more apart = swapped (same_value r.key q) (same_value k q) (Some r.row) x more (apart_from r.key k q apart)

  module _ (row : Row) where
    got_first : (r : Keyed) (rs : List Keyed) (same before : Bool) → same_value r.key k ≡ same → get (put rs k row) q ≡ cond (same_value k q) (Some row) (get rs q)
        → get (cond same (record { key = k; row = row } ∷ rs) (cond before (record { key = k; row = row } ∷ r ∷ rs) (r ∷ put rs k row))) q ≡ cond (same_value k q) (Some row) (get (r ∷ rs) q)
    got_first r rs true before same rest = sym (same_again r (Some row) (get rs q) same)
    got_first r rs false true same rest = refl
    got_first r rs false false same rest = ap (cond (same_value r.key q) (Some r.row)) rest ∙ another r (Some row) (get rs q) same

    get_put : (rows : List Keyed) → get (put rows k row) q ≡ cond (same_value k q) (Some row) (get rows q)
    get_put [] = refl
    get_put (r ∷ rs) = got_first r rs (same_value r.key k) (value_below k r.key) refl (get_put rs)

  left_first : (r : Keyed) (rs : List Keyed) (same : Bool) → same_value r.key k ≡ same → get (without rs k) q ≡ cond (same_value k q) None (get rs q)
      → get (cond (not same) (r ∷ without rs k) (without rs k)) q ≡ cond (same_value k q) None (get (r ∷ rs) q)
  left_first r rs true same rest = rest ∙ sym (same_again r None (get rs q) same)
  left_first r rs false same rest = ap (cond (same_value r.key q) (Some r.row)) rest ∙ another r None (get rs q) same

  no_row : (b : Bool) → get [] q ≡ cond b None (get [] q)
  no_row true = refl
  no_row false = refl

  get_without : (rows : List Keyed) → get (without rows k) q ≡ cond (same_value k q) None (get rows q)
  get_without [] = no_row (same_value k q)
  get_without (r ∷ rs) = left_first r rs (same_value r.key k) refl (get_without rs)

  pub get_set : (rows : List Keyed) (after : Option Row) → get (set_to rows k after) q ≡ cond (same_value k q) after (get rows q)
  get_set rows None = get_without rows
  get_set rows (Some row) = get_put row rows

-- ---- changes

module _ (table : List ℕ) (q : Value) where
  changed : (rows : List Keyed) (c : Change) (here same : Bool) (last : Option (Option Row)) (base : Option Row)
      → get (set_to rows c.key c.after) q ≡ cond same c.after (get rows q) → get rows q ≡ unwrap_or last base
      → get (cond here (set_to rows c.key c.after) rows) q ≡ unwrap_or (cond (here && same) (Some c.after) last) base
  changed rows c true true last base set before = set
  changed rows c true false last base set before = set ∙ before
  changed rows c false same last base set before = before

  got : (rows : List Keyed) (cs : List Change) (last : Option (Option Row)) (base : Option Row)
      → get rows q ≡ unwrap_or last base → get (apply table rows cs) q ≡ unwrap_or (last_at cs table q last) base
  got rows [] last base before = before
  got rows (c ∷ cs) last base before =
      got (change_one table rows c) cs (cond (is_change_of table q c) (Some c.after) last) base
      (changed rows c (same_text c.table table) (same_value c.key q) last base (get_set c.key q rows c.after) before)

  pub get_applied : (rows : List Keyed) (cs : List Change) → get (apply table rows cs) q ≡ unwrap_or (last_at cs table q None) (get rows q)
  get_applied rows cs = got rows cs None (get rows q) refl
