-- Changes that were made: one more, and the last one taken back.
use Rattle.std.proofs.Common.{◌≡◌, ℕ, ◌+◌, ◌<◌, zero, suc, Bool, true, false, cond, ◌&&◌, List, [], ◌∷◌, ◌++◌, length, get_or, position, slice_get, None, Some, Option, is_some, refl, sym, ap, subst, ◌∙◌, arith, append_assoc, length-append}
use Rattle.std.proofs.lemmas.List.{same_from_push}
use Rattle.std.proofs.lemmas.List.Sums.{sum_by_push}
use Rattle.std.proofs.lemmas.Bool.{and_parts}
use Rattle.std.specs.Cmp.Lexicographic.{bytes_decides}
use Rattle.std.specs.Map.{keys_of}
use Rattle.std.proofs.lemmas.List.Quantifiers.{position-Some}
use Rattle.std.proofs.lemmas.Option.{slice_get-get_or}
use Rattle.dtx_values.specs.declared.value.Value.{Value}
use Rattle.dtx_values.specs.declared.row.Change.{Change}
use Rattle.dtx_values.specs.Order.{same_value}
use Rattle.dtx_values.proofs.ValueOrder.{equal_from_same, same_from_equal}
use Rattle.sql_check.specs.Words.{same_text}
use Rattle.sql_eval.specs.Rows.{change_length}
use Rattle.row_store.specs.declared.changed_key.ChangedKey.{ChangedKey}
use Rattle.row_store.specs.Own.{is_change_of, changes_length}
use Rattle.row_store.specs.Kept.{place_at, last_place, earlier_from, AreIndexed}
use Rattle.row_store.proofs.Places.{last_place_push}

key_at : {K X : Type 0} (es : List (K × X)) (i : ℕ) (d : K × X) → get_or (keys_of es) i d.0 ≡ (get_or es i d).0
key_at [] i d = refl
key_at (e ∷ es) zero d = refl
key_at (e ∷ es) (suc i) d = key_at es i d

keys_long : {K X : Type 0} (es : List (K × X)) → length (keys_of es) ≡ length es
keys_long [] = refl
keys_long (e ∷ es) = ap suc (keys_long es)

-- the first entry that passes a test
pub first_entry : {K X : Type 0} (t : K → Bool) (es : List (K × X)) (i : ℕ) (d : K × X) → position t (keys_of es) ≡ Some i
    → (slice_get es i ≡ Some (get_or es i d)) × (t (get_or es i d).0 ≡ true)
first_entry t es i d at =
    let h = position-Some t (keys_of es) i d.0 at in
    (slice_get-get_or es i d (subst (λ n. i < n) (keys_long es) h.0), ap t (sym (key_at es i d)) ∙ h.1)

-- ---- one more change

pub earlier_push : (front cs : List Change) (c : Change) → earlier_from front (cs ++ c ∷ []) ≡ earlier_from front cs ++ last_place 0 (front ++ cs) c.table c.key None ∷ []
earlier_push front [] c = ap (λ ds. last_place 0 ds c.table c.key None ∷ []) (sym (append_nil front))
  where
    append_nil : (xs : List Change) → xs ++ [] ≡ xs
    append_nil [] = refl
    append_nil (x ∷ xs) = ap (λ ys. x ∷ ys) (append_nil xs)
earlier_push front (d ∷ cs) c =
    ap (λ es. last_place 0 front d.table d.key None ∷ es)
    (earlier_push (front ++ d ∷ []) cs c ∙ ap (λ ds. earlier_from (front ++ d ∷ []) cs ++ last_place 0 ds c.table c.key None ∷ []) (append_assoc front (d ∷ []) cs))

module _ (cs : List Change) (c : Change) where
  bytes_push : changes_length (cs ++ c ∷ []) ≡ changes_length cs + change_length c
  bytes_push = sum_by_push change_length cs c

  pub made_more : (es fs : List (ChangedKey × ℕ)) (earlier more : List (Option ℕ)) (last : Option ℕ) (bytes bytes_more : ℕ) → AreIndexed es earlier cs bytes
      → ((table : List ℕ) (key : Value) → place_at fs table key ≡ last_place 0 (cs ++ c ∷ []) table key None)
      → last ≡ last_place 0 cs c.table c.key None → more ≡ earlier ++ last ∷ []
      → bytes_more ≡ changes_length cs + change_length c → AreIndexed fs more (cs ++ c ∷ []) bytes_more
  made_more es fs earlier more last bytes bytes_more are indexed last_is more_is bytes_is = record {
    indexed = indexed;
    linked = more_is ∙ (λ i. are.linked i ++ last_is i ∷ []) ∙ sym (earlier_push [] cs c);
    counted = bytes_is ∙ sym bytes_push;
  }

  -- ---- the last change taken back

  module _ (es : List (ChangedKey × ℕ)) (earlier : List (Option ℕ)) (bytes : ℕ) (are : AreIndexed es earlier (cs ++ c ∷ []) bytes) where
    -- the index has the key of the last change
    pub last_placed : place_at es c.table c.key ≡ cond (is_change_of c.table c.key c) (Some (0 + length cs)) (last_place 0 cs c.table c.key None)
    last_placed = are.indexed c.table c.key ∙ last_place_push c.table c.key c 0 cs None

    placed_itself : is_change_of c.table c.key c ≡ true
    placed_itself = (λ i. (bytes_decides c.table c.table).1 refl i && same_from_equal c.key c.key refl i)

    pub is_placed : is_some (place_at es c.table c.key) ≡ true
    is_placed = ap is_some last_placed ∙ ap (λ b. is_some (cond b (Some (0 + length cs)) (last_place 0 cs c.table c.key None))) placed_itself

    earlier_is : earlier ≡ earlier_from [] cs ++ last_place 0 cs c.table c.key None ∷ []
    earlier_is = are.linked ∙ earlier_push [] cs c

    -- and the change has an earlier place, or none, that is kept
    pub has_earlier : 0 < length earlier
    has_earlier =
        let n = ap length earlier_is ∙ length-append (earlier_from [] cs) (last_place 0 cs c.table c.key None ∷ []) in
        omega arith

    placed_if : (table : List ℕ) (key : Value) (hit : Bool) → is_change_of table key c ≡ hit
        → cond hit (last_place 0 cs c.table c.key None) (cond hit (Some (0 + length cs)) (last_place 0 cs table key None)) ≡ last_place 0 cs table key None
    placed_if table key true is =
        let both = and_parts (same_text c.table table) (same_value c.key key) is in
        (λ i. last_place 0 cs ((bytes_decides c.table table).0 both.0 i) (equal_from_same c.key key both.1 i) None)
    placed_if table key false is = refl

    pub made_less : (fs : List (ChangedKey × ℕ)) (less : List (Option ℕ)) (last : Option ℕ) (bytes_less : ℕ)
        → earlier ≡ less ++ last ∷ []
        → ((table : List ℕ) (key : Value) → place_at fs table key ≡ cond (is_change_of table key c) last (place_at es table key))
        → bytes_less + change_length c ≡ bytes → AreIndexed fs less cs bytes_less
    made_less fs less last bytes_less split set bytes_is =
        let both = same_from_push (earlier_from [] cs) less (last_place 0 cs c.table c.key None) last (sym earlier_is ∙ split) in
        record {
          indexed = λ table key.
              set table key
              ∙ (λ i. cond (is_change_of table key c) (sym both.1 i)
              ((are.indexed table key ∙ last_place_push table key c 0 cs None) i))
              ∙ placed_if table key (is_change_of table key c) refl;
          linked = sym both.0;
          counted = let h = are.counted ∙ bytes_push in omega arith;
        }
