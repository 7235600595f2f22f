-- One lock more: the number of the lock on each key, distinct keys, and how many locks are in doubt.
use Rattle.std.proofs.Common.{◌≡◌, ℕ, ◌<◌, suc, Bool, true, false, cond, List, [], ◌∷◌, ◌++◌, filter, find, length, None, Some, refl, sym, ap, ◌∙◌, arith}
use Rattle.std.specs.Cow.{cow_value}
use Rattle.std.specs.List.{AllByRecursion, IsDistinct}
use Rattle.std.specs.Map.{lookup}
use Rattle.std.specs.Option.{option_map}
use Rattle.dtx_values.specs.declared.value.Value.{Value}
use Rattle.row_locks.specs.declared.held_key.HeldKey.{HeldKey}
use Rattle.row_locks.specs.declared.lock_key.LockKey.{LockKey}
use Rattle.row_locks.specs.Locks.{is_lock_on, are_on_one_key, AreOnDistinctKeys}
use Rattle.row_locks.specs.Numbered.{Numbered, lock_of, locks_in, is_on, number_on, number_at}
use Rattle.row_locks.proofs.FindLaws.{found_as, asked, lookup_is, hit_is, on_as}

module _ (n : ℕ) (h : HeldKey) where
  number_more : (table : List ℕ) (key : Value) (hit : Bool) (es : List Numbered) → is_lock_on table key (lock_of h) ≡ hit
      → AllByRecursion (λ e. is_on h.table h.key e ≡ false) es → number_on (es ++ (n, h) ∷ []) table key ≡ cond hit (Some n) (number_on es table key)
  number_more table key true [] hit none = ap (λ b. option_map (λ (e : Numbered). e.0) (cond b (Some (n, h)) None)) hit
  number_more table key false [] hit none = ap (λ b. option_map (λ (e : Numbered). e.0) (cond b (Some (n, h)) None)) hit
  number_more table key true (e ∷ es) hit none =
      ap (λ b. option_map (λ x. x.0) (cond b (Some e) (find (is_on table key) (es ++ (n, h) ∷ [])))) (on_as (lock_of h) table key hit (lock_of e.1) ∙ none.0)
      ∙ number_more table key true es hit none.1
  number_more table key false (e ∷ es) hit none = by (is_on table key e) (number_more table key false es hit none.1)
    where
      by : (b : Bool) → number_on (es ++ (n, h) ∷ []) table key ≡ number_on es table key
          → option_map (λ x. x.0) (cond b (Some e) (find (is_on table key) (es ++ (n, h) ∷ []))) ≡ option_map (λ x. x.0) (cond b (Some e) (find (is_on table key) es))
      by true rest = refl
      by false rest = rest

  pub found_more : (ks more : List (LockKey × ℕ)) (k : LockKey) (es : List Numbered) → cow_value k.table ≡ h.table → cow_value k.key ≡ h.key
      → ((q : LockKey) → lookup (found_as q) more ≡ cond (found_as k q) (Some n) (lookup (found_as q) ks))
      → AllByRecursion (λ e. is_on h.table h.key e ≡ false) es
      → ((table : List ℕ) (key : Value) → number_at ks table key ≡ number_on es table key)
      → (table : List ℕ) (key : Value) → number_at more table key ≡ number_on (es ++ (n, h) ∷ []) table key
  found_more ks more k es tables keys put none found table key =
      sym (lookup_is (asked table key) more) ∙ put (asked table key)
      ∙ (λ i. cond (hit_is k h table key tables keys i) (Some n) ((lookup_is (asked table key) ks ∙ found table key) i))
      ∙ sym (number_more table key (is_lock_on table key (lock_of h)) es refl none)

  apart_more : (e : Numbered) (es : List Numbered) → is_on h.table h.key e ≡ false → AllByRecursion (λ l. are_on_one_key (lock_of e.1) l ≡ false) (locks_in es)
      → AllByRecursion (λ l. are_on_one_key (lock_of e.1) l ≡ false) (locks_in (es ++ (n, h) ∷ []))
  apart_more e [] off all = (off, tt)
  apart_more e (x ∷ xs) off all = (all.0, apart_more e xs off all.1)

  pub distinct_more : (es : List Numbered) → AllByRecursion (λ e. is_on h.table h.key e ≡ false) es → AreOnDistinctKeys (locks_in es) → AreOnDistinctKeys (locks_in (es ++ (n, h) ∷ []))
  unfolding IsDistinct
  distinct_more [] none apart = (tt, tt)
  distinct_more (e ∷ es) none apart = (apart_more e es none.0 apart.0, distinct_more es none.1 apart.1)

  pub below_more : (next : ℕ) (es : List Numbered) → n < next → AllByRecursion (λ e. e.0 < n) es → AllByRecursion (λ e. e.0 < next) (es ++ (n, h) ∷ [])
  below_more next [] less all = (less, tt)
  below_more next (e ∷ es) less all = (omega arith, below_more next es less all.1)

  pub counted_more : (es : List Numbered) → h.in_doubt ≡ false → length (filter (λ e. e.1.in_doubt) (es ++ (n, h) ∷ [])) ≡ length (filter (λ e. e.1.in_doubt) es)
  counted_more [] live = ap (λ b. length {A = Numbered} (cond b ((n, h) ∷ []) [])) live
  counted_more (e ∷ es) live = by e.1.in_doubt (counted_more es live)
    where
      by : (b : Bool) → length (filter (λ x. x.1.in_doubt) (es ++ (n, h) ∷ [])) ≡ length (filter (λ x. x.1.in_doubt) es) → length (cond b (e ∷ filter (λ x. x.1.in_doubt) (es ++ (n, h) ∷ [])) (filter (λ x. x.1.in_doubt) (es ++ (n, h) ∷ [])))
          ≡ length (cond b (e ∷ filter (λ x. x.1.in_doubt) es) (filter (λ x. x.1.in_doubt) es))
      by true rest = ap (λ m. suc m) rest
      by false rest = rest
