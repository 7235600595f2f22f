-- Keys of locks: what a look-up by a key finds, and a key that is taken.
use Rattle.std.proofs.Common.{◌≡◌, ℕ, Bool, true, false, cond, ◌||◌, List, [], ◌∷◌, ◌++◌, map, filter, find, None, Some, Option, refl, sym, ap, ◌∙◌}
use Rattle.std.specs.List.{AllByRecursion}
use Rattle.std.specs.Option.{option_map}
use Rattle.std.specs.Str.{bytes_eq}
use Rattle.dtx_values.specs.declared.value.Value.{Value}
use Rattle.tran_ids.specs.declared.branch.BranchId.{BranchId}
use Rattle.row_locks.specs.declared.held_key.Holder.{Holder}
use Rattle.row_locks.specs.Locks.{Lock, named, is_lock_on, holder_of, new_lock, taken, keys_held}
use Rattle.row_locks.specs.Numbered.{Numbered, lock_of, locks_in, is_on, is_number, holder_in, holder_on, written, changed_at, HasNone, HaveOwnNumbers}
use Rattle.row_locks.proofs.NumberLaws.{number_itself, number_flips, none_changed}

or_true : (c : Bool) → (c || true) ≡ true
or_true true = refl
or_true false = refl

or_false : (c : Bool) → (c || false) ≡ c
or_false true = refl
or_false false = refl

-- the branch that a holder is, and whether it is in doubt
abbrev pub who : Holder → BranchId × Bool
who h = (h.branch, h.in_doubt)

-- ---- the first lock on a key

module _ (table : List ℕ) (key : Value) where
  find_step : (b : Bool) (e : Numbered) (more : Option Numbered) (rest : Option Lock) → rest ≡ option_map (λ x. lock_of x.1) more
      → cond b (Some (lock_of e.1)) rest ≡ option_map (λ x. lock_of x.1) (cond b (Some e) more)
  find_step true e more rest is = refl
  find_step false e more rest is = is

  pub find_in : (es : List Numbered) → find (is_lock_on table key) (locks_in es) ≡ option_map (λ e. lock_of e.1) (find (is_on table key) es)
  find_in [] = refl
  find_in (e ∷ es) = find_step (is_on table key e) e (find (is_on table key) es) _ (find_in es)

  who_is : (found : Option Numbered) → option_map who (option_map holder_in found) ≡ option_map named (option_map (λ e. lock_of e.1) found)
  who_is None = refl
  who_is (Some e) = refl

  -- the holder of a key
  pub holder_is : (es : List Numbered) → option_map who (holder_on es table key) ≡ holder_of (locks_in es) table key
  holder_is es = who_is (find (is_on table key) es) ∙ ap (option_map named) (sym (find_in es))

  free_from : (found : Option Numbered) → option_map named (option_map (λ e. lock_of e.1) found) ≡ None → found ≡ None
  free_from None h = refl
  free_from (Some e) h = absurd cc

  pub free_is : (es : List Numbered) → holder_of (locks_in es) table key ≡ None → find (is_on table key) es ≡ None
  free_is es h = free_from (find (is_on table key) es) (ap (option_map named) (sym (find_in es)) ∙ h)

  none_step : (b : Bool) (e : Numbered) (more : Option Numbered) → cond b (Some e) more ≡ None → (b ≡ false) × (more ≡ None)
  none_step true e more h = absurd cc
  none_step false e more h = (refl, h)

  pub none_on : (es : List Numbered) → find (is_on table key) es ≡ None → AllByRecursion (λ e. is_on table key e ≡ false) es
  none_on [] h = tt
  none_on (e ∷ es) h = let s = none_step (is_on table key e) e (find (is_on table key) es) h in (s.0, none_on es s.1)

  -- ---- a key is taken

  pub taken_free : (es : List Numbered) (branch : BranchId) (writes : Bool) → AllByRecursion (λ e. is_on table key e ≡ false) es
      → taken (locks_in es) branch table key writes ≡ locks_in es ++ new_lock branch table key writes ∷ []
  taken_free [] branch writes none = refl
  taken_free (e ∷ es) branch writes none =
      ap (λ b. cond b (record (lock_of e.1) { writes = e.1.writes || writes } ∷ locks_in es) (lock_of e.1 ∷ taken (locks_in es) branch table key writes)) none.0
      ∙ ap (λ (ls : List Lock). lock_of e.1 ∷ ls) (taken_free es branch writes none.1)

  found_none : (n : ℕ) (x : Numbered) (es : List Numbered) → HasNone n es → find (is_on table key) es ≡ Some x → is_number n x.0 ≡ false
  found_none n x [] none h = absurd cc
  found_none n x (e ∷ es) none h = by (is_on table key e) h (found_none n x es none.1)
    where
      by : (b : Bool) → cond b (Some e) (find (is_on table key) es) ≡ Some x → (find (is_on table key) es ≡ Some x → is_number n x.0 ≡ false) → is_number n x.0 ≡ false
      by true h rest = let same : e ≡ x = cc in ap (λ (y : Numbered). is_number n y.0) (sym same) ∙ none.0
      by false h rest = rest h

  pub taken_read : (x : Numbered) (es : List Numbered) (branch : BranchId) → find (is_on table key) es ≡ Some x
      → taken (locks_in es) branch table key false ≡ locks_in es
  taken_read x [] branch h = absurd cc
  taken_read x (e ∷ es) branch h = by (is_on table key e) h (taken_read x es branch)
    where
      by : (b : Bool) → cond b (Some e) (find (is_on table key) es) ≡ Some x
          → (find (is_on table key) es ≡ Some x → taken (locks_in es) branch table key false ≡ locks_in es)
          → cond b (record (lock_of e.1) { writes = e.1.writes || false } ∷ locks_in es) (lock_of e.1 ∷ taken (locks_in es) branch table key false) ≡ locks_in (e ∷ es)
      by true h rest = λ i. record (lock_of e.1) { writes = or_false e.1.writes i } ∷ locks_in es
      by false h rest = ap (λ (ls : List Lock). lock_of e.1 ∷ ls) (rest h)

  number_apart : (n : ℕ) (x e : Numbered) (es : List Numbered) → HasNone e.0 es → find (is_on table key) es ≡ Some x → x.0 ≡ n → is_number n e.0 ≡ false
  number_apart n x e es none h is = ap (λ m. is_number m e.0) (sym is) ∙ number_flips x.0 e.0 ∙ found_none e.0 x es none h

  taken_step : (n : ℕ) (x e : Numbered) (es : List Numbered) (branch : BranchId) (b : Bool) → HasNone e.0 es → cond b (Some e) (find (is_on table key) es) ≡ Some x
      → x.0 ≡ n
      → (find (is_on table key) es ≡ Some x → taken (locks_in es) branch table key true ≡ locks_in (changed_at written (n ∷ []) es))
      → cond b (record (lock_of e.1) { writes = e.1.writes || true } ∷ locks_in es) (lock_of e.1 ∷ taken (locks_in es) branch table key true)
      ≡ lock_of (cond (is_number n e.0) (e.0, written e.1) e).1 ∷ locks_in (changed_at written (n ∷ []) es)
  taken_step n x e es branch true none h is rest =
      let same : e ≡ x = cc in
      let number : e.0 ≡ n = ap (λ (y : Numbered). y.0) same ∙ is in
      let hit = ap (λ m. is_number m e.0) (sym number) ∙ number_itself e.0 in
      (λ i. record (lock_of e.1) { writes = or_true e.1.writes i } ∷ locks_in es)
      ∙ (λ i. lock_of (cond (sym hit i) (e.0, written e.1) e).1 ∷ locks_in (sym (none_changed written e.0 es none) i))
      ∙ ap (λ m. lock_of (cond (is_number n e.0) (e.0, written e.1) e).1 ∷ locks_in (changed_at written (m ∷ []) es)) number
  taken_step n x e es branch false none h is rest =
      let miss = number_apart n x e es none h is in
      (λ i. lock_of (cond (sym miss i) (e.0, written e.1) e).1 ∷ rest h i)

  pub taken_own : (n : ℕ) (x : Numbered) (es : List Numbered) (branch : BranchId) → HaveOwnNumbers es → find (is_on table key) es ≡ Some x → x.0 ≡ n
      → taken (locks_in es) branch table key true ≡ locks_in (changed_at written (n ∷ []) es)
  taken_own n x [] branch own h is = absurd cc
  taken_own n x (e ∷ es) branch own h is =
      taken_step n x e es branch (is_on table key e) own.0 h is (λ found. taken_own n x es branch own.1 found is)
      ∙ ap (λ b. lock_of (cond b (e.0, written e.1) e).1 ∷ locks_in (changed_at written (n ∷ []) es)) (sym (or_false (is_number n e.0)))

-- ---- what the locks of a table are

keys_step : (b : Bool) (e : Numbered) (xs : List Numbered) (ls : List Lock) → map (λ x. x.1.key) xs ≡ map (λ l. l.key) ls
    → map (λ x. x.1.key) (cond b (e ∷ xs) xs) ≡ map (λ l. l.key) (cond b (lock_of e.1 ∷ ls) ls)
keys_step true e xs ls is = ap (λ (ks : List Value). e.1.key ∷ ks) is
keys_step false e xs ls is = is

pub keys_are : (table : List ℕ) (es : List Numbered) → map (λ e. e.1.key) (filter (λ e. bytes_eq e.1.table table) es) ≡ keys_held (locks_in es) table
keys_are table [] = refl
keys_are table (e ∷ es) = keys_step (bytes_eq e.1.table table) e (filter (λ x. bytes_eq x.1.table table) es) _ (keys_are table es)
