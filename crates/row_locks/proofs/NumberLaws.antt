-- Numbers of locks: a look-up by a number, locks that are dropped or changed by their numbers.
use Rattle.std.proofs.Common.{◌≡◌, ℕ, ◌<◌, Bool, true, false, cond, not, ◌||◌, List, [], ◌∷◌, ◌++◌, filter, None, Some, Option, refl, sym, ap, subst, ◌∙◌, arith, true≢false}
use Rattle.std.proofs.lemmas.Cmp.{nat_cmp_total, tied_itself, ranked, eq_by_cmp_equiv}
use Rattle.std.proofs.lemmas.Map.Lookups.{exact_unsigned}
use Rattle.std.specs.BTreeMap.{insert_entry}
use Rattle.std.specs.declared.cmp.Ordering.{Ordering}
use Rattle.std.specs.declared.cmp.Ordering.TheVariants.{Less, Equal, Greater}
use Rattle.std.specs.List.{AllByRecursion}
use Rattle.std.specs.List.Sorted.{IsStrictlySortedBy}
use Rattle.std.specs.Map.{lookup, keys_of, remove_entry, set_value}
use Rattle.std.specs.Ordering.{is_eq, nat_cmp, match_ordering, MatchOrdering}
use Rattle.row_locks.specs.declared.held_key.HeldKey.{HeldKey}
use Rattle.row_locks.specs.Numbered.{Numbered, is_number, is_among, is_read_one, without_numbers, without_read_numbers, changed_at, HasNone, HaveOwnNumbers}

-- ---- two numbers

pub number_itself : (n : ℕ) → is_number n n ≡ true
number_itself n = ap is_eq (tied_itself nat_cmp_total n)

equal_from : (o : Ordering) → is_eq o ≡ true → o ≡ Equal
equal_from Less h = absurd (true≢false (sym h))
equal_from Equal h = refl
equal_from Greater h = absurd (true≢false (sym h))

pub number_is : (n m : ℕ) → is_number n m ≡ true → n ≡ m
number_is n m h = exact_unsigned n m (equal_from (nat_cmp n m) h)

pub number_flips : (n m : ℕ) → is_number n m ≡ is_number m n
number_flips n m = (eq_by_cmp_equiv nat_cmp_total).symm n m

above_step : (n m : ℕ) (o : Ordering) → MatchOrdering o (n < m) (n ≡ m) (m < n) → m < n → o ≡ Greater
above_step n m Less r h = absurd (omega arith)
above_step n m Equal r h = absurd (omega arith)
above_step n m Greater r h = refl

above : (n m : ℕ) → m < n → nat_cmp n m ≡ Greater
above n m h = above_step n m (nat_cmp n m) (ranked n m (nat_cmp n m) refl) h

or_false : (b : Bool) → (b || false) ≡ b
or_false true = refl
or_false false = refl

-- ---- locks with numbers of their own

none_from : (n : ℕ) (es : List Numbered) → AllByRecursion (λ y. nat_cmp n y ≡ Less) (keys_of es) → HasNone n es
none_from n [] h = tt
none_from n (e ∷ es) h = (ap is_eq h.0, none_from n es h.1)

-- numbers that rise are apart
pub own_from_order : (es : List Numbered) → IsStrictlySortedBy nat_cmp (keys_of es) → HaveOwnNumbers es
unfolding IsStrictlySortedBy
own_from_order [] h = tt
own_from_order (e ∷ es) h = (none_from e.0 es h.0, own_from_order es h.1)

-- a number above all others goes last
pub insert_last : (n : ℕ) (h : HeldKey) (es : List Numbered) → AllByRecursion (λ e. e.0 < n) es → insert_entry nat_cmp es n h ≡ es ++ (n, h) ∷ []
insert_last n h [] below = refl
insert_last n h (e ∷ es) below =
    ap (λ o. match_ordering o ((n, h) ∷ e ∷ es) ((e.0, h) ∷ es) (e ∷ insert_entry nat_cmp es n h)) (above n e.0 below.0)
    ∙ ap (λ (xs : List Numbered). e ∷ xs) (insert_last n h es below.1)

pub none_above : (n : ℕ) (es : List Numbered) → AllByRecursion (λ e. e.0 < n) es → HasNone n es
none_above n [] below = tt
none_above n (e ∷ es) below = (ap is_eq (above n e.0 below.0), none_above n es below.1)

pub missed : (n : ℕ) (es : List Numbered) → HasNone n es → lookup (is_number n) es ≡ None
missed n [] none = refl
missed n (e ∷ es) none = ap (λ b. cond b (Some e.1) (lookup (is_number n) es)) none.0 ∙ missed n es none.1

none_step : (n : ℕ) (e : Numbered) (more : Option HeldKey) (b : Bool) → is_number n e.0 ≡ b → cond b (Some e.1) more ≡ None → (is_number n e.0 ≡ false) × (more ≡ None)
none_step n e more true is h = absurd cc
none_step n e more false is h = (is, h)

pub none_there : (n : ℕ) (es : List Numbered) → lookup (is_number n) es ≡ None → HasNone n es
none_there n [] h = tt
none_there n (e ∷ es) h =
    let s = none_step n e (lookup (is_number n) es) (is_number n e.0) refl h in
    (s.0, none_there n es s.1)

-- ---- one lock is dropped

pub among_one : (n m : ℕ) → is_among (n ∷ []) m ≡ is_number n m
among_one n m = or_false (is_number n m)

pub none_dropped : (n : ℕ) (es : List Numbered) → HasNone n es → without_numbers (n ∷ []) es ≡ es
none_dropped n [] none = refl
none_dropped n (e ∷ es) none =
    ap (λ b. cond (not b) (e ∷ without_numbers (n ∷ []) es) (without_numbers (n ∷ []) es)) (among_one n e.0 ∙ none.0)
    ∙ ap (λ (xs : List Numbered). e ∷ xs) (none_dropped n es none.1)

same_none : (n m : ℕ) (es : List Numbered) → is_number n m ≡ true → HasNone m es → HasNone n es
same_none n m es is none = subst (λ k. HasNone k es) (sym (number_is n m is)) none

removed_step : (n : ℕ) (e : Numbered) (es : List Numbered) (b : Bool) → is_number n e.0 ≡ b → HasNone e.0 es → remove_entry (is_number n) es ≡ without_numbers (n ∷ []) es
    → cond b es (e ∷ remove_entry (is_number n) es) ≡ cond (not b) (e ∷ without_numbers (n ∷ []) es) (without_numbers (n ∷ []) es)
removed_step n e es true is none rest = sym (none_dropped n es (same_none n e.0 es is none))
removed_step n e es false is none rest = ap (λ (xs : List Numbered). e ∷ xs) rest

pub removed : (n : ℕ) (es : List Numbered) → HaveOwnNumbers es → remove_entry (is_number n) es ≡ without_numbers (n ∷ []) es
removed n [] own = refl
removed n (e ∷ es) own =
    removed_step n e es (is_number n e.0) refl own.0 (removed n es own.1)
    ∙ ap (λ b. cond (not b) (e ∷ without_numbers (n ∷ []) es) (without_numbers (n ∷ []) es)) (sym (among_one n e.0))

-- ---- locks are dropped one after the other

or_assoc : (a b c : Bool) → (a || (b || c)) ≡ ((a || b) || c)
or_assoc true b c = refl
or_assoc false b c = refl

among_more : (ms : List ℕ) (n m : ℕ) → is_among (ms ++ n ∷ []) m ≡ (is_among ms m || is_number n m)
among_more [] n m = or_false (is_number n m)
among_more (k ∷ ms) n m = ap (λ b. is_number k m || b) (among_more ms n m) ∙ or_assoc (is_number k m) (is_among ms m) (is_number n m)

without_step : (a b : Bool) (n : ℕ) (e : Numbered) (xs ys : List Numbered) → is_number n e.0 ≡ b → without_numbers (n ∷ []) xs ≡ ys
    → without_numbers (n ∷ []) (cond (not a) (e ∷ xs) xs) ≡ cond (not (a || b)) (e ∷ ys) ys
without_step true b n e xs ys is rest = rest
without_step false b n e xs ys is rest = (λ i. cond (not ((among_one n e.0 ∙ is) i)) (e ∷ rest i) (rest i))

pub without_more : (ms : List ℕ) (n : ℕ) (es : List Numbered) → without_numbers (n ∷ []) (without_numbers ms es) ≡ without_numbers (ms ++ n ∷ []) es
without_more ms n [] = refl
without_more ms n (e ∷ es) =
    let ys = without_numbers (ms ++ n ∷ []) es in
    without_step (is_among ms e.0) (is_number n e.0) n e (without_numbers ms es) ys refl (without_more ms n es)
    ∙ ap (λ c. cond (not c) (e ∷ ys) ys) (sym (among_more ms n e.0))

pub all_left : (es : List Numbered) → without_numbers [] es ≡ es
all_left [] = refl
all_left (e ∷ es) = ap (λ (xs : List Numbered). e ∷ xs) (all_left es)

reads_step : (a b w : Bool) (n : ℕ) (e : Numbered) (xs ys : List Numbered) → is_number n e.0 ≡ b → e.1.writes ≡ w → without_read_numbers (n ∷ []) xs ≡ ys
    → without_read_numbers (n ∷ []) (cond (not a || w) (e ∷ xs) xs) ≡ cond (not (a || b) || w) (e ∷ ys) ys
reads_step false b w n e xs ys is writes rest = (λ i. cond (not ((among_one n e.0 ∙ is) i) || writes i) (e ∷ rest i) (rest i))
reads_step true true true n e xs ys is writes rest = (λ i. cond (not ((among_one n e.0 ∙ is) i) || writes i) (e ∷ rest i) (rest i))
reads_step true false true n e xs ys is writes rest = (λ i. cond (not ((among_one n e.0 ∙ is) i) || writes i) (e ∷ rest i) (rest i))
reads_step true b false n e xs ys is writes rest = rest

pub reads_more : (ms : List ℕ) (n : ℕ) (es : List Numbered) → without_read_numbers (n ∷ []) (without_read_numbers ms es) ≡ without_read_numbers (ms ++ n ∷ []) es
reads_more ms n [] = refl
reads_more ms n (e ∷ es) =
    let ys = without_read_numbers (ms ++ n ∷ []) es in
    reads_step (is_among ms e.0) (is_number n e.0) e.1.writes n e (without_read_numbers ms es) ys refl refl (reads_more ms n es)
    ∙ ap (λ c. cond (not c || e.1.writes) (e ∷ ys) ys) (sym (among_more ms n e.0))

pub all_reads_left : (es : List Numbered) → without_read_numbers [] es ≡ es
all_reads_left [] = refl
all_reads_left (e ∷ es) = ap (λ (xs : List Numbered). e ∷ xs) (all_reads_left es)

-- ---- a lock is dropped where its key is only read

none_read : (n : ℕ) (es : List Numbered) → HasNone n es → without_read_numbers (n ∷ []) es ≡ es
none_read n [] none = refl
none_read n (e ∷ es) none =
    (λ i. cond (not ((among_one n e.0 ∙ none.0) i) || e.1.writes) (e ∷ none_read n es none.1 i) (none_read n es none.1 i))

not_true : (b : Bool) → not b ≡ true → b ≡ false
not_true true h = absurd (true≢false (sym h))
not_true false h = refl

not_false : (b : Bool) → not b ≡ false → b ≡ true
not_false true h = refl
not_false false h = absurd (true≢false h)

pub read_removed : (n : ℕ) (es : List Numbered) → HaveOwnNumbers es → is_read_one (lookup (is_number n) es) ≡ true → without_numbers (n ∷ []) es ≡ without_read_numbers (n ∷ []) es
read_removed n [] own read = refl
read_removed n (e ∷ es) own read = by (is_number n e.0) refl read (read_removed n es own.1)
  where
    by : (b : Bool) → is_number n e.0 ≡ b → is_read_one (cond b (Some e.1) (lookup (is_number n) es)) ≡ true
        → (is_read_one (lookup (is_number n) es) ≡ true → without_numbers (n ∷ []) es ≡ without_read_numbers (n ∷ []) es)
        → without_numbers (n ∷ []) (e ∷ es) ≡ without_read_numbers (n ∷ []) (e ∷ es)
    by true is h rest =
        let none = same_none n e.0 es is own.0 in
        (λ i. cond (not ((among_one n e.0 ∙ is) i)) (e ∷ none_dropped n es none i) (none_dropped n es none i))
        ∙ (λ i. cond (not (sym (among_one n e.0 ∙ is) i) || sym (not_true e.1.writes h) i) (e ∷ sym (none_read n es none) i) (sym (none_read n es none) i))
    by false is h rest =
        (λ i. cond (not ((among_one n e.0 ∙ is) i)) (e ∷ rest h i) (rest h i))
        ∙ (λ i. cond (not (sym (among_one n e.0 ∙ is) i) || e.1.writes) (e ∷ without_read_numbers (n ∷ []) es) (without_read_numbers (n ∷ []) es))

pub read_kept : (n : ℕ) (es : List Numbered) → HaveOwnNumbers es → is_read_one (lookup (is_number n) es) ≡ false → without_read_numbers (n ∷ []) es ≡ es
read_kept n [] own read = refl
read_kept n (e ∷ es) own read = by (is_number n e.0) refl read (read_kept n es own.1)
  where
    by : (b : Bool) → is_number n e.0 ≡ b → is_read_one (cond b (Some e.1) (lookup (is_number n) es)) ≡ false
        → (is_read_one (lookup (is_number n) es) ≡ false → without_read_numbers (n ∷ []) es ≡ es) → without_read_numbers (n ∷ []) (e ∷ es) ≡ e ∷ es
    by true is h more =
        let rest = none_read n es (same_none n e.0 es is own.0) in
        (λ i. cond (not ((among_one n e.0 ∙ is) i) || not_false e.1.writes h i) (e ∷ rest i) (rest i))
    by false is h more = (λ i. cond (not ((among_one n e.0 ∙ is) i) || e.1.writes) (e ∷ more h i) (more h i))

-- ---- a lock that was added last is dropped again

last_apart : (n : ℕ) (h : HeldKey) (m : ℕ) (xs : List Numbered) → HasNone m (xs ++ (n, h) ∷ []) → is_number m n ≡ false
last_apart n h m [] none = none.0
last_apart n h m (x ∷ xs) none = last_apart n h m xs none.1

pub last_dropped : (n : ℕ) (h : HeldKey) (es : List Numbered) → HaveOwnNumbers (es ++ (n, h) ∷ []) → without_numbers (n ∷ []) (es ++ (n, h) ∷ []) ≡ es
last_dropped n h [] own = ap (λ b. cond (not b) ((n, h) ∷ []) []) (among_one n n ∙ number_itself n)
last_dropped n h (e ∷ es) own =
    let apart : is_number n e.0 ≡ false = number_flips n e.0 ∙ last_apart n h e.0 es own.0 in
    (λ i. cond (not ((among_one n e.0 ∙ apart) i)) (e ∷ last_dropped n h es own.1 i) (last_dropped n h es own.1 i))

-- ---- numbers stay apart

module _ (test : Numbered → Bool) where
  none_less : (n : ℕ) (es : List Numbered) → HasNone n es → HasNone n (filter test es)
  none_less n [] none = tt
  none_less n (e ∷ es) none = by (test e) (none_less n es none.1)
    where
      by : (b : Bool) → HasNone n (filter test es) → HasNone n (cond b (e ∷ filter test es) (filter test es))
      by true rest = (none.0, rest)
      by false rest = rest

  pub own_less : (es : List Numbered) → HaveOwnNumbers es → HaveOwnNumbers (filter test es)
  own_less [] own = tt
  own_less (e ∷ es) own = by (test e) (none_less e.0 es own.0) (own_less es own.1)
    where
      by : (b : Bool) → HasNone e.0 (filter test es) → HaveOwnNumbers (filter test es) → HaveOwnNumbers (cond b (e ∷ filter test es) (filter test es))
      by true first rest = (first, rest)
      by false first rest = rest

-- ---- one lock is changed

module _ (f : HeldKey → HeldKey) where
  pub none_changed : (n : ℕ) (es : List Numbered) → HasNone n es → changed_at f (n ∷ []) es ≡ es
  none_changed n [] none = refl
  none_changed n (e ∷ es) none =
      (λ i. cond ((among_one n e.0 ∙ none.0) i) (e.0, f e.1) e ∷ none_changed n es none.1 i)

  set_step : (n : ℕ) (h : HeldKey) (e : Numbered) (es : List Numbered) (b : Bool) → is_number n e.0 ≡ b → HasNone e.0 es
      → cond b (Some e.1) (lookup (is_number n) es) ≡ Some h
      → (lookup (is_number n) es ≡ Some h → set_value (is_number n) es (f h) ≡ changed_at f (n ∷ []) es)
      → cond b ((e.0, f h) ∷ es) (e ∷ set_value (is_number n) es (f h)) ≡ cond b (e.0, f e.1) e ∷ changed_at f (n ∷ []) es
  set_step n h e es true is none there rest =
      let this : e.1 ≡ h = cc in
      (λ i. (e.0, f (sym this i)) ∷ sym (none_changed n es (same_none n e.0 es is none)) i)
  set_step n h e es false is none there rest = ap (λ (xs : List Numbered). e ∷ xs) (rest there)

  pub set_is : (n : ℕ) (h : HeldKey) (es : List Numbered) → HaveOwnNumbers es → lookup (is_number n) es ≡ Some h
      → set_value (is_number n) es (f h) ≡ changed_at f (n ∷ []) es
  set_is n h [] own there = absurd cc
  set_is n h (e ∷ es) own there =
      set_step n h e es (is_number n e.0) refl own.0 there (set_is n h es own.1)
      ∙ ap (λ b. cond b (e.0, f e.1) e ∷ changed_at f (n ∷ []) es) (sym (among_one n e.0))

  -- ---- and one after the other

  change_step : (a b : Bool) (e : Numbered) → f (f e.1) ≡ f e.1
      → cond b ((cond a (e.0, f e.1) e).0, f (cond a (e.0, f e.1) e).1) (cond a (e.0, f e.1) e) ≡ cond (a || b) (e.0, f e.1) e
  change_step true true e twice = ap (λ (h : HeldKey). (e.0, h)) twice
  change_step true false e twice = refl
  change_step false true e twice = refl
  change_step false false e twice = refl

  same_number : (a : Bool) (e : Numbered) → (cond a (e.0, f e.1) e).0 ≡ e.0
  same_number true e = refl
  same_number false e = refl

  pub changed_more : ((h : HeldKey) → f (f h) ≡ f h) → (ms : List ℕ) (n : ℕ) (es : List Numbered)
      → changed_at f (n ∷ []) (changed_at f ms es) ≡ changed_at f (ms ++ n ∷ []) es
  changed_more twice ms n [] = refl
  changed_more twice ms n (e ∷ es) =
      let a = is_among ms e.0 in
      let now = among_one n (cond a (e.0, f e.1) e).0 ∙ ap (is_number n) (same_number a e) in
      (λ i. cond (now i) ((cond a (e.0, f e.1) e).0, f (cond a (e.0, f e.1) e).1) (cond a (e.0, f e.1) e) ∷ changed_more twice ms n es i)
      ∙ (λ i. change_step a (is_number n e.0) e (twice e.1) i ∷ changed_at f (ms ++ n ∷ []) es)
      ∙ (λ i. cond (sym (among_more ms n e.0) i) (e.0, f e.1) e ∷ changed_at f (ms ++ n ∷ []) es)

  pub unchanged : (es : List Numbered) → changed_at f [] es ≡ es
  unchanged [] = refl
  unchanged (e ∷ es) = ap (λ (xs : List Numbered). e ∷ xs) (unchanged es)

  none_now : (ms : List ℕ) (n : ℕ) (es : List Numbered) → HasNone n es → HasNone n (changed_at f ms es)
  none_now ms n [] none = tt
  none_now ms n (e ∷ es) none = (ap (is_number n) (same_number (is_among ms e.0) e) ∙ none.0, none_now ms n es none.1)

  pub own_changed : (ms : List ℕ) (es : List Numbered) → HaveOwnNumbers es → HaveOwnNumbers (changed_at f ms es)
  own_changed ms [] own = tt
  own_changed ms (e ∷ es) own =
      (subst (λ n. HasNone n (changed_at f ms es)) (sym (same_number (is_among ms e.0) e)) (none_now ms e.0 es own.0), own_changed ms es own.1)
