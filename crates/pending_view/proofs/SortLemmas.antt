-- A stable sort by the order of branches gives what putting the items in one after the other gives: both are in order,
-- both leave items that tie as they stood, and only one list does both.
use Rattle.std.proofs.Common.{◌≡◌, ◌≤◌, ◌<◌, ℕ, suc, Bool, true, false, not, ◌&&◌, ◌||◌, ◌==◌, nat_lt, cond, List, [], ◌∷◌, ◌++◌, length, get_or, filter, fold, refl, sym, ap, ◌∙◌, true≢false, arith}
use Rattle.std.proofs.lemmas.Bool.Decides.{nat_tests}
use Rattle.std.specs.Cmp.{IsStrictWeakOrder, IsTotalOrder, nat_cmp_total, on_total, ranks, then_total}
use Rattle.std.specs.declared.cmp.Ordering.{Ordering}
use Rattle.std.specs.declared.cmp.Ordering.TheVariants.{Less, Equal, Greater}
use Rattle.std.specs.Ordering.{MatchOrdering, is_lt, nat_cmp, ordering_then}
use Rattle.std.specs.List.Sorted.{IsSortedBy, IsStableBy, ties}
use Rattle.std.proofs.lemmas.List.{append_assoc, append-nil}
use Rattle.std.proofs.lemmas.List.Sorted.{sorted_far}
use Rattle.tran_ids.specs.declared.branch.BranchId.{BranchId}
use Rattle.tran_ids.specs.Branch.{branch_below, put_by_branch}
use Rattle.pending_view.specs.Order.{place_of}

not_self : (b : Bool) → (b ≡ true → b ≡ false) → b ≡ false
not_self true h = h refl
not_self false h = refl

true_unless : (b : Bool) → (b ≡ false → ⊥) → b ≡ true
true_unless true h = refl
true_unless false h = absurd (h refl)

not_both : (b c : Bool) → (b ≡ false → ⊥) → (not b && c) ≡ false
not_both true c h = refl
not_both false c h = absurd (h refl)

second_not : (a b : Bool) → (not a && not b) ≡ true → b ≡ false
second_not true b h = absurd (true≢false (sym h))
second_not false true h = absurd (true≢false (sym h))
second_not false false h = refl

module _ {X : Type 0} where
  kept_first : (p : X → Bool) (y : X) (ys : List X) → p y ≡ true → filter p (y ∷ ys) ≡ y ∷ filter p ys
  kept_first p y ys h = ap (λ b. cond b (y ∷ filter p ys) (filter p ys)) h

  heads_same : (p : X → Bool) (y z : X) (ys zs : List X) → p y ≡ true → p z ≡ true → filter p (y ∷ ys) ≡ filter p (z ∷ zs) → y ≡ z
  heads_same p y z ys zs a b e = let both : y ∷ filter p ys ≡ z ∷ filter p zs = sym (kept_first p y ys a) ∙ e ∙ kept_first p z zs b in cc

  tail_step : (b c : Bool) (y z : X) (us bs : List X) → b ≡ c → cond b (y ∷ us) us ≡ cond c (z ∷ bs) bs → us ≡ bs
  tail_step true true y z us bs e h = cc
  tail_step true false y z us bs e h = absurd (true≢false e)
  tail_step false true y z us bs e h = absurd (true≢false (sym e))
  tail_step false false y z us bs e h = h

  tails_same : (p : X → Bool) (y z : X) (ys zs : List X) → y ≡ z → filter p (y ∷ ys) ≡ filter p (z ∷ zs) → filter p ys ≡ filter p zs
  tails_same p y z ys zs e h = tail_step (p y) (p z) y z (filter p ys) (filter p zs) (ap p e) h

  cons_kept : (b : Bool) (y : X) (us bs cs : List X) → us ≡ bs ++ cs → cond b (y ∷ us) us ≡ cond b (y ∷ bs) bs ++ cs
  cons_kept true y us bs cs e = ap (λ l. y ∷ l) e
  cons_kept false y us bs cs e = e

  front_kept : (b : Bool) (x : X) (us : List X) → (b ≡ true → us ≡ []) → cond b (x ∷ us) us ≡ us ++ cond b (x ∷ []) []
  front_kept true x us h = ap (λ l. x ∷ l) (h refl) ∙ sym (ap (λ l. l ++ x ∷ []) (h refl))
  front_kept false x us h = sym (append-nil us)

  one_in_front : (b : Bool) (x : X) (us : List X) → cond b (x ∷ []) [] ++ us ≡ cond b (x ∷ us) us
  one_in_front true x us = refl
  one_in_front false x us = refl

module _ {X : Type 0} (lt : X → X → Bool) where
  -- one more item at its place
  abbrev put : List X → X → List X
  put [] x = x ∷ []
  put (y ∷ ys) x = cond (lt x y) (x ∷ y ∷ ys) (y ∷ put ys x)

  -- no item is below x
  abbrev NoneBelow : X → List X → Type 0
  NoneBelow x [] = Unit {0}
  NoneBelow x (y ∷ ys) = (lt y x ≡ false) × NoneBelow x ys

  -- no item is below one in front of it
  abbrev IsUp : List X → Type 0
  IsUp [] = Unit {0}
  IsUp (x ∷ xs) = NoneBelow x xs × IsUp xs

  none_below : (x : X) (ys : List X) → ((k : ℕ) → k < length ys → lt (get_or ys k x) x ≡ false) → NoneBelow x ys
  none_below x [] h = tt
  none_below x (y ∷ ys) h = (h 0 (omega arith), none_below x ys (λ k p. h (suc k) (omega arith)))

  up_of : (xs : List X) → ((i j : ℕ) (d : X) → i ≤ j → j < length xs → lt (get_or xs j d) (get_or xs i d) ≡ false) → IsUp xs
  up_of [] h = tt
  up_of (x ∷ xs) h = (none_below x xs (λ k p. h 0 (suc k) x (omega arith) (omega arith)), up_of xs (λ i j d p q. h (suc i) (suc j) d (omega arith) (omega arith)))

  none_step : (b : Bool) (y x z : X) (ys more : List X) → lt x y ≡ false → lt z y ≡ false → NoneBelow y ys → NoneBelow y more → NoneBelow y (cond b (x ∷ z ∷ ys) (z ∷ more))
  none_step true y x z ys more h k u m = (h, (k, u))
  none_step false y x z ys more h k u m = (k, m)

  none_put : (y x : X) (ys : List X) → NoneBelow y ys → lt x y ≡ false → NoneBelow y (put ys x)
  none_put y x [] u h = (h, tt)
  none_put y x (z ∷ ys) u h = none_step (lt x z) y x z ys (put ys x) h u.0 u.1 (none_put y x ys u.1 h)

  kept_step : (p : X → Bool) (b : Bool) (x y z : X) (zs rest : List X) → lt z y ≡ false → (x ∷ rest ≡ filter p zs → lt x y ≡ false)
      → x ∷ rest ≡ cond b (z ∷ filter p zs) (filter p zs) → lt x y ≡ false
  kept_step p true x y z zs rest up more e = let same : x ≡ z = cc in ap (λ w. lt w y) same ∙ up
  kept_step p false x y z zs rest up more e = more e

  -- what a filter keeps first is not below y, where nothing is
  kept_above : (p : X → Bool) (x y : X) (zs rest : List X) → NoneBelow y zs → x ∷ rest ≡ filter p zs → lt x y ≡ false
  kept_above p x y [] rest up e = absurd cc
  kept_above p x y (z ∷ zs) rest up e = kept_step p (p z) x y z zs rest up.0 (kept_above p x y zs rest up.1) e

  ties_from : (y z : X) → lt y z ≡ false → lt z y ≡ false → ties lt y z ≡ true
  ties_from y z a b = λ i. not (a i) && not (b i)

  module _ (o : IsStrictWeakOrder lt) where
    below_self : (x : X) → lt x x ≡ false
    below_self x = not_self (lt x x) (o.one_way x x)

    ties_self : (x : X) → ties lt x x ≡ true
    ties_self x = ties_from x x (below_self x) (below_self x)

    not_below : (y z : X) (ys zs : List X) → NoneBelow z zs → filter (ties lt y) (y ∷ ys) ≡ filter (ties lt y) (z ∷ zs) → lt y z ≡ false
    not_below y z ys zs up e = kept_above (ties lt y) y z (z ∷ zs) (filter (ties lt y) ys) (below_self z, up) (sym (kept_first (ties lt y) y ys (ties_self y)) ∙ e)

    -- two lists in order that leave the same items tied, in the same order, are the same
    one_order : (ys zs : List X) → IsUp ys → IsUp zs → ((x : X) → filter (ties lt x) ys ≡ filter (ties lt x) zs) → ys ≡ zs
    one_order [] [] u v h = refl
    one_order [] (z ∷ zs) u v h = let e : [] ≡ z ∷ filter (ties lt z) zs = h z ∙ kept_first (ties lt z) z zs (ties_self z) in absurd cc
    one_order (y ∷ ys) [] u v h = let e : y ∷ filter (ties lt y) ys ≡ [] = sym (kept_first (ties lt y) y ys (ties_self y)) ∙ h y in absurd cc
    one_order (y ∷ ys) (z ∷ zs) u v h =
        let a = not_below y z ys zs v.0 (h y) in
        let b = not_below z y zs ys u.0 (sym (h z)) in
        let first : y ≡ z = heads_same (ties lt y) y z ys zs (ties_self y) (ties_from y z a b) (h y) in
        let rest : ys ≡ zs = one_order ys zs u.1 v.1 (λ x. tails_same (ties lt x) y z ys zs first (h x)) in
        λ i. first i ∷ rest i

    none_past : (x y : X) (ys : List X) → lt y x ≡ false → NoneBelow y ys → NoneBelow x ys
    none_past x y [] h u = tt
    none_past x y (z ∷ ys) h u = (o.chain z y x u.0 h, none_past x y ys h u.1)

    up_step : (b : Bool) (x y : X) (ys : List X) → lt x y ≡ b → NoneBelow y ys → IsUp ys → IsUp (put ys x) → IsUp (cond b (x ∷ y ∷ ys) (y ∷ put ys x))
    up_step true x y ys e u v w = let h = o.one_way x y e in ((h, none_past x y ys h u), (u, v))
    up_step false x y ys e u v w = (none_put y x ys u e, w)

    up_put : (x : X) (ys : List X) → IsUp ys → IsUp (put ys x)
    up_put x [] u = (tt, tt)
    up_put x (y ∷ ys) u = up_step (lt x y) x y ys refl u.0 u.1 (up_put x ys u.1)

    not_tied : (w x z : X) → ties lt w x ≡ true → lt x z ≡ true → ties lt w z ≡ false
    not_tied w x z t e = not_both (lt w z) (not (lt z w)) (λ f. true≢false (sym e ∙ o.chain x w z (second_not (lt w x) (lt x w) t) f))

    below_rest : (x y z : X) → lt x y ≡ true → lt z y ≡ false → lt x z ≡ true
    below_rest x y z e u = true_unless (lt x z) (λ f. true≢false (sym e ∙ o.chain x z y f u))

    -- nothing behind the place of x ties with it
    none_tied : (w x y : X) (ys : List X) → ties lt w x ≡ true → lt x y ≡ true → NoneBelow y ys → filter (ties lt w) ys ≡ []
    none_tied w x y [] t e u = refl
    none_tied w x y (z ∷ ys) t e u =
        ap (λ b. cond b (z ∷ filter (ties lt w) ys) (filter (ties lt w) ys)) (not_tied w x z t (below_rest x y z e u.0)) ∙ none_tied w x y ys t e u.1

    put_step : (b : Bool) (w x y : X) (ys : List X) → lt x y ≡ b → NoneBelow y ys
        → filter (ties lt w) (put ys x) ≡ filter (ties lt w) ys ++ filter (ties lt w) (x ∷ [])
        → filter (ties lt w) (cond b (x ∷ y ∷ ys) (y ∷ put ys x)) ≡ filter (ties lt w) (y ∷ ys) ++ filter (ties lt w) (x ∷ [])
    put_step true w x y ys e u h = front_kept (ties lt w x) x (filter (ties lt w) (y ∷ ys)) (λ t. none_tied w x y (y ∷ ys) t e (below_self y, u))
    put_step false w x y ys e u h = cons_kept (ties lt w y) y (filter (ties lt w) (put ys x)) (filter (ties lt w) ys) (filter (ties lt w) (x ∷ [])) h

    kept_put : (w x : X) (ys : List X) → IsUp ys → filter (ties lt w) (put ys x) ≡ filter (ties lt w) ys ++ filter (ties lt w) (x ∷ [])
    kept_put w x [] u = refl
    kept_put w x (y ∷ ys) u = put_step (lt x y) w x y ys refl u.0 (kept_put w x ys u.1)

    up_fold : (ys xs : List X) → IsUp ys → IsUp (fold put ys xs)
    up_fold ys [] u = u
    up_fold ys (x ∷ xs) u = up_fold (put ys x) xs (up_put x ys u)

    kept_fold : (w : X) (ys xs : List X) → IsUp ys → filter (ties lt w) (fold put ys xs) ≡ filter (ties lt w) ys ++ filter (ties lt w) xs
    kept_fold w ys [] u = sym (append-nil (filter (ties lt w) ys))
    kept_fold w ys (x ∷ xs) u =
        kept_fold w (put ys x) xs (up_put x ys u)
        ∙ ap (λ l. l ++ filter (ties lt w) xs) (kept_put w x ys u)
        ∙ append_assoc (filter (ties lt w) ys) (filter (ties lt w) (x ∷ [])) (filter (ties lt w) xs)
        ∙ ap (λ l. filter (ties lt w) ys ++ l) (one_in_front (ties lt w x) x (filter (ties lt w) xs))

    -- a stable sort puts the items in one after the other
    sorted_is : (xs ys : List X) → IsSortedBy lt ys → IsStableBy lt xs ys → ys ≡ fold put [] xs
    sorted_is xs ys up stable = one_order ys (fold put [] xs) (up_of ys (sorted_far lt o ys up)) (up_fold [] xs tt) (λ w. stable w ∙ sym (kept_fold w [] xs tt))

module _ {X : Type 0} (id : X → BranchId) (lt : X → X → Bool) (same : (x y : X) → lt x y ≡ branch_below (id x) (id y)) where
  put_is : (ys : List X) (x : X) → put lt ys x ≡ put_by_branch id ys x
  put_is [] x = refl
  put_is (y ∷ ys) x = λ i. cond (same x y i) (x ∷ y ∷ ys) (y ∷ put_is ys x i)

  -- a stable sort by branch
  pub sorted_by_branch : IsStrictWeakOrder lt → (xs ys : List X) → IsSortedBy lt ys → IsStableBy lt xs ys → ys ≡ fold (put_by_branch id) [] xs
  sorted_by_branch o xs ys up stable = sorted_is lt o xs ys up stable ∙ ap (λ f. fold f [] xs) (λ i ys x. put_is ys x i)

then_first : (a b c : Ordering) → ordering_then (ordering_then a b) c ≡ ordering_then a (ordering_then b c)
then_first Less b c = refl
then_first Equal b c = refl
then_first Greater b c = refl

-- one comparison, and where it ties the next
then_below : (first next : Ordering) (a b : ℕ) (below : Bool) → MatchOrdering first (a < b) (a ≡ b) (b < a) → is_lt next ≡ below
    → is_lt (ordering_then first next) ≡ (nat_lt a b || ((a == b) && below))
then_below Less next a b below h e = grind (arith, nat_tests)
then_below Equal next a b below h e = grind (arith, nat_tests)
then_below Greater next a b below h e = grind (arith, nat_tests)

last_below : (last : Ordering) (a b : ℕ) → MatchOrdering last (a < b) (a ≡ b) (b < a) → is_lt last ≡ nat_lt a b
last_below Less a b h = grind (arith, nat_tests)
last_below Equal a b h = grind (arith, nat_tests)
last_below Greater a b h = grind (arith, nat_tests)

-- the comparison of places, as tuples are compared
abbrev pub place_cmp : ℕ × ℕ × ℕ → ℕ × ℕ × ℕ → Ordering
place_cmp x y = ordering_then (ordering_then (nat_cmp x.0 y.0) (nat_cmp x.1 y.1)) (nat_cmp x.2 y.2)

pub place_total : IsTotalOrder place_cmp
place_total = then_total (then_total (on_total (λ t. t.0) nat_cmp_total) (on_total (λ t. t.1) nat_cmp_total)) (on_total (λ t. t.2) nat_cmp_total)

-- places are compared as the branches are
pub place_below : (a b : BranchId) → is_lt (place_cmp (place_of a) (place_of b)) ≡ branch_below a b
place_below a b =
    ap is_lt (then_first (nat_cmp a.boot b.boot) (nat_cmp a.session b.session) (nat_cmp a.seq b.seq))
    ∙ then_below (nat_cmp a.boot b.boot) (ordering_then (nat_cmp a.session b.session) (nat_cmp a.seq b.seq)) a.boot b.boot _ (ranks a.boot b.boot)
    (then_below (nat_cmp a.session b.session) (nat_cmp a.seq b.seq) a.session b.session _ (ranks a.session b.session) (last_below (nat_cmp a.seq b.seq) a.seq b.seq (ranks a.seq b.seq)))
