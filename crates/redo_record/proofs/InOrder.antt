-- Rows in the order of their branches: what comes before what, and which edits keep the order.
use Rattle.std.proofs.Common.{◌≡◌, ℕ, ◌≤◌, ◌<◌, zero, suc, Bool, true, false, cond, not, if◌then◌else◌, List, [], ◌∷◌, ◌++◌, map, filter, take, drop, set, get_or, slice_get, length, Some, refl, sym, ap, subst, ◌∙◌, arith}
use Rattle.std.proofs.lemmas.Bool.Decides.{nat_tests}
use Rattle.std.proofs.lemmas.List.Elements.{All-from_recursion}
use Rattle.std.specs.List.{AllByRecursion, remove}
use Rattle.tran_ids.specs.Branch.{same, branch_below, put_by_branch}
use Rattle.tran_ids.specs.declared.branch.BranchId.{BranchId}
use Rattle.tran_ids.proofs.BranchLemmas.{equal_from_same}
use Rattle.redo_record.specs.declared.durable.KeptRow.{KeptRow}
use Rattle.redo_record.specs.Order.{NoneBefore, AreInOrder}

-- ---- the order of branches

self_not_below : (a : BranchId) → branch_below a a ≡ false
self_not_below a = grind (arith, nat_tests)

below_one_way : (a b : BranchId) → branch_below a b ≡ true → branch_below b a ≡ false
below_one_way a b ab = grind (arith, nat_tests, ab)

not_below_far : (a b c : BranchId) → branch_below b a ≡ false → branch_below c b ≡ false → branch_below c a ≡ false
not_below_far a b c ab bc = grind (arith, nat_tests, ab, bc)

-- a branch before one comes before all behind that one
pub below_all_behind : (b a c : BranchId) → branch_below b a ≡ true → branch_below c a ≡ false → branch_below b c ≡ true
below_all_behind b a c ba ac = grind (arith, nat_tests, ba, ac)

-- and one in front of a branch that comes before another comes before it too
pub front_is_below : (a c b : BranchId) → branch_below c a ≡ false → branch_below c b ≡ true → branch_below a b ≡ true
front_is_below a c b ac cb = grind (arith, nat_tests, ac, cb)

-- a branch that does not come before another does not come before one in front of it
pub not_before_front : (b a c : BranchId) → branch_below c a ≡ false → not (branch_below b c) ≡ true → not (branch_below b a) ≡ true
not_before_front b a c ac bc = grind (arith, nat_tests, ac, bc)

-- ---- rows at places

pub none_before_at : (b : BranchId) (ks : List KeptRow) (i : ℕ) (d : KeptRow) → NoneBefore b ks → i < length ks → branch_below (get_or ks i d).me b ≡ false
none_before_at b ks i d none within = All-from_recursion (λ (s : KeptRow). branch_below s.me b ≡ false) ks none i d within

pub in_order_at : (ks : List KeptRow) → AreInOrder ks → (i j : ℕ) (d : KeptRow) → i ≤ j → j < length ks → branch_below (get_or ks j d).me (get_or ks i d).me ≡ false
in_order_at [] order i j d le lt = absurd (omega arith)
in_order_at (s ∷ ks) order zero zero d le lt = self_not_below s.me
in_order_at (s ∷ ks) order zero (suc j) d le lt = none_before_at s.me ks j d order.0 (omega arith)
in_order_at (s ∷ ks) order (suc i) zero d le lt = absurd (omega arith)
in_order_at (s ∷ ks) order (suc i) (suc j) d le lt = in_order_at ks order.1 i j d (omega arith) (omega arith)

-- ---- edits

none_before_further : (a b : BranchId) (ks : List KeptRow) → branch_below b a ≡ false → NoneBefore b ks → NoneBefore a ks
none_before_further a b [] ab none = tt
none_before_further a b (s ∷ ks) ab none = (not_below_far a b s.me ab none.0, none_before_further a b ks ab none.1)

-- a row put at its place

abbrev put_row : List KeptRow → KeptRow → List KeptRow
put_row ks x = put_by_branch (λ (y : KeptRow). y.me) ks x

none_put_if : (b : BranchId) (x s : KeptRow) (ks more : List KeptRow) (first : Bool) → branch_below x.me b ≡ false → NoneBefore b (s ∷ ks) → NoneBefore b more
    → NoneBefore b (if first then x ∷ s ∷ ks else s ∷ more)
none_put_if b x s ks more true bx none later = (bx, none)
none_put_if b x s ks more false bx none later = (none.0, later)

none_put : (b : BranchId) (x : KeptRow) (ks : List KeptRow) → branch_below x.me b ≡ false → NoneBefore b ks → NoneBefore b (put_row ks x)
none_put b x [] bx none = (bx, tt)
none_put b x (s ∷ ks) bx none = none_put_if b x s ks (put_row ks x) (branch_below x.me s.me) bx none (none_put b x ks bx none.1)

put_in_order_if : (x s : KeptRow) (ks : List KeptRow) (first : Bool) → branch_below x.me s.me ≡ first → AreInOrder (s ∷ ks) → AreInOrder (put_row ks x)
    → AreInOrder (if first then x ∷ s ∷ ks else s ∷ put_row ks x)
put_in_order_if x s ks true is order later =
    let sx = below_one_way x.me s.me is in
    ((sx, none_before_further x.me s.me ks sx order.0), order)
put_in_order_if x s ks false is order later = (none_put s.me x ks is order.0, later)

pub put_in_order : (ks : List KeptRow) (x : KeptRow) → AreInOrder ks → AreInOrder (put_row ks x)
put_in_order [] x order = (tt, tt)
put_in_order (s ∷ ks) x order = put_in_order_if x s ks (branch_below x.me s.me) refl order (put_in_order ks x order.1)

-- rows changed, each under its id

module _ (f : KeptRow → KeptRow) (keeps : (s : KeptRow) → (f s).me ≡ s.me) where
  none_map : (b : BranchId) (ks : List KeptRow) → NoneBefore b ks → NoneBefore b (map f ks)
  none_map b [] none = tt
  none_map b (s ∷ ks) none = (ap (λ a. branch_below a b) (keeps s) ∙ none.0, none_map b ks none.1)

  pub map_in_order : (ks : List KeptRow) → AreInOrder ks → AreInOrder (map f ks)
  map_in_order [] order = tt
  map_in_order (s ∷ ks) order = (subst (λ a. NoneBefore a (map f ks)) (sym (keeps s)) (none_map s.me ks order.0), map_in_order ks order.1)

-- rows that stay where others go

module _ (p : KeptRow → Bool) where
  none_filter_if : (b : BranchId) (s : KeptRow) (more : List KeptRow) (stays : Bool) → branch_below s.me b ≡ false → NoneBefore b more → NoneBefore b (cond stays (s ∷ more) more)
  none_filter_if b s more true bs later = (bs, later)
  none_filter_if b s more false bs later = later

  none_filter : (b : BranchId) (ks : List KeptRow) → NoneBefore b ks → NoneBefore b (filter p ks)
  none_filter b [] none = tt
  none_filter b (s ∷ ks) none = none_filter_if b s (filter p ks) (p s) none.0 (none_filter b ks none.1)

  filter_in_order_if : (s : KeptRow) (ks : List KeptRow) (stays : Bool) → NoneBefore s.me ks → AreInOrder (filter p ks) → AreInOrder (cond stays (s ∷ filter p ks) (filter p ks))
  filter_in_order_if s ks true none later = (none_filter s.me ks none, later)
  filter_in_order_if s ks false none later = later

  pub filter_in_order : (ks : List KeptRow) → AreInOrder ks → AreInOrder (filter p ks)
  filter_in_order [] order = tt
  filter_in_order (s ∷ ks) order = filter_in_order_if s ks (p s) order.0 (filter_in_order ks order.1)

-- one row taken out

none_remove : (b : BranchId) (ks : List KeptRow) (i : ℕ) → NoneBefore b ks → NoneBefore b (remove ks i)
none_remove b [] zero none = tt
none_remove b [] (suc i) none = tt
none_remove b (s ∷ ks) zero none = none.1
none_remove b (s ∷ ks) (suc i) none = (none.0, none_remove b ks i none.1)

pub remove_in_order : (ks : List KeptRow) (i : ℕ) → AreInOrder ks → AreInOrder (remove ks i)
remove_in_order [] zero order = tt
remove_in_order [] (suc i) order = tt
remove_in_order (s ∷ ks) zero order = order.1
remove_in_order (s ∷ ks) (suc i) order = (none_remove s.me ks i order.0, remove_in_order ks i order.1)

-- another row of the same id at a place

none_set : (b : BranchId) (ks : List KeptRow) (i : ℕ) (x : KeptRow) → branch_below x.me b ≡ false → NoneBefore b ks → NoneBefore b (set ks i x)
none_set b [] i x bx none = tt
none_set b (s ∷ ks) zero x bx none = (bx, none.1)
none_set b (s ∷ ks) (suc i) x bx none = (none.0, none_set b ks i x bx none.1)

pub set_in_order : (ks : List KeptRow) (i : ℕ) (x d : KeptRow) → i < length ks → x.me ≡ (get_or ks i d).me → AreInOrder ks → AreInOrder (set ks i x)
set_in_order [] i x d within is order = tt
set_in_order (s ∷ ks) zero x d within is order = (subst (λ a. NoneBefore a ks) (sym is) order.0, order.1)
set_in_order (s ∷ ks) (suc i) x d within is order =
    let bx = ap (λ a. branch_below a s.me) is ∙ none_before_at s.me ks i d order.0 (omega arith) in
    (none_set s.me ks i x bx order.0, set_in_order ks i x d (omega arith) is order.1)

-- the rows of the first places

none_take : (b : BranchId) (n : ℕ) (ks : List KeptRow) → NoneBefore b ks → NoneBefore b (take n ks)
none_take b zero ks none = tt
none_take b (suc n) [] none = tt
none_take b (suc n) (s ∷ ks) none = (none.0, none_take b n ks none.1)

pub take_in_order : (n : ℕ) (ks : List KeptRow) → AreInOrder ks → AreInOrder (take n ks)
take_in_order zero ks order = tt
take_in_order (suc n) [] order = tt
take_in_order (suc n) (s ∷ ks) order = (none_take s.me n ks order.0, take_in_order n ks order.1)
