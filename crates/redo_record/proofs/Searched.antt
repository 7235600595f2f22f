-- What is found among rows in the order of their branches: a branch's rows stand side by side.
use Rattle.std.proofs.Common.{◌≡◌, ℕ, ◌+◌, ◌≤◌, ◌<◌, zero, suc, Bool, true, false, cond, not, ◌&&◌, if◌then◌else◌, List, [], ◌∷◌, ◌++◌, map, filter, find, take, drop, set, get_or, slice_get, length, position, nat_lt, Option, None, Some, is_some, true≢false, refl, sym, ap, subst, ◌∙◌, arith}
use Rattle.std.proofs.lemmas.Bool.Decides.{nat_tests}
use Rattle.std.proofs.lemmas.List.Quantifiers.{position-Some}
use Rattle.std.proofs.lemmas.List.Sums.{position_or_len_is}
use Rattle.std.proofs.lemmas.Option.{slice_get-get_or}
use Rattle.std.specs.List.{AllByRecursion, position_or_len, remove}
use Rattle.std.specs.Option.{option_map}
use Rattle.tran_ids.specs.Branch.{same, branch_below}
use Rattle.tran_ids.specs.Listed.{put_item}
use Rattle.tran_ids.specs.declared.branch.BranchId.{BranchId}
use Rattle.tran_ids.proofs.BranchLemmas.{equal_from_same, same_from_equal}
use Rattle.tran_ids.proofs.ListedLemmas.{put_found}
use Rattle.redo_record.specs.declared.durable.KeptRow.{KeptRow}
use Rattle.redo_record.specs.Kept.{stands_at}
use Rattle.redo_record.specs.Lists.{change_where}
use Rattle.redo_record.specs.declared.search.Leaving.{Leaving}
use Rattle.redo_record.specs.declared.search.Leaving.TheVariants as leavings
use Rattle.redo_record.specs.Leaving.{row_id, leaves}
use Rattle.redo_record.specs.Order.{NoneBefore, AreInOrder}
use Rattle.redo_record.proofs.InOrder.{below_all_behind, set_in_order}

-- ---- the place of the first row that passes

-- that place, one row after the other
abbrev pub first_at : (KeptRow → Bool) → List KeptRow → Option ℕ
first_at p [] = None
first_at p (s ∷ ks) = cond (p s) (Some 0) (option_map suc (first_at p ks))

later_place : (n m : ℕ) (within : Bool) → nat_lt n m ≡ within → cond (nat_lt (1 + n) (suc m)) (Some (1 + n)) None ≡ option_map suc (cond within (Some n) None)
later_place n m true is = let one : nat_lt (1 + n) (suc m) ≡ true = grind (arith, nat_tests, is) in let next : 1 + n ≡ suc n = omega arith in rw one (ap Some next)
later_place n m false is = let one : nat_lt (1 + n) (suc m) ≡ false = grind (arith, nat_tests, is) in rw one refl

first_step : (hit : Bool) (n m : ℕ) → cond (nat_lt (cond (not hit) (1 + n) 0) (suc m)) (Some (cond (not hit) (1 + n) 0)) None ≡ cond hit (Some 0) (option_map suc (cond (nat_lt n m) (Some n) None))
first_step true n m = let one : nat_lt 0 (suc m) ≡ true = grind (arith, nat_tests) in rw one refl
first_step false n m = later_place n m (nat_lt n m) refl

pub position_is : (p : KeptRow → Bool) (ks : List KeptRow) → position p ks ≡ first_at p ks
position_is p [] = refl
position_is p (s ∷ ks) = first_step (p s) (position_or_len p ks) (length ks) ∙ ap (λ o. cond (p s) (Some 0) (option_map suc o)) (position_is p ks)

both : (a b : Bool) → a && b ≡ true → a ≡ true
both true b is = refl
both false b is = is

-- a test and its opposite
pub not_true : (b : Bool) → not b ≡ true → b ≡ false
not_true true is = absurd cc
not_true false is = refl

pub not_false : (b : Bool) → not b ≡ false → b ≡ true
not_false true is = refl
not_false false is = absurd cc

-- only rows of the branch go
pub leaves_only : (leaving : Leaving) (b : BranchId) (s : KeptRow) → leaves leaving b s ≡ true → same s.me b ≡ true
leaves_only leavings.Any b s goes = goes
leaves_only leavings.Unmixed b s goes = both (same s.me b) (not s.mixed) goes

-- where a search by halves ends, the first row stands that passes
pub point_is : (p : KeptRow → Bool) (ks : List KeptRow) (i : ℕ) → i ≤ length ks → ((k : ℕ) (d : KeptRow) → k < i → p (get_or ks k d) ≡ false)
    → ((k : ℕ) (d : KeptRow) → i ≤ k → k < length ks → p (get_or ks k d) ≡ true) → i ≡ position_or_len p ks
point_is p [] i within front behind = let none : position_or_len p [] ≡ 0 = refl in omega arith
point_is p (s ∷ ks) i within front behind = sym (position_or_len_is p (s ∷ ks) i s within (λ k lt. front k s lt) (λ lt. behind i s (omega arith) lt))

-- ---- a branch's rows stand side by side

-- none of these rows passes
abbrev pub NonePasses : (KeptRow → Bool) → List KeptRow → Type 0
NonePasses p ks = AllByRecursion (λ s. p s ≡ false) ks

none_first : (p : KeptRow → Bool) (ks : List KeptRow) → NonePasses p ks → first_at p ks ≡ None
none_first p [] none = refl
none_first p (s ∷ ks) none = rw none.0 (ap (option_map suc) (none_first p ks none.1))

module _ (b : BranchId) (p : KeptRow → Bool) (only : (s : KeptRow) → p s ≡ true → same s.me b ≡ true) where
  -- whether a row stands behind all of the branch
  abbrev is_behind : KeptRow → Bool
  is_behind s = branch_below b s.me

  -- whether a row does not stand in front of all of the branch
  abbrev has_begun : KeptRow → Bool
  has_begun s = not (branch_below s.me b)

  passes_not : (s : KeptRow) (passes : Bool) → p s ≡ passes → (same s.me b ≡ true → ⊥) → passes ≡ false
  passes_not s true is other = absurd (other (only s is))
  passes_not s false is other = refl

  behind_fails : (s : KeptRow) → branch_below b s.me ≡ true → p s ≡ false
  behind_fails s below = passes_not s (p s) refl (λ it. grind (arith, nat_tests, below, it))

  front_fails : (s : KeptRow) → branch_below s.me b ≡ true → p s ≡ false
  front_fails s below = passes_not s (p s) refl (λ it. grind (arith, nat_tests, below, it))

  all_behind : (a : BranchId) (ks : List KeptRow) → branch_below b a ≡ true → NoneBefore a ks → NonePasses p ks
  all_behind a [] below none = tt
  all_behind a (s ∷ ks) below none = (behind_fails s (below_all_behind b a s.me below none.0), all_behind a ks below none.1)

  behind_step : (s : KeptRow) (ks : List KeptRow) (behind : Bool) → branch_below b s.me ≡ behind → NoneBefore s.me ks → NonePasses p (drop (position_or_len is_behind ks) ks)
      → NonePasses p (drop (cond (not behind) (1 + position_or_len is_behind ks) 0) (s ∷ ks))
  behind_step s ks true is none later = (behind_fails s is, all_behind s.me ks is none)
  behind_step s ks false is none later = let next : 1 + position_or_len is_behind ks ≡ suc (position_or_len is_behind ks) = omega arith in rw next later

  -- no row of the branch stands from that place on
  pub none_behind : (ks : List KeptRow) → AreInOrder ks → NonePasses p (drop (position_or_len is_behind ks) ks)
  none_behind [] order = tt
  none_behind (s ∷ ks) order = behind_step s ks (branch_below b s.me) refl order.0 (none_behind ks order.1)

  front_step : (s : KeptRow) (ks : List KeptRow) (below : Bool) → branch_below s.me b ≡ below → NonePasses p (take (position_or_len has_begun ks) ks)
      → NonePasses p (take (cond (not (not below)) (1 + position_or_len has_begun ks) 0) (s ∷ ks))
  front_step s ks true is later = let next : 1 + position_or_len has_begun ks ≡ suc (position_or_len has_begun ks) = omega arith in rw next (front_fails s is, later)
  front_step s ks false is later = tt

  -- none stands in front of that place
  pub none_in_front : (ks : List KeptRow) → NonePasses p (take (position_or_len has_begun ks) ks)
  none_in_front [] = tt
  none_in_front (s ∷ ks) = front_step s ks (branch_below s.me b) refl (none_in_front ks)

  -- ---- the search

  cut_behind : (n : ℕ) (ks : List KeptRow) → NonePasses p (drop n ks) → first_at p (take n ks) ≡ first_at p ks
  cut_behind zero ks none = sym (none_first p ks none)
  cut_behind (suc n) [] none = refl
  cut_behind (suc n) (s ∷ ks) none = ap (λ o. cond (p s) (Some 0) (option_map suc o)) (cut_behind n ks none)

  plus_zero : (o : Option ℕ) → o ≡ option_map (λ i. 0 + i) o
  plus_zero None = refl
  plus_zero (Some i) = ap Some (omega arith)

  plus_more : (n : ℕ) (o : Option ℕ) → option_map suc (option_map (λ i. n + i) o) ≡ option_map (λ i. suc n + i) o
  plus_more n None = refl
  plus_more n (Some i) = ap Some (omega arith)

  cut_front : (n : ℕ) (ks : List KeptRow) → n ≤ length ks → NonePasses p (take n ks) → first_at p ks ≡ option_map (λ i. n + i) (first_at p (drop n ks))
  cut_front zero ks within none = plus_zero (first_at p ks)
  cut_front (suc n) [] within none = absurd (omega arith)
  cut_front (suc n) (s ∷ ks) within none = rw none.0 (ap (option_map suc) (cut_front n ks (omega arith) none.1) ∙ plus_more n (first_at p (drop n ks)))

  -- the first row of the branch that passes, between the two places
  pub searched : (front : List KeptRow) (n : ℕ) (ks : List KeptRow) → AreInOrder ks → front ≡ take (position_or_len is_behind ks) ks → n ≡ position_or_len has_begun front → n ≤ length front
      → position p ks ≡ option_map (λ i. n + i) (position p (drop n front))
  searched front n ks order cut start within =
      let none : NonePasses p (take n front) = subst (λ m. NonePasses p (take m front)) (sym start) (none_in_front front) in
      position_is p ks ∙ sym (cut_behind (position_or_len is_behind ks) ks (none_behind ks order)) ∙ ap (first_at p) (sym cut)
      ∙ cut_front n front within none ∙ ap (option_map (λ i. n + i)) (sym (position_is p (drop n front)))

  -- ---- a change of the branch's rows

  module _ (f : KeptRow → KeptRow) where
    unchanged : (ks : List KeptRow) → NonePasses p ks → change_where p f ks ≡ ks
    unchanged [] none = refl
    unchanged (s ∷ ks) none = rw none.0 (ap (λ (more : List KeptRow). s ∷ more) (unchanged ks none.1))

    pub front_unchanged : (ks : List KeptRow) → change_where p f (take (position_or_len has_begun ks) ks) ≡ take (position_or_len has_begun ks) ks
    front_unchanged ks = unchanged (take (position_or_len has_begun ks) ks) (none_in_front ks)

    pub behind_unchanged : (ks : List KeptRow) → AreInOrder ks → change_where p f (drop (position_or_len is_behind ks) ks) ≡ drop (position_or_len is_behind ks) ks
    behind_unchanged ks order = unchanged (drop (position_or_len is_behind ks) ks) (none_behind ks order)

    pub changed_all : (n : ℕ) (ks : List KeptRow) → change_where p f (drop n ks) ≡ drop n ks → change_where p f (take n ks) ++ drop n ks ≡ change_where p f ks
    changed_all zero ks same = sym same
    changed_all (suc n) [] same = refl
    changed_all (suc n) (s ∷ ks) same = ap (λ (more : List KeptRow). (if p s then f s else s) ∷ more) (changed_all n ks same)

  start_step : (s : KeptRow) (n m : ℕ) (begun behind : Bool) → has_begun s ≡ begun → is_behind s ≡ behind → n ≤ m → cond (not begun) (1 + n) 0 ≤ cond (not behind) (1 + m) 0
  start_step s n m true behind is at le = omega arith
  start_step s n m false true is at le = absurd (grind (arith, nat_tests, is, at))
  start_step s n m false false is at le = omega arith

  -- the branch's rows begin in front of their end
  pub start_in_front : (ks : List KeptRow) → position_or_len has_begun ks ≤ position_or_len is_behind ks
  start_in_front [] = omega arith
  start_in_front (s ∷ ks) = start_step s _ _ (has_begun s) (is_behind s) refl refl (start_in_front ks)

-- ---- what stands at the place that was found

module _ (p : KeptRow → Bool) where
  found_step : (s : KeptRow) (ks : List KeptRow) (hit : Bool) (o : Option ℕ) (i : ℕ) → cond hit (Some 0) (option_map suc o) ≡ Some i → ((j : ℕ) → o ≡ Some j → slice_get ks j ≡ find p ks)
      → slice_get (s ∷ ks) i ≡ cond hit (Some s) (find p ks)
  found_step s ks true o i is later = let zero : 0 ≡ i = cc in subst (λ j. slice_get (s ∷ ks) j ≡ Some s) zero refl
  found_step s ks false None i is later = absurd cc
  found_step s ks false (Some j) i is later = let next : suc j ≡ i = cc in subst (λ k. slice_get (s ∷ ks) k ≡ find p ks) next (later j refl)

  found_at : (ks : List KeptRow) (i : ℕ) → first_at p ks ≡ Some i → slice_get ks i ≡ find p ks
  found_at [] i is = absurd cc
  found_at (s ∷ ks) i is = found_step s ks (p s) (first_at p ks) i is (found_at ks)

  -- the row that is found
  pub found_there : (ks : List KeptRow) (i : ℕ) → position p ks ≡ Some i → slice_get ks i ≡ find p ks
  found_there ks i is = found_at ks i (sym (position_is p ks) ∙ is)

  none_step : (s : KeptRow) (ks : List KeptRow) (hit : Bool) (o : Option ℕ) → cond hit (Some 0) (option_map suc o) ≡ None → (o ≡ None → find p ks ≡ None) → cond hit (Some s) (find p ks) ≡ None
  none_step s ks true o is later = absurd cc
  none_step s ks false None is later = later refl
  none_step s ks false (Some j) is later = absurd cc

  none_at : (ks : List KeptRow) → first_at p ks ≡ None → find p ks ≡ None
  none_at [] is = refl
  none_at (s ∷ ks) is = none_step s ks (p s) (first_at p ks) is (none_at ks)

  -- none is found
  pub none_there : (ks : List KeptRow) → position p ks ≡ None → find p ks ≡ None
  none_there ks is = none_at ks (sym (position_is p ks) ∙ is)

  -- ---- rows that go

  abbrev stays : KeptRow → Bool
  stays s = not (p s)

  less_step : (s : KeptRow) (more some : List KeptRow) → more ≡ some → cond (stays s) (s ∷ more) more ≡ cond (stays s) (s ∷ some) some
  less_step s more some e = ap (λ (ks : List KeptRow). cond (stays s) (s ∷ ks) ks) e

  less_at : (ks : List KeptRow) (i : ℕ) (d : KeptRow) → i < length ks → p (get_or ks i d) ≡ true → filter stays (remove ks i) ≡ filter stays ks
  less_at [] i d within hit = absurd (omega arith)
  less_at (s ∷ ks) zero d within hit = rw hit refl
  less_at (s ∷ ks) (suc i) d within hit = less_step s _ _ (less_at ks i d (omega arith) hit)

  -- a row that goes is taken out
  pub less_one : (ks : List KeptRow) (i : ℕ) (d : KeptRow) → i < length ks → p (get_or ks i d) ≡ true → filter stays (remove ks i) ≡ filter stays ks
  less_one = less_at

  all_step : (s : KeptRow) (ks : List KeptRow) (hit : Bool) → p s ≡ hit → cond hit (Some s) (find p ks) ≡ None → (find p ks ≡ None → filter stays ks ≡ ks) → cond (not hit) (s ∷ filter stays ks) (filter stays ks) ≡ s ∷ ks
  all_step s ks true is none later = absurd cc
  all_step s ks false is none later = ap (λ (more : List KeptRow). s ∷ more) (later none)

  all_stay : (ks : List KeptRow) → find p ks ≡ None → filter stays ks ≡ ks
  all_stay [] none = refl
  all_stay (s ∷ ks) none = all_step s ks (p s) refl none (all_stay ks)

  -- until none is left
  pub no_more : (ks : List KeptRow) → position p ks ≡ None → filter stays ks ≡ ks
  no_more ks is = all_stay ks (none_there ks is)

-- ---- a row put in the place of another

put_step : (x s : KeptRow) (ks : List KeptRow) (hit : Bool) (o : Option ℕ) (i : ℕ) → same s.me x.me ≡ hit → cond hit (Some 0) (option_map suc o) ≡ Some i
    → ((j : ℕ) → o ≡ Some j → set ks j x ≡ put_item row_id ks x) → set (s ∷ ks) i x ≡ (if hit then x ∷ ks else s ∷ put_item row_id ks x)
put_step x s ks true o i at is later = let zero : 0 ≡ i = cc in subst (λ j. set (s ∷ ks) j x ≡ x ∷ ks) zero refl
put_step x s ks false None i at is later = absurd cc
put_step x s ks false (Some j) i at is later = let next : suc j ≡ i = cc in subst (λ k. set (s ∷ ks) k x ≡ s ∷ put_item row_id ks x) next (ap (λ (more : List KeptRow). s ∷ more) (later j refl))

set_at : (x : KeptRow) (ks : List KeptRow) (i : ℕ) → first_at (stands_at x.me) ks ≡ Some i → set ks i x ≡ put_item row_id ks x
set_at x [] i is = absurd cc
set_at x (s ∷ ks) i is = put_step x s ks (same s.me x.me) (first_at (stands_at x.me) ks) i refl is (set_at x ks)

-- put at the place where its branch's row stands
pub set_is_put : (x : KeptRow) (ks : List KeptRow) (i : ℕ) → position (stands_at x.me) ks ≡ Some i → set ks i x ≡ put_item row_id ks x
set_is_put x ks i is = set_at x ks i (sym (position_is (stands_at x.me) ks) ∙ is)

twice_step : (x y s : KeptRow) (ks : List KeptRow) → x.me ≡ y.me → (hit : Bool) → same s.me x.me ≡ hit → put_item row_id (put_item row_id ks x) y ≡ put_item row_id ks y
    → put_item row_id (if hit then x ∷ ks else s ∷ put_item row_id ks x) y ≡ (if same s.me y.me then y ∷ ks else s ∷ put_item row_id ks y)
twice_step x y s ks is true at later =
    ap (λ hit. if hit then y ∷ ks else x ∷ put_item row_id ks y) (same_from_equal x.me y.me is)
    ∙ sym (ap (λ hit. if hit then y ∷ ks else s ∷ put_item row_id ks y) (ap (same s.me) (sym is) ∙ at))
twice_step x y s ks is false at later =
    let apart : same s.me y.me ≡ false = ap (same s.me) (sym is) ∙ at in
    ap (λ hit. if hit then y ∷ put_item row_id ks x else s ∷ put_item row_id (put_item row_id ks x) y) apart
    ∙ ap (λ (more : List KeptRow). s ∷ more) later
    ∙ sym (ap (λ hit. if hit then y ∷ ks else s ∷ put_item row_id ks y) apart)

-- put in the place of one that was put there before
pub put_twice : (x y : KeptRow) (ks : List KeptRow) → x.me ≡ y.me → put_item row_id (put_item row_id ks x) y ≡ put_item row_id ks y
put_twice x y [] is = rw (same_from_equal x.me y.me is) refl
put_twice x y (s ∷ ks) is = twice_step x y s ks is (same s.me x.me) refl (put_twice x y ks is)

-- ---- a row that is lent

module _ (b : BranchId) (ks : List KeptRow) (i : ℕ) (at : position (stands_at b) ks ≡ Some i) (x : KeptRow) (is : x.me ≡ b) where
  found_me : (get_or ks i x).me ≡ b
  found_me = equal_from_same (get_or ks i x).me b (position-Some (stands_at b) ks i x at).1

  place_of_x : position (stands_at x.me) ks ≡ Some i
  place_of_x = subst (λ c. position (stands_at c) ks ≡ Some i) (sym is) at

  -- a row of the branch in its place keeps the order
  pub still_in_order : AreInOrder ks → AreInOrder (set ks i x)
  still_in_order order = set_in_order ks i x x (position-Some (stands_at b) ks i x at).0 (is ∙ sym found_me) order

  -- what is put back stands as if it had been put in the place of the row that was lent
  pub put_back : (y : KeptRow) → y.me ≡ b → put_item row_id (set ks i x) y ≡ put_item row_id ks y
  put_back y me = ap (λ (rows : List KeptRow). put_item row_id rows y) (set_is_put x ks i place_of_x) ∙ put_twice x y ks (is ∙ sym me)

  -- a row of the branch stands there, before and after
  pub stands_before : is_some (find (stands_at b) ks) ≡ true
  stands_before = ap is_some (sym (found_there (stands_at b) ks i at) ∙ slice_get-get_or ks i x (position-Some (stands_at b) ks i x at).0)

  pub stands_after : is_some (find (stands_at b) (set ks i x)) ≡ true
  stands_after =
      ap (λ (rows : List KeptRow). is_some (find (stands_at b) rows)) (set_is_put x ks i place_of_x)
      ∙ subst (λ c. is_some (find (stands_at c) (put_item row_id ks x)) ≡ true) is (ap is_some (put_found row_id ks x))
