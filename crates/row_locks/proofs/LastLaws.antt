-- The lock that was taken last is given back: what that makes of the locks, and of the numbers of each branch.
use Rattle.std.proofs.Common.{◌≡◌, ℕ, ◌-◌, ◌+◌, ◌<◌, ◌≤◌, Bool, true, false, cond, not, List, [], ◌∷◌, ◌++◌, take, drop, length, nat_lt, Option, Some, None, refl, sym, ap, subst, ◌∙◌, arith}
use Rattle.std.specs.List.{slice_get}
use Rattle.std.specs.Option.{option_map}
use Rattle.std.proofs.Math.Seq.{take-length}
use Rattle.std.proofs.lemmas.List.{append-nil, length-append, length-map, take_at, take_more, take_all, take-map, length-take-le, take-append-le, take-append-drop}
use Rattle.std.proofs.lemmas.Option.{slice_get_within, slice_get-get_or, get_or_from_slice_get}
use Rattle.std.proofs.lemmas.Bool.Decides.{nat_tests}
use Rattle.tran_ids.specs.declared.branch.BranchId.{BranchId}
use Rattle.tran_ids.specs.Branch.{same}
use Rattle.row_locks.specs.declared.held_key.Holder.{Holder}
use Rattle.row_locks.specs.Numbered.{Numbered, lock_of, locks_in, holder_in, is_among, without_numbers, HaveOwnNumbers, numbers_of}
use Rattle.row_locks.specs.ByBranch.{numbers_at, AreLinked}
use Rattle.row_locks.proofs.NumberLaws.{own_less, last_dropped}
use Rattle.row_locks.proofs.BranchLaws.{numbers_pushed}

-- a list is what stands before its last item, and that item
parted : {X : Type 0} (xs : List X) (x : X) → slice_get xs (length xs - 1) ≡ Some x → xs ≡ take (length xs - 1) xs ++ x ∷ []
parted xs x h =
    let n = length xs - 1 in
    let within : n < length xs = slice_get_within xs n x h in
    let full : n + 1 ≡ length xs = omega arith in
    sym (take-length xs) ∙ ap (λ m. take m xs) (sym full) ∙ take_more xs n x within ∙ ap (λ y. take n xs ++ y ∷ []) (get_or_from_slice_get xs n x x h)

less_one : {X : Type 0} (xs : List X) (x : X) → take (length (xs ++ x ∷ []) - 1) (xs ++ x ∷ []) ≡ xs
less_one xs x =
    let more = length-append xs (x ∷ []) in
    take_at xs (x ∷ []) (length (xs ++ x ∷ []) - 1) (omega arith)

module _ (es fs : List Numbered) (e : Numbered) (last : slice_get es (length es - 1) ≡ Some e) (own : HaveOwnNumbers es) (less : fs ≡ without_numbers (e.0 ∷ []) es) where
  before_last : fs ≡ take (length es - 1) es
  before_last =
      let is = parted es e last in
      less ∙ ap (without_numbers (e.0 ∷ [])) is ∙ last_dropped e.0 e.1 (take (length es - 1) es) (subst HaveOwnNumbers is own)

  -- the locks are all but the last
  pub given_back : locks_in fs ≡ take (length (locks_in es) - 1) (locks_in es)
  given_back =
      ap locks_in before_last ∙ sym (take-map (λ (x : Numbered). lock_of x.1) (length es - 1) es)
      ∙ ap (λ n. take (n - 1) (locks_in es)) (sym (length-map es (λ (x : Numbered). lock_of x.1)))

  step : (hit : Bool) (ns ms : List ℕ) → ns ≡ cond hit (ms ++ e.0 ∷ []) (ms ++ []) → cond hit (take (length ns - 1) ns) ns ≡ ms
  step true ns ms is = ap (λ (xs : List ℕ). take (length xs - 1) xs) is ∙ less_one ms e.0
  step false ns ms is = is ∙ append-nil ms

  -- and its branch has all its numbers but the last
  pub given_back_linked : (bs cs : List (BranchId × List ℕ)) → AreLinked es bs
      → ((c : BranchId) → numbers_at cs c ≡ cond (same e.1.branch c) (take (length (numbers_at bs c) - 1) (numbers_at bs c)) (numbers_at bs c)) → AreLinked fs cs
  given_back_linked bs cs are popped =
      record {
        own = subst HaveOwnNumbers (sym less) (own_less (λ x. not (is_among (e.0 ∷ []) x.0)) es own);
        linked = λ c. popped c
            ∙ step (same e.1.branch c) (numbers_at bs c) (numbers_of c fs)
            (are.linked c ∙ ap (numbers_of c) (parted es e last ∙ ap (λ (xs : List Numbered). xs ++ e ∷ []) (sym before_last)) ∙ numbers_pushed c e.0 e.1 fs);
      }

-- ---- several are given back, one after the other

pub one_less : {X : Type 0} (xs : List X) (i : ℕ) → i < length xs
    → take (length (take (length xs - i) xs) - 1) (take (length xs - i) xs) ≡ take (length xs - (i + 1)) xs
one_less xs i within =
    let n = length xs - i in
    let many : length (take n xs) ≡ n = length-take-le n xs (omega arith) in
    let fewer : n - 1 ≤ length (take n xs) = omega arith in
    let next : n - 1 ≡ length xs - (i + 1) = omega arith in
    ap (λ k. take (k - 1) (take n xs)) many
    ∙ sym (take-append-le (n - 1) (take n xs) (drop n xs) fewer)
    ∙ ap (take (n - 1)) (take-append-drop n xs)
    ∙ ap (λ k. take k xs) next

pub first_kept : {X : Type 0} (xs : List X) (many : ℕ) → take (length xs - (length xs - many)) xs ≡ take many xs
first_kept xs many = by (nat_lt many (length xs)) refl
  where
    by : (b : Bool) → nat_lt many (length xs) ≡ b → take (length xs - (length xs - many)) xs ≡ take many xs
    by true is =
        let less : many < length xs = grind (arith, nat_tests, is) in
        let left : length xs - (length xs - many) ≡ many = omega arith in
        ap (λ n. take n xs) left
    by false is =
        let more : length xs ≤ many = grind (arith, nat_tests, is) in
        let left : length xs - (length xs - many) ≡ length xs = omega arith in
        ap (λ n. take n xs) left ∙ take-length xs ∙ sym (take_all many xs more)

-- ---- the last lock, as its holder is told

module _ (es : List Numbered) where
  abbrev last_one : Option Numbered
  last_one = slice_get es (length es - 1)

  pub last_less : (fs : List Numbered) (h : Holder) → option_map holder_in last_one ≡ Some h → HaveOwnNumbers es → fs ≡ without_numbers (h.number ∷ []) es
      → locks_in fs ≡ take (length (locks_in es) - 1) (locks_in es)
  last_less fs h is own less = by last_one refl is
    where
      by : (o : Option Numbered) → last_one ≡ o → option_map holder_in o ≡ Some h → locks_in fs ≡ take (length (locks_in es) - 1) (locks_in es)
      by None at is = absurd cc
      by (Some e) at is =
          let this : holder_in e ≡ h = cc in
          given_back es fs e at own (less ∙ ap (λ (x : Holder). without_numbers (x.number ∷ []) es) (sym this))

  pub last_linked : (fs : List Numbered) (h : Holder) (bs cs : List (BranchId × List ℕ)) → option_map holder_in last_one ≡ Some h → AreLinked es bs
      → fs ≡ without_numbers (h.number ∷ []) es
      → ((c : BranchId) → numbers_at cs c ≡ cond (same h.branch c) (take (length (numbers_at bs c) - 1) (numbers_at bs c)) (numbers_at bs c)) → AreLinked fs cs
  last_linked fs h bs cs is are less popped = by last_one refl is
    where
      by : (o : Option Numbered) → last_one ≡ o → option_map holder_in o ≡ Some h → AreLinked fs cs
      by None at is = absurd cc
      by (Some e) at is =
          let this : holder_in e ≡ h = cc in
          given_back_linked es fs e at are.own (less ∙ ap (λ (x : Holder). without_numbers (x.number ∷ []) es) (sym this)) bs cs are
          (λ c. popped c ∙ ap (λ (x : Holder). cond (same x.branch c) (take (length (numbers_at bs c) - 1) (numbers_at bs c)) (numbers_at bs c)) (sym this))

pub none_last : (es : List Numbered) → option_map holder_in (slice_get es (length es - 1)) ≡ None → locks_in es ≡ take (length (locks_in es) - 1) (locks_in es)
none_last [] is = refl
none_last (e ∷ es) is =
    let there = slice_get-get_or (e ∷ es) (length (e ∷ es) - 1) e (omega arith) in
    absurd cc
