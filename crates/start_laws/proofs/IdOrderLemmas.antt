-- Branches in the order of their ids: each one more is put at its place, and those that pass a test stand in the same order.
use Rattle.std.proofs.Common.{◌≡◌, Bool, true, false, if◌then◌else◌, List, [], ◌∷◌, ◌++◌, filter, find, fold, map, Some, None, inl, inr, refl, sym, ap, ◌∙◌, arith}
use Rattle.std.specs.Prelude.{◌⊎◌}
use Rattle.std.specs.List.{AllByRecursion}
use Rattle.std.proofs.lemmas.Bool.Decides.{nat_tests}
use Rattle.tran_ids.specs.Branch.{branch_below}
use Rattle.node_rules.specs.Data.{BranchId, Doubt}
use Rattle.node_rules.specs.NodeState.{doubt_id}
use Rattle.node_rules.specs.Words.{put_by_branch}
use Rattle.book_laws.proofs.PlaceLemmas.{IsOne}
use Rattle.start_laws.specs.StartLaws.{by_id}

-- ---- which id comes first

below_one_way : (a b : BranchId) → branch_below a b ≡ true → branch_below b a ≡ false
below_one_way a b ab = grind (arith, nat_tests, ab)

below_on : (a b c : BranchId) → branch_below a b ≡ true → branch_below c b ≡ false → branch_below a c ≡ true
below_on a b c ab cb = grind (arith, nat_tests, ab, cb)

not_below_on : (a b c : BranchId) → branch_below b a ≡ false → branch_below c b ≡ false → branch_below c a ≡ false
not_below_on a b c ba cb = grind (arith, nat_tests, ba, cb)

-- ---- lists in order

abbrev pub put : List BranchId → BranchId → List BranchId
put bs b = put_by_branch (λ c. c) bs b

-- none of them comes before this one
abbrev NoneBefore : BranchId → List BranchId → Type 0
NoneBefore b [] = Unit {0}
NoneBefore b (c ∷ cs) = (branch_below c b ≡ false) × NoneBefore b cs

-- none comes before one in front of it
abbrev InOrder : List BranchId → Type 0
InOrder [] = Unit {0}
InOrder (b ∷ bs) = NoneBefore b bs × InOrder bs

none_past : (a b : BranchId) (bs : List BranchId) → branch_below b a ≡ false → NoneBefore b bs → NoneBefore a bs
none_past a b [] ba none = tt
none_past a b (c ∷ cs) ba none = (not_below_on a b c ba none.0, none_past a b cs ba none.1)

none_put : (a b : BranchId) (bs : List BranchId) → NoneBefore a bs → branch_below b a ≡ false → NoneBefore a (put bs b)
none_put a b [] none ba = (ba, tt)
none_put a b (c ∷ cs) none ba = by (branch_below b c) (none_put a b cs none.1 ba)
  where
    by : (above : Bool) → NoneBefore a (put cs b) → NoneBefore a (if above then b ∷ c ∷ cs else c ∷ put cs b)
    by true rest = (ba, none)
    by false rest = (none.0, rest)

order_put : (bs : List BranchId) (b : BranchId) → InOrder bs → InOrder (put bs b)
order_put [] b order = (tt, tt)
order_put (c ∷ cs) b order = by (branch_below b c) refl (order_put cs b order.1)
  where
    by : (above : Bool) → branch_below b c ≡ above → InOrder (put cs b) → InOrder (if above then b ∷ c ∷ cs else c ∷ put cs b)
    by true is rest = (let other = below_one_way b c is in ((other, none_past b c cs other order.0), order))
    by false is rest = (none_put c b cs order.0 is, rest)

-- ---- those that pass a test

above_all : (b c : BranchId) (bs : List BranchId) → branch_below b c ≡ true → NoneBefore c bs → AllByRecursion (λ d. branch_below b d ≡ true) bs
above_all b c [] above none = tt
above_all b c (d ∷ ds) above none = (below_on b c d above none.0, above_all b c ds above none.1)

filter_all : (P : BranchId → Type 0) (p : BranchId → Bool) (bs : List BranchId) → AllByRecursion P bs → AllByRecursion P (filter p bs)
filter_all P p [] all = tt
filter_all P p (b ∷ bs) all = by (p b) (filter_all P p bs all.1)
  where
    by : (q : Bool) → AllByRecursion P (filter p bs) → AllByRecursion P (if q then b ∷ filter p bs else filter p bs)
    by true rest = (all.0, rest)
    by false rest = rest

put_front : (b : BranchId) (bs : List BranchId) → AllByRecursion (λ c. branch_below b c ≡ true) bs → put bs b ≡ b ∷ bs
put_front b [] all = refl
put_front b (c ∷ cs) all = ap (λ q. if q then b ∷ c ∷ cs else c ∷ put cs b) all.0

module _ (p : BranchId → Bool) (c b : BranchId) (cs : List BranchId) where
  abbrev kept : Bool → List BranchId
  kept first = if first then c ∷ filter p cs else filter p cs

  filter_above : (here first : Bool) → AllByRecursion (λ d. branch_below b d ≡ true) (kept first) → (if here then b ∷ kept first else kept first) ≡ (if here then put (kept first) b else kept first)
  filter_above true first all = sym (put_front b (kept first) all)
  filter_above false first all = refl

  filter_behind : (here first : Bool) → branch_below b c ≡ false → filter p (put cs b) ≡ (if here then put (filter p cs) b else filter p cs)
      → (if first then c ∷ filter p (put cs b) else filter p (put cs b)) ≡ (if here then put (kept first) b else kept first)
  filter_behind true true is rest = ap (λ xs. c ∷ xs) rest ∙ sym (ap (λ q. if q then b ∷ c ∷ filter p cs else c ∷ put (filter p cs) b) is)
  filter_behind false true is rest = ap (λ xs. c ∷ xs) rest
  filter_behind true false is rest = rest
  filter_behind false false is rest = rest

filter_put : (p : BranchId → Bool) (bs : List BranchId) (b : BranchId) → InOrder bs → filter p (put bs b) ≡ (if p b then put (filter p bs) b else filter p bs)
filter_put p [] b order = refl
filter_put p (c ∷ cs) b order = by (branch_below b c) refl (filter_put p cs b order.1)
  where
    by : (above : Bool) → branch_below b c ≡ above → filter p (put cs b) ≡ (if p b then put (filter p cs) b else filter p cs)
        → filter p (if above then b ∷ c ∷ cs else c ∷ put cs b) ≡ (if p b then put (filter p (c ∷ cs)) b else filter p (c ∷ cs))
    by true is rest = filter_above p c b cs (p b) (p c) (filter_all (λ d. branch_below b d ≡ true) p (c ∷ cs) (is, above_all b c cs is order.0))
    by false is rest = filter_behind p c b cs (p b) (p c) is rest

filter_fold : (p : BranchId → Bool) (acc bs : List BranchId) → InOrder acc → filter p (fold put acc bs) ≡ fold put (filter p acc) (filter p bs)
filter_fold p acc [] order = refl
filter_fold p acc (b ∷ bs) order = filter_fold p (put acc b) bs (order_put acc b order) ∙ (ap (λ xs. fold put xs (filter p bs)) (filter_put p acc b order) ∙ by (p b))
  where
    by : (q : Bool) → fold put (if q then put (filter p acc) b else filter p acc) (filter p bs) ≡ fold put (filter p acc) (if q then b ∷ filter p bs else filter p bs)
    by true = refl
    by false = refl

pub by_id_filter : (p : BranchId → Bool) (bs : List BranchId) → filter p (by_id bs) ≡ by_id (filter p bs)
by_id_filter p bs = filter_fold p [] bs tt

-- ---- one more

fold_last : (acc bs : List BranchId) (b : BranchId) → fold put acc (bs ++ b ∷ []) ≡ put (fold put acc bs) b
fold_last acc [] b = refl
fold_last acc (c ∷ cs) b = fold_last (put acc c) cs b

pub by_id_last : (bs : List BranchId) (b : BranchId) → by_id (bs ++ b ∷ []) ≡ put (by_id bs) b
by_id_last bs b = fold_last [] bs b

-- the ids of what is put at its place
pub ids_put : (ds : List Doubt) (d : Doubt) → map doubt_id (put_by_branch doubt_id ds d) ≡ put (map doubt_id ds) d.branch
ids_put [] d = refl
ids_put (x ∷ xs) d = by (branch_below d.branch x.branch) (ids_put xs d)
  where
    by : (above : Bool) → map doubt_id (put_by_branch doubt_id xs d) ≡ put (map doubt_id xs) d.branch
        → map doubt_id (if above then d ∷ x ∷ xs else x ∷ put_by_branch doubt_id xs d) ≡ (if above then d.branch ∷ x.branch ∷ map doubt_id xs else x.branch ∷ put (map doubt_id xs) d.branch)
    by true rest = refl
    by false rest = ap (λ bs. x.branch ∷ bs) rest

-- ---- the same branches

one_of_put : (b c : BranchId) (bs : List BranchId) → IsOne b (put bs c) → IsOne b bs ⊎ (c ≡ b)
one_of_put b c [] (inl here) = inr here
one_of_put b c [] (inr there) = absurd there
one_of_put b c (d ∷ ds) there = by (branch_below c d) there (one_of_put b c ds)
  where
    by : (above : Bool) → IsOne b (if above then c ∷ d ∷ ds else d ∷ put ds c) → (IsOne b (put ds c) → IsOne b ds ⊎ (c ≡ b)) → IsOne b (d ∷ ds) ⊎ (c ≡ b)
    by true (inl here) later = inr here
    by true (inr there) later = inl there
    by false (inl here) later = inl (inl here)
    by false (inr there) later = elim (later there) [ inl one ↦ inl (inr one) | inr is ↦ inr is ]

one_of_fold : (b : BranchId) (acc bs : List BranchId) → IsOne b (fold put acc bs) → IsOne b acc ⊎ IsOne b bs
one_of_fold b acc [] there = inl there
one_of_fold b acc (c ∷ cs) there = elim (one_of_fold b (put acc c) cs there) [
  | inl one ↦ elim (one_of_put b c acc one) [ inl before ↦ inl before | inr is ↦ inr (inl is) ]
  | inr later ↦ inr (inr later)
]

pub one_by_id : (b : BranchId) (bs : List BranchId) → IsOne b (by_id bs) → IsOne b bs
one_by_id b bs there = elim (one_of_fold b [] bs there) [ inl none ↦ absurd none | inr is ↦ is ]

-- ---- what no branch has

module _ (P : BranchId → Type 0) where
  all_parts : (bs : List BranchId) (b : BranchId) → AllByRecursion P (put bs b) → AllByRecursion P bs × P b
  all_parts [] b all = (tt, all.0)
  all_parts (c ∷ cs) b all = by (branch_below b c) all (all_parts cs b)
    where
      by : (above : Bool) → AllByRecursion P (if above then b ∷ c ∷ cs else c ∷ put cs b) → (AllByRecursion P (put cs b) → AllByRecursion P cs × P b) → AllByRecursion P (c ∷ cs) × P b
      by true all later = (all.1, all.0)
      by false all later = (let rest = later all.1 in ((all.0, rest.0), rest.1))

  all_folded : (acc bs : List BranchId) → AllByRecursion P (fold put acc bs) → AllByRecursion P acc × AllByRecursion P bs
  all_folded acc [] all = (all, tt)
  all_folded acc (b ∷ bs) all = (let rest = all_folded (put acc b) bs all in let parts = all_parts acc b rest.0 in (parts.0, (parts.1, rest.1)))

none_passes : (p : BranchId → Bool) (bs : List BranchId) → find p bs ≡ None → AllByRecursion (λ b. p b ≡ false) bs
none_passes p [] none = tt
none_passes p (b ∷ bs) none = by (p b) refl none (none_passes p bs)
  where
    by : (q : Bool) → p b ≡ q → (if q then Some b else find p bs) ≡ None → (find p bs ≡ None → AllByRecursion (λ c. p c ≡ false) bs) → AllByRecursion (λ c. p c ≡ false) (b ∷ bs)
    by true is none later = absurd cc
    by false is none later = (is, later none)

none_found : (p : BranchId → Bool) (bs : List BranchId) → AllByRecursion (λ b. p b ≡ false) bs → find p bs ≡ None
none_found p [] all = refl
none_found p (b ∷ bs) all = ap (λ q. if q then Some b else find p bs) all.0 ∙ none_found p bs all.1

pub none_by_id : (p : BranchId → Bool) (bs : List BranchId) → find p (by_id bs) ≡ None → find p bs ≡ None
none_by_id p bs none = none_found p bs (all_folded (λ b. p b ≡ false) [] bs (none_passes p (by_id bs) none)).1
