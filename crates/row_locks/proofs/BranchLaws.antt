-- The numbers that a branch has are those of its locks: what that makes of its locks when they are dropped or in doubt.
use Rattle.std.proofs.Common.{◌≡◌, ℕ, Bool, true, false, cond, not, ◌||◌, List, [], ◌∷◌, ◌++◌, map, filter, Some, is_some, refl, sym, ap, ◌∙◌, true≢false}
use Rattle.std.proofs.lemmas.List.{map-append}
use Rattle.std.proofs.lemmas.List.Elements.{filter-append}
use Rattle.std.specs.List.{AllByRecursion}
use Rattle.std.specs.Map.{lookup}
use Rattle.tran_ids.specs.declared.branch.BranchId.{BranchId}
use Rattle.tran_ids.specs.Branch.{same}
use Rattle.tran_ids.proofs.BranchLemmas.{equal_from_same}
use Rattle.row_locks.specs.declared.held_key.HeldKey.{HeldKey}
use Rattle.row_locks.specs.Locks.{Lock, in_doubt_from_now, without, without_reads}
use Rattle.row_locks.specs.Numbered.{Numbered, lock_of, locks_in, is_number, is_among, without_numbers, without_read_numbers, doubtful, changed_at, HasNone, HaveOwnNumbers, numbers_of}
use Rattle.row_locks.proofs.NumberLaws.{number_itself, number_flips, missed}

-- whether a branch has a lock
abbrev pub has : BranchId → Numbered → Bool
has b e = same e.1.branch b

-- these are the numbers of the branch's locks
abbrev pub AreItsNumbers : BranchId → List ℕ → List Numbered → Type 0
AreItsNumbers b ns es = AllByRecursion (λ e. is_among ns e.0 ≡ has b e) es

module _ (b : BranchId) where
  none_among : (n : ℕ) (es : List Numbered) → HasNone n es → is_among (numbers_of b es) n ≡ false
  none_among n [] none = refl
  none_among n (e ∷ es) none = none_step (has b e) (none_among n es none.1)
    where
      none_step : (its : Bool) → is_among (numbers_of b es) n ≡ false → is_among (map (λ x. x.0) (cond its (e ∷ filter (has b) es) (filter (has b) es))) n ≡ false
      none_step true rest = ap (λ c. c || is_among (numbers_of b es) n) (number_flips e.0 n ∙ none.0) ∙ rest
      none_step false rest = rest

  among_first : (e : Numbered) (ns : List ℕ) (es : List Numbered) → HasNone e.0 es → AreItsNumbers b ns es → AreItsNumbers b (e.0 ∷ ns) es
  among_first e ns [] none its = tt
  among_first e ns (x ∷ xs) none its = (ap (λ c. c || is_among ns x.0) none.0 ∙ its.0, among_first e ns xs none.1 its.1)

  its_step : (e : Numbered) (es : List Numbered) (its : Bool) → has b e ≡ its → HasNone e.0 es → AreItsNumbers b (numbers_of b es) es
      → AreItsNumbers b (map (λ x. x.0) (cond its (e ∷ filter (has b) es) (filter (has b) es))) (e ∷ es)
  its_step e es true is none rest = (ap (λ c. c || is_among (numbers_of b es) e.0) (number_itself e.0) ∙ sym is, among_first e (numbers_of b es) es none rest)
  its_step e es false is none rest = (none_among e.0 es none ∙ sym is, rest)

  -- the numbers of a branch's locks tell its locks
  pub its_numbers : (es : List Numbered) → HaveOwnNumbers es → AreItsNumbers b (numbers_of b es) es
  its_numbers [] own = tt
  its_numbers (e ∷ es) own = its_step e es (has b e) refl own.0 (its_numbers es own.1)

  -- ---- what becomes of the list of locks

  without_step : (e : Numbered) (xs : List Numbered) (ls : List Lock) (its : Bool) → locks_in xs ≡ ls → locks_in (cond (not its) (e ∷ xs) xs) ≡ cond (not its) (lock_of e.1 ∷ ls) ls
  without_step e xs ls true is = is
  without_step e xs ls false is = ap (λ (all : List Lock). lock_of e.1 ∷ all) is

  pub released : (ns : List ℕ) (es : List Numbered) → AreItsNumbers b ns es → locks_in (without_numbers ns es) ≡ without (locks_in es) b
  released ns [] its = refl
  released ns (e ∷ es) its =
      ap (λ c. locks_in (cond (not c) (e ∷ without_numbers ns es) (without_numbers ns es))) its.0
      ∙ without_step e (without_numbers ns es) (without (locks_in es) b) (has b e) (released ns es its.1)

  reads_step : (e : Numbered) (xs : List Numbered) (ls : List Lock) (kept : Bool) → locks_in xs ≡ ls → locks_in (cond kept (e ∷ xs) xs) ≡ cond kept (lock_of e.1 ∷ ls) ls
  reads_step e xs ls true is = ap (λ (all : List Lock). lock_of e.1 ∷ all) is
  reads_step e xs ls false is = is

  pub reads_released : (ns : List ℕ) (es : List Numbered) → AreItsNumbers b ns es → locks_in (without_read_numbers ns es) ≡ without_reads (locks_in es) b
  reads_released ns [] its = refl
  reads_released ns (e ∷ es) its =
      ap (λ c. locks_in (cond (not c || e.1.writes) (e ∷ without_read_numbers ns es) (without_read_numbers ns es))) its.0
      ∙ reads_step e (without_read_numbers ns es) (without_reads (locks_in es) b) (not (has b e) || e.1.writes) (reads_released ns es its.1)

  or_true : (c : Bool) → (c || true) ≡ true
  or_true true = refl
  or_true false = refl

  or_false : (c : Bool) → (c || false) ≡ c
  or_false true = refl
  or_false false = refl

  marked_step : (e : Numbered) (its : Bool) → lock_of (cond its (e.0, doubtful e.1) e).1 ≡ record (lock_of e.1) { in_doubt = e.1.in_doubt || its }
  marked_step e true = λ i. record (lock_of e.1) { in_doubt = sym (or_true e.1.in_doubt) i }
  marked_step e false = λ i. record (lock_of e.1) { in_doubt = sym (or_false e.1.in_doubt) i }

  pub marked : (ns : List ℕ) (es : List Numbered) → AreItsNumbers b ns es → locks_in (changed_at doubtful ns es) ≡ in_doubt_from_now (locks_in es) b
  marked ns [] its = refl
  marked ns (e ∷ es) its =
      (λ i. lock_of (cond (its.0 i) (e.0, doubtful e.1) e).1 ∷ marked ns es its.1 i)
      ∙ ap (λ (l : Lock). l ∷ in_doubt_from_now (locks_in es) b) (marked_step e (has b e))

  -- ---- what becomes of the numbers of each branch

  its_gone : (e : Numbered) (its : Bool) (xs : List Numbered) → has b e ≡ its → numbers_of b xs ≡ [] → numbers_of b (cond (not its) (e ∷ xs) xs) ≡ []
  its_gone e true xs is none = none
  its_gone e false xs is none = ap (λ c. map (λ x. x.0) (cond c (e ∷ filter (has b) xs) (filter (has b) xs))) is ∙ none

  -- a branch that gave back all has none
  pub none_left : (ns : List ℕ) (es : List Numbered) → AreItsNumbers b ns es → numbers_of b (without_numbers ns es) ≡ []
  none_left ns [] its = refl
  none_left ns (e ∷ es) its =
      ap (λ c. numbers_of b (cond (not c) (e ∷ without_numbers ns es) (without_numbers ns es))) its.0
      ∙ its_gone e (has b e) (without_numbers ns es) refl (none_left ns es its.1)

same_as : (a b c : BranchId) → same a b ≡ true → same a c ≡ same b c
same_as a b c h = ap (λ x. same x c) (equal_from_same a b h)

module _ (b c : BranchId) (other : same b c ≡ false) where
  not_its : (e : Numbered) → has b e ≡ true → has c e ≡ false
  not_its e its = same_as e.1.branch b c its ∙ other

  beside_both : (e : Numbered) (xs es : List Numbered) → numbers_of c xs ≡ numbers_of c es → (d : Bool)
      → map (λ x. x.0) (cond d (e ∷ filter (has c) xs) (filter (has c) xs)) ≡ map (λ x. x.0) (cond d (e ∷ filter (has c) es) (filter (has c) es))
  beside_both e xs es rest true = ap (λ (ns : List ℕ). e.0 ∷ ns) rest
  beside_both e xs es rest false = rest

  beside_step : (e : Numbered) (its kept : Bool) (xs es : List Numbered) → has b e ≡ its → (its ≡ false → kept ≡ true) → numbers_of c xs ≡ numbers_of c es
      → numbers_of c (cond kept (e ∷ xs) xs) ≡ numbers_of c (e ∷ es)
  beside_step e its true xs es is keeps same_rest =
      beside_both e xs es same_rest (has c e)
  beside_step e true false xs es is keeps same_rest =
      same_rest ∙ ap (λ d. map (λ x. x.0) (cond d (e ∷ filter (has c) es) (filter (has c) es))) (sym (not_its e is))
  beside_step e false false xs es is keeps same_rest = absurd (true≢false (sym (keeps refl)))

  -- and another branch has those that it had
  pub beside_released : (ns : List ℕ) (es : List Numbered) → AreItsNumbers b ns es → numbers_of c (without_numbers ns es) ≡ numbers_of c es
  beside_released ns [] its = refl
  beside_released ns (e ∷ es) its =
      ap (λ d. numbers_of c (cond (not d) (e ∷ without_numbers ns es) (without_numbers ns es))) its.0
      ∙ beside_step e (has b e) (not (has b e)) (without_numbers ns es) es refl (λ no. ap not no) (beside_released ns es its.1)

  pub beside_reads : (ns : List ℕ) (es : List Numbered) → AreItsNumbers b ns es → numbers_of c (without_read_numbers ns es) ≡ numbers_of c es
  beside_reads ns [] its = refl
  beside_reads ns (e ∷ es) its =
      ap (λ d. numbers_of c (cond (not d || e.1.writes) (e ∷ without_read_numbers ns es) (without_read_numbers ns es))) its.0
      ∙ beside_step e (has b e) (not (has b e) || e.1.writes) (without_read_numbers ns es) es refl (λ no. ap (λ d. not d || e.1.writes) no) (beside_reads ns es its.1)

-- ---- a change of the locks leaves everybody's numbers

module _ (f : HeldKey → HeldKey) (stays : (h : HeldKey) → (f h).branch ≡ h.branch) where
  same_branch : (t : Bool) (e : Numbered) → (cond t (e.0, f e.1) e).1.branch ≡ e.1.branch
  same_branch true e = stays e.1
  same_branch false e = refl

  same_number : (t : Bool) (e : Numbered) → (cond t (e.0, f e.1) e).0 ≡ e.0
  same_number true e = refl
  same_number false e = refl

  changed_step : (c : BranchId) (d : Bool) (x e : Numbered) (xs es : List Numbered) → x.0 ≡ e.0 → numbers_of c xs ≡ numbers_of c es
      → map (λ x. x.0) (cond d (x ∷ filter (has c) xs) (filter (has c) xs)) ≡ map (λ x. x.0) (cond d (e ∷ filter (has c) es) (filter (has c) es))
  changed_step c true x e xs es is rest = λ i. is i ∷ rest i
  changed_step c false x e xs es is rest = rest

  pub numbers_changed : (c : BranchId) (ns : List ℕ) (es : List Numbered) → numbers_of c (changed_at f ns es) ≡ numbers_of c es
  numbers_changed c ns [] = refl
  numbers_changed c ns (e ∷ es) =
      let x : Numbered = cond (is_among ns e.0) (e.0, f e.1) e in
      let xs = changed_at f ns es in
      ap (λ a. map (λ y. y.0) (cond (same a c) (x ∷ filter (has c) xs) (filter (has c) xs))) (same_branch (is_among ns e.0) e)
      ∙ changed_step c (has c e) x e xs es (same_number (is_among ns e.0) e) (numbers_changed c ns es)

-- ---- the numbers that a branch keeps are those of locks that are there

module _ (p : Numbered → Bool) where
  none_kept : (n : ℕ) (es : List Numbered) → HasNone n es → HasNone n (filter p es)
  none_kept n [] none = tt
  none_kept n (e ∷ es) none = by (p e) (none_kept n es none.1)
    where
      by : (b : Bool) → HasNone n (filter p es) → HasNone n (cond b (e ∷ filter p es) (filter p es))
      by true rest = (none.0, rest)
      by false rest = rest

  there_first : (e : Numbered) (b : Bool) (es : List Numbered) → HasNone e.0 es → is_some (lookup (is_number e.0) (cond b (e ∷ filter p es) (filter p es))) ≡ b
  there_first e true es none = ap (λ c. is_some (cond c (Some e.1) (lookup (is_number e.0) (filter p es)))) (number_itself e.0)
  there_first e false es none = ap is_some (missed e.0 (filter p es) (none_kept e.0 es none))

  there_behind : (e : Numbered) (b : Bool) (kept xs : List Numbered) → HasNone e.0 xs → AllByRecursion (λ x. is_some (lookup (is_number x.0) kept) ≡ p x) xs
      → AllByRecursion (λ x. is_some (lookup (is_number x.0) (cond b (e ∷ kept) kept)) ≡ p x) xs
  there_behind e b kept [] none all = tt
  there_behind e false kept (x ∷ xs) none all = all
  there_behind e true kept (x ∷ xs) none all =
      (ap (λ c. is_some (cond c (Some e.1) (lookup (is_number x.0) kept))) (number_flips x.0 e.0 ∙ none.0) ∙ all.0, there_behind e true kept xs none.1 all.1)

  -- a lock is found by its number where it was kept
  pub there : (es : List Numbered) → HaveOwnNumbers es → AllByRecursion (λ e. is_some (lookup (is_number e.0) (filter p es)) ≡ p e) es
  there [] own = tt
  there (e ∷ es) own = (there_first e (p e) es own.0, there_behind e (p e) (filter p es) es own.0 (there es own.1))

  left_step : (h : ℕ → Bool) (b : BranchId) (e : Numbered) (its kept : Bool) (es : List Numbered) → has b e ≡ its → h e.0 ≡ kept
      → filter h (numbers_of b es) ≡ numbers_of b (filter p es)
      → filter h (map (λ x. x.0) (cond its (e ∷ filter (has b) es) (filter (has b) es))) ≡ numbers_of b (cond kept (e ∷ filter p es) (filter p es))
  left_step h b e true true es its is rest =
      ap (λ d. cond d (e.0 ∷ filter h (numbers_of b es)) (filter h (numbers_of b es))) is ∙ ap (λ (ns : List ℕ). e.0 ∷ ns) rest
      ∙ ap (λ d. map (λ x. x.0) (cond d (e ∷ filter (has b) (filter p es)) (filter (has b) (filter p es)))) (sym its)
  left_step h b e true false es its is rest = ap (λ d. cond d (e.0 ∷ filter h (numbers_of b es)) (filter h (numbers_of b es))) is ∙ rest
  left_step h b e false true es its is rest = rest ∙ ap (λ d. map (λ x. x.0) (cond d (e ∷ filter (has b) (filter p es)) (filter (has b) (filter p es)))) (sym its)
  left_step h b e false false es its is rest = rest

  pub left : (h : ℕ → Bool) (b : BranchId) (es : List Numbered) → AllByRecursion (λ e. h e.0 ≡ p e) es → filter h (numbers_of b es) ≡ numbers_of b (filter p es)
  left h b [] all = refl
  left h b (e ∷ es) all = left_step h b e (has b e) (p e) es refl all.0 (left h b es all.1)

-- ---- one lock more

pushed_step : (c : BranchId) (n : ℕ) (h : HeldKey) (its : Bool) (ns : List ℕ) → ns ++ map (λ (x : Numbered). x.0) (cond its ((n, h) ∷ []) []) ≡ cond its (ns ++ n ∷ []) (ns ++ [])
pushed_step c n h true ns = refl
pushed_step c n h false ns = refl

pub numbers_pushed : (c : BranchId) (n : ℕ) (h : HeldKey) (es : List Numbered)
    → numbers_of c (es ++ (n, h) ∷ []) ≡ cond (same h.branch c) (numbers_of c es ++ n ∷ []) (numbers_of c es ++ [])
numbers_pushed c n h es =
    ap (map (λ (x : Numbered). x.0)) (filter-append (has c) es ((n, h) ∷ []))
    ∙ map-append (λ (x : Numbered). x.0) (filter (has c) es) (cond (same h.branch c) ((n, h) ∷ []) [])
    ∙ pushed_step c n h (same h.branch c) (numbers_of c es)
