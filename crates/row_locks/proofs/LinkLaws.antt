-- What each call makes of the locks and of the numbers that are kept for each branch.
use Rattle.std.proofs.Common.{◌≡◌, ℕ, Bool, true, false, cond, not, ◌||◌, List, [], ◌∷◌, ◌++◌, filter, None, is_some, refl, sym, ap, subst, ◌∙◌, true≢false}
use Rattle.std.specs.Prelude.{Result, Ok, Err, OnOk, OnErr, is_err}
use Rattle.std.proofs.lemmas.List.{append-nil, map-append}
use Rattle.std.specs.Map.{lookup}
use Rattle.dtx_values.specs.declared.value.Value.{Value}
use Rattle.tran_ids.specs.declared.branch.BranchId.{BranchId}
use Rattle.tran_ids.specs.Branch.{same}
use Rattle.tran_ids.proofs.BranchLemmas.{equal_from_same}
use Rattle.row_locks.specs.declared.held_key.HeldKey.{HeldKey}
use Rattle.row_locks.specs.Locks.{taken, holder_of, in_doubt_from_now, without, without_reads}
use Rattle.row_locks.specs.Numbered.{Numbered, lock_of, locks_in, is_number, is_among, without_numbers, without_read_numbers, doubtful, changed_at, AreApart, HaveOwnNumbers, numbers_of}
use Rattle.row_locks.specs.ByBranch.{numbers_at, AreLinked}
use Rattle.row_locks.proofs.NumberLaws.{own_less, own_changed, last_dropped}
use Rattle.row_locks.proofs.BranchLaws.{AreItsNumbers, its_numbers, released, reads_released, marked, none_left, beside_released, beside_reads, numbers_changed, there, left, numbers_pushed}
use Rattle.row_locks.proofs.KeyLaws.{taken_free, none_on, free_is}

module _ (b : BranchId) (ns : List ℕ) (es fs : List Numbered) (bs : List (BranchId × List ℕ)) (are : AreLinked es bs) (its : ns ≡ numbers_at bs b) where
  told : AreItsNumbers b ns es
  told = subst (λ (ms : List ℕ). AreItsNumbers b ms es) (sym (its ∙ are.linked b)) (its_numbers b es are.own)

  -- ---- all locks of a branch are dropped

  pub release_is : fs ≡ without_numbers ns es → locks_in fs ≡ without (locks_in es) b
  release_is is = ap locks_in is ∙ released b ns es told

  release_step : (c : BranchId) (hit : Bool) → same b c ≡ hit → cond hit [] (numbers_at bs c) ≡ numbers_of c (without_numbers ns es)
  release_step c true is = sym (none_left b ns es told) ∙ ap (λ d. numbers_of d (without_numbers ns es)) (equal_from_same b c is)
  release_step c false is = are.linked c ∙ sym (beside_released b c is ns es told)

  pub release_linked : (cs : List (BranchId × List ℕ)) → fs ≡ without_numbers ns es → ((c : BranchId) → numbers_at cs c ≡ cond (same b c) [] (numbers_at bs c)) → AreLinked fs cs
  release_linked cs is dropped =
      subst (λ (xs : List Numbered). AreLinked xs cs) (sym is)
      (record { own = own_less (λ e. not (is_among ns e.0)) es are.own; linked = λ c. dropped c ∙ release_step c (same b c) refl })

  -- ---- those that are only read

  pub reads_is : fs ≡ without_read_numbers ns es → locks_in fs ≡ without_reads (locks_in es) b
  reads_is is = ap locks_in is ∙ reads_released b ns es told

  abbrev kept : Numbered → Bool
  kept e = not (is_among ns e.0) || e.1.writes

  reads_step : (c : BranchId) (hit : Bool) → same b c ≡ hit
      → cond hit (filter (λ n. is_some (lookup (is_number n) (filter kept es))) (numbers_at bs c)) (numbers_at bs c) ≡ numbers_of c (filter kept es)
  reads_step c true is =
      ap (filter (λ n. is_some (lookup (is_number n) (filter kept es)))) (are.linked c)
      ∙ left kept (λ n. is_some (lookup (is_number n) (filter kept es))) c es (there kept es are.own)
  reads_step c false is = are.linked c ∙ sym (beside_reads b c is ns es told)

  pub reads_linked : (cs : List (BranchId × List ℕ)) → fs ≡ without_read_numbers ns es
      → ((c : BranchId) → numbers_at cs c ≡ cond (same b c) (filter (λ n. is_some (lookup (is_number n) fs)) (numbers_at bs c)) (numbers_at bs c)) → AreLinked fs cs
  reads_linked cs is keeps =
      subst (λ (xs : List Numbered). AreLinked xs cs) (sym is)
      (record {
        own = own_less kept es are.own;
        linked = λ c. keeps c ∙ ap (λ (xs : List Numbered). cond (same b c) (filter (λ n. is_some (lookup (is_number n) xs)) (numbers_at bs c)) (numbers_at bs c)) is ∙ reads_step c (same b c) refl;
      })

  -- ---- locks in doubt

  pub mark_is : fs ≡ changed_at doubtful ns es → locks_in fs ≡ in_doubt_from_now (locks_in es) b
  mark_is is = ap locks_in is ∙ marked b ns es told

-- locks that are changed stay linked
pub changed_linked : (f : HeldKey → HeldKey) → ((h : HeldKey) → (f h).branch ≡ h.branch) → (ns : List ℕ) (es fs : List Numbered) (bs : List (BranchId × List ℕ))
    → AreLinked es bs → fs ≡ changed_at f ns es → AreLinked fs bs
changed_linked f stays ns es fs bs are is =
    subst (λ (xs : List Numbered). AreLinked xs bs) (sym is)
    (record { own = own_changed f ns es are.own; linked = λ c. are.linked c ∙ sym (numbers_changed f stays c ns es) })

-- ---- one lock more

more_step : (c : BranchId) (n : ℕ) (hit : Bool) (ns : List ℕ) → cond hit (ns ++ n ∷ []) ns ≡ cond hit (ns ++ n ∷ []) (ns ++ [])
more_step c n true ns = refl
more_step c n false ns = sym (append-nil ns)

pub add_linked : (h : HeldKey) (n : ℕ) (es fs : List Numbered) (bs cs : List (BranchId × List ℕ)) → AreLinked es bs → AreApart fs → fs ≡ es ++ (n, h) ∷ []
    → ((c : BranchId) → numbers_at cs c ≡ cond (same h.branch c) (numbers_at bs c ++ n ∷ []) (numbers_at bs c)) → AreLinked fs cs
add_linked h n es fs bs cs are apart is more =
    record {
      own = apart.numbers;
      linked = λ c. more c ∙ ap (λ (ns : List ℕ). cond (same h.branch c) (ns ++ n ∷ []) ns) (are.linked c) ∙ more_step c n (same h.branch c) (numbers_of c es)
          ∙ sym (numbers_pushed c n h es) ∙ ap (numbers_of c) (sym is);
    }

pub add_is : (table : List ℕ) (key : Value) (b : BranchId) (writes : Bool) (n : ℕ) (es fs : List Numbered) → holder_of (locks_in es) table key ≡ None
    → fs ≡ es ++ (n, record { table = table; key = key; branch = b; writes = writes; in_doubt = false }) ∷ [] → locks_in fs ≡ taken (locks_in es) b table key writes
add_is table key b writes n es fs free is =
    ap locks_in is
    ∙ map-append (λ (e : Numbered). lock_of e.1) es ((n, record { table = table; key = key; branch = b; writes = writes; in_doubt = false }) ∷ [])
    ∙ sym (taken_free table key es b writes (none_on table key es (free_is table key es free)))

-- and taken back where its number was not kept
pub undone : (n : ℕ) (h : HeldKey) (es fs gs : List Numbered) → AreApart fs → fs ≡ es ++ (n, h) ∷ [] → gs ≡ without_numbers (n ∷ []) fs → gs ≡ es
undone n h es fs gs apart is less = less ∙ ap (without_numbers (n ∷ [])) is ∙ last_dropped n h es (subst HaveOwnNumbers is apart.numbers)

pub linked_back : (es gs : List Numbered) (bs cs : List (BranchId × List ℕ)) → AreLinked es bs → gs ≡ es → cs ≡ bs → AreLinked gs cs
linked_back es gs bs cs are is kept = subst (λ (xs : List Numbered). AreLinked xs cs) (sym is) (subst (AreLinked es) (sym kept) are)

pub on_err_so : {T E P : Type 0} (r : Result T E) → is_err r ≡ true → OnErr r P → P
on_err_so (Ok x) is p = absurd (true≢false (sym is))
on_err_so (Err e) is p = p

pub on_ok_so : {T E P : Type 0} (r : Result T E) → is_err r ≡ false → OnOk r P → P
on_ok_so (Ok x) is p = p
on_ok_so (Err e) is p = absurd (true≢false is)

pub err_so : {T E P : Type 0} (r : Result T E) → P → OnErr r P
err_so (Ok x) p = tt
err_so (Err e) p = p

pub ok_so : {T E P : Type 0} (r : Result T E) → P → OnOk r P
ok_so (Ok x) p = p
ok_so (Err e) p = tt
