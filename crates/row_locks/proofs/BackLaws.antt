-- Locks of a branch that goes back: a key that stays counts as written, the others go as only read, and then a key is written
-- where a change is left.
use Rattle.std.proofs.Common.{◌≡◌, ℕ, Bool, true, false, cond, not, ◌||◌, List, [], ◌∷◌, ◌++◌, map, filter, refl, sym, ap, subst, ◌∙◌}
use Rattle.dtx_values.specs.declared.row.Change.{Change}
use Rattle.savepoints.specs.declared.marks.Note.{Note}
use Rattle.tran_ids.specs.declared.branch.BranchId.{BranchId}
use Rattle.row_locks.specs.Locks.{Lock, is_held_by, lock_back, without_reads}
use Rattle.row_locks.specs.Numbered.{Numbered, lock_of, locks_in, changed_at}
use Rattle.row_locks.specs.ByBranch.{numbers_at, AreLinked}
use Rattle.row_locks.specs.Back.{is_changed_in, stays_by, kept_if, kept_by, with_kept, gone_back}
use Rattle.row_locks.proofs.BranchLaws.{AreItsNumbers, its_numbers}

module _ (ns : List Note) (cs : List Change) (b : BranchId) where
  kept_step : (e : Numbered) (its : Bool) → lock_of (cond its (e.0, kept_if ns cs e.1) e).1 ≡ cond its (record (lock_of e.1) { writes = stays_by ns cs e.1.table e.1.key }) (lock_of e.1)
  kept_step e true = refl
  kept_step e false = refl

  kept_all : (ms : List ℕ) (es : List Numbered) → AreItsNumbers b ms es → locks_in (changed_at (kept_if ns cs) ms es) ≡ with_kept (locks_in es) b ns cs
  kept_all ms [] its = refl
  kept_all ms (e ∷ es) its =
      (λ i. lock_of (cond (its.0 i) (e.0, kept_if ns cs e.1) e).1 ∷ kept_all ms es its.1 i)
      ∙ ap (λ (l : Lock). l ∷ with_kept (locks_in es) b ns cs) (kept_step e (is_held_by b (lock_of e.1)))

  -- what the kept numbers of a branch make of its locks
  pub kept_is : (ms : List ℕ) (es fs : List Numbered) (bs : List (BranchId × List ℕ)) → AreLinked es bs → ms ≡ numbers_at bs b → fs ≡ changed_at (kept_if ns cs) ms es
      → locks_in fs ≡ with_kept (locks_in es) b ns cs
  kept_is ms es fs bs are its is =
      ap locks_in is ∙ kept_all ms es (subst (λ (xs : List ℕ). AreItsNumbers b xs es) (sym (its ∙ are.linked b)) (its_numbers b es are.own))

  -- one lock on its way: it stays or goes, and is written where a change is left
  back_if : (l : Lock) (rest : List Lock) (held stays : Bool) → is_held_by b l ≡ held → stays_by ns cs l.table l.key ≡ stays
      → map (kept_by b [] cs) (cond (not (is_held_by b (cond held (record l { writes = stays }) l)) || (cond held (record l { writes = stays }) l).writes) (cond held (record l { writes = stays }) l ∷ rest) rest)
      ≡ cond held (cond stays (record l { writes = is_changed_in cs l.table l.key } ∷ []) []) (l ∷ []) ++ map (kept_by b [] cs) rest
  back_if l rest true true held stays =
      (λ i. map (kept_by b [] cs) (cond (not (held i) || true) (record l { writes = true } ∷ rest) rest))
      ∙ (λ i. cond (held i) (record l { writes = is_changed_in cs l.table l.key }) (record l { writes = true }) ∷ map (kept_by b [] cs) rest)
  back_if l rest true false held stays = (λ i. map (kept_by b [] cs) (cond (not (held i) || false) (record l { writes = false } ∷ rest) rest))
  back_if l rest false stays held is =
      (λ i. map (kept_by b [] cs) (cond (not (held i) || l.writes) (l ∷ rest) rest))
      ∙ (λ i. cond (held i) (record l { writes = is_changed_in cs l.table l.key }) l ∷ map (kept_by b [] cs) rest)

  -- all three steps together
  pub back_is : (ls : List Lock) → with_kept (without_reads (with_kept ls b ns cs) b) b [] cs ≡ gone_back ls b ns cs
  back_is [] = refl
  back_is (l ∷ ls) =
      back_if l (filter (λ m. not (is_held_by b m) || m.writes) (with_kept ls b ns cs)) (is_held_by b l) (stays_by ns cs l.table l.key) refl refl
      ∙ ap (λ (rest : List Lock). lock_back b (λ m. stays_by ns cs m.table m.key) (λ m. is_changed_in cs m.table m.key) l ++ rest) (back_is ls)
