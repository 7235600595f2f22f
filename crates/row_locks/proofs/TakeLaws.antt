-- What taking a key makes of the locks.
use Rattle.std.proofs.Common.{◌≡◌, ℕ, Bool, true, false, cond, List, [], ◌∷◌, find, None, Some, Option, refl, sym, ap, ◌∙◌}
use Rattle.std.specs.Option.{option_map}
use Rattle.dtx_values.specs.declared.value.Value.{Value}
use Rattle.tran_ids.specs.declared.branch.BranchId.{BranchId}
use Rattle.tran_ids.specs.Branch.{same}
use Rattle.row_locks.specs.declared.held_key.Holder.{Holder}
use Rattle.row_locks.specs.Locks.{Lock, another, holder_of, taken}
use Rattle.row_locks.specs.Numbered.{Numbered, locks_in, is_on, holder_in, holder_on, written, changed_at, HaveOwnNumbers}
use Rattle.row_locks.proofs.KeyLaws.{who, holder_is, taken_own, taken_read}

holder_at : (found : Option Numbered) (h : Holder) → option_map holder_in found ≡ Some h → (x : Numbered) × (found ≡ Some x) × (holder_in x ≡ h)
holder_at None h is = absurd cc
holder_at (Some x) h is = (x, refl, cc)

module _ (branch : BranchId) (table : List ℕ) (key : Value) (es : List Numbered) (ls : List Lock) (view : locks_in es ≡ ls) where
  -- a key that nobody holds
  pub held_by_nobody : holder_on es table key ≡ None → holder_of ls table key ≡ None
  held_by_nobody is = ap (λ all. holder_of all table key) (sym view) ∙ sym (holder_is table key es) ∙ ap (option_map who) is

  pub free_for_all : holder_on es table key ≡ None → None ≡ another branch (holder_of ls table key)
  free_for_all is = ap (another branch) (sym (held_by_nobody is))

  module _ (h : Holder) (is : holder_on es table key ≡ Some h) where
    held_is : holder_of ls table key ≡ Some (h.branch, h.in_doubt)
    held_is = ap (λ all. holder_of all table key) (sym view) ∙ sym (holder_is table key es) ∙ ap (option_map who) is

    -- another branch holds it
    pub held_by_other : same h.branch branch ≡ false → Some (h.branch, h.in_doubt) ≡ another branch (holder_of ls table key)
    held_by_other other = sym (ap (another branch) held_is ∙ ap (λ b. cond b None (Some (h.branch, h.in_doubt))) other)

    -- or the branch itself
    pub held_by_own : same h.branch branch ≡ true → None ≡ another branch (holder_of ls table key)
    held_by_own own = sym (ap (another branch) held_is ∙ ap (λ b. cond b None (Some (h.branch, h.in_doubt))) own)

    -- it is written from then on
    pub taken_to_write : (fs : List Numbered) (writes : Bool) → HaveOwnNumbers es → fs ≡ changed_at written (h.number ∷ []) es → writes ≡ true → locks_in fs ≡ taken ls branch table key writes
    taken_to_write fs writes own marked writes_is =
        let at = holder_at (find (is_on table key) es) h is in
        ap locks_in marked ∙ sym (taken_own table key h.number at.0 es branch own at.1 (ap (λ (x : Holder). x.number) at.2))
        ∙ (λ i. taken (view i) branch table key (sym writes_is i))

    -- or stays as it is
    pub taken_to_read : (writes : Bool) → writes ≡ false → ls ≡ taken ls branch table key writes
    taken_to_read writes writes_is =
        let at = holder_at (find (is_on table key) es) h is in
        sym view ∙ sym (taken_read table key at.0 es branch at.1) ∙ (λ i. taken (view i) branch table key (sym writes_is i))
