-- Branch ids are the same exactly where they are equal.
use Rattle.std.proofs.Common.{◌≡◌, ◌≢◌, ◌⊎◌, Bool, true, false, Decides, refl, inl, inr, sym, ◌∙◌}
use Rattle.std.proofs.lemmas.Bool.{true≢false}
use Rattle.tran_ids.proofs.BranchLemmas.{equal_from_same, same_from_equal}
use Rattle.agreement.specs.Data.{BranchId}
use Rattle.tran_ids.specs.Branch.{same}

pub same_reports : (a b : BranchId) → Decides (same a b) (a ≡ b)
same_reports a b = (equal_from_same a b, same_from_equal a b)

pub cases_same : (a b : BranchId) → (a ≡ b) ⊎ (a ≢ b)
cases_same a b = go (same a b) refl
  where
    go : (q : Bool) → same a b ≡ q → (a ≡ b) ⊎ (a ≢ b)
    go true e = inl (equal_from_same a b e)
    go false e = inr (λ h. true≢false (sym (same_from_equal a b h) ∙ e))
