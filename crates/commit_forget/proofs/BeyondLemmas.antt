-- Those beyond are the parent, unless it is toward, and the children that are not.
use Rattle.std.proofs.Common.{◌≡◌, ◌&&◌, ◌||◌, not, Bool, true, false, if◌then◌else◌, List, [], ◌∷◌, ◌++◌, map, filter, Option, refl, ap, sym, ◌∙◌, arith}
use Rattle.std.specs.List.{list_all, list_any}
use Rattle.std.proofs.lemmas.List.Folds.{list_any-append}
use Rattle.tran_ids.specs.declared.branch.BranchId.{BranchId}
use Rattle.tran_ids.specs.Branch.{same}
use Rattle.redo_record.specs.declared.durable.Kid.{Kid}
use Rattle.redo_record.specs.declared.durable.KeptRow.{KeptRow}
use Rattle.session_tree.specs.Live.{is_branch}
use Rattle.commit_forget.specs.declared.next.Beyond.{Beyond}
use Rattle.commit_forget.specs.Beyond.{parent_beyond, kid_beyond, beyond, all_acked, is_beyond, needs_no_ack, is_this_kid}

module _ (p : Beyond → Bool) where
  all_append : (xs ys : List Beyond) → list_all p (xs ++ ys) ≡ (list_all p xs && list_all p ys)
  all_append [] ys = refl
  all_append (x ∷ xs) ys = grind (arith, all_append xs ys)

-- everybody beyond has acknowledged where the parent has and the children have
pub all_is : (s : KeptRow) → (list_all (λ b. b.acked) (parent_beyond s s.parent) && list_all (λ b. b.acked) (map kid_beyond (filter (λ c. not (is_branch c.branch s.toward)) s.children))) ≡ all_acked s
unfolding beyond
all_is s = sym (all_append (λ b. b.acked) (parent_beyond s s.parent) (map kid_beyond (filter (λ c. not (is_branch c.branch s.toward)) s.children)))

-- a branch is beyond where it is the parent or one of the children
pub any_is : (s : KeptRow) (from : BranchId) → (list_any (λ b. same b.branch from) (parent_beyond s s.parent) || list_any (λ b. same b.branch from) (map kid_beyond (filter (λ c. not (is_branch c.branch s.toward)) s.children))) ≡ is_beyond s from
unfolding beyond
any_is s from = sym (list_any-append (λ b. same b.branch from) (parent_beyond s s.parent) (map kid_beyond (filter (λ c. not (is_branch c.branch s.toward)) s.children)))

module _ (toward : Option BranchId) where
  all_if : (away : Bool) (c : Kid) (cs : List Kid) (rest : Bool) → list_all (λ b. b.acked) (map kid_beyond cs) ≡ rest
      → ((not away || c.acked) && rest) ≡ list_all (λ b. b.acked) (map kid_beyond (if away then c ∷ cs else cs))
  all_if true c cs rest is = ap (λ more. c.acked && more) (sym is)
  all_if false c cs rest is = sym is

  -- the children that are not toward, one after the other
  pub all_kids : (kids : List Kid) → list_all (needs_no_ack toward) kids ≡ list_all (λ b. b.acked) (map kid_beyond (filter (λ c. not (is_branch c.branch toward)) kids))
  all_kids [] = refl
  all_kids (c ∷ cs) = ap (λ more. (not (not (is_branch c.branch toward)) || c.acked) && more) (all_kids cs) ∙ all_if (not (is_branch c.branch toward)) c _ _ refl

  any_if : (from : BranchId) (away : Bool) (c : Kid) (cs : List Kid) (rest : Bool) → list_any (λ b. same b.branch from) (map kid_beyond cs) ≡ rest
      → ((away && same c.branch from) || rest) ≡ list_any (λ b. same b.branch from) (map kid_beyond (if away then c ∷ cs else cs))
  any_if from true c cs rest is = ap (λ more. same c.branch from || more) (sym is)
  any_if from false c cs rest is = sym is

  pub any_kids : (from : BranchId) (kids : List Kid) → list_any (is_this_kid toward from) kids ≡ list_any (λ b. same b.branch from) (map kid_beyond (filter (λ c. not (is_branch c.branch toward)) kids))
  any_kids from [] = refl
  any_kids from (c ∷ cs) = ap (λ more. (not (is_branch c.branch toward) && same c.branch from) || more) (any_kids from cs) ∙ any_if from (not (is_branch c.branch toward)) c _ _ refl

module _ (s : KeptRow) where
  -- where the parent has acknowledged, the children decide
  pub acked_by_kids : list_all (λ b. b.acked) (parent_beyond s s.parent) ≡ true → list_all (needs_no_ack s.toward) s.children ≡ all_acked s
  acked_by_kids parent =
      all_kids s.toward s.children
      ∙ sym (ap (λ p. p && list_all (λ b. b.acked) (map kid_beyond (filter (λ c. not (is_branch c.branch s.toward)) s.children))) parent)
      ∙ all_is s

  pub not_acked : list_all (λ b. b.acked) (parent_beyond s s.parent) ≡ false → all_acked s ≡ false
  not_acked parent = sym (all_is s) ∙ ap (λ p. p && list_all (λ b. b.acked) (map kid_beyond (filter (λ c. not (is_branch c.branch s.toward)) s.children))) parent

  -- where the parent is not this branch, the children decide
  pub beyond_by_kids : (from : BranchId) → list_any (λ b. same b.branch from) (parent_beyond s s.parent) ≡ false → list_any (is_this_kid s.toward from) s.children ≡ is_beyond s from
  beyond_by_kids from parent =
      any_kids s.toward from s.children
      ∙ sym (ap (λ p. p || list_any (λ b. same b.branch from) (map kid_beyond (filter (λ c. not (is_branch c.branch s.toward)) s.children))) parent)
      ∙ any_is s from

  pub beyond_by_parent : (from : BranchId) → list_any (λ b. same b.branch from) (parent_beyond s s.parent) ≡ true → is_beyond s from ≡ true
  beyond_by_parent from parent = sym (any_is s from) ∙ ap (λ p. p || list_any (λ b. same b.branch from) (map kid_beyond (filter (λ c. not (is_branch c.branch s.toward)) s.children))) parent
