-- Where each branch that is gone without changes is told so, with children that are gone so too, none of the tree below has changes.
use Rattle.std.proofs.Common.{◌≡◌, ◌≢◌, ℕ, zero, suc, List, [], ◌∷◌, flat_map, Some, None, refl, sym, ap, subst, ◌∙◌}
use Rattle.std.specs.List.{AllByRecursion}
use Rattle.agreement.specs.Events.{Event, Quiet, exit}
use Rattle.dtx_values.specs.Limits.{depth_limit}
use Rattle.node_rules.specs.Data.{BranchId}
use Rattle.node_rules.specs.Words.{numbered}
use Rattle.run_rules.specs.Branches.{Seen, Trail, seen_at, own_at, own_of, children_of}
use Rattle.run_claims.specs.Knowledge.{HasNoChanges}
use Rattle.run_rules.specs.Tree.{tree_in, tree}
use Rattle.run_rules.proofs.ListLemmas.{all_weaker, all_append}

-- A branch below a root is told to have no changes, and its children are gone without changes.
pub record IsQuiet (e : List Event) (tr : Trail) (b : BranchId) : Type 0 where
  pub seen : Seen
  pub at : seen_at tr b ≡ Some seen
  pub below : seen.parent ≢ None
  pub own : own_of (Some seen) ≡ []
  pub kids : AllByRecursion (λ c. exit e c ≡ Some Quiet) seen.children

-- ---- lists

all_flat : (P : BranchId → Type 0) (g : BranchId → List BranchId) (cs : List BranchId) → AllByRecursion (λ c. AllByRecursion P (g c)) cs → AllByRecursion P (flat_map g cs)
all_flat P g [] all = tt
all_flat P g (c ∷ cs) all = all_append P (g c) (flat_map g cs) all.0 (all_flat P g cs all.1)

pub all_numbered : (P : BranchId → Type 0) (cs : List BranchId) → ((i : ℕ) (c : BranchId) → numbered cs i ≡ Some c → P c) → AllByRecursion P cs
all_numbered P [] each = tt
all_numbered P (c ∷ cs) each = (each 1 c refl, all_numbered P cs next)
  where
    next : (i : ℕ) (d : BranchId) → numbered cs i ≡ Some d → P d
    next zero d at = absurd cc
    next (suc i) d at = each (suc (suc i)) d at

-- ---- the tree

module _ (e : List Event) (tr : Trail) (told : (b : BranchId) → exit e b ≡ Some Quiet → IsQuiet e tr b) where
  abbrev Unchanged : BranchId → Type 0
  Unchanged c = own_at tr c ≡ []

  one_tree : (levels : ℕ) → ((c : BranchId) → exit e c ≡ Some Quiet → AllByRecursion Unchanged (tree_in levels tr c)) → (b : BranchId) → IsQuiet e tr b → AllByRecursion Unchanged (tree_in (suc levels) tr b)
  one_tree levels below b it = (
    ap own_of it.at ∙ it.own,
    subst (λ cs. AllByRecursion Unchanged (flat_map (tree_in levels tr) cs)) (sym (ap children_of it.at))
        (all_flat Unchanged (tree_in levels tr) it.seen.children (all_weaker (λ c. exit e c ≡ Some Quiet) (λ c. AllByRecursion Unchanged (tree_in levels tr c)) below it.seen.children it.kids)),
  )

  quiet_in : (levels : ℕ) (b : BranchId) → IsQuiet e tr b → AllByRecursion Unchanged (tree_in levels tr b)
  quiet_in zero b it = tt
  quiet_in (suc levels) b it = one_tree levels (λ c is. quiet_in levels c (told c is)) b it

  pub no_changes : (b : BranchId) → IsQuiet e tr b → HasNoChanges tr b
  unfolding tree
  no_changes b it = quiet_in depth_limit b it
