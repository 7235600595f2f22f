-- Lists, how far branches can be from the site, and the neighbours that a row names and that are not toward.
use Rattle.std.proofs.Common.{◌≡◌, ℕ, ◌+◌, ◌≤◌, ◌⊎◌, ◌&&◌, not, Bool, true, false, List, [], ◌∷◌, filter, Option, Some, None, inl, inr, refl, ap, ◌∙◌, arith}
use Rattle.std.specs.List.{AllByRecursion, list_all}
use Rattle.std.proofs.lemmas.Bool.{cond_both, not-true}
use Rattle.commit_forget.specs.declared.next.Beyond.{Beyond as Neighbor}
use Rattle.commit_forget.specs.Beyond.{beyond, parent_beyond as parent_neighbor, kid_beyond}
use Rattle.session_tree.specs.Live.{is_branch}
use Rattle.node_rules.specs.Data.{BranchId, Kid, KeptRow}
use Rattle.node_rules.specs.Words.{same}
use Rattle.node_rules.specs.NodeState.{NodeState, Branch, live_at, branch_at, kept_row_at, with_work}
use Rattle.node_rules.specs.Turn.{Is_gone, live_or, status_of}
use Rattle.run_rules.specs.Births.{Born, born_at}
use Rattle.run_base_laws.specs.BirthLaws.{IsChild, KeptIs}
use Rattle.run_rules.proofs.ListLemmas.{all_filter, all_append, all_map}
use Rattle.tree_laws.specs.Forests.{depth_in, depth_at, deepest, far_by}

-- ---- lists

pub all_true : (ys : List Neighbor) → AllByRecursion (λ y. y.acked ≡ true) ys → list_all (λ y. y.acked) ys ≡ true
all_true [] all = refl
all_true (y ∷ ys) all = ap (λ q. q && list_all (λ z. z.acked) ys) all.0 ∙ all_true ys all.1

-- ---- how far branches are from the site

pub deep_low : (bs : List Born) (b : BranchId) → depth_at bs b ≤ deepest bs
deep_low [] b = omega arith
deep_low (x ∷ bs) b = cond_both (same x.me b) (Some x) (born_at bs b) (λ o. depth_in o ≤ deepest (x ∷ bs)) (λ here. omega arith) (λ other. (let low = deep_low bs b in omega (arith, low)))

pub far_low : (comes : Bool) (site depth most : ℕ) → site ≤ most → depth ≤ most → far_by comes site depth ≤ most + most + 1
far_low true site depth most one two = omega (arith, one)
far_low false site depth most one two = omega (arith, one, two)

-- ---- the neighbours of a row that are not toward

module _ (B : Born → Type 0) (s : KeptRow) (is : KeptIs B s) where
  -- one that is not toward, and is the parent or a child
  abbrev pub IsOff : BranchId → Type 0
  IsOff x = (is_branch x s.toward ≡ false) × ((s.parent ≡ Some x) ⊎ IsChild B x s.me)

  parent_off : (o : Option BranchId) → s.parent ≡ o → AllByRecursion (λ (y : Neighbor). IsOff y.branch) (parent_neighbor s o)
  parent_off None at = tt
  parent_off (Some q) at = cond_both (is_branch q s.toward) _ _ (AllByRecursion (λ (y : Neighbor). IsOff y.branch)) (λ on. tt) (λ off. ((off, inl at), tt))

  pub beyond_off : AllByRecursion (λ (y : Neighbor). IsOff y.branch) (beyond s)
  unfolding beyond
  beyond_off =
      all_append (λ (y : Neighbor). IsOff y.branch) (parent_neighbor s s.parent) _ (parent_off s.parent refl)
      (all_map (λ (y : Neighbor). IsOff y.branch) kid_beyond (filter (λ c. not (is_branch c.branch s.toward)) s.children)
      (all_filter (λ (c : Kid). IsChild B c.branch s.me) (λ (c : Kid). IsOff c.branch) (λ c. not (is_branch c.branch s.toward)) (λ c off child. (not-true (is_branch c.branch s.toward) off, inr child)) s.children is.kids))

-- nothing of a branch is known that is neither live nor kept
pub gone_so : (k : NodeState) (b : BranchId) → branch_at k b ≡ None → kept_row_at k b ≡ None → status_of k b ≡ Is_gone
unfolding status_of
gone_so k b live row = by (branch_at k b) (kept_row_at k b) live row
  where
    by : (o : Option Branch) (q : Option KeptRow) → o ≡ None → q ≡ None → live_or o q ≡ Is_gone
    by None None is it = refl
    by (Some z) q is it = absurd cc
    by None (Some z) is it = absurd cc

pub none_live : (k : NodeState) (b : BranchId) → live_at k b ≡ None → branch_at k b ≡ None
none_live k b none = ap (with_work k) none
