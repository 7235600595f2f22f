-- The edge and the parent of a branch as it began, and what live branches say of them.
use Rattle.std.proofs.Common.{◌≡◌, ℕ, zero, suc, ◌+◌, List, [], ◌∷◌, map, option_map, Option, Some, None, sym, ap, subst, ◌∙◌, arith}
use Rattle.session_tree.specs.Live.{children_of}
use Rattle.node_rules.specs.Data.{BranchId, Edge, Live}
use Rattle.node_rules.specs.Words.{numbered}
use Rattle.run_rules.specs.Births.{Born, born_at}
use Rattle.run_base_laws.specs.BirthLaws.{Began, IsChild, IsChildAt, ChildrenAre, LiveIs}
use Rattle.run_base_laws.proofs.InTurnLemmas.{peer}

-- the number of a branch's edge, and its parent, as it began
abbrev pub edge_of : List Born → BranchId → Option ℕ
edge_of bs b = option_map (λ x. x.edge) (born_at bs b)

abbrev pub parent_in : Option Born → Option BranchId
parent_in None = None
parent_in (Some x) = x.parent

abbrev pub parent_of : List Born → BranchId → Option BranchId
parent_of bs b = parent_in (born_at bs b)

module _ (bs : List Born) where
  pub child_edge : (c p : BranchId) (i : ℕ) → IsChildAt (Began bs) c p i → edge_of bs c ≡ Some i
  child_edge c p i is = let at : born_at bs c ≡ Some is.0 = subst (λ b. born_at bs b ≡ Some is.0) is.2 is.1 in ap (option_map (λ x. x.edge)) at ∙ ap Some is.4

  pub child_parent : (c p : BranchId) → IsChild (Began bs) c p → parent_of bs c ≡ Some p
  child_parent c p is = let at : born_at bs c ≡ Some is.0 = subst (λ b. born_at bs b ≡ Some is.0) is.2 is.1 in ap parent_in at ∙ is.3

  peers_at : (me : BranchId) (from : ℕ) (es : List Edge) (j : ℕ) (c : BranchId) → ChildrenAre (Began bs) me from es → numbered (map peer es) (suc j) ≡ Some c → IsChildAt (Began bs) c me (from + j)
  peers_at me from [] j c all at = absurd cc
  peers_at me from (e ∷ es) zero c all at = let it : Some e.peer ≡ Some c = at in let here : e.peer ≡ c = cc in let number : from ≡ from + 0 = omega arith in subst (IsChildAt (Began bs) c me) number (subst (λ b. IsChildAt (Began bs) b me from) here all.0)
  peers_at me from (e ∷ es) (suc j) c all at = let number : (from + 1) + j ≡ from + suc j = omega arith in subst (IsChildAt (Began bs) c me) number (peers_at me (from + 1) es j c all.1 at)

  pub kids_of : (l : Live) → LiveIs (Began bs) l → (i : ℕ) (c : BranchId) → numbered (children_of l) i ≡ Some c → edge_of bs c ≡ Some i
  kids_of l is zero c at = absurd cc
  kids_of l is (suc j) c at = let number : 1 + j ≡ suc j = omega arith in subst (λ n. edge_of bs c ≡ Some n) number (child_edge c l.me (1 + j) (peers_at l.me 1 l.edges j c is.children at))

  pub above_of : (l : Live) → LiveIs (Began bs) l → (p : BranchId) → parent_of bs l.me ≡ Some p → l.parent ≡ Some p
  above_of l is p at =
      let here : born_at bs l.me ≡ Some is.born = subst (λ b. born_at bs b ≡ Some is.born) is.is_me is.began in
      let parent : parent_of bs l.me ≡ is.born.parent = ap parent_in here in
      sym is.is_parent ∙ (sym parent ∙ at)

  pub child_of : (l : Live) → LiveIs (Began bs) l → (i : ℕ) (c : BranchId) → numbered (children_of l) i ≡ Some c → parent_of bs c ≡ Some l.me
  child_of l is zero c at = absurd cc
  child_of l is (suc j) c at = let one : IsChildAt (Began bs) c l.me (1 + j) = peers_at l.me 1 l.edges j c is.children at in child_parent c l.me (one.0, one.1, one.2, one.3)
