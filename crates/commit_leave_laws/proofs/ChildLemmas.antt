-- The child over the edge that a branch of an undisturbed COMMIT's transaction began over is that branch.
use Rattle.std.proofs.Common.{◌≡◌, ℕ, zero, suc, ◌+◌, ◌<◌, ◌≤◌, ◌⊎◌, List, [], ◌∷◌, map, length, option_map, Some, inl, inr, refl, sym, ap, subst, ◌∙◌, arith, append-nil}
use Rattle.node_rules.specs.Data.{BranchId, Edge, Live}
use Rattle.node_rules.specs.NodeState.{NodeState, live_id, live_at}
use Rattle.node_rules.specs.Words.{numbered}
use Rattle.session_tree.specs.Live.{children_of}
use Rattle.run_rules.specs.Births.{Born, births_of, born_id, born_at}
use Rattle.run_base_laws.specs.BirthLaws.{Began, LiveIs, StandsBelow}
use Rattle.run_rules.specs.Data.{Happening}
use Rattle.run_rules.specs.Facts.{node_at}
use Rattle.run_base_laws.specs.InTurnLaws.{said_in}
use Rattle.run_rules.specs.Lawful.{History, IsLawfulRun, facts_at}
use Rattle.run_rules.proofs.AtNodeLemmas.{item_there}
use Rattle.run_base_laws.proofs.BirthRunLemmas.{births_are_trees, nodes_name_the_born}
use Rattle.run_base_laws.proofs.KidLemmas.{child_of, kids_of}
use Rattle.run_base_laws.proofs.OwnLemmas.{all_found}
use Rattle.tree_laws.proofs.PrefixLemmas.{so_far, f_at}
use Rattle.tree_laws.proofs.MemberLemmas.{BornBelow, born_below}
use Rattle.tree_laws.proofs.TimeLemmas.{Part, part_lawful, born_end}
use Rattle.run_claims.specs.Undisturbed.{Commit, Undisturbed, HasNotStopped}
use Rattle.commit_laws.proofs.StillLemmas.{stays_up}
use Rattle.answer_origin_laws.proofs.OpenSentLemmas.{IsOpenTo, WasOpened, opened_at}
use Rattle.commit_leave_laws.specs.StrayLaws.{count_opens}
use Rattle.commit_leave_laws.proofs.EdgeLemmas.{edges_have_one_child}
use Rattle.commit_leave_laws.proofs.OpenLemmas.{counts}
use Rattle.commit_leave_laws.proofs.OpenRunLemmas.{opens_once}

pub numbered_peer : (es : List Edge) (i : ℕ) (e : Edge) → numbered es i ≡ Some e → numbered (map (λ (x : Edge). x.peer) es) i ≡ Some e.peer
numbered_peer es zero e at = absurd cc
numbered_peer [] (suc i) e at = absurd cc
numbered_peer (x ∷ es) (suc zero) e at = ap (λ o. option_map (λ (y : Edge). y.peer) o) at
numbered_peer (x ∷ es) (suc (suc i)) e at = numbered_peer es (suc i) e at

pub zero_or : (n : ℕ) → (n ≡ 0) ⊎ (1 ≤ n)
zero_or zero = inl refl
zero_or (suc n) = inr (omega arith)

pub at_most : (n m : ℕ) → (n ≤ m) ⊎ (m < n)
at_most zero m = inl (omega arith)
at_most (suc n) zero = inr (omega arith)
at_most (suc n) (suc m) = elim (at_most n m) [ inl low ↦ inl (omega (arith, low)) | inr high ↦ inr (omega (arith, high)) ]

module _ (t : History) (whole : IsLawfulRun t) (c : Commit t.places t.commands t.trace) (u : Undisturbed t.places t.commands t.trace c) where
  abbrev r : BranchId
  r = c.root

  abbrev bs : List Born
  bs = births_of t

  abbrev end : Part t whole t.trace
  end = record { rest = []; is = append-nil t.trace }

  pub same_born : (x y : Born) → Began bs x → Began bs y → x.me ≡ y.me → x ≡ y
  same_born x y began_x began_y me =
      let one : born_at bs y.me ≡ Some x = subst (λ b. born_at bs b ≡ Some x) me began_x in
      let both : Some x ≡ Some y = sym one ∙ began_y in
      cc

  pub stays : (x : Born) → Began bs x → x.root ≡ r → HasNotStopped (facts_at t) x.me
  stays x began of = stays_up t whole c u x began of

  -- a branch has the root of its parent
  pub parent_of_tree : (x : Born) → Began bs x → (p : BranchId) → x.parent ≡ Some p → (y : Born) × Began bs y × (y.me ≡ p) × (y.root ≡ x.root) × (y.depth + 1 ≡ x.depth)
  parent_of_tree x began p above = subst (StandsBelow (Began bs) x) above (all_found (λ z. StandsBelow (Began bs) z z.parent) born_id bs x.me x (births_are_trees t whole) began)

  pub opened : (x : Born) → Began bs x → (p : BranchId) → x.parent ≡ Some p → 1 ≤ count_opens (said_in (facts_at t)) p x.edge
  opened x began p above =
      let open_x : IsOpenTo (said_in (facts_at t)) p x.edge x.me.node = all_found (WasOpened (said_in (facts_at t))) born_id bs x.me x (opened_at t whole t.trace end) began p above in
      counts (said_in (facts_at t)) open_x.number open_x.sent p x.edge open_x.root open_x.depth open_x.read_at open_x.at open_x.from open_x.kind

  -- edges are numbered from 1
  pub edge_above : (x : Born) → Began bs x → (p : BranchId) → x.parent ≡ Some p → 1 ≤ x.edge
  edge_above x began p above = elim (zero_or x.edge) [
    | inr some ↦ some
    | inl none ↦ (let some : 1 ≤ count_opens (said_in (facts_at t)) p 0 = subst (λ i. 1 ≤ count_opens (said_in (facts_at t)) p i) none (opened x began p above) in
        let no : count_opens (said_in (facts_at t)) p 0 ≡ 0 = (opens_once t whole p 0).1 in
        absurd (omega (arith, some, no)))
  ]

  -- the child over the edge of a branch's birth is that branch
  module _ (x : Born) (began : Began bs x) (of : x.root ≡ r) (p : BranchId) (above : x.parent ≡ Some p) (hs : List Happening) (part : Part t whole hs) (k : NodeState) (n : ℕ) (up : node_at (f_at t hs) n ≡ Some k) (l : Live) (live : live_at k l.me ≡ Some l) (me : l.me ≡ p)
      (wide : x.edge ≤ length l.edges) where
    abbrev s : History
    s = so_far t hs

    placed : LiveIs (Began (births_of s)) l
    placed = all_found (LiveIs (Began (births_of s))) live_id k.lives l.me l (nodes_name_the_born s (part_lawful t whole hs part) n k up).0 live

    edge : (e : Edge) × (numbered l.edges x.edge ≡ Some e)
    edge = item_there l.edges x.edge (edge_above x began p above) wide

    at : numbered (children_of l) x.edge ≡ Some edge.0.peer
    at = numbered_peer l.edges x.edge edge.0 edge.1

    kid : BornBelow (births_of s) edge.0.peer l.me
    kid = born_below (births_of s) edge.0.peer l.me (child_of (births_of s) l placed x.edge edge.0.peer at)

    kid_edge : kid.born.edge ≡ x.edge
    kid_edge =
        let number = kids_of (births_of s) l placed x.edge edge.0.peer at in
        let its : born_at (births_of s) edge.0.peer ≡ Some kid.born = subst (λ b. born_at (births_of s) b ≡ Some kid.born) kid.is_me kid.began in
        let both : Some kid.born.edge ≡ Some x.edge = sym (ap (λ o. option_map (λ (y : Born). y.edge) o) its) ∙ number in
        cc

    kid_began : Began bs kid.born
    kid_began = born_end t whole hs part kid.born kid.began

    kid_above : kid.born.parent ≡ Some p
    kid_above = kid.is_parent ∙ ap Some me

    kid_of : kid.born.root ≡ r
    kid_of =
        let one = parent_of_tree kid.born kid_began p kid_above in
        let two = parent_of_tree x began p above in
        let same_parent : one.0 ≡ two.0 = same_born one.0 two.0 one.1 two.1 (one.2 ∙ sym two.2) in
        sym one.3 ∙ (ap (λ (z : Born). z.root) same_parent ∙ (two.3 ∙ of))

    kid_is : edge.0.peer ≡ x.me
    kid_is = sym kid.is_me ∙ edges_have_one_child t whole kid.born x kid_began began p kid_above above kid_edge (stays kid.born kid_began kid_of) (stays x began of)

    pub is_child : numbered (children_of l) x.edge ≡ Some x.me
    is_child = at ∙ ap Some kid_is
