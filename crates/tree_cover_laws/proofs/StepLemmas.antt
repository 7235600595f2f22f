-- Where the happenings tell of such a tree what its nodes keep, they tell the steps of the walk that live branches make by the weights that they hold,
-- though some of their children were dropped.
use Rattle.std.proofs.Common.{◌≡◌, ◌≢◌, ℕ, suc, ◌+◌, ◌≤◌, List, ◌∷◌, ◌++◌, map, Option, Some, None, refl, sym, ap, subst, ◌∙◌, arith}
use Rattle.dtx_values.specs.Limits.{depth_limit}
use Rattle.session_tree.specs.Live.{children_of}
use Rattle.session_tree.specs.Tree.{place_of_greatest, walk_by, step}
use Rattle.session_tree.specs.declared.act.Walk.TheVariants as walks
use Rattle.node_rules.specs.Data.{BranchId, Edge, Live}
use Rattle.node_rules.specs.Words.{numbered}
use Rattle.node_rules.specs.NodeState.{Branch}
use Rattle.run_rules.specs.Branches.{Trail, children_at}
use Rattle.run_rules.specs.Data.{Happening}
use Rattle.run_rules.specs.Births.{Born, births_of}
use Rattle.run_rules.specs.Lawful.{History, IsLawfulRun}
use Rattle.run_rules.specs.Tree as seen
use Rattle.run_rules.specs.Tree.{has_changes, strength_of, weight_in}
use Rattle.tree_laws.proofs.ForestLemmas as trees
use Rattle.tree_laws.proofs.PrefixLemmas.{f_at}
use Rattle.tree_laws.proofs.SettleRunLemmas.{known}
use Rattle.tree_laws.proofs.VoterLemmas.{mapped_at, all_numbered}
use Rattle.tree_laws.specs.DecideLaws.{SeesTree}
use Rattle.tree_laws.proofs.FrozenLemmas.{PointsTo, edge_to}
use Rattle.tree_laws.proofs.MemberLemmas.{BornBelow}
use Rattle.tree_laws.proofs.TimeLemmas.{Part, part_lawful}
use Rattle.tree_trail_laws.proofs.FullLemmas.{SeesAll, full}
use Rattle.tree_trail_laws.proofs.MomentLemmas.{tr_at}
use Rattle.tree_trail_laws.proofs.SeenRunLemmas.{all_is_seen}
use Rattle.tree_cover_laws.specs.ToldLaws.{ToldLast}
use Rattle.tree_cover_laws.proofs.HeldLemmas.{map_all, edges_told, holds_at, weighs_told}
use Rattle.tree_cover_laws.proofs.StandLemmas.{Stands, stands_live, placed, shallow}
use Rattle.tree_laws.proofs.AtPart.{at_part}
use Rattle.tree_laws.proofs.StepWeightLemmas.{down_weighs, nowhere_by as nowhere_weighs}

-- ---- steps and weights

-- A happening comes after this moment.
abbrev pub HasNext : History → List Happening → Type 0
HasNext t hs = (h : Happening) × (rest : List Happening) × (hs ++ h ∷ rest ≡ t.trace)

module _ (t : History) (whole : IsLawfulRun t) (hs0 : List Happening) (part0 : Part t whole hs0) (r : BranchId) (next : HasNext t hs0) (sees : SeesTree t.places (f_at t hs0) (tr_at t hs0) r) where
  abbrev tr : Trail
  tr = tr_at t hs0

  open at_part t hs0 use {s as s0, said as said0}

  sees_all : SeesAll t
  sees_all = full t whole (all_is_seen t whole)

  pub kids_seen : (x : Branch) → Stands t whole hs0 part0 r x → children_at tr x.live.me ≡ children_of x.live
  kids_seen x it = sees.children x.live.me x.live it.tree (stands_live t whole hs0 part0 r x it x.live.me refl)

  changes_seen : (x : Branch) → Stands t whole hs0 part0 r x → has_changes tr x.live.me ≡ x.live.changed
  changes_seen x it = sees.changed x.live.me x.live it.tree (stands_live t whole hs0 part0 r x it x.live.me refl)

  strength_seen : (x : Branch) → Stands t whole hs0 part0 r x → strength_of t.places tr x.live.me ≡ x.live.strength
  strength_seen x it = sees.strength x.live.me x.live it.tree (stands_live t whole hs0 part0 r x it x.live.me refl)

  -- ---- children, live or dropped

  -- what is told of the children of a branch: they began below it, and answered its last calls
  abbrev pub KidTold : BranchId → BranchId → Type 0
  KidTold b c = (v : Option ℕ) × ToldLast said0 b c v × BornBelow (births_of s0) c b

  abbrev pub KidsTold : BranchId → Type 0
  KidsTold b = (i : ℕ) (c : BranchId) → numbered (children_at tr b) i ≡ Some c → KidTold b c

  of_edges : (b : BranchId) (l : Live) → children_at tr b ≡ children_of l → ((i : ℕ) (e : Edge) → numbered l.edges i ≡ Some e → ToldLast said0 b e.peer e.weight × BornBelow (births_of s0) e.peer b) → KidsTold b
  of_edges b l kids each i c at =
      let edge = edge_to l.edges i c (subst (λ ps. numbered ps i ≡ Some c) kids at) in
      let so = each i edge.0 edge.1 in
      subst (KidTold b) edge.2 (edge.0.weight, so.0, so.1)

  edges_so : (x : Branch) (it : Stands t whole hs0 part0 r x) (i : ℕ) (e : Edge) → numbered x.live.edges i ≡ Some e → ToldLast said0 x.live.me e.peer e.weight × BornBelow (births_of s0) e.peer x.live.me
  edges_so x it i e at = edges_told t whole hs0 part0 x it.here.kept it.here.up it.here.found it.goes it.waits it.fine i e at

  pub told_kept_row : (x : Branch) → Stands t whole hs0 part0 r x → (b : BranchId) → x.live.me ≡ b → KidsTold b
  told_kept_row x it b me = subst KidsTold me (of_edges x.live.me x.live (kids_seen x it) (edges_so x it))

  pub told_below_it : (p b : BranchId) → KidTold p b → KidsTold b
  told_below_it p b it =
      let was = holds_at t whole sees_all hs0 next.0 next.1 next.2 p b it.2 it.0 it.1 in
      of_edges b was.last was.kids was.each

  -- ---- weights

  -- a child of a branch that rests is told to weigh what the branch holds of it
  kid_weighs : (m : ℕ) → depth_limit ≤ m → (x : Branch) (it : Stands t whole hs0 part0 r x) (i : ℕ) (e : Edge) → numbered x.live.edges i ≡ Some e → weight_in m t.places tr e.peer ≡ e.weight
  kid_weighs m high x it i e at =
      let so = edges_so x it i e at in
      let lawful : IsLawfulRun s0 = part_lawful t whole hs0 part0 in
      let its = placed t whole hs0 part0 r x it in
      let above = trees.below_of (births_of s0) said0 (known s0 lawful) so.1.born x.live.me so.1.began so.1.is_parent in
      let one : above.up ≡ its.born = trees.same_born (births_of s0) said0 (known s0 lawful) above.up its.born above.began its.began (above.is_me ∙ sym its.is_me) in
      let level : above.up.depth ≡ x.live.depth = ap (λ (b : Born). b.depth) one ∙ its.is_depth in
      let low : x.live.depth + 1 ≤ depth_limit = shallow t whole hs0 part0 r x it i e.peer (mapped_at (λ (z : Edge). z.peer) x.live.edges i e at) in
      weighs_told t whole sees_all hs0 next.0 next.1 next.2 m x.live.me e.peer so.1 e.weight so.0 (omega (arith, low, level, above.deeper)) (omega (arith, high, level, above.deeper))

  kids_weigh : (x : Branch) → Stands t whole hs0 part0 r x → map (weight_in depth_limit t.places tr) (children_at tr x.live.me) ≡ map (λ (e : Edge). e.weight) x.live.edges
  kids_weigh x it =
      ap (map (weight_in depth_limit t.places tr)) (kids_seen x it)
      ∙ map_all (weight_in depth_limit t.places tr) x.live.edges (all_numbered (λ e. weight_in depth_limit t.places tr e.peer ≡ e.weight) x.live.edges (kid_weighs depth_limit (omega arith) x it))

  -- the step of the walk
  pub step_seen : (x : Branch) → Stands t whole hs0 part0 r x → (c : BranchId) → x.live.me ≡ c → seen.step t.places tr c ≡ step x.live
  unfolding step seen.step seen.weight
  step_seen x it c me =
      subst (λ b. seen.step t.places tr b ≡ step x.live) me
      (ap (λ q. walk_by q (strength_of t.places tr x.live.me) (place_of_greatest 1 (map (weight_in depth_limit t.places tr) (children_at tr x.live.me)) None)) (changes_seen x it)
      ∙ (ap (λ s. walk_by x.live.changed s (place_of_greatest 1 (map (weight_in depth_limit t.places tr) (children_at tr x.live.me)) None)) (strength_seen x it)
      ∙ ap (λ ws. walk_by x.live.changed x.live.strength (place_of_greatest 1 ws None)) (kids_weigh x it)))

  -- the walk goes on from the child that the step leads to
  pub next_goes : (x : Branch) → Stands t whole hs0 part0 r x → (c : BranchId) → PointsTo x.live c → seen.step t.places tr c ≢ walks.Nowhere
  unfolding seen.step seen.weight
  next_goes x it c down nowhere =
      let edge = edge_to x.live.edges down.0 c down.2 in
      let told : weight_in (suc depth_limit) t.places tr c ≡ None
      = nowhere_weighs (has_changes tr c) (strength_of t.places tr c) (place_of_greatest 1 (map (weight_in depth_limit t.places tr) (children_at tr c)) None) nowhere in
      let its : weight_in (suc depth_limit) t.places tr edge.0.peer ≡ edge.0.weight = kid_weighs (suc depth_limit) (omega arith) x it down.0 edge.0 edge.1 in
      down_weighs x.live down.0 edge.0 down.1 edge.1 (sym its ∙ (ap (weight_in (suc depth_limit) t.places tr) edge.2 ∙ told))
