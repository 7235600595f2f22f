-- Where the trail of the happenings sees the live branches of a tree as their nodes keep them, their weights and their walk are the trail's.
use Rattle.std.proofs.Common.{◌≡◌, ◌≢◌, ℕ, zero, suc, ◌+◌, ◌≤◌, ◌⊎◌, true, List, [], ◌∷◌, length, map, Option, Some, None, inl, inr, refl, sym, ap, subst, ◌∙◌, arith}
use Rattle.std.specs.Prelude.{flat_map}
use Rattle.std.specs.List.{AllByRecursion}
use Rattle.dtx_values.specs.Limits.{depth_limit}
use Rattle.session_tree.specs.Live.{children_of}
use Rattle.session_tree.specs.Tree.{place_of_greatest, weight_by, walk_by, weight, step}
use Rattle.session_tree.specs.declared.act.Walk.TheVariants as walks
use Rattle.agreement.specs.Events.{Exit, Sealed, Dropped, exit}
use Rattle.node_rules.specs.Data.{BranchId, Edge, Live}
use Rattle.node_rules.specs.Words.{numbered}
use Rattle.node_rules.specs.NodeState.{Branch}
use Rattle.node_rules.proofs.StandLemmas.{live_so}
use Rattle.run_rules.specs.Data.{Happening}
use Rattle.run_rules.specs.Lawful.{History, IsLawfulRun, facts_at}
use Rattle.run_rules.specs.Births.{Born, births_of}
use Rattle.run_base_laws.specs.BirthLaws.{Began, LiveIs}
use Rattle.run_rules.specs.Branches.{Trail, children_at}
use Rattle.run_base_laws.specs.FreezeLaws.{was_asked}
use Rattle.run_base_laws.specs.InTurnLaws.{said_in}
use Rattle.run_base_laws.specs.RunEvents.{events_of}
use Rattle.run_rules.specs.Tree as seen
use Rattle.run_rules.specs.Tree.{has_changes, strength_of, weight_in, goes_down, walks_by, walk_in, last_of, tree_in, planned, plan}
use Rattle.tree_laws.proofs.ForestLemmas as trees
use Rattle.tree_laws.proofs.SettleRunLemmas.{known}
use Rattle.tree_laws.proofs.VoterLemmas.{mapped_at, all_numbered}
use Rattle.tree_laws.specs.DecideLaws.{live_of, live_in, WalksTo, Ends_here, Goes_down, InTree, Is_root, Is_child, SeesTree, IsCoveredBy}
use Rattle.tree_laws.proofs.FrozenLemmas.{Member}
use Rattle.tree_laws.proofs.MemberLemmas.{IsIn, kid_of}
use Rattle.tree_laws.proofs.ShallowLemmas.{parents_are_shallow}
use Rattle.tree_laws.proofs.TimeLemmas.{Part, part_lawful, born_end}
use Rattle.run_rules.proofs.AtNodeLemmas.{range_of}
use Rattle.run_rules.proofs.ListLemmas.{all_append, all_map, all_weaker}
use Rattle.run_base_laws.proofs.InTurnLemmas.{length_peers}
use Rattle.tree_laws.proofs.WeighLemmas.{children_weigh, child_parent, placed_of}
use Rattle.tree_laws.proofs.AtPart.{at_part}

map_all : (f : BranchId → Option ℕ) (es : List Edge) → AllByRecursion (λ e. f e.peer ≡ e.weight) es → map f (map (λ (e : Edge). e.peer) es) ≡ map (λ (e : Edge). e.weight) es
map_all f [] all = refl
map_all f (e ∷ es) all = ap (λ w. w ∷ map f (map (λ (z : Edge). z.peer) es)) all.0 ∙ ap (λ ws. e.weight ∷ ws) (map_all f es all.1)

last_more : (b d : BranchId) (xs : List BranchId) → last_of xs ≡ Some d → last_of (b ∷ xs) ≡ Some d
last_more b d [] is = absurd cc
last_more b d (x ∷ xs) is = is

module _ (t : History) (whole : IsLawfulRun t) (hs0 : List Happening) (part0 : Part t whole hs0) (r : BranchId)
    (covered : (q c : BranchId) → was_asked (said_in (facts_at t)) q c ≡ true → IsIn (births_of t) r c → (z : Exit) × (exit (events_of t) c ≡ Some z) × (z ≢ Dropped)) where
  open at_part t hs0 use {f as f0, s as s0}

  lawful0 : IsLawfulRun s0
  lawful0 = part_lawful t whole hs0 part0

  -- it is live
  pub member_live : (x : Branch) → Member t whole hs0 part0 r x → (c : BranchId) → x.live.me ≡ c → live_in f0 c ≡ Some x.live
  member_live x member c me =
      subst (λ b. live_in f0 b ≡ Some x.live) me (ap (λ o. live_of o x.live.me) member.here.up ∙ live_so member.here.kept x.live.me x member.here.found)

  pub placed : (x : Branch) → Member t whole hs0 part0 r x → LiveIs (Began (births_of s0)) x.live
  placed x member = placed_of s0 lawful0 x.live.me.node member.here.kept member.here.up x member.here.found

  pub kid_deeper : (x : Branch) → Member t whole hs0 part0 r x → (i : ℕ) (c : BranchId) → numbered (children_of x.live) i ≡ Some c → (y : Branch) → Member t whole hs0 part0 r y → y.live.me ≡ c → y.live.depth ≡ x.live.depth + 1
  kid_deeper x member i c at y its_member me =
      let its : LiveIs (Began (births_of s0)) y.live = placed y its_member in
      let mine : LiveIs (Began (births_of s0)) x.live = placed x member in
      let parent : y.live.parent ≡ Some x.live.me
      = child_parent s0 lawful0 x.live.me.node member.here.kept member.here.up x member.here.found i c at y.live.me.node its_member.here.kept its_member.here.up y its_member.here.found me in
      let up = trees.below_of (births_of t) (said_in (facts_at t)) (known t whole) its.born x.live.me (born_end t whole hs0 part0 its.born its.began) (its.is_parent ∙ parent) in
      let one : up.up ≡ mine.born = trees.same_born (births_of t) (said_in (facts_at t)) (known t whole) up.up mine.born up.began (born_end t whole hs0 part0 mine.born mine.began) (up.is_me ∙ sym mine.is_me) in
      sym its.is_depth ∙ (sym up.deeper ∙ ap (λ d. d + 1) (ap (λ (z : Born). z.depth) one ∙ mine.is_depth))

  -- a child of it, with what it holds of that
  pub record Weighed (x : Branch) (i : ℕ) (e : Edge) : Type 0 where
    pub branch : Branch
    pub is_me : branch.live.me ≡ e.peer
    pub member : Member t whole hs0 part0 r branch
    pub weighs : e.weight ≡ weight branch.live
    pub deeper : branch.live.depth ≡ x.live.depth + 1

  weighed : (x : Branch) → Member t whole hs0 part0 r x → (i : ℕ) (e : Edge) → numbered x.live.edges i ≡ Some e → Weighed x i e
  weighed x member i e at =
      let peer_at : numbered (children_of x.live) i ≡ Some e.peer = mapped_at (λ (z : Edge). z.peer) x.live.edges i e at in
      let k = kid_of t whole hs0 part0 r covered x member i e.peer peer_at in
      let y : Branch = k.branch in
      record {
        branch = y;
        is_me = k.is_me;
        member = k.is_member;
        weighs = (children_weigh s0 lawful0 x.live.me.node member.here.kept member.here.up x member.here.found member.goes member.waits i e at y.live.me.node k.is_member.here.kept k.is_member.here.up y k.is_member.here.found k.is_me).weighs;
        deeper = kid_deeper x member i e.peer peer_at y k.is_member k.is_me;
      }

  -- ---- no branch of the tree stands too deep

  kids_shallow : (x : Branch) → Member t whole hs0 part0 r x → (i : ℕ) (c : BranchId) → numbered (children_of x.live) i ≡ Some c → x.live.depth + 1 ≤ depth_limit
  kids_shallow x member i c at =
      let range = range_of (children_of x.live) i c at in
      let below : 1 ≤ length (children_of x.live) = omega (arith, range.0, range.1) in
      let some : 1 ≤ length x.live.edges = subst (λ n. 1 ≤ n) (length_peers x.live.edges) below in
      parents_are_shallow s0 lawful0 x.live.me.node member.here.kept member.here.up x member.here.found some

  -- A branch of the tree, not too deep.
  pub record Low (c : BranchId) : Type 0 where
    pub branch : Branch
    pub is_me : branch.live.me ≡ c
    pub member : Member t whole hs0 part0 r branch
    pub low : branch.live.depth ≤ depth_limit

  low_kid : (p c : BranchId) (l : Live) (i : ℕ) → Low p → live_in f0 p ≡ Some l → numbered (children_of l) i ≡ Some c → Low c
  low_kid p c l i up live at =
      let both : Some up.branch.live ≡ Some l = sym (member_live up.branch up.member p up.is_me) ∙ live in
      let it : up.branch.live ≡ l = cc in
      let there : numbered (children_of up.branch.live) i ≡ Some c = subst (λ (z : Live). numbered (children_of z) i ≡ Some c) (sym it) at in
      let k = kid_of t whole hs0 part0 r covered up.branch up.member i c there in
      record {
        branch = k.branch;
        is_me = k.is_me;
        member = k.is_member;
        low = subst (λ d. d ≤ depth_limit) (sym (kid_deeper up.branch up.member i c there k.branch k.is_member k.is_me)) (kids_shallow up.branch up.member i c there);
      }

  pub low_of : Low r → (c : BranchId) → InTree f0 r c → Low c
  low_of root c Is_root = root
  low_of root c (Is_child p _ l i above live at) = low_kid p c l i (low_of root p above) live at

  module _ (tr : Trail) (sees : SeesTree t.places f0 tr r) (top : Low r) where
    -- what the trail sees of it
    pub kids_seen : (x : Branch) → Member t whole hs0 part0 r x → InTree f0 r x.live.me → children_at tr x.live.me ≡ children_of x.live
    kids_seen x member tree = sees.children x.live.me x.live tree (member_live x member x.live.me refl)

    changes_seen : (x : Branch) → Member t whole hs0 part0 r x → InTree f0 r x.live.me → has_changes tr x.live.me ≡ x.live.changed
    changes_seen x member tree = sees.changed x.live.me x.live tree (member_live x member x.live.me refl)

    -- none stands too deep
    pub shallow : (x : Branch) → Member t whole hs0 part0 r x → InTree f0 r x.live.me → x.live.depth ≤ depth_limit
    shallow x member tree =
        let is : Low x.live.me = low_of top x.live.me tree in
        let both : Some is.branch.live ≡ Some x.live = sym (member_live is.branch is.member x.live.me is.is_me) ∙ member_live x member x.live.me refl in
        let it : is.branch.live ≡ x.live = cc in
        subst (λ (z : Live). z.depth ≤ depth_limit) it is.low

    strength_seen : (x : Branch) → Member t whole hs0 part0 r x → InTree f0 r x.live.me → strength_of t.places tr x.live.me ≡ x.live.strength
    strength_seen x member tree = sees.strength x.live.me x.live tree (member_live x member x.live.me refl)

    pub kid_in : (x : Branch) → Member t whole hs0 part0 r x → InTree f0 r x.live.me → (i : ℕ) (e : Edge) → numbered x.live.edges i ≡ Some e → InTree f0 r e.peer
    kid_in x member tree i e at = Is_child x.live.me e.peer x.live i tree (member_live x member x.live.me refl) (mapped_at (λ (z : Edge). z.peer) x.live.edges i e at)

    -- the weights of its children through so many levels
    kids_weigh : (m : ℕ) (x : Branch) → Member t whole hs0 part0 r x → InTree f0 r x.live.me
        → ((y : Branch) → Member t whole hs0 part0 r y → InTree f0 r y.live.me → y.live.depth ≡ x.live.depth + 1 → weight_in m t.places tr y.live.me ≡ weight y.live)
        → map (weight_in m t.places tr) (children_at tr x.live.me) ≡ map (λ (e : Edge). e.weight) x.live.edges
    kids_weigh m x member tree each =
        ap (map (weight_in m t.places tr)) (kids_seen x member tree) ∙
        map_all (weight_in m t.places tr) x.live.edges
        (all_numbered (λ e. weight_in m t.places tr e.peer ≡ e.weight) x.live.edges
        (λ i e at. (let y = weighed x member i e at in
        ap (weight_in m t.places tr) (sym y.is_me) ∙ (each y.branch y.member (subst (InTree f0 r) (sym y.is_me) (kid_in x member tree i e at)) y.deeper ∙ sym y.weighs))))

    weighs_in : (m : ℕ) (x : Branch) → Member t whole hs0 part0 r x → InTree f0 r x.live.me → depth_limit + 1 ≤ x.live.depth + m → weight_in m t.places tr x.live.me ≡ weight x.live
    unfolding weight
    weighs_in zero x member tree deep = (let low : x.live.depth ≤ depth_limit = shallow x member tree in absurd (omega (arith, low, deep)))
    weighs_in (suc m) x member tree deep =
        let kids : map (weight_in m t.places tr) (children_at tr x.live.me) ≡ map (λ (e : Edge). e.weight) x.live.edges
        = kids_weigh m x member tree (λ y its inside deeper. weighs_in m y its inside (omega (arith, deep, deeper))) in
        ap (λ q. weight_by q (strength_of t.places tr x.live.me) (place_of_greatest 1 (map (weight_in m t.places tr) (children_at tr x.live.me)) None)) (changes_seen x member tree) ∙
        (ap (λ s. weight_by x.live.changed s (place_of_greatest 1 (map (weight_in m t.places tr) (children_at tr x.live.me)) None)) (strength_seen x member tree) ∙
        ap (λ ws. weight_by x.live.changed x.live.strength (place_of_greatest 1 ws None)) kids)

    -- the step of the walk
    pub step_seen : (x : Branch) → Member t whole hs0 part0 r x → InTree f0 r x.live.me → seen.step t.places tr x.live.me ≡ step x.live
    unfolding step seen.step seen.weight
    step_seen x member tree =
        let kids : map (weight_in depth_limit t.places tr) (children_at tr x.live.me) ≡ map (λ (e : Edge). e.weight) x.live.edges
        = kids_weigh depth_limit x member tree (λ y its inside deeper. weighs_in depth_limit y its inside (omega (arith, deeper))) in
        ap (λ q. walk_by q (strength_of t.places tr x.live.me) (place_of_greatest 1 (map (weight_in depth_limit t.places tr) (children_at tr x.live.me)) None)) (changes_seen x member tree) ∙
        (ap (λ s. walk_by x.live.changed s (place_of_greatest 1 (map (weight_in depth_limit t.places tr) (children_at tr x.live.me)) None)) (strength_seen x member tree) ∙
        ap (λ ws. walk_by x.live.changed x.live.strength (place_of_greatest 1 ws None)) kids)

    -- ---- the walk

    same_live : (x : Branch) (l : Live) → Member t whole hs0 part0 r x → live_in f0 x.live.me ≡ Some l → l ≡ x.live
    same_live x l member live = (let both : Some l ≡ Some x.live = sym live ∙ member_live x member x.live.me refl in cc)

    walk_seen : (m : ℕ) (x : Branch) → Member t whole hs0 part0 r x → InTree f0 r x.live.me → depth_limit + 1 ≤ x.live.depth + m → (c b : BranchId) → x.live.me ≡ c → WalksTo f0 c b → last_of (walk_in m t.places tr c) ≡ Some b
    walk_seen zero x member tree deep c b me walk = (let low : x.live.depth ≤ depth_limit = shallow x member tree in absurd (omega (arith, low, deep)))
    walk_seen (suc m) x member tree deep c b me (Ends_here l _ live is) =
        let it : l ≡ x.live = same_live x l member (subst (λ d. live_in f0 d ≡ Some l) (sym me) live) in
        let here : seen.step t.places tr c ≡ walks.Here = subst (λ d. seen.step t.places tr d ≡ walks.Here) me (step_seen x member tree ∙ subst (λ z. step z ≡ walks.Here) it is) in
        ap (λ w. last_of (walks_by (walk_in m t.places tr) c (children_at tr c) w)) here
    walk_seen (suc m) x member tree deep c b me (Goes_down l i _ d _ live is at more) =
        let it : l ≡ x.live = same_live x l member (subst (λ a. live_in f0 a ≡ Some l) (sym me) live) in
        let down : seen.step t.places tr c ≡ walks.Down i = subst (λ a. seen.step t.places tr a ≡ walks.Down i) me (step_seen x member tree ∙ subst (λ z. step z ≡ walks.Down i) it is) in
        let there : numbered (children_of x.live) i ≡ Some d = subst (λ (z : Live). numbered (children_of z) i ≡ Some d) it at in
        let kids : children_at tr c ≡ children_of x.live = subst (λ a. children_at tr a ≡ children_of x.live) me (kids_seen x member tree) in
        let found : numbered (children_at tr c) i ≡ Some d = subst (λ bs. numbered bs i ≡ Some d) (sym kids) there in
        let k = kid_of t whole hs0 part0 r covered x member i d there in
        let inside : InTree f0 r k.branch.live.me = subst (InTree f0 r) (sym k.is_me) (Is_child x.live.me d x.live i tree (member_live x member x.live.me refl) there) in
        let further : last_of (walk_in m t.places tr d) ≡ Some b = walk_seen m k.branch k.is_member inside (let below : k.branch.live.depth ≡ x.live.depth + 1 = kid_deeper x member i d there k.branch k.is_member k.is_me in omega (arith, deep, below)) d b k.is_me more in
        ap (λ w. last_of (walks_by (walk_in m t.places tr) c (children_at tr c) w)) down ∙
        (ap (λ o. last_of (c ∷ goes_down (walk_in m t.places tr) o)) found ∙ last_more c b (walk_in m t.places tr d) further)

    pub site_seen : (x : Branch) → Member t whole hs0 part0 r x → x.live.me ≡ r → 1 ≤ x.live.depth → (b : BranchId) → WalksTo f0 r b → (plan t.places tr r).site ≡ Some b
    unfolding plan seen.walk
    site_seen x member me high b walk = walk_seen depth_limit x member (subst (InTree f0 r) (sym me) Is_root) (omega (arith, high)) r b me walk

    -- ---- the plan

    -- what is so of all that each of these leads to is so of all
    all_flat : (P : BranchId → Type 0) (g : BranchId → List BranchId) (cs : List BranchId) → ((i : ℕ) (c : BranchId) → numbered cs i ≡ Some c → AllByRecursion P (g c)) → AllByRecursion P (flat_map g cs)
    all_flat P g [] each = tt
    all_flat P g (c ∷ cs) each = all_append P (g c) (flat_map g cs) (each 1 c refl) (all_flat P g cs (shifted P g c cs each))
      where
        shifted : (P : BranchId → Type 0) (g : BranchId → List BranchId) (c : BranchId) (cs : List BranchId) → ((i : ℕ) (d : BranchId) → numbered (c ∷ cs) i ≡ Some d → AllByRecursion P (g d)) → (i : ℕ) (d : BranchId) → numbered cs i ≡ Some d → AllByRecursion P (g d)
        shifted P g c cs each zero d at = absurd cc
        shifted P g c cs each (suc i) d at = each (suc (suc i)) d at

    -- all branches that the trail has in the tree are in it
    tree_seen : (m : ℕ) (x : Branch) → Member t whole hs0 part0 r x → (c : BranchId) → x.live.me ≡ c → InTree f0 r c → AllByRecursion (InTree f0 r) (tree_in m tr c)
    tree_seen zero x member c me tree = tt
    tree_seen (suc m) x member c me tree = (
      tree,
      all_flat (InTree f0 r) (tree_in m tr) (children_at tr c)
          (λ i d at. (let kids : children_at tr c ≡ children_of x.live = subst (λ a. children_at tr a ≡ children_of x.live) me (kids_seen x member (subst (InTree f0 r) (sym me) tree)) in
          let there : numbered (children_of x.live) i ≡ Some d = subst (λ bs. numbered bs i ≡ Some d) kids at in
          let k = kid_of t whole hs0 part0 r covered x member i d there in
          tree_seen m k.branch k.is_member d k.is_me (Is_child c d x.live i tree (member_live x member c me) there))),
    )

    -- each of them weighs what its node keeps
    weight_seen : (x : Branch) → Member t whole hs0 part0 r x → (c : BranchId) → x.live.me ≡ c → InTree f0 r c → seen.weight t.places tr c ≡ weight x.live
    unfolding seen.weight
    weight_seen x member c me tree =
        let inside : InTree f0 r x.live.me = subst (InTree f0 r) (sym me) tree in
        let its : LiveIs (Began (births_of s0)) x.live = placed x member in
        let high : 1 ≤ its.born.depth = trees.high (births_of t) (said_in (facts_at t)) (known t whole) its.born (born_end t whole hs0 part0 its.born its.began) in
        let some : 1 ≤ x.live.depth = subst (λ d. 1 ≤ d) its.is_depth high in
        subst (λ a. weight_in depth_limit t.places tr a ≡ weight x.live) me (weighs_in depth_limit x member inside (omega (arith, some)))

    module _ (b : BranchId) (covers : (c : BranchId) → InTree f0 r c → (l : Live) × (live_in f0 c ≡ Some l) × ((c ≡ b) ⊎ (((m : ℕ) × (exit (events_of t) c ≡ Some (Sealed m))) ⊎ (weight l ≡ None)))) where
      covered_so : (path : List BranchId) (c : BranchId) → InTree f0 r c → IsCoveredBy t b (planned t.places tr path c)
      covered_so path c tree other weighs = by (covers c tree)
        where
          by : (l : Live) × (live_in f0 c ≡ Some l) × ((c ≡ b) ⊎ (((m : ℕ) × (exit (events_of t) c ≡ Some (Sealed m))) ⊎ (weight l ≡ None))) → (m : ℕ) × (exit (events_of t) c ≡ Some (Sealed m))
          by so = elim so.2 [
            | inl here ↦ absurd (other here)
            | inr more ↦ elim more [
              | inl sealed ↦ sealed
              | inr none ↦ (let is : Low c = low_of top c tree in
                  let both : Some is.branch.live ≡ Some so.0 = sym (member_live is.branch is.member c is.is_me) ∙ so.1 in
                  let it : is.branch.live ≡ so.0 = cc in
                  absurd (weighs (weight_seen is.branch is.member c is.is_me tree ∙ (ap weight it ∙ none))))
            ]
          ]

      pub plan_covers : (x : Branch) → Member t whole hs0 part0 r x → x.live.me ≡ r → AllByRecursion (IsCoveredBy t b) (plan t.places tr r).tree
      unfolding plan seen.tree
      plan_covers x member me =
          all_map (IsCoveredBy t b) (planned t.places tr (seen.walk t.places tr r)) (tree_in depth_limit tr r)
          (all_weaker (InTree f0 r) (λ c. IsCoveredBy t b (planned t.places tr (seen.walk t.places tr r) c)) (λ c tree. covered_so (seen.walk t.places tr r) c tree) (tree_in depth_limit tr r) (tree_seen depth_limit x member r me Is_root))
