-- What a record names as the neighbour on the way to the site is toward by the forest, and a branch that decides is the site.
use Rattle.std.proofs.Common.{◌≡◌, ◌≢◌, ℕ, zero, suc, ◌+◌, ◌-◌, ◌≤◌, Bool, true, false, if◌then◌else◌, List, unwrap_or, Option, Some, None, inl, inr, refl, sym, ap, subst, ◌∙◌, arith}
use Rattle.node_rules.specs.Data.{BranchId, Post}
use Rattle.agreement.specs.Events.{Forest, site_of}
use Rattle.run_rules.specs.Births.{Born}
use Rattle.run_base_laws.specs.BirthLaws.{Began}
use Rattle.run_rules.specs.Trail.{is_prepare}
use Rattle.run_branch_laws.specs.WalkLaws.{is_below, is_above, was_sent}
use Rattle.tree_laws.specs.Forests.{depth_at, deepest, told_below, next_on, walk_from, comes_to, asked_by, toward_by, forest_by}
use Rattle.tree_laws.specs.RecordLaws.{LeadsToward}
use Rattle.tree_laws.proofs.AskLemmas.{sent_wider, tells_asks}
use Rattle.tree_laws.proofs.ForestLemmas as trees
use Rattle.tree_laws.proofs.ForestLemmas.{told_sent}

too_deep : (a b : ℕ) → b ≡ a + 1 → b ≤ a → ⊥
too_deep a b deeper low = absurd (omega (arith, deeper, low))

module _ (bs : List Born) (said : List Post) (known : trees.Known bs said) where
  abbrev p : Forest
  p = forest_by bs said

  -- ---- the walk from a root

  -- a branch that the walk comes to
  abbrev Comes : BranchId → Type 0
  Comes b = (x : Born) × Began bs x × (x.me ≡ b) × (comes_to said b x.parent ≡ true)

  goes_on : (b : BranchId) → Comes b → Comes (next_on said b)
  goes_on b at = by (told_below said b) refl
    where
      by : (o : Option BranchId) → told_below said b ≡ o → Comes (unwrap_or o b)
      by None none = at
      by (Some c) is = let told : was_sent is_below said b c ≡ true = told_sent said b c is in let child = trees.told_child bs said known b c told in (child.0, child.1, child.2, ap (comes_to said c) child.3 ∙ told)

  walk_comes : (n : ℕ) (b : BranchId) → Comes b → Comes (walk_from said n b)
  walk_comes zero b at = at
  walk_comes (suc n) b at = walk_comes n (next_on said b) (goes_on b at)

  -- the root of a branch at this depth began, and has no parent
  abbrev Rooted : ℕ → Type 0
  Rooted i = (x : Born) → Began bs x → x.depth ≡ suc i → Comes x.root

  root_first : Rooted 0
  root_first x began depth = by x.parent refl
    where
      by : (o : Option BranchId) → x.parent ≡ o → Comes x.root
      by None is = let root : x.root ≡ x.me = (trees.stands_so bs said known x None began is).0 in (x, began, sym root, ap (comes_to said x.root) is)
      by (Some q) is =
          let b = trees.below_of bs said known x q began is in
          let up : 1 ≤ b.up.depth = trees.high bs said known b.up b.began in
          absurd (omega (arith, up, b.deeper, depth))

  root_next : (j : ℕ) → Rooted j → Rooted (suc j)
  root_next j before x began depth = by x.parent refl
    where
      by : (o : Option BranchId) → x.parent ≡ o → Comes x.root
      by None is = let one : x.depth ≡ 1 = (trees.stands_so bs said known x None began is).1 in absurd (omega (arith, one, depth))
      by (Some q) is = let b = trees.below_of bs said known x q began is in subst Comes b.is_root (before b.up b.began (omega (arith, b.deeper, depth)))

  rooted : (i : ℕ) → Rooted i
  rooted zero = root_first
  rooted (suc j) = root_next j (rooted j)

  -- the site is on the walk
  site_comes : (x : Born) (b : BranchId) → Began bs x → x.me ≡ b → Comes (site_of p b)
  site_comes x b began me =
      let one : 1 ≤ x.depth = trees.high bs said known x began in
      let depth : x.depth ≡ suc (x.depth - 1) = omega (arith, one) in
      subst Comes (sym (trees.site_is bs said known x b began me)) (walk_comes (deepest bs) x.root (rooted (x.depth - 1) x began depth))

  -- ---- who is toward

  -- the parent, where it told that the walk does not come here
  above_off : (q b : BranchId) → was_sent is_above said q b ≡ true → was_sent is_below said q b ≡ false
  above_off q b told = by (was_sent is_below said q b) refl
    where
      by : (w : Bool) → was_sent is_below said q b ≡ w → w ≡ false
      by false is = refl
      by true is = let no : was_sent is_above said q b ≡ false = (known.one q b is).0 in absurd (cc (no, told))

  off_site : (x : Born) (b q : BranchId) → Began bs x → x.me ≡ b → x.parent ≡ Some q → was_sent is_below said q b ≡ false → b ≢ site_of p b
  off_site x b q began me above off site =
      let at : Comes b = subst Comes (sym site) (site_comes x b began me) in
      let it : at.0 ≡ x = trees.same_born bs said known at.0 x at.1 began (at.2 ∙ sym me) in
      let on : was_sent is_below said q b ≡ true = sym (ap (comes_to said b) (ap (λ (z : Born). z.parent) it ∙ above)) ∙ at.3 in
      absurd (cc (on, off))

  -- the child, where it was told that the walk comes there
  below_site : (x : Born) (b c : BranchId) → Began bs x → x.me ≡ b → comes_to said b x.parent ≡ true → was_sent is_below said b c ≡ true → b ≢ site_of p b
  below_site x b c began me comes told site =
      let way = trees.site_below bs said known x began (subst (λ m. comes_to said m x.parent ≡ true) (sym me) comes) in
      let step : next_on said x.me ≡ c = trees.next_is bs said known x.me c (subst (λ m. was_sent is_below said m c ≡ true) (sym me) told) in
      let ends : b ≡ walk_from said way.0 c = site ∙ (trees.site_is bs said known x b began me ∙ (way.1 ∙ ap (walk_from said way.0) step)) in
      let deeper : depth_at bs c ≡ depth_at bs b + 1 = trees.deeper_by_one bs said known b c told in
      let low : depth_at bs c ≤ depth_at bs b = subst (λ s. depth_at bs c ≤ depth_at bs s) (sym ends) (trees.walk_down bs said known way.0 c) in
      absurd (too_deep (depth_at bs b) (depth_at bs c) deeper low)

  toward_next : (b : BranchId) (o : Option BranchId) → comes_to said b o ≡ true → toward_by said b o ≡ next_on said b
  toward_next b None comes = refl
  toward_next b (Some q) comes = ap (λ w. if w then next_on said b else q) comes

  toward_up : (b q : BranchId) → was_sent is_below said q b ≡ false → toward_by said b (Some q) ≡ q
  toward_up b q off = ap (λ w. if w then next_on said b else q) off

  -- what the forest has of such a branch
  pub record Leads (b q : BranchId) : Type 0 where
    pub toward : p.toward b ≡ q
    pub not_site : b ≢ site_of p b
    pub member : p.member b ≡ true

  asked_on : (b : BranchId) (o : Option BranchId) → comes_to said b o ≡ true → asked_by said b o ≡ true
  asked_on b None comes = refl
  asked_on b (Some q) comes = sent_wider is_below is_prepare (tells_asks true) said q b comes

  pub leads_so : (x : Born) (b q : BranchId) → Began bs x → x.me ≡ b → LeadsToward said b x.parent (Some q) → Leads b q
  leads_so x b q began me (inl up) =
      let off : was_sent is_below said q b ≡ false = above_off q b up.1 in
      record {
        toward = trees.toward_is bs said known x b began me ∙ (ap (toward_by said b) up.0 ∙ toward_up b q off);
        not_site = off_site x b q began me up.0 off;
        member = trees.member_of bs said known x b began me (ap (asked_by said b) up.0 ∙ sent_wider is_above is_prepare (tells_asks false) said q b up.1);
      }
  leads_so x b q began me (inr on) = record {
    toward = trees.toward_is bs said known x b began me ∙ (toward_next b x.parent on.0 ∙ trees.next_is bs said known b q on.1);
    not_site = below_site x b q began me on.0 on.1;
    member = trees.member_of bs said known x b began me (asked_on b x.parent on.0);
  }

  pub ends_so : (x : Born) (b : BranchId) → Began bs x → x.me ≡ b → LeadsToward said b x.parent None → b ≡ site_of p b
  ends_so x b began me on = trees.end_is_site bs said known x b began me on.0 (by (told_below said b) refl)
    where
      by : (o : Option BranchId) → told_below said b ≡ o → o ≡ None
      by None is = refl
      by (Some c) is = let told : was_sent is_below said b c ≡ true = told_sent said b c is in let no : was_sent is_below said b c ≡ false = on.1 c in absurd (cc (told, no))
