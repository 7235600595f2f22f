-- The branches above one that was asked: each of them was asked, up to the root.
use Rattle.std.proofs.Common.{◌≡◌, ℕ, zero, suc, ◌+◌, ◌≤◌, true, List, Option, Some, None, refl, sym, ap, subst, ◌∙◌, arith}
use Rattle.node_rules.specs.Data.{BranchId, Post}
use Rattle.run_rules.specs.Births.{Born}
use Rattle.run_base_laws.specs.BirthLaws.{Began}
use Rattle.run_base_laws.specs.FreezeLaws.{was_asked}
use Rattle.run_rules.specs.Trail.{is_prepare}
use Rattle.run_branch_laws.specs.WalkLaws.{was_sent}
use Rattle.tree_laws.specs.Forests.{asked_by}
use Rattle.tree_laws.proofs.ForestLemmas as trees
use Rattle.tree_laws.proofs.ForestLemmas.{Known}

module _ (bs : List Born) (said : List Post) (knows : Known bs said) where
  asked_up : (y : Born) (o : Option BranchId) → y.parent ≡ o → ((p : BranchId) → y.parent ≡ Some p → was_sent is_prepare said p y.me ≡ true) → asked_by said y.me o ≡ true
  asked_up y None its each = refl
  asked_up y (Some p) its each = each p its

  -- The branch above one that it asked.
  pub record Above (z : Born) (q : BranchId) : Type 0 where
    pub up : Born
    pub began : Began bs up
    pub is_me : up.me ≡ q
    pub is_root : up.root ≡ z.root
    pub deeper : up.depth + 1 ≡ z.depth
    pub asked : asked_by said up.me up.parent ≡ true

  pub above_of : (z : Born) (q : BranchId) → Began bs z → z.parent ≡ Some q → was_asked said q z.me ≡ true → Above z q
  above_of z q began is sent =
      let up = trees.below_of bs said knows z q began is in
      let heard = knows.asks q z.me sent in
      let one : heard.0 ≡ up.up = trees.same_born bs said knows heard.0 up.up heard.1 up.began (heard.2 ∙ sym up.is_me) in
      record {
        up = up.up;
        began = up.began;
        is_me = up.is_me;
        is_root = up.is_root;
        deeper = up.deeper;
        asked = asked_up up.up up.up.parent refl (λ p its. subst (λ c. was_sent is_prepare said p c ≡ true) (sym up.is_me) (heard.3 p (ap (λ (y : Born). y.parent) one ∙ its)));
      }

  -- the root of a branch began
  abbrev pub Top : BranchId → Type 0
  Top r = (y : Born) × Began bs y × (y.me ≡ r) × (y.parent ≡ None) × (y.root ≡ r)

  top_by : (n : ℕ) (z : Born) → Began bs z → z.depth ≤ n → Top z.root
  top_by zero z began low = (let high : 1 ≤ z.depth = trees.high bs said knows z began in absurd (omega (arith, low, high)))
  top_by (suc n) z began low = by z.parent refl (λ y its less. top_by n y its less)
    where
      by : (o : Option BranchId) → z.parent ≡ o → ((y : Born) → Began bs y → y.depth ≤ n → Top y.root) → Top z.root
      by None none above = (let stands = trees.stands_so bs said knows z None began none in (z, began, sym stands.0, none, refl))
      by (Some q) is above = (let up = trees.below_of bs said knows z q began is in subst Top up.is_root (above up.up up.began (omega (arith, low, up.deeper))))

  pub top_of : (z : Born) → Began bs z → Top z.root
  top_of z began = top_by z.depth z began (omega arith)

  -- the root asked somebody
  root_by : (n : ℕ) (z : Born) (q : BranchId) → Began bs z → z.depth ≤ n → z.parent ≡ Some q → was_asked said q z.me ≡ true → (c : BranchId) × (was_asked said z.root c ≡ true)
  root_by zero z q began low is sent = (let high : 1 ≤ z.depth = trees.high bs said knows z began in absurd (omega (arith, low, high)))
  root_by (suc n) z q began low is sent =
      let up = above_of z q began is sent in
      by up up.up.parent refl up.asked (λ p its on. root_by n up.up p up.began (omega (arith, low, up.deeper)) its on)
    where
      by : (up : Above z q) (o : Option BranchId) → up.up.parent ≡ o → asked_by said up.up.me o ≡ true → ((p : BranchId) → up.up.parent ≡ Some p → was_asked said p up.up.me ≡ true → (c : BranchId) × (was_asked said up.up.root c ≡ true))
          → (c : BranchId) × (was_asked said z.root c ≡ true)
      by up None none on further = (let stands = trees.stands_so bs said knows up.up None up.began none in (z.me, subst (λ p. was_asked said p z.me ≡ true) (sym up.is_me ∙ (sym stands.0 ∙ up.is_root)) sent))
      by up (Some p) its on further = (let it = further p its on in (it.0, subst (λ b. was_asked said b it.0 ≡ true) up.is_root it.1))

  pub root_asked : (z : Born) (q : BranchId) → Began bs z → z.parent ≡ Some q → was_asked said q z.me ≡ true → (c : BranchId) × (was_asked said z.root c ≡ true)
  root_asked z q began is sent = root_by z.depth z q began (omega arith) is sent
