-- Steps of the walk go by weights: one down goes to a child that has a weight, and a branch from which none goes has none.
use Rattle.std.proofs.Common.{◌≡◌, ◌≢◌, ℕ, suc, Bool, true, false, if◌then◌else◌, map, Option, Some, None, inl, inr, ap, ◌∙◌, refl, arith}
use Rattle.std.specs.Prelude.{nat_lt}
use Rattle.session_tree.specs.Tree.{best_child, weight_by, walk_by, weight, step}
use Rattle.session_tree.specs.declared.act.Walk.TheVariants as walks
use Rattle.session_tree.proofs.Greatest.{greatest_is}
use Rattle.node_rules.specs.Data.{Edge, Live}
use Rattle.node_rules.specs.Words.{numbered}
use Rattle.tree_laws.proofs.VoterLemmas.{mapped_at}

-- a step down goes to the first child of the greatest weight
pub best_down : (q : Bool) (n : ℕ) (o : Option (ℕ × ℕ)) (i : ℕ) → walk_by q n o ≡ walks.Down i → (w : ℕ) × (o ≡ Some (w, i))
best_down true n None i is = absurd cc
best_down true n (Some b) i is = by (nat_lt n b.0) is
  where
    by : (q : Bool) → (if q then walks.Down b.1 else walks.Here) ≡ walks.Down i → (w : ℕ) × (Some b ≡ Some (w, i))
    by true it = (let same : b.1 ≡ i = cc in (b.0, ap (λ j. Some (b.0, j)) same))
    by false it = absurd cc
best_down false n None i is = absurd cc
best_down false n (Some b) i is = (let same : b.1 ≡ i = cc in (b.0, ap (λ j. Some (b.0, j)) same))

-- to which it has a weight
pub down_weighs : (l : Live) (i : ℕ) (e : Edge) → step l ≡ walks.Down i → numbered l.edges i ≡ Some e → e.weight ≢ None
unfolding step
down_weighs l i e is at =
    let best = best_down l.changed l.strength (best_child l) i is in
    elim (greatest_is best.0 i 1 (map (λ (y : Edge). y.weight) l.edges) None (λ b same. absurd cc) best.1).found [
      | inl never ↦ absurd cc
      | inr found ↦ (λ none. (let number : i ≡ suc found.0 = omega (arith, found.1) in
          let there : numbered (map (λ (y : Edge). y.weight) l.edges) i ≡ Some e.weight = mapped_at (λ (y : Edge). y.weight) l.edges i e at in
          let it : numbered (map (λ (y : Edge). y.weight) l.edges) i ≡ Some (Some best.0) = ap (numbered (map (λ (y : Edge). y.weight) l.edges)) number ∙ found.2 in
          absurd (cc (there, it, none))))
    ]

-- a branch from which the walk goes nowhere has no weight
pub nowhere_by : (q : Bool) (n : ℕ) (o : Option (ℕ × ℕ)) → walk_by q n o ≡ walks.Nowhere → weight_by q n o ≡ None
nowhere_by q n o is = by q o is
  where
    shut : (q : Bool) (i : ℕ) → (if q then walks.Down i else walks.Here) ≡ walks.Nowhere → ⊥
    shut true i it = cc
    shut false i it = cc

    by : (q : Bool) (o : Option (ℕ × ℕ)) → walk_by q n o ≡ walks.Nowhere → weight_by q n o ≡ None
    by true None it = absurd cc
    by true (Some b) it = absurd (shut (nat_lt n b.0) b.1 it)
    by false None it = refl
    by false (Some b) it = absurd cc

pub nowhere_weighs : (l : Live) → step l ≡ walks.Nowhere → weight l ≡ None
unfolding step weight
nowhere_weighs l is = nowhere_by l.changed l.strength (best_child l) is
