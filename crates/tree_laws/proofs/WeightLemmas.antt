-- A branch without a weight has no child with one. Who was asked, and not that the walk comes there, was told that it does not.
use Rattle.std.proofs.Common.{◌≡◌, ℕ, ◌+◌, ◌&&◌, ◌||◌, Bool, true, false, if◌then◌else◌, List, [], ◌∷◌, map, is_none, option_map, Option, Some, None, refl}
use Rattle.std.specs.Prelude.{nat_lt}
use Rattle.std.specs.List.{AllByRecursion}
use Rattle.session_tree.specs.Tree.{place_of_greatest, best_child, weight_by, weight}
use Rattle.node_rules.specs.Data.{BranchId, Edge, Kind, Live, Post}
use Rattle.node_rules.specs.Data.kinds
use Rattle.node_rules.specs.Words.{same}
use Rattle.run_rules.specs.Trail.{is_prepare}
use Rattle.run_base_laws.specs.FreezeLaws.{was_asked}
use Rattle.run_branch_laws.specs.WalkLaws.{is_below, is_above, was_sent}

-- a best child stays one
never : (ws : List (Option ℕ)) (i : ℕ) (b : ℕ × ℕ) → place_of_greatest i ws (Some b) ≡ None → ⊥
never [] i b is = absurd cc
never (None ∷ ws) i b is = never ws (i + 1) b is
never (Some w ∷ ws) i b is = by (nat_lt b.0 w) is (never ws (i + 1))
  where
    by : (q : Bool) → place_of_greatest (i + 1) ws (if q then Some (w, i) else Some b) ≡ None → ((c : ℕ × ℕ) → place_of_greatest (i + 1) ws (Some c) ≡ None → ⊥) → ⊥
    by true none each = each (w, i) none
    by false none each = each b none

none_best : (es : List Edge) (i : ℕ) → place_of_greatest i (map (λ e. e.weight) es) None ≡ None → AllByRecursion (λ e. e.weight ≡ None) es
none_best [] i is = tt
none_best (e ∷ es) i is = by e.weight refl is (none_best es (i + 1))
  where
    by : (o : Option ℕ) → e.weight ≡ o → place_of_greatest i (o ∷ map (λ y. y.weight) es) None ≡ None → (place_of_greatest (i + 1) (map (λ y. y.weight) es) None ≡ None → AllByRecursion (λ y. y.weight ≡ None) es)
        → (e.weight ≡ None) × AllByRecursion (λ y. y.weight ≡ None) es
    by None at none later = (at, later none)
    by (Some w) at none later = absurd (never (map (λ y. y.weight) es) (i + 1) (w, i) none)

none_by : (o : Option (ℕ × ℕ)) → is_none (option_map (λ (b : ℕ × ℕ). b.0) o) ≡ true → o ≡ None
none_by None is = refl
none_by (Some b) is = absurd cc

pub weightless : (l : Live) → is_none (weight l) ≡ true → AllByRecursion (λ e. e.weight ≡ None) l.edges
unfolding weight
weightless l is = by l.changed is
  where
    by : (q : Bool) → is_none (weight_by q l.strength (best_child l)) ≡ true → AllByRecursion (λ e. e.weight ≡ None) l.edges
    by true some = absurd cc
    by false none = none_best l.edges 1 (none_by (best_child l) none)

-- a Prepare tells one way
above_or : (p q : Bool) (kind : Kind) (rest below above : Bool) → ((p && q) && is_prepare kind || rest) ≡ true → ((p && q) && is_below kind || below) ≡ false → (rest ≡ true → below ≡ false → above ≡ true) → ((p && q) && is_above kind || above) ≡ true
above_or true true (kinds.Prepare true comment) rest below above asked off later = absurd cc
above_or true true (kinds.Prepare false comment) rest below above asked off later = refl
above_or true true _ rest below above asked off later = later asked off
above_or true false kind rest below above asked off later = later asked off
above_or false q kind rest below above asked off later = later asked off

pub asked_way : (said : List Post) (p c : BranchId) → was_asked said p c ≡ true → was_sent is_below said p c ≡ false → was_sent is_above said p c ≡ true
asked_way [] p c asked off = absurd cc
asked_way (m ∷ ms) p c asked off = above_or (same m.from p) (same m.to c) m.kind (was_asked ms p c) (was_sent is_below ms p c) (was_sent is_above ms p c) asked off (asked_way ms p c)
