-- A node keeps no live branch as it is made and as it starts.
use Rattle.std.proofs.Common.{◌≡◌, ℕ, zero, suc, List, [], ◌∷◌, map, Some, sym, ap, subst, ◌∙◌}
use Rattle.node_rules.specs.Data.{Live, Place}
use Rattle.node_rules.specs.Words.{numbered, set_numbered}
use Rattle.node_rules.specs.NodeState.{NodeState, live_at}
use Rattle.node_rules.specs.Turn.{start_of, made}
use Rattle.run_rules.specs.Facts.{Facts, flat, with_boot}

pub started_none : (f : Facts) (n boot m : ℕ) (j : NodeState) (l : Live) → numbered (set_numbered f.nodes n (Some (start_of (with_boot f n boot)))) m ≡ Some (Some (start_of (with_boot f n boot)))
    → flat (numbered (set_numbered f.nodes n (Some (start_of (with_boot f n boot)))) m) ≡ Some j → live_at j l.me ≡ Some l → ⊥
unfolding start_of
started_none f n boot m j l new up live =
    let both : Some (start_of (with_boot f n boot)) ≡ Some j = sym (ap flat new) ∙ up in
    let it : start_of (with_boot f n boot) ≡ j = cc in
    let none : live_at (start_of (with_boot f n boot)) l.me ≡ Some l = subst (λ i. live_at i l.me ≡ Some l) (sym it) live in
    absurd cc

pub none_made : (ps : List Place) (n : ℕ) (k : NodeState) (l : Live) → flat (numbered (map (λ p. Some made) ps) n) ≡ Some k → live_at k l.me ≡ Some l → ⊥
unfolding start_of
none_made ps zero k l up live = absurd cc
none_made [] (suc i) k l up live = absurd cc
none_made (p ∷ ps) (suc zero) k l up live =
    let both : Some made ≡ Some k = up in
    let it : made ≡ k = cc in
    let none : live_at made l.me ≡ Some l = subst (λ i. live_at i l.me ≡ Some l) (sym it) live in
    absurd cc
none_made (p ∷ ps) (suc (suc i)) k l up live = none_made ps (suc i) k l up live
