-- The examples are lawful.
use Rattle.std.proofs.Common.{◌≡◌, ◌≢◌, ℕ, ◌==◌, Bool, true, false, List, ◌∷◌, refl, sym, ap, subst, ◌∙◌, inl, inr, arith}
use Rattle.std.proofs.lemmas.Bool.Decides.{nat_tests}
use Rattle.agreement.specs.Data.{BranchId}
use Rattle.agreement.specs.Events.{IsForest, Beyond, Event, Send_vote, Send_ack, Forget, Has, Heard, Lawful}
use Rattle.agreement.specs.Examples.{at_node, two_each, root1, root2, site1, site2, sealed, acked, both_commit, rolls_back, ExamplesAreLawful}

other_node : (b : BranchId) → b ≢ at_node 2 b → (b.node == 2) ≡ false
other_node b n = go (b.node == 2) refl
  where
    go : (q : Bool) → (b.node == 2) ≡ q → q ≡ false
    go false e = refl
    go true e = let two : b.node ≡ 2 = grind (arith, nat_tests, e) in absurd (n (ap (λ k. at_node k b) two))

is_forest : IsForest two_each
is_forest = record {
  inward = λ b m n. refl;
  of_one = λ b m n. refl;
  nearer = λ b m n. (let e = other_node b n in grind (arith, nat_tests, e));
}

-- what is beyond a branch is the root of its transaction
beyond_is : (x y : BranchId) → Beyond two_each x y → x ≡ at_node 1 y
beyond_is x y e =
    let aside = other_node x e.not_site in
    let m = e.member in
    let one : x.node ≡ 1 = grind (arith, nat_tests, aside, m) in
    ap (λ k. at_node k x) one ∙ ap (at_node 1) e.next

beyond_root : (x y : BranchId) → y.node ≡ 1 → Beyond two_each x y → ⊥
beyond_root x y one e = let two : 2 ≡ y.node = ap (λ b. b.node) e.next in absurd (omega (arith, one, two))

heard : (t : List Event) (y : BranchId) (k : ℕ) → Has (Send_vote (at_node 1 y) k) t → Heard two_each t y k
heard t y k h x e = inl (k, subst (λ b. Has (Send_vote b k) t) (sym (beyond_is x y e)) h, omega arith)

no_site : (b : BranchId) → b.node ≡ 1 → b ≡ at_node 2 b → ⊥
no_site b one e = let two : b.node ≡ 2 = ap (λ c. c.node) e in absurd (omega (arith, one, two))

sealed_lawful : Lawful two_each sealed
sealed_lawful = (
  (4, refl, omega arith),
  (
    (refl, refl, (λ e. absurd (no_site root2 refl e)), (λ x e. absurd (beyond_root x root2 refl e)), refl),
    (
      (3, refl, omega arith),
      ((refl, refl, (λ e. absurd (no_site root1 refl e)), (λ x e. absurd (beyond_root x root1 refl e)), refl), tt),
    ),
  ),
)

is_lawful : Lawful two_each both_commit
is_lawful = (
  ((4, refl), refl, inl refl, refl),
  (
    inl refl,
    (
      (refl, refl, (6, omega arith, heard (Forget site1 ∷ acked) site2 6 (inr (inr (inr (inr (inr (inr (inl refl)))))))), refl),
      (
        (5, inl refl, inl (λ x e. inl (subst (λ b. Has (Send_ack b site1) acked) (sym (beyond_is x site1 e)) (inl refl)))),
        (
          (λ edge. inl (5, refl, λ x e. absurd (beyond_root x root1 refl e))),
          (
            ((3, refl), refl, inr (inl refl), refl),
            (
              (4, refl, refl, refl),
              (
                inl refl,
                (
                  (refl, refl, (4, omega arith, heard sealed site1 4 (inr (inr (inl refl)))), refl),
                  sealed_lawful,
                ),
              ),
            ),
          ),
        ),
      ),
    ),
  ),
)

rolls_back_lawful : Lawful two_each rolls_back
rolls_back_lawful = (
  ((3, refl), refl, inl refl, refl),
  ((λ edge. inl (inl refl)), (refl, sealed_lawful)),
)

pub examples_are_lawful : ExamplesAreLawful
examples_are_lawful = (is_forest, (is_lawful, refl), (rolls_back_lawful, refl))
