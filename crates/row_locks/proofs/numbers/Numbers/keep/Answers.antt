use Rattle.std.proofs.Common.{◌≡◌, Bool, true, false, List, [], ◌∷◌, cond, filter, length, is_some, rules, refl, ap, subst, ◌∙◌, arith}
use Rattle.std.specs.List.{items_where_true}
use Rattle.std.specs.List.Retain.{IsFiltered, ReturnsInTurn}
use Rattle.std.specs.Map.{lookup}
use Rattle.row_locks.specs.Numbered.{is_number}
use Rattle.row_locks.proofs.numbers.Numbers.keep.Goals as goal

-- what `retain` leaves, where the closure keeps no state
module _ {X F : Type 0} (T : F → X → Bool → F → Type 0) (test : X → Bool) (f : F) (says : (x : X) (b : Bool) (g : F) → T f x b g → (b ≡ test x) × (g ≡ f)) where
  in_turn : (bs : List Bool) (xs : List X) (q : F) → length bs ≡ length xs → ReturnsInTurn T f bs xs q → items_where_true bs xs ≡ filter test xs
  in_turn [] [] q same turn = refl
  in_turn [] (x ∷ xs) q same turn = absurd (omega arith)
  in_turn (b ∷ bs) [] q same turn = absurd turn
  in_turn (true ∷ bs) (x ∷ xs) q same turn =
      let s = says x true turn.0 turn.1 in
      let rest = in_turn bs xs q (omega arith) (subst (λ g. ReturnsInTurn T g bs xs q) s.1 turn.2) in
      (λ i. cond (s.0 i) (x ∷ rest i) (rest i))
  in_turn (false ∷ bs) (x ∷ xs) q same turn =
      let s = says x false turn.0 turn.1 in
      let rest = in_turn bs xs q (omega arith) (subst (λ g. ReturnsInTurn T g bs xs q) s.1 turn.2) in
      (λ i. cond (s.0 i) (x ∷ rest i) (rest i))

  filtered : (xs ys : List X) → IsFiltered T f xs ys → ys ≡ filter test xs
  filtered xs ys h = h.4 ∙ in_turn h.0 xs h.1 h.2 h.3

pub returns : goal.returns
returns c =
    filtered _ (λ n. is_some (lookup (is_number n) c.args.locks.now)) _ (λ x b g call. search rules) c.self.inside.numbers.items _ c.retain.ensures.filtered
    ∙ ap (filter (λ n. is_some (lookup (is_number n) c.args.locks.now))) c.self.view_is
