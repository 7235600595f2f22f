-- Runs of bytes of one kind, up to the first of another.
use Rattle.std.proofs.Common.{◌≡◌, ℕ, Bool, true, false, List, [], ◌∷◌, ◌++◌, length, refl, sym, one-add, inl, inr}
use Rattle.std.specs.Prelude.{◌&&◌}
use Rattle.std.specs.List.{list_all, prefix_len}
use Rattle.std.proofs.lemmas.Bool.{cases_Bool}
use Rattle.std.proofs.lemmas.List.{take_at, drop_at}
use Rattle.token_grammar.specs.Steps.{begins}
use Rattle.token_grammar.specs.Lexing.{run, behind}

both : (a b : Bool) → (a && b) ≡ true → (a ≡ true) × (b ≡ true)
both true b h = (refl, h)
both false b h = absurd cc

module _ (p : ℕ → Bool) where
  pub run_passes : (bs : List ℕ) → list_all p (run p bs) ≡ true
  run_passes [] = refl
  run_passes (b ∷ bs) = elim (cases_Bool (p b)) [ inl h ↦ rw (h, one-add, h) (run_passes bs) | inr h ↦ rw h refl ]

  pub behind_stops : (bs : List ℕ) → begins p (behind p bs) ≡ false
  behind_stops [] = refl
  behind_stops (b ∷ bs) = elim (cases_Bool (p b)) [ inl h ↦ rw (h, one-add) (behind_stops bs) | inr h ↦ rw h h ]

  pub prefix_len-of_run : (front rest : List ℕ) → list_all p front ≡ true → begins p rest ≡ false → prefix_len p (front ++ rest) ≡ length front
  prefix_len-of_run [] [] h k = refl
  prefix_len-of_run [] (b ∷ rest) h k = rw k refl
  prefix_len-of_run (b ∷ front) rest h k =
      let t = both (p b) (list_all p front) h in
      rw (t.0, prefix_len-of_run front rest t.1 k) (one-add (length front))

  pub run-of : (front rest : List ℕ) → list_all p front ≡ true → begins p rest ≡ false → run p (front ++ rest) ≡ front
  run-of front rest h k = take_at front rest (prefix_len p (front ++ rest)) (sym (prefix_len-of_run front rest h k))

  pub behind-of : (front rest : List ℕ) → list_all p front ≡ true → begins p rest ≡ false → behind p (front ++ rest) ≡ rest
  behind-of front rest h k = drop_at front rest (prefix_len p (front ++ rest)) (sym (prefix_len-of_run front rest h k))

  -- what passes another test too at its front
  pub begins_run : (q : ℕ → Bool) (b : ℕ) (bs : List ℕ) → p b ≡ true → q b ≡ true → begins q (run p (b ∷ bs)) ≡ true
  begins_run q b bs h k = rw (h, one-add) k

  pub list_all-append : (front rest : List ℕ) → list_all p front ≡ true → list_all p rest ≡ true → list_all p (front ++ rest) ≡ true
  list_all-append [] rest h k = k
  list_all-append (b ∷ front) rest h k = let t = both (p b) (list_all p front) h in rw t.0 (list_all-append front rest t.1 k)
