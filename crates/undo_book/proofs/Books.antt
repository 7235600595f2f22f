-- Pools that hold undo: what an owner has after a call, and that the others have what they had.
use Rattle.std.proofs.Common.{◌≡◌, ◌==◌, ◌+◌, Bool, true, false, ℕ, List, length, refl, sym, ap, subst, arith}
use Rattle.std.proofs.lemmas.Bool.{eq-eqb, eqb-true}
use Rattle.dtx_values.specs.declared.row.Change.{Change}
use Rattle.undo_pool.specs.Pool.{PoolState, bytes_of, extents, extents_of, OthersStay as OthersStayThere}
use Rattle.undo_book.specs.Undo.{changes_in, AreBytesOf, IsUndo, undo_of, HoldUndo, undo_extents, OthersStay}
use Rattle.undo_book.proofs.UndoLaws.{say, is_undo}

-- an owner's undo takes the extents that the owner has
pub taken : (p : PoolState) → HoldUndo p → (o : ℕ) → undo_extents (undo_of p o) ≡ extents_of p o
taken p held o = ap (λ (b : List ℕ). extents (length b)) (sym (held o).spelled)

module _ (p q : PoolState) (o : ℕ) (held : HoldUndo p) (cs : List Change) (are : AreBytesOf cs (bytes_of q o)) (others : OthersStayThere p q o) where
  pub undo_is : undo_of q o ≡ cs
  undo_is = say (bytes_of q o) cs are

  pub hold : HoldUndo q
  hold other = go (other == o) refl where
    go : (b : Bool) → (other == o) ≡ b → IsUndo (bytes_of q other)
    go true same = subst (λ (n : ℕ). IsUndo (bytes_of q n)) (sym (eqb-true other o same)) (is_undo (bytes_of q o) cs are)
    go false differs =
        let is_other : other ≡ o → ⊥ = λ same. absurd (cc (eq-eqb other o same, differs)) in
        subst IsUndo (sym (others other is_other)) (held other)

  pub others_stay : OthersStay p q o
  others_stay other is_other = ap changes_in (others other is_other)

  pub free_too : q.free + extents_of q o ≡ p.free + extents_of p o → q.free + undo_extents (undo_of q o) ≡ p.free + undo_extents (undo_of p o)
  free_too is = omega (arith, is, taken p held o, taken q hold o)
