-- Marks, tried: a branch that ran statements at the steps 1, 2 and 3 and set a savepoint at the step 2 goes back to it.
use Rattle.std.specs.Prelude.{◌≡◌, ℕ, true, false, [], ◌∷◌, codes, map, pos, None, Some}
use Rattle.dtx_values.specs.declared.value.Value.TheVariants as values
use Rattle.savepoints.specs.declared.marks.Note.{Note}
use Rattle.savepoints.specs.declared.marks.Marks.{Marks}
use Rattle.savepoints.specs.Marks.{no_marks, with_note, with_savepoint, savepoint_at, back_to, sets_behind, calls_until, wrote}

-- a statement at this step that wrote the key of this number, after so many calls over the first edge
abbrev pub note : ℕ → ℕ → ℕ → Note
note step n calls = record { step = step; sets = 1; keys = record { table = codes "T"; key = values.Number (pos n) } ∷ []; calls = calls ∷ [] }

-- three statements, with a savepoint behind the second
abbrev pub marks : Marks
marks = with_note (with_savepoint (with_note (with_note no_marks (note 1 1 0)) (note 2 2 1)) (codes "S") 2) (note 3 1 2)

-- the statement of the savepoint's own step stays, and the later one goes
pub record TheTriedMarks : Type 0 where
  pub at : savepoint_at marks (codes "S") ≡ Some 2
  pub stay : map (λ n. n.step) (back_to marks 2).notes ≡ 1 ∷ 2 ∷ []
  pub kept : savepoint_at (back_to marks 2) (codes "S") ≡ Some 2
  pub dropped : savepoint_at (back_to marks 1) (codes "S") ≡ None
  pub behind : sets_behind marks 2 ≡ 1
  pub calls : calls_until marks 2 ≡ 1 ∷ []
  pub first : wrote (back_to marks 2) (codes "T") (values.Number (pos 1)) ≡ true
  pub second : wrote (back_to marks 1) (codes "T") (values.Number (pos 2)) ≡ false
