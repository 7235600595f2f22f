-- SHOW UNDO: what branches hold at a node, and how it is printed. The layout is dtx's own.
use Rattle.std.specs.Prelude.{ℕ, ◌==◌, Bool, not, List, [], ◌∷◌, ◌++◌, map, filter, flat_map, fold, length, codes}
use Rattle.dtx_values.specs.declared.row.Change.{Change}
use Rattle.tran_ids.specs.declared.branch.BranchId.{BranchId}
use Rattle.tran_ids.specs.Branch.{put_by_branch}
use Rattle.tran_ids.specs.Numbers.{decimal}
use Rattle.tran_ids.specs.Texts.{local_text}
use Rattle.field_codec.specs.Change.{change_format}
use Rattle.row_store.specs.declared.pending.Owned.{Owned}
use Rattle.row_store.specs.declared.pending.Doubt.{Doubt}
use Rattle.row_store.specs.Own.{changes_length, extents}
use Rattle.row_store.specs.Store.{undo_held_in, holders}
use Rattle.report.specs.Bytes.{byte_lines}
use Rattle.undo_view.specs.declared.undo.Undo.{Undo}

-- what a branch holds whose undo this is: its changes, each with the row from before it
abbrev pub held : BranchId → List Change → Undo
held b undo = record { branch = b; extents = extents (changes_length undo); bytes = flat_map change_format.text undo }

-- whether there is any
abbrev pub has_bytes : Undo → Bool
has_bytes u = not (length u.bytes == 0)

-- the branches in the order of boot, session, seq
abbrev pub in_order : List BranchId → List BranchId
in_order bs = fold (put_by_branch (λ b. b)) [] bs

-- what the branches of a node hold that hold undo, in that order
unfoldable pub undo_rows : List Owned → List Doubt → List Undo
undo_rows owns doubts = filter has_bytes (map (λ b. held b (undo_held_in owns doubts b)) (in_order (holders owns doubts)))

-- a branch, and the extents that it holds
abbrev pub head_line : Undo → List ℕ
head_line u = local_text u.branch ++ codes " " ++ decimal u.extents

-- the same, and its bytes
abbrev pub held_lines : Undo → List (List ℕ)
held_lines u = head_line u ∷ byte_lines u.bytes

-- all of them, or that there is none
abbrev pub undo_lines : List Undo → List (List ℕ)
undo_lines [] = codes "no undo" ∷ []
undo_lines (u ∷ us) = flat_map held_lines (u ∷ us)

-- SHOW UNDO, printed
abbrev pub undo_view : List Owned → List Doubt → List (List ℕ)
undo_view owns doubts = undo_lines (undo_rows owns doubts)
