-- What a branch notes of its statements and calls, its savepoints, and what going back to a step leaves of them. (SQL
-- Language Reference: SAVEPOINT, ROLLBACK. That a savepoint is one of the whole session tree is dtx's own.)
use Rattle.std.specs.Prelude.{ℕ, ◌&&◌, not, Bool, List, [], ◌∷◌, ◌++◌, filter, find, sum_by, nat_le, option_map, Option}
use Rattle.std.specs.List.{list_any}
use Rattle.std.specs.Str.{bytes_eq}
use Rattle.dtx_values.specs.declared.value.Value.{Value}
use Rattle.dtx_values.specs.Order.{same_value}
use Rattle.savepoints.specs.declared.marks.RowKey.{RowKey}
use Rattle.savepoints.specs.declared.marks.Note.{Note}
use Rattle.savepoints.specs.declared.marks.Savepoint.{Savepoint}
use Rattle.savepoints.specs.declared.marks.Marks.{Marks}

-- nothing was noted, and no savepoint is set
abbrev pub no_marks : Marks
no_marks = record { notes = []; savepoints = [] }

-- with one more note, behind the others
abbrev pub with_note : Marks → Note → Marks
with_note m n = record m { notes = m.notes ++ n ∷ [] }

-- ---- savepoints

-- whether a savepoint has this name
abbrev pub has_name : List ℕ → Savepoint → Bool
has_name name s = bytes_eq s.name name

-- a savepoint is set at a step, in the place of one of its name
abbrev pub with_savepoint : Marks → List ℕ → ℕ → Marks
with_savepoint m name step = record m { savepoints = filter (λ s. not (has_name name s)) m.savepoints ++ (record { name = name; step = step }) ∷ [] }

-- the step of a savepoint, where one of this name is set
abbrev pub savepoint_at : Marks → List ℕ → Option ℕ
savepoint_at m name = option_map (λ s. s.step) (find (has_name name) m.savepoints)

-- ---- going back to a step

-- whether a note is of this step or an earlier one
abbrev pub is_until : ℕ → Note → Bool
is_until step n = nat_le n.step step

-- the notes of this step and earlier ones
abbrev pub notes_until : Marks → ℕ → List Note
notes_until m step = filter (is_until step) m.notes

-- later notes and later savepoints are dropped
abbrev pub back_to : Marks → ℕ → Marks
back_to m step = record { notes = notes_until m step; savepoints = filter (λ s. nat_le s.step step) m.savepoints }

-- how many lists of changes were made in later steps
abbrev pub sets_behind : Marks → ℕ → ℕ
sets_behind m step = sum_by (λ n. n.sets) (filter (λ n. not (is_until step n)) m.notes)

-- the call numbers of the last of these notes, or else these
abbrev pub calls_in : List ℕ → List Note → List ℕ
calls_in calls [] = calls
calls_in calls (n ∷ ns) = calls_in n.calls ns

-- the call numbers that were noted last up to a step, none before any note
abbrev pub calls_until : Marks → ℕ → List ℕ
calls_until m step = calls_in [] (notes_until m step)

-- ---- written keys

-- whether this is the key of the table
abbrev pub is_key : List ℕ → Value → RowKey → Bool
is_key table key k = bytes_eq k.table table && same_value k.key key

-- whether a note has this key
abbrev pub wrote : Marks → List ℕ → Value → Bool
wrote m table key = list_any (λ n. list_any (is_key table key) n.keys) m.notes
