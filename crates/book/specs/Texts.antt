-- How the book is printed. The layout is dtx's own.
use Rattle.std.specs.Prelude.{ℕ, Bool, if◌then◌else◌, List, [], ◌∷◌, ◌++◌, map, flat_map, length, codes}
use Rattle.book.specs.Data.{Change, Table, BranchId, Decision, Entry}
use Rattle.book.specs.Data.decisions
use Rattle.book.specs.Data.entries
use Rattle.tran_ids.specs.Numbers.{decimal}
use Rattle.tran_ids.specs.Texts.{local_text, name_of, global_text}

-- a commit, with its SCN
abbrev pub commit_text : ℕ → List ℕ
commit_text scn = codes " commit scn " ++ decimal scn

-- an outcome
abbrev pub decision_text : Decision → List ℕ
decision_text (decisions.Commit scn) = commit_text scn
decision_text decisions.Rollback = codes " rollback"

-- whether the decision differs from the forced outcome
abbrev pub mixed_text : Bool → List ℕ
mixed_text mixed = if mixed then codes " mixed yes" else codes " mixed no"

-- a branch, by its node's name and its local id
abbrev pub branch_text : List (List ℕ) → BranchId → List ℕ
branch_text names b = name_of names b.node ++ codes " " ++ local_text b

-- a table, by the name of its node and its own name
abbrev pub table_text : List (List ℕ) → ℕ → Table → List ℕ
table_text names n t = name_of names n ++ codes " " ++ t.name

-- a sealed or decided branch: its transaction's global id, its SCN, and the number of its changes
abbrev pub changes_text : List (List ℕ) → BranchId → BranchId → List Change → ℕ → List ℕ
changes_text names b g cs scn =
    branch_text names b ++ codes " " ++ global_text names g ++ codes " scn " ++ decimal scn ++ codes " changes " ++ decimal (length cs)

-- a branch and its outcome
abbrev pub outcome_text : List (List ℕ) → BranchId → Decision → List ℕ
outcome_text names b d = branch_text names b ++ decision_text d

-- what happened
abbrev pub verb : Entry → List ℕ
verb (entries.Made n t) = codes "made "
verb (entries.Sealed b g cs scn) = codes "sealed "
verb (entries.Decided b g cs scn) = codes "decided "
verb (entries.Ended b d) = codes "ended "
verb (entries.Forced b d) = codes "forced "
verb (entries.Met b d mixed) = codes "met "

-- what it happened to
abbrev pub object_text : List (List ℕ) → Entry → List ℕ
object_text names (entries.Made n t) = table_text names n t
object_text names (entries.Sealed b g cs scn) = changes_text names b g cs scn
object_text names (entries.Decided b g cs scn) = changes_text names b g cs scn
object_text names (entries.Ended b d) = outcome_text names b d
object_text names (entries.Forced b d) = outcome_text names b d
object_text names (entries.Met b d mixed) = outcome_text names b d ++ mixed_text mixed

-- an entry
abbrev pub entry_text : List (List ℕ) → Entry → List ℕ
entry_text names e = verb e ++ object_text names e

-- the book, a line for each entry
abbrev pub book_lines : List (List ℕ) → List Entry → List (List ℕ)
book_lines names es = map (entry_text names) es

-- the book as SHOW BOOK prints it: where it has no entry, a line says so
abbrev pub shown_book : List (List ℕ) → List Entry → List (List ℕ)
shown_book names [] = codes "no entries" ∷ []
shown_book names (e ∷ es) = book_lines names (e ∷ es)

-- a line, with its line feed
abbrev pub ended_line : List ℕ → List ℕ
ended_line line = line ++ 10 ∷ []

-- the book as it is printed after a report: nothing where it has no entry
abbrev pub book_text : List (List ℕ) → List Entry → List ℕ
book_text names es = flat_map ended_line (book_lines names es)
