-- What is printed of the run of a made script.
use Rattle.std.specs.Prelude.{ℕ, zero, suc, ◌+◌, ◌-◌, ◌==◌, ◌&&◌, ◌||◌, pos, Bool, true, false, List, [], ◌∷◌, ◌++◌, length, drop, count_by, sum_by, slice_get, Option, Some, None, codes, decimal, if◌then◌else◌}
use Rattle.std.specs.List.{list_any}
use Rattle.std.specs.Option.{option_map_or}
use Rattle.dtx_values.specs.declared.answer.Answer.TheVariants as answers
use Rattle.dtx_values.specs.declared.answer.Done.{Done}
use Rattle.dtx_values.specs.declared.answer.Done.TheVariants.{Committed}
use Rattle.dtx_values.specs.declared.row.Row.{Row}
use Rattle.dtx_values.specs.declared.value.Value.{Value}
use Rattle.dtx_values.specs.declared.value.Value.TheVariants as values
use Rattle.sql_statement.specs.declared.statement.Stmt.{Stmt}
use Rattle.sql_statement.specs.declared.statement.Stmt.TheVariants as statements
use Rattle.script_read.specs.declared.command.Command.{Command}
use Rattle.script_read.specs.declared.command.Command.TheVariants as commands
use Rattle.book.specs.declared.entry.Entry.{Entry}
use Rattle.book.specs.declared.entry.Entry.TheVariants as entries
use Rattle.book.specs.declared.line.AnswerLine.{AnswerLine}
use Rattle.book.specs.declared.line.Said.{Said}
use Rattle.book.specs.declared.line.Said.TheVariants as saids
use Rattle.make_script.specs.declared.counting.CommitEnd.{CommitEnd}
use Rattle.make_script.specs.declared.counting.CommitEnd.TheVariants as ends
use Rattle.make_script.specs.declared.counting.EntryKind.{EntryKind}
use Rattle.make_script.specs.declared.counting.EntryKind.TheVariants as kinds

-- ---- COMMITs

-- COMMIT is asked for
abbrev pub commits : Option Stmt → Bool
commits (Some (statements.Commit comment)) = true
commits _ = false

-- the command is a COMMIT
abbrev pub is_commit : Command → Bool
is_commit (commands.At node session statement) = commits statement
is_commit _ = false

-- what was done is a commit
abbrev pub is_committed : Done → Bool
is_committed Committed = true
is_committed _ = false

-- ORA-02053 or ORA-02054: the transaction is in doubt at some node
abbrev pub is_doubt : ℕ → Bool
is_doubt code = code == 2053 || code == 2054

-- an answer says that a COMMIT ended so
abbrev pub ends_so : CommitEnd → Said → Bool
ends_so ends.Complete (saids.Node (answers.Did done rows)) = is_committed done
ends_so ends.InDoubt (saids.Node (answers.Refused refusal)) = is_doubt refusal.code
ends_so end said = false

-- the command of this number was answered so
abbrev pub is_answered : CommitEnd → List AnswerLine → ℕ → Bool
is_answered end lines number = list_any (λ line. line.command == number && ends_so end line.said) lines

-- the command at this place, from 0, is a COMMIT that was answered so
abbrev pub ends_at : CommitEnd → List Command → List AnswerLine → ℕ → Bool
ends_at end cs lines place = option_map_or is_commit (slice_get cs place) false && is_answered end lines (place + 1)

-- how many of the first commands are COMMITs that were answered so
abbrev pub commits_before : CommitEnd → List Command → List AnswerLine → ℕ → ℕ
commits_before end cs lines zero = 0
commits_before end cs lines (suc place) = commits_before end cs lines place + (if ends_at end cs lines place then 1 else 0)

-- how many commands are
abbrev pub commit_count : CommitEnd → List Command → List AnswerLine → ℕ
commit_count end cs lines = commits_before end cs lines (length cs)

-- ---- entries of the book

-- an entry is of this kind: a decision, a seal, or the end of a prepared branch
unfoldable pub is_of_kind : EntryKind → Entry → Bool
is_of_kind kinds.Decided (entries.Decided branch global changes scn) = true
is_of_kind kinds.Sealed (entries.Sealed branch global changes scn) = true
is_of_kind kinds.Ended (entries.Ended branch outcome) = true
is_of_kind kind entry = false

-- ---- rows

-- the number in a cell
abbrev pub number_in : List Value → ℕ
number_in (values.Number (pos n) ∷ []) = n
number_in _ = 0

-- the number that a query found, as a count of rows is
abbrev pub number_of : List Row → ℕ
number_of (row ∷ []) = number_in row.cells
number_of _ = 0

-- the count that is told
abbrev pub count_in : Said → ℕ
count_in (saids.Node (answers.Found found)) = number_of found.rows
count_in _ = 0

-- the count that an answer tells
abbrev pub count_told : AnswerLine → ℕ
count_told line = count_in line.said

-- the counts of the last four answers, added up
abbrev pub pending_total : List AnswerLine → ℕ
pending_total lines = sum_by count_told (drop (length lines - 4) lines)

-- ---- the summary

-- a number with its name
abbrev pub count_line : List ℕ → ℕ → List ℕ
count_line name n = name ++ (codes " " ++ (decimal n ++ codes "\n"))

-- the summary of the run of the script of a number, at whose end so many rows of pending transactions stand
unfoldable pub summary_of : ℕ → List Command → List AnswerLine → List Entry → ℕ → List ℕ
summary_of number cs lines book pending =
    count_line (codes "make") number
    ++ (count_line (codes "commands") (length cs)
    ++ (count_line (codes "complete") (commit_count ends.Complete cs lines)
    ++ (count_line (codes "in-doubt") (commit_count ends.InDoubt cs lines)
    ++ (count_line (codes "decided") (count_by (is_of_kind kinds.Decided) book)
    ++ (count_line (codes "sealed") (count_by (is_of_kind kinds.Sealed) book)
    ++ (count_line (codes "ended") (count_by (is_of_kind kinds.Ended) book)
    ++ (count_line (codes "pending") pending
    ++ count_line (codes "rows") (pending_total lines))))))))
