-- What a run prints.
use Rattle.std.specs.Prelude.{ℕ, Bool, List, [], ◌++◌, if◌then◌else◌}
use Rattle.book.specs.Texts.{book_text}
use Rattle.report.specs.Report.{report, printed}
use Rattle.run_rules.specs.Scripts.{names_asked}
use Rattle.script_run.specs.declared.outcome.Run.{Run}

-- what a run prints: the report of its answers, and then the book where that is wanted
abbrev pub output_of : Bool → Run → List ℕ
output_of with_book run = printed (report run.answers) ++ (if with_book then book_text (names_asked run.commands) run.book else [])
