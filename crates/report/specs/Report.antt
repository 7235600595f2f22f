-- The report of a run: the answers of its commands, each line with its command's number in front. The layout is dtx's
-- own.
use Rattle.std.specs.Prelude.{ℕ, List, ◌++◌, map, flat_map, codes}
use Rattle.tran_ids.specs.Numbers.{decimal}
use Rattle.book.specs.declared.line.Said.{Said}
use Rattle.book.specs.declared.line.Said.TheVariants as said
use Rattle.book.specs.declared.line.AnswerLine.{AnswerLine}
use Rattle.book.specs.Texts.{ended_line}
use Rattle.report.specs.Answers.{answer_text, notice_text}

-- the lines of an answer
abbrev pub said_text : Said → List (List ℕ)
said_text (said.Node answer) = answer_text answer
said_text (said.World notice) = notice_text notice

-- a line with its command's number in front
abbrev pub numbered : ℕ → List ℕ → List ℕ
numbered command text = decimal command ++ codes " " ++ text

-- the lines of an answer, each with its command's number
abbrev pub line_text : AnswerLine → List (List ℕ)
line_text l = map (numbered l.command) (said_text l.said)

-- all lines of a report
unfoldable pub report : List AnswerLine → List (List ℕ)
report ls = flat_map line_text ls

-- lines as they are printed, each with its line feed
abbrev pub printed : List (List ℕ) → List ℕ
printed lines = flat_map ended_line lines
