-- What is drawn of a run.
use Rattle.std.specs.Prelude.{ℕ, if◌then◌else◌, List}
use Rattle.script_read.specs.Sound.{names_in}
use Rattle.script_run.specs.declared.outcome.Run.{Run}
use Rattle.chart_marks.specs.declared.mark.Marks.{Marks}
use Rattle.chart_marks.specs.Marks.{marks_of}
use Rattle.chart_captions.specs.Tale.{tale_from}
use Rattle.chart_text.specs.Window.{window_of}
use Rattle.chart_text.specs.Plain.{text_of}
use Rattle.chart_text.specs.Svg.{svg_of}
use Rattle.chart_words.specs.declared.Choices.{Choices}

-- the marks of a run, over the nodes that its script makes
unfoldable pub marks_in : Run → Marks
marks_in run = marks_of (names_in run.commands) (tale_from (names_in run.commands) run.answers 1 run.commands) run.trace

-- marks as text, as it is wanted
abbrev pub drawn : Choices → Marks → List ℕ
drawn w m = if w.text then text_of (window_of m w.first w.last) m else svg_of (window_of m w.first w.last) m

-- the picture of a run
unfoldable pub picture_of : Choices → Run → List ℕ
picture_of w run = drawn w (marks_in run)
