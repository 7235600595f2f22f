-- The lines so far, and the rest of the word, give all lines.
use Rattle.std.proofs.Common.{◌≡◌, drop}
use Rattle.chart_captions.specs.Lines.{with_cut}
use Rattle.chart_captions.proofs.broken.cut_word.Given as goal

abbrev pub invariant-loop-byte : goal.invariant-loop-byte
invariant-loop-byte l = with_cut l.lines.items l.line.items (drop l.byte-index l.word) ≡ with_cut l.initial.lines.items l.initial.line.items l.word
