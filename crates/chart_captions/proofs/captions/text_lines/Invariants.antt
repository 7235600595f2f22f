-- The lines so far, and the rest of the text, give all lines.
use Rattle.std.proofs.Common.{◌≡◌, drop}
use Rattle.chart_captions.specs.Lines.{broken_on, nothing_broken}
use Rattle.chart_captions.proofs.captions.text_lines.Given as goal

abbrev pub invariant-loop-byte : goal.invariant-loop-byte
invariant-loop-byte l = broken_on l.broken (drop l.byte-index l.text) ≡ broken_on nothing_broken l.text
