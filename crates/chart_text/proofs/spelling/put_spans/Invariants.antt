use Rattle.std.proofs.Common.{◌≡◌, ◌++◌, take}
use Rattle.std.specs.List.{flat_map}
use Rattle.chart_text.specs.Svg.{span_svg}
use Rattle.chart_text.proofs.spelling.put_spans.Given as goal

abbrev pub invariant-loop-line : goal.invariant-loop-line
invariant-loop-line l = l.out.items ≡ l.initial.out.items ++ flat_map (span_svg l.x) (take l.line-index l.lines)
