use Rattle.std.proofs.Common.{◌≡◌, ◌++◌, take}
use Rattle.std.specs.List.{flat_map}
use Rattle.chart_text.specs.Layout.{band_line}
use Rattle.chart_text.proofs.bands.put_band_lines.Given as goal

abbrev pub invariant-loop-band : goal.invariant-loop-band
invariant-loop-band l = l.shapes.items ≡ l.initial.shapes.items ++ flat_map (band_line l.window l.lanes) (take l.band-index l.bands)
