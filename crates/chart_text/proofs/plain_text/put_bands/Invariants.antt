use Rattle.std.proofs.Common.{◌≡◌, ◌++◌, take}
use Rattle.std.specs.List.{flat_map}
use Rattle.chart_text.specs.Plain.{band_in}
use Rattle.chart_text.proofs.plain_text.put_bands.Given as goal

abbrev pub invariant-loop-band : goal.invariant-loop-band
invariant-loop-band l = l.out.items ≡ l.initial.out.items ++ flat_map (band_in l.row) (take l.band-index l.bands)
