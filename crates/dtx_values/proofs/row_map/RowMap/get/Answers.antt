use Rattle.std.proofs.Common.{ap, ◌∙◌}
use Rattle.std.specs.FinMap as map
use Rattle.dtx_values.proofs.RowLookups.{get_derived}
use Rattle.dtx_values.proofs.row_map.RowMap.get.Goals as goal

pub returns : goal.returns
returns c = c.get.ensures.value ∙ get_derived c.self.inside.rows.entries c.args.key.now ∙ ap (λ m. map.get m c.args.key.now) c.self.view_is
