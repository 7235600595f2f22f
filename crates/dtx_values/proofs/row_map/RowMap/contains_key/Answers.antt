use Rattle.std.proofs.Common.{ap, ◌∙◌, is_some}
use Rattle.std.specs.FinMap as map
use Rattle.dtx_values.proofs.RowLookups.{get_derived}
use Rattle.dtx_values.proofs.row_map.RowMap.contains_key.Goals as goal

pub returns : goal.returns
returns c = c.contains_key.ensures ∙ ap is_some (get_derived c.self.inside.rows.entries c.args.key.now ∙ ap (λ m. map.get m c.args.key.now) c.self.view_is)
