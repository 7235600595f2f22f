use Rattle.std.proofs.Common.{ap, ◌∙◌}
use Rattle.std.specs.FinMap as map
use Rattle.dtx_values.proofs.RowLookups.{insert_derived}
use Rattle.dtx_values.proofs.row_map.RowMap.insert.Goals as goal

pub returns-clause-ok : goal.returns-clause-ok
returns-clause-ok c =
    insert_derived c.self.inside.rows.entries c.insert.new.self.entries c.args.key c.args.row c.in_ok-insert.ensures.updates.0
    ∙ ap (λ m. map.insert m c.args.key c.args.row) c.self.view_is
