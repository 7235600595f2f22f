use Rattle.std.proofs.Common.{List, ap, ◌∙◌}
use Rattle.dtx_values.specs.declared.row.Change.{Change}
use Rattle.row_store.specs.Tables.{apply_all}
use Rattle.row_store.specs.Store.{Contents}
use Rattle.sql_examples.proofs.Staff.{rows_of_changes}
use Rattle.sql_examples.proofs.runs.store_with.Goals as goal

pub returns-in-Ok-clause-rows : goal.returns-in-Ok-clause-rows
returns-in-Ok-clause-rows c =
    rows_of_changes c.args.table.now c.args.rows.now c.apply.new.self.rows c.requires
    (ap (λ (s : Contents). s.rows) c.in-Ok.ensures.ok
    ∙ (ap (λ (cs : List Change). apply_all c.in_ok-store.store.rows cs) c.as_slice.ensures
    ∙ ap (λ (s : Contents). apply_all s.rows c.args.rows.now) c.in_ok-store.ensures.made))
