use Rattle.std.proofs.Common.{ap, ◌∙◌}
use Rattle.row_store.specs.Store.{Contents, has_table}
use Rattle.sql_examples.proofs.StoreLemmas.{still_there}
use Rattle.sql_examples.proofs.rows.make.Goals as goal

pub returns : goal.returns
returns c = ap (λ (s : Contents). has_table s.rows c.args.table.now) c.in_ok-apply.ensures.ok ∙ still_there c.args.store.now.rows c.as_slice.result.now c.args.table.now ∙ c.requires.table
