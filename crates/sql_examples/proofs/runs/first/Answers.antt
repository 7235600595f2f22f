use Rattle.sql_examples.proofs.Staff.{seen_at_first}
use Rattle.sql_examples.proofs.runs.first.Goals as goal

pub run-requires-clause-rows : goal.run-requires-clause-rows
run-requires-clause-rows c = seen_at_first c.args.table.now c.args.store.now _ c.requires.owns c.requires.rows
