use Rattle.sql_examples.proofs.QueryLaws.{query_exact}
use Rattle.sql_examples.proofs.tokens.read_query.Goals as goal

pub read_text-requires : goal.read_text-requires
read_text-requires c = query_exact
