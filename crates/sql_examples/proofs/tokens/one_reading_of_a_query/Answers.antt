use Rattle.sql_examples.proofs.QueryLaws.{query_exact}
use Rattle.sql_examples.proofs.tokens.one_reading_of_a_query.Goals as goal

pub one_reading-requires : goal.one_reading-requires
one_reading-requires c = query_exact
