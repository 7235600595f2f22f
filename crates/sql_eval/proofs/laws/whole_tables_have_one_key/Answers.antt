use Rattle.sql_eval.proofs.TableLaws.{whole_tables_have_one_key}
use Rattle.sql_eval.proofs.laws.whole_tables_have_one_key.Goals as goal

pub returns : goal.returns
returns c = whole_tables_have_one_key
